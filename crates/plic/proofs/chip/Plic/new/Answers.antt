use Rattle.plic.proofs.ChipLaws.{chip-laws}
use Rattle.plic.proofs.chip.Plic.new.Goals as goal

pub returns-clause-laws : goal.returns-clause-laws
returns-clause-laws g c = chip-laws g.row.N
