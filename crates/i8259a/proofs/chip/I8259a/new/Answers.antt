use Rattle.i8259a.proofs.ChipLaws.{chip-laws}
use Rattle.i8259a.proofs.chip.I8259a.new.Goals as goal

pub returns-clause-laws : goal.returns-clause-laws
returns-clause-laws c = chip-laws
