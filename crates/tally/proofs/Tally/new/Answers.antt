use Rattle.tally.proofs.Keeping.{tally-law}
use Rattle.tally.proofs.Tally.new.Goals as goal

pub returns-clause-law : goal.returns-clause-law
returns-clause-law c = tally-law
