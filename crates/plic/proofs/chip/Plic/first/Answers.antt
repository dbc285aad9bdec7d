use Rattle.plic.proofs.Race.{firsts}
use Rattle.plic.proofs.chip.Plic.first.Goals as goal

pub returns : goal.returns
returns g c =
    firsts g.row.N c.args.self.now c.leaves.result c.leaves.ensures c.winner.result c.winner.ensures.wins
