use Rattle.std.proofs.Common.{◌≡◌, ◌∙◌, rules}
use Rattle.i8259a.proofs.Race.{wins}
use Rattle.i8259a.proofs.bits.lowest.Goals as goal

pub returns-clause-value : goal.returns-clause-value
returns-clause-value c =
    let same : c.map.result ≡ c.winner.result = search rules in
    same ∙ wins c.args.x c.levels.result c.levels.ensures c.winner.result c.winner.ensures.wins
