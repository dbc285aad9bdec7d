use Rattle.std.proofs.Common.{◌≡◌, rules}
use Rattle.arbiter.specs.Winning.{Winner}
use Rattle.arbiter.specs.Matches.{leaf_of}
use Rattle.arbiter.proofs.Winners.{whole, one-winner}
use Rattle.arbiter.proofs.tree.winner.Goals as goal

pub returns : goal.returns
returns g c =
    let leq = g.K.Key.leq in
    let leaves = c.args.leaves.now in
    let is : c.map.result ≡ leaf_of c.best.result = search rules in
    let wins : Winner leq leaves c.map.result = rw is (whole leq leaves c.best.result c.best.ensures) in
    record { wins = wins; alone = λ other w. one-winner leq leaves other _ w wins }
