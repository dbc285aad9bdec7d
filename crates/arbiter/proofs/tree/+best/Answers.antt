use Rattle.std.proofs.Common.{◌+◌, ◌/◌, [], ◌∷◌, length, refl, arith}
use Rattle.arbiter.proofs.Halves.{halves, pair}
use Rattle.arbiter.proofs.tree.+best.Goals as goal

pub returns-in-len2 : goal.returns-in-len2
returns-in-len2 g t c =
    let two = pair c.left-item.result c.right-item.result c.args.leaves.now c.in-len2.len_at_least c.in-len2.len_below c.left-item.is c.right-item.is in
    let both = halves g.K.Key.leq g.met.K.Key.total g.met.K.Key.transitive (c.left-item.result ∷ c.right-item.result ∷ []) 1 (omega arith) c.args.from (c.args.from + 1) refl in
    rw two (rw c.play.ensures (both _ _ c.contend-in-len2.ensures c.contend-in-len2-2.ensures))

pub returns-in_default : goal.returns-in_default
returns-in_default g t c =
    let leaves = c.args.leaves.now in
    let start = c.args.from + length c.split_at.result.0.now in
    let both = halves g.K.Key.leq g.met.K.Key.total g.met.K.Key.transitive leaves (length leaves / 2) (omega arith) c.args.from start (omega arith) c.best.result c.best-in_default.result in
    rw c.play-in_default.ensures (both (rw (← c.split_at.ensures.front) c.best.ensures) (rw (← c.split_at.ensures.back) c.best-in_default.ensures))
