use Rattle.std.proofs.Common.{◌<◌, ◌≢◌, length, ap, ◌∙◌, arith, below_more}
use Rattle.std.proofs.lemmas.List.{length-set, get_or-set_same, get_or-set_other}
use Rattle.plic_controller.specs.Steps.{served_key}
use Rattle.plic_controller.proofs.serving.keys.Goals as goal

pub loop-n-preserved : goal.loop-n-preserved
loop-n-preserved c = (
  simp length-set c.loop-n.invariant.0,
  below_more _ _
      (λ k h. let ne : k ≢ c.loop-n.n = omega arith in rw get_or-set_other (c.loop-n.invariant.1 k h))
      (let lt : c.loop-n.n < length c.loop-n.leaf-items = omega (arith, c.loop-n.invariant.0) in
      rw get_or-set_same (c.key.ensures ∙ ap served_key c.gateway.ensures)),
)
