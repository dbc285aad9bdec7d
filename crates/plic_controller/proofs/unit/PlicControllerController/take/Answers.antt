use Rattle.std.proofs.Common.{rules}
use Rattle.plic_controller.proofs.Calls.{take-leaves, takes}
use Rattle.plic_controller.proofs.unit.PlicControllerController.take.Goals as goal

pub returns-clause-rule : goal.returns-clause-rule
returns-clause-rule c = λ sound.
    let p = c.args.self.now.chip in
    let q₁ = c.claim_signalled.new.chip in
    let q = c.follow.new.chip in
    let n = c.in_ok-n.n in
    takes p sound n q₁ c.in_ok-n.ensures q (take-leaves p sound n q₁ c.in_ok-n.ensures q (search rules))
