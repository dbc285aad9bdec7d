use Rattle.std.proofs.Common.{rules}
use Rattle.plic_controller.proofs.Calls.{fall-leaves, falls}
use Rattle.plic_controller.proofs.unit.PlicControllerController.fall.Goals as goal

pub returns-clause-rule : goal.returns-clause-rule
returns-clause-rule c = λ sound.
    let p = c.args.self.now.chip in
    let q = c.fall.new.self in
    let x = c.in_ok-line.field-0 in
    let lined = c.in_ok-line.ensures in
    falls p c.args.n sound x lined q (fall-leaves p c.args.n sound x lined q c.fall.result (search rules))
