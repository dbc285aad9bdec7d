use Rattle.std.proofs.Common.{true, rules}
use Rattle.plic_controller.proofs.Calls.{enable-leaves, opens}
use Rattle.plic_controller.proofs.unit.PlicControllerController.open.Goals as goal

pub returns-clause-rule : goal.returns-clause-rule
returns-clause-rule c = λ sound.
    let p = c.args.self.now.chip in
    let q = c.set_enabled.new.chip in
    let x = c.in_ok-line.field-0 in
    let lined = c.in_ok-line.ensures in
    opens p c.args.n sound x lined q (enable-leaves p c.args.n sound x lined q true (search rules))
