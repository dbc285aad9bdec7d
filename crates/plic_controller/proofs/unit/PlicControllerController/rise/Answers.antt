use Rattle.std.proofs.Common.{rules}
use Rattle.plic_controller.proofs.Calls.{rise-leaves, rises}
use Rattle.plic_controller.proofs.unit.PlicControllerController.rise.Goals as goal

pub returns-clause-rule : goal.returns-clause-rule
returns-clause-rule c = λ sound.
    let p = c.args.self.now.chip in
    let q = c.rise.new.self in
    let x = c.in_ok-gateway.gateway in
    let lined = c.in_ok-gateway.ensures in
    rises p c.args.n sound x lined q (rise-leaves p c.args.n sound x lined q c.rise.result (search rules)) _ (search rules)
