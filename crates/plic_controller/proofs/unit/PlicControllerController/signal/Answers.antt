use Rattle.std.proofs.Common.{rules}
use Rattle.plic_controller.proofs.Readiness.{signals}
use Rattle.plic_controller.proofs.unit.PlicControllerController.signal.Goals as goal

pub returns : goal.returns
returns c sound = signals c.args.self.now.chip sound _ (search rules)
