use Rattle.i8259a_controller.proofs.Signals.{signals}
use Rattle.i8259a_controller.proofs.unit.I8259aControllerController.signal.Goals as goal

pub returns : goal.returns
returns c sound = signals c.args.self.now.chip sound c.signal.result c.signal.ensures
