use Rattle.i8259a_controller.proofs.Calls.{takes}
use Rattle.i8259a_controller.proofs.unit.I8259aControllerController.take.Goals as goal

pub returns-clause-rule : goal.returns-clause-rule
returns-clause-rule c sound = takes c.args.self.now.chip c.take.new.chip c.take.result sound (c.take.ensures sound.set_up)
