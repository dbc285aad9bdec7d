use Rattle.std.proofs.Common.{◌≡◌, sym, ◌∙◌, rules}
use Rattle.i8259a.specs.Chip.{fallen}
use Rattle.i8259a_controller.proofs.Calls.{falls, of_a_line}
use Rattle.i8259a_controller.proofs.unit.I8259aControllerController.fall.Goals as goal

pub returns-clause-rule : goal.returns-clause-rule
returns-clause-rule c sound =
    let chip = c.args.self.now.chip in
    let is : c.fall.new.self ≡ fallen chip c.args.n = search rules in
    falls chip c.args.n sound (of_a_line c.args.n _ _ (sym c.fall.ensures.answer ∙ c.in_ok-fall.was)) c.fall.new.self c.shown-line.result c.fall_answer.result is c.shown-line.ensures.marks c.fall_answer.ensures
