use Rattle.std.proofs.Common.{◌≡◌, sym, ◌∙◌, rules}
use Rattle.i8259a.specs.Chip.{risen}
use Rattle.i8259a_controller.proofs.Calls.{rises, of_a_line}
use Rattle.i8259a_controller.proofs.unit.I8259aControllerController.rise.Goals as goal

pub returns-clause-rule : goal.returns-clause-rule
returns-clause-rule c sound =
    let chip = c.args.self.now.chip in
    let is : c.rise.new.self ≡ risen chip c.args.n = search rules in
    rises chip c.args.n sound (of_a_line c.args.n _ _ (sym c.rise.ensures.answer ∙ c.in_ok-rise.was)) c.rise.new.self c.shown-line.result c.rise_answer.result is c.shown-line.ensures.marks c.rise_answer.ensures
