use Rattle.std.proofs.Common.{◌≡◌, sym, ◌∙◌, rules}
use Rattle.i8259a_controller.specs.Levels.{newest-lowest}
use Rattle.i8259a_controller.proofs.unit.I8259aControllerController.newest.Goals as goal

pub returns-clause-answer : goal.returns-clause-answer
returns-clause-answer c sound =
    let same : c.map.result ≡ c.newest.result = search rules in
    same ∙ c.newest.ensures.answer ∙ sym (newest-lowest c.args.self.now.chip.isr)
