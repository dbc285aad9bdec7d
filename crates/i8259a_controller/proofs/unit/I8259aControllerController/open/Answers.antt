use Rattle.std.proofs.Common.{◌≡◌, sym, rules}
use Rattle.i8259a.specs.Bits.{without}
use Rattle.i8259a.specs.Chip.{with_imr}
use Rattle.i8259a_controller.proofs.Calls.{opens, of_a_line}
use Rattle.i8259a_controller.proofs.unit.I8259aControllerController.open.Goals as goal

pub returns-clause-rule : goal.returns-clause-rule
returns-clause-rule c sound =
    let chip = c.args.self.now.chip in
    let level = of_a_line c.args.n _ _ (sym c.in_ok-level.ensures) in
    let is : c.set_masked.new.chip ≡ with_imr chip (without chip.imr c.args.n) = search rules in
    opens chip c.args.n sound level c.set_masked.new.chip is
