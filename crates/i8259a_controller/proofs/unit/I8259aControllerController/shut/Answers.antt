use Rattle.std.proofs.Common.{◌≡◌, true, false, Err, sym, rules}
use Rattle.controller.specs.declared.refusal.Refusal.TheVariants.{InService}
use Rattle.controller.specs.Rules.{Shuts}
use Rattle.i8259a.specs.Bits.{with}
use Rattle.i8259a.specs.Chip.{with_imr}
use Rattle.i8259a_controller.specs.Told.{has, meant}
use Rattle.i8259a_controller.proofs.Calls.{shuts, shut-refused, unmoved, of_a_line}
use Rattle.i8259a_controller.proofs.unit.I8259aControllerController.shut.Goals as goal

pub returns-clause-rule : goal.returns-clause-rule
returns-clause-rule c sound =
    let chip = c.args.self.now.chip in
    let level = of_a_line c.args.n _ _ (sym c.in_ok-level.ensures) in
    let out : has chip.isr c.args.n ≡ false = sym c.if-shows.ensures.answer in
    let is : c.set_masked.new.chip ≡ with_imr chip (with chip.imr c.args.n) = search rules in
    shuts chip c.args.n sound level c.set_masked.new.chip out is

pub returns-then-shows-clause-rule : goal.returns-then-shows-clause-rule
returns-then-shows-clause-rule c sound =
    let chip = c.args.self.now.chip in
    let level = of_a_line c.args.n _ _ (sym c.in_ok-level.ensures) in
    let on : has chip.isr c.args.n ≡ true = sym c.if-shows.ensures.answer in
    unmoved chip c.shows.new.self (Shuts (meant chip) c.args.n (Err InService)) c.shows.ensures.after sound (shut-refused chip c.args.n sound level on)
