use Rattle.std.proofs.Common.{◌≡◌, true, false, Err, sym, rules}
use Rattle.controller.specs.declared.refusal.Refusal.TheVariants.{NotNewest}
use Rattle.controller.specs.Rules.{Finishes}
use Rattle.i8259a.specs.Bits.{without, lowest}
use Rattle.i8259a.specs.Chip.{with_isr}
use Rattle.i8259a_controller.specs.Told.{has, meant}
use Rattle.i8259a_controller.specs.Steps.{is_atop, finish_answer}
use Rattle.i8259a_controller.proofs.Calls.{finishes, finish-refused, unmoved, of_a_line}
use Rattle.i8259a_controller.proofs.unit.I8259aControllerController.finish.Goals as goal

pub returns-clause-rule : goal.returns-clause-rule
returns-clause-rule c sound =
    let chip = c.args.self.now.chip in
    let level = of_a_line c.args.n _ _ (sym c.in_ok-level.ensures) in
    let top : is_atop (lowest chip.isr) c.args.n ≡ true = search rules in
    let is : c.end.new.chip ≡ with_isr chip (without chip.isr c.args.n) = search rules in
    let answers : c.accepted_if.result ≡ finish_answer (has chip.irr c.args.n) = search rules in
    finishes chip c.args.n sound level c.end.new.chip c.accepted_if.result top is answers

pub returns-then-ne-clause-rule : goal.returns-then-ne-clause-rule
returns-then-ne-clause-rule c sound =
    let chip = c.args.self.now.chip in
    let level = of_a_line c.args.n _ _ (sym c.in_ok-level.ensures) in
    let low : is_atop (lowest chip.isr) c.args.n ≡ false = search rules in
    unmoved chip c.newest.new.chip (Finishes (meant chip) c.args.n (Err NotNewest)) c.newest.ensures.after sound (finish-refused chip c.args.n sound level low)
