use Rattle.std.proofs.Common.{◌≡◌, cond, Some, None, Ok, subst, rules}
use Rattle.i8259a.specs.declared.chip.I8259a.{I8259a}
use Rattle.i8259a.specs.Signal.{Acknowledges}
use Rattle.i8259a_controller.specs.Steps.{believed}
use Rattle.i8259a_controller.proofs.Signals.{taking}
use Rattle.i8259a_controller.proofs.steps.take.Goals as goal

pub returns : goal.returns
returns c set_up =
    let chip = c.args.chip.now in
    let level = c.in_ok-level.level in
    let before = c.shows-before.result in
    let after = c.shows-after.result in
    let was : c.acknowledge.result ≡ Ok level = search rules in
    let did : Acknowledges chip (Ok level) c.acknowledge.new.self =
    subst (λ (z : I8259a). Acknowledges z (Ok level) c.acknowledge.new.self) c.shows-before.ensures.after
    (subst (λ r. Acknowledges c.shows-before.new.self r c.acknowledge.new.self) was c.acknowledge.ensures) in
    let answers : c.then_some.result ≡ cond (believed level before after) (Some level) None = search rules in
    rw (answers, c.shows-after.ensures.after) (taking chip c.acknowledge.new.self level before after c.shows-before.ensures.answer c.shows-after.ensures.answer did)
