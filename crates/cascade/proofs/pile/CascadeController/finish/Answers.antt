use Rattle.std.proofs.Common.{eqb, Some, sym, refl, rules}
use Rattle.std.specs.Option.{option_eq}
use Rattle.std.proofs.lemmas.Bool.{not-true, not-false}
use Rattle.controller.specs.Rules.{Finishes, otherwise}
use Rattle.cascade.proofs.Takings.{finishes-outer}
use Rattle.cascade.proofs.Passing.{call-neither, call-outer}
use Rattle.cascade.proofs.Finishing.{finish-none, finish-under, finish-refused, finish-inner}
use Rattle.cascade.proofs.pile.CascadeController.finish.Goals as goal

pub returns-in_err-part-clause-rule : goal.returns-in_err-part-clause-rule
returns-in_err-part-clause-rule g c sound = call-neither _ _ g.met.O.Controller.lawful g.met.I.Controller.lawful _ sound _ Finishes (λ m n e. otherwise e (refl, refl)) c.in_err-part.field-0.0 (c.in_err-part.ensures sound) c.from_residual.result (search rules)

pub returns-in-Outer-clause-rule : goal.returns-in-Outer-clause-rule
returns-in-Outer-clause-rule g c sound = call-outer _ _ g.met.O.Controller.lawful g.met.I.Controller.lawful _ sound _ Finishes finishes-outer (let told = c.in_ok-part.ensures sound in cc) c.finish.result c.finish.new.self c.finish.ensures.rule

pub returns-then-not-there-clause-rule : goal.returns-then-not-there-clause-rule
returns-then-not-there-clause-rule g c sound = finish-none _ _ g.met.O.Controller.lawful g.met.I.Controller.lawful _ sound _ c.in-Inner.k c.in-Inner.m (let told = c.in_ok-part.ensures sound in cc) c.if-not-there.ensures

pub returns-then-ne-clause-rule : goal.returns-then-ne-clause-rule
returns-then-ne-clause-rule g c sound =
    finish-under _ _ g.met.O.Controller.lawful g.met.I.Controller.lawful _ sound _ c.in-Inner.k c.in-Inner.m (let told = c.in_ok-part.ensures sound in cc) c.if-not-there.ensures c.newest.result c.newest.ensures.answer
    (not-true (option_eq eqb c.newest.result (Some c.in-Inner.k)) (sym c.if-ne.ensures)) c.newest.new.self c.newest.ensures.same

pub returns-in_err-answer-in-Inner-clause-rule : goal.returns-in_err-answer-in-Inner-clause-rule
returns-in_err-answer-in-Inner-clause-rule g c sound =
    finish-refused _ _ g.met.O.Controller.lawful g.met.I.Controller.lawful _ sound _ c.in-Inner.k c.in-Inner.m (let told = c.in_ok-part.ensures sound in cc) c.if-not-there.ensures c.newest.result c.newest.ensures.answer
    (not-false (option_eq eqb c.newest.result (Some c.in-Inner.k)) (sym c.if-ne.ensures)) c.newest.new.self c.newest.ensures.same c.inside.new.self c.inside.ensures.same
    c.in_err-answer-in-Inner.field-0.0 (search rules) c.in_err-answer-in-Inner.ensures.informs c.from_residual-in_err-answer-in-Inner.result (search rules)

pub returns-in_ok-answer-in-Inner-clause-rule : goal.returns-in_ok-answer-in-Inner-clause-rule
returns-in_ok-answer-in-Inner-clause-rule g c sound =
    finish-inner _ _ g.met.O.Controller.lawful g.met.I.Controller.lawful _ sound _ c.in-Inner.k c.in-Inner.m (let told = c.in_ok-part.ensures sound in cc) c.if-not-there.ensures c.newest.result c.newest.ensures.answer
    (not-false (option_eq eqb c.newest.result (Some c.in-Inner.k)) (sym c.if-ne.ensures)) c.newest.new.self c.newest.ensures.same c.inside.new.self c.inside.ensures.same
    c.in_ok-answer-in-Inner.answer (search rules) c.in_ok-answer-in-Inner.ensures.informs c.finish-in-Inner.result c.finish-in-Inner.new.self c.finish-in-Inner.ensures.rule
