use Rattle.std.proofs.Common.{refl, rules}
use Rattle.controller.specs.Rules.{Falls, otherwise}
use Rattle.controller.proofs.Refused.{falls-same}
use Rattle.cascade.proofs.Calls.{falls-outer, falls-inner}
use Rattle.cascade.proofs.Passing.{call-neither, call-outer, call-inside}
use Rattle.cascade.proofs.pile.CascadeController.fall.Goals as goal

pub returns-in_err-part-clause-rule : goal.returns-in_err-part-clause-rule
returns-in_err-part-clause-rule g c sound = call-neither _ _ g.met.O.Controller.lawful g.met.I.Controller.lawful _ sound _ Falls (λ m n e. otherwise e (refl, refl)) c.in_err-part.field-0.0 (c.in_err-part.ensures sound) c.from_residual.result (search rules)

pub returns-in-Outer-clause-rule : goal.returns-in-Outer-clause-rule
returns-in-Outer-clause-rule g c sound = call-outer _ _ g.met.O.Controller.lawful g.met.I.Controller.lawful _ sound _ Falls falls-outer (let told = c.in_ok-part.ensures sound in cc) c.fall.result c.fall.new.self c.fall.ensures.rule

pub returns-in-Inner-clause-rule : goal.returns-in-Inner-clause-rule
returns-in-Inner-clause-rule g c sound = call-inside _ _ g.met.O.Controller.lawful g.met.I.Controller.lawful _ sound _ Falls falls-inner falls-same c.in-Inner.k c.in-Inner.m (let told = c.in_ok-part.ensures sound in cc) c.inside.result c.inside.new.self c.inside.ensures.same (search rules) c.inside.ensures.informs
