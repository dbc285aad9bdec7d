use Rattle.std.proofs.Common.{sym}
use Rattle.cascade.proofs.Passing.{neither-line, outer-line, inner-line}
use Rattle.cascade.proofs.pile.CascadeController.there.Goals as goal

pub returns-in-Err : goal.returns-in-Err
returns-in-Err g c sound = sym (neither-line _ _ g.met.O.Controller.lawful g.met.I.Controller.lawful _ sound _ c.in-Err.field-0 (c.in-Err.ensures sound))

pub returns-in-Ok-Outer : goal.returns-in-Ok-Outer
returns-in-Ok-Outer g c sound = outer-line _ _ g.met.O.Controller.lawful g.met.I.Controller.lawful _ sound _ c.there.result (let told = c.part.ensures sound in cc) c.there.ensures

pub returns-in-Ok-Inner : goal.returns-in-Ok-Inner
returns-in-Ok-Inner g c sound = inner-line _ _ g.met.O.Controller.lawful g.met.I.Controller.lawful _ sound _ c.there-in-Ok-Inner.result c.in-Ok-Inner.field-0-0 c.in-Ok-Inner.m (let told = c.part.ensures sound in cc) c.there-in-Ok-Inner.ensures
