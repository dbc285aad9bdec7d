use Rattle.cascade.proofs.Passing.{neither-fleeting, outer-fleeting, inner-fleeting}
use Rattle.cascade.proofs.pile.CascadeController.fleeting.Goals as goal

pub returns-in-Err : goal.returns-in-Err
returns-in-Err g c sound = neither-fleeting _ _ g.met.O.Controller.lawful g.met.I.Controller.lawful _ sound _ c.in-Err.field-0 (c.in-Err.ensures sound)

pub returns-in-Ok-Outer : goal.returns-in-Ok-Outer
returns-in-Ok-Outer g c sound = outer-fleeting _ _ g.met.O.Controller.lawful g.met.I.Controller.lawful _ sound _ c.fleeting.result (let told = c.part.ensures sound in cc) c.fleeting.ensures

pub returns-in-Ok-Inner : goal.returns-in-Ok-Inner
returns-in-Ok-Inner g c sound = inner-fleeting _ _ g.met.O.Controller.lawful g.met.I.Controller.lawful _ sound _ c.fleeting-in-Ok-Inner.result c.in-Ok-Inner.field-0-0 c.in-Ok-Inner.m (let told = c.part.ensures sound in cc) c.fleeting-in-Ok-Inner.ensures
