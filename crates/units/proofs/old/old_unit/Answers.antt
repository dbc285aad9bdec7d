use Rattle.std.proofs.Common.{rules}
use Rattle.controller.specs.Telling.{meaning}
use Rattle.cascade.specs.Told.{meant}
use Rattle.i8259a_controller.specs.Members.{members}
use Rattle.units.proofs.OldLines.{old-made}
use Rattle.units.proofs.old.old_unit.Goals as goal

pub returns : goal.returns
returns c =
    let master = c.new-master in
    let slave = c.new-slave in
    record {
      sound = c.new.ensures.sound master.ensures.sound slave.ensures.sound;
      told = old-made (meaning members master.result) (meaning members slave.result) (meant members members c.new.result) master.ensures.told slave.ensures.told (search rules);
    }
