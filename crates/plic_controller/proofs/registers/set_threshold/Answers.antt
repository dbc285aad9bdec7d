use Rattle.plic.proofs.Offsets.{writes-threshold}
use Rattle.plic_controller.proofs.registers.set_threshold.Goals as goal

pub returns : goal.returns
returns c = writes-threshold 64 _ _ _ c.write.result c.write.ensures
