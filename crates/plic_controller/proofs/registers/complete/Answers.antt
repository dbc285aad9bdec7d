use Rattle.plic.proofs.Offsets.{completes}
use Rattle.plic_controller.proofs.registers.complete.Goals as goal

pub returns : goal.returns
returns c = completes 64 _ _ _ c.write.result (rw c.from.ensures at c.write.ensures)
