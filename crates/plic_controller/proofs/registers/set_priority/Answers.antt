use Rattle.std.proofs.Common.{arith}
use Rattle.plic.proofs.Offsets.{writes-priority, ignores-zero}
use Rattle.plic_controller.proofs.registers.set_priority.Goals as goal

pub returns : goal.returns
returns c =
    let wrote = rw c.from-2.ensures at (rw c.from.ensures at c.write.ensures) in (
      (λ source. writes-priority 64 _ _ c.args.n _ c.write.result source wrote),
      (λ none. ignores-zero 64 _ _ c.args.n _ c.write.result none (omega arith) wrote),
    )
