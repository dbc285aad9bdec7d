use Rattle.std.proofs.Common.{◌≡◌, ℕ, ◌+◌, ◌*◌, Ok, Err, Result, ◌∙◌}
use Rattle.std.specs.Result.{result_unwrap_or}
use Rattle.controller.specs.declared.refusal.Refusal.{Refusal}
use Rattle.plic.specs.declared.chip.Plic.{Plic}
use Rattle.plic.specs.Access.{Reads}
use Rattle.plic.proofs.Offsets.{reads-priority, priority-there}
use Rattle.plic_controller.specs.Steps.{ReadsPriority}
use Rattle.plic_controller.proofs.registers.priority.Goals as goal

read : (p q : Plic 64) (n v : ℕ) (r : Result ℕ Refusal) → Reads 64 p (0x000000 + 4 * n) r q → v ≡ result_unwrap_or r 0 → ReadsPriority p n v q
read p q n v (Ok x) got is source = let r = reads-priority 64 p q n x source got in (is ∙ r.0, r.1)
read p q n v (Err e) got is source = absurd (priority-there 64 p q n e source got)

pub returns : goal.returns
returns c = read _ _ c.args.n _ c.read.result (rw c.from.ensures at c.read.ensures) c.unwrap_or.ensures
