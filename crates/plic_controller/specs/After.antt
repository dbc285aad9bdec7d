-- The PLIC that each call leaves.
use Rattle.std.specs.Prelude.{ℕ, Bool, Some, None, Ok, Err, Option, Result}
use Rattle.controller.specs.declared.answer.Answer.{Answer}
use Rattle.controller.specs.declared.refusal.Refusal.{Refusal}
use Rattle.plic.specs.declared.chip.Plic.{Plic}
use Rattle.plic.specs.Gateways.{risen, fallen, claimed, completed, with_enabled}
use Rattle.plic.specs.Chip.{gate, with_gate, with_threshold}
use Rattle.plic_controller.specs.Told.{newest_priority}

-- A call that is carried out turns p into q; a refused one leaves p.
abbrev pub after : Result Answer Refusal → Plic 64 → Plic 64 → Plic 64
after (Ok _) p q = q
after (Err _) p q = p

abbrev pub risen_at : Plic 64 → ℕ → Plic 64
risen_at p n = with_gate 64 p n (risen (gate 64 p n))

abbrev pub fallen_at : Plic 64 → ℕ → Plic 64
fallen_at p n = with_gate 64 p n (fallen (gate 64 p n))

abbrev pub enabled_at : Plic 64 → ℕ → Bool → Plic 64
enabled_at p n on = with_gate 64 p n (with_enabled (gate 64 p n) on)

-- A take claims its line and sets the threshold to the line's priority; without a line it changes nothing.
abbrev pub taken_at : Plic 64 → Option ℕ → Plic 64
taken_at p None = p
taken_at p (Some n) = with_threshold 64 (with_gate 64 p n (claimed (gate 64 p n))) (gate 64 p n).priority

-- The threshold set to the newest line's priority, or to 0.
abbrev pub levelled : Plic 64 → Plic 64
levelled p = with_threshold 64 p (newest_priority (gate 64 p))

-- A finish completes its line and lowers the threshold to what is still in service.
abbrev pub finished_at : Plic 64 → ℕ → Plic 64
finished_at p n = levelled (with_gate 64 p n (completed (gate 64 p n)))
