use Rattle.std.proofs.Common.{◌≡◌, ℕ, ◌∙◌, sym, None, Ok, Err, Result}
use Rattle.std.proofs.lemmas.Option.{none-some}
use Rattle.std.specs.Result.{result_ok}
use Rattle.controller.specs.declared.refusal.Refusal.{Refusal}
use Rattle.plic.specs.declared.chip.Plic.{Plic}
use Rattle.plic.specs.Access.{Reads}
use Rattle.plic.proofs.Offsets.{claim-there}
use Rattle.plic_controller.proofs.registers.claim.Goals as goal

-- The claim register is there, so its read is not refused.
unrefused : (p q : Plic 64) (r : Result ℕ Refusal) → result_ok r ≡ None → Reads 64 p 0x200004 r q → ⊥
unrefused p q (Ok v) none read = none-some v (sym none)
unrefused p q (Err e) none read = claim-there 64 p q e read

pub returns-in_err-n : goal.returns-in_err-n
returns-in_err-n c = absurd (unrefused _ _ c.read.result (sym c.ok.ensures.value ∙ c.in_err-n.was) c.read.ensures)
