-- What a read or a write of a register does. A refusal, of an offset with no register, changes nothing.
use Rattle.std.specs.Prelude.{◌≡◌, ℕ, ◌%◌, cond, Ok, Err, Result, ◌==◌}
use Rattle.controller.specs.declared.refusal.Refusal.{Refusal}
use Rattle.controller.specs.declared.refusal.Refusal.TheVariants.{NoSuchAddress}
use Rattle.plic.specs.declared.chip.Plic.{Plic}
use Rattle.plic.specs.declared.registers.Register.{Register}
use Rattle.plic.specs.declared.registers.Register.TheVariants.{SourcePriority, PendingWord, EnableWord, Threshold, ClaimComplete}
use Rattle.plic.specs.Gateways.{is_pending, with_priority}
use Rattle.plic.specs.Chip.{gate, with_gate, with_threshold, Claims, Completes}
use Rattle.plic.specs.Registers.{address, There, Nowhere}
use Rattle.plic.specs.Words.{Word, Enables}

-- A read of register g answers v and leaves q. Only a claim changes anything; source 0 reads as zero.
abbrev pub Reading : (N : ℕ) → Plic N → Register → ℕ → Plic N → Type 0
Reading N p (SourcePriority n) v q = (v ≡ cond (n == 0) 0 (gate N p n).priority) × (q ≡ p)
Reading N p (PendingWord w) v q = Word N p.gateways (λ g. is_pending g.request) w v × (q ≡ p)
Reading N p (EnableWord w) v q = Word N p.gateways (λ g. g.enabled) w v × (q ≡ p)
Reading N p Threshold v q = (v ≡ p.threshold) × (q ≡ p)
Reading N p ClaimComplete v q = Claims N p v q

abbrev pub Reads : (N : ℕ) → Plic N → ℕ → Result ℕ Refusal → Plic N → Type 0
Reads N p offset (Ok v) q = (g : Register) × There N g × (address g ≡ offset) × Reading N p g v q
Reads N p offset (Err e) q = Nowhere N offset × (e ≡ NoSuchAddress) × (q ≡ p)

-- A write of v to register g leaves q. Priority and threshold keep three bits; source 0 and pending bits ignore writes.
abbrev pub Writing : (N : ℕ) → Plic N → Register → ℕ → Plic N → Type 0
Writing N p (SourcePriority n) v q = q ≡ cond (n == 0) p (with_gate N p n (with_priority (gate N p n) (v % 8)))
Writing N p (PendingWord w) v q = q ≡ p
Writing N p (EnableWord w) v q = (q.threshold ≡ p.threshold) × Enables N p.gateways w v q.gateways
Writing N p Threshold v q = q ≡ with_threshold N p (v % 8)
Writing N p ClaimComplete v q = Completes N p v q

abbrev pub Writes : (N : ℕ) → Plic N → ℕ → ℕ → Result (Unit {0}) Refusal → Plic N → Type 0
Writes N p offset v (Ok _) q = (g : Register) × There N g × (address g ≡ offset) × Writing N p g v q
Writes N p offset v (Err e) q = Nowhere N offset × (e ≡ NoSuchAddress) × (q ≡ p)
