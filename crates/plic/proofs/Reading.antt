-- An offset has one register, and reads of it agree.
use Rattle.std.proofs.Common.{◌≡◌, ℕ, ◌/◌, ◌%◌, Bool, cond, eqb, ◌≢◌, List, Ok, Err, Result, sym, refl, ap, ◌∙◌, subst, arith}
use Rattle.controller.specs.declared.refusal.Refusal.{Refusal}
use Rattle.plic.specs.declared.chip.Plic.{Plic}
use Rattle.plic.specs.declared.gateway.Gateway.{Gateway}
use Rattle.plic.specs.declared.registers.Register.{Register}
use Rattle.plic.specs.declared.registers.Register.TheVariants.{SourcePriority, PendingWord, EnableWord, Threshold, ClaimComplete}
use Rattle.plic.specs.Gateways.{is_pending}
use Rattle.plic.specs.Registers.{address, There}
use Rattle.plic.specs.Chip.{gate}
use Rattle.plic.specs.Words.{Word}
use Rattle.plic.specs.Access.{Reading, Reads}
use Rattle.plic.proofs.Packing.{same_bits}

-- The register on a page of 4,096 bytes, by the number of its word there.
abbrev on_page : ℕ → ℕ → Register
on_page page i =
    cond (eqb page 0) (SourcePriority i)
    (cond (eqb page 1) (PendingWord i)
    (cond (eqb page 2) (EnableWord i)
    (cond (eqb i 0) Threshold ClaimComplete)))

at : (g : Register) (page i : ℕ) → address g / 4096 ≡ page → address g % 4096 / 4 ≡ i → on_page (address g / 4096) (address g % 4096 / 4) ≡ on_page page i
at g page i p q = ap (λ x. on_page x (address g % 4096 / 4)) p ∙ ap (on_page page) q

-- A register is the one that lies at its offset.
located : (N : ℕ) (g : Register) → There N g → on_page (address g / 4096) (address g % 4096 / 4) ≡ g
located N (SourcePriority n) t = at (SourcePriority n) 0 n (omega arith) (omega arith)
located N (PendingWord w) t = at (PendingWord w) 1 w (omega arith) (omega arith)
located N (EnableWord w) t = at (EnableWord w) 2 w (omega arith) (omega arith)
located N Threshold t = refl
located N ClaimComplete t = refl

pub one_register : (N : ℕ) (g h : Register) → There N g → There N h → address g ≡ address h → g ≡ h
one_register N g h s t e = sym (located N g s) ∙ ap (λ o. on_page (o / 4096) (o % 4096 / 4)) e ∙ located N h t

-- A word reads as one number.
pub one_word : (N : ℕ) (gs : List Gateway) (told : Gateway → Bool) (w v u : ℕ) → Word N gs told w v → Word N gs told w u → u ≡ v
one_word N gs told w v u x y = same_bits 32 u v y.0 x.0 (λ m lt. y.1 m lt ∙ sym (x.1 m lt))

module _ (N : ℕ) (p q t : Plic N) where
  value-agrees : (f : Plic N → ℕ) (v u : ℕ) → (v ≡ f p) × (q ≡ p) → (u ≡ f q) × (t ≡ q) → (u ≡ v) × (q ≡ p) × (t ≡ p)
  value-agrees f v u x y = (y.0 ∙ ap f x.1 ∙ sym x.0, x.1, y.1 ∙ x.1)

  word-agrees : (told : Gateway → Bool) (w v u : ℕ) → Word N p.gateways told w v × (q ≡ p) → Word N q.gateways told w u × (t ≡ q) → (u ≡ v) × (q ≡ p) × (t ≡ p)
  word-agrees told w v u x y =
      (one_word N p.gateways told w v u x.0 (subst (λ (z : Plic N). Word N z.gateways told w u) x.1 y.0), x.1, y.1 ∙ x.1)

  register-agrees : (g : Register) (v u : ℕ) → address g ≢ address ClaimComplete → Reading N p g v q → Reading N q g u t → (u ≡ v) × (q ≡ p) × (t ≡ p)
  register-agrees (SourcePriority n) v u ne x y = value-agrees (λ z. cond (eqb n 0) 0 (gate N z n).priority) v u x y
  register-agrees (PendingWord w) v u ne x y = word-agrees (λ g. is_pending g.request) w v u x y
  register-agrees (EnableWord w) v u ne x y = word-agrees (λ g. g.enabled) w v u x y
  register-agrees Threshold v u ne x y = value-agrees (λ z. z.threshold) v u x y
  register-agrees ClaimComplete v u ne x y = absurd (ne refl)

  pub reads_agree : (offset : ℕ) (r s : Result ℕ Refusal) → offset ≢ address ClaimComplete → Reads N p offset r q → Reads N q offset s t → (s ≡ r) × (q ≡ p) × (t ≡ p)
  reads_agree offset (Ok v) (Ok u) ne x y =
      let same : y.0 ≡ x.0 = one_register N y.0 x.0 y.1 x.1 (y.2 ∙ sym x.2) in
      let a = register-agrees x.0 v u (λ e. ne (sym x.2 ∙ e)) x.3 (subst (λ g. Reading N q g u t) same y.3) in
      (ap Ok a.0, a.1, a.2)
  reads_agree offset (Ok v) (Err e) ne x y = absurd (y.0 x.0 x.1 x.2)
  reads_agree offset (Err e) (Ok u) ne x y = absurd (x.0 y.0 y.1 y.2)
  reads_agree offset (Err e) (Err f) ne x y = (ap Err (y.1 ∙ sym x.1), x.2, y.2 ∙ x.2)
