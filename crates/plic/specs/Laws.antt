-- What the calls of a PLIC come to, in the words of its specification.
use Rattle.std.specs.Prelude.{◌≡◌, ℕ, ◌<◌, true, cond, ◌≢◌, length, Result}
use Rattle.controller.specs.declared.refusal.Refusal.{Refusal}
use Rattle.plic.specs.declared.chip.Plic.{Plic}
use Rattle.plic.specs.declared.gateway.Request.TheVariants.{Idle, Pending}
use Rattle.plic.specs.declared.registers.Register.{Register}
use Rattle.plic.specs.declared.registers.Register.TheVariants.{ClaimComplete}
use Rattle.plic.specs.Gateways.{with_request, claimed}
use Rattle.plic.specs.Registers.{address, There}
use Rattle.plic.specs.Chip.{gate, with_threshold, Above, Signals, Claimable, Claims, Completable, Completes}
use Rattle.plic.specs.Access.{Reads}

-- A gateway for each number below N, as every PLIC in memory has.
abbrev pub Whole : (N : ℕ) → Plic N → Type 0
Whole N p = length p.gateways ≡ N

-- From p to q no gateway but that of n changed, nor did the threshold.
pub record OnlyAt (N : ℕ) (p : Plic N) (n : ℕ) (q : Plic N) : Type 0 where
  pub others : (m : ℕ) → m ≢ n → gate N q m ≡ gate N p m
  pub threshold : q.threshold ≡ p.threshold

pub record Laws (N : ℕ) : Type 0 where
  -- No two registers share an offset.
  pub one_register : (g h : Register) → There N g → There N h → address g ≡ address h → g ≡ h
  -- A read of any register but the claim register changes nothing, and a second read answers the same.
  pub reads_agree : (p q t : Plic N) (offset : ℕ) (r s : Result ℕ Refusal) → offset ≢ address ClaimComplete
      → Reads N p offset r q → Reads N q offset s t → (s ≡ r) × (q ≡ p) × (t ≡ p)
  -- What a claim answers and leaves is determined.
  pub one_claim : (p q t : Plic N) (r s : ℕ) → Claims N p r q → Claims N p s t → (r ≡ s) × (q ≡ t)
  -- The threshold holds no claim back: under any other the same source is claimed.
  pub unheld : (p q : Plic N) (r x : ℕ) → Claims N p r q → Claims N (with_threshold N p x) r (with_threshold N q x)
  -- A claim while the PLIC signals answers a source above the threshold.
  pub signalled : (p q : Plic N) (r : ℕ) → Signals N p true → Claims N p r q → Above N p r
  -- A claimed source is claimed in the one gateway that changed, and cannot be claimed again as it stands.
  pub takes : (p q : Plic N) (r : ℕ) → Whole N p → 0 < r → Claims N p r q → OnlyAt N p r q × (gate N q r ≡ claimed (gate N p r))
  pub once : (p q : Plic N) (r : ℕ) → Whole N p → 0 < r → Claims N p r q → Claimable N q r → ⊥
  -- A completed source is pending again if its line is high, idle if it is low, and nothing else changes.
  pub ends : (p q : Plic N) (n : ℕ) → Whole N p → Completable N p n → Completes N p n q
      → OnlyAt N p n q × (gate N q n ≡ with_request (gate N p n) (cond (gate N p n).high Pending Idle))

-- Shut, so that a proof about a new PLIC does not wade through them.
unfoldable pub ChipLaws : ℕ → Type 0
ChipLaws N = Laws N
