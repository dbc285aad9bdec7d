-- The states that the worked cases start from.
use Rattle.std.specs.Prelude.{◌≡◌, ℕ, ◌+◌, ◌*◌, true, false, ◌⊎◌}
use Rattle.plic.specs.declared.chip.Plic.{Plic}
use Rattle.plic.specs.declared.gateway.Request.TheVariants.{Claimed}
use Rattle.plic.specs.Chip.{Requests, gate}
use Rattle.controller.specs.Meaning.{Meaning}
use Rattle.cascade.specs.Fit.{is_fleeting, is_serving}

-- Source n is enabled and pending, and no other source is.
pub record Alone (N : ℕ) (p : Plic N) (n : ℕ) : Type 0 where
  pub asks : Requests N p n
  pub sole : (m : ℕ) → Requests N p m → m ≡ n

-- Sources 5 and 9 are enabled and pending at priority 4, and no other source is enabled and pending.
pub record FiveAndNine (N : ℕ) (p : Plic N) : Type 0 where
  pub five : Requests N p 5
  pub nine : Requests N p 9
  pub five_at : (gate N p 5).priority ≡ 4
  pub nine_at : (gate N p 9).priority ≡ 4
  pub others : (m : ℕ) → Requests N p m → (m ≡ 5) ⊎ (m ≡ 9)

-- Source n is claimed and not enabled.
pub record ClaimedOff (N : ℕ) (p : Plic N) (n : ℕ) : Type 0 where
  pub claimed : (gate N p n).request ≡ Claimed
  pub off : (gate N p n).enabled ≡ false

-- Line k of a is fleeting, nothing is in service in a or in b, and together they have this width and this span.
pub record Together (a : Meaning) (k : ℕ) (b : Meaning) (width span : ℕ) : Type 0 where
  pub fleeting : is_fleeting a k ≡ true
  pub outer_rests : is_serving a ≡ false
  pub inner_rests : is_serving b ≡ false
  pub wide : a.fixed.width + b.fixed.width ≡ width
  pub long : a.fixed.span * b.fixed.span ≡ span
