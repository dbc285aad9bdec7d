-- What the making makes.
use Rattle.std.specs.Prelude.{◌≡◌, ℕ, ◌%◌, false, cond, List, [], nat_lt, slice_index}
use Rattle.plic.specs.declared.chip.Plic.{Plic}
use Rattle.plic.specs.Gateways.{blank, with_priority}
use Rattle.plic.specs.Chip.{gate}
use Rattle.controller.specs.Meaning.{State}

-- The priorities that are kept: the low three bits of each, and none for number 0.
abbrev pub kept_of : List ℕ → ℕ → ℕ
kept_of priorities n = cond (nat_lt 0 n) (slice_index priorities n % 8) 0

-- Every line is shut, low and idle.
abbrev pub at_rest : State
at_rest = record { opened = λ _. false; high = λ _. false; waiting = λ _. false; stack = [] }

-- Each gateway is blank but for its priority.
pub record Made (priorities : List ℕ) (p : Plic 64) : Type 0 where
  pub gateways : (n : ℕ) → gate 64 p n ≡ with_priority blank (kept_of priorities n)
  pub threshold : p.threshold ≡ 0
