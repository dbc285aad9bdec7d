-- What a PLIC tells as a controller: the chip's own state.
use Rattle.std.specs.Prelude.{ℕ, ◌+◌, ◌-◌, ◌*◌, false, List, [], ◌∷◌, nat_lt}
use Rattle.plic.specs.declared.chip.Plic.{Plic}
use Rattle.plic.specs.declared.gateway.Gateway.{Gateway}
use Rattle.plic.specs.Gateways.{is_pending, is_claimed}
use Rattle.plic.specs.Chip.{gate}
use Rattle.controller.specs.Meaning.{Fixed, State, Meaning}
use Rattle.plic_controller.specs.ByClass.{by_class}

-- What is fixed, from the priority of each number. A line is a source of priority 1 to 7, and steady.
abbrev pub fixed_by : (ℕ → ℕ) → Fixed
fixed_by priority = record {
  width = 64;
  span = 512;
  line = λ n. nat_lt 0 (priority n);
  class = λ n. 7 - priority n;
  fleeting = λ _. false;
  rank = λ n. (7 - priority n) * 64 + n;
}

-- The claimed sources, the highest priority first.
abbrev pub stack_of : (ℕ → Gateway) → List ℕ
stack_of v = by_class (λ n. 7 - (v n).priority) (λ n. is_claimed (v n).request) 64

-- Open is enabled, high is the line, waiting is pending, in service is claimed.
abbrev pub state_of : (ℕ → Gateway) → State
state_of v = record {
  opened = λ n. (v n).enabled;
  high = λ n. (v n).high;
  waiting = λ n. is_pending (v n).request;
  stack = stack_of v;
}

-- The same from the gateway of each number, and from the PLIC.
abbrev pub tells : (ℕ → Gateway) → Meaning
tells v = record { fixed = fixed_by (λ n. (v n).priority); state = state_of v }

abbrev pub meant : Plic 64 → Meaning
meant p = tells (gate 64 p)

-- The newest line's priority, or 0.
abbrev pub level_of : (ℕ → ℕ) → List ℕ → ℕ
level_of priority [] = 0
level_of priority (x ∷ xs) = priority x

abbrev pub newest_priority : (ℕ → Gateway) → ℕ
newest_priority v = level_of (λ n. (v n).priority) (stack_of v)
