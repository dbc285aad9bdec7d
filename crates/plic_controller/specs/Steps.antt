-- What the controller's own steps do: each register used, and the search for the newest line.
use Rattle.std.specs.Prelude.{◌≡◌, ℕ, ◌%◌, ◌<◌, Bool, true, false, cond, List, length, Some, None, Ok, Err, Option, Result, ◌==◌, slice_index_or}
use Rattle.arbiter.specs.declared.key.Priority.{Priority}
use Rattle.controller.specs.declared.refusal.Refusal.{Refusal}
use Rattle.controller.specs.declared.refusal.Refusal.TheVariants.{NotALine}
use Rattle.plic.specs.declared.chip.Plic.{Plic}
use Rattle.plic.specs.declared.gateway.Gateway.{Gateway}
use Rattle.plic.specs.Gateways.{is_claimed, with_enabled, with_priority}
use Rattle.plic.specs.Words.{bit}
use Rattle.plic.specs.Chip.{Source, gate, gateway_of, with_gate, with_threshold, Signals, Claims}

-- r is v with bit i set to `on`.
abbrev pub WithBit : ℕ → ℕ → Bool → ℕ → Type 0
WithBit v i on r = (j : ℕ) → j < 32 → bit r j ≡ cond (j == i) on (bit v j)

-- The priority register of source n reads as v, and nothing changes.
abbrev pub ReadsPriority : Plic 64 → ℕ → ℕ → Plic 64 → Type 0
ReadsPriority p n v q = Source 64 n → (v ≡ (gate 64 p n).priority) × (q ≡ p)

-- Source n gets a priority, of which three bits are kept; for number 0 nothing changes.
abbrev pub SetsPriority : Plic 64 → ℕ → ℕ → Plic 64 → Type 0
SetsPriority p n priority q =
    (Source 64 n → q ≡ with_gate 64 p n (with_priority (gate 64 p n) (priority % 8)))
    × (n ≡ 0 → q ≡ p)

-- Source n is opened or shut.
abbrev pub SetsEnabled : Plic 64 → ℕ → Bool → Plic 64 → Type 0
SetsEnabled p n on q = Source 64 n → q ≡ with_gate 64 p n (with_enabled (gate 64 p n) on)

-- A claim answers the first source and makes it claimed, or answers none and changes nothing.
abbrev pub ClaimsFirst : Plic 64 → Option ℕ → Plic 64 → Type 0
ClaimsFirst p None q = Claims 64 p 0 q
ClaimsFirst p (Some n) q = (0 < n) × Claims 64 p n q

-- A claim is made exactly if the PLIC signals.
abbrev pub ClaimsSignalled : Plic 64 → Option ℕ → Plic 64 → Type 0
ClaimsSignalled p None q = Signals 64 p false × (q ≡ p)
ClaimsSignalled p (Some n) q = Signals 64 p true × Claims 64 p n q

-- The gateway of line n; what is no line is refused.
abbrev pub Lined : Plic 64 → ℕ → Result Gateway Refusal → Type 0
Lined p n (Ok g) = (g ≡ gateway_of 64 p n) × (0 < g.priority)
Lined p n (Err e) = ((gateway_of 64 p n).priority ≡ 0) × (e ≡ NotALine)

-- The threshold is set to the priority of the newest line, or to 0; three bits are kept.
abbrev pub Follows : Plic 64 → Option ℕ → Plic 64 → Type 0
Follows p None q = q ≡ with_threshold 64 p 0
Follows p (Some n) q = Source 64 n → q ≡ with_threshold 64 p ((gate 64 p n).priority % 8)

-- The key under which a line in service contends to be the newest.
abbrev pub served_key : Gateway → Option Priority
served_key g = cond (is_claimed g.request) (Some (record { 0 = g.priority })) None

-- The leaves of the arbitration tree that finds the newest line.
abbrev pub ServedKeys : Plic 64 → List (Option Priority) → Type 0
ServedKeys p ls = (length ls ≡ 64) × ((n : ℕ) → n < 64 → slice_index_or ls n None ≡ served_key (gateway_of 64 p n))
