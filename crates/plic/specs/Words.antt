-- 32-bit words with one bit to a source: bit i of word w is source 32 × w + i.
use Rattle.std.specs.Prelude.{◌≡◌, ℕ, ◌+◌, ◌*◌, ◌/◌, ◌%◌, ◌^◌, ◌<◌, Bool, false, cond, ◌&&◌, List, length, ◌==◌, slice_index_or}
use Rattle.plic.specs.declared.gateway.Gateway.{Gateway}
use Rattle.plic.specs.Gateways.{blank, with_enabled}
use Rattle.plic.specs.Chip.{is_source}

-- Bit i of the number v.
abbrev pub bit : ℕ → ℕ → Bool
bit v i = v / 2 ^ i % 2 == 1

-- A question to a gateway is answered as `told` tells.
abbrev pub Tells : (Gateway → Bool → Type 0) → (Gateway → Bool) → Type 0
Tells Answered told = (g : Gateway) (b : Bool) → Answered g b → b ≡ told g

-- What is told of a source; what is no source shows nothing.
abbrev pub shown : ℕ → List Gateway → (Gateway → Bool) → ℕ → Bool
shown N gs told n = cond (is_source N n) (told (slice_index_or gs n blank)) false

-- Word w reads as v.
abbrev pub Word : ℕ → List Gateway → (Gateway → Bool) → ℕ → ℕ → Type 0
Word N gs told w v = (v < 2 ^ 32) × ((i : ℕ) → i < 32 → bit v i ≡ shown N gs told (32 * w + i))

-- The gateway of n after v was written to word w of the enable bits.
abbrev pub enabled_by : ℕ → ℕ → ℕ → ℕ → Gateway → Gateway
enabled_by N w v n g = cond (is_source N n && n / 32 == w) (with_enabled g (bit v (n % 32))) g

-- Each source of word w takes its enable bit, and no other gateway changes.
abbrev pub Enables : ℕ → List Gateway → ℕ → ℕ → List Gateway → Type 0
Enables N gs w v hs = (length hs ≡ length gs) × ((n : ℕ) → slice_index_or hs n blank ≡ enabled_by N w v n (slice_index_or gs n blank))
