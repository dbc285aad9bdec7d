-- A byte as a set of the levels 0 to 7.
use Rattle.std.specs.Prelude.{◌≡◌, ℕ, zero, suc, ◌-◌, ◌/◌, ◌%◌, ◌^◌, ◌<◌, Bool, cond, List, length, Some, None, Option, ◌==◌, bit_and, bit_or, slice_index_or}
use Rattle.arbiter.specs.declared.key.Level.{Level}

-- Bit n of x is set: level n is in the set.
abbrev pub bit : ℕ → ℕ → Bool
bit x n = x / 2 ^ n % 2 == 1

abbrev pub with : ℕ → ℕ → ℕ
with x n = bit_or x (2 ^ n)

abbrev pub without : ℕ → ℕ → ℕ
without x n = bit_and x (255 - 2 ^ n)

-- The levels of x that are not in y.
abbrev pub outside : ℕ → ℕ → ℕ
outside x y = bit_and x (255 - y)

-- The lowest level of x among the k levels from n on.
unfoldable pub lowest_from : ℕ → ℕ → ℕ → Option ℕ
lowest_from zero n x = None
lowest_from (suc k) n x = cond (bit x n) (Some n) (lowest_from k (suc n) x)

abbrev pub lowest : ℕ → Option ℕ
lowest x = lowest_from 8 0 x

abbrev pub without_if : ℕ → Option ℕ → ℕ
without_if x None = x
without_if x (Some n) = without x n

abbrev pub without_lowest : ℕ → ℕ
without_lowest x = without_if x (lowest x)

-- The leaves of the arbitration tree: each level of x under its own number.
abbrev pub Levels : ℕ → List (Option Level) → Type 0
Levels x ls = (length ls ≡ 8) × ((n : ℕ) → n < 8 → slice_index_or ls n None ≡ cond (bit x n) (Some (record { 0 = n })) None)
