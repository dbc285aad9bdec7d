-- Which leaf wins, in terms of the keys' order alone. A leaf past the end counts as empty.
use Rattle.std.specs.Prelude.{◌≡◌, ℕ, ◌<◌, Bool, true, false, List, length, Some, None, Option, slice_index_or}

-- Leaf i holds the key k.
abbrev pub Holds : {K : Type 0} → List (Option K) → ℕ → K → Type 0
Holds leaves i k = slice_index_or leaves i None ≡ Some k

-- Leaf i holds k, every key comes after k or equals it, and no lower leaf holds a key that comes before k or equals it.
pub record First {K : Type 0} (leq : K → K → Bool) (leaves : List (Option K)) (i : ℕ) : Type 0 where
  pub key : K
  pub within : i < length leaves
  pub held : Holds leaves i key
  pub leads : (j : ℕ) (k : K) → Holds leaves j k → leq key k ≡ true
  pub lowest : (j : ℕ) (k : K) → j < i → Holds leaves j k → leq k key ≡ false

-- None wins exactly if every leaf is empty.
abbrev pub Winner : {K : Type 0} → (K → K → Bool) → List (Option K) → Option ℕ → Type 0
Winner {K} leq leaves None = (j : ℕ) (k : K) → Holds leaves j k → ⊥
Winner {K} leq leaves (Some i) = First leq leaves i
