-- Lists of numbers in the order of their classes.
use Rattle.std.specs.Prelude.{ℕ, zero, suc, Bool, cond, List, [], ◌∷◌, nat_lt}

-- n put into an ordered list, before the first number of a larger class.
unfoldable pub placed : (ℕ → ℕ) → ℕ → List ℕ → List ℕ
placed class n [] = n ∷ []
placed class n (x ∷ xs) = cond (nat_lt (class n) (class x)) (n ∷ x ∷ xs) (x ∷ placed class n xs)

-- The marked numbers below m, the smallest class first.
unfoldable pub by_class : (ℕ → ℕ) → (ℕ → Bool) → ℕ → List ℕ
by_class class mark zero = []
by_class class mark (suc m) = cond (mark m) (placed class m (by_class class mark m)) (by_class class mark m)
