-- The inside of the tree: one match, and what the leaves of one part of it give.
use Rattle.std.specs.Prelude.{◌≡◌, ℕ, ◌+◌, ◌<◌, Bool, true, false, cond, List, length, Some, None, Option}
use Rattle.arbiter.specs.declared.tree.Entrant.{Entrant}
use Rattle.arbiter.specs.Winning.{Holds}

-- The left entrant goes on if it leads; an empty side lets the other go on.
abbrev pub played : {K : Type 0} → (K → K → Bool) → Option (Entrant K) → Option (Entrant K) → Option (Entrant K)
played leq None right = right
played leq (Some l) None = Some l
played leq (Some l) (Some r) = cond (leq l.key r.key) (Some l) (Some r)

-- The leaf of an entrant.
abbrev pub leaf_of : {K : Type 0} → Option (Entrant K) → Option ℕ
leaf_of None = None
leaf_of (Some e) = Some e.leaf

-- What goes on from some leaves, of which the first is number a: e, the first of them by its key.
abbrev pub Best : {K : Type 0} → (K → K → Bool) → List (Option K) → ℕ → Option (Entrant K) → Type 0
Best {K} leq leaves a None = (j : ℕ) (k : K) → Holds leaves j k → ⊥
Best {K} leq leaves a (Some e) =
    (i : ℕ) × (e.leaf ≡ a + i) × (i < length leaves) × Holds leaves i e.key
    × ((j : ℕ) (k : K) → Holds leaves j k → leq e.key k ≡ true)
    × ((j : ℕ) (k : K) → j < i → Holds leaves j k → leq k e.key ≡ false)
