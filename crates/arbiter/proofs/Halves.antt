-- The better of two halves is the best of the whole.
use Rattle.std.proofs.Common.{◌≡◌, ℕ, ◌+◌, ◌-◌, ◌<◌, ◌≤◌, Bool, true, false, ◌⊎◌, List, [], ◌∷◌, length, take, drop, Some, None, Option, get_or, refl, sym, ap, ◌∙◌, ⊎_elim, arith}
use Rattle.std.proofs.lemmas.Bool.{cases_lt, false_from_ne_true, cond_both, both_ways}
use Rattle.std.proofs.lemmas.List.{get_or-take, get_or-drop, length-take, length-drop}
use Rattle.arbiter.specs.declared.tree.Entrant.{Entrant}
use Rattle.arbiter.specs.Winning.{Holds}
use Rattle.arbiter.specs.Matches.{played, Best}

module _ {K : Type 0} (leq : K → K → Bool) (total : (a b : K) → (leq a b ≡ true) ⊎ (leq b a ≡ true)) (transitive : (a b c : K) → leq a b ≡ true → leq b c ≡ true → leq a c ≡ true) (xs : List (Option K)) (m : ℕ) (within : m ≤ length xs) (a : ℕ) where
  -- A leaf of the whole is one of the left half or one of the right.
  in-left : (j : ℕ) (k : K) → j < m → Holds xs j k → Holds (take m xs) j k
  in-left j k lt h = get_or-take m xs j None lt ∙ h

  in-right : (j : ℕ) (k : K) → m ≤ j → Holds xs j k → Holds (drop m xs) (j - m) k
  in-right j k le h = get_or-drop m xs (j - m) None ∙ ap (λ i. get_or xs i None) (omega arith) ∙ h

  -- What holds of each leaf of both halves holds of every leaf.
  each : (P : ℕ → K → Type 0) → ((j : ℕ) (k : K) → j < m → Holds (take m xs) j k → P j k)
      → ((j : ℕ) (k : K) → m ≤ j → Holds (drop m xs) (j - m) k → P j k) → (j : ℕ) (k : K) → Holds xs j k → P j k
  each P left right j k h = ⊎_elim (λ lt. left j k lt (in-left j k lt h)) (λ ge. right j k ge (in-right j k ge h)) (cases_lt j m)

  -- The left entrant is the best of all if no key of the right half comes before its own.
  left-best : (l : Entrant K) → Best leq (take m xs) a (Some l) → ((j : ℕ) (k : K) → Holds (drop m xs) j k → leq l.key k ≡ true) → Best leq xs a (Some l)
  left-best l p after =
      let low : p.0 < m = omega (arith, length-take m xs) in (
        p.0,
        p.1,
        omega arith,
        sym (get_or-take m xs p.0 None low) ∙ p.3,
        each (λ j k. leq l.key k ≡ true) (λ j k _ h. p.4 j k h) (λ j k _ h. after (j - m) k h),
        λ j k lt h. p.5 j k lt (in-left j k (omega arith) h),
      )

  -- The right entrant is the best of all if its key comes before every key of the left half.
  right-best : (r : Entrant K) (b : ℕ) → b ≡ a + m → Best leq (drop m xs) b (Some r)
      → ((j : ℕ) (k : K) → Holds (take m xs) j k → (leq r.key k ≡ true) × (leq k r.key ≡ false)) → Best leq xs a (Some r)
  right-best r b eb q before = (
    m + q.0,
    omega arith,
    omega (arith, length-drop m xs),
    sym (get_or-drop m xs q.0 None) ∙ q.3,
    each (λ j k. leq r.key k ≡ true) (λ j k _ h. (before j k h).0) (λ j k _ h. q.4 (j - m) k h),
    λ j k lt h. each (λ j k. j < m + q.0 → leq k r.key ≡ false) (λ j k _ h _. (before j k h).1) (λ j k ge h lt. q.5 (j - m) k (omega arith) h) j k h lt,
  )

  -- What goes on from the first m and from the rest, matched, goes on from all.
  pub halves : (b : ℕ) → b ≡ a + m → (p q : Option (Entrant K)) → Best leq (take m xs) a p → Best leq (drop m xs) b q → Best leq xs a (played leq p q)
  halves b eb None None p q = each (λ _ _. ⊥) (λ j k _ h. p j k h) (λ j k _ h. q (j - m) k h)
  halves b eb None (Some r) p q = right-best r b eb q (λ j k h. absurd (p j k h))
  halves b eb (Some l) None p q = left-best l p (λ j k h. absurd (q j k h))
  halves b eb (Some l) (Some r) p q =
      cond_both (leq l.key r.key) (Some l) (Some r) (Best leq xs a)
      (λ e. left-best l p (λ j k h. transitive l.key r.key k e (q.4 j k h)))
      (λ e. right-best r b eb q (λ j k h. (
        transitive r.key l.key k (⊎_elim (λ t. absurd (both_ways _ e t)) (λ t. t) (total l.key r.key)) (p.4 j k h),
        false_from_ne_true _ (λ t. both_ways _ e (transitive l.key k r.key (p.4 j k h) t)),
      )))

-- Two leaves are what a pattern of two leaves takes out of them.
pub pair : {A : Type 0} (x y : A) (xs : List A) → 2 ≤ length xs → length xs < 3 → x ≡ get_or xs 0 x → y ≡ get_or xs 1 y → xs ≡ x ∷ y ∷ []
pair x y (a ∷ b ∷ []) least most is-x is-y = rw is-x (rw is-y refl)
pair x y [] least most is-x is-y = absurd (omega arith)
pair x y (a ∷ []) least most is-x is-y = absurd (omega arith)
pair x y (a ∷ b ∷ c ∷ xs) least most is-x is-y = absurd (omega arith)
