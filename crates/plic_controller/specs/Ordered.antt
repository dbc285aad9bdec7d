-- Lists ordered by class: what stands in them, and that they climb.
use Rattle.std.specs.Prelude.{◌≡◌, ℕ, zero, suc, ◌<◌, ◌≤◌, Bool, true, false, ◌&&◌, ◌||◌, List, [], ◌∷◌, ◌==◌, ◌≢◌, nat_lt, refl}
use Rattle.std.proofs.Common.{sym, ap, ◌∙◌, arith}
use Rattle.std.proofs.Math.Logic.{⊎_elim}
use Rattle.std.proofs.lemmas.Bool.{eq-eqb, ne_eqb, cases_order, or_right, and_parts, cond_both, lt-ltb, le-ltb, ltb-true, ltb-false}
use Rattle.controller.specs.Meaning.{Fixed, among, Beats, Climbs}
use Rattle.controller.proofs.Stacks.{among-head}
use Rattle.plic_controller.specs.ByClass.{placed, by_class}

swap : (a b c : Bool) → (a || (b || c)) ≡ (b || (a || c))
swap true true c = refl
swap true false c = refl
swap false true c = refl
swap false false c = refl

-- What stands in them.

pub among-placed : (k : ℕ → ℕ) (n x : ℕ) (xs : List ℕ) → among n (placed k x xs) ≡ (n == x || among n xs)
unfolding placed
among-placed k n x [] = refl
among-placed k n x (y ∷ ys) =
    cond_both (nat_lt (k x) (k y)) (x ∷ y ∷ ys) (y ∷ placed k x ys) (λ l. among n l ≡ (n == x || among n (y ∷ ys)))
    (λ _. refl)
    (λ _. ap (λ b. (n == y) || b) (among-placed k n x ys) ∙ swap (n == y) (n == x) (among n ys))

pub among-by_class : (k : ℕ → ℕ) (p : ℕ → Bool) (m n : ℕ) → among n (by_class k p m) ≡ (nat_lt n m && p n)
unfolding by_class
among-by_class k p zero n = ap (λ b. b && p n) (sym (le-ltb n 0 (omega arith)))
among-by_class k p (suc m) n =
    cond_both (p m) (placed k m (by_class k p m)) (by_class k p m) (λ l. among n l ≡ (nat_lt n (suc m) && p n))
    (λ sure. among-placed k n m (by_class k p m) ∙ ap (λ b. (n == m) || b) (among-by_class k p m n) ∙ added sure)
    (λ nay. among-by_class k p m n ∙ passed nay)
  where
    added : p m ≡ true → (n == m || (nat_lt n m && p n)) ≡ (nat_lt n (suc m) && p n)
    added sure =
        ⊎_elim
        (λ e. rw (eq-eqb n m e) (sym (rw (lt-ltb n (suc m) (omega arith)) (ap p e ∙ sure))))
        (⊎_elim
        (λ lt. rw (ne_eqb n m (λ e. omega arith), lt-ltb n m lt, lt-ltb n (suc m) (omega arith)))
        (λ gt. rw (ne_eqb n m (λ e. omega arith), le-ltb n m (omega arith), le-ltb n (suc m) (omega arith))))
        (cases_order n m)

    passed : p m ≡ false → (nat_lt n m && p n) ≡ (nat_lt n (suc m) && p n)
    passed nay =
        ⊎_elim
        (λ e. rw (le-ltb n m (omega arith)) (sym (rw (lt-ltb n (suc m) (omega arith)) (ap p e ∙ nay))))
        (⊎_elim
        (λ lt. rw (lt-ltb n m lt, lt-ltb n (suc m) (omega arith)))
        (λ gt. rw (le-ltb n m (omega arith), le-ltb n (suc m) (omega arith))))
        (cases_order n m)

-- They climb.

module _ (f : Fixed) where
  beats-placed : (z x : ℕ) (xs : List ℕ) → f.class z < f.class x → Beats f z xs → Beats f z (placed f.class x xs)
  unfolding placed
  beats-placed z x [] lt b = lt
  beats-placed z x (y ∷ ys) lt b = cond_both (nat_lt (f.class x) (f.class y)) (x ∷ y ∷ ys) (y ∷ placed f.class x ys) (Beats f z) (λ _. lt) (λ _. b)

  pub climbs-placed : (x : ℕ) (xs : List ℕ) → Climbs f xs → ((y : ℕ) → among y xs ≡ true → f.class y ≢ f.class x) → Climbs f (placed f.class x xs)
  unfolding placed
  climbs-placed x [] up own = (tt, tt)
  climbs-placed x (y ∷ ys) up own =
      cond_both (nat_lt (f.class x) (f.class y)) (x ∷ y ∷ ys) (y ∷ placed f.class x ys) (Climbs f)
      (λ sure. (ltb-true _ _ sure, up))
      (λ nay.
      let le : f.class y ≤ f.class x = ltb-false _ _ nay in
      let ne : f.class y ≡ f.class x → ⊥ = own y (among-head y ys) in
      let lt : f.class y < f.class x = ⊎_elim (λ e. absurd (ne e)) (⊎_elim (λ l. l) (λ g. absurd (omega arith))) (cases_order (f.class y) (f.class x)) in
      (beats-placed y x ys lt up.0, climbs-placed x ys up.1 (λ z sure. own z (or_right (z == y) (among z ys) sure))))

  pub climbs-by_class : (p : ℕ → Bool) (m : ℕ) → ((a b : ℕ) → p a ≡ true → p b ≡ true → f.class a ≡ f.class b → a ≡ b) → Climbs f (by_class f.class p m)
  unfolding by_class
  climbs-by_class p zero own = tt
  climbs-by_class p (suc m) own =
      cond_both (p m) (placed f.class m (by_class f.class p m)) (by_class f.class p m) (Climbs f)
      (λ mine. climbs-placed m (by_class f.class p m) (climbs-by_class p m own)
      (λ y sure same.
      let parts = and_parts (nat_lt y m) (p y) (sym (among-by_class f.class p m y) ∙ sure) in
      let e : y ≡ m = own y m parts.1 mine same in
      let lt : y < m = ltb-true y m parts.0 in
      omega arith))
      (λ nay. climbs-by_class p m own)
