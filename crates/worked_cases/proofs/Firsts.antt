-- The first ready line, found by looking at every number below the width.
use Rattle.std.proofs.Common.{◌≡◌, ℕ, zero, suc, ◌<◌, ◌≤◌, Bool, true, false, cond, ◌&&◌, ltb, List, [], ◌∷◌, Some, None, Option, refl, subst, ⊎_elim, arith}
use Rattle.std.proofs.lemmas.Bool.{ltb-true, ltb-false, lt-ltb, and_from, and_parts, both_ways, cases_lt, cond_both}
use Rattle.controller.specs.Meaning.{Fixed, State, Meaning, Beats, Ready}

module _ (f : Fixed) (s : State) where
  abbrev pub told : Meaning
  told = record { fixed = f; state = s }

  -- The line beats the stack, and is ready, as tests.
  abbrev pub beats : ℕ → List ℕ → Bool
  beats n [] = true
  beats n (x ∷ xs) = ltb (f.class n) (f.class x)

  abbrev pub is_ready : ℕ → Bool
  is_ready n = f.line n && (s.opened n && (s.waiting n && beats n s.stack))

  -- The first of those found so far and of k, if k is ready.
  abbrev pub added : Bool → ℕ → Option ℕ → Option ℕ
  added false k o = o
  added true k None = Some k
  added true k (Some j) = Some (cond (ltb (f.rank k) (f.rank j)) k j)

  abbrev pub first_below : ℕ → Option ℕ
  first_below zero = None
  first_below (suc k) = added (is_ready k) k (first_below k)

  -- The tests pass exactly of ready lines.
  beats-to : (n : ℕ) (xs : List ℕ) → Beats f n xs → beats n xs ≡ true
  beats-to n [] b = refl
  beats-to n (x ∷ xs) b = lt-ltb _ _ b

  beats-from : (n : ℕ) (xs : List ℕ) → beats n xs ≡ true → Beats f n xs
  beats-from n [] e = tt
  beats-from n (x ∷ xs) e = ltb-true _ _ e

  ready-to : (n : ℕ) → Ready told n → is_ready n ≡ true
  ready-to n r = and_from _ _ r.line (and_from _ _ r.opened (and_from _ _ r.waiting (beats-to n s.stack r.urgent)))

  ready-from : (n : ℕ) → is_ready n ≡ true → Ready told n
  ready-from n e =
      let a = and_parts (f.line n) _ e in
      let b = and_parts (s.opened n) _ a.1 in
      let c = and_parts (s.waiting n) _ b.1 in
      record { line = a.0; opened = b.0; waiting = c.0; urgent = beats-from n s.stack c.1 }

  -- What was found below k is the first of the ready lines there, or there is none.
  abbrev pub FirstOf : ℕ → Option ℕ → Type 0
  FirstOf k None = (j : ℕ) → j < k → Ready told j → ⊥
  FirstOf k (Some n) = Ready told n × ((j : ℕ) → j < k → Ready told j → f.rank n ≤ f.rank j)

  -- A number below suc k is below k, or is k.
  split : (k j : ℕ) (P : ℕ → Type 0) → j < suc k → (j < k → P j) → P k → P j
  split k j P lt below here = ⊎_elim below (λ le. subst P (omega arith) here) (cases_lt j k)

  found-more : (k : ℕ) (b : Bool) → is_ready k ≡ b → (o : Option ℕ) → FirstOf k o → FirstOf (suc k) (added b k o)
  found-more k false e None a = λ j lt. split k j (λ i. Ready told i → ⊥) lt (a j) (λ r. both_ways _ e (ready-to k r))
  found-more k false e (Some n) a = (a.0, λ j lt. split k j (λ i. Ready told i → f.rank n ≤ f.rank i) lt (a.1 j) (λ r. absurd (both_ways _ e (ready-to k r))))
  found-more k true e None a = (ready-from k e, λ j lt. split k j (λ i. Ready told i → f.rank k ≤ f.rank i) lt (λ h r. absurd (a j h r)) (λ r. omega arith))
  found-more k true e (Some n) a = cond_both (ltb (f.rank k) (f.rank n)) k n (λ i. FirstOf (suc k) (Some i))
      (λ h. let first : f.rank k < f.rank n = ltb-true _ _ h in
      (ready-from k e, λ j lt. split k j (λ i. Ready told i → f.rank k ≤ f.rank i) lt (λ l r. omega (arith, a.1 j l r)) (λ r. omega arith)))
      (λ h. let first : f.rank n ≤ f.rank k = ltb-false _ _ h in
      (a.0, λ j lt. split k j (λ i. Ready told i → f.rank n ≤ f.rank i) lt (a.1 j) (λ r. first)))

  pub first_below-found : (k : ℕ) → FirstOf k (first_below k)
  first_below-found zero = λ j lt. absurd (omega arith)
  first_below-found (suc k) = found-more k (is_ready k) refl (first_below k) (first_below-found k)
