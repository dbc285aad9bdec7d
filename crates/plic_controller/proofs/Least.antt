-- Of the numbers that pass a test, one has the least rank.
use Rattle.std.proofs.Common.{◌≡◌, ℕ, zero, suc, ◌<◌, ◌≤◌, Bool, true, ◌⊎◌, inl, inr, ⊎_elim, arith, below_more}
use Rattle.std.proofs.lemmas.Bool.{cases_Bool, cases_lt, both_ways}

-- Number n passes, and no number below m that passes has a smaller rank.
pub record Least (test : ℕ → Bool) (rank : ℕ → ℕ) (m n : ℕ) : Type 0 where
  pub passes : test n ≡ true
  pub first : (j : ℕ) → j < m → test j ≡ true → rank n ≤ rank j

module _ (test : ℕ → Bool) (rank : ℕ → ℕ) where
  abbrev None : ℕ → Type 0
  None m = (j : ℕ) → j < m → test j ≡ true → ⊥

  -- What holds at m and below it holds below m + 1.
  below : (P : ℕ → Type 0) (m : ℕ) → P m → ((j : ℕ) → j < m → P j) → (j : ℕ) → j < suc m → P j
  below P m here under j lt = below_more P m under here j (omega arith)

  -- One number more that passes, of a rank that is not the larger.
  takes : (m n : ℕ) → Least test rank m n → rank m ≤ rank n → test m ≡ true → Least test rank (suc m) m
  takes m n l le pass' = record {
    passes = pass';
    first = below (λ j. test j ≡ true → rank m ≤ rank j) m (λ _. omega arith) (λ j less pass. let h = l.first j less pass in omega arith);
  }

  keeps : (m n : ℕ) → Least test rank m n → (test m ≡ true → rank n ≤ rank m) → Least test rank (suc m) n
  keeps m n l le = record {
    passes = l.passes;
    first = below (λ j. test j ≡ true → rank n ≤ rank j) m le l.first;
  }

  begins : (m : ℕ) → None m → test m ≡ true → Least test rank (suc m) m
  begins m none pass' = record {
    passes = pass';
    first = below (λ j. test j ≡ true → rank m ≤ rank j) m (λ _. omega arith) (λ j less pass. absurd (none j less pass));
  }

  pub least : (m : ℕ) → None m ⊎ ((n : ℕ) × Least test rank m n)
  least zero = inl (λ j lt _. omega arith)
  least (suc m) =
      ⊎_elim
      (λ none. ⊎_elim
      (λ pass'. inr (m, begins m none pass'))
      (λ fail. inl (below (λ j. test j ≡ true → ⊥) m (both_ways _ fail) none))
      (cases_Bool (test m)))
      (λ got. ⊎_elim
      (λ pass'. ⊎_elim
      (λ lt. inr (m, takes m got.0 got.1 (omega arith) pass'))
      (λ ge. inr (got.0, keeps m got.0 got.1 (λ _. ge)))
      (cases_lt (rank m) (rank got.0)))
      (λ fail. inr (got.0, keeps m got.0 got.1 (λ pass'. absurd (both_ways _ fail pass'))))
      (cases_Bool (test m)))
      (least m)
