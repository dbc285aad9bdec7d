-- The lowest level of a set: it is one, none is lower, and there is no other such.
use Rattle.std.proofs.Common.{◌≡◌, ℕ, zero, suc, ◌+◌, ◌<◌, ◌≤◌, true, false, Some, None, Option, sym, refl, ap, ◌∙◌, subst, inl, inr, ⊎_elim, arith}
use Rattle.std.proofs.lemmas.Bool.{cases_Bool, cases_order, cases_eq, cond-true, cond-false, both_ways}
use Rattle.i8259a.specs.Bits.{bit, lowest, lowest_from}

-- r is the lowest level of x from a up to b, or there is none.
abbrev pub LowestIn : ℕ → ℕ → ℕ → Option ℕ → Type 0
LowestIn a b x None = (n : ℕ) → a ≤ n → n < b → bit x n ≡ false
LowestIn a b x (Some i) = (a ≤ i) × (i < b) × (bit x i ≡ true) × ((n : ℕ) → a ≤ n → n < i → bit x n ≡ false)

abbrev pub Lowest : ℕ → Option ℕ → Type 0
Lowest = LowestIn 0 8

-- One level more at the bottom, which the set lacks.
lower : (a b x : ℕ) (r : Option ℕ) → bit x a ≡ false → LowestIn (suc a) b x r → LowestIn a b x r
lower a b x None e h = λ n le lt. ⊎_elim (λ q. ap (bit x) q ∙ e) (λ q. h n (omega arith) lt) (cases_eq n a)
lower a b x (Some i) e h =
    (omega arith, h.1, h.2, λ n le lt. ⊎_elim (λ q. ap (bit x) q ∙ e) (λ q. h.3 n (omega arith) lt) (cases_eq n a))

found_from : (k a x : ℕ) → LowestIn a (a + k) x (lowest_from k a x)
unfolding lowest_from
found_from zero a x = λ n le lt. absurd (omega arith)
found_from (suc k) a x = elim (cases_Bool (bit x a)) [
  | inl e ↦ subst (LowestIn a (a + suc k) x) (sym (cond-true _ _ _ e)) (omega arith, omega arith, e, λ n le lt. absurd (omega arith))
  | inr e ↦ subst (LowestIn a (a + suc k) x) (sym (cond-false _ _ _ e)) (lower a (a + suc k) x _ e (subst (λ b. LowestIn (suc a) b x (lowest_from k (suc a) x)) (omega arith) (found_from k (suc a) x)))
]

pub lowest-is : (x : ℕ) → Lowest x (lowest x)
lowest-is x = found_from 8 0 x

pub one-lowest : (x : ℕ) (r s : Option ℕ) → Lowest x r → Lowest x s → r ≡ s
one-lowest x None None v w = refl
one-lowest x None (Some j) v w = absurd (both_ways _ (v j (omega arith) w.1) w.2)
one-lowest x (Some i) None v w = absurd (both_ways _ (w i (omega arith) v.1) v.2)
one-lowest x (Some i) (Some j) v w =
    ⊎_elim (λ e. ap Some e)
    (⊎_elim
    (λ lt. absurd (both_ways _ (w.3 i (omega arith) lt) v.2))
    (λ gt. absurd (both_ways _ (v.3 j (omega arith) gt) w.2)))
    (cases_order i j)
