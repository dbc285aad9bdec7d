-- An array made by calls of a function that stays as it is: each element is what the call at its index gives.
use Rattle.std.proofs.Common.{◌≡◌, ℕ, zero, suc, ◌+◌, ◌<◌, ◌≤◌, List, get_or, sym, ◌∙◌, subst, ⊎_elim, arith}
use Rattle.std.proofs.lemmas.Bool.{cases_eq}
use Rattle.std.specs.Array.{IsFromFnResultFrom, IsFromFnResult}
use Rattle.std.specs.Fn.{Called}
use denote.Param.Members.{Mut}

module _ {F B : Type 0} (g : Mut F (ℕ × Unit {0}) B) (f : F) (h : ℕ → B) (m : ℕ) (ys : List B)
    (gives : (i : ℕ) (y : B) (q : F) → i < m → Called g f (i, tt) y q → (q ≡ f) × (y ≡ h i)) where
  made-from : (n i : ℕ) → i + n ≤ m → IsFromFnResultFrom g f ys i n → (j : ℕ) (d : B) → i ≤ j → j < i + n → get_or ys j d ≡ h j
  made-from zero i le made j d ij jn = absurd (omega arith)
  made-from (suc n) i le made j d ij jn =
      let now = gives i made.1 made.0 (omega arith) made.3 in
      ⊎_elim
      (λ e. subst (λ k. get_or ys k d ≡ h k) (sym e) (made.2.1 d ∙ now.1))
      (λ ne. made-from n (i + 1) (omega arith) (subst (λ q. IsFromFnResultFrom g q ys (i + 1) n) now.0 made.4) j d (omega arith) (omega arith))
      (cases_eq j i)

  pub made : IsFromFnResult g f ys m → (j : ℕ) (d : B) → j < m → get_or ys j d ≡ h j
  made r j d lt = made-from m 0 (omega arith) r.each j d (omega arith) (omega arith)
