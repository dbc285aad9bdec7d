-- What it means that a number is in one part of a pile, or in neither.
use Rattle.std.proofs.Common.{◌≡◌, ℕ, ◌+◌, ◌<◌, ◌≢◌, ◌⊎◌, Some, None, Ok, Err, Option, Result, sym, refl, ap, subst, inl, inr, ⊎_elim, arith}
use Rattle.std.proofs.lemmas.Bool.{cases_eq, cases_lt, eq-eqb, ne_eqb, lt-ltb, le-ltb}
use Rattle.controller.specs.declared.refusal.Refusal.{Refusal}
use Rattle.controller.specs.declared.refusal.Refusal.TheVariants.{NotALine}
use Rattle.cascade.specs.declared.pile.Part.{Part}
use Rattle.cascade.specs.declared.pile.Part.TheVariants.{Outer, Inner}
use Rattle.cascade.specs.Parts.{part_of}

-- What is known of n where that is its part.
abbrev pub Has : Option ℕ → ℕ → ℕ → Result Part Refusal → Type 0
Has k w n (Err e) = (e ≡ NotALine) × ((k ≡ None) ⊎ (k ≡ Some n))
Has k w n (Ok Outer) = (j : ℕ) × (k ≡ Some j) × (n < w) × (n ≢ j)
Has k w n (Ok (Inner j m)) = (k ≡ Some j) × (w + m ≡ n)

pub has_part : (k : Option ℕ) (w n : ℕ) → Has k w n (part_of k w n)
has_part None w n = (refl, inl refl)
has_part (Some j) w n =
    ⊎_elim
    (λ e. rw (eq-eqb n j e) (refl, inr (ap Some (sym e))))
    (λ ne. ⊎_elim
    (λ lt. rw (ne_eqb n j ne, lt-ltb n w lt) (j, refl, lt, ne))
    (λ le. rw (ne_eqb n j ne, le-ltb n w le) (refl, omega arith))
    (cases_lt n w))
    (cases_eq n j)

-- As it is told.
pub has-told : (k : Option ℕ) (w n : ℕ) (part : Result Part Refusal) → part ≡ part_of k w n → Has k w n part
has-told k w n part e = subst (Has k w n) (sym e) (has_part k w n)
