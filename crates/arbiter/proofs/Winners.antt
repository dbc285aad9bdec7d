-- What goes on from all leaves is the winner, and there is one winner.
use Rattle.std.proofs.Common.{◌≡◌, ℕ, ◌<◌, Bool, List, length, Some, None, Option, refl, ap, ⊎_elim, subst, arith}
use Rattle.std.proofs.lemmas.Bool.{cases_lt, cases_order, both_ways}
use Rattle.std.proofs.lemmas.List.{get_or_past}
use Rattle.arbiter.specs.declared.tree.Entrant.{Entrant}
use Rattle.arbiter.specs.Winning.{Holds, First, Winner}
use Rattle.arbiter.specs.Matches.{Best, leaf_of}

-- A leaf that holds a key lies within the leaves.
pub holds-within : {K : Type 0} (xs : List (Option K)) (j : ℕ) (k : K) → Holds xs j k → j < length xs
holds-within xs j k h =
    ⊎_elim (λ lt. lt)
    (λ ge. let past = get_or_past xs j None ge in cc)
    (cases_lt j (length xs))

-- The best of all leaves wins.
pub whole : {K : Type 0} (leq : K → K → Bool) (xs : List (Option K)) (o : Option (Entrant K)) → Best leq xs 0 o → Winner leq xs (leaf_of o)
whole leq xs None p = p
whole leq xs (Some e) p =
    let place : p.0 ≡ e.leaf = omega arith in
    subst (First leq xs) place (record { key = e.key; within = p.2; held = p.3; leads = p.4; lowest = p.5 })

-- Two winners are the same.
pub one-winner : {K : Type 0} (leq : K → K → Bool) (xs : List (Option K)) (r s : Option ℕ) → Winner leq xs r → Winner leq xs s → r ≡ s
one-winner leq xs None None v w = refl
one-winner leq xs None (Some j) v w = absurd (v j w.key w.held)
one-winner leq xs (Some i) None v w = absurd (w i v.key v.held)
one-winner leq xs (Some i) (Some j) v w =
    ⊎_elim (λ e. ap Some e)
    (⊎_elim
    (λ lt. absurd (both_ways _ (w.lowest i v.key lt v.held) (v.leads j w.key w.held)))
    (λ gt. absurd (both_ways _ (v.lowest j w.key gt w.held) (w.leads i v.key v.held))))
    (cases_order i j)
