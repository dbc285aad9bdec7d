-- The laws of the rules.
use Rattle.std.proofs.Common.{◌≡◌, ℕ, Bool, true, false, not, ◌&&◌, ◌||◌, ◌⊎◌, List, [], ◌∷◌, Some, None, sym, refl, ap, ◌∙◌, subst, inl, inr}
use Rattle.std.proofs.lemmas.Bool.{both_ways, false≢true, true≢false}
use Rattle.controller.specs.Meaning.{State, Meaning, Lawful, StateLaws}
use Rattle.controller.specs.Rules.{so, otherwise, marked, idle, risen, fallen, opening, taken, finished, onward, older, tops}
use Rattle.controller.specs.Laws.{Called, rises, falls, opens, shuts, takes, finishes, Ran, none, more, Releases, RuleLaws}
use Rattle.controller.proofs.Marks.{at_mark}
use Rattle.controller.proofs.Stacks.{tops-among}
use Rattle.controller.proofs.Keeping.{risen-lawful, fallen-lawful, opened-lawful, shut-lawful, taken-lawful, finished-lawful}

-- What a call leaves: the meaning before, or one with another state.
onto : (P : Meaning → Type 0) (m m' : Meaning) → m' ≡ m → P m → P m'
onto P m m' e p = subst P (sym e) p

call-fixed : (m m' : Meaning) → Called m m' → m'.fixed ≡ m.fixed
call-fixed m m' (rises n r (so _ y)) = ap (λ (x : Meaning). x.fixed) y.1
call-fixed m m' (rises n r (otherwise _ y)) = ap (λ (x : Meaning). x.fixed) y.1
call-fixed m m' (falls n r (so _ y)) = ap (λ (x : Meaning). x.fixed) y.1
call-fixed m m' (falls n r (otherwise _ y)) = ap (λ (x : Meaning). x.fixed) y.1
call-fixed m m' (opens n r (so _ y)) = ap (λ (x : Meaning). x.fixed) y.1
call-fixed m m' (opens n r (otherwise _ y)) = ap (λ (x : Meaning). x.fixed) y.1
call-fixed m m' (shuts n r (so _ (so _ y))) = ap (λ (x : Meaning). x.fixed) y.1
call-fixed m m' (shuts n r (so _ (otherwise _ y))) = ap (λ (x : Meaning). x.fixed) y.1
call-fixed m m' (shuts n r (otherwise _ y)) = ap (λ (x : Meaning). x.fixed) y.1
call-fixed m m' (takes None y) = ap (λ (x : Meaning). x.fixed) y.1
call-fixed m m' (takes (Some n) y) = ap (λ (x : Meaning). x.fixed) y.1
call-fixed m m' (finishes n r (so _ (so _ y))) = ap (λ (x : Meaning). x.fixed) y.1
call-fixed m m' (finishes n r (so _ (otherwise _ y))) = ap (λ (x : Meaning). x.fixed) y.1
call-fixed m m' (finishes n r (otherwise _ y)) = ap (λ (x : Meaning). x.fixed) y.1

-- The same meaning with another lawful state is lawful.
onward-lawful : (m m' : Meaning) (s : State) → Lawful m → m' ≡ onward m s → StateLaws m.fixed s → Lawful m'
onward-lawful m m' s h e k = onto Lawful (onward m s) m' e (record { fixed = h.fixed; state = k })

pub call-lawful : (m m' : Meaning) → Lawful m → Called m m' → Lawful m'
call-lawful m m' h (rises n r (so _ y)) = onward-lawful m m' _ h y.1 (risen-lawful m.fixed m.state n h.state)
call-lawful m m' h (rises n r (otherwise _ y)) = onto Lawful m m' y.1 h
call-lawful m m' h (falls n r (so _ y)) = onward-lawful m m' _ h y.1 (fallen-lawful m.fixed m.state n h.state)
call-lawful m m' h (falls n r (otherwise _ y)) = onto Lawful m m' y.1 h
call-lawful m m' h (opens n r (so _ y)) = onward-lawful m m' _ h y.1 (opened-lawful m.fixed m.state n h.state)
call-lawful m m' h (opens n r (otherwise _ y)) = onto Lawful m m' y.1 h
call-lawful m m' h (shuts n r (so _ (so _ y))) = onto Lawful m m' y.1 h
call-lawful m m' h (shuts n r (so _ (otherwise out y))) = onward-lawful m m' _ h y.1 (shut-lawful m.fixed m.state n h.state out)
call-lawful m m' h (shuts n r (otherwise _ y)) = onto Lawful m m' y.1 h
call-lawful m m' h (takes None y) = onto Lawful m m' y.1 h
call-lawful m m' h (takes (Some n) y) = onward-lawful m m' _ h y.1 (taken-lawful m.fixed m.state n h.state y.0.ready)
call-lawful m m' h (finishes n r (so _ (so top y))) = onward-lawful m m' _ h y.1 (finished-lawful m.fixed m.state n h.state top)
call-lawful m m' h (finishes n r (so _ (otherwise _ y))) = onto Lawful m m' y.1 h
call-lawful m m' h (finishes n r (otherwise _ y)) = onto Lawful m m' y.1 h

run-fixed : (m m' : Meaning) → Ran m m' → m'.fixed ≡ m.fixed
run-fixed m _ none = refl
run-fixed m m'' (more {m'} ran c) = call-fixed m' m'' c ∙ run-fixed m m' ran

run-lawful : (m m' : Meaning) → Lawful m → Ran m m' → Lawful m'
run-lawful m _ h none = h
run-lawful m m'' h (more {m'} ran c) = call-lawful m' m'' (run-lawful m m' h ran) c

-- Waiting before and not after: not so where the call left the meaning as it was.
stays : (m m' : Meaning) (j : ℕ) (P : Type 0) → m' ≡ m → m.state.waiting j ≡ true → m'.state.waiting j ≡ false → P
stays m m' j P e on off = absurd (both_ways _ off (ap (λ (x : Meaning). x.state.waiting j) e ∙ on))

-- The mark that a call set decides at its own line, and at no other.
left_at : (m m' : Meaning) (s : State) (n j : ℕ) (b : Bool) → m' ≡ onward m s → s.waiting ≡ marked m.state.waiting n b → m.state.waiting j ≡ true → m'.state.waiting j ≡ false → (j ≡ n) × (b ≡ false)
left_at m m' s n j b e w on off =
    let after : marked m.state.waiting n b j ≡ false = sym (ap (λ (f : ℕ → Bool). f j) w) ∙ sym (ap (λ (x : Meaning). x.state.waiting j) e) ∙ off in
    at_mark (λ x. x ≡ false → (j ≡ n) × (b ≡ false)) m.state.waiting n j b (λ same here. (same, here)) (λ ne there. absurd (both_ways _ there on)) after

keeps-waiting : (w t : Bool) → w ≡ true → (w || t) ≡ false → ⊥
keeps-waiting true t e f = true≢false f
keeps-waiting false t e f = false≢true e

falls-fleeting : (w b : Bool) → w ≡ true → (w && not b) ≡ false → b ≡ true
falls-fleeting true true e f = refl
falls-fleeting true false e f = absurd (true≢false f)
falls-fleeting false b e f = absurd (false≢true e)

waits-law : (m m' : Meaning) (c : Called m m') (n : ℕ) → Lawful m → m.state.waiting n ≡ true → m'.state.waiting n ≡ false → Releases c n
waits-law m m' (rises k r (so _ y)) n h on off =
    let at = left_at m m' (risen m.state k) k n _ y.1 refl on off in
    keeps-waiting (m.state.waiting k) (idle m.state k) (ap m.state.waiting (sym at.0) ∙ on) at.1
waits-law m m' (rises k r (otherwise _ y)) n h on off = stays m m' n ⊥ y.1 on off
waits-law m m' (falls k r (so _ y)) n h on off =
    let at = left_at m m' (fallen m.fixed m.state k) k n _ y.1 refl on off in
    (sym at.0, ap m.fixed.fleeting at.0 ∙ falls-fleeting (m.state.waiting k) (m.fixed.fleeting k) (ap m.state.waiting (sym at.0) ∙ on) at.1)
waits-law m m' (falls k r (otherwise _ y)) n h on off = stays m m' n _ y.1 on off
waits-law m m' (opens k r (so _ y)) n h on off = both_ways _ (sym (ap (λ (x : Meaning). x.state.waiting n) y.1) ∙ off) on
waits-law m m' (opens k r (otherwise _ y)) n h on off = stays m m' n ⊥ y.1 on off
waits-law m m' (shuts k r (so _ (so _ y))) n h on off = stays m m' n ⊥ y.1 on off
waits-law m m' (shuts k r (so _ (otherwise _ y))) n h on off = both_ways _ (sym (ap (λ (x : Meaning). x.state.waiting n) y.1) ∙ off) on
waits-law m m' (shuts k r (otherwise _ y)) n h on off = stays m m' n ⊥ y.1 on off
waits-law m m' (takes None y) n h on off = stays m m' n _ y.1 on off
waits-law m m' (takes (Some k) y) n h on off =
    let at = left_at m m' (taken m.state k) k n false y.1 refl on off in ap Some (sym at.0)
waits-law m m' (finishes k r (so _ (so top y))) n h on off =
    let at = left_at m m' (finished m.state k) k n _ y.1 refl on off in
    both_ways _ (h.state.served_idle k (tops-among k m.state.stack top)) (ap m.state.waiting (sym at.0) ∙ on)
waits-law m m' (finishes k r (so _ (otherwise _ y))) n h on off = stays m m' n ⊥ y.1 on off
waits-law m m' (finishes k r (otherwise _ y)) n h on off = stays m m' n ⊥ y.1 on off

-- The stack as it was, one more on top, or the top gone.
abbrev TopOnly : Meaning → Meaning → Type 0
TopOnly m m' =
    (m'.state.stack ≡ m.state.stack)
    ⊎ (((n : ℕ) × (m'.state.stack ≡ n ∷ m.state.stack)) ⊎ ((n : ℕ) × (m.state.stack ≡ n ∷ m'.state.stack)))

same-stack : (m m' : Meaning) (s : State) → m' ≡ onward m s → s.stack ≡ m.state.stack → TopOnly m m'
same-stack m m' s e k = inl (ap (λ (x : Meaning). x.state.stack) e ∙ k)

unchanged : (m m' : Meaning) → m' ≡ m → TopOnly m m'
unchanged m m' e = inl (ap (λ (x : Meaning). x.state.stack) e)

popped : (n : ℕ) (xs : List ℕ) → tops xs n ≡ true → (k : ℕ) × (xs ≡ k ∷ older xs)
popped n [] top = absurd (false≢true top)
popped n (x ∷ xs) top = (x, refl)

top-only-law : (m m' : Meaning) → Called m m' → TopOnly m m'
top-only-law m m' (rises n r (so _ y)) = same-stack m m' (risen m.state n) y.1 refl
top-only-law m m' (rises n r (otherwise _ y)) = unchanged m m' y.1
top-only-law m m' (falls n r (so _ y)) = same-stack m m' (fallen m.fixed m.state n) y.1 refl
top-only-law m m' (falls n r (otherwise _ y)) = unchanged m m' y.1
top-only-law m m' (opens n r (so _ y)) = same-stack m m' (opening m.state n true) y.1 refl
top-only-law m m' (opens n r (otherwise _ y)) = unchanged m m' y.1
top-only-law m m' (shuts n r (so _ (so _ y))) = unchanged m m' y.1
top-only-law m m' (shuts n r (so _ (otherwise _ y))) = same-stack m m' (opening m.state n false) y.1 refl
top-only-law m m' (shuts n r (otherwise _ y)) = unchanged m m' y.1
top-only-law m m' (takes None y) = unchanged m m' y.1
top-only-law m m' (takes (Some n) y) = inr (inl (n, ap (λ (x : Meaning). x.state.stack) y.1))
top-only-law m m' (finishes n r (so _ (so top y))) =
    let p = popped n m.state.stack top in
    inr (inr (p.0, p.1 ∙ ap (λ xs. p.0 ∷ xs) (sym (ap (λ (x : Meaning). x.state.stack) y.1))))
top-only-law m m' (finishes n r (so _ (otherwise _ y))) = unchanged m m' y.1
top-only-law m m' (finishes n r (otherwise _ y)) = unchanged m m' y.1

pub rule-laws : RuleLaws
unfolding RuleLaws
rule-laws = record { fixed = run-fixed; lawful = run-lawful; waits = waits-law; top_only = top-only-law }
