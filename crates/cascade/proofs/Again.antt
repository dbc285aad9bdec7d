-- Of a tied pair: what the outer is told again of k changes nothing. So an outer that is not told is as one that is.
-- docs/PORT.md names the lemmas of this file; no proof needs them.
use Rattle.std.proofs.Common.{◌≡◌, ℕ, Bool, true, false, cond, not, ◌&&◌, ◌||◌, Ok, Err, Result, sym, ap, refl, subst₂, ◌∙◌}
use Rattle.std.proofs.lemmas.Bool.{both_ways}
use Rattle.controller.specs.declared.refusal.Refusal.{Refusal}
use Rattle.controller.specs.declared.answer.Answer.{Answer}
use Rattle.controller.specs.declared.answer.Answer.TheVariants.{Accepted, Withdrawn, Noted}
use Rattle.controller.specs.Meaning.{Meaning, Lawful, in_service}
use Rattle.controller.specs.Rules.{Signals, marked, onward, idle, so}
use Rattle.controller.proofs.Refused.{Rule, RefusedSame}
use Rattle.cascade.specs.Inside.{Inside, Passes}
use Rattle.cascade.specs.Tie.{Tied, Told, Tells}
use Rattle.controller.proofs.Marks.{marked-same, state-same}
use Rattle.cascade.proofs.Ties.{told_of, told-after}

module _ (a : Meaning) (k : ℕ) (b : Meaning) (la : Lawful a) (t : Tied a k b) where
  one-signal : (u v : Bool) → Signals b u → Signals b v → u ≡ v
  one-signal true true h i = refl
  one-signal true false h i = absurd (i h.0 h.1.ready)
  one-signal false true h i = absurd (h i.0 i.1.ready)
  one-signal false false h i = refl

  raised : a.state.high k ≡ true → (w s : Bool) → a.state.waiting k ≡ w → in_service a.state k ≡ s → (w || not (w || s)) ≡ w
  raised high true s ew es = refl
  raised high false true ew es = refl
  raised high false false ew es = absurd (both_ways (a.state.waiting k) ew (la.state.high_waits k t.hanging.line high es))

  again : (v : Bool) → a.state.high k ≡ v → onward a (told_of a k v) ≡ a
  again true high = ap (onward a) (state-same refl
      (ap (marked a.state.high k) (sym high) ∙ marked-same a.state.high k)
      (ap (marked a.state.waiting k) (raised high (a.state.waiting k) (in_service a.state k) refl refl) ∙ marked-same a.state.waiting k)
      refl)
  again false low =
      let none : a.state.waiting k ≡ false = la.state.low_fleeting k t.hanging.line t.hanging.fleeting low in
      ap (onward a) (state-same refl
      (ap (marked a.state.high k) (sym low) ∙ marked-same a.state.high k)
      (ap (marked a.state.waiting k) (ap (λ w. w && not (a.fixed.fleeting k)) none ∙ sym none) ∙ marked-same a.state.waiting k)
      refl)

  pub told-again : (a' : Meaning) → Tells a k b a' → a' ≡ a
  told-again a' tells = told-after a k b a' t.hanging.line tells ∙ again tells.calls (one-signal (a.state.high k) tells.calls t.calls tells.signals)

  still : (v : Bool) → a.state.high k ≡ v → (r : Result Answer Refusal) × Told v a k r a
  still true high = (Ok (cond (idle a.state k) Accepted Noted), so t.hanging.line (refl, sym (again true high)))
  still false low = (Ok (cond (a.state.waiting k && a.fixed.fleeting k) Withdrawn Noted), so t.hanging.line (refl, sym (again false low)))

  told-still : Tells a k b a
  told-still = let s = still (a.state.high k) refl in record { calls = a.state.high k; signals = t.calls; answer = s.0; told = s.1 }

  -- A call that passes to the inner is one inside, refused or not.
  pub passes-inside : (Q : Rule) → RefusedSame Q → (m : ℕ) (r : Result Answer Refusal) (a' b' : Meaning) → Passes k Q m r a b a' b' → Inside k (λ y y'. Q y m r y') a b a' b'
  passes-inside Q same m (Ok x) a' b' h = h
  passes-inside Q same m (Err e) a' b' h = record { goes = h.0; tells = subst₂ (λ x y. Tells a k y x) (sym h.1) (sym (same b m e b' h.0)) told-still }
