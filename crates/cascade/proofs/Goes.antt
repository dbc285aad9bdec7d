-- From the meanings of the parts to a value of Cascade.
use Rattle.std.specs.Prelude.{◌≡◌, ℕ, ◌<◌, Some, Ok, Err, Result}
use Rattle.std.proofs.Common.{sym, ap, ap₂, subst, subst₂, ◌∙◌}
use Rattle.std.proofs.lemmas.Option.{same_Some}
use Rattle.controller.specs.declared.refusal.Refusal.{Refusal}
use Rattle.controller.specs.declared.answer.Answer.{Answer}
use Rattle.controller.specs.declared.telling.Controller.{Ghosts}
use Rattle.controller.specs.Rules.{Untouched}
use Rattle.controller.specs.Telling.{meaning}
use Rattle.controller.specs.Meaning.{Meaning}
use Rattle.controller.proofs.Refused.{Rule}
use Rattle.cascade.specs.declared.pile.Cascade.{Cascade}
use Rattle.cascade.specs.Pile.{pile}
use Rattle.cascade.specs.Tie.{Hanging, Tied, Tells}
use Rattle.cascade.specs.Inside.{KeepsBoth, Informs, Passes}
use Rattle.cascade.specs.Told.{hung, meant, Joined, Sound, Unmoved}
use Rattle.cascade.proofs.Ties.{told-tied, told-unseen}

module _ {S T : Type 0} (O : Ghosts S) (I : Ghosts T) where
  -- The pile once its parts are o and i.
  abbrev pub went : Cascade S T → S → T → Cascade S T
  went p o i = record { outer = o; k = p.k; inner = i }

  -- A refusal that left the outer, or both parts, as they were left the pile as it was. docs/PORT.md names these two and the
  -- next; no proof needs them.
  pub unmoved-outer : (p : Cascade S T) (r : Result Answer Refusal) (o : S) → Untouched r p.outer o → Untouched r p (went p o p.inner)
  unmoved-outer p (Ok x) o h = tt
  unmoved-outer p (Err e) o h = ap (λ y. went p y p.inner) h

  pub unmoved-both : (p : Cascade S T) (r : Result Answer Refusal) (o : S) (i : T) → Untouched r p.outer o → Untouched r p.inner i → Untouched r p (went p o i)
  unmoved-both p (Ok x) o i h j = tt
  unmoved-both p (Err e) o i h j = ap₂ (went p) h j

  -- A refused call that left the pile as it was left what both parts tell.
  pub unmoved-parts : (p : Cascade S T) (r : Result Answer Refusal) (q : Cascade S T) → Untouched r p q → Unmoved O I r p q
  unmoved-parts p (Ok x) q h = λ sound e is. cc
  unmoved-parts p (Err f) q h = λ sound e is. (ap (λ y. meaning O y.outer) h, ap (λ y. meaning I y.inner) h)

  -- Parts that fit go on as those of p'.
  pub goes : (p p' : Cascade S T) (k : ℕ) (Q : Meaning → Meaning → Type 0) → p.k ≡ Some k → p'.k ≡ p.k → O.sound p'.outer → I.sound p'.inner → Tied (meaning O p'.outer) k (meaning I p'.inner) × Q (pile (meaning O p.outer) k (meaning I p.inner)) (pile (meaning O p'.outer) k (meaning I p'.inner)) → Sound O I p' × Q (meant O I p) (meant O I p')
  goes p p' k Q at same so si h =
      let at' : p'.k ≡ Some k = same ∙ at in (
        (λ j e. subst (λ x. Joined O I p' x) (same_Some k j (sym at' ∙ e)) (record { outer = so; inner = si; tied = h.0 })),
        subst₂ (λ x y. Q (hung (meaning O p.outer) x (meaning I p.inner)) (hung (meaning O p'.outer) y (meaning I p'.inner))) (sym at) (sym at') h.1,
      )

  -- A call of the inner that keeps the rule Q passes to it.
  pub calls-pass : (Q : Rule) (k m : ℕ) (r : Result Answer Refusal) (o o' : S) (i i' : T) → (I.sound i → I.sound i' × Q (meaning I i) m r (meaning I i')) → Informs O I k r o i' o' → KeepsBoth O I (Passes k Q m r) o i o' i'
  calls-pass Q k m (Ok x) o o' i i' keeps informs so si =
      let done = keeps si in
      let kept = informs so done.0 in
      (kept.0, done.0, record { goes = done.1; tells = kept.2 })
  calls-pass Q k m (Err e) o o' i i' keeps informs so si =
      let done = keeps si in
      (subst (λ x. O.sound x) (sym informs) so, done.0, (done.1, ap (meaning O) informs))

-- An inner call, after which the outer is told of k.
pub told-goes : (a : Meaning) (k : ℕ) (b a' : Meaning) (Q : Meaning → Type 0) → k < a.fixed.width → Hanging a k b × Q (pile a k b) → Tells a k b a' → Tied a' k b × Q (pile a' k b)
told-goes a k b a' Q kw h tells = (told-tied a k b a' h.0 tells, subst Q (sym (told-unseen a k b a' h.0 tells kw)) h.1)
