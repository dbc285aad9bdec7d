-- Finishing an inner line of a pile.
use Rattle.std.proofs.Common.{◌≡◌, ℕ, ◌+◌, true, false, eqb, Some, Ok, Err, Option, Result, sym, refl, ◌∙◌, subst, subst₂}
use Rattle.std.specs.Option.{option_eq}
use Rattle.controller.specs.declared.telling.Controller.{Ghosts}
use Rattle.controller.specs.declared.refusal.Refusal.{Refusal}
use Rattle.controller.specs.declared.refusal.Refusal.TheVariants.{NotALine, NotNewest}
use Rattle.controller.specs.declared.answer.Answer.{Answer}
use Rattle.controller.specs.Telling.{meaning}
use Rattle.controller.specs.Meaning.{Meaning, Lawful}
use Rattle.controller.specs.Rules.{Finishes, otherwise, newest, tops}
use Rattle.cascade.specs.declared.pile.Cascade.{Cascade}
use Rattle.cascade.specs.declared.pile.Part.TheVariants.{Inner}
use Rattle.cascade.specs.Pile.{pile}
use Rattle.cascade.specs.Tie.{Tied}
use Rattle.cascade.specs.Inside.{Informs, Passes}
use Rattle.cascade.specs.Told.{meant, Sound}
use Rattle.cascade.proofs.Goes.{went, goes, calls-pass}
use Rattle.cascade.proofs.Takings.{atop-newest, finishes-under, finishes-refused, finishes-inner}
use Rattle.cascade.proofs.Passing.{IsPart, has, inner-line, la, lb}

module _ {S T : Type 0} (O : Ghosts S) (I : Ghosts T) (lawO : (o : S) → O.sound o → Lawful (meaning O o)) (lawI : (i : T) → I.sound i → Lawful (meaning I i)) (p : Cascade S T) (sound : Sound O I p) (n k m : ℕ) (told : IsPart O I lawO lawI p sound n (Ok (Inner k m))) where
  abbrev a : Meaning
  a = meaning O p.outer

  abbrev b : Meaning
  b = meaning I p.inner

  at : (p.k ≡ Some k) × (a.fixed.width + m ≡ n)
  at = has O I lawO lawI p sound n (Ok (Inner k m)) told

  tied : Tied a k b
  tied = (sound k at.0).tied

  -- The inner has no line m.
  pub finish-none : (I.sound p.inner → false ≡ I.lines p.inner m) → Sound O I p × Finishes (meant O I p) n (Err NotALine) (meant O I p)
  finish-none bare = (sound, otherwise (sym (inner-line O I lawO lawI p sound n false k m told bare)) (refl, refl))

  module _ (yes : I.sound p.inner → true ≡ I.lines p.inner m) (line : Option ℕ) (newest-is : O.sound p.outer → line ≡ newest (O.stack p.outer)) where
    sure : b.fixed.line m ≡ true
    sure = sym (yes (sound k at.0).inner)

    tops-k : option_eq eqb line (Some k) ≡ tops a.state.stack k
    tops-k = atop-newest k a.state.stack line (newest-is (sound k at.0).outer)

    -- The outer's newest line is not k; the question for it left the outer o.
    pub finish-under : option_eq eqb line (Some k) ≡ false → (o : S) → o ≡ p.outer → Sound O I (went O I p o p.inner) × Finishes (meant O I p) n (Err NotNewest) (meant O I (went O I p o p.inner))
    finish-under under o as-it-was =
        subst (λ x. Sound O I (went O I p x p.inner) × Finishes (meant O I p) n (Err NotNewest) (meant O I (went O I p x p.inner))) (sym as-it-was)
        (goes O I p p k (λ x y. Finishes x n (Err NotNewest) y) at.0 refl (sound k at.0).outer (sound k at.0).inner
        (tied, subst (λ j. Finishes (pile a k b) j (Err NotNewest) (pile a k b)) at.1 (finishes-under a k b (la O I lawO lawI p sound k at.0) (lb O I lawO lawI p sound k at.0) tied m sure (sym tops-k ∙ under))))

    -- It is k, and the inner is asked.
    module _ (top : option_eq eqb line (Some k) ≡ true) (o : S) (as-it-was : o ≡ p.outer) (p' : Cascade S T) (same : p'.k ≡ p.k) where
      asked-inside : (r : Result Answer Refusal) → (I.sound p.inner → I.sound p'.inner × Finishes b m r (meaning I p'.inner)) → Informs O I k r o p'.inner p'.outer → O.sound p'.outer × I.sound p'.inner × Passes k Finishes m r a b (meaning O p'.outer) (meaning I p'.inner)
      asked-inside r called informs = calls-pass O I Finishes k m r p.outer p'.outer p.inner p'.inner called (subst (λ x. Informs O I k r x p'.inner p'.outer) as-it-was informs) (sound k at.0).outer (sound k at.0).inner

      -- The inner refuses.
      pub finish-refused : (e : Refusal) → (I.sound p.inner → I.sound p'.inner × Finishes b m (Err e) (meaning I p'.inner)) → Informs O I k (Err e) o p'.inner p'.outer → (r : Result Answer Refusal) → r ≡ Err e → Sound O I p' × Finishes (meant O I p) n r (meant O I p')
      finish-refused e called informs r is =
          let done = asked-inside (Err e) called informs in
          let i = meaning I p'.inner in
          let both = finishes-refused a k b (la O I lawO lawI p sound k at.0) (lb O I lawO lawI p sound k at.0) tied m sure e i (sym tops-k ∙ top) done.2.0 in
          goes O I p p' k (λ y z. Finishes y n r z) at.0 same done.0 done.1 (
            subst (λ x. Tied x k i) (sym done.2.1) both.0,
            subst₂ (λ x z. Finishes (pile a k b) n x (pile z k i)) (sym is) (sym done.2.1) (subst (λ j. Finishes (pile a k b) j (Err e) (pile a k i)) at.1 both.1),
          )

      -- The inner finishes m, and the outer finishes k.
      pub finish-inner : (x : Answer) → (I.sound p.inner → I.sound p'.inner × Finishes b m (Ok x) (meaning I p'.inner)) → Informs O I k (Ok x) o p'.inner p'.outer → (y : Result Answer Refusal) (o' : S) → (O.sound p'.outer → O.sound o' × Finishes (meaning O p'.outer) k y (meaning O o')) → Sound O I (went O I p' o' p'.inner) × Finishes (meant O I p) n (Ok x) (meant O I (went O I p' o' p'.inner))
      finish-inner x called informs y o' outside =
          let done = asked-inside (Ok x) called informs in
          let last = outside done.0 in
          let i = meaning I p'.inner in
          let both = finishes-inner a k b (la O I lawO lawI p sound k at.0) (lb O I lawO lawI p sound k at.0) tied m sure x i (meaning O p'.outer) (meaning O o') y (sym tops-k ∙ top) done.2.goes done.2.tells last.1 in
          goes O I p (went O I p' o' p'.inner) k (λ y z. Finishes y n (Ok x) z) at.0 same last.0 done.1
          (both.0, subst (λ j. Finishes (pile a k b) j (Ok x) (pile (meaning O o') k i)) at.1 both.1)
