-- The making of a pile whose parts fit, of values of the parts.
use Rattle.std.proofs.Common.{◌≡◌, ℕ, true, is_ok, Some, Result, sym, subst, subst₂, ◌∙◌}
use Rattle.std.proofs.lemmas.Option.{same_Some}
use Rattle.controller.specs.declared.telling.Controller.{Ghosts}
use Rattle.controller.specs.declared.refusal.Refusal.{Refusal}
use Rattle.controller.specs.declared.answer.Answer.{Answer}
use Rattle.controller.specs.Telling.{meaning}
use Rattle.controller.specs.Meaning.{Meaning, Lawful}
use Rattle.controller.specs.Rules.{Opens, so}
use Rattle.cascade.specs.declared.pile.Cascade.{Cascade}
use Rattle.cascade.specs.Pile.{pile}
use Rattle.cascade.specs.Tie.{Tells}
use Rattle.cascade.specs.Inside.{KeepsBoth}
use Rattle.cascade.specs.Fit.{Checks, Makes}
use Rattle.cascade.specs.Told.{meant, Joined, Sound}
use Rattle.cascade.proofs.Making.{checks-fit, k-line, opened-kw, opened-hanging, opened-unseen}
use Rattle.cascade.proofs.Goes.{told-goes}

module _ {S T : Type 0} (O : Ghosts S) (I : Ghosts T) (lawO : (o : S) → O.sound o → Lawful (meaning O o)) (outer : S) (k : ℕ) (inner : T) (r : Result (Unit {0}) Refusal) (checked : O.sound outer → I.sound inner → Checks (meaning O outer) k (meaning I inner) r) (fit : is_ok r ≡ true) (x : Result Answer Refusal) (o₁ o₂ : S) where
  abbrev a : Meaning
  a = meaning O outer

  abbrev b : Meaning
  b = meaning I inner

  abbrev made : T → Cascade S T
  made i = record { outer = o₂; k = Some k; inner = i }

  -- The outer o is opened at k, and told of it beside the inner i.
  abbrev Hung : S → T → Type 0
  Hung o i = (O.sound o → O.sound o₁ × Opens (meaning O o) k x (meaning O o₁)) → KeepsBoth O I (λ a b a' _. Tells a k b a') o₁ i o₂ i → O.sound outer → I.sound inner → Sound O I (made i) × Makes a k b (meant O I (made i))

  hung : Hung outer inner
  hung opens tells sound-o sound-i =
      let open₁ = opens sound-o in
      let told = tells open₁.0 sound-i in
      let fits = sym (checks-fit a k b r (checked sound-o sound-i)) ∙ fit in
      let kw = (lawO outer sound-o).fixed.within k (k-line a k b fits) in
      let all = told-goes (meaning O o₁) k b (meaning O o₂) (λ y. y ≡ pile a k b) (opened-kw a k b fits (meaning O o₁) x open₁.1 kw) (opened-hanging a k b fits (meaning O o₁) x open₁.1, opened-unseen a k b fits (meaning O o₁) x open₁.1 kw) told.2 in (
        (λ j e. subst (λ y. Joined O I (made inner) y) (same_Some k j e) (record { outer = told.0; inner = sound-i; tied = all.0 })),
        so fits all.1,
      )

  -- The check left both as they were.
  pub made-hung : (o : S) → o ≡ outer → (i : T) → i ≡ inner → Hung o i
  made-hung o eo i ei = subst₂ Hung (sym eo) (sym ei) hung
