-- What keeps the tie between the parts, and what told_of k does.
use Rattle.std.specs.Prelude.{◌≡◌, ℕ, ◌<◌, Bool, true, false, List, [], ◌∷◌, refl}
use Rattle.std.proofs.Common.{sym, ap, subst, ◌∙◌}
use Rattle.controller.specs.Meaning.{Fixed, State, Meaning, among}
use Rattle.controller.specs.Rules.{Signals, onward, risen, fallen}
use Rattle.cascade.specs.Pile.{pile, marks, replaced}
use Rattle.cascade.specs.Tie.{Paired, Hanging, Tied, Told, Tells}
use Rattle.controller.proofs.Asking.{asks-yes}
use Rattle.cascade.specs.Sides.{mark-k}
use Rattle.controller.proofs.Marks.{marked-here, state-same}

pub paired_same : (k : ℕ) (ins outs outs' : List ℕ) → among k outs' ≡ among k outs → Paired k outs ins → Paired k outs' ins
paired_same k [] outs outs' e h = e ∙ h
paired_same k (m ∷ []) outs outs' e h = e ∙ h
paired_same k (m ∷ (m' ∷ ms)) outs outs' e h = h

-- The parts go on as a' and b'.
pub refix : (a : Meaning) (k : ℕ) (b a' b' : Meaning) {s t : State} → Hanging a k b → a' ≡ onward a s → b' ≡ onward b t → s.opened k ≡ true → Paired k s.stack t.stack → Hanging a' k b'
refix a k b a' b' {s} {t} h ea eb opened paired =
    let there : Hanging (onward a s) k (onward b t) = record { line = h.line; fleeting = h.fleeting; opened = opened; paired = paired; narrow = h.narrow; short = h.short } in
    subst (λ x. Hanging x k b') (sym ea) (subst (λ y. Hanging (onward a s) k y) (sym eb) there)

-- The outer goes on as a', with k as high as it was.
pub retie : (a : Meaning) (k : ℕ) (b a' : Meaning) {s : State} → Tied a k b → a' ≡ onward a s → s.opened k ≡ true → s.high k ≡ a.state.high k → Paired k s.stack b.state.stack → Tied a' k b
retie a k b a' {s} h ea opened high paired =
    record {
      hanging = refix a k b a' b h.hanging ea refl opened paired;
      calls = subst (λ (x : Meaning). Signals b (x.state.high k)) (sym ea) (subst (Signals b) (sym high) h.calls);
    }

-- The outer's state once it is told that k rises, or that it falls.
abbrev pub told_of : Meaning → ℕ → Bool → State
told_of a k true = risen a.state k
told_of a k false = fallen a.fixed a.state k

pub told-after : (a : Meaning) (k : ℕ) (b a' : Meaning) → a.fixed.line k ≡ true → (tells : Tells a k b a') → a' ≡ onward a (told_of a k tells.calls)
told-after a k b a' sure tells = by_call tells.calls tells.told
  where
    by_call : (v : Bool) → Told v a k tells.answer a' → a' ≡ onward a (told_of a k v)
    by_call true h = (asks-yes _ _ (a.fixed.line k) sure h).1
    by_call false h = (asks-yes _ _ (a.fixed.line k) sure h).1

module _ (a : Meaning) (k : ℕ) where
  pub told-opened : (v : Bool) → (told_of a k v).opened ≡ a.state.opened
  told-opened true = refl
  told-opened false = refl

  pub told-stack : (v : Bool) → (told_of a k v).stack ≡ a.state.stack
  told-stack true = refl
  told-stack false = refl

  pub told-high : (v : Bool) → (told_of a k v).high k ≡ v
  told-high true = marked-here a.state.high k true
  told-high false = marked-here a.state.high k false

  pub highs-unseen : k < a.fixed.width → (g : Fixed) (y : ℕ → Bool) (v : Bool) → marks a.fixed k g (told_of a k v).high y ≡ marks a.fixed k g a.state.high y
  highs-unseen kw g y true = mark-k a.fixed k g kw _ y _
  highs-unseen kw g y false = mark-k a.fixed k g kw _ y _

  pub waits-unseen : k < a.fixed.width → (g : Fixed) (y : ℕ → Bool) (v : Bool) → marks a.fixed k g (told_of a k v).waiting y ≡ marks a.fixed k g a.state.waiting y
  waits-unseen kw g y true = mark-k a.fixed k g kw _ y _
  waits-unseen kw g y false = mark-k a.fixed k g kw _ y _

module _ (a : Meaning) (k : ℕ) (b a' : Meaning) (h : Hanging a k b) (tells : Tells a k b a') where
  pub told-tied : Tied a' k b
  told-tied =
      let v = tells.calls in
      record {
        hanging = refix a k b a' b h (told-after a k b a' h.line tells) refl (ap (λ (x : ℕ → Bool). x k) (told-opened a k v) ∙ h.opened) (subst (λ xs. Paired k xs b.state.stack) (sym (told-stack a k v)) h.paired);
        calls = subst (λ (x : Meaning). Signals b (x.state.high k)) (sym (told-after a k b a' h.line tells)) (subst (Signals b) (sym (told-high a k v)) tells.signals);
      }

  -- What the outer is told of k does not show.
  pub told-unseen : k < a.fixed.width → pile a' k b ≡ pile a k b
  told-unseen kw =
      let v = tells.calls in
      ap (λ x. pile x k b) (told-after a k b a' h.line tells) ∙ ap (onward (pile a k b)) (state-same
      (ap (λ x. marks a.fixed k b.fixed x b.state.opened) (told-opened a k v))
      (highs-unseen a k kw b.fixed b.state.high v)
      (waits-unseen a k kw b.fixed b.state.waiting v)
      (ap (replaced k a.fixed.width b.state.stack) (told-stack a k v)))
