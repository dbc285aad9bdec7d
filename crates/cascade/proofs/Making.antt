-- What the check and the making come to.
use Rattle.std.proofs.Common.{◌≡◌, ℕ, ◌+◌, ◌*◌, ◌<◌, true, false, not, ◌&&◌, ◌||◌, List, [], ◌∷◌, is_ok, Result, sym, refl, ap, ◌∙◌, subst, ap₂}
use Rattle.std.proofs.lemmas.Bool.{and_parts, or_parts, not-true, leb-true, true≢false}
use Rattle.controller.specs.declared.refusal.Refusal.{Refusal}
use Rattle.controller.specs.declared.answer.Answer.{Answer}
use Rattle.controller.specs.Meaning.{Meaning, most_width, most_span, among}
use Rattle.controller.specs.Rules.{Opens, so, otherwise, onward, opening}
use Rattle.cascade.specs.Pile.{pile}
use Rattle.cascade.specs.Tie.{Paired, Hanging}
use Rattle.cascade.specs.Fit.{serving, is_serving, is_fleeting, is_small, is_fit, Checks}
use Rattle.controller.proofs.Marks.{marked-here, state-same}
use Rattle.controller.proofs.Asking.{asks-yes}
use Rattle.cascade.specs.Sides.{mark-k}

pub is-empty : (xs : List ℕ) → serving xs ≡ false → xs ≡ []
is-empty [] e = refl
is-empty (x ∷ xs) e = absurd (true≢false e)

-- The check says yes exactly if they fit.
pub checks-fit : (a : Meaning) (k : ℕ) (b : Meaning) (r : Result (Unit {0}) Refusal) → Checks a k b r → is_ok r ≡ is_fit a k b
checks-fit a k b r (so f (so s h)) = ap is_ok h ∙ sym (ap (λ x. x && is_small a b) (ap₂ (λ x y. x && not y) f s))
checks-fit a k b r (so f (otherwise s (so l h))) = ap is_ok h ∙ sym (ap₂ (λ x y. x && y) (ap₂ (λ x y. x && not y) f s) l)
checks-fit a k b r (so f (otherwise s (otherwise l h))) = ap is_ok h ∙ sym (ap₂ (λ x y. x && y) (ap₂ (λ x y. x && not y) f s) l)
checks-fit a k b r (otherwise f h) = ap is_ok h ∙ sym (ap (λ x. x && not (is_serving a || is_serving b) && is_small a b) f)

module _ (a : Meaning) (k : ℕ) (b : Meaning) (fits : is_fit a k b ≡ true) where
  all : (is_fleeting a k && not (is_serving a || is_serving b) ≡ true) × (is_small a b ≡ true)
  all = and_parts (is_fleeting a k && not (is_serving a || is_serving b)) (is_small a b) fits

  two : (is_fleeting a k ≡ true) × (not (is_serving a || is_serving b) ≡ true)
  two = and_parts (is_fleeting a k) (not (is_serving a || is_serving b)) all.0

  still : (a.state.stack ≡ []) × (b.state.stack ≡ [])
  still = let e = or_parts (is_serving a) (is_serving b) (not-true (is_serving a || is_serving b) two.1) in (is-empty a.state.stack e.0, is-empty b.state.stack e.1)

  pub k-line : a.fixed.line k ≡ true
  k-line = (and_parts (a.fixed.line k) (a.fixed.fleeting k) two.0).0

  -- The outer opens k.
  module _ (a' : Meaning) (r : Result Answer Refusal) (opened : Opens a k r a') where
    after : a' ≡ onward a (opening a.state k true)
    after = (asks-yes _ _ (a.fixed.line k) k-line opened).1

    pub opened-hanging : Hanging a' k b
    opened-hanging =
        let small = and_parts _ _ all.1 in
        let paired : Paired k a.state.stack b.state.stack = subst (λ ys. Paired k a.state.stack ys) (sym still.1) (ap (among k) still.0) in
        let there : Hanging (onward a (opening a.state k true)) k b = record {
          line = k-line;
          fleeting = (and_parts (a.fixed.line k) (a.fixed.fleeting k) two.0).1;
          opened = marked-here a.state.opened k true;
          paired = paired;
          narrow = leb-true (a.fixed.width + b.fixed.width) most_width small.0;
          short = leb-true (a.fixed.span * b.fixed.span) most_span small.1;
        } in
        subst (λ x. Hanging x k b) (sym after) there

    pub opened-kw : k < a.fixed.width → k < a'.fixed.width
    opened-kw kw = subst (λ (x : Meaning). k < x.fixed.width) (sym after) kw

    pub opened-unseen : k < a.fixed.width → pile a' k b ≡ pile a k b
    opened-unseen kw = ap (λ x. pile x k b) after ∙ ap (onward (pile a k b)) (state-same (mark-k a.fixed k b.fixed kw a.state.opened b.state.opened true) refl refl refl)
