-- Questions with two outcomes, and how a rule that asks them goes over from one controller to another.
use Rattle.std.proofs.Common.{◌≡◌, Bool, true, false, Ok, Result, sym, ap, ◌∙◌}
use Rattle.std.proofs.lemmas.Bool.{both_ways}
use Rattle.controller.specs.declared.refusal.Refusal.{Refusal}
use Rattle.controller.specs.declared.answer.Answer.{Answer}
use Rattle.controller.specs.Meaning.{State, Meaning}
use Rattle.controller.specs.Rules.{Asks, so, otherwise, Gives, Turns, onward}

-- Another question with the same answer, whose outcomes follow.
pub asks-map : {P Q P' Q' : Type 0} (x y : Bool) → y ≡ x → (x ≡ true → P → P') → (x ≡ false → Q → Q') → Asks x P Q → Asks y P' Q'
asks-map x y e f g (so e' p) = so (e ∙ e') (f e' p)
asks-map x y e f g (otherwise e' q) = otherwise (e ∙ e') (g e' q)

-- What follows from both outcomes.
pub asks-to : {P Q Z : Type 0} (x : Bool) → (x ≡ true → P → Z) → (x ≡ false → Q → Z) → Asks x P Q → Z
asks-to x f g (so e' p) = f e' p
asks-to x f g (otherwise e' q) = g e' q

-- The outcome of a question that is answered yes.
pub asks-yes : (P Q : Type 0) (x : Bool) → x ≡ true → Asks x P Q → P
asks-yes P Q x e (so e' p) = p
asks-yes P Q x e (otherwise e' q) = absurd (both_ways x e' e)

-- And of one that is answered no.
pub asks-no : (P Q : Type 0) (x : Bool) → x ≡ false → Asks x P Q → Q
asks-no P Q x e (so e' p) = absurd (both_ways x e e')
asks-no P Q x e (otherwise e' q) = q

-- F takes the meaning of a part to that of the whole; a call that is carried out, or refused, in the part is so in the whole.
pub gives-map : (F : Meaning → Meaning) (m : Meaning) {x x' : Answer} {s s' : State} {m' : Meaning} {r : Result Answer Refusal} → x' ≡ x → F (onward m s) ≡ onward (F m) s' → Gives x s m r m' → Gives x' s' (F m) r (F m')
gives-map F m e f g = (g.0 ∙ ap Ok (sym e), ap F g.1 ∙ f)

pub turns-map : (F : Meaning → Meaning) {e : Refusal} {m m' : Meaning} {r : Result Answer Refusal} → Turns e m r m' → Turns e (F m) r (F m')
turns-map F g = (g.0, ap F g.1)
