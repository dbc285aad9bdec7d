-- What ties an inner controller, b, to line k of an outer one, a.
use Rattle.std.specs.Prelude.{◌≡◌, ℕ, ◌+◌, ◌*◌, ◌≤◌, Bool, true, false, List, [], ◌∷◌, Result}
use Rattle.controller.specs.declared.refusal.Refusal.{Refusal}
use Rattle.controller.specs.declared.answer.Answer.{Answer}
use Rattle.controller.specs.Meaning.{Meaning, among, most_width, most_span}
use Rattle.controller.specs.Rules.{Signals, Rises, Falls}

-- One inner line is in service while k is in the outer's stack, and else none.
abbrev pub Paired : ℕ → List ℕ → List ℕ → Type 0
Paired k outs [] = among k outs ≡ false
Paired k outs (m ∷ []) = among k outs ≡ true
Paired k outs (m ∷ (m' ∷ ms)) = ⊥

-- The inner hangs from k, an open fleeting line. This holds also while the outer is yet to be told of k.
pub record Hanging (a : Meaning) (k : ℕ) (b : Meaning) : Type 0 where
  pub line : a.fixed.line k ≡ true
  pub fleeting : a.fixed.fleeting k ≡ true
  pub opened : a.state.opened k ≡ true
  pub paired : Paired k a.state.stack b.state.stack
  pub narrow : a.fixed.width + b.fixed.width ≤ most_width
  pub short : a.fixed.span * b.fixed.span ≤ most_span

-- And k is high exactly while the inner signals.
pub record Tied (a : Meaning) (k : ℕ) (b : Meaning) : Type 0 where
  pub hanging : Hanging a k b
  pub calls : Signals b (a.state.high k)

-- The outer a is told that k rises, or that it falls, and is then a'.
abbrev pub Told : Bool → Meaning → ℕ → Result Answer Refusal → Meaning → Type 0
Told true a k r a' = Rises a k r a'
Told false a k r a' = Falls a k r a'

-- It is told that k rises if the inner b signals, else that k falls.
pub record Tells (a : Meaning) (k : ℕ) (b a' : Meaning) : Type 0 where
  pub calls : Bool
  pub signals : Signals b calls
  pub answer : Result Answer Refusal
  pub told : Told calls a k answer a'
