-- A refused call changes nothing.
use Rattle.std.proofs.Common.{◌≡◌, ℕ, Err, Result}
use Rattle.controller.specs.declared.refusal.Refusal.{Refusal}
use Rattle.controller.specs.declared.answer.Answer.{Answer}
use Rattle.controller.specs.Meaning.{Meaning}
use Rattle.controller.specs.Rules.{Rises, Falls, Opens, Shuts, Finishes, so, otherwise}

-- The rule of a call on one line.
abbrev pub Rule : Type 1
Rule = Meaning → ℕ → Result Answer Refusal → Meaning → Type 0

abbrev pub RefusedSame : Rule → Type 0
RefusedSame Q = (m : Meaning) (n : ℕ) (e : Refusal) (m' : Meaning) → Q m n (Err e) m' → m' ≡ m

pub rises-same : RefusedSame Rises
rises-same m n e m' (so _ g) = cc
rises-same m n e m' (otherwise _ g) = g.1

pub falls-same : RefusedSame Falls
falls-same m n e m' (so _ g) = cc
falls-same m n e m' (otherwise _ g) = g.1

pub opens-same : RefusedSame Opens
opens-same m n e m' (so _ g) = cc
opens-same m n e m' (otherwise _ g) = g.1

pub shuts-same : RefusedSame Shuts
shuts-same m n e m' (so _ (so _ g)) = g.1
shuts-same m n e m' (so _ (otherwise _ g)) = cc
shuts-same m n e m' (otherwise _ g) = g.1

pub finishes-same : RefusedSame Finishes
finishes-same m n e m' (so _ (so _ g)) = cc
finishes-same m n e m' (so _ (otherwise _ g)) = g.1
finishes-same m n e m' (otherwise _ g) = g.1
