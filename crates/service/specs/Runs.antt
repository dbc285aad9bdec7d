-- Lists of calls on a dispatcher just made.
use Rattle.std.specs.Prelude.{◌≡◌, ℕ, true, false, List, [], ◌∷◌}
use Rattle.controller.specs.Meaning.{Meaning, Lawful}
use Rattle.service.specs.Calls.{Call, Reply}
use Rattle.service.specs.Steps.{Snapshot, Step}

-- The calls, in their order, lead from the first snapshot to the last and bring back the replies, one each.
pub data Run : Snapshot → List Call → List Reply → Snapshot → Type 0 where
  rest : {s : Snapshot} → Run s [] [] s
  then : {s s₁ s₂ : Snapshot} {c : Call} {r : Reply} {cs : List Call} {rs : List Reply} → Step s c r s₁ → Run s₁ cs rs s₂ → Run s (c ∷ cs) (r ∷ rs) s₂

-- No line waits, and none is in service.
pub record Quiet (m : Meaning) : Type 0 where
  pub waits : (n : ℕ) → m.fixed.line n ≡ true → m.state.waiting n ≡ false
  pub serves : m.state.stack ≡ []

-- A dispatcher just made, over a lawful and quiet controller.
pub record Fresh (s : Snapshot) : Type 0 where
  pub lawful : Lawful s.meaning
  pub quiet : Quiet s.meaning
  pub empty : s.nest ≡ []
