-- The law of service: what a dispatcher just made promises, over every list of calls.
use Rattle.std.specs.Prelude.{◌≡◌, ℕ, ◌+◌, ◌<◌, Bool, true, false, cond, ◌||◌, ◌⊎◌, List, [], ◌∷◌}
use Rattle.controller.specs.Meaning.{Fixed, Meaning, in_service, FirstReady, NoneReady}
use Rattle.service.specs.Calls.{Call, Reply}
use Rattle.service.specs.Calls.Call.{Take}
use Rattle.service.specs.Calls.Reply.{Answered, Start, Spurious, End, Refused}
use Rattle.service.specs.Steps.{Snapshot, Step, depth}
use Rattle.service.specs.Runs.{Run, Fresh}
use Rattle.service.specs.Counts.{one, is_end, accepted, withdrawn, ended}

-- No request of a line is lost or made up: each time it was accepted, it was withdrawn, has ended, waits or is in service.
abbrev pub Balance : Snapshot → Type 0
Balance s = (s' : Snapshot) (cs : List Call) (rs : List Reply) → Run s cs rs s' → (n : ℕ) → s.meaning.fixed.line n ≡ true
    → accepted n cs rs ≡ withdrawn n cs rs + ended n cs rs + one (s'.meaning.state.waiting n) + one (in_service s'.meaning.state n)

-- A take, after any calls, writes SPURIOUS if no line is ready, and START of the first ready line otherwise. Both are read
-- just before the take, as is the depth.
abbrev pub Chooses : Snapshot → Type 0
Chooses s = (s₁ s₂ : Snapshot) (cs : List Call) (rs : List Reply) (r : Reply) → Run s cs rs s₁ → Step s₁ Take r s₂
    → (NoneReady s₁.meaning × (r ≡ Spurious (depth s₁)))
    ⊎ ((n : ℕ) × FirstReady s₁.meaning n × (r ≡ Start n (depth s₁ + 1)))

-- An END n is among the replies.
abbrev pub has_end : ℕ → List Reply → Bool
has_end n [] = false
has_end n (r ∷ rs) = is_end n r || has_end n rs

-- The replies up to the first END n, or all of them.
abbrev pub until_end : ℕ → List Reply → List Reply
until_end n [] = []
until_end n (r ∷ rs) = cond (is_end n r) [] (r ∷ until_end n rs)

-- P holds of the line of each START and of the replies after it.
abbrev pub AtStart : (ℕ → List Reply → Type 0) → Reply → List Reply → Type 0
AtStart P (Answered a) later = Unit {0}
AtStart P (Start n k) later = P n later
AtStart P (Spurious k) later = Unit {0}
AtStart P (End n k a) later = Unit {0}
AtStart P (Refused e) later = Unit {0}

abbrev pub EachStart : (ℕ → List Reply → Type 0) → List Reply → Type 0
EachStart P [] = Unit {0}
EachStart P (r ∷ rs) = AtStart P r rs × EachStart P rs

-- What was written later than a START n: until the next END n, or until now, only lines of strictly smaller class start; if
-- there is such an END, each of those has ended before it.
abbrev pub NestsAbove : Fixed → ℕ → List Reply → Type 0
NestsAbove f n later =
    EachStart (λ j _. f.class j < f.class n) (until_end n later)
    × (has_end n later ≡ true → EachStart (λ j since. has_end j since ≡ true) (until_end n later))

-- The more urgent line goes first: whatever is started above a line nests above it.
abbrev pub Precedence : Snapshot → Type 0
Precedence s = (s' : Snapshot) (cs : List Call) (rs : List Reply) → Run s cs rs s' → EachStart (NestsAbove s.meaning.fixed) rs

-- Two controllers tell the same lines, and of these the same classes, rank order, fall rules and open marks.
pub record Alike (m w : Meaning) : Type 0 where
  pub lines : (n : ℕ) → m.fixed.line n ≡ w.fixed.line n
  pub classes : (n : ℕ) → m.fixed.line n ≡ true → m.fixed.class n ≡ w.fixed.class n
  pub ranks : (a b : ℕ) → m.fixed.line a ≡ true → m.fixed.line b ≡ true
      → (m.fixed.rank a < m.fixed.rank b → w.fixed.rank a < w.fixed.rank b) × (w.fixed.rank a < w.fixed.rank b → m.fixed.rank a < m.fixed.rank b)
  pub falls : (n : ℕ) → m.fixed.line n ≡ true → m.fixed.fleeting n ≡ w.fixed.fleeting n
  pub opens : (n : ℕ) → m.fixed.line n ≡ true → m.state.opened n ≡ w.state.opened n

-- The same calls on a dispatcher just made over a controller that tells alike bring back the same answers and records.
abbrev pub Same : Snapshot → Type 0
Same s = (t s' t' : Snapshot) (cs : List Call) (rs qs : List Reply) → Fresh t → Alike s.meaning t.meaning → Run s cs rs s' → Run t cs qs t' → rs ≡ qs

pub record Serves (s : Snapshot) : Type 0 where
  pub balance : Balance s
  pub chooses : Chooses s
  pub precedence : Precedence s
  pub same : Same s

abbrev pub ServiceLaw : Type 0
ServiceLaw = (s : Snapshot) → Fresh s → Serves s
