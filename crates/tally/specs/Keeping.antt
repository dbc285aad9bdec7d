-- A tally kept along a list of calls, and what its counts come to.
use Rattle.std.specs.Prelude.{◌≡◌, ℕ, ◌+◌, ◌≤◌, Bool, true, false, cond, List, [], ◌∷◌, ◌==◌, nat_lt}
use Rattle.controller.specs.Meaning.{in_service}
use Rattle.service.specs.Calls.{Call, Reply}
use Rattle.service.specs.Calls.Call.{Rise, Fall, Open, Shut, Park, Close, Finish, Take}
use Rattle.service.specs.Steps.{Snapshot}
use Rattle.service.specs.Runs.{Run, Fresh}
use Rattle.service.specs.Counts.{one, accepted, withdrawn, ended}
use Rattle.tally.specs.declared.Tally.{Tally}
use Rattle.tally.specs.Counting.{none, counted, outstanding}

-- The calls whose replies are noted for line n: rise, fall, close and finish of n.
abbrev pub is_noted : ℕ → Call → Bool
is_noted n (Rise j) = n == j
is_noted n (Fall j) = n == j
is_noted n (Open j) = false
is_noted n (Shut j) = false
is_noted n (Park j) = false
is_noted n (Close j) = n == j
is_noted n (Finish j) = n == j
is_noted n Take = false

-- The tally t of line n, kept along the calls and their replies.
abbrev pub kept : ℕ → Tally → List Call → List Reply → Tally
kept n t [] rs = t
kept n t (c ∷ cs) [] = t
kept n t (c ∷ cs) (r ∷ rs) = kept n (cond (is_noted n c) (counted t r) t) cs rs

-- A count in 32 bits: the greatest stands for itself and all above it.
abbrev pub in_word : ℕ → ℕ
in_word k = cond (nat_lt k 4294967295) k 4294967295

-- A tally of line n that was kept from the first call on: its counts are those of the law of service, and unless they went past
-- a word, what is outstanding is 1 while the line waits or is in service, else 0.
pub record Tallies (s : Snapshot) (cs : List Call) (rs : List Reply) (s' : Snapshot) (n : ℕ) : Type 0 where
  pub counts : kept n none cs rs ≡ record { accepted = in_word (accepted n cs rs); withdrawn = in_word (withdrawn n cs rs); ended = in_word (ended n cs rs) }
  pub outstanding : s.meaning.fixed.line n ≡ true → accepted n cs rs ≤ 4294967295
      → outstanding (kept n none cs rs) ≡ one (s'.meaning.state.waiting n) + one (in_service s'.meaning.state n)

-- Along any list of calls on a dispatcher just made.
abbrev pub TallyLaw : Type 0
TallyLaw = (s s' : Snapshot) (cs : List Call) (rs : List Reply) → Fresh s → Run s cs rs s' → (n : ℕ) → Tallies s cs rs s' n
