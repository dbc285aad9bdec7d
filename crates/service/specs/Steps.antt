-- A dispatcher's state as one value, and what one call does to it.
use Rattle.std.specs.Prelude.{◌≡◌, ℕ, ◌+◌, List, ◌∷◌, length, Some, None, Ok, Option, Result, ◌==◌}
use Rattle.controller.specs.declared.refusal.Refusal.{Refusal}
use Rattle.controller.specs.declared.refusal.Refusal.TheVariants.{NotALine, NotNewest, NotHeld, NotParked}
use Rattle.controller.specs.declared.answer.Answer.{Answer}
use Rattle.controller.specs.declared.answer.Answer.TheVariants.{Done}
use Rattle.controller.specs.Meaning.{Meaning}
use Rattle.controller.specs.Rules.{Asks, Rises, Falls, Opens, Shuts, Takes, Finishes}
use Rattle.service.specs.declared.entry.Entry.{Entry}
use Rattle.service.specs.declared.entry.Mark.TheVariants.{Held}
use Rattle.service.specs.Nests.{most_depth, entry, held, newest_is, newest_parked, parked, removed}
use Rattle.service.specs.Calls.{Call, Reply, passed_on}
use Rattle.service.specs.Calls.Call.{Rise, Fall, Open, Shut, Park, Close, Finish, Take}
use Rattle.service.specs.Calls.Reply.{Answered, Start, Spurious, End, Refused}

-- What the controller tells, and the nest.
pub record Snapshot : Type 0 where
  pub meaning : Meaning
  pub nest : List Entry

abbrev pub depth : Snapshot → ℕ
depth s = length s.nest

-- The call is refused for e, and nothing changes.
abbrev pub Refuses : Refusal → Snapshot → Reply → Snapshot → Type 0
Refuses e s r s' = (r ≡ Refused e) × (s' ≡ s)

-- The call goes to the controller, whose answer or refusal it brings back; the nest stays.
abbrev pub Passes : (Meaning → ℕ → Result Answer Refusal → Meaning → Type 0) → ℕ → Snapshot → Reply → Snapshot → Type 0
Passes Rule n s r s' = (a : Result Answer Refusal) × Rule s.meaning n a s'.meaning × (r ≡ passed_on a) × (s'.nest ≡ s.nest)

-- What is written of the line that the controller took, or of none.
abbrev pub Writes : Option ℕ → Snapshot → Reply → Snapshot → Type 0
Writes None s r s' = (r ≡ Spurious (depth s)) × (s'.nest ≡ s.nest)
Writes (Some n) s r s' = (r ≡ Start n (depth s + 1)) × (s'.nest ≡ entry n Held ∷ s.nest)

-- Line n is finished at the controller, END is written with the depth before, and the newest entry is removed.
abbrev pub Ends : ℕ → Snapshot → Reply → Snapshot → Type 0
Ends n s r s' = (a : Answer) × Finishes s.meaning n (Ok a) s'.meaning × (r ≡ End n (depth s) a) × (s'.nest ≡ removed s.nest)

-- What one call on s brings back and leaves: its questions in their order, then what it does.
abbrev pub Step : Snapshot → Call → Reply → Snapshot → Type 0
Step s (Rise n) r s' = Passes Rises n s r s'
Step s (Fall n) r s' = Passes Falls n s r s'
Step s (Open n) r s' = Passes Opens n s r s'
Step s (Shut n) r s' = Passes Shuts n s r s'
-- Is the nest full? Then the controller is not asked.
Step s Take r s' =
    Asks (depth s == most_depth)
    ((r ≡ Spurious most_depth) × (s' ≡ s))
    ((o : Option ℕ) × Takes s.meaning o s'.meaning × Writes o s r s')
-- Is n held?
Step s (Park n) r s' =
    Asks (held n s.nest)
    ((r ≡ Answered Done) × (s' ≡ record { meaning = s.meaning; nest = parked n s.nest }))
    (Refuses NotHeld s r s')
-- Is n held? Is it the newest?
Step s (Close n) r s' =
    Asks (held n s.nest)
    (Asks (newest_is n s.nest) (Ends n s r s') (Refuses NotNewest s r s'))
    (Refuses NotHeld s r s')
-- Is n a line? Is it the newest? Is it parked?
Step s (Finish n) r s' =
    Asks (s.meaning.fixed.line n)
    (Asks (newest_is n s.nest)
    (Asks (newest_parked s.nest) (Ends n s r s') (Refuses NotParked s r s'))
    (Refuses NotNewest s r s'))
    (Refuses NotALine s r s')
