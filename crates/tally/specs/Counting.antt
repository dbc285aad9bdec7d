-- What is counted of a line's replies.
use Rattle.std.specs.Prelude.{ℕ, ◌+◌, ◌-◌, Bool, true, false, cond, nat_lt}
use Rattle.service.specs.Calls.{Reply}
use Rattle.service.specs.Calls.Reply.{Answered, Start, Spurious, End, Refused}
use Rattle.service.specs.Counts.{answers, is_accepted, is_withdrawn}
use Rattle.tally.specs.declared.Tally.{Tally}

abbrev pub none : Tally
none = record { accepted = 0; withdrawn = 0; ended = 0 }

-- One more, in 32 bits.
abbrev pub more : ℕ → ℕ
more count = cond (nat_lt count 4294967295) (count + 1) count

abbrev pub more_if : Bool → ℕ → ℕ
more_if b count = cond b (more count) count

-- The reply is an END.
abbrev pub ends : Reply → Bool
ends (Answered a) = false
ends (Start n k) = false
ends (Spurious k) = false
ends (End n k a) = true
ends (Refused e) = false

-- A reply about the line counts as accepted, withdrawn and ended as the balance of the law of service counts it.
abbrev pub counted : Tally → Reply → Tally
counted t r = record {
  accepted = more_if (answers is_accepted r) t.accepted;
  withdrawn = more_if (answers is_withdrawn r) t.withdrawn;
  ended = more_if (ends r) t.ended;
}

-- What was accepted and was neither withdrawn nor ended.
abbrev pub outstanding : Tally → ℕ
outstanding t = t.accepted - t.withdrawn - t.ended
