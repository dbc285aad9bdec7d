-- What is counted along a list of calls and their replies.
use Rattle.std.specs.Prelude.{ℕ, ◌+◌, Bool, true, false, cond, ◌&&◌, List, [], ◌∷◌, ◌==◌}
use Rattle.controller.specs.declared.answer.Answer.{Answer}
use Rattle.controller.specs.declared.answer.Answer.TheVariants.{Accepted, Withdrawn, Noted, Done}
use Rattle.service.specs.Calls.{Call, Reply}
use Rattle.service.specs.Calls.Call.{Rise, Fall, Open, Shut, Park, Close, Finish, Take}
use Rattle.service.specs.Calls.Reply.{Answered, Start, Spurious, End, Refused}

abbrev pub one : Bool → ℕ
one b = cond b 1 0

abbrev pub is_accepted : Answer → Bool
is_accepted Accepted = true
is_accepted Withdrawn = false
is_accepted Noted = false
is_accepted Done = false

abbrev pub is_withdrawn : Answer → Bool
is_withdrawn Accepted = false
is_withdrawn Withdrawn = true
is_withdrawn Noted = false
is_withdrawn Done = false

-- The reply has an answer, alone or in an END, that passes the test.
abbrev pub answers : (Answer → Bool) → Reply → Bool
answers test (Answered a) = test a
answers test (Start n k) = false
answers test (Spurious k) = false
answers test (End n k a) = test a
answers test (Refused e) = false

-- The calls that may make n wait: rise n, close for n, finish n.
abbrev pub may_accept : ℕ → Call → Bool
may_accept n (Rise j) = n == j
may_accept n (Fall j) = false
may_accept n (Open j) = false
may_accept n (Shut j) = false
may_accept n (Park j) = false
may_accept n (Close j) = n == j
may_accept n (Finish j) = n == j
may_accept n Take = false

-- The call that may withdraw n: fall n.
abbrev pub may_withdraw : ℕ → Call → Bool
may_withdraw n (Rise j) = false
may_withdraw n (Fall j) = n == j
may_withdraw n (Open j) = false
may_withdraw n (Shut j) = false
may_withdraw n (Park j) = false
may_withdraw n (Close j) = false
may_withdraw n (Finish j) = false
may_withdraw n Take = false

-- The reply is a record END n.
abbrev pub is_end : ℕ → Reply → Bool
is_end n (Answered a) = false
is_end n (Start j k) = false
is_end n (Spurious k) = false
is_end n (End j k a) = n == j
is_end n (Refused e) = false

-- How many of the calls, with their replies, pass the test.
abbrev pub count : (Call → Reply → Bool) → List Call → List Reply → ℕ
count test [] rs = 0
count test (c ∷ cs) [] = 0
count test (c ∷ cs) (r ∷ rs) = one (test c r) + count test cs rs

-- How often line n was accepted, was withdrawn, and has ended.
abbrev pub accepted : ℕ → List Call → List Reply → ℕ
accepted n cs rs = count (λ c r. answers is_accepted r && may_accept n c) cs rs

abbrev pub withdrawn : ℕ → List Call → List Reply → ℕ
withdrawn n cs rs = count (λ c r. answers is_withdrawn r && may_withdraw n c) cs rs

abbrev pub ended : ℕ → List Call → List Reply → ℕ
ended n cs rs = count (λ c r. is_end n r) cs rs
