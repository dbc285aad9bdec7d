-- The calls of a dispatcher, and what they bring back.
use Rattle.std.specs.Prelude.{ℕ, Ok, Err, Result}
use Rattle.controller.specs.declared.refusal.Refusal.{Refusal}
use Rattle.controller.specs.declared.answer.Answer.{Answer}

-- Each call names its line, but for a take. Park and close are given a claim, which counts as its line.
pub data Call : Type 0 where
  Rise Fall Open Shut Park Close Finish : ℕ → Call
  Take : Call

-- An answer, a record that was written, or a refusal. START names the line and the depth with it; SPURIOUS the depth; END
-- the line, the depth with it, and the answer that the controller gave.
pub data Reply : Type 0 where
  Answered : Answer → Reply
  Start : ℕ → ℕ → Reply
  Spurious : ℕ → Reply
  End : ℕ → ℕ → Answer → Reply
  Refused : Refusal → Reply

-- What a controller brought back.
abbrev pub passed_on : Result Answer Refusal → Reply
passed_on (Ok a) = Answered a
passed_on (Err e) = Refused e
