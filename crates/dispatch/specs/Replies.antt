-- What take, close, finish and park bring back, as replies.
use Rattle.std.specs.Prelude.{Ok, Err, Result}
use Rattle.controller.specs.declared.refusal.Refusal.{Refusal}
use Rattle.controller.specs.declared.answer.Answer.TheVariants as answer
use Rattle.service.specs.Calls.{Reply}
use Rattle.service.specs.Calls.Reply.{Answered, Start, Spurious, End, Refused as refused}
use Rattle.dispatch.specs.declared.written.Taken.{Taken}
use Rattle.dispatch.specs.declared.written.Taken.TheVariants as taken
use Rattle.dispatch.specs.declared.written.Ended.{Ended}
use Rattle.dispatch.specs.declared.written.Refused.{Refused}

abbrev pub taken_reply : Taken → Reply
taken_reply (taken.Start k c) = Start c.line k
taken_reply (taken.Spurious k) = Spurious k

abbrev pub ended_reply : Ended → Reply
ended_reply e = End e.line e.depth e.answer

abbrev pub finished_reply : Result Ended Refusal → Reply
finished_reply (Ok e) = ended_reply e
finished_reply (Err why) = refused why

abbrev pub closed_reply : Result Ended Refused → Reply
closed_reply (Ok e) = ended_reply e
closed_reply (Err b) = refused b.why

abbrev pub parked_reply : Result (Unit {0}) Refused → Reply
parked_reply (Ok _) = Answered answer.Done
parked_reply (Err b) = refused b.why
