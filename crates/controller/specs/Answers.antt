-- The words that answers are printed in.
use Rattle.std.specs.Prelude.{ℕ, List, codes}
use Rattle.controller.specs.declared.answer.Answer.{Answer}
use Rattle.controller.specs.declared.answer.Answer.TheVariants.{Accepted, Withdrawn, Noted, Done}

abbrev pub word : Answer → List ℕ
word Accepted = codes "ACCEPTED"
word Withdrawn = codes "WITHDRAWN"
word Noted = codes "NOTED"
word Done = codes "DONE"
