-- The refusals: the number of each, the words it is printed in, and how a call asks its questions.
use Rattle.std.specs.Prelude.{ℕ, Bool, true, false, List, Err, ◌++◌, codes, decimal, Result}
use Rattle.controller.specs.declared.refusal.Refusal.{Refusal}
use Rattle.controller.specs.declared.refusal.Refusal.TheVariants.{NotALine, InService, NotNewest, NotHeld, NotParked, UnlawfulMap, CutRecord, NoSpace, NotSetUp, NotModelled, NoSuchAddress, NotAFleetingLine, PartInService, TooLarge}

-- The one place that numbers the refusals.
abbrev pub number : Refusal → ℕ
number NotALine = 1
number InService = 2
number NotNewest = 3
number NotHeld = 4
number NotParked = 5
number UnlawfulMap = 6
number CutRecord = 7
number NoSpace = 8
number NotSetUp = 9
number NotModelled = 10
number NoSuchAddress = 11
number NotAFleetingLine = 12
number PartInService = 13
number TooLarge = 14

-- What is printed of a refusal.
abbrev pub phrase : Refusal → List ℕ
phrase NotALine = codes "no such line"
phrase InService = codes "the line is in service"
phrase NotNewest = codes "the line is not the newest in service"
phrase NotHeld = codes "the line is not held"
phrase NotParked = codes "the line is not parked"
phrase UnlawfulMap = codes "the record's map is unlawful"
phrase CutRecord = codes "the record is cut short"
phrase NoSpace = codes "there is no space"
phrase NotSetUp = codes "the chip is not set up far enough"
phrase NotModelled = codes "the byte is not modelled"
phrase NoSuchAddress = codes "no such port or offset"
phrase NotAFleetingLine = codes "no such fleeting line of the outer controller"
phrase PartInService = codes "a part has a line in service"
phrase TooLarge = codes "the parts are too large together"

-- What is printed of a refusal where its number is wanted too.
abbrev pub numbered_phrase : Refusal → List ℕ
numbered_phrase r = codes "refused (" ++ decimal (number r) ++ codes "), " ++ phrase r

-- A question put to a call: if its answer is no, the refusal is e; otherwise the next question decides.
abbrev pub asks : {A : Type 0} → Bool → Refusal → Result A Refusal → Result A Refusal
asks true e next = next
asks false e next = Err e
