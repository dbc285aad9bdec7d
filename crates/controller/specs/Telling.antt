-- The meaning of a controller, from the trait's ghost members.
use Rattle.controller.specs.declared.telling.Controller.{Ghosts}
use Rattle.controller.specs.Meaning.{Meaning, told}

abbrev pub meaning : {S : Type 0} → Ghosts S → S → Meaning
meaning G s = told G.«widths» G.spans G.lines G.classes G.fleets G.ranks G.opened G.highs G.waits G.stack s
