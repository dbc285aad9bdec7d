-- The ghost members of a controller at the 8259A, for clauses of crates that make one.
use Rattle.controller.specs.declared.telling.Controller.{Ghosts}
use Rattle.i8259a_controller.specs.declared.unit.I8259aController.{I8259aController}
use Rattle.i8259a_controller.specs.Told.{meant, Sound}

abbrev pub members : Ghosts I8259aController
members = record {
  «widths» = λ c. (meant c.chip).fixed.width;
  spans = λ c. (meant c.chip).fixed.span;
  lines = λ c. (meant c.chip).fixed.line;
  classes = λ c. (meant c.chip).fixed.class;
  fleets = λ c. (meant c.chip).fixed.fleeting;
  ranks = λ c. (meant c.chip).fixed.rank;
  opened = λ c. (meant c.chip).state.opened;
  highs = λ c. (meant c.chip).state.high;
  waits = λ c. (meant c.chip).state.waiting;
  stack = λ c. (meant c.chip).state.stack;
  sound = λ c. Sound c.chip;
}
