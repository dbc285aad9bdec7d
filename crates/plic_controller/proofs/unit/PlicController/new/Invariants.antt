use Rattle.plic_controller.proofs.Making.{Partly}
use Rattle.plic_controller.proofs.unit.PlicController.new.Given as goal

abbrev pub invariant-loop-n : goal.invariant-loop-n
invariant-loop-n l = Partly l.fn.priorities l.n l.chip
