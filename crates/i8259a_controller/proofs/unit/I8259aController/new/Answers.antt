use Rattle.std.proofs.Common.{rules}
use Rattle.controller.proofs.RuleLaws.{rule-laws}
use Rattle.i8259a_controller.proofs.Fresh.{told_fresh}
use Rattle.i8259a_controller.proofs.unit.I8259aController.new.Goals as goal

pub returns-clause-told : goal.returns-clause-told
returns-clause-told c = search (rules, told_fresh)

pub returns-clause-laws : goal.returns-clause-laws
returns-clause-laws c = rule-laws
