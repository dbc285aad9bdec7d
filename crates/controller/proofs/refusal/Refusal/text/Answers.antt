-- The longer phrases: the search gives up on them, though each is its text by computing.
use Rattle.std.proofs.Common.{sym, ap}
use Rattle.controller.specs.Refusals.{phrase}
use Rattle.controller.proofs.refusal.Refusal.text.Goals as goal

pub returns-in-NotNewest : goal.returns-in-NotNewest
returns-in-NotNewest c = sym (ap phrase c.in-NotNewest.is)

pub returns-in-NotParked : goal.returns-in-NotParked
returns-in-NotParked c = sym (ap phrase c.in-NotParked.is)

pub returns-in-UnlawfulMap : goal.returns-in-UnlawfulMap
returns-in-UnlawfulMap c = sym (ap phrase c.in-UnlawfulMap.is)

pub returns-in-NoSuchAddress : goal.returns-in-NoSuchAddress
returns-in-NoSuchAddress c = sym (ap phrase c.in-NoSuchAddress.is)

pub returns-in-TooLarge : goal.returns-in-TooLarge
returns-in-TooLarge c = sym (ap phrase c.in-TooLarge.is)
