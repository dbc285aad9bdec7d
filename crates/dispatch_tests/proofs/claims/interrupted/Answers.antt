use Rattle.std.proofs.Common.{◌≡◌, true, sym, subst}
use Rattle.service.specs.Nests.{held}
use Rattle.dispatch.specs.Tables.{entries_of}
use Rattle.dispatch_tests.proofs.claims.interrupted.Goals as goal

-- The outer line is another, so it stays held when the inner one is ended. The crate cases has the like: in one lemma each
-- step between would be a premise, and the two differ in a step.
pub close_or_park-requires-in-Err : goal.close_or_park-requires-in-Err
close_or_park-requires-in-Err g c =
    let outer = c.args.outer.line in
    subst (λ b. held b.line (entries_of c.close_or_park.new.dispatcher.nest) ≡ true) (sym c.in-Err.ensures.claims.0)
    (c.close_or_park.ensures outer
    (c.in-Start.ensures.another c.requires.sound outer c.requires.held)
    (c.in-Err.ensures.claims.1 outer (c.finish-in-Start-2.ensures.claims outer (c.finish-in-Start.ensures.claims outer (c.finish.ensures.claims outer (c.in-Start.ensures.claims.1 outer c.requires.held))))))
