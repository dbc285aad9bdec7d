use Rattle.std.proofs.Common.{sym, subst, arith}
use Rattle.dispatch.specs.Tables.{entries_of}
use Rattle.dispatch.specs.Claims.{StayHeld}
use Rattle.dispatch.proofs.Tables.{push_at}
use Rattle.dispatch.proofs.Held.{held-push}
use Rattle.dispatch.proofs.nest.Nest.push.Goals as goal

pub returns-then-depth-lt-MOST_DEPTH : goal.returns-then-depth-lt-MOST_DEPTH
returns-then-depth-lt-MOST_DEPTH c =
    let p = push_at c.args.self.now.entries c.args.self.now.depth c.depth-depth.result c.depth-depth.ensures.reads c.args.entry (omega arith) (omega arith) in
    record { entries = λ _. p; claims = subst (StayHeld (entries_of c.args.self.now)) (sym p) (held-push c.args.entry (entries_of c.args.self.now)) }
