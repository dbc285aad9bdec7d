use Rattle.std.proofs.Common.{sym, ap, ◌∙◌, subst, arith}
use Rattle.std.proofs.lemmas.List.{get_or_append_left, get_or-take, length-take-le}
use Rattle.service.specs.declared.entry.Mark.TheVariants.{Held}
use Rattle.service.specs.Nests.{entry, parked_entry}
use Rattle.dispatch.specs.Tables.{atop, entries_of, within}
use Rattle.dispatch.specs.Claims.{OthersStayHeld}
use Rattle.dispatch.proofs.Tables.{parked-table, atop-parked}
use Rattle.dispatch.proofs.Held.{held-parked}
use Rattle.dispatch.proofs.nest.Nest.park.Goals as goal

pub returns : goal.returns
returns c =
    let p = parked-table c.args.line c.args.self.now.entries _ (within c.args.self.now.depth) (λ j l.
    let few = length-take-le c.depth-depth.result c.args.self.now.entries (omega arith) in
    get_or_append_left c.loop-entry.entry-items _ (entry 0 Held) j (omega arith)
    ∙ c.loop-entry.invariant.marked j (omega arith)
    ∙ ap (parked_entry c.args.line) (get_or-take c.depth-depth.result c.args.self.now.entries j (entry 0 Held) (omega arith))) in
    record {
      marks = p;
      lines = λ base. ap (λ es. atop es base) p ∙ atop-parked c.args.line _ base;
      claims = subst (OthersStayHeld c.args.line (entries_of c.args.self.now)) (sym p) (held-parked c.args.line (entries_of c.args.self.now));
    }
