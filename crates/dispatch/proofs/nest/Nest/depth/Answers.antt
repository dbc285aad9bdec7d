use Rattle.std.proofs.Common.{rules, ◌≡◌, ◌∙◌, sym}
use Rattle.dispatch.specs.Tables.{within}
use Rattle.dispatch.proofs.Tables.{length-backward}
use Rattle.dispatch.proofs.nest.Nest.depth.Goals as goal

pub returns-clause-counts : goal.returns-clause-counts
returns-clause-counts c =
    let e : c.min.result ≡ within c.args.self.now.depth = search rules in
    e ∙ sym (length-backward c.args.self.now.entries (within c.args.self.now.depth))
