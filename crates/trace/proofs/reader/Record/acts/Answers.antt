use Rattle.std.proofs.Common.{◌<◌, length, subst, rules}
use Rattle.trace.specs.Inverse.{WrittenBack}
use Rattle.trace.proofs.Fields.{decoded-at}
use Rattle.trace.proofs.Inverses.{written_back}
use Rattle.trace.proofs.reader.Record.acts.Goals as goal

pub returns : goal.returns
returns c =
    let xs = c.args.self.now.bytes.now in
    let h : 0 < length xs = search rules in
    let d = decoded-at xs h in
    record { decodes = cc; inverse = subst (λ a. WrittenBack a xs) (cc) (written_back xs) }
