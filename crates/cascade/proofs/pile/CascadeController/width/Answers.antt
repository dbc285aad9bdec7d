use Rattle.std.proofs.Common.{◌≡◌, ◌+◌, ◌%◌, ◌≤◌, arith}
use Rattle.cascade.specs.Lawful.{asked}
use Rattle.cascade.proofs.pile.CascadeController.width.Goals as goal

pub returns-in-Some : goal.returns-in-Some
returns-in-Some g c sound =
    let O = g.O.Controller in
    let I = g.I.Controller in
    let p = c.args.self.now in
    let q = sound c.in-Some.field-0 c.in-Some.is in
    let narrow : O.widths p.outer + I.widths p.inner ≤ 256 = q.tied.hanging.narrow in
    let w : c.width.result ≡ O.widths p.outer = c.width.ensures q.outer in
    let v : c.width-in-Some.result ≡ I.widths p.inner = c.width-in-Some.ensures q.inner in
    asked O I p (λ x. (c.width.result + c.width-in-Some.result) % 65536 ≡ x.fixed.width) c.in-Some.field-0 c.in-Some.is (omega arith)
