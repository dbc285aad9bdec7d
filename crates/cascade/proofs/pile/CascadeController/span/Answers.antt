use Rattle.std.proofs.Common.{◌≡◌, ◌*◌, ◌%◌, ◌≤◌, ◌^◌, ap₂, arith}
use Rattle.cascade.specs.Lawful.{asked}
use Rattle.cascade.proofs.pile.CascadeController.span.Goals as goal

pub returns-in-Some : goal.returns-in-Some
returns-in-Some g c sound =
    let O = g.O.Controller in
    let I = g.I.Controller in
    let p = c.args.self.now in
    let q = sound c.in-Some.field-0 c.in-Some.is in
    let short : O.spans p.outer * I.spans p.inner ≤ 2 ^ 31 = q.tied.hanging.short in
    let same : c.span.result * c.span-in-Some.result ≡ O.spans p.outer * I.spans p.inner = ap₂ (λ x y. x * y) (c.span.ensures q.outer) (c.span-in-Some.ensures q.inner) in
    asked O I p (λ x. c.span.result * c.span-in-Some.result % 4294967296 ≡ x.fixed.span) c.in-Some.field-0 c.in-Some.is (omega arith)
