use Rattle.std.proofs.Common.{◌≡◌, ◌+◌, ◌%◌, Some, None, sym, refl, subst}
use Rattle.controller.specs.Telling.{meaning}
use Rattle.controller.specs.Rules.{Takes}
use Rattle.cascade.specs.Pile.{pile}
use Rattle.cascade.specs.Told.{meant, Sound}
use Rattle.cascade.proofs.Takings.{takes_none, takes-outer, takes-idle, takes-told}
use Rattle.cascade.proofs.Goes.{went, goes}
use Rattle.cascade.proofs.pile.CascadeController.take.Goals as goal

pub returns-in_err-n : goal.returns-in_err-n
returns-in_err-n g c sound =
    let O = g.O.Controller in
    let I = g.I.Controller in
    let p = c.args.self.now in
    let q = sound _ c.in_ok-k.was in
    let la = g.met.O.Controller.lawful _ q.outer in
    let lb = g.met.I.Controller.lawful _ q.inner in
    let called = c.in_err-n.ensures q.outer in
    let p' = went O I p c.take.new.self p.inner in
    subst (λ r. Sound O I p' × Takes (meant O I p) r (meant O I p')) (sym c.from_residual-in_err-n.ensures)
    (goes O I p p' _ (λ x y. Takes x None y) c.in_ok-k.was refl called.0 q.inner (takes_none _ _ _ la lb q.tied _ called.1))

pub returns-then-n-k : goal.returns-then-n-k
returns-then-n-k g c sound =
    let O = g.O.Controller in
    let I = g.I.Controller in
    let p = c.args.self.now in
    let q = sound _ c.in_ok-k.was in
    let la = g.met.O.Controller.lawful _ q.outer in
    let lb = g.met.I.Controller.lawful _ q.inner in
    let called = c.in_ok-n.ensures q.outer in
    goes O I p (went O I p c.take.new.self p.inner) _ (λ x y. Takes x (Some c.in_ok-n.n) y) c.in_ok-k.was refl called.0 q.inner (takes-outer _ _ _ la lb q.tied _ _ c.if-n-k.true called.1)

pub returns-in_err-line : goal.returns-in_err-line
returns-in_err-line g c sound =
    let a = meaning g.O.Controller c.args.self.now.outer in
    let b = meaning g.I.Controller c.args.self.now.inner in
    let q = sound _ c.in_ok-k.was in
    let la = g.met.O.Controller.lawful _ q.outer in
    let lb = g.met.I.Controller.lawful _ q.inner in
    let o = meaning g.O.Controller c.take.new.self in
    let i = meaning g.I.Controller c.take-taken.new.self in
    absurd (takes-idle a _ b la lb q.tied o i
    (subst (λ j. Takes a (Some j) o) c.if-n-k.false (c.in_ok-n.ensures q.outer).1)
    (subst (λ r. Takes b r i) c.in_err-line.was (c.take-taken.ensures q.inner).1))

pub returns : goal.returns
returns g c sound =
    let O = g.O.Controller in
    let I = g.I.Controller in
    let p = c.args.self.now in
    let k = c.in_ok-k.k in
    let q = sound _ c.in_ok-k.was in
    let a = meaning O p.outer in
    let b = meaning I p.inner in
    let la = g.met.O.Controller.lawful _ q.outer in
    let lb = g.met.I.Controller.lawful _ q.inner in
    let o = meaning O c.take.new.self in
    let o' = c.tell.new.outer in
    let i = c.take-taken.new.self in
    let m = c.in_ok-line.line in
    let called = c.in_ok-n.ensures q.outer in
    let inside = c.take-taken.ensures q.inner in
    let told = c.tell.ensures called.0 inside.0 in
    let all = takes-told a k b la lb q.tied m o (meaning I i) (meaning O o')
    (subst (λ j. Takes a (Some j) o) c.if-n-k.false called.1)
    (subst (λ r. Takes b r (meaning I i)) c.in_ok-line.was inside.1) told.2 in
    let number : c.number.result ≡ (O.widths p.outer + m) % 65536 = subst (λ w. c.number.result ≡ (w + m) % 65536) all.2 (c.number.ensures told.0) in
    goes O I p (went O I p o' i) k (λ x y. Takes x (Some c.number.result) y) c.in_ok-k.was refl told.0 inside.0
    (all.0, subst (λ j. Takes (pile a k b) (Some j) (pile (meaning O o') k (meaning I i))) (sym number) all.1)
