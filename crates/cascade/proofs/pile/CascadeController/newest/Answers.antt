use Rattle.std.proofs.Common.{◌≡◌, ◌+◌, ◌-◌, ◌%◌, ◌<◌, ◌≤◌, Some, sym, ap, ◌∙◌, subst, arith}
use Rattle.controller.specs.Telling.{meaning}
use Rattle.controller.specs.Rules.{newest}
use Rattle.controller.proofs.Stacks.{Below, served-below}
use Rattle.cascade.proofs.Takings.{newest_none, newest-outer, newest-idle, newest-inner}
use Rattle.cascade.specs.Lawful.{asked}
use Rattle.cascade.proofs.pile.CascadeController.newest.Goals as goal

pub returns-in_err-n-clause-answer : goal.returns-in_err-n-clause-answer
returns-in_err-n-clause-answer g c sound =
    let q = sound _ c.in_ok-k.was in
    asked g.O.Controller g.I.Controller _ (λ x. c.from_residual-in_err-n.result ≡ newest x.state.stack) _ c.in_ok-k.was
    (c.from_residual-in_err-n.ensures ∙ newest_none _ _ _ _ (c.in_err-n.ensures.answer q.outer))

pub returns-then-n-k-clause-answer : goal.returns-then-n-k-clause-answer
returns-then-n-k-clause-answer g c sound =
    let q = sound _ c.in_ok-k.was in
    asked g.O.Controller g.I.Controller _ (λ x. Some c.in_ok-n.n ≡ newest x.state.stack) _ c.in_ok-k.was
    (newest-outer _ _ _ _ _ c.if-n-k.true (c.in_ok-n.ensures.answer q.outer))

pub returns-in_err-m-clause-answer : goal.returns-in_err-m-clause-answer
returns-in_err-m-clause-answer g c sound =
    let q = sound _ c.in_ok-k.was in
    absurd (newest-idle _ _ _ q.tied.hanging.paired (ap Some (sym c.if-n-k.false) ∙ c.in_ok-n.ensures.answer q.outer) (c.in_err-m.ensures.answer q.inner))

pub returns-clause-answer : goal.returns-clause-answer
returns-clause-answer g c sound =
    let O = g.O.Controller in
    let I = g.I.Controller in
    let p = c.args.self.now in
    let q = sound _ c.in_ok-k.was in
    let w = O.widths p.outer in
    let narrow : w + I.widths p.inner ≤ 256 = q.tied.hanging.narrow in
    let small : Below (65536 - w) (I.stack p.inner) = λ x on. let low : x < I.widths p.inner = served-below (meaning I p.inner) (g.met.I.Controller.lawful p.inner q.inner) x on in omega arith in
    let same = c.newest.ensures.same in
    let number : c.number.result ≡ (w + c.in_ok-m.m) % 65536 = c.number.ensures (subst (λ o. O.sound o) (sym same) q.outer) ∙ ap (λ o. (O.widths o + c.in_ok-m.m) % 65536) same in
    asked O I p (λ x. Some c.number.result ≡ newest x.state.stack) _ c.in_ok-k.was
    (ap Some number ∙ newest-inner _ w _ _ _ small (ap Some (sym c.if-n-k.false) ∙ c.in_ok-n.ensures.answer q.outer) (c.in_ok-m.ensures.answer q.inner))
