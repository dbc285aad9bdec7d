use Rattle.std.proofs.Common.{◌≡◌, ℕ, true, Some, None, Option, sym, refl}
use Rattle.std.specs.Option.{is_some}
use Rattle.std.proofs.lemmas.Bool.{false≢true}
use Rattle.controller.specs.Rules.{Signals}
use Rattle.cascade.proofs.Firsts.{pile-signals}
use Rattle.cascade.specs.Lawful.{asked}
use Rattle.cascade.proofs.pile.CascadeController.signal.Goals as goal

line-of : (x : Option ℕ) → is_some x ≡ true → (k : ℕ) × (x ≡ Some k)
line-of None e = absurd (false≢true e)
line-of (Some k) e = (k, refl)

pub returns-then-is_some : goal.returns-then-is_some
returns-then-is_some g c sound =
    let h = line-of _ (sym c.if-is_some.ensures) in
    let q = sound h.0 h.1 in
    let la = g.met.O.Controller.lawful _ q.outer in
    let lb = g.met.I.Controller.lawful _ q.inner in
    asked g.O.Controller g.I.Controller _ (λ x. Signals x c.signal.result) _ h.1 (pile-signals _ _ _ la lb q.tied _ (c.signal.ensures q.outer))
