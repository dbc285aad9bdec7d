use Rattle.std.proofs.Common.{◌≡◌, Err, refl, rules}
use Rattle.cascade.proofs.pile.Cascade.inside.Goals as goal

pub returns-in_err-answer-clause-calls : goal.returns-in_err-answer-clause-calls
returns-in_err-answer-clause-calls g c =
    let e : c.from_residual.result ≡ Err c.in_err-answer.field-0.0 = search rules in
    rw e (record { shown = _; shows = refl; left = _; met = c.in_err-answer.ensures; leaves = refl })
