-- Ranks of the pile: q of an outer line as q * s, r of an inner one as q * s + r below (q + 1) * s.
use Rattle.std.specs.Prelude.{◌≡◌, ℕ, ◌+◌, ◌*◌, ◌<◌, ◌≤◌}
use Rattle.std.proofs.Common.{⊎_elim, arith, mul-le-mul_right}
use Rattle.std.proofs.Math.Arith.{digits_lt}
use Rattle.std.proofs.lemmas.Bool.{cases_lt}

pub outer-inner : (q q' s r : ℕ) → r < s → q * s < q' * s + r → q ≤ q'
outer-inner q q' s r h lt = ⊎_elim (λ less. let d : q' * s + r < q * s = digits_lt less h in absurd (omega arith)) (λ le. le) (cases_lt q' q)

pub inner-outer : (q q' s r : ℕ) → q' * s + r < q * s → q' < q
inner-outer q q' s r lt = ⊎_elim (λ less. less) (λ le. let d : q * s ≤ q' * s = mul-le-mul_right s le in absurd (omega arith)) (cases_lt q' q)

pub level : (q q' s r : ℕ) → r < s → q * s ≡ q' * s + r → q ≡ q'
level q q' s r h e =
    ⊎_elim
    (λ less. let d : q' * s + r < q * s = digits_lt less h in absurd (omega arith))
    (λ le. ⊎_elim
    (λ less. let d : q * s + 0 < q' * s = digits_lt less (omega arith) in absurd (omega arith))
    (λ ge. omega arith)
    (cases_lt q q'))
    (cases_lt q' q)
