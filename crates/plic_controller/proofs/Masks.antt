-- The bits of a word in which one bit was set or cleared.
use Rattle.std.proofs.Common.{◌≡◌, ℕ, ◌<◌, Bool, cond, eqb, ◌≢◌, ap, ◌∙◌}
use Rattle.plic.specs.Words.{bit}
use Rattle.controller.proofs.Marks.{at_mark}

-- Bit i of u is `on`, and the others are those of v.
pub with_bit : (u v i : ℕ) (on : Bool) → bit u i ≡ on → ((j : ℕ) → j < 32 → j ≢ i → bit u j ≡ bit v j) → (j : ℕ) → j < 32 → bit u j ≡ cond (eqb j i) on (bit v j)
with_bit u v i on here others j lt = at_mark (λ x. bit u j ≡ x) (bit v) i j on (λ e. ap (bit u) e ∙ here) (others j lt)
