use Rattle.std.proofs.Common.{◌≡◌, ℕ, ◌+◌, ◌-◌, ◌*◌, ◌^◌, ◌<◌, Bool}
use Rattle.plic.specs.declared.gateway.Gateway.{Gateway}
use Rattle.plic.specs.Words.{bit, Tells, shown}
use Rattle.plic.proofs.words.word.Given as goal

-- The bits from i on are in their places, i places too low.
abbrev pub invariant-loop-i : goal.invariant-loop-i
invariant-loop-i g l =
    (l.value < 2 ^ (32 - l.i))
    × ((told : Gateway → Bool) → Tells (goal.F-post g l.shows) told → (j : ℕ) → j < 32 - l.i → bit l.value j ≡ shown g.row.N l.gateways told (32 * l.w + (l.i + j)))
