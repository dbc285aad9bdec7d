use Rattle.std.proofs.Common.{◌≡◌, ℕ, ◌<◌, ◌≤◌, length, get_or}
use Rattle.plic.specs.Gateways.{blank}
use Rattle.plic.specs.Words.{enabled_by}
use Rattle.plic.proofs.words.enable.Given as goal

abbrev pub invariant-loop-n : goal.invariant-loop-n
invariant-loop-n g l =
    (length l.gateways ≡ length l.initial.gateways)
    × ((k : ℕ) → k < l.n → get_or l.gateways k blank ≡ enabled_by g.row.N l.w l.value k (get_or l.initial.gateways k blank))
    × ((k : ℕ) → l.n ≤ k → get_or l.gateways k blank ≡ get_or l.initial.gateways k blank)
