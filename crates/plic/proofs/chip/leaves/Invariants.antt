use Rattle.std.proofs.Common.{◌≡◌, ℕ, ◌<◌, ◌≤◌, length, get_or, None}
use Rattle.plic.specs.Chip.{leaf_of}
use Rattle.plic.proofs.chip.leaves.Given as goal

abbrev pub invariant-loop-n : goal.invariant-loop-n
invariant-loop-n g l =
    (length l.leaves ≡ g.row.N)
    × ((k : ℕ) → k < l.n → get_or l.leaves k None ≡ leaf_of g.row.N l.gateways k)
    × ((k : ℕ) → l.n ≤ k → get_or l.leaves k None ≡ None)
