use Rattle.std.proofs.Common.{◌≡◌, ℕ, ◌<◌, get_or, length, None}
use Rattle.plic.specs.Chip.{gateway_of}
use Rattle.plic_controller.specs.Steps.{served_key}
use Rattle.plic_controller.proofs.serving.keys.Given as goal

-- The leaves seen hold the keys of their gateways.
abbrev pub invariant-loop-n : goal.invariant-loop-n
invariant-loop-n l = (length l.leaf-items ≡ 64) × ((k : ℕ) → k < l.n → get_or l.leaf-items k None ≡ served_key (gateway_of 64 l.fn.chip k))
