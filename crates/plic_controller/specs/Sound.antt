-- The states in which a PLIC is a controller. The laws of a controller follow from them.
use Rattle.std.specs.Prelude.{◌≡◌, ℕ, ◌<◌, true, false, ◌||◌, length}
use Rattle.plic.specs.declared.chip.Plic.{Plic}
use Rattle.plic.specs.declared.gateway.Request.TheVariants.{Idle}
use Rattle.plic.specs.declared.gateway.Gateway.{Gateway}
use Rattle.plic.specs.Gateways.{is_pending, is_claimed}
use Rattle.plic.specs.Chip.{gate}
use Rattle.plic_controller.specs.Told.{newest_priority}

-- What holds of the gateway g of each number n.
pub record Fair (n : ℕ) (g : Gateway) : Type 0 where
  pub within : 0 < g.priority → (0 < n) × (n < 64)
  pub small : g.priority < 8
  -- What is no line is idle and shut.
  pub off : g.priority ≡ 0 → (g.request ≡ Idle) × (g.enabled ≡ false)
  -- A claimed line is enabled.
  pub held : is_claimed g.request ≡ true → g.enabled ≡ true
  -- A high line is pending or claimed.
  pub asks : g.high ≡ true → (is_pending g.request || is_claimed g.request) ≡ true

-- No two claimed lines are of one priority.
abbrev pub Single : (ℕ → Gateway) → Type 0
Single v = (a b : ℕ) → is_claimed (v a).request ≡ true → is_claimed (v b).request ≡ true → (v a).priority ≡ (v b).priority → a ≡ b

-- What holds whatever the threshold is.
pub record Settled (p : Plic 64) : Type 0 where
  pub table : length p.gateways ≡ 64
  pub fair : (n : ℕ) → Fair n (gate 64 p n)
  pub single : Single (gate 64 p)

-- The threshold is the newest line's priority, or 0.
pub record Sound (p : Plic 64) : Type 0 where
  pub settled : Settled p
  pub level : p.threshold ≡ newest_priority (gate 64 p)
