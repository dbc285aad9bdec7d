-- What an 8259A tells as a controller: its chip's own state.
use Rattle.std.specs.Prelude.{◌≡◌, ℕ, zero, suc, ◌<◌, Bool, true, false, cond, not, ◌&&◌, List, [], ◌∷◌}
use Rattle.controller.specs.Meaning.{Fixed, State, Meaning}
use Rattle.i8259a.specs.declared.chip.I8259a.{I8259a}
use Rattle.i8259a.specs.declared.chip.Register.TheVariants.{Irr}
use Rattle.i8259a.specs.declared.chip.Step.TheVariants.{Done}
use Rattle.i8259a.specs.Bits.{bit}
use Rattle.i8259a.specs.Chip.{is_line}
use Rattle.i8259a.specs.Signal.{SetUp}

-- Eight lines; class and rank are the level, and all are fleeting.
abbrev pub eight : Fixed
eight = record { width = 8; span = 8; line = is_line; class = λ n. n; fleeting = λ _. true; rank = λ n. n }

-- Level n is in the byte.
abbrev pub has : ℕ → ℕ → Bool
has x n = is_line n && bit x n

-- The levels in the byte among the k from n on, the lowest first.
unfoldable pub levels_from : ℕ → ℕ → ℕ → List ℕ
levels_from zero n x = []
levels_from (suc k) n x = cond (bit x n) (n ∷ levels_from k (suc n) x) (levels_from k (suc n) x)

-- High is IRR, open the unmasked levels, in service the in-service register, its lowest level newest. A level waits while
-- it is high and not in service.
abbrev pub state_of : I8259a → State
state_of c = record {
  opened = λ n. is_line n && not (has c.imr n);
  high = has c.irr;
  waiting = λ n. has c.irr n && not (has c.isr n);
  stack = levels_from 8 0 c.isr;
}

abbrev pub meant : I8259a → Meaning
meant c = record { fixed = eight; state = state_of c }

-- Set up, every register a byte, and what is in service is open.
pub record Sound (c : I8259a) : Type 0 where
  pub set_up : SetUp c
  pub irr_byte : c.irr < 256
  pub isr_byte : c.isr < 256
  pub imr_byte : c.imr < 256
  pub served_open : (n : ℕ) → n < 8 → bit c.isr n ≡ true → bit c.imr n ≡ false

-- The chip of a controller just made: set up, all masked, nothing high, nothing in service.
abbrev pub made : I8259a
made = record { irr = 0; isr = 0; imr = 255; select = record { register = Irr }; icw2 = 0x08; icw3 = 0; step = Done }

-- What it tells: every line is shut, low and idle, and none is in service.
abbrev pub fresh : Meaning
fresh = record { fixed = eight; state = record { opened = λ _. false; high = λ _. false; waiting = λ _. false; stack = [] } }
