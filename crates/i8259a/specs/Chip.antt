-- A chip's state, its lines and what its ports read as.
use Rattle.std.specs.Prelude.{ℕ, Bool, true, false, cond, ◌&&◌, Ok, Result, ◌==◌, nat_lt}
use Rattle.controller.specs.declared.refusal.Refusal.{Refusal}
use Rattle.controller.specs.declared.refusal.Refusal.TheVariants.{NotALine, NoSuchAddress}
use Rattle.controller.specs.Refusals.{asks}
use Rattle.i8259a.specs.declared.chip.I8259a.{I8259a}
use Rattle.i8259a.specs.declared.chip.Register.{Register}
use Rattle.i8259a.specs.declared.chip.Register.TheVariants.{Irr, Isr}
use Rattle.i8259a.specs.declared.chip.Step.{Step}
use Rattle.i8259a.specs.declared.chip.Step.TheVariants.{Icw1, Icw2, Icw3, Icw4, Done}
use Rattle.i8259a.specs.Bits.{bit, with, without}

-- A new chip: all zero, IRR selected, not set up.
abbrev pub fresh : I8259a
fresh = record { irr = 0; isr = 0; imr = 0; select = record { register = Irr }; icw2 = 0; icw3 = 0; step = Icw1 }

-- One register is exchanged, and nothing else.
abbrev pub with_irr : I8259a → ℕ → I8259a
with_irr c x = record { irr = x; isr = c.isr; imr = c.imr; select = c.select; icw2 = c.icw2; icw3 = c.icw3; step = c.step }

abbrev pub with_isr : I8259a → ℕ → I8259a
with_isr c x = record { irr = c.irr; isr = x; imr = c.imr; select = c.select; icw2 = c.icw2; icw3 = c.icw3; step = c.step }

abbrev pub with_imr : I8259a → ℕ → I8259a
with_imr c x = record { irr = c.irr; isr = c.isr; imr = x; select = c.select; icw2 = c.icw2; icw3 = c.icw3; step = c.step }

abbrev pub with_select : I8259a → Register → I8259a
with_select c x =
    record { irr = c.irr; isr = c.isr; imr = c.imr; select = record { register = x }; icw2 = c.icw2; icw3 = c.icw3; step = c.step }

-- The lines are the levels 0 to 7.
abbrev pub is_line : ℕ → Bool
is_line n = nat_lt n 8

-- The level of line n, if there is such a line.
abbrev pub level_answer : ℕ → Result ℕ Refusal
level_answer n = asks (is_line n) NotALine (Ok n)

-- What a rise or a fall of line n answers.
abbrev pub line_answer : ℕ → Result (Unit {0}) Refusal
line_answer n = asks (is_line n) NotALine (Ok tt)

abbrev pub risen : I8259a → ℕ → I8259a
risen c n = cond (is_line n) (with_irr c (with c.irr n)) c

abbrev pub fallen : I8259a → ℕ → I8259a
fallen c n = cond (is_line n) (with_irr c (without c.irr n)) c

-- The ports are 0 and 1.
abbrev pub is_port : ℕ → Bool
is_port port = nat_lt port 2

abbrev pub shown : Register → ℕ → ℕ → ℕ
shown Irr irr isr = irr
shown Isr irr isr = isr

-- The bit of level n in a register that port 0 can read as; there is none above level 7.
abbrev pub shows : I8259a → Register → ℕ → Bool
shows c register n = is_line n && bit (shown register c.irr c.isr) n

-- Port 1 reads as the mask, port 0 as the selected register.
abbrev pub read_answer : I8259a → ℕ → Result ℕ Refusal
read_answer c port = asks (is_port port) NoSuchAddress (Ok (cond (port == 1) c.imr (shown c.select.register c.irr c.isr)))

-- Whether the set-up is complete, and whether it has begun.
abbrev pub is_set_up : Step → Bool
is_set_up Icw1 = false
is_set_up Icw2 = false
is_set_up Icw3 = false
is_set_up Icw4 = false
is_set_up Done = true

abbrev pub is_begun : Step → Bool
is_begun Icw1 = false
is_begun Icw2 = true
is_begun Icw3 = true
is_begun Icw4 = true
is_begun Done = true
