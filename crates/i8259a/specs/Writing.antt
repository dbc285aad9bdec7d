-- What a write asks, in its order, and what it does if all is answered yes.
use Rattle.std.specs.Prelude.{ℕ, ◌/◌, ◌%◌, Bool, true, cond, not, ◌&&◌, ◌||◌, is_ok, Ok, Result, ◌==◌}
use Rattle.controller.specs.declared.refusal.Refusal.{Refusal}
use Rattle.controller.specs.declared.refusal.Refusal.TheVariants.{NoSuchAddress, NotSetUp, NotModelled}
use Rattle.controller.specs.Refusals.{asks}
use Rattle.i8259a.specs.declared.chip.I8259a.{I8259a}
use Rattle.i8259a.specs.declared.chip.Register.TheVariants.{Irr, Isr}
use Rattle.i8259a.specs.declared.chip.Step.{Step}
use Rattle.i8259a.specs.declared.chip.Step.TheVariants.{Icw1, Icw2, Icw3, Icw4, Done}
use Rattle.i8259a.specs.Bits.{bit, without, without_lowest}
use Rattle.i8259a.specs.Chip.{is_port, is_set_up, is_begun, with_isr, with_imr, with_select}

-- At port 0, ICW1 (bit 4 set) comes at any time, OCW2 and OCW3 after the set-up; port 1 takes a byte once ICW1 came.
abbrev pub far_enough : Step → ℕ → ℕ → Bool
far_enough s port b = cond (port == 0) (bit b 4 || is_set_up s) (is_begun s)

-- ICW1 with ICW4 to come (bit 0), level triggered (bit 3) and cascaded (bit 1 clear).
abbrev pub icw1_modelled : ℕ → Bool
icw1_modelled b = bit b 0 && (bit b 3 && not (bit b 1))

-- OCW2 with 001, 011 or 010 in bits 7 to 5.
abbrev pub is_command : ℕ → Bool
is_command k = k == 1 || (k == 3 || k == 2)

abbrev pub ocw2_modelled : ℕ → Bool
ocw2_modelled b = is_command (b / 32)

-- OCW3 with bit 7 clear, no special mask command (bit 6) and no poll (bit 2).
abbrev pub ocw3_modelled : ℕ → Bool
ocw3_modelled b = not (bit b 7 || (bit b 6 || bit b 2))

-- Of the bytes to port 1 only ICW4 is checked.
abbrev pub icw4_modelled : Step → ℕ → Bool
icw4_modelled Icw1 b = true
icw4_modelled Icw2 b = true
icw4_modelled Icw3 b = true
icw4_modelled Icw4 b = b == 1
icw4_modelled Done b = true

-- A byte to port 0 is ICW1, OCW3 or OCW2 by its bits 4 and 3.
abbrev pub is_modelled : Step → ℕ → ℕ → Bool
is_modelled s port b =
    cond (port == 0) (cond (bit b 4) (icw1_modelled b) (cond (bit b 3) (ocw3_modelled b) (ocw2_modelled b))) (icw4_modelled s b)

-- What a write answers: does the port exist, is the set-up far enough, is the byte one that is modelled?
abbrev pub write_answer : I8259a → ℕ → ℕ → Result (Unit {0}) Refusal
write_answer c port b =
    asks (is_port port) NoSuchAddress
    (asks (far_enough c.step port b) NotSetUp
    (asks (is_modelled c.step port b) NotModelled (Ok tt)))

-- ICW1 clears the mask, ICW3 and the in-service register, selects IRR and starts the set-up.
abbrev pub restarted : I8259a → I8259a
restarted c = record { irr = c.irr; isr = 0; imr = 0; select = record { register = Irr }; icw2 = c.icw2; icw3 = 0; step = Icw2 }

-- OCW2: 001 ends the lowest level in service, 011 the level in bits 2 to 0, 010 does nothing.
abbrev pub ended : I8259a → ℕ → I8259a
ended c b =
    cond (b / 32 == 1) (with_isr c (without_lowest c.isr))
    (cond (b / 32 == 3) (with_isr c (without c.isr (b % 8))) c)

-- OCW3: low bits 10 select IRR, 11 the in-service register, others change no select.
abbrev pub selected : I8259a → ℕ → I8259a
selected c b = cond (b % 4 == 2) (with_select c Irr) (cond (b % 4 == 3) (with_select c Isr) c)

-- Port 1 takes ICW2, ICW3 and ICW4 in turn, and then the mask.
abbrev pub loaded : Step → I8259a → ℕ → I8259a
loaded Icw1 c b = c
loaded Icw2 c b = record { irr = c.irr; isr = c.isr; imr = c.imr; select = c.select; icw2 = b; icw3 = c.icw3; step = Icw3 }
loaded Icw3 c b = record { irr = c.irr; isr = c.isr; imr = c.imr; select = c.select; icw2 = c.icw2; icw3 = b; step = Icw4 }
loaded Icw4 c b = record { irr = c.irr; isr = c.isr; imr = c.imr; select = c.select; icw2 = c.icw2; icw3 = c.icw3; step = Done }
loaded Done c b = with_imr c b

abbrev pub written : I8259a → ℕ → ℕ → I8259a
written c port b = cond (port == 0) (cond (bit b 4) (restarted c) (cond (bit b 3) (selected c b) (ended c b))) (loaded c.step c b)

-- A refused write changes nothing.
abbrev pub write_after : I8259a → ℕ → ℕ → I8259a
write_after c port b = cond (is_ok (write_answer c port b)) (written c port b) c

-- A chip that is set up with these two bytes: nothing in service, nothing masked, IRR selected, the lines as they were.
abbrev pub ready : I8259a → ℕ → ℕ → I8259a
ready c icw2 icw3 = record { irr = c.irr; isr = 0; imr = 0; select = record { register = Irr }; icw2 = icw2; icw3 = icw3; step = Done }
