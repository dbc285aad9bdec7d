-- What the controller answers, and what its chip is after each call.
use Rattle.std.specs.Prelude.{◌≡◌, ℕ, Bool, false, cond, not, ◌&&◌, ◌||◌, Some, None, Option, ◌==◌}
use Rattle.controller.specs.declared.answer.Answer.{Answer}
use Rattle.controller.specs.declared.answer.Answer.TheVariants.{Accepted, Withdrawn, Noted}
use Rattle.i8259a.specs.declared.chip.I8259a.{I8259a}
use Rattle.i8259a.specs.Bits.{with, without, lowest}
use Rattle.i8259a.specs.Chip.{is_line, with_isr, with_imr}
use Rattle.i8259a.specs.Signal.{First, NoneUrgent}
use Rattle.i8259a_controller.specs.declared.steps.Line.{Line}
use Rattle.i8259a_controller.specs.Told.{has}

-- The marks of line n, as its chip shows them.
abbrev pub line_of : I8259a → ℕ → Line
line_of c n = record { high = has c.irr n; serving = has c.isr n }

abbrev pub rise_answer : Bool → Bool → Answer
rise_answer high serving = cond (high || serving) Noted Accepted

abbrev pub fall_answer : Bool → Bool → Answer
fall_answer high serving = cond (high && not serving) Withdrawn Noted

abbrev pub finish_answer : Bool → Answer
finish_answer high = cond high Accepted Noted

-- Level n is the lowest in service.
abbrev pub is_atop : Option ℕ → ℕ → Bool
is_atop None n = false
is_atop (Some level) n = n == level

-- Level 7 is believed only if its in-service bit was clear before and is set after.
abbrev pub believed : ℕ → Bool → Bool → Bool
believed level before after = not (level == 7) || (not before && after)

-- The first urgent level went into service, or there is none and nothing changed.
abbrev pub TakesLevel : I8259a → Option ℕ → I8259a → Type 0
TakesLevel c None d = NoneUrgent c × (d ≡ c)
TakesLevel c (Some n) d = First c n × (d ≡ with_isr c (with c.isr n))

-- The chip after an open, a shut and a finish of n; a refused call leaves it as it was.
abbrev pub opened_chip : I8259a → ℕ → I8259a
opened_chip c n = cond (is_line n) (with_imr c (without c.imr n)) c

abbrev pub shut_chip : I8259a → ℕ → I8259a
shut_chip c n = cond (is_line n && not (has c.isr n)) (with_imr c (with c.imr n)) c

abbrev pub finished_chip : I8259a → ℕ → I8259a
finished_chip c n = cond (is_line n && is_atop (lowest c.isr) n) (with_isr c (without c.isr n)) c
