-- When a chip signals, and what an acknowledge does.
use Rattle.std.specs.Prelude.{◌≡◌, ℕ, ◌<◌, ◌≤◌, Bool, true, false, cond, ◌⊎◌, Some, None, Ok, Err, MatchBool, Option, Result, nat_lt}
use Rattle.controller.specs.declared.refusal.Refusal.{Refusal}
use Rattle.controller.specs.declared.refusal.Refusal.TheVariants.{NotSetUp}
use Rattle.i8259a.specs.declared.chip.I8259a.{I8259a}
use Rattle.i8259a.specs.Bits.{bit, with}
use Rattle.i8259a.specs.Chip.{is_set_up, with_isr}

-- The set-up is complete.
abbrev pub SetUp : I8259a → Type 0
SetUp c = is_set_up c.step ≡ true

-- Level n is high and not masked.
pub record Requests (c : I8259a) (n : ℕ) : Type 0 where
  pub level : n < 8
  pub high : bit c.irr n ≡ true
  pub unmasked : bit c.imr n ≡ false

abbrev pub InService : I8259a → ℕ → Type 0
InService c n = (n < 8) × (bit c.isr n ≡ true)

-- Level n requests and lies below every level in service.
pub record Urgent (c : I8259a) (n : ℕ) : Type 0 where
  pub requests : Requests c n
  pub below : (s : ℕ) → InService c s → n < s

abbrev pub NoneUrgent : I8259a → Type 0
NoneUrgent c = (n : ℕ) → Urgent c n → ⊥

-- The lowest urgent level.
pub record First (c : I8259a) (n : ℕ) : Type 0 where
  pub urgent : Urgent c n
  pub lowest : (m : ℕ) → Urgent c m → n ≤ m

abbrev pub Firsts : I8259a → Option ℕ → Type 0
Firsts c None = NoneUrgent c
Firsts c (Some n) = First c n

-- A chip signals exactly if it is set up and some level is urgent.
abbrev pub Signals : I8259a → Bool → Type 0
Signals c r = MatchBool r (SetUp c × ((n : ℕ) × Urgent c n)) (SetUp c → NoneUrgent c)

-- An acknowledge puts the first urgent level into service and names it; with none it names level 7 and sets nothing.
abbrev pub Names : I8259a → ℕ → I8259a → Type 0
Names c n d = (First c n × (d ≡ with_isr c (with c.isr n))) ⊎ (NoneUrgent c × (n ≡ 7) × (d ≡ c))

abbrev pub Acknowledges : I8259a → Result ℕ Refusal → I8259a → Type 0
Acknowledges c (Ok n) d = SetUp c × Names c n d
Acknowledges c (Err e) d = (SetUp c → ⊥) × (e ≡ NotSetUp) × (d ≡ c)

-- The request, if it lies below the lowest level in service.
abbrev pub ahead : Option ℕ → Option ℕ → Option ℕ
ahead None s = None
ahead (Some n) None = Some n
ahead (Some n) (Some s) = cond (nat_lt n s) (Some n) None
