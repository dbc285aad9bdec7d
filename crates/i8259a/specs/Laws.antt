-- What the calls of a chip come to, in the words of its datasheet.
use Rattle.std.specs.Prelude.{◌≡◌, ℕ, ◌/◌, ◌%◌, ◌<◌, ◌≤◌, true, false, ◌||◌, ◌≢◌, Ok, Err, Result, ◌==◌}
use Rattle.controller.specs.declared.refusal.Refusal.{Refusal}
use Rattle.i8259a.specs.declared.chip.I8259a.{I8259a}
use Rattle.i8259a.specs.Bits.{bit}
use Rattle.i8259a.specs.Chip.{with_isr, risen, fallen, read_answer}
use Rattle.i8259a.specs.Signal.{SetUp, InService, Urgent, NoneUrgent, First, Acknowledges}
use Rattle.i8259a.specs.Writing.{write_answer, write_after, icw1_modelled, ready}

-- The lowest level in service.
pub record Newest (c : I8259a) (n : ℕ) : Type 0 where
  pub serves : InService c n
  pub lowest : (m : ℕ) → InService c m → n ≤ m

-- From c to d level n went out of service, and nothing else changed.
pub record Ends (c : I8259a) (n : ℕ) (d : I8259a) : Type 0 where
  pub ended : InService d n → ⊥
  pub others : (m : ℕ) → m < 8 → m ≢ n → bit d.isr m ≡ bit c.isr m
  pub same : d ≡ with_isr c d.isr

-- From c to d level n went into service, and nothing else changed.
pub record Starts (c : I8259a) (n : ℕ) (d : I8259a) : Type 0 where
  pub started : InService d n
  pub others : (m : ℕ) → m < 8 → m ≢ n → bit d.isr m ≡ bit c.isr m
  pub same : d ≡ with_isr c d.isr

-- Byte b is an OCW2 whose bits 7 to 5 are the number k.
pub record Ocw2 (k b : ℕ) : Type 0 where
  pub command : b / 32 ≡ k
  pub not_icw1 : bit b 4 ≡ false
  pub not_ocw3 : bit b 3 ≡ false

-- The chip after four writes.
abbrev pub after_four : I8259a → ℕ → ℕ → ℕ → ℕ → I8259a
after_four c b₁ b₂ b₃ b₄ = write_after (write_after (write_after (write_after c 0 b₁) 1 b₂) 1 b₃) 1 b₄

pub record Laws : Type 0 where
  -- A refused write changes nothing.
  pub refused : (c : I8259a) (port b : ℕ) (e : Refusal) → write_answer c port b ≡ Err e → write_after c port b ≡ c
  -- A lawful ICW1 and three bytes to port 1, the last of them ICW4, set a chip up from any state.
  pub set_up : (c : I8259a) (b v w : ℕ) → bit b 4 ≡ true → icw1_modelled b ≡ true → after_four c b v w 1 ≡ ready c v w
  -- The specific end takes its level out of service.
  pub specific_end : (c : I8259a) (b : ℕ) → SetUp c → Ocw2 3 b → Ends c (b % 8) (write_after c 0 b)
  -- The non-specific end takes the lowest level out of service; with none in service it changes nothing.
  pub plain_end : (c : I8259a) (b n : ℕ) → SetUp c → Ocw2 1 b → Newest c n → Ends c n (write_after c 0 b)
  pub idle_end : (c : I8259a) (b : ℕ) → SetUp c → Ocw2 1 b → ((n : ℕ) → InService c n → ⊥) → write_after c 0 b ≡ c
  -- OCW2 with 010 does nothing.
  pub no_end : (c : I8259a) (b : ℕ) → SetUp c → Ocw2 2 b → (write_answer c 0 b ≡ Ok tt) × (write_after c 0 b ≡ c)
  -- The mask reads as it was written.
  pub mask : (c : I8259a) (b : ℕ) → SetUp c → read_answer (write_after c 1 b) 1 ≡ Ok b
  -- OCW3 with low bits 10 shows IRR at port 0, with 11 the in-service register.
  pub shows_irr : (c : I8259a) → SetUp c → read_answer (write_after c 0 0x0a) 0 ≡ Ok c.irr
  pub shows_isr : (c : I8259a) → SetUp c → read_answer (write_after c 0 0x0b) 0 ≡ Ok c.isr
  -- A rise makes its own line high and a fall makes it low; every other stays.
  pub rises : (c : I8259a) (n m : ℕ) → n < 8 → m < 8 → bit (risen c n).irr m ≡ (bit c.irr m || m == n)
  pub falls : (c : I8259a) (n m : ℕ) → n < 8 → m < 8 → m ≢ n → bit (fallen c n).irr m ≡ bit c.irr m
  pub falls_low : (c : I8259a) (n : ℕ) → n < 8 → bit (fallen c n).irr n ≡ false
  -- An acknowledge puts the level that it found urgent into service, and then only lower levels are urgent.
  pub starts : (c d : I8259a) (n : ℕ) → First c n → Acknowledges c (Ok n) d → Starts c n d
  pub ahead_only : (c d : I8259a) (n m : ℕ) → First c n → Acknowledges c (Ok n) d → Urgent d m → m < n
  -- Without a signal an acknowledge names level 7 and changes nothing.
  pub spurious : (c d : I8259a) (n : ℕ) → NoneUrgent c → Acknowledges c (Ok n) d → (n ≡ 7) × (d ≡ c)
  -- What an acknowledge answers and leaves is determined.
  pub one_answer : (c d e : I8259a) (r s : Result ℕ Refusal) → Acknowledges c r d → Acknowledges c s e → (r ≡ s) × (d ≡ e)

-- Shut, so that a proof about a new chip does not wade through them.
unfoldable pub ChipLaws : Type 0
ChipLaws = Laws
