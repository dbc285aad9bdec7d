-- What a controller tells, taken as one value, and the laws that hold of it.
use Rattle.std.specs.Prelude.{◌≡◌, ℕ, ◌^◌, ◌<◌, ◌≤◌, Bool, true, false, ◌||◌, List, [], ◌∷◌, ◌==◌}

-- The greatest width, the greatest span, and the number of classes.
abbrev pub most_width : ℕ
most_width = 256

abbrev pub most_span : ℕ
most_span = 2 ^ 31

abbrev pub class_count : ℕ
class_count = 8

-- What is fixed at the making: which numbers below the width are lines, and of each line its class (0 is the most
-- urgent), its fall rule and its rank. A line is fleeting if a fall withdraws its request, else steady. Of a number that is
-- no line, class, fall rule and rank mean nothing.
pub record Fixed : Type 0 where
  pub width : ℕ
  pub span : ℕ
  pub line : ℕ → Bool
  pub class : ℕ → ℕ
  pub fleeting : ℕ → Bool
  pub rank : ℕ → ℕ

-- What changes: the marks of the lines, and the stack of lines in service, newest first.
pub record State : Type 0 where
  pub opened : ℕ → Bool
  pub high : ℕ → Bool
  pub waiting : ℕ → Bool
  pub stack : List ℕ

pub record Meaning : Type 0 where
  pub fixed : Fixed
  pub state : State

-- Number n stands in the list.
abbrev pub among : ℕ → List ℕ → Bool
among n [] = false
among n (x ∷ xs) = n == x || among n xs

abbrev pub in_service : State → ℕ → Bool
in_service s n = among n s.stack

-- Line n is of strictly smaller class than the newest line of the stack, if there is one.
abbrev pub Beats : Fixed → ℕ → List ℕ → Type 0
Beats f n [] = Unit {0}
Beats f n (x ∷ xs) = f.class n < f.class x

-- A line is ready if it is open, waits, and is more urgent than what is in service.
pub record Ready (m : Meaning) (n : ℕ) : Type 0 where
  pub line : m.fixed.line n ≡ true
  pub opened : m.state.opened n ≡ true
  pub waiting : m.state.waiting n ≡ true
  pub urgent : Beats m.fixed n m.state.stack

-- The first ready line has the smallest rank.
pub record FirstReady (m : Meaning) (n : ℕ) : Type 0 where
  pub ready : Ready m n
  pub first : (j : ℕ) → Ready m j → m.fixed.rank n ≤ m.fixed.rank j

abbrev pub NoneReady : Meaning → Type 0
NoneReady m = (j : ℕ) → Ready m j → ⊥

-- The laws of what is fixed.
pub record FixedLaws (f : Fixed) : Type 0 where
  pub narrow : f.width ≤ most_width
  pub some : 0 < f.span
  pub short : f.span ≤ most_span
  pub within : (n : ℕ) → f.line n ≡ true → n < f.width
  pub classed : (n : ℕ) → f.line n ≡ true → f.class n < class_count
  pub ranked : (n : ℕ) → f.line n ≡ true → f.rank n < f.span
  -- Each line has a rank of its own, and a smaller rank never has the larger class.
  pub own : (a b : ℕ) → f.line a ≡ true → f.line b ≡ true → f.rank a ≡ f.rank b → a ≡ b
  pub ordered : (a b : ℕ) → f.line a ≡ true → f.line b ≡ true → f.rank a < f.rank b → f.class a ≤ f.class b

-- Each line of the stack is of strictly smaller class than the one below it.
abbrev pub Climbs : Fixed → List ℕ → Type 0
Climbs f [] = Unit {0}
Climbs f (x ∷ xs) = Beats f x xs × Climbs f xs

-- The laws of what changes.
pub record StateLaws (f : Fixed) (s : State) : Type 0 where
  pub served_line : (n : ℕ) → in_service s n ≡ true → f.line n ≡ true
  pub served_open : (n : ℕ) → in_service s n ≡ true → s.opened n ≡ true
  pub served_idle : (n : ℕ) → in_service s n ≡ true → s.waiting n ≡ false
  pub climbs : Climbs f s.stack
  pub high_waits : (n : ℕ) → f.line n ≡ true → s.high n ≡ true → in_service s n ≡ false → s.waiting n ≡ true
  pub low_fleeting : (n : ℕ) → f.line n ≡ true → f.fleeting n ≡ true → s.high n ≡ false → s.waiting n ≡ false

pub record Lawful (m : Meaning) : Type 0 where
  pub fixed : FixedLaws m.fixed
  pub state : StateLaws m.fixed m.state

-- The meaning that ten functions tell of a value s.
abbrev pub told : {S : Type 0} → (S → ℕ) → (S → ℕ) → (S → ℕ → Bool) → (S → ℕ → ℕ) → (S → ℕ → Bool) → (S → ℕ → ℕ) → (S → ℕ → Bool) → (S → ℕ → Bool) → (S → ℕ → Bool) → (S → List ℕ) → S → Meaning
told widths spans lines classes fleets ranks opened highs waits stack s = record {
  fixed = record { width = widths s; span = spans s; line = lines s; class = classes s; fleeting = fleets s; rank = ranks s };
  state = record { opened = opened s; high = highs s; waiting = waits s; stack = stack s };
}

-- A call leads from s to t: from a sound state to a sound one, and what is told before and after stands in the relation R.
abbrev pub Keeps : {S : Type 0} → (S → Type 0) → (S → Meaning) → (Meaning → Meaning → Type 0) → S → S → Type 0
Keeps sound tells R s t = sound s → sound t × R (tells s) (tells t)
