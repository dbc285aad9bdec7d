-- What the old unit tells once it is made.
use Rattle.std.specs.Prelude.{◌≡◌, ℕ, ◌+◌, ◌-◌, ◌*◌, ◌<◌, true, false, cond, List, [], ◌∷◌, nat_lt}
use Rattle.controller.specs.Meaning.{Meaning, among}

-- Its lines, the first by rank first: the slave's eight lie where the master's line 2 was, which is no line.
abbrev pub by_rank : List ℕ
by_rank = 0 ∷ 1 ∷ 8 ∷ 9 ∷ 10 ∷ 11 ∷ 12 ∷ 13 ∷ 14 ∷ 15 ∷ 3 ∷ 4 ∷ 5 ∷ 6 ∷ 7 ∷ []

-- The ranks increase strictly along the list.
abbrev pub Increasing : (ℕ → ℕ) → List ℕ → Type 0
Increasing rank [] = Unit {0}
Increasing rank (x ∷ []) = Unit {0}
Increasing rank (x ∷ (y ∷ ys)) = (rank x < rank y) × Increasing rank (y ∷ ys)

-- A master's line has its number as its class, a slave's line that of the master's line 2.
abbrev pub class_of : ℕ → ℕ
class_of n = cond (nat_lt n 8) n 2

-- The master's ranks lie eight apart, and the slave's fill the gap after the master's line 2.
abbrev pub rank_of : ℕ → ℕ
rank_of n = cond (nat_lt n 8) (n * 8) (2 * 8 + (n - 8))

pub record OldUnit (m : Meaning) : Type 0 where
  pub width : m.fixed.width ≡ 16
  pub span : m.fixed.span ≡ 64
  pub lines : (n : ℕ) → m.fixed.line n ≡ among n by_rank
  pub ranks : Increasing m.fixed.rank by_rank
  pub each_rank : (n : ℕ) → among n by_rank ≡ true → m.fixed.rank n ≡ rank_of n
  pub classes : (n : ℕ) → among n by_rank ≡ true → m.fixed.class n ≡ class_of n
  pub fleeting : (n : ℕ) → among n by_rank ≡ true → m.fixed.fleeting n ≡ true
  -- Every line is shut and low, and none waits or is in service.
  pub shut : (n : ℕ) → m.state.opened n ≡ false
  pub low : (n : ℕ) → m.state.high n ≡ false
  pub waiting : (n : ℕ) → m.state.waiting n ≡ false
  pub stack : m.state.stack ≡ []
