-- What a pile of two controllers tells: an inner one, b, hung from line k of an outer one, a.
use Rattle.std.specs.Prelude.{ℕ, ◌+◌, ◌-◌, ◌*◌, Bool, false, cond, not, ◌&&◌, List, [], ◌∷◌, ◌==◌, nat_lt}
use Rattle.controller.specs.Meaning.{Fixed, State, Meaning}

-- The numbers below w, the outer's width, are the outer's and have what f says; w + m is the inner's m and has what g says.
unfoldable pub side : {X : Type 0} → ℕ → (ℕ → X) → (ℕ → X) → ℕ → X
side w f g n = cond (nat_lt n w) (f n) (g (n - w))

-- The lines of both, but for k.
unfoldable pub pile_line : Fixed → ℕ → Fixed → ℕ → Bool
pile_line f k g n = side f.width (λ j. f.line j && not (j == k)) g.line n

-- Widths add and spans multiply. Inner lines have the class of k, and their ranks lie where the rank of k was.
abbrev pub pile_fixed : Fixed → ℕ → Fixed → Fixed
pile_fixed f k g = record {
  width = f.width + g.width;
  span = f.span * g.span;
  line = pile_line f k g;
  class = side f.width f.class (λ _. f.class k);
  fleeting = side f.width f.fleeting g.fleeting;
  rank = side f.width (λ n. f.rank n * g.span) (λ m. f.rank k * g.span + g.rank m);
}

-- The marks x of the outer and y of the inner; a number that is no line of the pile has none, so those of k do not show.
unfoldable pub marks : Fixed → ℕ → Fixed → (ℕ → Bool) → (ℕ → Bool) → ℕ → Bool
marks f k g x y n = pile_line f k g n && side f.width x y n

-- What stands in the place of x: the inner's newest line in service or, if it has none, x itself.
unfoldable pub instead : ℕ → List ℕ → ℕ → ℕ
instead w [] x = x
instead w (m ∷ ms) x = w + m

unfoldable pub renamed : ℕ → ℕ → List ℕ → ℕ → ℕ
renamed k w ins x = cond (x == k) (instead w ins x) x

-- The outer's stack with k replaced by the inner's line in service.
abbrev pub replaced : ℕ → ℕ → List ℕ → List ℕ → List ℕ
replaced k w ins [] = []
replaced k w ins (x ∷ xs) = renamed k w ins x ∷ replaced k w ins xs

abbrev pub pile_state : Fixed → ℕ → Fixed → State → State → State
pile_state f k g s t = record {
  opened = marks f k g s.opened t.opened;
  high = marks f k g s.high t.high;
  waiting = marks f k g s.waiting t.waiting;
  stack = replaced k f.width t.stack s.stack;
}

abbrev pub pile : Meaning → ℕ → Meaning → Meaning
pile a k b = record { fixed = pile_fixed a.fixed k b.fixed; state = pile_state a.fixed k b.fixed a.state b.state }

-- The pile of two that do not fit: it has no line.
abbrev pub void : Meaning
void = record {
  fixed = record { width = 0; span = 1; line = λ _. false; class = λ _. 0; fleeting = λ _. false; rank = λ _. 0 };
  state = record { opened = λ _. false; high = λ _. false; waiting = λ _. false; stack = [] };
}
