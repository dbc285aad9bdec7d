-- When two controllers fit, and what their pile tells.
use Rattle.std.specs.Prelude.{◌≡◌, ℕ, ◌+◌, ◌*◌, Bool, true, false, not, ◌&&◌, ◌||◌, List, [], ◌∷◌, Ok, Err, Result, nat_le}
use Rattle.controller.specs.declared.refusal.Refusal.{Refusal}
use Rattle.controller.specs.declared.refusal.Refusal.TheVariants.{NotAFleetingLine, PartInService, TooLarge}
use Rattle.controller.specs.Meaning.{Meaning, most_width, most_span}
use Rattle.controller.specs.Rules.{Asks}
use Rattle.cascade.specs.Pile.{pile, void}

abbrev pub is_fleeting : Meaning → ℕ → Bool
is_fleeting a k = a.fixed.line k && a.fixed.fleeting k

abbrev pub serving : List ℕ → Bool
serving [] = false
serving (x ∷ xs) = true

-- A line is in service.
abbrev pub is_serving : Meaning → Bool
is_serving m = serving m.state.stack

abbrev pub is_small : Meaning → Meaning → Bool
is_small a b = nat_le (a.fixed.width + b.fixed.width) most_width && nat_le (a.fixed.span * b.fixed.span) most_span

-- Is k a fleeting line of the outer? Is nothing in service in either? Are they small enough together?
abbrev pub Checks : Meaning → ℕ → Meaning → Result (Unit {0}) Refusal → Type 0
Checks a k b r =
    Asks (is_fleeting a k)
    (Asks (is_serving a || is_serving b)
    (r ≡ Err PartInService)
    (Asks (is_small a b) (r ≡ Ok tt) (r ≡ Err TooLarge)))
    (r ≡ Err NotAFleetingLine)

-- All three at once.
abbrev pub is_fit : Meaning → ℕ → Meaning → Bool
is_fit a k b = is_fleeting a k && not (is_serving a || is_serving b) && is_small a b

-- What the pile of a and b tells: if they fit it is theirs, with the marks of k out of sight; else it has no line.
abbrev pub Makes : Meaning → ℕ → Meaning → Meaning → Type 0
Makes a k b c = Asks (is_fit a k b) (c ≡ pile a k b) (c ≡ void)
