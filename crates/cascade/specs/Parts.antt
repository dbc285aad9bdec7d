-- Which part of a pile has a number.
use Rattle.std.specs.Prelude.{ℕ, ◌-◌, cond, Some, None, Ok, Err, Option, Result, ◌==◌, nat_lt}
use Rattle.controller.specs.declared.refusal.Refusal.{Refusal}
use Rattle.controller.specs.declared.refusal.Refusal.TheVariants.{NotALine}
use Rattle.cascade.specs.declared.pile.Part.{Part}
use Rattle.cascade.specs.declared.pile.Part.TheVariants.{Outer, Inner}

-- Of a pile whose inner hangs from k, a line of an outer of width w; parts that do not fit hang nowhere. The line k itself is
-- out of reach.
abbrev pub part_of : Option ℕ → ℕ → ℕ → Result Part Refusal
part_of None w n = Err NotALine
part_of (Some k) w n = cond (n == k) (Err NotALine) (Ok (cond (nat_lt n w) Outer (Inner k (n - w))))
