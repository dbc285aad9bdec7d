-- The entries of a nest's table, newest first.
use Rattle.std.specs.Prelude.{ℕ, zero, suc, cond, List, [], ◌∷◌, nat_lt, slice_index_or}
use Rattle.service.specs.declared.entry.Entry.{Entry}
use Rattle.service.specs.declared.entry.Mark.TheVariants.{Held}
use Rattle.service.specs.Nests.{most_depth, entry}
use Rattle.dispatch.specs.declared.nest.Nest.{Nest}

-- The first k of the table, the last of them first.
abbrev pub backward : List Entry → ℕ → List Entry
backward xs zero = []
backward xs (suc k) = slice_index_or xs k (entry 0 Held) ∷ backward xs k

-- No table has more than the greatest depth.
abbrev pub within : ℕ → ℕ
within k = cond (nat_lt k most_depth) k most_depth

abbrev pub entries_of : Nest → List Entry
entries_of n = backward n.entries (within n.depth)

-- The lines of the entries, on top of a stack.
abbrev pub atop : List Entry → List ℕ → List ℕ
atop [] base = base
atop (x ∷ xs) base = x.line ∷ atop xs base
