-- A nest: the lines that were started and have not ended yet, newest first.
use Rattle.std.specs.Prelude.{ℕ, Bool, true, false, cond, ◌&&◌, ◌||◌, List, [], ◌∷◌, Some, None, Option, ◌==◌}
use Rattle.service.specs.declared.entry.Entry.{Entry}
use Rattle.service.specs.declared.entry.Mark.{Mark}
use Rattle.service.specs.declared.entry.Mark.TheVariants.{Held, Parked}

-- The most entries that a nest has. As many as there are classes: lines that nest climb in class, so of a full nest the
-- newest has the smallest class, and no line is ready.
abbrev pub most_depth : ℕ
most_depth = 8

abbrev pub entry : ℕ → Mark → Entry
entry n k = record { line = n; mark = k }

abbrev pub is_held : Mark → Bool
is_held Held = true
is_held Parked = false

abbrev pub is_parked : Mark → Bool
is_parked Held = false
is_parked Parked = true

-- Line n has an entry marked HELD.
abbrev pub held : ℕ → List Entry → Bool
held n [] = false
held n (x ∷ xs) = (n == x.line && is_held x.mark) || held n xs

abbrev pub newest_entry : List Entry → Option Entry
newest_entry [] = None
newest_entry (x ∷ xs) = Some x

-- The newest entry is that of line n.
abbrev pub newest_is : ℕ → List Entry → Bool
newest_is n [] = false
newest_is n (x ∷ xs) = n == x.line

-- The newest entry is marked PARKED.
abbrev pub newest_parked : List Entry → Bool
newest_parked [] = false
newest_parked (x ∷ xs) = is_parked x.mark

-- The entries, with that of line n marked PARKED.
abbrev pub parked_entry : ℕ → Entry → Entry
parked_entry n x = entry x.line (cond (n == x.line) Parked x.mark)

abbrev pub parked : ℕ → List Entry → List Entry
parked n [] = []
parked n (x ∷ xs) = parked_entry n x ∷ parked n xs

-- The entries without the newest.
abbrev pub removed : List Entry → List Entry
removed [] = []
removed (x ∷ xs) = xs

abbrev pub lines_of : List Entry → List ℕ
lines_of [] = []
lines_of (x ∷ xs) = x.line ∷ lines_of xs
