-- A nest's table, read backward.
use Rattle.std.proofs.Common.{◌≡◌, ℕ, zero, suc, ◌+◌, ◌<◌, ◌≤◌, Bool, ◌&&◌, ◌||◌, eqb, ◌≢◌, List, [], ◌∷◌, length, get_or, set, take, sym, refl, ap, ◌∙◌, ap₂, add-one, arith, get_or-set_other, get_or-set_same}
use Rattle.std.proofs.Math.Bool.{or_comm}
use Rattle.std.proofs.lemmas.List.Folds.{list_any_more}
use Rattle.std.specs.List.{list_any}
use Rattle.service.specs.declared.entry.Mark.{Mark}
use Rattle.service.specs.declared.entry.Entry.{Entry}
use Rattle.service.specs.declared.entry.Mark.TheVariants.{Held}
use Rattle.service.specs.Nests.{most_depth, entry, held, is_held, parked, parked_entry}
use Rattle.dispatch.specs.Tables.{backward, within, atop}

pub length-backward : (xs : List Entry) (k : ℕ) → length (backward xs k) ≡ k
length-backward xs zero = refl
length-backward xs (suc k) = ap suc (length-backward xs k)

backward-more : (xs : List Entry) (k : ℕ) → backward xs (k + 1) ≡ get_or xs k (entry 0 Held) ∷ backward xs k
backward-more xs k = rw add-one refl

backward-set : (xs : List Entry) (i : ℕ) (e : Entry) (k : ℕ) → k ≤ i → backward (set xs i e) k ≡ backward xs k
backward-set xs i e zero h = refl
backward-set xs i e (suc k) h =
    let ne : k ≢ i = omega arith in
    ap₂ ◌∷◌ (rw get_or-set_other refl) (backward-set xs i e k (omega arith))

backward-push : (xs : List Entry) (i : ℕ) (e : Entry) → i < length xs → backward (set xs i e) (i + 1) ≡ e ∷ backward xs i
backward-push xs i e h = backward-more (set xs i e) i ∙ ap₂ ◌∷◌ (rw get_or-set_same refl) (backward-set xs i e i (omega arith))

pub within-few : (k : ℕ) → k ≤ most_depth → within k ≡ k
within-few k h = grind arith

pub within-most : (k : ℕ) → within k ≤ most_depth
within-most k = grind arith

-- A nest with one entry more; k is the depth d within the table.
module _ (xs : List Entry) (d k : ℕ) (depth : k ≡ within d) where
  pub push_at : (e : Entry) → k < most_depth → k < length xs → backward (set xs k e) (within (k + 1)) ≡ e ∷ backward xs (within d)
  push_at e few h = ap (backward (set xs k e)) (within-few (k + 1) (omega arith)) ∙ backward-push xs k e h ∙ ap (λ j. e ∷ backward xs j) depth

-- A line is held if the table has its entry among the first k; p is the test for it.
held-first : (n : ℕ) (xs : List Entry) (k : ℕ) (p : Entry → Bool) → ((l : ℕ) (m : Mark) → p (entry l m) ≡ (eqb n l && is_held m)) → k ≤ length xs → list_any p (take k xs) ≡ held n (backward xs k)
held-first n xs zero p e h = refl
held-first n xs (suc k) p e h =
    let x = get_or xs k (entry 0 Held) in
    let more : list_any p (take (suc k) xs) ≡ (list_any p (take k xs) || p x) = rw (sym (add-one k)) (list_any_more p xs k (entry 0 Held) (omega arith)) in
    more ∙ or_comm (list_any p (take k xs)) (p x) ∙ ap₂ ◌||◌ (e x.line x.mark) (held-first n xs k p e (omega arith))

-- The same of an answer r about the entries within the depth d.
pub held-within : (p : Entry → Bool) (n : ℕ) (xs ys : List Entry) (d : ℕ) (r : Bool) → r ≡ list_any p ys → ys ≡ take (within d) xs → most_depth ≤ length xs → ((l : ℕ) (m : Mark) → p (entry l m) ≡ (eqb n l && is_held m)) → r ≡ held n (backward xs (within d))
held-within p n xs ys d r v w h e = v ∙ ap (list_any p) w ∙ held-first n xs (within d) p e (omega (arith, within-most d))

-- A table of which each place among the first k is marked so reads as the marked nest.
pub parked-table : (n : ℕ) (xs ys : List Entry) (k : ℕ) → ((j : ℕ) → j < k → get_or ys j (entry 0 Held) ≡ parked_entry n (get_or xs j (entry 0 Held))) → backward ys k ≡ parked n (backward xs k)
parked-table n xs ys zero h = refl
parked-table n xs ys (suc k) h = ap₂ ◌∷◌ (h k (omega arith)) (parked-table n xs ys k (λ j l. h j (omega arith)))

-- Marks leave the lines.
pub atop-parked : (n : ℕ) (es : List Entry) (base : List ℕ) → atop (parked n es) base ≡ atop es base
atop-parked n [] base = refl
atop-parked n (x ∷ xs) base = ap (λ ys. x.line ∷ ys) (atop-parked n xs base)
