-- What stays HELD in a nest, and what a take starts.
use Rattle.std.proofs.Common.{◌≡◌, ℕ, true, false, ◌&&◌, eqb, List, [], ◌∷◌, Some, None, Option, sym, ap, ◌∙◌, ⊎_elim}
use Rattle.std.proofs.lemmas.Bool.{cond-false, false≢true, both_ways, eqb-true, ne_eqb, or_left, or_right, or_cases, and_parts, and_from}
use Rattle.controller.specs.Meaning.{Meaning, Lawful, among}
use Rattle.controller.specs.Rules.{Takes}
use Rattle.service.specs.declared.entry.Entry.{Entry}
use Rattle.service.specs.declared.entry.Mark.TheVariants.{Parked}
use Rattle.service.specs.Nests.{held, is_held, parked, parked_entry}
use Rattle.dispatch.specs.Tables.{atop}
use Rattle.dispatch.specs.Claims.{StayHeld, OthersStayHeld, TakesAnother}

-- With one entry more, and with one line parked.
pub held-push : (e : Entry) (es : List Entry) → StayHeld es (e ∷ es)
held-push e es n h = or_right (eqb n e.line && is_held e.mark) (held n es) h

pub held-parked : (m : ℕ) (es : List Entry) → OthersStayHeld m es (parked m es)
held-parked m [] n ne h = h
held-parked m (x ∷ xs) n ne h =
    ⊎_elim
    (λ here. or_left (eqb n x.line && is_held (parked_entry m x).mark) (held n (parked m xs))
    (let p = and_parts (eqb n x.line) (is_held x.mark) here in
    let off : eqb m x.line ≡ false = ne_eqb m x.line (λ e. ne (eqb-true n x.line p.0 ∙ sym e)) in
    and_from (eqb n x.line) (is_held (parked_entry m x).mark) p.0 (ap is_held (cond-false (eqb m x.line) Parked x.mark off) ∙ p.1)))
    (λ later. or_right (eqb n x.line && is_held (parked_entry m x).mark) (held n (parked m xs)) (held-parked m xs n ne later))
    (or_cases (eqb n x.line && is_held x.mark) (held n xs) h)

-- A line of an entry is in service.
held-among : (n : ℕ) (es : List Entry) (base : List ℕ) → held n es ≡ true → among n (atop es base) ≡ true
held-among n [] base h = absurd (false≢true h)
held-among n (x ∷ xs) base h =
    ⊎_elim
    (λ here. or_left (eqb n x.line) (among n (atop xs base)) (and_parts (eqb n x.line) (is_held x.mark) here).0)
    (λ later. or_right (eqb n x.line) (among n (atop xs base)) (held-among n xs base later))
    (or_cases (eqb n x.line && is_held x.mark) (held n xs) h)

-- A line that waits is in no entry, so a take starts another.
pub takes-another : (m m' : Meaning) (es : List Entry) (base : List ℕ) (r : Option ℕ) → Lawful m → m.state.stack ≡ atop es base → Takes m r m' → TakesAnother r es
takes-another m m' es base None h top t = tt
takes-another m m' es base (Some j) h top t = λ n on e.
    both_ways _ (h.state.served_idle n (ap (among n) top ∙ held-among n es base on)) (ap m.state.waiting e ∙ t.0.ready.waiting)
