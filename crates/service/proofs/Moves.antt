-- What stays true of a dispatcher from call to call, and what a call comes to under it, one case for each outcome.
use Rattle.std.proofs.Common.{◌≡◌, ℕ, suc, ◌+◌, ◌<◌, true, false, cond, ◌&&◌, List, [], ◌∷◌, length, Some, None, Result, sym, refl, ap, ◌∙◌, subst, subst₂, arith}
use Rattle.std.proofs.lemmas.Bool.{eqb-true}
use Rattle.controller.specs.declared.refusal.Refusal.{Refusal}
use Rattle.controller.specs.declared.answer.Answer.{Answer}
use Rattle.controller.specs.declared.answer.Answer.TheVariants.{Accepted, Withdrawn, Noted, Done}
use Rattle.controller.specs.Meaning.{State, Meaning, Lawful, in_service, among, Beats, Climbs, class_count, FirstReady, NoneReady}
use Rattle.controller.specs.Rules.{so, otherwise, Gives, Turns, idle, risen, fallen, opening, taken, finished, onward, is_newest}
use Rattle.controller.proofs.Stacks.{climbs-few}
use Rattle.service.specs.declared.entry.Entry.{Entry}
use Rattle.service.specs.declared.entry.Mark.TheVariants.{Held}
use Rattle.service.specs.Nests.{most_depth, entry, parked, removed, lines_of}
use Rattle.service.specs.Calls.{Call, Reply, passed_on}
use Rattle.service.specs.Calls.Call.{Rise, Fall, Open, Shut, Park, Close, Finish, Take}
use Rattle.service.specs.Calls.Reply.{Answered, Start, Spurious, End, Refused}
use Rattle.service.specs.Steps.{Snapshot, Step, Refuses, Ends, depth}

-- The controller is lawful, and its stack is the lines of the nest.
pub record Kept (s : Snapshot) : Type 0 where
  pub lawful : Lawful s.meaning
  pub nested : s.meaning.state.stack ≡ lines_of s.nest

abbrev pub put : Snapshot → State → List Entry → Snapshot
put s t es = record { meaning = onward s.meaning t; nest = es }

pub data Move (s : Snapshot) : Call → Reply → Snapshot → Type 0 where
  turned : (c : Call) (e : Refusal) → Move s c (Refused e) s
  rises : (n : ℕ) → Move s (Rise n) (Answered (cond (idle s.meaning.state n) Accepted Noted)) (put s (risen s.meaning.state n) s.nest)
  falls : (n : ℕ) → Move s (Fall n) (Answered (cond (s.meaning.state.waiting n && s.meaning.fixed.fleeting n) Withdrawn Noted)) (put s (fallen s.meaning.fixed s.meaning.state n) s.nest)
  opens : (n : ℕ) → Move s (Open n) (Answered Done) (put s (opening s.meaning.state n true) s.nest)
  shuts : (n : ℕ) → in_service s.meaning.state n ≡ false → Move s (Shut n) (Answered Done) (put s (opening s.meaning.state n false) s.nest)
  parks : (n : ℕ) → Move s (Park n) (Answered Done) (put s s.meaning.state (parked n s.nest))
  idles : NoneReady s.meaning → Move s Take (Spurious (depth s)) s
  starts : (n : ℕ) → FirstReady s.meaning n → Move s Take (Start n (depth s + 1)) (put s (taken s.meaning.state n) (entry n Held ∷ s.nest))
  closes : (n : ℕ) → is_newest s.meaning.state n ≡ true → Move s (Close n) (End n (depth s) (cond (s.meaning.state.high n) Accepted Noted)) (put s (finished s.meaning.state n) (removed s.nest))
  finishes : (n : ℕ) → is_newest s.meaning.state n ≡ true → Move s (Finish n) (End n (depth s) (cond (s.meaning.state.high n) Accepted Noted)) (put s (finished s.meaning.state n) (removed s.nest))

placed : {s : Snapshot} {c : Call} {r r₀ : Reply} {s' s₀ : Snapshot} → r ≡ r₀ → s' ≡ s₀ → Move s c r₀ s₀ → Move s c r s'
placed {s} {c} p q m = subst₂ (λ r s'. Move s c r s') (sym p) (sym q) m

pub snapshot-same : (s : Snapshot) (m : Meaning) (es : List Entry) → s.meaning ≡ m → s.nest ≡ es → s ≡ record { meaning = m; nest = es }
snapshot-same s m es p q = λ i. record { meaning = p i; nest = q i }

length-lines : (es : List Entry) → length (lines_of es) ≡ length es
length-lines [] = refl
length-lines (x ∷ xs) = ap suc (length-lines xs)

-- A full nest leaves no line ready: the class of its newest line is 0.
pub full-none : (s : Snapshot) → Kept s → depth s ≡ most_depth → NoneReady s.meaning
full-none s k full j r = go s.meaning.state.stack refl (ap length k.nested ∙ length-lines s.nest ∙ full)
  where
    go : (xs : List ℕ) → s.meaning.state.stack ≡ xs → length xs ≡ most_depth → ⊥
    go [] p q = omega arith
    go (x ∷ xs) p q =
        let up : Climbs s.meaning.fixed (x ∷ xs) = subst (Climbs s.meaning.fixed) p k.lawful.state.climbs in
        let beats : Beats s.meaning.fixed j (x ∷ xs) = subst (Beats s.meaning.fixed j) p r.urgent in
        let few : s.meaning.fixed.class x + length xs < class_count = climbs-few s.meaning.fixed x xs up (λ n h. k.lawful.fixed.classed n (k.lawful.state.served_line n (subst (λ ys. among n ys ≡ true) (sym p) h))) in
        omega arith

passed : (s s' : Snapshot) (c : Call) (r : Reply) (a : Result Answer Refusal) (x : Answer) (t : State) → Gives x t s.meaning a s'.meaning → r ≡ passed_on a → s'.nest ≡ s.nest → Move s c (Answered x) (put s t s.nest) → Move s c r s'
passed s s' c r a x t g p q m = placed (p ∙ ap passed_on g.0) (snapshot-same s' (onward s.meaning t) s.nest g.1 q) m

turning : (s s' : Snapshot) (c : Call) (r : Reply) (a : Result Answer Refusal) (e : Refusal) → Turns e s.meaning a s'.meaning → r ≡ passed_on a → s'.nest ≡ s.nest → Move s c r s'
turning s s' c r a e g p q = placed (p ∙ ap passed_on g.0) (snapshot-same s' s.meaning s.nest g.1 q) (turned c e)

refusing : (s s' : Snapshot) (c : Call) (r : Reply) (e : Refusal) → Refuses e s r s' → Move s c r s'
refusing s s' c r e g = placed g.0 g.1 (turned c e)

-- What a close or a finish that is carried out writes and leaves.
pub ends-view : (s s' : Snapshot) (r : Reply) (n : ℕ) → Ends n s r s' →
    (is_newest s.meaning.state n ≡ true) × (r ≡ End n (depth s) (cond (s.meaning.state.high n) Accepted Noted)) × (s' ≡ put s (finished s.meaning.state n) (removed s.nest))
ends-view s s' r n (a, so e (so top (x, y)), p, q) = (top, cc, snapshot-same s' (onward s.meaning (finished s.meaning.state n)) (removed s.nest) y q)
ends-view s s' r n (a, so e (otherwise t (x, y)), p, q) = cc
ends-view s s' r n (a, otherwise e (x, y), p, q) = cc

ending : (s s' : Snapshot) (c : Call) (r : Reply) (n : ℕ) → Ends n s r s' → (is_newest s.meaning.state n ≡ true → Move s c (End n (depth s) (cond (s.meaning.state.high n) Accepted Noted)) (put s (finished s.meaning.state n) (removed s.nest))) → Move s c r s'
ending s s' c r n e f = let w = ends-view s s' r n e in placed w.1 w.2 (f w.0)

pub view : (s s' : Snapshot) (c : Call) (r : Reply) → Kept s → Step s c r s' → Move s c r s'
view s s' (Rise n) r k (a, so _ y, p, q) = passed s s' (Rise n) r a _ _ y p q (rises n)
view s s' (Rise n) r k (a, otherwise _ y, p, q) = turning s s' (Rise n) r a _ y p q
view s s' (Fall n) r k (a, so _ y, p, q) = passed s s' (Fall n) r a _ _ y p q (falls n)
view s s' (Fall n) r k (a, otherwise _ y, p, q) = turning s s' (Fall n) r a _ y p q
view s s' (Open n) r k (a, so _ y, p, q) = passed s s' (Open n) r a _ _ y p q (opens n)
view s s' (Open n) r k (a, otherwise _ y, p, q) = turning s s' (Open n) r a _ y p q
view s s' (Shut n) r k (a, so _ (so _ y), p, q) = turning s s' (Shut n) r a _ y p q
view s s' (Shut n) r k (a, so _ (otherwise out y), p, q) = passed s s' (Shut n) r a _ _ y p q (shuts n out)
view s s' (Shut n) r k (a, otherwise _ y, p, q) = turning s s' (Shut n) r a _ y p q
view s s' Take r k (so e (p, q)) = let full : depth s ≡ most_depth = eqb-true (depth s) most_depth e in placed (p ∙ ap Spurious (sym full)) q (idles (full-none s k full))
view s s' Take r k (otherwise _ (None, (y, z), (p, q))) = placed p (snapshot-same s' s.meaning s.nest z q) (idles y)
view s s' Take r k (otherwise _ (Some n, (y, z), (p, q))) = placed p (snapshot-same s' _ _ z q) (starts n y)
view s s' (Park n) r k (so _ (p, q)) = placed p q (parks n)
view s s' (Park n) r k (otherwise _ y) = refusing s s' (Park n) r _ y
view s s' (Close n) r k (so _ (so _ y)) = ending s s' (Close n) r n y (closes n)
view s s' (Close n) r k (so _ (otherwise _ y)) = refusing s s' (Close n) r _ y
view s s' (Close n) r k (otherwise _ y) = refusing s s' (Close n) r _ y
view s s' (Finish n) r k (so _ (so _ (so _ y))) = ending s s' (Finish n) r n y (finishes n)
view s s' (Finish n) r k (so _ (so _ (otherwise _ y))) = refusing s s' (Finish n) r _ y
view s s' (Finish n) r k (so _ (otherwise _ y)) = refusing s s' (Finish n) r _ y
view s s' (Finish n) r k (otherwise _ y) = refusing s s' (Finish n) r _ y
