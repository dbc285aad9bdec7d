-- Each call keeps what stays true, and leaves what is fixed.
use Rattle.std.proofs.Common.{◌≡◌, ℕ, List, [], ◌∷◌, sym, refl, ap, ◌∙◌}
use Rattle.controller.specs.Meaning.{State, StateLaws}
use Rattle.controller.specs.Rules.{older}
use Rattle.controller.proofs.Keeping.{risen-lawful, fallen-lawful, opened-lawful, shut-lawful, taken-lawful, finished-lawful}
use Rattle.service.specs.declared.entry.Entry.{Entry}
use Rattle.service.specs.Nests.{parked, removed, lines_of}
use Rattle.service.specs.Calls.{Call, Reply}
use Rattle.service.specs.Steps.{Snapshot}
use Rattle.service.specs.Runs.{Run, Fresh}
use Rattle.service.specs.Runs.Run.{rest, then}
use Rattle.service.proofs.Moves.{Kept, Move, put, view}
use Rattle.service.proofs.Moves.Move.{turned, rises, falls, opens, shuts, parks, idles, starts, closes, finishes}

pub lines-parked : (n : ℕ) (es : List Entry) → lines_of (parked n es) ≡ lines_of es
lines-parked n [] = refl
lines-parked n (x ∷ xs) = ap (λ ys. x.line ∷ ys) (lines-parked n xs)

lines-removed : (es : List Entry) → older (lines_of es) ≡ lines_of (removed es)
lines-removed [] = refl
lines-removed (x ∷ xs) = refl

-- Kept with another lawful state, whose stack is the lines of the new nest.
kept_put : (s : Snapshot) (t : State) (es : List Entry) → Kept s → StateLaws s.meaning.fixed t → t.stack ≡ lines_of es → Kept (put s t es)
kept_put s t es k h e = record { lawful = record { fixed = k.lawful.fixed; state = h }; nested = e }

pub keep : {s s' : Snapshot} {c : Call} {r : Reply} → Kept s → Move s c r s' → Kept s'
keep k (turned c e) = k
keep {s} k (rises n) = kept_put s _ _ k (risen-lawful s.meaning.fixed s.meaning.state n k.lawful.state) k.nested
keep {s} k (falls n) = kept_put s _ _ k (fallen-lawful s.meaning.fixed s.meaning.state n k.lawful.state) k.nested
keep {s} k (opens n) = kept_put s _ _ k (opened-lawful s.meaning.fixed s.meaning.state n k.lawful.state) k.nested
keep {s} k (shuts n out) = kept_put s _ _ k (shut-lawful s.meaning.fixed s.meaning.state n k.lawful.state out) k.nested
keep {s} k (parks n) = kept_put s _ _ k k.lawful.state (k.nested ∙ sym (lines-parked n s.nest))
keep k (idles h) = k
keep {s} k (starts n f) = kept_put s _ _ k (taken-lawful s.meaning.fixed s.meaning.state n k.lawful.state f.ready) (ap (λ ys. n ∷ ys) k.nested)
keep {s} k (closes n top) = kept_put s _ _ k (finished-lawful s.meaning.fixed s.meaning.state n k.lawful.state top) (ap older k.nested ∙ lines-removed s.nest)
keep {s} k (finishes n top) = kept_put s _ _ k (finished-lawful s.meaning.fixed s.meaning.state n k.lawful.state top) (ap older k.nested ∙ lines-removed s.nest)

pub same-fixed : {s s' : Snapshot} {c : Call} {r : Reply} → Move s c r s' → s'.meaning.fixed ≡ s.meaning.fixed
same-fixed (turned c e) = refl
same-fixed _ = refl

pub keeps : {s s' : Snapshot} {cs : List Call} {rs : List Reply} → Kept s → Run s cs rs s' → Kept s'
keeps k rest = k
keeps {s} k (then {s₁ = x} {c = c} {r = r} step q) = keeps (keep k (view s x c r k step)) q

pub fresh_kept : (s : Snapshot) → Fresh s → Kept s
fresh_kept s f = record { lawful = f.lawful; nested = f.quiet.serves ∙ sym (ap lines_of f.empty) }
