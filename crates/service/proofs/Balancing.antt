-- Each call keeps every line's balance.
use Rattle.std.proofs.Common.{◌≡◌, ℕ, ◌+◌, Bool, true, false, cond, not, ◌&&◌, ◌||◌, eqb, List, refl, ap, ◌∙◌, arith}
use Rattle.std.proofs.lemmas.Bool.{eqb-true, both_ways, false_from_ne_true}
use Rattle.controller.specs.declared.answer.Answer.TheVariants.{Accepted, Withdrawn, Noted}
use Rattle.controller.specs.Meaning.{in_service, among}
use Rattle.controller.specs.Rules.{older, is_newest}
use Rattle.controller.proofs.Stacks.{tops-among, among-older}
use Rattle.service.specs.Calls.{Call, Reply}
use Rattle.service.specs.Steps.{Snapshot}
use Rattle.service.specs.Runs.{Run}
use Rattle.service.specs.Runs.Run.{rest, then}
use Rattle.service.specs.Counts.{one, is_accepted, is_withdrawn, answers, may_accept, may_withdraw, is_end, accepted, withdrawn, ended}
use Rattle.service.proofs.Moves.{Kept, Move, view}
use Rattle.service.proofs.Moves.Move.{turned, rises, falls, opens, shuts, parks, idles, starts, closes, finishes}
use Rattle.service.proofs.Kept.{keep}

-- The sums of one call at line n, over plain marks: t tells whether the call's line is n, w and s the marks of waiting and
-- of service, of n or of the call's line.
rise-sum : (t wn wj sn sj : Bool) → (t ≡ true → (wn ≡ wj) × (sn ≡ sj)) →
    one (is_accepted (cond (not (wj || sj)) Accepted Noted) && t) + one wn + one sn ≡ one (is_withdrawn (cond (not (wj || sj)) Accepted Noted) && false) + 0 + one (cond t (wj || not (wj || sj)) wn) + one sn
rise-sum true wn true sn sj h = omega (arith, ap one (h refl).0, ap one (h refl).1)
rise-sum true wn false sn true h = omega (arith, ap one (h refl).0, ap one (h refl).1)
rise-sum true wn false sn false h = omega (arith, ap one (h refl).0, ap one (h refl).1)
rise-sum false wn true sn sj h = omega arith
rise-sum false wn false sn true h = omega arith
rise-sum false wn false sn false h = omega arith

fall-sum : (t wn wj fj : Bool) (s : ℕ) → (t ≡ true → wn ≡ wj) →
    one (is_accepted (cond (wj && fj) Withdrawn Noted) && false) + one wn + s ≡ one (is_withdrawn (cond (wj && fj) Withdrawn Noted) && t) + 0 + one (cond t (wj && not fj) wn) + s
fall-sum true wn true true s h = omega (arith, ap one (h refl))
fall-sum true wn true false s h = omega (arith, ap one (h refl))
fall-sum true wn false fj s h = omega (arith, ap one (h refl))
fall-sum false wn true true s h = omega arith
fall-sum false wn true false s h = omega arith
fall-sum false wn false fj s h = omega arith

start-sum : (t wn sn : Bool) → (t ≡ true → (wn ≡ true) × (sn ≡ false)) → 0 + one wn + one sn ≡ 0 + 0 + one (cond t false wn) + one (t || sn)
start-sum true wn sn h = omega (arith, ap one (h refl).0, ap one (h refl).1)
start-sum false wn sn h = omega arith

end-sum : (t h wn sn xn : Bool) → (t ≡ true → (wn ≡ false) × (sn ≡ true)) → xn ≡ cond t false sn →
    one (is_accepted (cond h Accepted Noted) && t) + one wn + one sn ≡ one (is_withdrawn (cond h Accepted Noted) && false) + one t + one (cond t h wn) + one xn
end-sum true true wn sn xn h e = omega (arith, ap one (h refl).0, ap one (h refl).1, ap one e)
end-sum true false wn sn xn h e = omega (arith, ap one (h refl).0, ap one (h refl).1, ap one e)
end-sum false true wn sn xn h e = omega (arith, ap one e)
end-sum false false wn sn xn h e = omega (arith, ap one e)

module _ (s : Snapshot) (k : Kept s) where
  -- The newest line is in service and does not wait.
  top-served : (j n : ℕ) → is_newest s.meaning.state j ≡ true → eqb n j ≡ true → (s.meaning.state.waiting n ≡ false) × (in_service s.meaning.state n ≡ true)
  top-served j n top t =
      let on : in_service s.meaning.state n ≡ true = ap (in_service s.meaning.state) (eqb-true n j t) ∙ tops-among j s.meaning.state.stack top in
      (k.lawful.state.served_idle n on, on)

  unserved : (n : ℕ) → s.meaning.state.waiting n ≡ true → in_service s.meaning.state n ≡ false
  unserved n waits = false_from_ne_true _ (λ on. both_ways _ (k.lawful.state.served_idle n on) waits)

even : {s s' : Snapshot} {c : Call} {r : Reply} → Kept s → Move s c r s' → (n : ℕ) →
    one (answers is_accepted r && may_accept n c) + one (s.meaning.state.waiting n) + one (in_service s.meaning.state n)
    ≡ one (answers is_withdrawn r && may_withdraw n c) + one (is_end n r) + one (s'.meaning.state.waiting n) + one (in_service s'.meaning.state n)
even k (turned c e) n = omega arith
even {s} k (rises j) n = rise-sum (eqb n j) (s.meaning.state.waiting n) (s.meaning.state.waiting j) (in_service s.meaning.state n) (in_service s.meaning.state j) (λ t. (ap s.meaning.state.waiting (eqb-true n j t), ap (in_service s.meaning.state) (eqb-true n j t)))
even {s} k (falls j) n = fall-sum (eqb n j) (s.meaning.state.waiting n) (s.meaning.state.waiting j) (s.meaning.fixed.fleeting j) _ (λ t. ap s.meaning.state.waiting (eqb-true n j t))
even k (opens j) n = omega arith
even k (shuts j out) n = omega arith
even k (parks j) n = omega arith
even k (idles h) n = omega arith
even {s} k (starts j f) n = start-sum (eqb n j) (s.meaning.state.waiting n) (in_service s.meaning.state n) (λ t. let w : s.meaning.state.waiting n ≡ true = ap s.meaning.state.waiting (eqb-true n j t) ∙ f.ready.waiting in (w, unserved s k n w))
even {s} k (closes j top) n = end-sum (eqb n j) (s.meaning.state.high j) (s.meaning.state.waiting n) (in_service s.meaning.state n) (among n (older s.meaning.state.stack)) (top-served s k j n top) (among-older s.meaning.fixed j s.meaning.state.stack k.lawful.state.climbs top n)
even {s} k (finishes j top) n = end-sum (eqb n j) (s.meaning.state.high j) (s.meaning.state.waiting n) (in_service s.meaning.state n) (among n (older s.meaning.state.stack)) (top-served s k j n top) (among-older s.meaning.fixed j s.meaning.state.stack k.lawful.state.climbs top n)

pub balanced : {s s' : Snapshot} {cs : List Call} {rs : List Reply} → Kept s → Run s cs rs s' → (n : ℕ) →
    accepted n cs rs + one (s.meaning.state.waiting n) + one (in_service s.meaning.state n)
    ≡ withdrawn n cs rs + ended n cs rs + one (s'.meaning.state.waiting n) + one (in_service s'.meaning.state n)
balanced k rest n = omega arith
balanced {s} k (then {s₁ = x} {c = c} {r = r} {cs = cs} {rs = rs} step q) n =
    let m : Move s c r x = view s x c r k step in
    omega (arith, even k m n, balanced (keep k m) q n)
