-- A tally kept along a list of calls has the counts of the law of service.
use Rattle.std.proofs.Common.{◌≡◌, ℕ, ◌+◌, ◌≤◌, Bool, true, false, cond, ◌&&◌, eqb, List, refl, ap, ◌∙◌, arith}
use Rattle.controller.specs.declared.answer.Answer.TheVariants.{Accepted, Withdrawn, Noted}
use Rattle.controller.specs.Meaning.{in_service}
use Rattle.service.specs.Calls.{Call, Reply}
use Rattle.service.specs.Steps.{Snapshot}
use Rattle.service.specs.Runs.{Run, Fresh}
use Rattle.service.specs.Runs.Run.{rest, then}
use Rattle.service.specs.Counts.{one, count, is_accepted, is_withdrawn, answers, may_accept, may_withdraw, is_end, accepted, withdrawn, ended}
use Rattle.service.proofs.Moves.{Kept, Move, view}
use Rattle.service.proofs.Moves.Move.{turned, rises, falls, closes, finishes}
use Rattle.service.proofs.Kept.{keep, fresh_kept}
use Rattle.service.proofs.Service.{service-law}
use Rattle.tally.specs.declared.Tally.{Tally}
use Rattle.tally.specs.Counting.{none, more_if, ends, counted, outstanding}
use Rattle.tally.specs.Keeping.{is_noted, kept, in_word, TallyLaw}

-- Counts in 32 bits.
more-small : (b : Bool) (x : ℕ) → x ≤ 4294967295 → more_if b x ≤ 4294967295
more-small b x h = grind arith

more-sum : (b : Bool) (x k : ℕ) → x ≤ 4294967295 → in_word (more_if b x + k) ≡ in_word (x + (one b + k))
more-sum b x k h = grind arith

-- A test of a noted reply, as a cond and as a conjunction.
noted : (b a : Bool) → cond b a false ≡ (a && b)
noted true true = refl
noted true false = refl
noted false true = refl
noted false false = refl

-- An answer of Accepted or Noted is no withdrawal, one of Withdrawn or Noted no acceptance.
no-withdrawal : (b v : Bool) → cond b (is_withdrawn (cond v Accepted Noted)) false ≡ (is_withdrawn (cond v Accepted Noted) && false)
no-withdrawal b true = noted b false
no-withdrawal b false = noted b false

no-acceptance : (b v : Bool) → cond b (is_accepted (cond v Withdrawn Noted)) false ≡ (is_accepted (cond v Withdrawn Noted) && false)
no-acceptance b true = noted b false
no-acceptance b false = noted b false

-- What is noted of one call is what the law counts of it.
accepts : (n : ℕ) (s s' : Snapshot) (c : Call) (r : Reply) → Move s c r s' → cond (is_noted n c) (answers is_accepted r) false ≡ (answers is_accepted r && may_accept n c)
accepts n s s' c r (turned _ e) = noted (is_noted n c) false
accepts n s s' c r (rises j) = noted (eqb n j) _
accepts n s s' c r (falls j) = no-acceptance (eqb n j) _
accepts n s s' c r (closes j top) = noted (eqb n j) _
accepts n s s' c r (finishes j top) = noted (eqb n j) _
accepts n s s' c r _ = refl

withdraws : (n : ℕ) (s s' : Snapshot) (c : Call) (r : Reply) → Move s c r s' → cond (is_noted n c) (answers is_withdrawn r) false ≡ (answers is_withdrawn r && may_withdraw n c)
withdraws n s s' c r (turned _ e) = noted (is_noted n c) false
withdraws n s s' c r (rises j) = no-withdrawal (eqb n j) _
withdraws n s s' c r (falls j) = noted (eqb n j) _
withdraws n s s' c r (closes j top) = no-withdrawal (eqb n j) _
withdraws n s s' c r (finishes j top) = no-withdrawal (eqb n j) _
withdraws n s s' c r _ = refl

ending : (n : ℕ) (s s' : Snapshot) (c : Call) (r : Reply) → Move s c r s' → cond (is_noted n c) (ends r) false ≡ is_end n r
ending n s s' c r (turned _ e) = noted (is_noted n c) false
ending n s s' c r (rises j) = noted (eqb n j) false
ending n s s' c r (falls j) = noted (eqb n j) false
ending n s s' c r (closes j top) = noted (eqb n j) true
ending n s s' c r (finishes j top) = noted (eqb n j) true
ending n s s' c r _ = refl

-- One count f of a tally: a reply of which a holds is one more, and a noted one is what the law's test counts.
module _ (n : ℕ) (f : Tally → ℕ) (a : Reply → Bool) (test : Call → Reply → Bool)
    (steps : (t : Tally) (r : Reply) → f (counted t r) ≡ more_if (a r) (f t))
    (fits : (s s' : Snapshot) (c : Call) (r : Reply) → Move s c r s' → cond (is_noted n c) (a r) false ≡ test c r) where
  noting : (b : Bool) (t : Tally) (r : Reply) → f (cond b (counted t r) t) ≡ more_if (cond b (a r) false) (f t)
  noting true t r = steps t r
  noting false t r = refl

  along : {s s' : Snapshot} {cs : List Call} {rs : List Reply} → Kept s → Run s cs rs s' → (t : Tally) → f t ≤ 4294967295 → f (kept n t cs rs) ≡ in_word (f t + count test cs rs)
  along k rest t h = grind arith
  along {s} k (then {s₁ = x} {c = c} {r = r} {cs = cs} {rs = rs} step q) t h =
      let m : Move s c r x = view s x c r k step in
      let t' = cond (is_noted n c) (counted t r) t in
      let is : f t' ≡ more_if (test c r) (f t) = noting (is_noted n c) t r ∙ ap (λ b. more_if b (f t)) (fits s x c r m) in
      let few : more_if (test c r) (f t) ≤ 4294967295 = more-small (test c r) (f t) h in
      along (keep k m) q t' (omega arith) ∙ ap (λ y. in_word (y + count test cs rs)) is ∙ more-sum (test c r) (f t) (count test cs rs) h

  -- From a count of 0 on.
  pub from-none : {s s' : Snapshot} {cs : List Call} {rs : List Reply} → Kept s → Run s cs rs s' → (t : Tally) → f t ≡ 0 → f (kept n t cs rs) ≡ in_word (count test cs rs)
  from-none k q t zero = grind (arith, along k q t (omega arith))

module _ (s s' : Snapshot) (cs : List Call) (rs : List Reply) (fresh : Fresh s) (q : Run s cs rs s') (n : ℕ) where
  accepting : (kept n none cs rs).accepted ≡ in_word (accepted n cs rs)
  accepting = from-none n (λ t. t.accepted) (answers is_accepted) (λ c r. answers is_accepted r && may_accept n c) (λ t r. refl) (accepts n) (fresh_kept s fresh) q none refl

  withdrawing : (kept n none cs rs).withdrawn ≡ in_word (withdrawn n cs rs)
  withdrawing = from-none n (λ t. t.withdrawn) (answers is_withdrawn) (λ c r. answers is_withdrawn r && may_withdraw n c) (λ t r. refl) (withdraws n) (fresh_kept s fresh) q none refl

  ended_so : (kept n none cs rs).ended ≡ in_word (ended n cs rs)
  ended_so = from-none n (λ t. t.ended) ends (λ c r. is_end n r) (λ t r. refl) (ending n) (fresh_kept s fresh) q none refl

  left : s.meaning.fixed.line n ≡ true → accepted n cs rs ≤ 4294967295 → outstanding (kept n none cs rs) ≡ one (s'.meaning.state.waiting n) + one (in_service s'.meaning.state n)
  left line few =
      let even = (service-law s fresh).balance s' cs rs q n line in
      grind (arith, even, accepting, withdrawing, ended_so)

pub tally-law : TallyLaw
tally-law s s' cs rs fresh q n = record {
  counts = λ i. record { accepted = accepting s s' cs rs fresh q n i; withdrawn = withdrawing s s' cs rs fresh q n i; ended = ended_so s s' cs rs fresh q n i };
  outstanding = left s s' cs rs fresh q n;
}
