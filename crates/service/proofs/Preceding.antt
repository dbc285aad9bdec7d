-- A line stays in service until its END; what starts meanwhile is of smaller class, and ends first.
use Rattle.std.proofs.Common.{◌≡◌, ℕ, ◌<◌, true, false, eqb, List, [], ◌∷◌, sym, ap, ◌∙◌, subst, ⊎_elim}
use Rattle.std.proofs.lemmas.Bool.{eqb-true, or_cases, or_left, or_right, false≢true, cases_Bool, cond-false, cond_both, both_ways}
use Rattle.controller.specs.Meaning.{Fixed, in_service, among}
use Rattle.controller.specs.Rules.{older, is_newest, tops}
use Rattle.controller.proofs.Stacks.{among-head, beats-all, among-older, none-smaller}
use Rattle.service.specs.Calls.{Call, Reply}
use Rattle.service.specs.Calls.Reply.{Start}
use Rattle.service.specs.Steps.{Snapshot}
use Rattle.service.specs.Runs.{Run}
use Rattle.service.specs.Runs.Run.{rest, then}
use Rattle.service.specs.Counts.{is_end}
use Rattle.service.specs.Law.{has_end, until_end, AtStart, EachStart, NestsAbove}
use Rattle.service.proofs.Moves.{Kept, Move, view}
use Rattle.service.proofs.Moves.Move.{starts, closes, finishes}
use Rattle.service.proofs.Kept.{keep, same-fixed}

stays-older : (s : Snapshot) (j n : ℕ) → Kept s → is_newest s.meaning.state j ≡ true → eqb n j ≡ false → in_service s.meaning.state n ≡ true → among n (older s.meaning.state.stack) ≡ true
stays-older s j n k top other on =
    among-older s.meaning.fixed j s.meaning.state.stack k.lawful.state.climbs top n ∙ cond-false (eqb n j) false (in_service s.meaning.state n) other ∙ on

-- A line stays in service until its END.
stays : {s s' : Snapshot} {c : Call} {r : Reply} → Kept s → Move s c r s' → (n : ℕ) → is_end n r ≡ false → in_service s.meaning.state n ≡ true → in_service s'.meaning.state n ≡ true
stays {s} k (starts j f) n u h = or_right (eqb n j) (in_service s.meaning.state n) h
stays {s} k (closes j top) n u h = stays-older s j n k top u h
stays {s} k (finishes j top) n u h = stays-older s j n k top u h
stays k _ n u h = h

-- What starts while n is in service is of smaller class than n, and in service from then on.
above : {s s' : Snapshot} {c : Call} {r : Reply} (later : List Reply) → Kept s → Move s c r s' → (n : ℕ) → in_service s.meaning.state n ≡ true →
    AtStart (λ j _. (s.meaning.fixed.class j < s.meaning.fixed.class n) × (in_service s'.meaning.state j ≡ true)) r later
above {s} later k (starts j f) n h = (beats-all s.meaning.fixed s.meaning.state.stack j n k.lawful.state.climbs f.ready.urgent h, among-head j s.meaning.state.stack)
above later k _ n h = tt

-- What starts is in service.
started : {s s' : Snapshot} {c : Call} {r : Reply} (later : List Reply) → Move s c r s' → AtStart (λ j _. in_service s'.meaning.state j ≡ true) r later
started {s} later (starts j f) = among-head j s.meaning.state.stack
started later _ = tt

-- What ends is the newest.
ends-newest : {s s' : Snapshot} {c : Call} {r : Reply} → Move s c r s' → (n : ℕ) → is_end n r ≡ true → tops s.meaning.state.stack n ≡ true
ends-newest {s} (closes j top) n h = ap (tops s.meaning.state.stack) (eqb-true n j h) ∙ top
ends-newest {s} (finishes j top) n h = ap (tops s.meaning.state.stack) (eqb-true n j h) ∙ top
ends-newest _ n h = absurd (false≢true h)

at-start : (P Q : ℕ → List Reply → Type 0) (r : Reply) (later after : List Reply) → ((j : ℕ) → P j later → Q j after) → AtStart P r later → AtStart Q r after
at-start P Q (Start n k) later after f x = f n x
at-start P Q _ later after f x = tt

-- The rest of the replies has the END that the first is not.
later-end : (n : ℕ) (r : Reply) (rs : List Reply) → is_end n r ≡ false → has_end n (r ∷ rs) ≡ true → has_end n rs ≡ true
later-end n r rs other has = ⊎_elim (λ e. absurd (both_ways _ other e)) (λ e. e) (or_cases (is_end n r) (has_end n rs) has)

abbrev Smaller : Fixed → ℕ → ℕ → List Reply → Type 0
Smaller f n j later = f.class j < f.class n

module _ (f : Fixed) (n : ℕ) where
  smaller : {s s' : Snapshot} {cs : List Call} {rs : List Reply} → Kept s → s.meaning.fixed ≡ f → in_service s.meaning.state n ≡ true → Run s cs rs s' → EachStart (Smaller f n) (until_end n rs)
  smaller k p h rest = tt
  smaller {s} k p h (then {s₁ = x} {c = c} {r = r} {rs = rs} step q) =
      let m : Move s c r x = view s x c r k step in
      cond_both (is_end n r) [] (r ∷ until_end n rs) (EachStart (Smaller f n))
      (λ _. tt)
      (λ other. (at-start _ (Smaller f n) r rs (until_end n rs) (λ j y. subst (λ g. g.class j < g.class n) p y.0) (above rs k m n h), smaller (keep k m) (same-fixed m ∙ p) (stays k m n other h) q))

  -- A line above n ends before n does.
  ends-first : {s s' : Snapshot} {cs : List Call} {rs : List Reply} (j : ℕ) → Kept s → s.meaning.fixed ≡ f → f.class j < f.class n → in_service s.meaning.state n ≡ true → in_service s.meaning.state j ≡ true → Run s cs rs s' → has_end n rs ≡ true → has_end j (until_end n rs) ≡ true
  ends-first j k p less h i rest has = absurd (false≢true has)
  ends-first {s} j k p less h i (then {s₁ = x} {c = c} {r = r} {rs = rs} step q) has =
      let m : Move s c r x = view s x c r k step in
      cond_both (is_end n r) [] (r ∷ until_end n rs) (λ qs. has_end j qs ≡ true)
      (λ end. absurd (none-smaller s.meaning.fixed s.meaning.state.stack n j k.lawful.state.climbs (ends-newest m n end) i (subst (λ g. g.class j < g.class n) (sym p) less)))
      (λ other. ⊎_elim
      (λ end. or_left (is_end j r) (has_end j (until_end n rs)) end)
      (λ not_yet. or_right (is_end j r) (has_end j (until_end n rs)) (ends-first j (keep k m) (same-fixed m ∙ p) less (stays k m n other h) (stays k m j not_yet i) q (later-end n r rs other has)))
      (cases_Bool (is_end j r)))

  nested : {s s' : Snapshot} {cs : List Call} {rs : List Reply} → Kept s → s.meaning.fixed ≡ f → in_service s.meaning.state n ≡ true → Run s cs rs s' → has_end n rs ≡ true → EachStart (λ j since. has_end j since ≡ true) (until_end n rs)
  nested k p h rest has = absurd (false≢true has)
  nested {s} k p h (then {s₁ = x} {c = c} {r = r} {rs = rs} step q) has =
      let m : Move s c r x = view s x c r k step in
      cond_both (is_end n r) [] (r ∷ until_end n rs) (EachStart (λ j since. has_end j since ≡ true))
      (λ _. tt)
      (λ other.
      let on : in_service x.meaning.state n ≡ true = stays k m n other h in
      let has' : has_end n rs ≡ true = later-end n r rs other has in (
        at-start _ (λ j since. has_end j since ≡ true) r rs (until_end n rs) (λ j y. ends-first j (keep k m) (same-fixed m ∙ p) (subst (λ g. g.class j < g.class n) p y.0) on y.1 q has') (above rs k m n h),
        nested (keep k m) (same-fixed m ∙ p) on q has',
      ))

pub preceding : {s s' : Snapshot} {cs : List Call} {rs : List Reply} (f : Fixed) → Kept s → s.meaning.fixed ≡ f → Run s cs rs s' → EachStart (NestsAbove f) rs
preceding f k p rest = tt
preceding {s} f k p (then {s₁ = x} {c = c} {r = r} {rs = rs} step q) =
    let m : Move s c r x = view s x c r k step in
    let k' : Kept x = keep k m in
    let p' : x.meaning.fixed ≡ f = same-fixed m ∙ p in
    (at-start _ (NestsAbove f) r rs rs (λ n h. (smaller f n k' p' h q, nested f n k' p' h q)) (started rs m), preceding f k' p' q)
