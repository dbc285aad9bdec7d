-- Each call does what the rules say, and leaves the chip that `After` names.
use Rattle.std.proofs.Common.{◌≡◌, ℕ, ◌%◌, ◌<◌, Bool, true, false, cond, not, ◌&&◌, ◌||◌, ltb, List, [], ◌∷◌, None, Some, Ok, Err, Option, Result, sym, refl, ap, ◌∙◌, subst, arith}
use Rattle.std.proofs.Math.Bool.{and-true}
use Rattle.std.proofs.lemmas.Bool.{both_ways, false≢true, lt-ltb, cond-true}
use Rattle.controller.specs.declared.answer.Answer.{Answer}
use Rattle.controller.specs.declared.answer.Answer.TheVariants.{Accepted, Withdrawn, Noted, Done}
use Rattle.controller.specs.declared.refusal.Refusal.{Refusal}
use Rattle.controller.specs.declared.refusal.Refusal.TheVariants.{InService}
use Rattle.controller.specs.Meaning.{among}
use Rattle.controller.specs.Rules.{so, otherwise, marked, onward, tops, newest, Rises, Falls, Opens, Shuts, Takes, Finishes}
use Rattle.controller.proofs.Marks.{marked-same, state-same}
use Rattle.controller.proofs.Stacks.{tops-among, among-head}
use Rattle.plic.specs.declared.chip.Plic.{Plic}
use Rattle.plic.specs.declared.gateway.Request.{Request}
use Rattle.plic.specs.declared.gateway.Request.TheVariants.{Idle, Pending, Claimed}
use Rattle.plic.specs.declared.gateway.Gateway.{Gateway}
use Rattle.plic.specs.Gateways.{is_pending, is_claimed, raised, risen, fallen, claimed, completed, with_enabled}
use Rattle.plic.specs.Chip as chip
use Rattle.plic.specs.Chip.{Source, gate, with_gate, with_threshold, Above, First, Completes}
use Rattle.plic.specs.Laws.{ChipLaws}
use Rattle.plic.proofs.ChipLaws.{chip-laws}
use Rattle.plic_controller.specs.Told.{stack_of, meant, level_of}
use Rattle.plic_controller.specs.Sound.{Fair, Settled, Sound}
use Rattle.plic_controller.specs.Steps.{SetsEnabled, ClaimsFirst, ClaimsSignalled, Lined, Follows}
use Rattle.plic_controller.specs.After.{risen_at, fallen_at, enabled_at, taken_at, levelled, finished_at}
use Rattle.plic_controller.proofs.Tables.{gate-shown, gate-with, put-here}
use Rattle.plic_controller.specs.Claimed.{members, claimed-line}
use Rattle.plic_controller.proofs.Changes.{quiet-sound, quiet_told, more-sound, more-told, settled-less, less-sound, less-told}
use Rattle.plic_controller.proofs.Readiness.{requesting-parts, first-ready}

-- A line's gateway that changed, but not in priority, is fair if what it asks and holds is.
fair-line : (n : ℕ) (g h : Gateway) → 0 < g.priority → Fair n g → h.priority ≡ g.priority → (is_claimed h.request ≡ true → h.enabled ≡ true) → (h.high ≡ true → (is_pending h.request || is_claimed h.request) ≡ true) → Fair n h
fair-line n g h pos fair e held asks = record {
  within = λ _. fair.within pos;
  small = omega (arith, fair.small);
  off = λ z. absurd (omega arith);
  held = held;
  asks = asks;
}

raised-claimed : (x : Request) → is_claimed (raised x) ≡ is_claimed x
raised-claimed Idle = refl
raised-claimed Pending = refl
raised-claimed Claimed = refl

raised-asks : (x : Request) → (is_pending (raised x) || is_claimed (raised x)) ≡ true
raised-asks Idle = refl
raised-asks Pending = refl
raised-asks Claimed = refl

raised-waits : (x : Request) → is_pending (raised x) ≡ (is_pending x || not (is_pending x || is_claimed x))
raised-waits Idle = refl
raised-waits Pending = refl
raised-waits Claimed = refl

noted : (b : Bool) → Noted ≡ cond (b && false) Withdrawn Noted
noted true = refl
noted false = refl

done-waits : (b : Bool) → is_pending (cond b Pending Idle) ≡ b
done-waits true = refl
done-waits false = refl

done-free : (b : Bool) → is_claimed (cond b Pending Idle) ≡ false
done-free true = refl
done-free false = refl

done-asks : (b : Bool) → b ≡ true → (is_pending (cond b Pending Idle) || is_claimed (cond b Pending Idle)) ≡ true
done-asks true e = refl
done-asks false e = absurd (false≢true e)

-- The answer to a rise of a line, and to a finish, by its gateway before.
abbrev pub rise_answer : Gateway → Answer
rise_answer g = cond (not (is_pending g.request || is_claimed g.request)) Accepted Noted

abbrev pub finish_answer : Gateway → Answer
finish_answer g = cond g.high Accepted Noted

-- A threshold that follows the newest line of a settled PLIC is that line's priority, or 0.
levels : (p q : Plic 64) → Settled p → Follows p (newest (stack_of (gate 64 p))) q → q ≡ levelled p
levels p q s = at (stack_of (gate 64 p)) (λ n sure. sym (members (gate 64 p) s.fair s.single n) ∙ sure)
  where
    at : (xs : List ℕ) → ((n : ℕ) → among n xs ≡ true → is_claimed (gate 64 p n).request ≡ true) → Follows p (newest xs) q → q ≡ with_threshold 64 p (level_of (λ n. (gate 64 p n).priority) xs)
    at [] cl follows = follows
    at (y ∷ ys) cl follows =
        let pos = claimed-line (gate 64 p) s.fair s.single y (cl y (among-head y ys)) in
        let w = (s.fair y).within pos in
        let small = (s.fair y).small in
        let same : (gate 64 p y).priority % 8 ≡ (gate 64 p y).priority = omega arith in
        follows (omega arith, omega arith) ∙ ap (λ t. with_threshold 64 p t) same

-- Calls at a line n, whose gateway is x.
module _ (p : Plic 64) (n : ℕ) (s : Sound p) (x : Gateway) (lined : Lined p n (Ok x)) where
  is : x ≡ gate 64 p n
  is = lined.0 ∙ gate-shown p n s.settled.table

  positive : 0 < (gate 64 p n).priority
  positive = subst (λ (g : Gateway). 0 < g.priority) is lined.1

  line : ltb 0 (gate 64 p n).priority ≡ true
  line = lt-ltb 0 _ positive

  fair : Fair n (gate 64 p n)
  fair = s.settled.fair n

  source : Source 64 n
  source = let w = fair.within positive in (omega arith, omega arith)

  mem : among n (stack_of (gate 64 p)) ≡ is_claimed (gate 64 p n).request
  mem = members (gate 64 p) s.settled.fair s.settled.single n

  below : n < 64
  below = source.1

  -- Rise.
  pub rise-leaves : (q : Plic 64) (r : Result (Unit {0}) Refusal) → chip.Rises 64 p n r q → q ≡ risen_at p n
  rise-leaves q (Ok _) did = did.1
  rise-leaves q (Err e) did = absurd (did.0 source)

  pub rises : (q : Plic 64) → q ≡ risen_at p n → (a : Answer) → a ≡ rise_answer x → Sound q × Rises (meant p) n (Ok a) (meant q)
  rises q is-q a is-a =
      let g = risen (gate 64 p n) in
      let x₀ = (gate 64 p n).request in
      let cl = raised-claimed x₀ in
      let fair' = fair-line n (gate 64 p n) g positive fair refl (λ sure. fair.held (sym cl ∙ sure)) (λ _. raised-asks x₀) in (
        subst Sound (sym is-q) (quiet-sound p n g s below refl cl fair'),
        so line (
          ap Ok is-a ∙ ap (λ y. Ok (rise_answer y)) is ∙ ap (λ b. Ok (cond (not (is_pending x₀ || b)) Accepted Noted)) (sym mem),
          ap meant is-q ∙ quiet_told p n g s below refl cl fair'
              ∙ ap (onward (meant p)) (state-same (marked-same _ n) refl
              (ap (marked (λ j. is_pending (gate 64 p j).request) n) (raised-waits x₀ ∙ ap (λ b. is_pending x₀ || not (is_pending x₀ || b)) (sym mem))) refl),
        ),
      )

  -- Fall.
  pub fall-leaves : (q : Plic 64) (r : Result (Unit {0}) Refusal) → chip.Falls 64 p n r q → q ≡ fallen_at p n
  fall-leaves q (Ok _) did = did.1
  fall-leaves q (Err e) did = absurd (did.0 source)

  pub falls : (q : Plic 64) → q ≡ fallen_at p n → Sound q × Falls (meant p) n (Ok Noted) (meant q)
  falls q is-q =
      let g = fallen (gate 64 p n) in
      let fair' = fair-line n (gate 64 p n) g positive fair refl fair.held (λ bad. absurd (false≢true bad)) in (
        subst Sound (sym is-q) (quiet-sound p n g s below refl refl fair'),
        so line (
          ap Ok (noted (is_pending (gate 64 p n).request)),
          ap meant is-q ∙ quiet_told p n g s below refl refl fair'
              ∙ ap (onward (meant p)) (state-same (marked-same _ n) refl (ap (marked (λ j. is_pending (gate 64 p j).request) n) (sym (and-true (is_pending (gate 64 p n).request)))) refl),
        ),
      )

  -- Open.
  pub enable-leaves : (q : Plic 64) (on : Bool) → SetsEnabled p n on q → q ≡ enabled_at p n on
  enable-leaves q on did = did source

  pub opens : (q : Plic 64) → q ≡ enabled_at p n true → Sound q × Opens (meant p) n (Ok Done) (meant q)
  opens q is-q =
      let g = with_enabled (gate 64 p n) true in
      let fair' = fair-line n (gate 64 p n) g positive fair refl (λ _. refl) fair.asks in (
        subst Sound (sym is-q) (quiet-sound p n g s below refl refl fair'),
        so line (
          refl,
          ap meant is-q ∙ quiet_told p n g s below refl refl fair'
              ∙ ap (onward (meant p)) (state-same refl (marked-same _ n) (marked-same _ n) refl),
        ),
      )

  -- Shut.
  claimed-seen : (b : Bool) → is_claimed x.request ≡ b → is_claimed (gate 64 p n).request ≡ b
  claimed-seen b e = ap (λ (y : Gateway). is_claimed y.request) (sym is) ∙ e

  pub shut-refused : is_claimed x.request ≡ true → Sound p × Shuts (meant p) n (Err InService) (meant p)
  shut-refused sure = (s, so line (so (mem ∙ claimed-seen true sure) (refl, refl)))

  pub shuts : (q : Plic 64) → q ≡ enabled_at p n false → is_claimed x.request ≡ false → Sound q × Shuts (meant p) n (Ok Done) (meant q)
  shuts q is-q idle =
      let g = with_enabled (gate 64 p n) false in
      let out = claimed-seen false idle in
      let fair' = fair-line n (gate 64 p n) g positive fair refl (λ sure. absurd (both_ways _ out sure)) fair.asks in (
        subst Sound (sym is-q) (quiet-sound p n g s below refl refl fair'),
        so line (otherwise (mem ∙ out) (
          refl,
          ap meant is-q ∙ quiet_told p n g s below refl refl fair'
              ∙ ap (onward (meant p)) (state-same refl (marked-same _ n) (marked-same _ n) refl),
        )),
      )

  -- Finish of the newest line: it is completed, and the threshold follows what is then the newest.
  module _ (top : tops (stack_of (gate 64 p)) n ≡ true) where
    held : is_claimed (gate 64 p n).request ≡ true
    held = sym mem ∙ tops-among n (stack_of (gate 64 p)) top

    fair-done : Fair n (completed (gate 64 p n))
    fair-done =
        fair-line n (gate 64 p n) (completed (gate 64 p n)) positive fair refl
        (λ sure. absurd (both_ways _ (done-free (gate 64 p n).high) sure)) (done-asks (gate 64 p n).high)

    completes : (q : Plic 64) → Completes 64 p n q → q ≡ with_gate 64 p n (completed (gate 64 p n))
    completes q did = did.0 (source, cond-true _ _ _ held ∙ fair.held held)

    pub settled-after : (q : Plic 64) → Completes 64 p n q → Settled q
    settled-after q did =
        subst Settled (sym (completes q did)) (settled-less p n (completed (gate 64 p n)) s below refl (done-free (gate 64 p n).high) top fair-done)

    pub finish-leaves : (q₁ q : Plic 64) → Completes 64 p n q₁ → Follows q₁ (newest (stack_of (gate 64 q₁))) q → q ≡ finished_at p n
    finish-leaves q₁ q did follows =
        levels q₁ q (settled-after q₁ did) follows ∙ ap levelled (completes q₁ did)

    pub finishes : (q : Plic 64) → q ≡ finished_at p n → (a : Answer) → a ≡ finish_answer x → Sound q × Finishes (meant p) n (Ok a) (meant q)
    finishes q is-q a is-a =
        let g = completed (gate 64 p n) in
        let free = done-free (gate 64 p n).high in (
          subst Sound (sym is-q) (less-sound p n g s below refl free top fair-done),
          so line (so top (
            ap Ok is-a ∙ ap (λ y. Ok (finish_answer y)) is,
            ap meant is-q ∙ less-told p n g s below refl free top fair-done
                ∙ ap (onward (meant p)) (state-same (marked-same _ n) (marked-same _ n) (ap (marked (λ j. is_pending (gate 64 p j).request) n) (done-waits (gate 64 p n).high)) refl),
          )),
        )

-- Take. While the PLIC signals, a claim answers a source.
pub claim-signalled : (p q : Plic 64) (r : Option ℕ) → chip.Signals 64 p true → ClaimsFirst p r q → ClaimsSignalled p r q
unfolding ChipLaws
claim-signalled p q None some did = let above = (chip-laws 64).signalled p q 0 some did in absurd (omega (arith, above.0.0.0))
claim-signalled p q (Some n) some did = (some, did.1)

module _ (p : Plic 64) (s : Sound p) (n : ℕ) (q₁ : Plic 64) (did : ClaimsSignalled p (Some n) q₁) where
  up : Above 64 p n
  unfolding ChipLaws
  up = (chip-laws 64).signalled p q₁ n did.0 did.1

  first : First 64 p n
  first = (did.1.1 up.0.0.0).0

  made : q₁ ≡ with_gate 64 p n (claimed (gate 64 p n))
  made = (did.1.1 up.0.0.0).1

  pub take-leaves : (q : Plic 64) → Follows q₁ (Some n) q → q ≡ taken_at p (Some n)
  take-leaves q follows =
      let g = claimed (gate 64 p n) in
      let here : gate 64 q₁ n ≡ g =
      ap (λ (y : Plic 64). gate 64 y n) made ∙ ap (λ (v : ℕ → Gateway). v n) (gate-with p n g (omega (arith, s.settled.table, up.0.0.1))) ∙ put-here (gate 64 p) n g in
      let same : (gate 64 q₁ n).priority % 8 ≡ (gate 64 p n).priority =
      ap (λ (y : Gateway). y.priority % 8) here ∙ (let small = (s.settled.fair n).small in omega arith) in
      follows up.0.0 ∙ ap (λ t. with_threshold 64 q₁ t) same ∙ ap (λ (y : Plic 64). with_threshold 64 y (gate 64 p n).priority) made

  pub takes : (q : Plic 64) → q ≡ taken_at p (Some n) → Sound q × Takes (meant p) (Some n) (meant q)
  takes q is-q =
      let g = claimed (gate 64 p n) in
      let parts = requesting-parts (gate 64 p n) up.0.1 in
      let pos : 0 < (gate 64 p n).priority = omega (arith, up.1) in
      let fair' = fair-line n (gate 64 p n) g pos (s.settled.fair n) refl (λ _. parts.1) (λ _. refl) in
      let below = up.0.0.1 in (
        subst Sound (sym is-q) (more-sound p n g s below refl refl up.1 fair' (gate 64 p n).priority refl),
        (
          first-ready p s n up first,
          ap meant is-q ∙ more-told p n g s below refl refl up.1 fair'
              ∙ ap (onward (meant p)) (state-same (marked-same _ n) (marked-same _ n) refl refl),
        ),
      )
