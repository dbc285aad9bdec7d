-- The sources above the threshold are the ready lines.
use Rattle.std.proofs.Common.{◌≡◌, ℕ, ◌+◌, ◌-◌, ◌*◌, ◌<◌, Bool, true, false, cond, ◌&&◌, ltb, refl, ◌∙◌, ⊎_elim, arith}
use Rattle.std.proofs.lemmas.Bool.{cases_lt, false≢true, lt-ltb, ltb-true, cond-true, and_from, and_parts}
use Rattle.plic.specs.declared.chip.Plic.{Plic}
use Rattle.plic.specs.declared.gateway.Gateway.{Gateway}
use Rattle.plic.specs.Gateways.{is_pending, requesting}
use Rattle.plic.specs.Chip as chip
use Rattle.plic.specs.Chip.{gate, Above, Claimable, First}
use Rattle.controller.specs.Meaning.{Ready, FirstReady, NoneReady}
use Rattle.controller.specs.Rules.{Signals}
use Rattle.plic_controller.specs.Told.{stack_of, meant}
use Rattle.plic_controller.specs.Sound.{Sound}
use Rattle.plic_controller.specs.Claimed.{above-level, beats-level}
use Rattle.plic_controller.proofs.Least.{least}

pub requesting-parts : (g : Gateway) → requesting g ≡ true → (is_pending g.request ≡ true) × (g.enabled ≡ true)
requesting-parts g e = at (is_pending g.request) g.enabled e
  where
    at : (a b : Bool) → cond a b false ≡ true → (a ≡ true) × (b ≡ true)
    at true b f = (refl, f)
    at false b f = absurd (false≢true f)

module _ (p : Plic 64) (s : Sound p) where
  claimable : (j : ℕ) → Ready (meant p) j → Claimable 64 p j
  claimable j r =
      let pos : 0 < (gate 64 p j).priority = ltb-true _ _ r.line in
      let w = (s.settled.fair j).within pos in
      (((omega arith, omega arith), cond-true _ _ _ r.waiting ∙ r.opened), pos)

  above : (j : ℕ) → Ready (meant p) j → Above 64 p j
  above j r =
      let c = claimable j r in
      let lt = above-level (λ n. (gate 64 p n).priority) j (stack_of (gate 64 p)) (s.settled.fair j).small c.1 r.urgent in
      (c.0, omega (arith, s.level))

  ready : (n : ℕ) → requesting (gate 64 p n) ≡ true → p.threshold < (gate 64 p n).priority → Ready (meant p) n
  ready n asks lt =
      let parts = requesting-parts (gate 64 p n) asks in
      record {
        line = lt-ltb 0 _ (omega arith);
        opened = parts.1;
        waiting = parts.0;
        urgent = beats-level (λ j. (gate 64 p j).priority) n (stack_of (gate 64 p)) (s.settled.fair n).small (omega (arith, s.level));
      }

  -- The first source above the threshold is the first ready line.
  pub first-ready : (n : ℕ) → Above 64 p n → First 64 p n → FirstReady (meant p) n
  first-ready n up first = record {
    ready = ready n up.0.1 up.1;
    first = λ j r.
        let c = claimable j r in
        let le = first.highest j c in
        let wj = c.0.0 in
        let wn = up.0.0 in
        let sj = (s.settled.fair j).small in
        let sn = (s.settled.fair n).small in
        ⊎_elim
        (λ lt. let less = first.smallest j lt c in omega arith)
        (λ ge. omega arith)
        (cases_lt j n);
  }

  pub none-ready : ((n : ℕ) → Above 64 p n → ⊥) → NoneReady (meant p)
  none-ready none j r = none j (above j r)

  -- If any source is above the threshold, one of them is first.
  abbrev is_above : ℕ → Bool
  is_above n = requesting (gate 64 p n) && ltb p.threshold (gate 64 p n).priority

  is-above : (n : ℕ) → Above 64 p n → is_above n ≡ true
  is-above n a = and_from _ _ a.0.1 (lt-ltb _ _ a.1)

  some_first : (n : ℕ) → Above 64 p n → (k : ℕ) × FirstReady (meant p) k
  some_first n a =
      ⊎_elim
      (λ none. absurd (none n a.0.0.1 (is-above n a)))
      (λ got.
      let parts = and_parts _ _ got.1.passes in (
        got.0,
        record {
          ready = ready got.0 parts.0 (ltb-true _ _ parts.1);
          first = λ j r. let up = above j r in got.1.first j up.0.0.1 (is-above j up);
        },
      ))
      (least is_above (λ j. (7 - (gate 64 p j).priority) * 64 + j) 64)

  pub signals : (r : Bool) → chip.Signals 64 p r → Signals (meant p) r
  signals true some = some_first some.0 some.1
  signals false none = none-ready none
