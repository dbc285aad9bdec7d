-- The cases of a PLIC: when it signals, what a claim answers, and what a completion leaves.
use Rattle.std.proofs.Common.{◌≡◌, ℕ, ◌<◌, ◌≤◌, Bool, true, false, cond, Ok, Err, Result, refl, ap, ◌∙◌, ⊎_elim, arith}
use Rattle.std.proofs.lemmas.Bool.{both_ways}
use Rattle.controller.specs.declared.refusal.Refusal.{Refusal}
use Rattle.plic.specs.declared.chip.Plic.{Plic}
use Rattle.plic.specs.Gateways.{is_claimed, claimed, completable}
use Rattle.plic.specs.Chip.{gate, with_gate, Requests, Signals, First, Claims, Completable}
use Rattle.plic.specs.Access.{Reads, Writes}
use Rattle.plic.specs.Laws.{ChipLaws}
use Rattle.plic.proofs.ChipLaws.{chip-laws}
use Rattle.plic.proofs.Offsets.{claims, claim-there, claim-reads, completes, completion-there, completion-writes}
use Rattle.worked_cases.specs.Exactly.{Only, Answers}
use Rattle.worked_cases.specs.States.{FiveAndNine, ClaimedOff}
use Rattle.worked_cases.specs.Cases.{claim_complete}

module _ (N : ℕ) (p : Plic N) where
  -- A PLIC signals or it does not.
  one-signal : (x y : Bool) → Signals N p x → Signals N p y → y ≡ x
  one-signal true true a b = refl
  one-signal true false a b = absurd (b a.0 a.1)
  one-signal false true a b = absurd (a b.0 b.1)
  one-signal false false a b = refl

  -- A PLIC signals if a source that asks is above the threshold, and is silent if none is.
  pub signals : (n : ℕ) → Requests N p n → p.threshold < (gate N p n).priority → Only (Signals N p) true
  signals n asks above = ((n, (asks, above)), λ b other. one-signal true b (n, (asks, above)) other)

  pub silent : ((m : ℕ) → Requests N p m → (gate N p m).priority ≤ p.threshold) → Only (Signals N p) false
  silent low =
      let none : Signals N p false = λ m a. omega (arith, low m a.0, a.1) in
      (none, λ b other. one-signal false b none other)

  -- A claim answers the first source.
  reads_only : (n : ℕ) (r : Result ℕ Refusal) (q : Plic N) → Claims N p n (with_gate N p n (claimed (gate N p n))) → Reads N p claim_complete r q → (r ≡ Ok n) × (q ≡ with_gate N p n (claimed (gate N p n)))
  unfolding ChipLaws
  reads_only n (Ok v) q claim read = let same = (chip-laws N).one_claim p q _ v n (claims N p q v read) claim in (ap Ok same.0, same.1)
  reads_only n (Err e) q claim read = absurd (claim-there N p q e read)

  pub claims-first : (n : ℕ) → First N p n → Answers (Reads N p claim_complete) (Ok n) (with_gate N p n (claimed (gate N p n)))
  claims-first n first =
      let claim : Claims N p n (with_gate N p n (claimed (gate N p n))) = ((λ z. absurd (omega (arith, first.claimable.0.0.0))), (λ _. (first, refl))) in
      (claim-reads N p _ n claim, λ r q read. reads_only n r q claim read)

  -- Of sources 5 and 9 at priority 4 the first is 5.
  module _ (h : FiveAndNine N p) where
    pub at-four : (m : ℕ) → Requests N p m → (gate N p m).priority ≡ 4
    at-four m asks = ⊎_elim (λ e. ap (λ i. (gate N p i).priority) e ∙ h.five_at) (λ e. ap (λ i. (gate N p i).priority) e ∙ h.nine_at) (h.others m asks)

    pub five-first : First N p 5
    five-first = record {
      claimable = (h.five, omega (arith, h.five_at));
      highest = λ m c. omega (arith, at-four m c.0, h.five_at);
      smallest = λ m lt c. ⊎_elim (λ e. absurd (omega arith)) (λ e. absurd (omega arith)) (h.others m c.0);
    }

  -- A completion is heeded only of a source that is enabled.
  module _ (n : ℕ) (h : ClaimedOff N p n) where
    unheeded : Completable N p n → ⊥
    unheeded c = both_ways (completable (gate N p n)) (ap (λ r. cond (is_claimed r) (gate N p n).enabled false) h.claimed ∙ h.off) c.1

    writes-only : (r : Result (Unit {0}) Refusal) (q : Plic N) → Writes N p claim_complete n r q → (r ≡ Ok tt) × (q ≡ p)
    writes-only (Ok _) q wrote = (refl, (completes N p q n (Ok tt) wrote).1 unheeded)
    writes-only (Err e) q wrote = absurd (completion-there N p q n e wrote)

    pub leaves-claimed : Answers (Writes N p claim_complete n) (Ok tt) p
    leaves-claimed = (completion-writes N p p n ((λ c. absurd (unheeded c)), (λ _. refl)), writes-only)
