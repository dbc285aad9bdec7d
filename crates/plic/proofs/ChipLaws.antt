-- The laws of a PLIC's calls.
use Rattle.std.proofs.Common.{◌≡◌, ℕ, ◌<◌, true, sym, ap, ◌∙◌, ⊎_elim, arith}
use Rattle.std.proofs.lemmas.List.{get_or-set_same, get_or-set_other}
use Rattle.std.proofs.lemmas.Bool.{cases_lt, cases_order, both_ways}
use Rattle.plic.specs.declared.chip.Plic.{Plic}
use Rattle.plic.specs.declared.gateway.Gateway.{Gateway}
use Rattle.plic.specs.Gateways.{blank, claimed, completed, requesting}
use Rattle.plic.specs.Chip.{Source, gate, with_gate, with_threshold, Above, Signals, Claimable, First, Claims}
use Rattle.plic.specs.Laws.{Whole, OnlyAt, ChipLaws}
use Rattle.plic.proofs.Reading.{one_register, reads_agree}

module _ (N : ℕ) where
  one-first : (p : Plic N) (n m : ℕ) → First N p n → First N p m → n ≡ m
  one-first p n m f g =
      ⊎_elim (λ e. e)
      (⊎_elim
      (λ lt. absurd (omega (arith, g.smallest n lt f.claimable, f.highest m g.claimable)))
      (λ gt. absurd (omega (arith, f.smallest m gt g.claimable, g.highest n f.claimable))))
      (cases_order n m)

  one_claim : (p q t : Plic N) (r s : ℕ) → Claims N p r q → Claims N p s t → (r ≡ s) × (q ≡ t)
  one_claim p q t r s a b =
      ⊎_elim
      (λ hr. ⊎_elim
      (λ hs. let same : r ≡ s = one-first p r s (a.1 hr).0 (b.1 hs).0 in
      (same, (a.1 hr).1 ∙ ap (λ n. with_gate N p n (claimed (gate N p n))) same ∙ sym (b.1 hs).1))
      (λ zs. absurd ((b.0 (omega arith)).0 r (a.1 hr).0.claimable))
      (cases_lt 0 s))
      (λ zr. ⊎_elim
      (λ hs. absurd ((a.0 (omega arith)).0 s (b.1 hs).0.claimable))
      (λ zs. (omega arith, (a.0 (omega arith)).1 ∙ sym (b.0 (omega arith)).1))
      (cases_lt 0 s))
      (cases_lt 0 r)

  unheld : (p q : Plic N) (r x : ℕ) → Claims N p r q → Claims N (with_threshold N p x) r (with_threshold N q x)
  unheld p q r x a = (
    (λ z. let h = a.0 z in (h.0, ap (λ (w : Plic N). with_threshold N w x) h.1)),
    (λ lt. let h = a.1 lt in
        (record { claimable = h.0.claimable; highest = h.0.highest; smallest = h.0.smallest }, ap (λ (w : Plic N). with_threshold N w x) h.1)),
  )

  signalled : (p q : Plic N) (r : ℕ) → Signals N p true → Claims N p r q → Above N p r
  signalled p q r s a =
      let n : ℕ = s.0 in
      let claimable : Claimable N p n = (s.1.0, omega (arith, s.1.1)) in
      ⊎_elim
      (λ lt. let f = (a.1 lt).0 in (f.claimable.0, omega (arith, s.1.1, f.highest n claimable)))
      (λ z. absurd ((a.0 (omega arith)).0 n claimable))
      (cases_lt 0 r)

  -- One gateway exchanged.
  at-gate : (p q : Plic N) (n : ℕ) (g : Gateway) → Whole N p → Source N n → q ≡ with_gate N p n g → OnlyAt N p n q × (gate N q n ≡ g)
  at-gate p q n g w s e = (
    record {
      others = λ m ne. ap (λ (z : Plic N). gate N z m) e ∙ get_or-set_other p.gateways n m g blank ne;
      threshold = ap (λ (z : Plic N). z.threshold) e;
    },
    ap (λ (z : Plic N). gate N z n) e ∙ get_or-set_same p.gateways n g blank (omega (arith, w, s.1)),
  )

  takes : (p q : Plic N) (r : ℕ) → Whole N p → 0 < r → Claims N p r q → OnlyAt N p r q × (gate N q r ≡ claimed (gate N p r))
  takes p q r w lt a = at-gate p q r (claimed (gate N p r)) w (a.1 lt).0.claimable.0.0 (a.1 lt).1

  once : (p q : Plic N) (r : ℕ) → Whole N p → 0 < r → Claims N p r q → Claimable N q r → ⊥
  once p q r w lt a c = both_ways _ (ap requesting (takes p q r w lt a).1) c.0.1

  pub chip-laws : ChipLaws N
  unfolding ChipLaws
  chip-laws =
      record {
        one_register = one_register N;
        reads_agree = reads_agree N;
        one_claim = one_claim;
        unheld = unheld;
        signalled = signalled;
        takes = takes;
        once = once;
        ends = λ p q n w c d. at-gate p q n (completed (gate N p n)) w c.0 (d.0 c);
      }
