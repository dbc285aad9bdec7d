-- Each state that a call leaves is lawful if the state before was.
use Rattle.std.proofs.Common.{◌≡◌, ℕ, Bool, true, false, cond, not, ◌&&◌, ◌||◌, eqb, ◌≢◌, ◌∷◌, sym, refl, ap, ◌∙◌, subst, ⊎_elim}
use Rattle.std.proofs.lemmas.Bool.{or_cases, or_parts, both_ways, eqb-true, eq-eqb, ne_eqb, false≢true, true≢false, cond-false}
use Rattle.controller.specs.Meaning.{Fixed, State, StateLaws, Ready, in_service, among}
use Rattle.controller.specs.Rules.{marked, risen, fallen, opening, taken, finished, older, tops}
use Rattle.controller.proofs.Marks.{at_mark, marked-here, marked_other}
use Rattle.controller.proofs.Stacks.{among-older, climbs-older}

-- What is marked high after a rise, and what is marked low after a fall.
raised-else : (f : ℕ → Bool) (n j : ℕ) → marked f n true j ≡ false → j ≢ n
raised-else f n j low e = both_ways _ low (ap (marked f n true) e ∙ marked-here f n true)

lowered-else : (f : ℕ → Bool) (n j : ℕ) → marked f n false j ≡ true → j ≢ n
lowered-else f n j high e = both_ways _ (ap (marked f n false) e ∙ marked-here f n false) high

accepts : (w s : Bool) → s ≡ false → (w || not (w || s)) ≡ true
accepts true s e = refl
accepts false true e = absurd (true≢false e)
accepts false false e = refl

declines : (w s : Bool) → w ≡ false → s ≡ true → (w || not (w || s)) ≡ false
declines true s e f = absurd (true≢false e)
declines false true e f = refl
declines false false e f = absurd (false≢true f)

drops : (w b : Bool) → w ≡ false → (w && b) ≡ false
drops true b e = absurd (true≢false e)
drops false b e = refl

module _ (f : Fixed) (s : State) (n : ℕ) (h : StateLaws f s) where
  pub risen-lawful : StateLaws f (risen s n)
  risen-lawful = record {
    served_line = h.served_line;
    served_open = h.served_open;
    served_idle = λ j on. at_mark (λ b. b ≡ false) s.waiting n j _
        (λ e. let on' : in_service s n ≡ true = ap (in_service s) (sym e) ∙ on in declines (s.waiting n) (in_service s n) (h.served_idle n on') on')
        (λ ne. h.served_idle j on);
    climbs = h.climbs;
    high_waits = λ j line high out. at_mark (λ b. b ≡ true) s.waiting n j _
        (λ e. accepts (s.waiting n) (in_service s n) (ap (in_service s) (sym e) ∙ out))
        (λ ne. h.high_waits j line (sym (marked_other s.high n j true ne) ∙ high) out);
    low_fleeting = λ j line fleeting low.
        let ne = raised-else s.high n j low in
        marked_other s.waiting n j _ ne ∙ h.low_fleeting j line fleeting (sym (marked_other s.high n j true ne) ∙ low);
  }

  pub fallen-lawful : StateLaws f (fallen f s n)
  fallen-lawful = record {
    served_line = h.served_line;
    served_open = h.served_open;
    served_idle = λ j on. at_mark (λ b. b ≡ false) s.waiting n j _
        (λ e. drops (s.waiting n) _ (h.served_idle n (ap (in_service s) (sym e) ∙ on)))
        (λ ne. h.served_idle j on);
    climbs = h.climbs;
    high_waits = λ j line high out.
        let ne = lowered-else s.high n j high in
        marked_other s.waiting n j _ ne ∙ h.high_waits j line (sym (marked_other s.high n j false ne) ∙ high) out;
    low_fleeting = λ j line fleeting low. at_mark (λ b. b ≡ false) s.waiting n j _
        (λ e. fleets (s.waiting n) (f.fleeting n) (ap f.fleeting (sym e) ∙ fleeting))
        (λ ne. h.low_fleeting j line fleeting (sym (marked_other s.high n j false ne) ∙ low));
  }
    where
      fleets : (w b : Bool) → b ≡ true → (w && not b) ≡ false
      fleets true b e = ap not e
      fleets false b e = refl

  pub opened-lawful : StateLaws f (opening s n true)
  opened-lawful = record {
    served_line = h.served_line;
    served_open = λ j on. at_mark (λ b. b ≡ true) s.opened n j true (λ _. refl) (λ ne. h.served_open j on);
    served_idle = h.served_idle;
    climbs = h.climbs;
    high_waits = h.high_waits;
    low_fleeting = h.low_fleeting;
  }

  pub shut-lawful : in_service s n ≡ false → StateLaws f (opening s n false)
  shut-lawful out = record {
    served_line = h.served_line;
    served_open = λ j on. at_mark (λ b. b ≡ true) s.opened n j false
        (λ e. absurd (both_ways _ out (ap (in_service s) (sym e) ∙ on)))
        (λ ne. h.served_open j on);
    served_idle = h.served_idle;
    climbs = h.climbs;
    high_waits = h.high_waits;
    low_fleeting = h.low_fleeting;
  }

  pub taken-lawful : Ready (record { fixed = f; state = s }) n → StateLaws f (taken s n)
  taken-lawful r = record {
    served_line = λ j on. served (λ k. f.line k ≡ true) j on r.line (h.served_line j);
    served_open = λ j on. served (λ k. s.opened k ≡ true) j on r.opened (h.served_open j);
    served_idle = λ j on. at_mark (λ b. b ≡ false) s.waiting n j false (λ _. refl)
        (λ ne. served (λ k. k ≢ n → s.waiting k ≡ false) j on (λ bad. absurd (bad refl)) (λ more _. h.served_idle j more) ne);
    climbs = (r.urgent, h.climbs);
    high_waits = λ j line high out.
        let apart = or_parts (eqb j n) (among j s.stack) out in
        let ne : j ≢ n = λ e. both_ways _ apart.0 (eq-eqb j n e) in
        marked_other s.waiting n j false ne ∙ h.high_waits j line high apart.1;
    low_fleeting = λ j line fleeting low. at_mark (λ b. b ≡ false) s.waiting n j false (λ _. refl) (λ ne. h.low_fleeting j line fleeting low);
  }
    where
      served : (P : ℕ → Type 0) (j : ℕ) → among j (n ∷ s.stack) ≡ true → P n → (among j s.stack ≡ true → P j) → P j
      served P j on top below = ⊎_elim (λ e. subst P (sym (eqb-true j n e)) top) below (or_cases (eqb j n) (among j s.stack) on)

  pub finished-lawful : tops s.stack n ≡ true → StateLaws f (finished s n)
  finished-lawful top = record {
    served_line = λ j on. h.served_line j (still j on).1;
    served_open = λ j on. h.served_open j (still j on).1;
    served_idle = λ j on. marked_other s.waiting n j _ (still j on).0 ∙ h.served_idle j (still j on).1;
    climbs = climbs-older f s.stack h.climbs;
    high_waits = λ j line high out. at_mark (λ b. b ≡ true) s.waiting n j _
        (λ e. ap s.high (sym e) ∙ high)
        (λ ne. h.high_waits j line high (sym (cond-false (eqb j n) false (among j s.stack) (ne_eqb j n ne)) ∙ sym (among-older f n s.stack h.climbs top j) ∙ out));
    low_fleeting = λ j line fleeting low. at_mark (λ b. b ≡ false) s.waiting n j _
        (λ e. ap s.high (sym e) ∙ low)
        (λ ne. h.low_fleeting j line fleeting low);
  }
    where
      still : (j : ℕ) → among j (older s.stack) ≡ true → (j ≢ n) × (among j s.stack ≡ true)
      still j on =
          let rest : cond (eqb j n) false (among j s.stack) ≡ true = sym (among-older f n s.stack h.climbs top j) ∙ on in
          at_mark (λ b. b ≡ true → (j ≢ n) × (among j s.stack ≡ true)) (λ k. among k s.stack) n j false (λ _ bad. absurd (false≢true bad)) (λ ne there. (ne, there)) rest
