-- What is urgent at the chip is ready at the controller.
use Rattle.std.specs.Prelude.{◌≡◌, ℕ, ◌<◌, Bool, true, false, cond, not, ◌&&◌, ◌||◌, List, [], ◌∷◌, Some, None, Ok, Option, ◌==◌}
use Rattle.std.proofs.Common.{sym, ap, ◌∙◌, subst, inl, inr, arith}
use Rattle.std.proofs.lemmas.Bool.{false_from_ne_true, and_from, and_parts, not-true, not_from_false, lt-ltb, ltb-true, both_ways, eqb-true, eq-eqb, cond_both, or_parts, not-false}
use Rattle.controller.specs.Meaning.{among, Beats, Ready, FirstReady, NoneReady}
use Rattle.controller.specs.Rules as rules
use Rattle.controller.proofs.Stacks.{beats-all, among-head}
use Rattle.i8259a.specs.declared.chip.I8259a.{I8259a}
use Rattle.i8259a.specs.declared.chip.Register.TheVariants.{Isr}
use Rattle.i8259a.specs.Bits.{bit, with, outside, lowest}
use Rattle.i8259a.specs.Chip.{is_line, shows}
use Rattle.i8259a.specs.Signal.{Urgent, NoneUrgent, First, Firsts, Signals, Acknowledges, ahead}
use Rattle.i8259a.proofs.Race.{firsts}
use Rattle.i8259a_controller.specs.Told.{eight, has, levels_from, meant, Sound}
use Rattle.i8259a_controller.specs.Steps.{believed, TakesLevel}
use Rattle.i8259a_controller.specs.Levels.{climbs, members, has_in, with-here}

-- A level below all in service beats the stack.
beats-stack : (xs : List ℕ) (n : ℕ) → ((s : ℕ) → among s xs ≡ true → n < s) → Beats eight n xs
beats-stack [] n below = tt
beats-stack (x ∷ xs) n below = below x (among-head x xs)

module _ (c : I8259a) (sound : Sound c) where
  serving : (s : ℕ) → has c.isr s ≡ true → (s < 8) × (bit c.isr s ≡ true)
  serving s e = let both = and_parts (is_line s) (bit c.isr s) e in (ltb-true s 8 both.0, both.1)

  pub urgent-ready : (n : ℕ) → Urgent c n → Ready (meant c) n
  urgent-ready n u =
      let level : n < 8 = u.requests.level in
      let line : is_line n ≡ true = lt-ltb n 8 level in
      let idle : has c.isr n ≡ false = false_from_ne_true _ (λ e. let lt : n < n = u.below n (serving n e) in omega arith) in
      record {
        line = line;
        opened = and_from (is_line n) _ line (not_from_false _ (has_in c.imr n level ∙ u.requests.unmasked));
        waiting = and_from (has c.irr n) _ (has_in c.irr n level ∙ u.requests.high) (not_from_false _ idle);
        urgent = beats-stack (levels_from 8 0 c.isr) n (λ s e. u.below s (serving s (sym (members c.isr s) ∙ e)));
      }

  pub ready-urgent : (n : ℕ) → Ready (meant c) n → Urgent c n
  ready-urgent n r =
      let level : n < 8 = ltb-true n 8 r.line in
      let open-mark = and_parts (is_line n) (not (has c.imr n)) r.opened in
      let waits = and_parts (has c.irr n) (not (has c.isr n)) r.waiting in
      record {
        requests = record {
          level = level;
          high = sym (has_in c.irr n level) ∙ waits.0;
          unmasked = sym (has_in c.imr n level) ∙ not-true _ open-mark.1;
        };
        below = λ s i. beats-all eight (levels_from 8 0 c.isr) n s (climbs c.isr) r.urgent (members c.isr s ∙ has_in c.isr s i.0 ∙ i.1);
      }

  pub first-ready : (n : ℕ) → First c n → FirstReady (meant c) n
  first-ready n f = record { ready = urgent-ready n f.urgent; first = λ j r. f.lowest j (ready-urgent j r) }

  pub none-ready : NoneUrgent c → NoneReady (meant c)
  none-ready none j r = none j (ready-urgent j r)

  -- If some level is urgent, one is the first.
  some_first : (o : Option ℕ) → Firsts c o → (n : ℕ) → Urgent c n → (m : ℕ) × First c m
  some_first None none n u = absurd (none n u)
  some_first (Some m) f n u = (m, f)

  pub signals : (r : Bool) → Signals c r → rules.Signals (meant c) r
  signals true s =
      let f = some_first (ahead (lowest (outside c.irr c.imr)) (lowest c.isr)) (firsts c sound.imr_byte) s.1.0 s.1.1 in
      (f.0, first-ready f.0 f.1)
  signals false s = none-ready (s sound.set_up)

-- A level 7 that is not believed is spurious: nothing was urgent and nothing changed.
pub spurious : (c d : I8259a) (n : ℕ) (before after : Bool) → before ≡ shows c Isr 7 → after ≡ shows d Isr 7 → Acknowledges c (Ok n) d → believed n before after ≡ false → TakesLevel c None d
spurious c d n before after was is a doubt = elim a.1 [
  | inl h ↦
      let seven = not-false _ (or_parts (not (n == 7)) (not before && after) doubt).0 in
      let e : n ≡ 7 = eqb-true n 7 seven in
      let first : First c 7 = subst (First c) e h.0 in
      let clear : before ≡ false = was ∙ false_from_ne_true _ (λ on. let lt : 7 < 7 = first.urgent.below 7 (lt-self, on) in omega arith) in
      let set : after ≡ true = is ∙ ap (λ (z : I8259a). shows z Isr 7) h.1 ∙ ap (λ k. has (with c.isr k) 7) e ∙ with-here c.isr 7 lt-self in
      absurd (both_ways _ (or_parts (not (n == 7)) (not before && after) doubt).1 (and_from (not before) after (not_from_false _ clear) set))
  | inr h ↦ (h.0, h.2)
]
  where
    lt-self : 7 < 8
    lt-self = omega arith

-- A level that is believed is urgent.
genuine : (c d : I8259a) (n : ℕ) (before after : Bool) → before ≡ shows c Isr 7 → after ≡ shows d Isr 7 → Acknowledges c (Ok n) d → believed n before after ≡ true → TakesLevel c (Some n) d
genuine c d n before after was is a sure = elim a.1 [
  | inl h ↦ h
  | inr h ↦
      let seven : not (n == 7) ≡ false = ap not (eq-eqb n 7 h.1) in
      let set : (not before && after) ≡ true = sym (ap (λ b. b || (not before && after)) seven) ∙ sure in
      let both = and_parts (not before) after set in
      let same : after ≡ before = is ∙ ap (λ (z : I8259a). shows z Isr 7) h.2 ∙ sym was in
      absurd (both_ways _ (not-true before both.0) (sym same ∙ both.1))
]

pub taking : (c d : I8259a) (n : ℕ) (before after : Bool) → before ≡ shows c Isr 7 → after ≡ shows d Isr 7 → Acknowledges c (Ok n) d → TakesLevel c (cond (believed n before after) (Some n) None) d
taking c d n before after was is a =
    cond_both (believed n before after) (Some n) None (λ r. TakesLevel c r d) (genuine c d n before after was is a) (spurious c d n before after was is a)
