-- Each call does what the rules say, and keeps the chip sound.
use Rattle.std.specs.Prelude.{◌≡◌, ℕ, ◌<◌, Bool, true, false, cond, not, ◌&&◌, ◌||◌, ◌≢◌, Some, None, Ok, Err, Option, ◌==◌, refl}
use Rattle.std.proofs.Common.{sym, ap, ◌∙◌, subst, ⊎_elim}
use Rattle.std.proofs.lemmas.Bool.{cases_eq, cases_lt, and_from, and_parts, and_left, and_right, not_from_false, not_from_true, lt-ltb, le-ltb, both_ways, cond-true}
use mathlib.Core.Bool.{and-true, and-false}
use Rattle.controller.specs.declared.refusal.Refusal.TheVariants.{NotALine, InService, NotNewest}
use Rattle.controller.specs.declared.answer.Answer.{Answer}
use Rattle.controller.specs.declared.answer.Answer.TheVariants.{Accepted, Withdrawn, Noted, Done}
use Rattle.controller.specs.Refusals.{asks}
use Rattle.controller.specs.Meaning.{Meaning, among}
use Rattle.controller.specs.Rules.{so, otherwise, marked, onward, tops, Rises, Falls, Opens, Shuts, Takes, Finishes}
use Rattle.controller.proofs.Marks.{marks-set, state-same}
use Rattle.i8259a.specs.declared.chip.I8259a.{I8259a}
use Rattle.i8259a.specs.Bits.{bit, with, without, lowest}
use Rattle.i8259a.specs.Chip.{is_line, risen, fallen, with_irr, with_isr, with_imr}
use Rattle.i8259a.specs.Signal.{SetUp}
use Rattle.i8259a.proofs.Sets.{bit-without}
use Rattle.i8259a_controller.specs.Told.{has, levels_from, meant, Sound}
use Rattle.i8259a_controller.specs.declared.steps.Line.{Line}
use Rattle.i8259a_controller.specs.Steps.{line_of, rise_answer, fall_answer, finish_answer, is_atop, TakesLevel}
use Rattle.i8259a_controller.specs.Levels.{with_byte, without-byte, has_in, with-here, with-other, without-here, without_other, with-marks, without-marks, members, tops-atop, stack-with, stack-without}
use Rattle.i8259a_controller.proofs.Signals.{first-ready, none-ready}

-- What was not refused as no line is of a line.
pub of_a_line : {A : Type 0} (n : ℕ) (a b : A) → asks (is_line n) NotALine (Ok a) ≡ Ok b → n < 8
of_a_line {A} n a b e =
    ⊎_elim (λ lt. lt)
    (λ le. let refused : asks (is_line n) NotALine (Ok a) ≡ Err NotALine = ap (λ l. asks l NotALine (Ok a)) (le-ltb n 8 le) in cc)
    (cases_lt n 8)

-- Waiting is high and not in service: what a change of one of the two does to it.
module _ (H S : ℕ → Bool) (n : ℕ) where
  waits-when : (H' S' : ℕ → Bool) (b : Bool) → (H' n && not (S' n)) ≡ b → ((j : ℕ) → j ≢ n → (H' j ≡ H j) × (S' j ≡ S j))
      → ◌≡◌ {A = ℕ → Bool} (λ j. H' j && not (S' j)) (marked (λ j. H j && not (S j)) n b)
  waits-when H' S' b here there =
      marks-set (λ j. H j && not (S j)) (λ j. H' j && not (S' j)) n b here
      (λ j ne. ap (λ x. x && not (S' j)) (there j ne).0 ∙ ap (λ x. H j && not x) (there j ne).1)

-- The answers, by whether the line is high and in service.
rise-says : (h s : Bool) → rise_answer h s ≡ cond (not ((h && not s) || s)) Accepted Noted
rise-says true true = refl
rise-says true false = refl
rise-says false true = refl
rise-says false false = refl

rise-waits : (h s : Bool) → not s ≡ ((h && not s) || not ((h && not s) || s))
rise-waits true true = refl
rise-waits true false = refl
rise-waits false true = refl
rise-waits false false = refl

module _ (c : I8259a) (n : ℕ) (sound : Sound c) (level : n < 8) where
  line : is_line n ≡ true
  line = lt-ltb n 8 level

  inside : among n (levels_from 8 0 c.isr) ≡ has c.isr n
  inside = members c.isr n

  -- rise
  high-sound : Sound (with_irr c (with c.irr n))
  high-sound = record {
    set_up = sound.set_up;
    irr_byte = with_byte c.irr n sound.irr_byte level;
    isr_byte = sound.isr_byte;
    imr_byte = sound.imr_byte;
    served_open = sound.served_open;
  }

  rises-at : Rises (meant c) n (Ok (rise_answer (has c.irr n) (has c.isr n))) (meant (with_irr c (with c.irr n)))
  rises-at = so line (
    ap Ok (rise-says (has c.irr n) (has c.isr n) ∙ ap (λ t. cond (not ((has c.irr n && not (has c.isr n)) || t)) Accepted Noted) (sym inside)),
    ap (onward (meant c)) (state-same refl (with-marks c.irr n level)
        (waits-when (has c.irr) (has c.isr) n (has (with c.irr n)) (has c.isr) _
        (ap (λ h. h && not (has c.isr n)) (with-here c.irr n level) ∙ rise-waits (has c.irr n) (has c.isr n)
        ∙ ap (λ t. (has c.irr n && not (has c.isr n)) || not ((has c.irr n && not (has c.isr n)) || t)) (sym inside))
        (λ j ne. (with-other c.irr n j level ne, refl))) refl),
  )

  pub rises : (d : I8259a) (l : Line) (a : Answer) → d ≡ risen c n → l ≡ line_of c n → a ≡ rise_answer l.high l.serving → Sound d × Rises (meant c) n (Ok a) (meant d)
  rises d l a is el ea =
      let is' : d ≡ with_irr c (with c.irr n) = is ∙ cond-true (is_line n) _ _ line in
      let ea' : a ≡ rise_answer (has c.irr n) (has c.isr n) = ea ∙ ap (λ (x : Line). rise_answer x.high x.serving) el in
      subst (λ (x : I8259a). Sound x × Rises (meant c) n (Ok a) (meant x)) (sym is')
      (high-sound, subst (λ x. Rises (meant c) n (Ok x) (meant (with_irr c (with c.irr n)))) (sym ea') rises-at)

  -- fall
  low-sound : Sound (with_irr c (without c.irr n))
  low-sound = record {
    set_up = sound.set_up;
    irr_byte = without-byte c.irr n sound.irr_byte;
    isr_byte = sound.isr_byte;
    imr_byte = sound.imr_byte;
    served_open = sound.served_open;
  }

  falls_at : Falls (meant c) n (Ok (fall_answer (has c.irr n) (has c.isr n))) (meant (with_irr c (without c.irr n)))
  falls_at = so line (
    ap (λ b. Ok (cond b Withdrawn Noted)) (sym (and-true (has c.irr n && not (has c.isr n)))),
    ap (onward (meant c)) (state-same refl (without-marks c.irr n level)
        (waits-when (has c.irr) (has c.isr) n (has (without c.irr n)) (has c.isr) _
        (ap (λ h. h && not (has c.isr n)) (without-here c.irr n level) ∙ sym (and-false (has c.irr n && not (has c.isr n))))
        (λ j ne. (without_other c.irr n j level ne, refl))) refl),
  )

  pub falls : (d : I8259a) (l : Line) (a : Answer) → d ≡ fallen c n → l ≡ line_of c n → a ≡ fall_answer l.high l.serving → Sound d × Falls (meant c) n (Ok a) (meant d)
  falls d l a is el ea =
      let is' : d ≡ with_irr c (without c.irr n) = is ∙ cond-true (is_line n) _ _ line in
      let ea' : a ≡ fall_answer (has c.irr n) (has c.isr n) = ea ∙ ap (λ (x : Line). fall_answer x.high x.serving) el in
      subst (λ (x : I8259a). Sound x × Falls (meant c) n (Ok a) (meant x)) (sym is')
      (low-sound, subst (λ x. Falls (meant c) n (Ok x) (meant (with_irr c (without c.irr n)))) (sym ea') falls_at)

  -- open
  open-sound : Sound (with_imr c (without c.imr n))
  open-sound = record {
    set_up = sound.set_up;
    irr_byte = sound.irr_byte;
    isr_byte = sound.isr_byte;
    imr_byte = without-byte c.imr n sound.imr_byte;
    served_open = λ m lt on. bit-without c.imr n m level lt ∙ and_left (bit c.imr m) _ (sound.served_open m lt on);
  }

  pub opens : (d : I8259a) → d ≡ with_imr c (without c.imr n) → Sound d × Opens (meant c) n (Ok Done) (meant d)
  opens d is =
      subst (λ (x : I8259a). Sound x × Opens (meant c) n (Ok Done) (meant x)) (sym is) (
        open-sound,
        so line (
          refl,
          ap (onward (meant c)) (state-same
              (marks-set (λ j. is_line j && not (has c.imr j)) (λ j. is_line j && not (has (without c.imr n) j)) n true
              (and_from (is_line n) _ line (not_from_false _ (without-here c.imr n level)))
              (λ j ne. ap (λ x. is_line j && not x) (without_other c.imr n j level ne)))
              refl refl refl),
        ),
      )

  -- shut
  shut-sound : has c.isr n ≡ false → Sound (with_imr c (with c.imr n))
  shut-sound out = record {
    set_up = sound.set_up;
    irr_byte = sound.irr_byte;
    isr_byte = sound.isr_byte;
    imr_byte = with_byte c.imr n sound.imr_byte level;
    served_open = λ m lt on.
        let apart : m ≢ n = λ e. both_ways _ out (has_in c.isr n level ∙ ap (bit c.isr) (sym e) ∙ on) in
        sym (has_in (with c.imr n) m lt) ∙ with-other c.imr n m level apart ∙ has_in c.imr m lt ∙ sound.served_open m lt on;
  }

  pub shuts : (d : I8259a) → has c.isr n ≡ false → d ≡ with_imr c (with c.imr n) → Sound d × Shuts (meant c) n (Ok Done) (meant d)
  shuts d out is =
      subst (λ (x : I8259a). Sound x × Shuts (meant c) n (Ok Done) (meant x)) (sym is) (
        shut-sound out,
        so line (otherwise (inside ∙ out) (
          refl,
          ap (onward (meant c)) (state-same
              (marks-set (λ j. is_line j && not (has c.imr j)) (λ j. is_line j && not (has (with c.imr n) j)) n false
              (and_right (is_line n) _ (not_from_true _ (with-here c.imr n level)))
              (λ j ne. ap (λ x. is_line j && not x) (with-other c.imr n j level ne)))
              refl refl refl),
        )),
      )

  pub shut-refused : has c.isr n ≡ true → Shuts (meant c) n (Err InService) (meant c)
  shut-refused on = so line (so (inside ∙ on) (refl, refl))

  -- finish
  end-sound : Sound (with_isr c (without c.isr n))
  end-sound = record {
    set_up = sound.set_up;
    irr_byte = sound.irr_byte;
    isr_byte = without-byte c.isr n sound.isr_byte;
    imr_byte = sound.imr_byte;
    served_open = λ m lt on. sound.served_open m lt (and_parts (bit c.isr m) (not (m == n)) (sym (bit-without c.isr n m level lt) ∙ on)).0;
  }

  pub finishes : (d : I8259a) (a : Answer) → is_atop (lowest c.isr) n ≡ true → d ≡ with_isr c (without c.isr n) → a ≡ finish_answer (has c.irr n) → Sound d × Finishes (meant c) n (Ok a) (meant d)
  finishes d a top is ea =
      let top' : tops (levels_from 8 0 c.isr) n ≡ true = tops-atop c.isr n ∙ top in
      subst (λ (x : I8259a). Sound x × Finishes (meant c) n (Ok a) (meant x)) (sym is) (
        end-sound,
        so line (so top' (
          ap Ok ea,
          ap (onward (meant c)) (state-same refl refl
              (waits-when (has c.irr) (has c.isr) n (has c.irr) (has (without c.isr n)) (has c.irr n)
              (ap (λ x. has c.irr n && not x) (without-here c.isr n level) ∙ and-true (has c.irr n))
              (λ j ne. (refl, without_other c.isr n j level ne)))
              (stack-without c.isr n level top')),
        )),
      )

  pub finish-refused : is_atop (lowest c.isr) n ≡ false → Finishes (meant c) n (Err NotNewest) (meant c)
  finish-refused low = so line (otherwise (tops-atop c.isr n ∙ low) (refl, refl))

-- take
take-sound : (c : I8259a) (n : ℕ) → Sound c → n < 8 → bit c.imr n ≡ false → Sound (with_isr c (with c.isr n))
take-sound c n sound level clear = record {
  set_up = sound.set_up;
  irr_byte = sound.irr_byte;
  isr_byte = with_byte c.isr n sound.isr_byte level;
  imr_byte = sound.imr_byte;
  served_open = λ m lt on. ⊎_elim
      (λ e. ap (bit c.imr) e ∙ clear)
      (λ ne. sound.served_open m lt (sym (has_in c.isr m lt) ∙ sym (with-other c.isr n m level ne) ∙ has_in (with c.isr n) m lt ∙ on))
      (cases_eq m n);
}

pub takes : (c d : I8259a) (r : Option ℕ) → Sound c → TakesLevel c r d → Sound d × Takes (meant c) r (meant d)
takes c d None sound (none, is) = (subst Sound (sym is) sound, (none-ready c sound none, ap meant is))
takes c d (Some n) sound (f, is) =
    let level : n < 8 = f.urgent.requests.level in
    let first = first-ready c sound n f in
    subst (λ (x : I8259a). Sound x × Takes (meant c) (Some n) (meant x)) (sym is) (
      take-sound c n sound level f.urgent.requests.unmasked,
      (
        first,
        ap (onward (meant c)) (state-same refl refl
            (waits-when (has c.irr) (has c.isr) n (has c.irr) (has (with c.isr n)) false
            (ap (λ x. has c.irr n && not x) (with-here c.isr n level) ∙ and-false (has c.irr n))
            (λ j ne. (refl, with-other c.isr n j level ne)))
            (stack-with c.isr n level first.ready.urgent)),
      ),
    )

-- What a step does to a chip that is the same as c, it does to c.
pub moved : (F : I8259a → I8259a) (mid c d : I8259a) → mid ≡ c → (SetUp mid → d ≡ F mid) → SetUp c → d ≡ F c
moved F mid c d same did = subst (λ x. SetUp x → d ≡ F x) same did

-- A refused call leaves the chip as it was.
pub unmoved : (c d : I8259a) (R : Meaning → Type 0) → d ≡ c → Sound c → R (meant c) → Sound d × R (meant d)
unmoved c d R same sound r = subst (λ (x : I8259a). Sound x × R (meant x)) (sym same) (sound, r)
