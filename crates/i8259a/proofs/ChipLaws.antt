-- The laws of a chip's calls.
use Rattle.std.proofs.Common.{◌≡◌, ℕ, ◌%◌, ◌<◌, true, false, not, ◌&&◌, ◌||◌, eqb, ◌≢◌, is_ok, Some, None, Ok, Err, Option, Result, sym, refl, ap, ◌∙◌, subst, inl, inr, arith}
use mathlib.Core.Bool.{and-true, or-false}
use Rattle.std.proofs.lemmas.Bool.{cond-true, cond-false, false_from_ne_true, lt-ltb, eq-eqb, ne_eqb, both_ways, or_right, and_right}
use Rattle.controller.specs.declared.refusal.Refusal.{Refusal}
use Rattle.i8259a.specs.declared.chip.I8259a.{I8259a}
use Rattle.i8259a.specs.declared.chip.Step.{Step}
use Rattle.i8259a.specs.declared.chip.Step.TheVariants.{Done}
use Rattle.i8259a.specs.Bits.{bit, with, without, without_if, lowest}
use Rattle.i8259a.specs.Chip.{with_isr, risen, fallen, read_answer, is_set_up}
use Rattle.i8259a.specs.Signal.{SetUp, InService, Urgent, NoneUrgent, First, Acknowledges, Names}
use Rattle.i8259a.specs.Writing.{write_answer, write_after, written, icw1_modelled, ocw2_modelled, is_command, ready, ended, restarted}
use Rattle.i8259a.specs.Laws.{Newest, Ends, Starts, Ocw2, after_four, ChipLaws}
use Rattle.i8259a.proofs.Sets.{bit-with, bit-without}
use Rattle.i8259a.proofs.LowestLevels.{Lowest, lowest-is, one-lowest}

-- A write that is accepted does what is written.
accepted : (c : I8259a) (port b : ℕ) → write_answer c port b ≡ Ok tt → write_after c port b ≡ written c port b
accepted c port b h = cond-true (is_ok (write_answer c port b)) _ _ (ap is_ok h)

refused-law : (c : I8259a) (port b : ℕ) (e : Refusal) → write_answer c port b ≡ Err e → write_after c port b ≡ c
refused-law c port b e h = cond-false (is_ok (write_answer c port b)) _ _ (ap is_ok h)

set-up-law : (c : I8259a) (b v w : ℕ) → bit b 4 ≡ true → icw1_modelled b ≡ true → after_four c b v w 1 ≡ ready c v w
set-up-law c b v w four lawful =
    let answer : write_answer c 0 b ≡ Ok tt = simp (four, lawful) in
    let first : write_after c 0 b ≡ restarted c = accepted c 0 b answer ∙ simp four in
    ap (λ d. write_after (write_after (write_after d 1 v) 1 w) 1 1) first

-- What an OCW2 that is modelled does to a chip that is set up.
ocw2-law : (c : I8259a) (k b : ℕ) → SetUp c → Ocw2 k b → is_command k ≡ true → (write_answer c 0 b ≡ Ok tt) × (write_after c 0 b ≡ ended c b)
ocw2-law c k b s o m =
    let modelled : ocw2_modelled b ≡ true = ap is_command o.command ∙ m in
    let answer : write_answer c 0 b ≡ Ok tt = simp (o.not_icw1, o.not_ocw3, s, modelled) in
    (answer, accepted c 0 b answer ∙ simp (o.not_icw1, o.not_ocw3))

ends_at : (c : I8259a) (n : ℕ) → n < 8 → Ends c n (with_isr c (without c.isr n))
ends_at c n h =
    record {
      ended = λ i. both_ways _ (bit-without c.isr n n h h ∙ and_right (bit c.isr n) _ (ap not (eq-eqb n n refl))) i.1;
      others = λ m k ne. bit-without c.isr n m h k ∙ ap (λ e. bit c.isr m && not e) (ne_eqb m n ne) ∙ and-true (bit c.isr m);
      same = refl;
    }

starts-at : (c : I8259a) (n : ℕ) → n < 8 → Starts c n (with_isr c (with c.isr n))
starts-at c n h =
    record {
      started = (h, bit-with c.isr n n h h ∙ or_right (bit c.isr n) _ (eq-eqb n n refl));
      others = λ m k ne. bit-with c.isr n m h k ∙ ap (λ e. bit c.isr m || e) (ne_eqb m n ne) ∙ or-false (bit c.isr m);
      same = refl;
    }

specific-end-law : (c : I8259a) (b : ℕ) → SetUp c → Ocw2 3 b → Ends c (b % 8) (write_after c 0 b)
specific-end-law c b s o =
    let after : write_after c 0 b ≡ with_isr c (without c.isr (b % 8)) = (ocw2-law c 3 b s o refl).1 ∙ simp o.command in
    subst (Ends c (b % 8)) (sym after) (ends_at c (b % 8) (omega arith))

-- The non-specific end, by the lowest level in service.
plain-after : (c : I8259a) (b : ℕ) (l : Option ℕ) → SetUp c → Ocw2 1 b → Lowest c.isr l → write_after c 0 b ≡ with_isr c (without_if c.isr l)
plain-after c b l s o h =
    let after : write_after c 0 b ≡ with_isr c (without_if c.isr (lowest c.isr)) = (ocw2-law c 1 b s o refl).1 ∙ simp o.command in
    after ∙ ap (λ m. with_isr c (without_if c.isr m)) (one-lowest c.isr _ l (lowest-is c.isr) h)

-- A level below all in service is not in service.
none_below : (c : I8259a) (n : ℕ) → Newest c n → (m : ℕ) → m < n → bit c.isr m ≡ false
none_below c n w m lt = false_from_ne_true _ (λ e. omega (arith, w.lowest m (omega (arith, w.serves.0), e)))

plain-end-law : (c : I8259a) (b n : ℕ) → SetUp c → Ocw2 1 b → Newest c n → Ends c n (write_after c 0 b)
plain-end-law c b n s o w =
    let after = plain-after c b (Some n) s o (omega arith, w.serves.0, w.serves.1, λ m le lt. none_below c n w m lt) in
    subst (Ends c n) (sym after) (ends_at c n w.serves.0)

idle-end-law : (c : I8259a) (b : ℕ) → SetUp c → Ocw2 1 b → ((n : ℕ) → InService c n → ⊥) → write_after c 0 b ≡ c
idle-end-law c b s o none = plain-after c b None s o (λ m le lt. false_from_ne_true _ (λ e. none m (lt, e)))

no-end-law : (c : I8259a) (b : ℕ) → SetUp c → Ocw2 2 b → (write_answer c 0 b ≡ Ok tt) × (write_after c 0 b ≡ c)
no-end-law c b s o = let h = ocw2-law c 2 b s o refl in (h.0, h.1 ∙ simp o.command)

-- A chip that is set up is at the last step, where port 1 takes the mask and port 0 the commands.
done-step : (s : Step) → is_set_up s ≡ true → s ≡ Done
done-step Done e = refl
done-step _ e = cc

mask-law : (c : I8259a) (b : ℕ) → SetUp c → read_answer (write_after c 1 b) 1 ≡ Ok b
mask-law c b s = simp (done-step c.step s)

shows-irr-law : (c : I8259a) → SetUp c → read_answer (write_after c 0 0x0a) 0 ≡ Ok c.irr
shows-irr-law c s = simp s

shows-isr-law : (c : I8259a) → SetUp c → read_answer (write_after c 0 0x0b) 0 ≡ Ok c.isr
shows-isr-law c s = simp s

rises-law : (c : I8259a) (n m : ℕ) → n < 8 → m < 8 → bit (risen c n).irr m ≡ (bit c.irr m || eqb m n)
rises-law c n m h k = simp (lt-ltb n 8 h) (bit-with c.irr n m h k)

falls-law : (c : I8259a) (n m : ℕ) → n < 8 → m < 8 → m ≢ n → bit (fallen c n).irr m ≡ bit c.irr m
falls-law c n m h k ne =
    simp (lt-ltb n 8 h) (bit-without c.irr n m h k ∙ ap (λ e. bit c.irr m && not e) (ne_eqb m n ne) ∙ and-true (bit c.irr m))

falls-low-law : (c : I8259a) (n : ℕ) → n < 8 → bit (fallen c n).irr n ≡ false
falls-low-law c n h =
    simp (lt-ltb n 8 h) (bit-without c.irr n n h h ∙ and_right (bit c.irr n) _ (ap not (eq-eqb n n refl)))

starts-law : (c d : I8259a) (n : ℕ) → First c n → Acknowledges c (Ok n) d → Starts c n d
starts-law c d n f a = elim a.1 [
  | inl h ↦ subst (Starts c n) (sym h.1) (starts-at c n f.urgent.requests.level)
  | inr h ↦ absurd (h.0 n f.urgent)
]

ahead-only-law : (c d : I8259a) (n m : ℕ) → First c n → Acknowledges c (Ok n) d → Urgent d m → m < n
ahead-only-law c d n m f a u = u.below n (starts-law c d n f a).started

spurious-law : (c d : I8259a) (n : ℕ) → NoneUrgent c → Acknowledges c (Ok n) d → (n ≡ 7) × (d ≡ c)
spurious-law c d n none a = elim a.1 [ inl h ↦ absurd (none n h.0.urgent) | inr h ↦ (h.1, h.2) ]

one_name : (c d e : I8259a) (n m : ℕ) → Names c n d → Names c m e → (◌≡◌ {A = Result ℕ Refusal} (Ok n) (Ok m)) × (d ≡ e)
one_name c d e n m (inl a) (inl b) =
    let same : n ≡ m = omega (arith, a.0.lowest m b.0.urgent, b.0.lowest n a.0.urgent) in
    (ap Ok same, a.1 ∙ ap (λ k. with_isr c (with c.isr k)) same ∙ sym b.1)
one_name c d e n m (inl a) (inr b) = absurd (b.0 n a.0.urgent)
one_name c d e n m (inr a) (inl b) = absurd (a.0 m b.0.urgent)
one_name c d e n m (inr a) (inr b) = (ap Ok (a.1 ∙ sym b.1), a.2 ∙ sym b.2)

one-answer-law : (c d e : I8259a) (r s : Result ℕ Refusal) → Acknowledges c r d → Acknowledges c s e → (r ≡ s) × (d ≡ e)
one-answer-law c d e (Ok n) (Ok m) a b = one_name c d e n m a.1 b.1
one-answer-law c d e (Ok n) (Err x) a b = absurd (b.0 a.0)
one-answer-law c d e (Err x) (Ok m) a b = absurd (a.0 b.0)
one-answer-law c d e (Err x) (Err y) a b = (ap Err (a.1 ∙ sym b.1), a.2 ∙ sym b.2)

pub chip-laws : ChipLaws
unfolding ChipLaws
chip-laws =
    record {
      refused = refused-law;
      set_up = set-up-law;
      specific_end = specific-end-law;
      plain_end = plain-end-law;
      idle_end = idle-end-law;
      no_end = no-end-law;
      mask = mask-law;
      shows_irr = shows-irr-law;
      shows_isr = shows-isr-law;
      rises = rises-law;
      falls = falls-law;
      falls_low = falls-low-law;
      starts = starts-law;
      ahead_only = ahead-only-law;
      spurious = spurious-law;
      one_answer = one-answer-law;
    }
