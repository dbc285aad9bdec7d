-- The old unit's lines, ranks, classes and marks, computed.
use Rattle.std.proofs.Common.{◌≡◌, ℕ, ◌+◌, ◌-◌, ◌<◌, ◌≤◌, Bool, true, false, cond, ltb, sym, refl, ◌∙◌, subst, subst₂, ⊎_elim, arith}
use Rattle.std.proofs.lemmas.Bool.{cases_lt, le-ltb, both_ways}
use Rattle.controller.specs.Meaning.{Meaning, among}
use Rattle.controller.specs.Rules.{so, otherwise}
use Rattle.controller.proofs.Stacks.{below-not, among_below}
use Rattle.i8259a.proofs.Sets.{each8}
use Rattle.i8259a_controller.specs.Told.{eight, fresh}
use Rattle.cascade.specs.Pile.{side, pile_line, pile}
use Rattle.cascade.specs.Fit.{is_fit, Makes}
use Rattle.cascade.specs.Sides.{marks-none}
use Rattle.units.specs.Old.{by_rank, Increasing, class_of, rank_of, OldUnit}

abbrev chip : Meaning
chip = fresh

-- A fact of each number below 16 and of every other.
by-chip : (P : ℕ → Type 0) → ((n : ℕ) → n < 8 → P n) → ((m : ℕ) → m < 8 → P (8 + m)) → ((n : ℕ) → 16 ≤ n → P n) → (n : ℕ) → P n
by-chip P master slave none n =
    ⊎_elim
    (λ lt. master n lt)
    (λ le. ⊎_elim
    (λ lt. subst P (omega arith) (slave (n - 8) (omega arith)))
    (λ le'. none n le')
    (cases_lt n 16))
    (cases_lt n 8)

none-beyond : (n : ℕ) → 16 ≤ n → among n by_rank ≡ false
none-beyond n le = below-not 16 by_rank n (among_below 16 by_rank refl) le

lines : (n : ℕ) → (pile chip 2 chip).fixed.line n ≡ among n by_rank
unfolding pile_line side
lines = by-chip (λ n. (pile chip 2 chip).fixed.line n ≡ among n by_rank)
    (each8 (λ n. (pile chip 2 chip).fixed.line n ≡ among n by_rank) refl refl refl refl refl refl refl refl)
    (each8 (λ m. (pile chip 2 chip).fixed.line (8 + m) ≡ among (8 + m) by_rank) refl refl refl refl refl refl refl refl)
    (λ n le. beyond n le ∙ sym (none-beyond n le))
  where
    beyond : (n : ℕ) → 16 ≤ n → pile_line eight 2 eight n ≡ false
    beyond n le = rw (le-ltb n 8 (omega arith), le-ltb (n - 8) 8 (omega arith))

order : Increasing (pile chip 2 chip).fixed.rank by_rank
unfolding side
order = (omega arith, (omega arith, (omega arith, (omega arith, (omega arith, (omega arith, (omega arith, (omega arith, (omega arith, (omega arith, (omega arith, (omega arith, (omega arith, (omega arith, tt))))))))))))))

ranks : (n : ℕ) → (pile chip 2 chip).fixed.rank n ≡ rank_of n
unfolding side
ranks n = refl

classes : (n : ℕ) → (pile chip 2 chip).fixed.class n ≡ class_of n
unfolding side
classes n = refl

fleeting : (n : ℕ) → (pile chip 2 chip).fixed.fleeting n ≡ true
unfolding side
fleeting n = either (ltb n 8)
  where
    either : (b : Bool) → cond b true true ≡ true
    either true = refl
    either false = refl

old-pile : OldUnit (pile chip 2 chip)
old-pile = record {
  width = refl;
  span = refl;
  lines = lines;
  ranks = order;
  each_rank = λ n _. ranks n;
  classes = λ n _. classes n;
  fleeting = λ n _. fleeting n;
  shut = marks-none eight 2 eight (λ _. false) (λ _. false) (λ _. refl) (λ _. refl);
  low = marks-none eight 2 eight (λ _. false) (λ _. false) (λ _. refl) (λ _. refl);
  waiting = marks-none eight 2 eight (λ _. false) (λ _. false) (λ _. refl) (λ _. refl);
  stack = refl;
}

-- Two new chips fit.
fits : is_fit chip 2 chip ≡ true
fits = refl

pub old-made : (a b m : Meaning) → a ≡ fresh → b ≡ fresh → Makes a 2 b m → OldUnit m
old-made a b m ea eb h = of-fresh m (subst₂ (λ x y. Makes x 2 y m) ea eb h)
  where
    of-fresh : (m : Meaning) → Makes chip 2 chip m → OldUnit m
    of-fresh m (so e h) = subst OldUnit (sym h) old-pile
    of-fresh m (otherwise e h) = absurd (both_ways (is_fit chip 2 chip) e fits)
