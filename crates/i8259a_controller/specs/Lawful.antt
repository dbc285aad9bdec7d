-- In a sound state the chip tells a lawful meaning.
use Rattle.std.specs.Prelude.{◌≡◌, ℕ, ◌<◌, true}
use Rattle.std.proofs.Common.{sym, ◌∙◌, arith}
use Rattle.std.proofs.lemmas.Bool.{and_from, and_parts, and_left, and_right, not_from_false, not_from_true, ltb-true}
use Rattle.controller.specs.Meaning.{among, Lawful}
use Rattle.i8259a.specs.declared.chip.I8259a.{I8259a}
use Rattle.i8259a.specs.Bits.{bit}
use Rattle.i8259a.specs.Chip.{is_line}
use Rattle.i8259a_controller.specs.Told.{has, levels_from, meant, Sound}
use Rattle.i8259a_controller.specs.Levels.{has_in, climbs, members}

pub lawful : (c : I8259a) → Sound c → Lawful (meant c)
lawful c s =
    let serves : (n : ℕ) → among n (levels_from 8 0 c.isr) ≡ true → (is_line n ≡ true) × (bit c.isr n ≡ true) =
    λ n e. and_parts (is_line n) (bit c.isr n) (sym (members c.isr n) ∙ e) in
    record {
      fixed = record {
        narrow = omega arith;
        some = omega arith;
        short = omega arith;
        within = λ n line. ltb-true n 8 line;
        classed = λ n line. ltb-true n 8 line;
        ranked = λ n line. ltb-true n 8 line;
        own = λ a b la lb e. e;
        ordered = λ a b la lb lt. omega arith;
      };
      state = record {
        served_line = λ n e. (serves n e).0;
        served_open = λ n e.
            let lt : n < 8 = ltb-true n 8 (serves n e).0 in
            and_from (is_line n) _ (serves n e).0 (not_from_false _ (has_in c.imr n lt ∙ s.served_open n lt (serves n e).1));
        served_idle = λ n e. and_right (has c.irr n) _ (not_from_true _ (sym (members c.isr n) ∙ e));
        climbs = climbs c.isr;
        high_waits = λ n line high out. and_from (has c.irr n) _ high (not_from_false _ (sym (members c.isr n) ∙ out));
        low_fleeting = λ n line fleeting low. and_left (has c.irr n) _ low;
      };
    }
