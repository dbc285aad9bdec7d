-- A sound PLIC tells a lawful meaning.
use Rattle.std.specs.Prelude.{◌≡◌, true, false, refl}
use Rattle.std.proofs.Common.{sym, ◌∙◌, ⊎_elim, arith}
use Rattle.std.proofs.lemmas.Bool.{both_ways, false≢true, lt-ltb, ltb-true, or_cases}
use Rattle.plic.specs.declared.chip.Plic.{Plic}
use Rattle.plic.specs.declared.gateway.Request.{Request}
use Rattle.plic.specs.declared.gateway.Request.TheVariants.{Idle, Pending, Claimed}
use Rattle.plic.specs.Gateways.{is_pending, is_claimed}
use Rattle.plic.specs.Chip.{gate}
use Rattle.controller.specs.Meaning.{FixedLaws, StateLaws, Lawful}
use Rattle.plic_controller.specs.Told.{meant}
use Rattle.plic_controller.specs.Sound.{Sound}
use Rattle.plic_controller.specs.Claimed.{members, climbs, claimed-line}

not-both : (x : Request) → is_claimed x ≡ true → is_pending x ≡ false
not-both Idle e = refl
not-both Pending e = absurd (false≢true e)
not-both Claimed e = refl

module _ (p : Plic 64) (s : Sound p) where
  fixed_laws : FixedLaws (meant p).fixed
  fixed_laws =
      let fair = s.settled.fair in
      record {
        narrow = omega arith;
        some = omega arith;
        short = omega arith;
        within = λ n line. ((fair n).within (ltb-true _ _ line)).1;
        classed = λ n line. omega arith;
        ranked = λ n line. let w = (fair n).within (ltb-true _ _ line) in let l = ltb-true _ _ line in omega arith;
        own = λ a b la lb same. let wa = (fair a).within (ltb-true _ _ la) in let wb = (fair b).within (ltb-true _ _ lb) in omega arith;
        ordered = λ a b la lb lt. let wa = (fair a).within (ltb-true _ _ la) in let wb = (fair b).within (ltb-true _ _ lb) in omega arith;
      }

  state-laws : StateLaws (meant p).fixed (meant p).state
  state-laws =
      let fair = s.settled.fair in
      let single = s.settled.single in
      let mem = members (gate 64 p) fair single in
      record {
        served_line = λ n sure. lt-ltb _ _ (claimed-line (gate 64 p) fair single n (sym (mem n) ∙ sure));
        served_open = λ n sure. (fair n).held (sym (mem n) ∙ sure);
        served_idle = λ n sure. not-both (gate 64 p n).request (sym (mem n) ∙ sure);
        climbs = climbs (gate 64 p) fair single;
        high_waits = λ n line high out. ⊎_elim (λ w. w) (λ cl. absurd (both_ways _ out (mem n ∙ cl))) (or_cases _ _ ((fair n).asks high));
        low_fleeting = λ n line fl. absurd (false≢true fl);
      }

  pub lawful : Lawful (meant p)
  lawful = record { fixed = fixed_laws; state = state-laws }
