use Rattle.std.proofs.Common.{refl, ap, arith}
use Rattle.controller.specs.declared.refusal.Refusal.TheVariants.{UnlawfulMap, CutRecord}
use Rattle.plic.specs.Chip.{gate}
use Rattle.worked_cases.proofs.Dispatched.{eight_deep, seven_alone, seven_and_a_fall, spurious}
use Rattle.worked_cases.proofs.Named.{names-seven, believes-none}
use Rattle.worked_cases.proofs.Sources.{signals, silent, at-four, claims-first, five-first, leaves-claimed}
use Rattle.worked_cases.proofs.Sizes.{largest_fit, too_wide}
use Rattle.worked_cases.proofs.worked_cases.Goals as goal

pub returns : goal.returns
returns c = record {
  eight_deep = eight_deep;
  seven_served = λ s cs rs run served none. spurious s cs rs run none;
  seven_alone = seven_alone;
  seven_and_a_fall = seven_and_a_fall;
  seven_named = λ c set_up served none. (names-seven c none set_up, believes-none c none);
  priority_three = λ N n p alone t e. silent N p (λ m asks. omega (arith, ap (λ i. (gate N p i).priority) (alone.sole m asks)));
  priority_four = λ N n p asks t e. signals N p n asks (omega arith);
  claims_five = λ N p h. claims-first N p 5 (five-first N p h);
  claims_under_seven = λ N p h t. (silent N p (λ m asks. omega (arith, at-four N p h m asks)), claims-first N p 5 (five-first N p h));
  stays_claimed = λ N n p h. leaves-claimed N p n h;
  map_unlawful = λ bs place. (UnlawfulMap, refl, refl);
  map_alone = λ place. (CutRecord, refl, refl);
  largest_fit = largest_fit;
  too_wide = too_wide;
}
