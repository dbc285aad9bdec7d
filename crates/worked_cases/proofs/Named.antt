-- An 8259A on which nothing is urgent names level 7, and the take does not believe it.
use Rattle.std.proofs.Common.{◌≡◌, ℕ, Some, None, Ok, Option, refl, inr}
use Rattle.i8259a.specs.declared.chip.I8259a.{I8259a}
use Rattle.i8259a.specs.Signal.{SetUp, NoneUrgent, Acknowledges}
use Rattle.i8259a.specs.Laws.{ChipLaws}
use Rattle.i8259a.proofs.ChipLaws.{chip-laws}
use Rattle.i8259a_controller.specs.Steps.{TakesLevel}
use Rattle.worked_cases.specs.Exactly.{Answers}

module _ (c : I8259a) (none : NoneUrgent c) where
  pub names-seven : SetUp c → Answers (Acknowledges c) (Ok 7) c
  unfolding ChipLaws
  names-seven set_up =
      let named : Acknowledges c (Ok 7) c = (set_up, inr (none, refl, refl)) in
      (named, λ r d other. chip-laws.one_answer c d c r (Ok 7) other named)

  takes_none : (o : Option ℕ) (d : I8259a) → TakesLevel c o d → (o ≡ None) × (d ≡ c)
  takes_none None d took = (refl, took.1)
  takes_none (Some n) d took = absurd (none n took.0.urgent)

  pub believes-none : Answers (TakesLevel c) None c
  believes-none = ((none, refl), takes_none)
