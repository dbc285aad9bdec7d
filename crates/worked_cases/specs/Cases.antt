-- The worked cases, over the definitions that the contracts of the code cite.
use Rattle.std.specs.Prelude.{◌≡◌, ℕ, ◌^◌, true, false, List, [], ◌∷◌, Some, None, Ok}
use Rattle.controller.specs.declared.refusal.Refusal.{Refusal}
use Rattle.controller.specs.Refusals.{number}
use Rattle.controller.specs.Meaning.{Meaning, in_service, NoneReady}
use Rattle.service.specs.Calls.{Call, Reply}
use Rattle.service.specs.Calls.Call.{Take}
use Rattle.service.specs.Calls.Reply.{Spurious}
use Rattle.service.specs.Steps.{Snapshot, Step, depth}
use Rattle.service.specs.Runs.{Run}
use Rattle.i8259a.specs.declared.chip.I8259a.{I8259a}
use Rattle.i8259a.specs.Signal.{SetUp, InService, NoneUrgent, Acknowledges}
use Rattle.i8259a_controller.specs.Steps.{TakesLevel}
use Rattle.plic.specs.declared.chip.Plic.{Plic}
use Rattle.plic.specs.Gateways.{claimed}
use Rattle.plic.specs.Chip.{gate, with_gate, Requests, Signals}
use Rattle.plic.specs.Access.{Reads, Writes}
use Rattle.trace.specs.Reading.{Answer, answer, fault_of}
use Rattle.cascade.specs.Fit.{Checks}
use Rattle.worked_cases.specs.Exactly.{Only, Answers, RefusedWith}
use Rattle.worked_cases.specs.Scripts.{Plays, just_made, eight_deep_script, seven_alone_script, seven_and_a_fall_script}
use Rattle.worked_cases.specs.States.{Alone, FiveAndNine, ClaimedOff, Together}

-- The reader's answer is a fault of number k.
abbrev pub FaultOf : ℕ → Answer → Type 0
FaultOf k a = (e : Refusal) × (fault_of a ≡ Some e) × (number e ≡ k)

-- The offset at which a PLIC is read to claim, and written to complete.
abbrev pub claim_complete : ℕ
claim_complete = 0x200004

pub record WorkedCases : Type 0 where
  -- Levels taken from 7 down to 0 nest eight deep.
  pub eight_deep : Plays just_made eight_deep_script
  -- With line 7 in service, a take with none ready is SPURIOUS: after whatever calls; at once; and after another line's fall.
  pub seven_served : (s : Snapshot) (cs : List Call) (rs : List Reply) → Run just_made cs rs s → in_service s.meaning.state 7 ≡ true → NoneReady s.meaning
      → Only (λ r. (s' : Snapshot) × Step s Take r s') (Spurious (depth s))
  pub seven_alone : Plays just_made seven_alone_script
  pub seven_and_a_fall : Plays just_made seven_and_a_fall_script
  -- There the chip names level 7 all the same, and the take does not believe it.
  pub seven_named : (c : I8259a) → SetUp c → InService c 7 → NoneUrgent c → Answers (Acknowledges c) (Ok 7) c × Answers (TakesLevel c) None c
  -- Under threshold 3 a source of priority 3 is silent, and one of priority 4 signals.
  pub priority_three : (N n : ℕ) (p : Plic N) → Alone N p n → p.threshold ≡ 3 → (gate N p n).priority ≡ 3 → Only (Signals N p) false
  pub priority_four : (N n : ℕ) (p : Plic N) → Requests N p n → p.threshold ≡ 3 → (gate N p n).priority ≡ 4 → Only (Signals N p) true
  -- Of sources 5 and 9 at priority 4 a claim answers 5; under threshold 7 too, where the PLIC is silent.
  pub claims_five : (N : ℕ) (p : Plic N) → FiveAndNine N p → Answers (Reads N p claim_complete) (Ok 5) (with_gate N p 5 (claimed (gate N p 5)))
  pub claims_under_seven : (N : ℕ) (p : Plic N) → FiveAndNine N p → p.threshold ≡ 7
      → Only (Signals N p) false × Answers (Reads N p claim_complete) (Ok 5) (with_gate N p 5 (claimed (gate N p 5)))
  -- Completing a claimed source that is not enabled changes nothing, so that it stays CLAIMED.
  pub stays_claimed : (N n : ℕ) (p : Plic N) → ClaimedOff N p n → Answers (Writes N p claim_complete n) (Ok tt) p
  -- Map 0x40, whatever follows, is refused with 6; map 0x01 with nothing after it is refused with 7.
  pub map_unlawful : (bs : List ℕ) (place : ℕ) → FaultOf 6 (answer (0x40 ∷ bs) place)
  pub map_alone : (place : ℕ) → FaultOf 7 (answer (0x01 ∷ []) place)
  -- Width 256 with span 2^31 fits; width 264 is refused with 14.
  pub largest_fit : (a b : Meaning) (k : ℕ) → Together a k b 256 (2 ^ 31) → Only (Checks a k b) (Ok tt)
  pub too_wide : (a b : Meaning) (k span : ℕ) → Together a k b 264 span → RefusedWith 14 (Checks a k b)
