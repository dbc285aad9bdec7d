-- The cases of a dispatcher over an 8259A.
use Rattle.std.proofs.Common.{◌≡◌, ℕ, ◌<◌, true, eqb, List, [], None, refl, ap, subst, ⊎_elim, rules}
use Rattle.std.proofs.lemmas.Bool.{ltb-true, eqb-true, cases_Bool}
use Rattle.controller.specs.Meaning.{Meaning, Lawful, NoneReady}
use Rattle.controller.specs.Rules.Asks.{so, otherwise}
use Rattle.service.specs.Nests.{most_depth}
use Rattle.service.specs.Calls.{Call, Reply}
use Rattle.service.specs.Calls.Call.{Take}
use Rattle.service.specs.Calls.Reply.{Spurious}
use Rattle.service.specs.Steps.{Snapshot, Step, depth}
use Rattle.service.specs.Runs.{Run, Fresh}
use Rattle.service.specs.Law.{Alike, Serves}
use Rattle.service.proofs.Service.{service-law}
use Rattle.i8259a_controller.specs.Told.{eight, made, fresh}
use Rattle.i8259a_controller.specs.Lawful.{lawful}
use Rattle.i8259a_controller.proofs.Fresh.{told_fresh}
use Rattle.worked_cases.specs.Exactly.{Only}
use Rattle.worked_cases.specs.Scripts.{Script, Plays, just_made, calls, replies, eight_deep_script, seven_alone_script, seven_and_a_fall_script}
use Rattle.worked_cases.proofs.Performed.{played}

-- What is made tells by the laws, so the law of service holds of its dispatcher.
lawful-made : Lawful fresh
lawful-made = subst Lawful (told_fresh made refl) (lawful made search rules)

fresh-made : Fresh just_made
fresh-made = record { lawful = lawful-made; quiet = record { waits = λ n h. refl; serves = refl }; empty = refl }

law : Serves just_made
law = service-law just_made fresh-made

alike-itself : (m : Meaning) → Alike m m
alike-itself m = record { lines = λ n. refl; classes = λ n h. refl; ranks = λ a b h i. ((λ lt. lt), (λ lt. lt)); falls = λ n h. refl; opens = λ n h. refl }

-- One run tells what every run brings back.
exactly : (script : Script) → (s : Snapshot) × Run just_made (calls script) (replies script) s → Plays just_made script
exactly script run = (run, λ rs other. law.same just_made other.0 run.0 (calls script) rs (replies script) fresh-made (alike-itself fresh) other.1 run.1)

within : (n : ℕ) → eight.line n ≡ true → n < eight.width
within n e = ltb-true n 8 e

pub eight_deep : Plays just_made eight_deep_script
eight_deep = exactly eight_deep_script (played eight within (calls eight_deep_script) fresh.state [])

pub seven_alone : Plays just_made seven_alone_script
seven_alone = exactly seven_alone_script (played eight within (calls seven_alone_script) fresh.state [])

pub seven_and_a_fall : Plays just_made seven_and_a_fall_script
seven_and_a_fall = exactly seven_and_a_fall_script (played eight within (calls seven_and_a_fall_script) fresh.state [])

-- A take with none ready can be made, and by the law of service is SPURIOUS, whatever is in service.
none-taken : (s : Snapshot) → NoneReady s.meaning → Step s Take (Spurious (depth s)) s
none-taken s none = ⊎_elim
    (λ e. so e (ap Spurious (eqb-true (depth s) most_depth e), refl))
    (λ e. otherwise e (None, (none, refl), (refl, refl)))
    (cases_Bool (eqb (depth s) most_depth))

pub spurious : (s : Snapshot) (cs : List Call) (rs : List Reply) → Run just_made cs rs s → NoneReady s.meaning → Only (λ r. (s' : Snapshot) × Step s Take r s') (Spurious (depth s))
spurious s cs rs run none = ((s, none-taken s none), λ r other. ⊎_elim (λ h. h.1) (λ h. absurd (none h.0 h.1.ready)) (law.chooses s other.0 cs rs r run other.1))
