-- Calls on a dispatcher, each with what it brings back.
use Rattle.std.specs.Prelude.{List, [], ◌∷◌}
use Rattle.controller.specs.declared.answer.Answer.TheVariants.{Accepted, Withdrawn, Done}
use Rattle.service.specs.Calls.{Call, Reply}
use Rattle.service.specs.Calls.Call.{Rise, Fall, Open, Take}
use Rattle.service.specs.Calls.Reply.{Answered, Start, Spurious}
use Rattle.service.specs.Steps.{Snapshot}
use Rattle.service.specs.Runs.{Run}
use Rattle.i8259a_controller.specs.Told.{fresh}
use Rattle.worked_cases.specs.Exactly.{Only}

abbrev pub Script : Type 0
Script = List (Call × Reply)

abbrev pub calls : Script → List Call
calls [] = []
calls (x ∷ xs) = x.0 ∷ calls xs

abbrev pub replies : Script → List Reply
replies [] = []
replies (x ∷ xs) = x.1 ∷ replies xs

-- The calls of the script, made on s one after the other, bring back its replies and no others.
abbrev pub Plays : Snapshot → Script → Type 0
Plays s script = Only (λ rs. (s' : Snapshot) × Run s (calls script) rs s') (replies script)

-- A dispatcher just made over an 8259A controller just made.
abbrev pub just_made : Snapshot
just_made = record { meaning = fresh; nest = [] }

-- All levels are opened; then each rises and is taken, from 7 down to 0; a ninth take finds the nest full.
abbrev pub eight_deep_script : Script
eight_deep_script =
    (Open 0, Answered Done) ∷ (Open 1, Answered Done) ∷ (Open 2, Answered Done) ∷ (Open 3, Answered Done)
    ∷ (Open 4, Answered Done) ∷ (Open 5, Answered Done) ∷ (Open 6, Answered Done) ∷ (Open 7, Answered Done)
    ∷ (Rise 7, Answered Accepted) ∷ (Take, Start 7 1)
    ∷ (Rise 6, Answered Accepted) ∷ (Take, Start 6 2)
    ∷ (Rise 5, Answered Accepted) ∷ (Take, Start 5 3)
    ∷ (Rise 4, Answered Accepted) ∷ (Take, Start 4 4)
    ∷ (Rise 3, Answered Accepted) ∷ (Take, Start 3 5)
    ∷ (Rise 2, Answered Accepted) ∷ (Take, Start 2 6)
    ∷ (Rise 1, Answered Accepted) ∷ (Take, Start 1 7)
    ∷ (Rise 0, Answered Accepted) ∷ (Take, Start 0 8)
    ∷ (Take, Spurious 8) ∷ []

-- Line 7 is in service, and nothing else asks.
abbrev pub seven_alone_script : Script
seven_alone_script =
    (Open 7, Answered Done) ∷ (Rise 7, Answered Accepted) ∷ (Take, Start 7 1)
    ∷ (Take, Spurious 1) ∷ []

-- Line 7 is in service; line 3 rises, and falls before the take.
abbrev pub seven_and_a_fall_script : Script
seven_and_a_fall_script =
    (Open 3, Answered Done) ∷ (Open 7, Answered Done) ∷ (Rise 7, Answered Accepted) ∷ (Take, Start 7 1)
    ∷ (Rise 3, Answered Accepted) ∷ (Fall 3, Answered Withdrawn)
    ∷ (Take, Spurious 1) ∷ []
