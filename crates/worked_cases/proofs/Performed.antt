-- The calls of a dispatcher, performed: the reply and what is left are computed, and are what the rules say.
use Rattle.std.proofs.Common.{◌≡◌, ℕ, ◌+◌, ◌<◌, true, false, cond, ◌&&◌, eqb, List, [], ◌∷◌, length, Some, None, Ok, Err, Option, refl}
use Rattle.std.proofs.lemmas.Bool.{cond_both, and_parts}
use Rattle.controller.specs.declared.refusal.Refusal.{Refusal}
use Rattle.controller.specs.declared.refusal.Refusal.TheVariants.{NotALine, InService, NotNewest, NotHeld, NotParked}
use Rattle.controller.specs.declared.answer.Answer.TheVariants.{Accepted, Withdrawn, Noted, Done}
use Rattle.controller.specs.Meaning.{Fixed, State, in_service}
use Rattle.controller.specs.Rules.{so, otherwise, idle, risen, fallen, opening, taken, finished, is_newest}
use Rattle.service.specs.declared.entry.Entry.{Entry}
use Rattle.service.specs.declared.entry.Mark.TheVariants.{Held}
use Rattle.service.specs.Nests.{most_depth, entry, held, newest_is, newest_parked, parked, removed}
use Rattle.service.specs.Calls.{Call, Reply}
use Rattle.service.specs.Calls.Call.{Rise, Fall, Open, Shut, Park, Close, Finish, Take}
use Rattle.service.specs.Calls.Reply.{Answered, Start, Spurious, End, Refused}
use Rattle.service.specs.Steps.{Snapshot, Step}
use Rattle.service.specs.Runs.{Run}
use Rattle.service.specs.Runs.Run.{rest, then}
use Rattle.worked_cases.proofs.Firsts.{FirstOf, first_below, first_below-found}

-- What a call brings back, and the state and the nest that it leaves.
pub record Outcome : Type 0 where
  pub reply : Reply
  pub state : State
  pub nest : List Entry

-- Over a controller with this fixed part, whose lines lie below its width.
module _ (f : Fixed) (within : (n : ℕ) → f.line n ≡ true → n < f.width) where
  -- The dispatcher's state as one value.
  abbrev pub at : State → List Entry → Snapshot
  at s es = record { meaning = record { fixed = f; state = s }; nest = es }

  module _ (s : State) (es : List Entry) where
    -- The call is carried out or refused; a take finds a line or none.
    abbrev pub carried : Reply → State → List Entry → Option Outcome
    carried r t fs = Some (record { reply = r; state = t; nest = fs })

    abbrev pub refused : Refusal → Option Outcome
    refused e = carried (Refused e) s es

    abbrev pub started : Option ℕ → Option Outcome
    started None = carried (Spurious (length es)) s es
    started (Some n) = carried (Start n (length es + 1)) (taken s n) (entry n Held ∷ es)

    -- A close or a finish of the newest line; nothing where the nest has it on top and the stack has not.
    abbrev pub ended : ℕ → Option Outcome
    ended n = cond (f.line n && is_newest s n) (carried (End n (length es) (cond (s.high n) Accepted Noted)) (finished s n) (removed es)) None

    -- What each call comes to: its questions in their order, then what it does.
    abbrev pub perform : Call → Option Outcome
    perform (Rise n) = cond (f.line n) (carried (Answered (cond (idle s n) Accepted Noted)) (risen s n) es) (refused NotALine)
    perform (Fall n) = cond (f.line n) (carried (Answered (cond (s.waiting n && f.fleeting n) Withdrawn Noted)) (fallen f s n) es) (refused NotALine)
    perform (Open n) = cond (f.line n) (carried (Answered Done) (opening s n true) es) (refused NotALine)
    perform (Shut n) = cond (f.line n) (cond (in_service s n) (refused InService) (carried (Answered Done) (opening s n false) es)) (refused NotALine)
    perform (Park n) = cond (held n es) (carried (Answered Done) s (parked n es)) (refused NotHeld)
    perform (Close n) = cond (held n es) (cond (newest_is n es) (ended n) (refused NotNewest)) (refused NotHeld)
    perform (Finish n) = cond (f.line n) (cond (newest_is n es) (cond (newest_parked es) (ended n) (refused NotParked)) (refused NotNewest)) (refused NotALine)
    perform Take = cond (eqb (length es) most_depth) (carried (Spurious most_depth) s es) (started (first_below f s f.width))

    -- The outcome, if there is one, is what the call does by the rules.
    abbrev pub Does : Call → Option Outcome → Type 0
    Does c None = Unit {0}
    Does c (Some o) = Step (at s es) c o.reply (at o.state o.nest)

    does-take : eqb (length es) most_depth ≡ false → (o : Option ℕ) → FirstOf f s f.width o → Does Take (started o)
    does-take e None none = otherwise e (None, ((λ j r. none j (within j r.line) r), refl), (refl, refl))
    does-take e (Some n) first = otherwise e (Some n, (record { ready = first.0; first = λ j r. first.1 j (within j r.line) r }, refl), (refl, refl))

    performs : (c : Call) → Does c (perform c)
    performs (Rise n) = cond_both (f.line n) _ _ (Does (Rise n)) (λ e. (Ok _, so e (refl, refl), refl, refl)) (λ e. (Err _, otherwise e (refl, refl), refl, refl))
    performs (Fall n) = cond_both (f.line n) _ _ (Does (Fall n)) (λ e. (Ok _, so e (refl, refl), refl, refl)) (λ e. (Err _, otherwise e (refl, refl), refl, refl))
    performs (Open n) = cond_both (f.line n) _ _ (Does (Open n)) (λ e. (Ok _, so e (refl, refl), refl, refl)) (λ e. (Err _, otherwise e (refl, refl), refl, refl))
    performs (Shut n) = cond_both (f.line n) _ _ (Does (Shut n))
        (λ e. cond_both (in_service s n) _ _ (Does (Shut n)) (λ h. (Err _, so e (so h (refl, refl)), refl, refl)) (λ h. (Ok _, so e (otherwise h (refl, refl)), refl, refl)))
        (λ e. (Err _, otherwise e (refl, refl), refl, refl))
    performs (Park n) = cond_both (held n es) _ _ (Does (Park n)) (λ e. so e (refl, refl)) (λ e. otherwise e (refl, refl))
    performs (Close n) = cond_both (held n es) _ _ (Does (Close n))
        (λ e. cond_both (newest_is n es) _ _ (Does (Close n))
        (λ h. cond_both (f.line n && is_newest s n) _ _ (Does (Close n)) (λ b. let x = and_parts _ _ b in so e (so h (_, so x.0 (so x.1 (refl, refl)), refl, refl))) (λ _. tt))
        (λ h. so e (otherwise h (refl, refl))))
        (λ e. otherwise e (refl, refl))
    performs (Finish n) = cond_both (f.line n) _ _ (Does (Finish n))
        (λ e. cond_both (newest_is n es) _ _ (Does (Finish n))
        (λ h. cond_both (newest_parked es) _ _ (Does (Finish n))
        (λ g. cond_both (f.line n && is_newest s n) _ _ (Does (Finish n)) (λ b. let x = and_parts _ _ b in so e (so h (so g (_, so x.0 (so x.1 (refl, refl)), refl, refl)))) (λ _. tt))
        (λ g. so e (so h (otherwise g (refl, refl)))))
        (λ h. so e (otherwise h (refl, refl))))
        (λ e. otherwise e (refl, refl))
    performs Take = cond_both (eqb (length es) most_depth) _ _ (Does Take) (λ e. so e (refl, refl)) (λ e. does-take e (first_below f s f.width) (first_below-found f s f.width))

  abbrev pub joined : Reply → Option (List Reply) → Option (List Reply)
  joined r None = None
  joined r (Some rs) = Some (r ∷ rs)

  abbrev pub after : Option Outcome → (State → List Entry → Option (List Reply)) → Option (List Reply)
  after None more = None
  after (Some o) more = joined o.reply (more o.state o.nest)

  -- The replies to a list of calls, each performed on what the one before it left.
  abbrev pub plays : List Call → State → List Entry → Option (List Reply)
  plays [] s es = Some []
  plays (c ∷ cs) s es = after (perform s es c) (plays cs)

  -- These are the replies of a run.
  abbrev pub Played : List Call → State → List Entry → Option (List Reply) → Type 0
  Played cs s es None = Unit {0}
  Played cs s es (Some rs) = (s' : Snapshot) × Run (at s es) cs rs s'

  then-more : (c : Call) (cs : List Call) (s : State) (es : List Entry) (o : Outcome) → Does s es c (Some o) → (q : Option (List Reply)) → Played cs o.state o.nest q → Played (c ∷ cs) s es (joined o.reply q)
  then-more c cs s es o d None p = tt
  then-more c cs s es o d (Some rs) p = (p.0, then d p.1)

  next : (c : Call) (cs : List Call) (s : State) (es : List Entry) (o : Option Outcome) → Does s es c o → ((t : State) (fs : List Entry) → Played cs t fs (plays cs t fs)) → Played (c ∷ cs) s es (after o (plays cs))
  next c cs s es None d p = tt
  next c cs s es (Some o) d p = then-more c cs s es o d (plays cs o.state o.nest) (p o.state o.nest)

  pub played : (cs : List Call) (s : State) (es : List Entry) → Played cs s es (plays cs s es)
  played [] s es = (at s es, rest)
  played (c ∷ cs) s es = next c cs s es (perform s es c) (performs s es c) (played cs)
