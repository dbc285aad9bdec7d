-- A dispatcher's state as one value, its sound states, and what each of its calls does.
use Rattle.std.specs.Prelude.{◌≡◌, ℕ, true, List}
use Rattle.controller.specs.declared.telling.Controller.{Ghosts}
use Rattle.controller.specs.Telling.{meaning}
use Rattle.service.specs.Calls.{Call, Reply}
use Rattle.service.specs.Nests.{held}
use Rattle.service.specs.Steps.{Snapshot, Step}
use Rattle.dispatch.specs.declared.claim.Claim.{Claim}
use Rattle.dispatch.specs.Claims.{StayHeld, OthersStayHeld}
use Rattle.dispatch.specs.declared.dispatcher.Dispatcher.{Dispatcher}
use Rattle.dispatch.specs.Tables.{entries_of, atop}

module _ {S : Type 0} (G : Ghosts S) where
  abbrev pub snapshot : Dispatcher S → Snapshot
  snapshot d = record { meaning = meaning G d.controller; nest = entries_of d.nest }

  -- The controller is sound, and the lines of the nest are the top of its stack; below them may stand what was in service
  -- at the making.
  pub record Sound (d : Dispatcher S) : Type 0 where
    pub below : G.sound d.controller
    pub base : List ℕ
    pub top : G.stack d.controller ≡ atop (entries_of d.nest) base

  -- The claim can be spent here: its line is HELD.
  abbrev pub Holds : Dispatcher S → Claim → Type 0
  Holds d c = held c.line (snapshot d).nest ≡ true

  -- Every claim that could be spent still can.
  abbrev pub KeepsClaims : Dispatcher S → Dispatcher S → Type 0
  KeepsClaims d d' = StayHeld (snapshot d).nest (snapshot d').nest

  -- Every claim but this one.
  abbrev pub KeepsOtherClaims : Claim → Dispatcher S → Dispatcher S → Type 0
  KeepsOtherClaims c d d' = OthersStayHeld c.line (snapshot d).nest (snapshot d').nest

  -- The call leads from one sound state to another, and does as the rules say.
  abbrev pub Does : Call → Reply → Dispatcher S → Dispatcher S → Type 0
  Does c r d d' = Sound d → Sound d' × Step (snapshot d) c r (snapshot d')
