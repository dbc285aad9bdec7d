-- What a value of Cascade tells, by what its parts tell.
use Rattle.std.specs.Prelude.{◌≡◌, ℕ, Some, None, Option, Err, Result}
use Rattle.controller.specs.declared.refusal.Refusal.{Refusal}
use Rattle.controller.specs.declared.answer.Answer.{Answer}
use Rattle.controller.specs.declared.telling.Controller.{Ghosts}
use Rattle.controller.specs.Telling.{meaning}
use Rattle.controller.specs.Meaning.{Meaning}
use Rattle.cascade.specs.declared.pile.Cascade.{Cascade}
use Rattle.cascade.specs.Pile.{pile, void}
use Rattle.cascade.specs.Tie.{Tied}

-- The pile of parts that fit, or the one with no line.
abbrev pub hung : Meaning → Option ℕ → Meaning → Meaning
hung a None b = void
hung a (Some k) b = pile a k b

module _ {S T : Type 0} (O : Ghosts S) (I : Ghosts T) where
  abbrev pub meant : Cascade S T → Meaning
  meant p = hung (meaning O p.outer) p.k (meaning I p.inner)

  -- The parts are sound, and tied at k.
  pub record Joined (p : Cascade S T) (k : ℕ) : Type 0 where
    pub outer : O.sound p.outer
    pub inner : I.sound p.inner
    pub tied : Tied (meaning O p.outer) k (meaning I p.inner)

  -- Of parts that do not fit nothing is asked, since no call reaches them.
  abbrev pub Sound : Cascade S T → Type 0
  Sound p = (k : ℕ) → p.k ≡ Some k → Joined p k

  -- A refused call leaves both parts as they were.
  abbrev pub Unmoved : Result Answer Refusal → Cascade S T → Cascade S T → Type 0
  Unmoved r p p' = Sound p → (e : Refusal) → r ≡ Err e → (meaning O p'.outer ≡ meaning O p.outer) × (meaning I p'.inner ≡ meaning I p.inner)
