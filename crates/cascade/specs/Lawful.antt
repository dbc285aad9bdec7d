-- What a pile of sound parts tells is lawful.
use Rattle.std.specs.Prelude.{◌≡◌, ℕ, Some, None, Option}
use Rattle.std.proofs.Common.{sym, subst, refl}
use Rattle.controller.specs.declared.telling.Controller.{Ghosts}
use Rattle.controller.specs.Telling.{meaning}
use Rattle.controller.specs.Meaning.{Meaning, Lawful}
use Rattle.cascade.specs.declared.pile.Cascade.{Cascade}
use Rattle.cascade.specs.Pile.{pile, void}
use Rattle.cascade.specs.Told.{hung, meant, Sound}
use Rattle.cascade.specs.Laws.{pile-lawful, void-lawful}

module _ {S T : Type 0} (O : Ghosts S) (I : Ghosts T) (p : Cascade S T) where
  -- What is asked of parts that fit, and of parts that do not.
  pub asked : (Q : Meaning → Type 0) (k : ℕ) → p.k ≡ Some k → Q (pile (meaning O p.outer) k (meaning I p.inner)) → Q (meant O I p)
  asked Q k e h = subst (λ x. Q (hung (meaning O p.outer) x (meaning I p.inner))) (sym e) h

  pub asked-void : (Q : Meaning → Type 0) → p.k ≡ None → Q void → Q (meant O I p)
  asked-void Q e h = subst (λ x. Q (hung (meaning O p.outer) x (meaning I p.inner))) (sym e) h

module _ {S T : Type 0} (O : Ghosts S) (I : Ghosts T) (outer : (o : S) → O.sound o → Lawful (meaning O o)) (inner : (i : T) → I.sound i → Lawful (meaning I i)) where
  pub told-lawful : (p : Cascade S T) → Sound O I p → Lawful (meant O I p)
  told-lawful p sound = by_line p.k refl
    where
      by_line : (x : Option ℕ) → p.k ≡ x → Lawful (hung (meaning O p.outer) x (meaning I p.inner))
      by_line None e = void-lawful
      by_line (Some k) e = let q = sound k e in pile-lawful (meaning O p.outer) k (meaning I p.inner) (outer p.outer q.outer) (inner p.inner q.inner) q.tied.hanging
