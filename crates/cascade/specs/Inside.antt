-- What becomes of both parts where the outer is told of k.
use Rattle.std.specs.Prelude.{◌≡◌, ℕ, Ok, Err, Result}
use Rattle.controller.specs.declared.telling.Controller.{Ghosts}
use Rattle.controller.specs.declared.refusal.Refusal.{Refusal}
use Rattle.controller.specs.declared.answer.Answer.{Answer}
use Rattle.controller.specs.Meaning.{Meaning}
use Rattle.controller.specs.Telling.{meaning}
use Rattle.cascade.specs.Tie.{Tells}

-- Two sound parts become sound ones, and what they tell before and after stands in the relation Q.
abbrev pub KeepsBoth : {S T : Type 0} → Ghosts S → Ghosts T → (Meaning → Meaning → Meaning → Meaning → Type 0) → S → T → S → T → Type 0
KeepsBoth O I Q o i o' i' = O.sound o → I.sound i → O.sound o' × I.sound i' × Q (meaning O o) (meaning I i) (meaning O o') (meaning I i')

-- After a call of the inner that answered r: if it was carried out, the outer is told of k; if refused, it is as it was.
abbrev pub Informs : {S T : Type 0} → Ghosts S → Ghosts T → ℕ → Result Answer Refusal → S → T → S → Type 0
Informs O I k (Ok x) o i o' = KeepsBoth O I (λ a b a' _. Tells a k b a') o i o' i
Informs O I k (Err e) o i o' = o' ≡ o

-- The inner goes from b to b' by R, and the outer is told of k.
pub record Inside (k : ℕ) (R : Meaning → Meaning → Type 0) (a b a' b' : Meaning) : Type 0 where
  pub goes : R b b'
  pub tells : Tells a k b' a'

-- A call of the inner on its line m, by its rule: carried out, the outer is told of k; refused, the outer is as it was.
abbrev pub Passes : ℕ → (Meaning → ℕ → Result Answer Refusal → Meaning → Type 0) → ℕ → Result Answer Refusal → Meaning → Meaning → Meaning → Meaning → Type 0
Passes k Rule m (Ok x) a b a' b' = Inside k (λ y y'. Rule y m (Ok x) y') a b a' b'
Passes k Rule m (Err e) a b a' b' = Rule b m (Err e) b' × (a' ≡ a)
