-- What the rules of the calls come to, over one call and over any run of calls.
use Rattle.std.specs.Prelude.{◌≡◌, ℕ, true, false, ◌⊎◌, ◌∷◌, Some, Option, Result}
use Rattle.controller.specs.declared.refusal.Refusal.{Refusal}
use Rattle.controller.specs.declared.answer.Answer.{Answer}
use Rattle.controller.specs.Meaning.{Meaning, Lawful}
use Rattle.controller.specs.Rules.{Rises, Falls, Opens, Shuts, Takes, Finishes}

-- Some call leads from m to m', carried out or refused.
pub data Called (m m' : Meaning) : Type 0 where
  rises : (n : ℕ) (r : Result Answer Refusal) → Rises m n r m' → Called m m'
  falls : (n : ℕ) (r : Result Answer Refusal) → Falls m n r m' → Called m m'
  opens : (n : ℕ) (r : Result Answer Refusal) → Opens m n r m' → Called m m'
  shuts : (n : ℕ) (r : Result Answer Refusal) → Shuts m n r m' → Called m m'
  takes : (r : Option ℕ) → Takes m r m' → Called m m'
  finishes : (n : ℕ) (r : Result Answer Refusal) → Finishes m n r m' → Called m m'

-- A run of calls of any length leads from m to m'.
pub data Ran (m : Meaning) : Meaning → Type 0 where
  none : Ran m m
  more : {m' m'' : Meaning} → Ran m m' → Called m' m'' → Ran m m''

-- What makes line n stop waiting: a take that answers it or, if it is fleeting, its fall; no other call.
abbrev pub Releases : {m m' : Meaning} → Called m m' → ℕ → Type 0
Releases (takes r _) n = r ≡ Some n
Releases {m} (falls k _ _) n = (k ≡ n) × (m.fixed.fleeting n ≡ true)
Releases (rises _ _ _) n = ⊥
Releases (opens _ _ _) n = ⊥
Releases (shuts _ _ _) n = ⊥
Releases (finishes _ _ _) n = ⊥

pub record Laws : Type 0 where
  -- What is fixed stays fixed, and the laws are kept, over every run.
  pub fixed : (m m' : Meaning) → Ran m m' → m'.fixed ≡ m.fixed
  pub lawful : (m m' : Meaning) → Lawful m → Ran m m' → Lawful m'
  -- A line leaves waiting only by a take that answers it or, if it is fleeting, by its fall.
  pub waits : (m m' : Meaning) (c : Called m m') (n : ℕ) → Lawful m → m.state.waiting n ≡ true → m'.state.waiting n ≡ false → Releases c n
  -- A stack changes only at its top.
  pub top_only : (m m' : Meaning) → Called m m'
      → (m'.state.stack ≡ m.state.stack)
      ⊎ (((n : ℕ) × (m'.state.stack ≡ n ∷ m.state.stack)) ⊎ ((n : ℕ) × (m.state.stack ≡ n ∷ m'.state.stack)))

-- Shut, so that a proof about a new controller does not wade through them.
unfoldable pub RuleLaws : Type 0
RuleLaws = Laws
