-- What comes back and nothing else.
use Rattle.std.specs.Prelude.{◌≡◌, ℕ, Err, Result}
use Rattle.controller.specs.declared.refusal.Refusal.{Refusal}
use Rattle.controller.specs.Refusals.{number}

-- P holds of x, and of nothing else.
abbrev pub Only : {A : Type 0} → (A → Type 0) → A → Type 0
Only {A} P x = P x × ((y : A) → P y → y ≡ x)

-- A call that does as R says answers x and leaves s, and can do nothing else.
abbrev pub Answers : {A S : Type 0} → (A → S → Type 0) → A → S → Type 0
Answers {A} {S} R x s = R x s × ((y : A) (t : S) → R y t → (y ≡ x) × (t ≡ s))

-- A question that does as R says is refused with number k, and can bring back nothing else.
abbrev pub RefusedWith : {A : Type 0} → ℕ → (Result A Refusal → Type 0) → Type 0
RefusedWith k R = (e : Refusal) × (number e ≡ k) × Only R (Err e)
