-- A chip just made tells that every line is shut, low and idle.
use Rattle.std.proofs.Common.{◌≡◌, ℕ, ◌≤◌, Bool, false, not, ◌&&◌, [], refl, ap, ◌∙◌, ⊎_elim}
use mathlib.Core.Path.{fun_ext}
use Rattle.std.proofs.lemmas.Bool.{cases_lt, le-ltb}
use Rattle.controller.proofs.Marks.{state-same}
use Rattle.i8259a.specs.declared.chip.I8259a.{I8259a}
use Rattle.i8259a.specs.Chip.{is_line}
use Rattle.i8259a.proofs.Sets.{each8}
use Rattle.i8259a_controller.specs.Told.{has, levels_from, meant, made, eight, fresh}

beyond : (n : ℕ) (b : Bool) → 8 ≤ n → (is_line n && b) ≡ false
beyond n b le = ap (λ x. x && b) (le-ltb n 8 le)

shut : (n : ℕ) → (meant made).state.opened n ≡ false
shut n = ⊎_elim (each8 (λ m. (meant made).state.opened m ≡ false) refl refl refl refl refl refl refl refl n) (beyond n _) (cases_lt n 8)

low : (n : ℕ) → has 0 n ≡ false
low n = ⊎_elim (each8 (λ m. has 0 m ≡ false) refl refl refl refl refl refl refl refl n) (beyond n _) (cases_lt n 8)

idle : (n : ℕ) → (meant made).state.waiting n ≡ false
idle n = ap (λ x. x && not (has 0 n)) (low n)

still : levels_from 8 0 0 ≡ []
unfolding levels_from
still = refl

pub told_fresh : (c : I8259a) → c ≡ made → meant c ≡ fresh
told_fresh c e = ap meant e ∙ ap (λ s. record { fixed = eight; state = s }) (state-same (fun_ext shut) (fun_ext low) (fun_ext idle) still)
