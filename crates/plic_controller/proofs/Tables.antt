-- The table of gateways as a function of the number, and what a change of one gateway leaves.
use Rattle.std.proofs.Common.{◌≡◌, ℕ, ◌<◌, Bool, true, false, cond, eqb, length, sym, refl, ap, ◌∙◌, subst, ⊎_elim, arith}
use mathlib.Core.Path.{fun_ext}
use Rattle.std.proofs.lemmas.List.{get_or-set_same, get_or-set_other, get_or_past}
use Rattle.std.proofs.lemmas.Bool.{eq-eqb, ne_eqb, eqb-true, cases_eq, cases_lt, cond-true, cond-false, cond_both, lt-ltb, le-ltb}
use Rattle.plic.specs.declared.chip.Plic.{Plic}
use Rattle.plic.specs.declared.gateway.Gateway.{Gateway}
use Rattle.plic.specs.Gateways.{blank}
use Rattle.plic.specs.Chip.{gate, gateway_of, with_gate}
use Rattle.controller.specs.Rules.{marked}

-- the element n exchanged
abbrev pub put : (ℕ → Gateway) → ℕ → Gateway → ℕ → Gateway
put v n g j = cond (eqb j n) g (v j)

pub gate-with : (p : Plic 64) (n : ℕ) (g : Gateway) → n < length p.gateways → gate 64 (with_gate 64 p n g) ≡ put (gate 64 p) n g
gate-with p n g lt = fun_ext (λ j.
    ⊎_elim
    (λ e. ap (λ k. gate 64 (with_gate 64 p n g) k) e ∙ get_or-set_same p.gateways n g blank lt ∙ sym (cond-true _ _ _ (eq-eqb j n e)))
    (λ ne. get_or-set_other p.gateways n j g blank ne ∙ sym (cond-false _ _ _ (ne_eqb j n ne)))
    (cases_eq j n))

pub gate-shown : (p : Plic 64) (n : ℕ) → length p.gateways ≡ 64 → gateway_of 64 p n ≡ gate 64 p n
gate-shown p n e =
    ⊎_elim
    (λ lt. cond-true _ _ _ (lt-ltb n 64 lt))
    (λ ge. cond-false _ _ _ (le-ltb n 64 ge) ∙ sym (get_or_past p.gateways n blank (omega arith)))
    (cases_lt n 64)

module _ (v : ℕ → Gateway) (n : ℕ) (g : Gateway) where
  pub put-here : put v n g n ≡ g
  put-here = cond-true _ _ _ (eq-eqb n n refl)

  -- what holds of each element
  pub put-each : (P : ℕ → Gateway → Type 0) → P n g → ((j : ℕ) → P j (v j)) → (j : ℕ) → P j (put v n g j)
  put-each P here all j =
      cond_both (eqb j n) g (v j) (P j) (λ e. subst (λ k. P k g) (sym (eqb-true j n e)) here) (λ _. all j)

  -- what the change leaves as it was
  pub put_keeps : {X : Type 0} (F : Gateway → X) → F g ≡ F (v n) → ◌≡◌ {A = ℕ → X} (λ j. F (put v n g j)) (λ j. F (v j))
  put_keeps F e = fun_ext (λ j.
      cond_both (eqb j n) g (v j) (λ x. F x ≡ F (v j)) (λ t. e ∙ ap (λ k. F (v k)) (sym (eqb-true j n t))) (λ _. refl))

  -- what it marks
  pub put-marks : (F : Gateway → Bool) (b : Bool) → F g ≡ b → ◌≡◌ {A = ℕ → Bool} (λ j. F (put v n g j)) (marked (λ j. F (v j)) n b)
  put-marks F b e = fun_ext (λ j. at (eqb j n) (v j))
    where
      at : (t : Bool) (x : Gateway) → F (cond t g x) ≡ cond t b (F x)
      at true x = e
      at false x = refl
