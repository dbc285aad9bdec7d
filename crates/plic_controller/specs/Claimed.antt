-- The lines in service are the claimed ones, and they climb.
use Rattle.std.specs.Prelude.{◌≡◌, ℕ, ◌-◌, ◌<◌, ◌≤◌, true, ◌&&◌, List, [], ◌∷◌, ◌==◌}
use Rattle.std.proofs.Common.{sym, ap, ◌∙◌, ⊎_elim, arith}
use Rattle.std.proofs.lemmas.Bool.{eqb-true, cases_lt, false_from_ne_true, or_cases, false≢true, lt-ltb, le-ltb}
use Rattle.plic.specs.declared.gateway.Gateway.{Gateway}
use Rattle.plic.specs.Gateways.{is_claimed}
use Rattle.controller.specs.Meaning.{among, Beats, Climbs}
use Rattle.controller.proofs.Stacks.{beats-all, one-order}
use Rattle.plic_controller.specs.Told.{fixed_by, stack_of, level_of, newest_priority}
use Rattle.plic_controller.specs.Sound.{Fair, Single}
use Rattle.plic_controller.specs.Ordered.{among-by_class, climbs-by_class}

module _ (v : ℕ → Gateway) (fair : (n : ℕ) → Fair n (v n)) (single : Single v) where
  pub claimed-line : (n : ℕ) → is_claimed (v n).request ≡ true → 0 < (v n).priority
  claimed-line n sure =
      ⊎_elim (λ lt. lt)
      (λ le. let idle = ((fair n).off (omega arith)).0 in absurd (false≢true (sym (ap is_claimed idle) ∙ sure)))
      (cases_lt 0 (v n).priority)

  pub members : (n : ℕ) → among n (stack_of v) ≡ is_claimed (v n).request
  members n =
      among-by_class (λ n. 7 - (v n).priority) (λ n. is_claimed (v n).request) 64 n
      ∙ ⊎_elim
      (λ lt. ap (λ b. b && is_claimed (v n).request) (lt-ltb n 64 lt))
      (λ ge. ap (λ b. b && is_claimed (v n).request) (le-ltb n 64 ge)
      ∙ sym (false_from_ne_true _ (λ sure. let w = (fair n).within (claimed-line n sure) in omega arith)))
      (cases_lt n 64)

  pub climbs : Climbs (fixed_by (λ n. (v n).priority)) (stack_of v)
  climbs =
      climbs-by_class (fixed_by (λ n. (v n).priority)) (λ n. is_claimed (v n).request) 64
      (λ a b sure sure' same.
      single a b sure sure' (omega (arith, (fair a).small, (fair b).small)))

  -- No claimed line is above the newest.
  pub under : (n : ℕ) → is_claimed (v n).request ≡ true → (v n).priority ≤ newest_priority v
  under n sure = at (stack_of v) climbs (members n ∙ sure)
    where
      at : (xs : List ℕ) → Climbs (fixed_by (λ n. (v n).priority)) xs → among n xs ≡ true → (v n).priority ≤ level_of (λ n. (v n).priority) xs
      at [] up there = absurd (false≢true there)
      at (x ∷ xs) up there =
          ⊎_elim
          (λ e. let same = ap (λ k. (v k).priority) (eqb-true n x e) in omega arith)
          (λ later. let lt : 7 - (v x).priority < 7 - (v n).priority = beats-all (fixed_by (λ n. (v n).priority)) xs x n up.1 up.0 later in omega arith)
          (or_cases (n == x) (among n xs) there)

  -- A list that climbs and has the claimed lines is the stack.
  pub is-stack : (xs : List ℕ) → Climbs (fixed_by (λ n. (v n).priority)) xs → ((n : ℕ) → among n xs ≡ is_claimed (v n).request) → stack_of v ≡ xs
  is-stack xs up same = one-order (fixed_by (λ n. (v n).priority)) (stack_of v) xs climbs up (λ n. members n ∙ sym (same n))

-- To beat the newest line is to be above its priority.
pub above-level : (p : ℕ → ℕ) (n : ℕ) (xs : List ℕ) → p n < 8 → 0 < p n → Beats (fixed_by p) n xs → level_of p xs < p n
above-level p n [] small pos b = pos
above-level p n (x ∷ xs) small pos b = let lt : 7 - p n < 7 - p x = b in omega arith

pub beats-level : (p : ℕ → ℕ) (n : ℕ) (xs : List ℕ) → p n < 8 → level_of p xs < p n → Beats (fixed_by p) n xs
beats-level p n [] small lt = tt
beats-level p n (x ∷ xs) small lt = let h : p x < p n = lt in let goal : 7 - p n < 7 - p x = omega arith in goal
