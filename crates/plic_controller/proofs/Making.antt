-- The making: one priority after another is written.
use Rattle.std.proofs.Common.{◌≡◌, ℕ, ◌+◌, ◌%◌, ◌<◌, ◌≤◌, false, ltb, List, [], length, get_or, replicate, sym, refl, ap, ◌∙◌, subst, ⊎_elim, arith, below_more}
use mathlib.Core.Path.{fun_ext}
use Rattle.std.proofs.lemmas.List.{length-set, get_or-set_same, get_or-set_other, get_or_past, get_or-replicate, length-replicate}
use Rattle.std.proofs.lemmas.Bool.{cases_lt, cond-true, cond_both, lt-ltb, ltb-true, false≢true}
use Rattle.plic.specs.declared.chip.Plic.{Plic}
use Rattle.plic.specs.declared.gateway.Gateway.{Gateway}
use Rattle.plic.specs.Gateways.{blank, with_priority}
use Rattle.plic.specs.Chip.{gate, with_gate, fresh}
use Rattle.plic_controller.specs.Told.{fixed_by, stack_of, state_of, meant, level_of, newest_priority}
use Rattle.plic_controller.specs.Sound.{Fair, Single, Sound}
use Rattle.plic_controller.specs.Made.{kept_of, at_rest, Made}
use Rattle.plic_controller.specs.Steps.{SetsPriority}
use Rattle.plic_controller.specs.Claimed.{is-stack}

abbrev pub made : List ℕ → ℕ → Gateway
made ps n = with_priority blank (kept_of ps n)

-- The gateways below n are made, the others blank.
pub record Partly (ps : List ℕ) (n : ℕ) (p : Plic 64) : Type 0 where
  pub table : length p.gateways ≡ 64
  pub threshold : p.threshold ≡ 0
  pub done : (k : ℕ) → k < n → gate 64 p k ≡ made ps k
  pub rest : (k : ℕ) → n ≤ k → gate 64 p k ≡ blank

kept_small : (ps : List ℕ) (n : ℕ) → kept_of ps n < 8
kept_small ps n = cond_both (ltb 0 n) (get_or ps n 0 % 8) 0 (λ x. x < 8) (λ _. omega arith) (λ _. omega arith)

kept-within : (ps : List ℕ) (n : ℕ) → length ps ≡ 64 → 0 < kept_of ps n → (0 < n) × (n < 64)
kept-within ps n l =
    cond_both (ltb 0 n) (get_or ps n 0 % 8) 0 (λ x. 0 < x → (0 < n) × (n < 64))
    (λ pos some. (
      ltb-true 0 n pos,
      ⊎_elim (λ lt. lt) (λ ge. let z = get_or_past ps n 0 (omega arith) in absurd (omega arith)) (cases_lt n 64),
    ))
    (λ _ none. absurd (omega arith))

fair-made : (ps : List ℕ) → length ps ≡ 64 → (n : ℕ) → Fair n (made ps n)
fair-made ps l n = record {
  within = kept-within ps n l;
  small = kept_small ps n;
  off = λ _. (refl, refl);
  held = λ bad. absurd (false≢true bad);
  asks = λ bad. absurd (false≢true bad);
}

single-made : (ps : List ℕ) → Single (made ps)
single-made ps a b bad = absurd (false≢true bad)

empty : (ps : List ℕ) → length ps ≡ 64 → stack_of (made ps) ≡ []
empty ps l = is-stack (made ps) (fair-made ps l) (single-made ps) [] tt (λ n. refl)

pub all_made : (ps : List ℕ) (p : Plic 64) → length ps ≡ 64 → Partly ps 64 p → gate 64 p ≡ made ps
all_made ps p l m = fun_ext (λ k.
    ⊎_elim (λ lt. m.done k lt)
    (λ ge. m.rest k ge ∙ sym (ap (λ x. with_priority blank x) (none k ge)))
    (cases_lt k 64))
  where
    none : (k : ℕ) → 64 ≤ k → kept_of ps k ≡ 0
    none k ge = cond-true _ _ _ (lt-ltb 0 k (omega arith)) ∙ (let z = get_or_past ps k 0 (omega arith) in omega arith)

pub made-sound : (ps : List ℕ) (p : Plic 64) → length ps ≡ 64 → Partly ps 64 p → Sound p
made-sound ps p l m =
    let e = sym (all_made ps p l m) in
    record {
      settled = record {
        table = m.table;
        fair = subst (λ v. (n : ℕ) → Fair n (v n)) e (fair-made ps l);
        single = subst Single e (single-made ps);
      };
      level = m.threshold ∙ subst (λ v. 0 ≡ newest_priority v) e (ap (level_of (kept_of ps)) (sym (empty ps l)));
    }

pub made-fixed : (ps : List ℕ) (p : Plic 64) → length ps ≡ 64 → Partly ps 64 p → (meant p).fixed ≡ fixed_by (kept_of ps)
made-fixed ps p l m = ap (λ (v : ℕ → Gateway). fixed_by (λ n. (v n).priority)) (all_made ps p l m)

pub made-state : (ps : List ℕ) (p : Plic 64) → length ps ≡ 64 → Partly ps 64 p → (meant p).state ≡ at_rest
made-state ps p l m =
    ap state_of (all_made ps p l m)
    ∙ (λ i. record { opened = λ _. false; high = λ _. false; waiting = λ _. false; stack = empty ps l i })

pub made-chip : (ps : List ℕ) (p : Plic 64) → length ps ≡ 64 → Partly ps 64 p → Made ps p
made-chip ps p l m = record { gateways = λ n. ap (λ (v : ℕ → Gateway). v n) (all_made ps p l m); threshold = m.threshold }

-- One more priority is written. docs/DESIGN-PASS.md names this; no proof needs it.
pub one_more : (ps : List ℕ) (p q : Plic 64) (n : ℕ) → 0 < n → n < 64 → Partly ps n p → SetsPriority p n (get_or ps n 0) q → Partly ps (n + 1) q
one_more ps p q n pos lt part wr = subst (Partly ps (n + 1)) (sym (wr.0 (omega arith, lt))) here
  where
    here : Partly ps (n + 1) (with_gate 64 p n (with_priority (gate 64 p n) (get_or ps n 0 % 8)))
    here = record {
      table = length-set p.gateways n _ ∙ part.table;
      threshold = part.threshold;
      done = below_more (λ k. gate 64 (with_gate 64 p n (with_priority (gate 64 p n) (get_or ps n 0 % 8))) k ≡ made ps k) n
          (λ k less. get_or-set_other p.gateways n k _ blank (λ e. omega arith) ∙ part.done k less)
          (get_or-set_same p.gateways n _ blank (omega (arith, part.table))
          ∙ ap (λ (g : Gateway). with_priority g (get_or ps n 0 % 8)) (part.rest n (omega arith))
          ∙ sym (ap (λ x. with_priority blank x) (cond-true _ _ _ (lt-ltb 0 n pos))));
      rest = λ k past. get_or-set_other p.gateways n k _ blank (λ e. omega arith) ∙ part.rest k (omega arith);
    }

-- Nothing is written yet.
pub nothing_yet : (ps : List ℕ) → Partly ps 0 (fresh 64)
nothing_yet ps = record {
  table = length-replicate 64 blank;
  threshold = refl;
  done = λ k lt. absurd (omega arith);
  rest = λ k _. all k;
}
  where
    all : (k : ℕ) → gate 64 (fresh 64) k ≡ blank
    all k = ⊎_elim (λ lt. get_or-replicate 64 k blank blank lt) (λ ge. get_or_past (replicate 64 blank) k blank ge) (cases_lt k 64)

-- So nothing is to be written of entry 0, which is ignored. docs/DESIGN-PASS.md names this; no proof needs it.
pub none_yet : (ps : List ℕ) → Partly ps 1 (fresh 64)
none_yet ps =
    let part = nothing_yet ps in
    record {
      table = part.table;
      threshold = part.threshold;
      done = λ k lt. part.rest k (omega arith) ∙ sym (ap (made ps) (let z : k ≡ 0 = omega arith in z));
      rest = λ k le. part.rest k (omega arith);
    }
