-- The winner among the claimed lines is the newest line.
use Rattle.std.proofs.Common.{◌≡◌, ℕ, ◌-◌, ◌<◌, ◌≤◌, true, eqb, leb, List, [], ◌∷◌, length, Some, None, Option, sym, refl, ap, ◌∙◌, ⊎_elim, arith}
use Rattle.std.proofs.lemmas.Bool.{or_cases, eqb-true, cond-true, leb-true, false≢true}
use Rattle.std.proofs.lemmas.Option.{cond_some}
use Rattle.arbiter.specs.declared.key.Priority.{Priority}
use Rattle.arbiter.specs.Winning.{Holds, Winner}
use Rattle.arbiter.proofs.Winners.{holds-within}
use Rattle.plic.specs.declared.chip.Plic.{Plic}
use Rattle.plic.specs.declared.gateway.Gateway.{Gateway}
use Rattle.plic.specs.Gateways.{is_claimed}
use Rattle.plic.specs.Chip.{gate}
use Rattle.controller.specs.Meaning.{among, Climbs}
use Rattle.controller.specs.Rules.{newest}
use Rattle.controller.proofs.Stacks.{beats-all, among-head}
use Rattle.plic_controller.specs.Told.{fixed_by, stack_of}
use Rattle.plic_controller.specs.Sound.{Settled}
use Rattle.plic_controller.specs.Steps.{served_key, ServedKeys}
use Rattle.plic_controller.proofs.Tables.{gate-shown}
use Rattle.plic_controller.specs.Claimed.{claimed-line, members, climbs}

serves : (g : Gateway) (k : Priority) → served_key g ≡ Some k → (is_claimed g.request ≡ true) × (k.0 ≡ g.priority)
serves g k e = let s = cond_some _ _ _ e in (s.0, sym (ap (λ (x : Priority). x.0) s.1))

module _ (p : Plic 64) (ls : List (Option Priority)) (served : ServedKeys p ls) (settled : Settled p) where
  claimed-at : (n : ℕ) (k : Priority) → Holds ls n k → (is_claimed (gate 64 p n).request ≡ true) × (k.0 ≡ (gate 64 p n).priority)
  claimed-at n k h =
      let within : n < length ls = holds-within ls n k h in
      serves (gate 64 p n) k (ap served_key (sym (gate-shown p n settled.table)) ∙ sym (served.1 n (omega (arith, served.0))) ∙ h)

  holds_at : (n : ℕ) → is_claimed (gate 64 p n).request ≡ true → Holds ls n (record { 0 = (gate 64 p n).priority })
  holds_at n sure =
      let w = (settled.fair n).within (claimed-line (gate 64 p) settled.fair settled.single n sure) in
      served.1 n w.1 ∙ ap served_key (gate-shown p n settled.table) ∙ cond-true _ _ _ sure

  on-top : (i : ℕ) (xs : List ℕ) → Climbs (fixed_by (λ n. (gate 64 p n).priority)) xs → ((n : ℕ) → among n xs ≡ is_claimed (gate 64 p n).request) → is_claimed (gate 64 p i).request ≡ true → ((j : ℕ) → is_claimed (gate 64 p j).request ≡ true → (gate 64 p j).priority ≤ (gate 64 p i).priority) → Some i ≡ newest xs
  on-top i [] up same sure top = absurd (false≢true (same i ∙ sure))
  on-top i (x ∷ xs) up same sure top =
      ⊎_elim
      (λ e. ap Some (eqb-true i x e))
      (λ later.
      let lt : 7 - (gate 64 p x).priority < 7 - (gate 64 p i).priority = beats-all (fixed_by (λ n. (gate 64 p n).priority)) xs x i up.1 up.0 later in
      let le : (gate 64 p x).priority ≤ (gate 64 p i).priority = top x (sym (same x) ∙ among-head x xs) in
      absurd (omega arith))
      (or_cases (eqb i x) (among i xs) (same i ∙ sure))

  none-at : (xs : List ℕ) → ((n : ℕ) → among n xs ≡ is_claimed (gate 64 p n).request) → ((j : ℕ) → is_claimed (gate 64 p j).request ≡ true → ⊥) → None ≡ newest xs
  none-at [] same none = refl
  none-at (x ∷ xs) same none = absurd (none x (sym (same x) ∙ among-head x xs))

  pub newest-is : (r : Option ℕ) → Winner (λ a b. leb b.0 a.0) ls r → r ≡ newest (stack_of (gate 64 p))
  newest-is None w = none-at (stack_of (gate 64 p)) (members (gate 64 p) settled.fair settled.single) (λ j sure. w j _ (holds_at j sure))
  newest-is (Some i) w =
      let here = claimed-at i w.key w.held in
      on-top i (stack_of (gate 64 p)) (climbs (gate 64 p) settled.fair settled.single) (members (gate 64 p) settled.fair settled.single)
      here.0
      (λ j sure. let le = leb-true _ _ (w.leads j _ (holds_at j sure)) in omega (arith, here.1))
