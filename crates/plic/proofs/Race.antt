-- The winner of the arbitration tree is the source that a claim answers.
use Rattle.std.proofs.Common.{◌≡◌, ℕ, ◌<◌, min, Bool, true, false, cond, ltb, leb, List, Some, None, Option, sym, refl, ap, ◌∙◌, arith}
use Rattle.std.proofs.lemmas.Bool.{cond-true, lt-ltb, ltb-true, leb-true, leb-false, and_parts, and_from}
use Rattle.std.proofs.lemmas.Option.{none-some, cond_some}
use Rattle.arbiter.specs.Winning.{Holds, Winner}
use Rattle.arbiter.proofs.Winners.{holds-within}
use Rattle.arbiter.specs.declared.key.Priority.{Priority}
use Rattle.plic.specs.declared.gateway.Gateway.{Gateway}
use Rattle.plic.specs.declared.chip.Plic.{Plic}
use Rattle.plic.specs.Gateways.{contender, requesting}
use Rattle.plic.specs.Chip.{Leaves, Claimable, Firsts, is_source, gate}

-- What a choice gives that does not give nothing.
chosen : {X : Type 0} (b : Bool) (o : Option X) (x : X) → cond b o None ≡ Some x → (b ≡ true) × (o ≡ Some x)
chosen true o x e = (refl, e)
chosen false o x e = absurd (none-some x e)

-- A contender is enabled and pending, of a priority above 0, and contends under its priority.
contends : (g : Gateway) (k : Priority) → contender g ≡ Some k → (requesting g ≡ true) × (0 < g.priority) × (k.0 ≡ g.priority)
contends g k e =
    let outer = chosen (requesting g) _ k e in
    let inner = cond_some _ _ _ outer.1 in
    (outer.0, ltb-true _ _ inner.0, sym (ap (λ (x : Priority). x.0) inner.1))

module _ (N : ℕ) (p : Plic N) (ls : List (Option Priority)) (leaves : Leaves N p.gateways ls) where
  claimable : (n : ℕ) (k : Priority) → Holds ls n k → Claimable N p n × (k.0 ≡ (gate N p n).priority)
  claimable n k h =
      let within : n < N = omega (arith, holds-within ls n k h, leaves.0) in
      let here = chosen (is_source N n) (contender (gate N p n)) k (sym (leaves.1 n within) ∙ h) in
      let source = and_parts (ltb 0 n) (ltb n (min N 1024)) here.0 in
      let c = contends (gate N p n) k here.1 in
      ((((ltb-true _ _ source.0, ltb-true _ _ source.1), c.0), c.1), c.2)

  holds : (n : ℕ) → Claimable N p n → Holds ls n (record { 0 = (gate N p n).priority })
  holds n c =
      leaves.1 n (omega arith)
      ∙ cond-true _ _ _ (and_from (ltb 0 n) (ltb n (min N 1024)) (lt-ltb 0 n (omega arith)) (lt-ltb n (min N 1024) c.0.0.1))
      ∙ cond-true _ _ _ c.0.1 ∙ cond-true _ _ _ (lt-ltb 0 _ c.1)

  pub firsts : (r : Option ℕ) → Winner (λ a b. leb b.0 a.0) ls r → Firsts N p r
  firsts None w = λ m c. w m _ (holds m c)
  firsts (Some n) w =
      let c = claimable n w.key w.held in
      record {
        claimable = c.0;
        highest = λ m d. omega (arith, c.1, leb-true _ _ (w.leads m _ (holds m d)));
        smallest = λ m lt d. omega (arith, c.1, leb-false _ _ (w.lowest m _ lt (holds m d)));
      }
