-- The winner of the arbitration tree is the lowest level of the set, and the level ahead of all in service comes first.
use Rattle.std.proofs.Common.{◌≡◌, ℕ, ◌<◌, ◌≤◌, true, not, ltb, leb, List, Some, None, Option, sym, ap, ◌∙◌, ⊎_elim, arith}
use Rattle.std.proofs.lemmas.Bool.{cond-true, cond-false, cases_Bool, cases_lt, cond_both, leb-true, ltb-true, ltb-false, and_parts, and_from, both_ways, false_from_ne_true, not-true}
use Rattle.std.proofs.lemmas.Option.{none-some, same_Some}
use Rattle.arbiter.specs.Winning.{Holds, Winner}
use Rattle.arbiter.specs.declared.key.Level.{Level}
use Rattle.i8259a.specs.declared.chip.I8259a.{I8259a}
use Rattle.i8259a.specs.Bits.{bit, Levels, outside, lowest}
use Rattle.i8259a.specs.Signal.{Requests, InService, First, Firsts, ahead}
use Rattle.i8259a.proofs.Sets.{bit-outside}
use Rattle.i8259a.proofs.LowestLevels.{Lowest, lowest-is, one-lowest}

module _ (x : ℕ) (ls : List (Option Level)) (levels : Levels x ls) where
  holds : (n : ℕ) → n < 8 → bit x n ≡ true → Holds ls n (record { 0 = n })
  holds n lt e = levels.1 n lt ∙ cond-true _ _ _ e

  is_set : (n : ℕ) (k : Level) → n < 8 → Holds ls n k → (bit x n ≡ true) × (k.0 ≡ n)
  is_set n k lt h =
      ⊎_elim
      (λ e. (e, sym (ap (λ (y : Level). y.0) (same_Some _ k (sym (holds n lt e) ∙ h)))))
      (λ e. absurd (none-some k (sym (levels.1 n lt ∙ cond-false _ _ _ e) ∙ h)))
      (cases_Bool (bit x n))

  wins-lowest : (r : Option ℕ) → Winner (λ a b. leb a.0 b.0) ls r → Lowest x r
  wins-lowest None w = λ n le lt. false_from_ne_true _ (λ e. w n _ (holds n lt e))
  wins-lowest (Some i) w =
      let small : i < 8 = omega (arith, w.within, levels.0) in
      let s = is_set i w.key small w.held in (
        omega arith,
        small,
        s.0,
        λ n le lt. false_from_ne_true _ (λ e. omega (arith, s.1, leb-true _ _ (w.leads n _ (holds n (omega arith) e)))),
      )

  -- What the tree answers is the lowest level.
  pub wins : (r : Option ℕ) → Winner (λ a b. leb a.0 b.0) ls r → r ≡ lowest x
  wins r w = one-lowest x r (lowest x) (wins-lowest r w) (lowest-is x)

-- The level ahead is the first that is urgent.
module _ (c : I8259a) (byte : c.imr < 256) where
  asking : (n : ℕ) → Requests c n → bit (outside c.irr c.imr) n ≡ true
  asking n r = bit-outside c.irr c.imr n byte r.level ∙ and_from (bit c.irr n) _ r.high (ap not r.unmasked)

  asked : (n : ℕ) → n < 8 → bit (outside c.irr c.imr) n ≡ true → Requests c n
  asked n lt e =
      let both = and_parts (bit c.irr n) _ (sym (bit-outside c.irr c.imr n byte lt) ∙ e) in
      record { level = lt; high = both.0; unmasked = not-true (bit c.imr n) both.1 }

  -- No level that requests is lower than the lowest, and none in service.
  least : (x n : ℕ) → Lowest x (Some n) → (m : ℕ) → bit x m ≡ true → n ≤ m
  least x n l m e = ⊎_elim (λ lt. absurd (both_ways _ (l.3 m (omega arith) lt) e)) (λ le. le) (cases_lt m n)

  urgent : (n : ℕ) → Lowest (outside c.irr c.imr) (Some n) → ((s : ℕ) → InService c s → n < s) → First c n
  urgent n q below =
      record {
        urgent = record { requests = asked n q.1 q.2; below = below };
        lowest = λ m u. least _ n q m (asking m u.requests);
      }

  firsts-of : (q s : Option ℕ) → Lowest (outside c.irr c.imr) q → Lowest c.isr s → Firsts c (ahead q s)
  firsts-of None s q l = λ n u. both_ways _ (q n (omega arith) u.requests.level) (asking n u.requests)
  firsts-of (Some n) None q l = urgent n q (λ m i. absurd (both_ways _ (l m (omega arith) i.0) i.1))
  firsts-of (Some n) (Some s) q l =
      cond_both (ltb n s) (Some n) None (Firsts c)
      (λ e. urgent n q (λ m i. omega (arith, ltb-true n s e, least c.isr s l m i.1)))
      (λ e m u. omega (arith, ltb-false n s e, u.below s (l.1, l.2), least _ n q m (asking m u.requests)))

  pub firsts : Firsts c (ahead (lowest (outside c.irr c.imr)) (lowest c.isr))
  firsts = firsts-of _ _ (lowest-is (outside c.irr c.imr)) (lowest-is c.isr)
