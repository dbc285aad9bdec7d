-- What a change of one gateway does to what the PLIC tells.
use Rattle.std.proofs.Common.{◌≡◌, ℕ, ◌-◌, ◌<◌, Bool, true, false, cond, ◌||◌, eqb, List, ◌∷◌, length, sym, refl, ap, ◌∙◌, subst, arith}
use Rattle.std.proofs.lemmas.List.{length-set}
use Rattle.std.proofs.lemmas.Bool.{eqb-true, both_ways, cond_both}
use Rattle.plic.specs.declared.chip.Plic.{Plic}
use Rattle.plic.specs.declared.gateway.Gateway.{Gateway}
use Rattle.plic.specs.Gateways.{is_pending, is_claimed}
use Rattle.plic.specs.Chip.{gate, with_gate, with_threshold}
use Rattle.controller.specs.Meaning.{State, Climbs}
use Rattle.controller.specs.Rules.{marked, older, onward, tops}
use Rattle.controller.proofs.Stacks.{climbs-older, among-older}
use Rattle.plic_controller.specs.ByClass.{by_class}
use Rattle.plic_controller.specs.Told.{fixed_by, stack_of, tells, meant, level_of, newest_priority}
use Rattle.plic_controller.specs.Sound.{Fair, Single, Settled, Sound}
use Rattle.plic_controller.specs.After.{levelled}
use Rattle.plic_controller.proofs.Tables.{put, gate-with, put-each, put_keeps, put-marks}
use Rattle.plic_controller.specs.Claimed.{members, climbs, under, is-stack, beats-level}

-- The state after the gateway of n was exchanged for g, with the stack xs.
abbrev pub changed : (ℕ → Gateway) → ℕ → Gateway → List ℕ → State
changed v n g xs = record { opened = marked (λ j. (v j).enabled) n g.enabled; high = marked (λ j. (v j).high) n g.high; waiting = marked (λ j. is_pending (v j).request) n (is_pending g.request); stack = xs }

pub settled-put : (p : Plic 64) (n : ℕ) (g : Gateway) → Settled p → n < 64 → Fair n g → Single (put (gate 64 p) n g) → Settled (with_gate 64 p n g)
settled-put p n g s lt fair single =
    let e = gate-with p n g (omega (arith, s.table)) in
    record {
      table = length-set p.gateways n g ∙ s.table;
      fair = subst (λ v. (j : ℕ) → Fair j (v j)) (sym e) (put-each (gate 64 p) n g Fair fair s.fair);
      single = subst Single (sym e) single;
    }

pub settled-threshold : (p : Plic 64) (t : ℕ) → Settled p → Settled (with_threshold 64 p t)
settled-threshold p t s = record { table = s.table; fair = s.fair; single = s.single }

-- Fewer claimed lines are single too.
pub single-fewer : (v : ℕ → Gateway) (n : ℕ) (g : Gateway) → g.priority ≡ (v n).priority → ((j : ℕ) → is_claimed (put v n g j).request ≡ true → is_claimed (v j).request ≡ true) → Single v → Single (put v n g)
single-fewer v n g e fewer single a b sure sure' same =
    let pr : (j : ℕ) → (put v n g j).priority ≡ (v j).priority = λ j. ap (λ (f : ℕ → ℕ). f j) (put_keeps v n g (λ x. x.priority) e) in
    single a b (fewer a sure) (fewer b sure') (sym (pr a) ∙ same ∙ pr b)

-- What is told after the change, where the new stack is known.
pub told-put : (p : Plic 64) (n : ℕ) (g : Gateway) (xs : List ℕ) → n < length p.gateways → g.priority ≡ (gate 64 p n).priority → stack_of (put (gate 64 p) n g) ≡ xs → meant (with_gate 64 p n g) ≡ onward (meant p) (changed (gate 64 p) n g xs)
told-put p n g xs lt e st =
    let v = gate 64 p in
    let pr = put_keeps v n g (λ x. x.priority) e in
    let op = put-marks v n g (λ x. x.enabled) g.enabled refl in
    let hi = put-marks v n g (λ x. x.high) g.high refl in
    let wa = put-marks v n g (λ x. is_pending x.request) (is_pending g.request) refl in
    ap tells (gate-with p n g lt)
    ∙ (λ i. record { fixed = fixed_by (pr i); state = record { opened = op i; high = hi i; waiting = wa i; stack = st i } })

-- A change that leaves what is in service.

module _ (p : Plic 64) (n : ℕ) (g : Gateway) (s : Sound p) (lt : n < 64) (e : g.priority ≡ (gate 64 p n).priority) (cl : is_claimed g.request ≡ is_claimed (gate 64 p n).request) (fair : Fair n g) where
  stack-kept : stack_of (put (gate 64 p) n g) ≡ stack_of (gate 64 p)
  stack-kept =
      let pr = put_keeps (gate 64 p) n g (λ x. x.priority) e in
      let ks = put_keeps (gate 64 p) n g (λ x. is_claimed x.request) cl in
      λ i. by_class (λ j. 7 - pr i j) (ks i) 64

  within : n < length p.gateways
  within = omega (arith, s.settled.table)

  pub quiet-sound : Sound (with_gate 64 p n g)
  quiet-sound =
      let ks = put_keeps (gate 64 p) n g (λ x. is_claimed x.request) cl in
      let pr = put_keeps (gate 64 p) n g (λ x. x.priority) e in
      let lv : p.threshold ≡ newest_priority (put (gate 64 p) n g) = s.level ∙ sym (λ i. level_of (pr i) (stack-kept i)) in
      record {
        settled = settled-put p n g s.settled lt fair
            (single-fewer (gate 64 p) n g e (λ j sure. sym (ap (λ (f : ℕ → Bool). f j) ks) ∙ sure) s.settled.single);
        level = subst (λ v. p.threshold ≡ newest_priority v) (sym (gate-with p n g within)) lv;
      }

  pub quiet_told : meant (with_gate 64 p n g) ≡ onward (meant p) (changed (gate 64 p) n g (stack_of (gate 64 p)))
  quiet_told = told-put p n g (stack_of (gate 64 p)) within e stack-kept

-- A line put into service.

module _ (p : Plic 64) (n : ℕ) (g : Gateway) (s : Sound p) (lt : n < 64) (e : g.priority ≡ (gate 64 p n).priority) (cl : is_claimed g.request ≡ true) (above : p.threshold < (gate 64 p n).priority) (fair : Fair n g) where
  higher : (j : ℕ) → is_claimed (gate 64 p j).request ≡ true → (gate 64 p j).priority < (gate 64 p n).priority
  higher j sure = omega (arith, under (gate 64 p) s.settled.fair s.settled.single j sure, s.level)

  pub single_more : Single (put (gate 64 p) n g)
  single_more a b =
      cond_both (eqb a n) g (gate 64 p a) (λ x. is_claimed x.request ≡ true → is_claimed (put (gate 64 p) n g b).request ≡ true → x.priority ≡ (put (gate 64 p) n g b).priority → a ≡ b)
      (λ ea _. cond_both (eqb b n) g (gate 64 p b) (λ y. is_claimed y.request ≡ true → g.priority ≡ y.priority → a ≡ b)
      (λ eb _ _. eqb-true a n ea ∙ sym (eqb-true b n eb))
      (λ _ sure same. let h = higher b sure in absurd (omega arith)))
      (λ _ sure. cond_both (eqb b n) g (gate 64 p b) (λ y. is_claimed y.request ≡ true → (gate 64 p a).priority ≡ y.priority → a ≡ b)
      (λ _ _ same. let h = higher a sure in absurd (omega arith))
      (λ _ sure' same. s.settled.single a b sure sure' same))

  pub stack-more : stack_of (put (gate 64 p) n g) ≡ n ∷ stack_of (gate 64 p)
  stack-more =
      let v = gate 64 p in
      let pr = put_keeps v n g (λ x. x.priority) e in
      let up : Climbs (fixed_by (λ j. (v j).priority)) (n ∷ stack_of v) =
      (beats-level (λ j. (v j).priority) n (stack_of v) (s.settled.fair n).small (omega (arith, s.level)), climbs v s.settled.fair s.settled.single) in
      is-stack (put v n g) (put-each v n g Fair fair s.settled.fair) single_more (n ∷ stack_of v)
      (subst (λ f. Climbs (fixed_by f) (n ∷ stack_of v)) (sym pr) up)
      (λ j. ap (λ b. eqb j n || b) (members v s.settled.fair s.settled.single j) ∙ at (eqb j n) (v j))
    where
      at : (t : Bool) (x : Gateway) → (t || is_claimed x.request) ≡ is_claimed (cond t g x).request
      at true x = sym cl
      at false x = refl

  -- The threshold is set to its priority.
  pub more-sound : (t : ℕ) → t ≡ (gate 64 p n).priority → Sound (with_threshold 64 (with_gate 64 p n g) t)
  more-sound t et =
      let pr = put_keeps (gate 64 p) n g (λ x. x.priority) e in
      let lv : t ≡ newest_priority (put (gate 64 p) n g) = et ∙ sym (λ i. level_of (pr i) (stack-more i)) in
      record {
        settled = settled-threshold (with_gate 64 p n g) t (settled-put p n g s.settled lt fair single_more);
        level = subst (λ v. t ≡ newest_priority v) (sym (gate-with p n g (omega (arith, s.settled.table)))) lv;
      }

  pub more-told : meant (with_gate 64 p n g) ≡ onward (meant p) (changed (gate 64 p) n g (n ∷ stack_of (gate 64 p)))
  more-told = told-put p n g (n ∷ stack_of (gate 64 p)) (omega (arith, s.settled.table)) e stack-more

-- The newest line taken out of service.

module _ (p : Plic 64) (n : ℕ) (g : Gateway) (s : Sound p) (lt : n < 64) (e : g.priority ≡ (gate 64 p n).priority) (cl : is_claimed g.request ≡ false) (top : tops (stack_of (gate 64 p)) n ≡ true) (fair : Fair n g) where
  fewer : (j : ℕ) → is_claimed (put (gate 64 p) n g j).request ≡ true → is_claimed (gate 64 p j).request ≡ true
  fewer j = cond_both (eqb j n) g (gate 64 p j) (λ x. is_claimed x.request ≡ true → is_claimed (gate 64 p j).request ≡ true) (λ _ sure. absurd (both_ways _ cl sure)) (λ _ sure. sure)

  single-less : Single (put (gate 64 p) n g)
  single-less = single-fewer (gate 64 p) n g e fewer s.settled.single

  pub settled-less : Settled (with_gate 64 p n g)
  settled-less = settled-put p n g s.settled lt fair single-less

  stack-less : stack_of (put (gate 64 p) n g) ≡ older (stack_of (gate 64 p))
  stack-less =
      let v = gate 64 p in
      let pr = put_keeps v n g (λ x. x.priority) e in
      let f = fixed_by (λ j. (v j).priority) in
      let up = climbs v s.settled.fair s.settled.single in
      is-stack (put v n g) (put-each v n g Fair fair s.settled.fair) single-less (older (stack_of v))
      (subst (λ h. Climbs (fixed_by h) (older (stack_of v))) (sym pr) (climbs-older f (stack_of v) up))
      (λ j. among-older f n (stack_of v) up top j ∙ ap (cond (eqb j n) false) (members v s.settled.fair s.settled.single j) ∙ at (eqb j n) (v j))
    where
      at : (t : Bool) (x : Gateway) → cond t false (is_claimed x.request) ≡ is_claimed (cond t g x).request
      at true x = sym cl
      at false x = refl

  -- The threshold is set to the priority of the newest line left.
  pub less-sound : Sound (levelled (with_gate 64 p n g))
  less-sound = record { settled = settled-threshold (with_gate 64 p n g) _ settled-less; level = refl }

  pub less-told : meant (with_gate 64 p n g) ≡ onward (meant p) (changed (gate 64 p) n g (older (stack_of (gate 64 p))))
  less-told = told-put p n g (older (stack_of (gate 64 p))) (omega (arith, s.settled.table)) e stack-less
