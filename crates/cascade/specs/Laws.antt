-- The laws of a pile, from those of its parts and their tie.
use Rattle.std.specs.Prelude.{◌≡◌, ℕ, ◌+◌, ◌*◌, ◌<◌, ◌≤◌, Bool, true, false, ◌⊎◌, ◌≢◌}
use Rattle.std.proofs.Common.{sym, ap, subst, ◌∙◌, inl, inr, ⊎_elim, arith, mul-pos, lt_of_mul-lt-mul_right}
use Rattle.std.proofs.Math.Nat.{eq_of_mul-eq-mul_right}
use Rattle.std.proofs.Math.Arith.{digits_lt}
use Rattle.std.proofs.lemmas.Bool.{cases_eq, both_ways, false≢true}
use Rattle.controller.specs.Meaning.{class_count, Fixed, State, Meaning, FixedLaws, Lawful, in_service}
use Rattle.cascade.specs.Pile.{marks, pile_fixed, pile, void}
use Rattle.cascade.specs.Tie.{Hanging}
use Rattle.cascade.specs.Sides.{side-outer, side-inner, whose, line-outer, line-inner, line-cases, mark-outer, mark-inner}
use Rattle.controller.proofs.Stacks.{served-below}
use Rattle.cascade.specs.Stacks.{among-outer, among-inner, among-k, climbs-pile}
use Rattle.cascade.specs.Digits.{outer-inner, inner-outer, level}

module _ (a : Meaning) (k : ℕ) (b : Meaning) (la : Lawful a) (lb : Lawful b) (t : Hanging a k b) where
  abbrev pub w : ℕ
  w = a.fixed.width

  abbrev pub s : ℕ
  s = b.fixed.span

  abbrev pub P : Fixed
  P = pile_fixed a.fixed k b.fixed

  pub k-in : k < w
  k-in = la.fixed.within k t.line

  abbrev pub Outer : ℕ → Type 0
  Outer n = (n < w) × (n ≢ k) × (a.fixed.line n ≡ true)

  abbrev pub Inner : ℕ → Type 0
  Inner n = (m : ℕ) × (n ≡ w + m) × (b.fixed.line m ≡ true)

  pub owner : (n : ℕ) → P.line n ≡ true → Outer n ⊎ Inner n
  owner n sure = line-cases a.fixed k b.fixed k-in n sure

  pub rank-outer : (n : ℕ) → n < w → P.rank n ≡ a.fixed.rank n * s
  rank-outer n h = side-outer w _ _ n h

  pub rank-inner : (n m : ℕ) → n ≡ w + m → P.rank n ≡ a.fixed.rank k * s + b.fixed.rank m
  rank-inner n m e = ap P.rank e ∙ side-inner w _ _ m

  pub class-outer : (n : ℕ) → n < w → P.class n ≡ a.fixed.class n
  class-outer n h = side-outer w _ _ n h

  pub class-inner : (n m : ℕ) → n ≡ w + m → P.class n ≡ a.fixed.class k
  class-inner n m e = ap P.class e ∙ side-inner w _ _ m

  within : (n : ℕ) → P.line n ≡ true → n < P.width
  within n sure = ⊎_elim (λ o. let h : n < w = o.0 in omega arith) (λ i. let h : i.0 < b.fixed.width = lb.fixed.within i.0 i.2 in let e : n ≡ w + i.0 = i.1 in omega arith) (owner n sure)

  classed : (n : ℕ) → P.line n ≡ true → P.class n < class_count
  classed n sure =
      ⊎_elim
      (λ o. let h = la.fixed.classed n o.2 in let e = class-outer n o.0 in omega arith)
      (λ i. let h = la.fixed.classed k t.line in let e = class-inner n i.0 i.1 in omega arith)
      (owner n sure)

  ranked : (n : ℕ) → P.line n ≡ true → P.rank n < P.span
  ranked n sure =
      ⊎_elim
      (λ o. let d : a.fixed.rank n * s + 0 < a.fixed.span * s = digits_lt (la.fixed.ranked n o.2) lb.fixed.some in let e = rank-outer n o.0 in omega arith)
      (λ i. let d : a.fixed.rank k * s + b.fixed.rank i.0 < a.fixed.span * s = digits_lt (la.fixed.ranked k t.line) (lb.fixed.ranked i.0 i.2) in let e = rank-inner n i.0 i.1 in omega arith)
      (owner n sure)

  -- An outer line is not of k's rank.
  mixed : (n m : ℕ) → Outer n → b.fixed.line m ≡ true → a.fixed.rank n * s ≢ a.fixed.rank k * s + b.fixed.rank m
  mixed n m o sure e = o.1 (la.fixed.own n k o.2 t.line (level (a.fixed.rank n) (a.fixed.rank k) s (b.fixed.rank m) (lb.fixed.ranked m sure) e))

  own : (i j : ℕ) → P.line i ≡ true → P.line j ≡ true → P.rank i ≡ P.rank j → i ≡ j
  own i j yi yj e =
      ⊎_elim
      (λ o. ⊎_elim
      (λ o'. la.fixed.own i j o.2 o'.2 (eq_of_mul-eq-mul_right s lb.fixed.some (a.fixed.rank i) (a.fixed.rank j) (sym (rank-outer i o.0) ∙ e ∙ rank-outer j o'.0)))
      (λ n'. absurd (mixed i n'.0 o n'.2 (sym (rank-outer i o.0) ∙ e ∙ rank-inner j n'.0 n'.1)))
      (owner j yj))
      (λ n. ⊎_elim
      (λ o'. absurd (mixed j n.0 o' n.2 (sym (rank-outer j o'.0) ∙ sym e ∙ rank-inner i n.0 n.1)))
      (λ n'.
      let r = rank-inner i n.0 n.1 in
      let r' = rank-inner j n'.0 n'.1 in
      let same : b.fixed.rank n.0 ≡ b.fixed.rank n'.0 = omega arith in
      n.1 ∙ ap (λ m. w + m) (lb.fixed.own n.0 n'.0 n.2 n'.2 same) ∙ sym n'.1)
      (owner j yj))
      (owner i yi)

  -- Between an outer line and k.
  ordered-k : (n : ℕ) → Outer n → a.fixed.rank n ≤ a.fixed.rank k → a.fixed.class n ≤ a.fixed.class k
  ordered-k n o le =
      ⊎_elim
      (λ e. absurd (o.1 (la.fixed.own n k o.2 t.line e)))
      (λ ne. la.fixed.ordered n k o.2 t.line (omega arith))
      (cases_eq (a.fixed.rank n) (a.fixed.rank k))

  ordered : (i j : ℕ) → P.line i ≡ true → P.line j ≡ true → P.rank i < P.rank j → P.class i ≤ P.class j
  ordered i j yi yj lt =
      ⊎_elim
      (λ o.
      let r = rank-outer i o.0 in
      let c = class-outer i o.0 in
      ⊎_elim
      (λ o'.
      let r' = rank-outer j o'.0 in
      let c' = class-outer j o'.0 in
      let less : a.fixed.rank i * s < a.fixed.rank j * s = omega arith in
      let h = la.fixed.ordered i j o.2 o'.2 (lt_of_mul-lt-mul_right s less) in
      omega arith)
      (λ n'.
      let r' = rank-inner j n'.0 n'.1 in
      let c' = class-inner j n'.0 n'.1 in
      let less : a.fixed.rank i * s < a.fixed.rank k * s + b.fixed.rank n'.0 = omega arith in
      let h = ordered-k i o (outer-inner (a.fixed.rank i) (a.fixed.rank k) s (b.fixed.rank n'.0) (lb.fixed.ranked n'.0 n'.2) less) in
      omega arith)
      (owner j yj))
      (λ n.
      let r = rank-inner i n.0 n.1 in
      let c = class-inner i n.0 n.1 in
      ⊎_elim
      (λ o'.
      let r' = rank-outer j o'.0 in
      let c' = class-outer j o'.0 in
      let less : a.fixed.rank k * s + b.fixed.rank n.0 < a.fixed.rank j * s = omega arith in
      let h = la.fixed.ordered k j t.line o'.2 (inner-outer (a.fixed.rank j) (a.fixed.rank k) s (b.fixed.rank n.0) less) in
      omega arith)
      (λ n'. let c' = class-inner j n'.0 n'.1 in omega arith)
      (owner j yj))
      (owner i yi)

  pub pile-fixed : FixedLaws (pile a k b).fixed
  pile-fixed = record {
    narrow = t.narrow;
    some = mul-pos la.fixed.some lb.fixed.some;
    short = t.short;
    within = within;
    classed = classed;
    ranked = ranked;
    own = own;
    ordered = ordered;
  }

  abbrev pub S : State
  S = (pile a k b).state

  -- The marks at a line of the pile.
  abbrev pub at-outer : (x y : ℕ → Bool) (n : ℕ) → Outer n → marks a.fixed k b.fixed x y n ≡ x n
  at-outer x y n o = mark-outer a.fixed k b.fixed x y n o.0 o.1 o.2

  abbrev pub at_inner : (x y : ℕ → Bool) (n m : ℕ) → n ≡ w + m → b.fixed.line m ≡ true → marks a.fixed k b.fixed x y n ≡ y m
  at_inner x y n m e sure = ap (marks a.fixed k b.fixed x y) e ∙ mark-inner a.fixed k b.fixed x y m sure

  pub service-outer : (n : ℕ) → Outer n → in_service S n ≡ in_service a.state n
  service-outer n o = among-outer k w b.state.stack a.state.stack n o.0 o.1

  pub service-inner : (n m : ℕ) → n ≡ w + m → in_service S n ≡ in_service b.state m
  service-inner n m e = ap (in_service S) e ∙ among-inner k w b.state.stack a.state.stack m (served-below a la) t.paired

  -- What is in service is an outer line in service or an inner one.
  served : (n : ℕ) → in_service S n ≡ true → (Outer n × (in_service a.state n ≡ true)) ⊎ ((i : Inner n) × (in_service b.state i.0 ≡ true))
  served n sure =
      ⊎_elim
      (λ h. ⊎_elim
      (λ e. absurd (both_ways (in_service S k) (among-k k w b.state.stack a.state.stack k-in t.paired) (subst (λ j. in_service S j ≡ true) e sure)))
      (λ ne.
      let on : in_service a.state n ≡ true = sym (among-outer k w b.state.stack a.state.stack n h ne) ∙ sure in
      inl ((h, ne, la.state.served_line n on), on))
      (cases_eq n k))
      (λ i.
      let on : in_service b.state i.0 ≡ true = sym (service-inner n i.0 i.1) ∙ sure in
      inr ((i.0, i.1, lb.state.served_line i.0 on), on))
      (whose w n)

  served_line : (n : ℕ) → in_service S n ≡ true → P.line n ≡ true
  served_line n sure =
      ⊎_elim
      (λ h. line-outer a.fixed k b.fixed n h.0.0 h.0.1 ∙ h.0.2)
      (λ h. ap P.line h.0.1 ∙ line-inner a.fixed k b.fixed h.0.0 ∙ h.0.2)
      (served n sure)

  served_open : (n : ℕ) → in_service S n ≡ true → S.opened n ≡ true
  served_open n sure =
      ⊎_elim
      (λ h. at-outer _ _ n h.0 ∙ la.state.served_open n h.1)
      (λ h. at_inner _ _ n h.0.0 h.0.1 h.0.2 ∙ lb.state.served_open h.0.0 h.1)
      (served n sure)

  served_idle : (n : ℕ) → in_service S n ≡ true → S.waiting n ≡ false
  served_idle n sure =
      ⊎_elim
      (λ h. at-outer _ _ n h.0 ∙ la.state.served_idle n h.1)
      (λ h. at_inner _ _ n h.0.0 h.0.1 h.0.2 ∙ lb.state.served_idle h.0.0 h.1)
      (served n sure)

  high_waits : (n : ℕ) → P.line n ≡ true → S.high n ≡ true → in_service S n ≡ false → S.waiting n ≡ true
  high_waits n sure high out =
      ⊎_elim
      (λ o. at-outer _ _ n o ∙ la.state.high_waits n o.2 (sym (at-outer _ _ n o) ∙ high) (sym (service-outer n o) ∙ out))
      (λ i. at_inner _ _ n i.0 i.1 i.2 ∙ lb.state.high_waits i.0 i.2 (sym (at_inner _ _ n i.0 i.1 i.2) ∙ high) (sym (service-inner n i.0 i.1) ∙ out))
      (owner n sure)

  low_fleeting : (n : ℕ) → P.line n ≡ true → P.fleeting n ≡ true → S.high n ≡ false → S.waiting n ≡ false
  low_fleeting n sure fleet low =
      ⊎_elim
      (λ o. at-outer _ _ n o ∙ la.state.low_fleeting n o.2 (sym (side-outer w _ _ n o.0) ∙ fleet) (sym (at-outer _ _ n o) ∙ low))
      (λ i. at_inner _ _ n i.0 i.1 i.2 ∙ lb.state.low_fleeting i.0 i.2 (sym (ap P.fleeting i.1 ∙ side-inner w _ _ i.0) ∙ fleet) (sym (at_inner _ _ n i.0 i.1 i.2) ∙ low))
      (owner n sure)

  pub pile-lawful : Lawful (pile a k b)
  pile-lawful = record {
    fixed = pile-fixed;
    state = record {
      served_line = served_line;
      served_open = served_open;
      served_idle = served_idle;
      climbs = climbs-pile a.fixed k b.fixed b.state.stack a.state.stack (served-below a la) la.state.climbs;
      high_waits = high_waits;
      low_fleeting = low_fleeting;
    };
  }

pub void-lawful : Lawful void
void-lawful = record {
  fixed = record {
    narrow = omega arith;
    some = omega arith;
    short = omega arith;
    within = λ n sure. absurd (false≢true sure);
    classed = λ n sure. absurd (false≢true sure);
    ranked = λ n sure. absurd (false≢true sure);
    own = λ i j sure. absurd (false≢true sure);
    ordered = λ i j sure. absurd (false≢true sure);
  };
  state = record {
    served_line = λ n sure. absurd (false≢true sure);
    served_open = λ n sure. absurd (false≢true sure);
    served_idle = λ n sure. absurd (false≢true sure);
    climbs = tt;
    high_waits = λ n sure. absurd (false≢true sure);
    low_fleeting = λ n sure. absurd (false≢true sure);
  };
}
