-- Which line of a pile is ready, and which is first.
use Rattle.std.proofs.Common.{◌≡◌, ℕ, ◌+◌, ◌*◌, ◌<◌, ◌≤◌, Bool, true, false, List, [], ◌∷◌, sym, refl, ◌∙◌, subst, ⊎_elim, mul-le-mul_right, arith}
use lib.Arith.{digits_lt}
use Rattle.std.proofs.lemmas.Bool.{cases_eq, true_from_ne_false, both_ways, false≢true}
use Rattle.controller.specs.Meaning.{Meaning, Lawful, Beats, Ready, FirstReady, NoneReady, among}
use Rattle.controller.specs.Rules.{Signals}
use Rattle.cascade.specs.Pile.{pile}
use Rattle.cascade.specs.Tie.{Paired, Tied}
use Rattle.cascade.specs.Sides.{line-outer, line-inner}
use Rattle.controller.proofs.Stacks.{beats-none, served-below}
use Rattle.cascade.specs.Stacks.{beats-pile, beats-part}
use Rattle.cascade.specs.Laws.{Outer, owner, at-outer, at_inner, rank-outer, rank-inner, class-outer, class-inner}

pub signals-true : (b : Meaning) (v : Bool) (n : ℕ) → Signals b v → Ready b n → v ≡ true
signals-true b true n h r = refl
signals-true b false n h r = absurd (h n r)

pub signals-some : (b : Meaning) (v : Bool) → Signals b v → v ≡ true → (n : ℕ) × FirstReady b n
signals-some b true h e = h
signals-some b false h e = absurd (false≢true e)

-- k in service holds an inner line.
pub alone : (k : ℕ) (ins outs : List ℕ) → Paired k outs ins → among k outs ≡ false → ins ≡ []
alone k [] outs h out = refl
alone k (m ∷ []) outs h out = absurd (both_ways (among k outs) out h)
alone k (m ∷ (m' ∷ ms)) outs h out = absurd h

module _ (a : Meaning) (k : ℕ) (b : Meaning) (la : Lawful a) (lb : Lawful b) (t : Tied a k b) where
  abbrev w : ℕ
  w = a.fixed.width

  abbrev s : ℕ
  s = b.fixed.span

  pub outer-ready : (n : ℕ) → Outer a k b la lb t.hanging n → Ready (pile a k b) n → Ready a n
  outer-ready n o r = record {
    line = o.2;
    opened = sym (at-outer a k b la lb t.hanging _ _ n o) ∙ r.opened;
    waiting = sym (at-outer a k b la lb t.hanging _ _ n o) ∙ r.waiting;
    urgent = beats-part a.fixed k b.fixed b.state.stack a.state.stack n n (served-below a la) (class-outer a k b la lb t.hanging n o.0) r.urgent;
  }

  pub ready-outer : (n : ℕ) → Outer a k b la lb t.hanging n → Ready a n → Ready (pile a k b) n
  ready-outer n o r = record {
    line = line-outer a.fixed k b.fixed n o.0 o.1 ∙ o.2;
    opened = at-outer a k b la lb t.hanging _ _ n o ∙ r.opened;
    waiting = at-outer a k b la lb t.hanging _ _ n o ∙ r.waiting;
    urgent = beats-pile a.fixed k b.fixed b.state.stack a.state.stack n n (served-below a la) (class-outer a k b la lb t.hanging n o.0) r.urgent;
  }

  -- Where k beats the newest, it is not in service, and no inner line is.
  pub k-out : Beats a.fixed k a.state.stack → among k a.state.stack ≡ false
  k-out urgent = beats-none a.fixed a.state.stack k la.state.climbs urgent

  pub inner-still : Beats a.fixed k a.state.stack → b.state.stack ≡ []
  inner-still urgent = alone k b.state.stack a.state.stack t.hanging.paired (k-out urgent)

  -- An inner line that is ready in the pile is so inside, and then k is ready.
  pub inner-ready : (n m : ℕ) → n ≡ w + m → b.fixed.line m ≡ true → Ready (pile a k b) n → Ready b m × Ready a k
  inner-ready n m e sure r =
      let urgent : Beats a.fixed k a.state.stack = beats-part a.fixed k b.fixed b.state.stack a.state.stack n k (served-below a la) (class-inner a k b la lb t.hanging n m e) r.urgent in
      let inside : Ready b m = record {
        line = sure;
        opened = sym (at_inner a k b la lb t.hanging _ _ n m e sure) ∙ r.opened;
        waiting = sym (at_inner a k b la lb t.hanging _ _ n m e sure) ∙ r.waiting;
        urgent = subst (λ xs. Beats b.fixed m xs) (sym (inner-still urgent)) tt;
      } in
      let high : a.state.high k ≡ true = signals-true b (a.state.high k) m t.calls inside in (
        inside,
        record {
          line = t.hanging.line;
          opened = t.hanging.opened;
          waiting = la.state.high_waits k t.hanging.line high (k-out urgent);
          urgent = urgent;
        },
      )

  -- k is ready only while the inner signals.
  pub k-high : Ready a k → a.state.high k ≡ true
  k-high r = true_from_ne_false _ (λ low. both_ways _ (la.state.low_fleeting k t.hanging.line t.hanging.fleeting low) r.waiting)

  pub first-outer : (n : ℕ) → (n ≡ k → ⊥) → FirstReady a n → FirstReady (pile a k b) n
  first-outer n ne f =
      let o : Outer a k b la lb t.hanging n = (la.fixed.within n f.ready.line, ne, f.ready.line) in
      let e = rank-outer a k b la lb t.hanging n o.0 in
      record {
        ready = ready-outer n o f.ready;
        first = λ j r. ⊎_elim
            (λ o'.
            let le : a.fixed.rank n * s ≤ a.fixed.rank j * s = mul-le-mul_right s (f.first j (outer-ready j o' r)) in
            let e' = rank-outer a k b la lb t.hanging j o'.0 in
            omega arith)
            (λ i.
            let le : a.fixed.rank n * s ≤ a.fixed.rank k * s = mul-le-mul_right s (f.first k (inner-ready j i.0 i.1 i.2 r).1) in
            let e' = rank-inner a k b la lb t.hanging j i.0 i.1 in
            omega arith)
            (owner a k b la lb t.hanging j r.line);
      }

  pub first_inner : (m : ℕ) → FirstReady a k → FirstReady b m → FirstReady (pile a k b) (w + m)
  first_inner m f g =
      let e = rank-inner a k b la lb t.hanging (w + m) m refl in
      record {
        ready = record {
          line = line-inner a.fixed k b.fixed m ∙ g.ready.line;
          opened = at_inner a k b la lb t.hanging _ _ (w + m) m refl g.ready.line ∙ g.ready.opened;
          waiting = at_inner a k b la lb t.hanging _ _ (w + m) m refl g.ready.line ∙ g.ready.waiting;
          urgent = beats-pile a.fixed k b.fixed b.state.stack a.state.stack (w + m) k (served-below a la) (class-inner a k b la lb t.hanging (w + m) m refl) f.ready.urgent;
        };
        first = λ j r. ⊎_elim
            (λ o'.
            let le = f.first j (outer-ready j o' r) in
            let apart : a.fixed.rank k ≡ a.fixed.rank j → ⊥ = λ same. o'.1 (sym (la.fixed.own k j t.hanging.line o'.2 same)) in
            let less : a.fixed.rank k < a.fixed.rank j = omega arith in
            let d : a.fixed.rank k * s + b.fixed.rank m < a.fixed.rank j * s = digits_lt less (lb.fixed.ranked m g.ready.line) in
            let e' = rank-outer a k b la lb t.hanging j o'.0 in
            omega arith)
            (λ i.
            let le = g.first i.0 (inner-ready j i.0 i.1 i.2 r).0 in
            let e' = rank-inner a k b la lb t.hanging j i.0 i.1 in
            omega arith)
            (owner a k b la lb t.hanging j r.line);
      }

  pub none-pile : NoneReady a → NoneReady (pile a k b)
  none-pile none j r =
      ⊎_elim
      (λ o. none j (outer-ready j o r))
      (λ i. none k (inner-ready j i.0 i.1 i.2 r).1)
      (owner a k b la lb t.hanging j r.line)

  pub pile-signals : (v : Bool) → Signals a v → Signals (pile a k b) v
  pile-signals true h =
      ⊎_elim
      (λ e.
      let f : FirstReady a k = subst (λ j. FirstReady a j) e h.1 in
      let g = signals-some b (a.state.high k) t.calls (k-high f.ready) in
      (w + g.0, first_inner g.0 f g.1))
      (λ ne. (h.0, first-outer h.0 ne h.1))
      (cases_eq h.0 k)
  pile-signals false h = none-pile h
