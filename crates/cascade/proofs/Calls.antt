-- Rise, fall, open and shut of a line of the pile.
use Rattle.std.proofs.Common.{◌≡◌, ℕ, ◌+◌, ◌<◌, Bool, true, false, cond, not, ◌&&◌, ◌||◌, Result, sym, refl, ap, ◌∙◌, subst, ap₂}
use Rattle.controller.specs.declared.refusal.Refusal.{Refusal}
use Rattle.controller.specs.declared.answer.Answer.{Answer}
use Rattle.controller.specs.declared.answer.Answer.TheVariants.{Accepted, Noted, Withdrawn}
use Rattle.controller.specs.Meaning.{State, Meaning, Lawful, in_service}
use Rattle.controller.specs.Rules.{Rises, Falls, Opens, Shuts, marked, idle, onward}
use Rattle.cascade.specs.Pile.{pile, marks}
use Rattle.cascade.specs.Tie.{Hanging, Tied}
use Rattle.cascade.specs.Sides.{side-outer, side-inner, line-outer, line-inner, mark-set-outer, mark-set-inner}
use Rattle.cascade.specs.Laws.{at-outer, at_inner, service-outer, service-inner}
use Rattle.controller.proofs.Marks.{marked_other, state-same}
use Rattle.controller.proofs.Asking.{asks-map, asks-to, gives-map, turns-map}
use Rattle.cascade.proofs.Ties.{refix, retie}

-- An outer line n other than k.
module _ (a : Meaning) (k : ℕ) (b : Meaning) (la : Lawful a) (lb : Lawful b) (t : Tied a k b) (n : ℕ) (nw : n < a.fixed.width) (ne : n ≡ k → ⊥) (r : Result Answer Refusal) (a' : Meaning) where
  abbrev F : Meaning → Meaning
  F x = pile x k b

  abbrev S : State
  S = (pile a k b).state

  line : (pile a k b).fixed.line n ≡ a.fixed.line n
  line = line-outer a.fixed k b.fixed n nw ne

  at : (x y : ℕ → Bool) → a.fixed.line n ≡ true → marks a.fixed k b.fixed x y n ≡ x n
  at x y sure = at-outer a k b la lb t.hanging x y n (nw, ne, sure)

  put : (x y : ℕ → Bool) (v v' : Bool) → v' ≡ v → a.fixed.line n ≡ true → marks a.fixed k b.fixed (marked x n v) y ≡ marked (marks a.fixed k b.fixed x y) n v'
  put x y v v' e sure = mark-set-outer a.fixed k b.fixed x y n v nw ne sure ∙ ap (marked (marks a.fixed k b.fixed x y) n) (sym e)

  service : a.fixed.line n ≡ true → in_service S n ≡ in_service a.state n
  service sure = service-outer a k b la lb t.hanging n (nw, ne, sure)

  idles : a.fixed.line n ≡ true → idle S n ≡ idle a.state n
  idles sure = ap₂ (λ p q. not (p || q)) (at _ _ sure) (service sure)

  aside : (x : ℕ → Bool) (v : Bool) → marked x n v k ≡ x k
  aside x v = marked_other x n k v (λ e. ne (sym e))

  pub rises-outer : Rises a n r a' → Tied a' k b × Rises (pile a k b) n r (pile a' k b)
  rises-outer h = (
    asks-to (a.fixed.line n)
        (λ sure g. retie a k b a' t g.1 t.hanging.opened (aside a.state.high true) t.hanging.paired)
        (λ nay g. subst (λ x. Tied x k b) (sym g.1) t)
        h,
    asks-map (a.fixed.line n) _ line
        (λ sure g. gives-map F a
        (ap (λ v. cond v Accepted Noted) (idles sure))
        (ap (onward (pile a k b)) (state-same refl (put _ _ true true refl sure) (put _ _ _ _ (ap₂ (λ p q. p || q) (at _ _ sure) (idles sure)) sure) refl))
        g)
        (λ nay g. turns-map F g)
        h,
  )

  pub falls-outer : Falls a n r a' → Tied a' k b × Falls (pile a k b) n r (pile a' k b)
  falls-outer h =
      let fleet : (pile a k b).fixed.fleeting n ≡ a.fixed.fleeting n = side-outer a.fixed.width _ _ n nw in (
        asks-to (a.fixed.line n)
            (λ sure g. retie a k b a' t g.1 t.hanging.opened (aside a.state.high false) t.hanging.paired)
            (λ nay g. subst (λ x. Tied x k b) (sym g.1) t)
            h,
        asks-map (a.fixed.line n) _ line
            (λ sure g. gives-map F a
            (ap₂ (λ p q. cond (p && q) Withdrawn Noted) (at _ _ sure) fleet)
            (ap (onward (pile a k b)) (state-same refl (put _ _ false false refl sure) (put _ _ _ _ (ap₂ (λ p q. p && not q) (at _ _ sure) fleet) sure) refl))
            g)
            (λ nay g. turns-map F g)
            h,
      )

  pub opens-outer : Opens a n r a' → Tied a' k b × Opens (pile a k b) n r (pile a' k b)
  opens-outer h = (
    asks-to (a.fixed.line n)
        (λ sure g. retie a k b a' t g.1 (aside a.state.opened true ∙ t.hanging.opened) refl t.hanging.paired)
        (λ nay g. subst (λ x. Tied x k b) (sym g.1) t)
        h,
    asks-map (a.fixed.line n) _ line
        (λ sure g. gives-map F a refl (ap (onward (pile a k b)) (state-same (put _ _ true true refl sure) refl refl refl)) g)
        (λ nay g. turns-map F g)
        h,
  )

  pub shuts-outer : Shuts a n r a' → Tied a' k b × Shuts (pile a k b) n r (pile a' k b)
  shuts-outer h = (
    asks-to (a.fixed.line n)
        (λ sure. asks-to (in_service a.state n)
        (λ busy g. subst (λ x. Tied x k b) (sym g.1) t)
        (λ still g. retie a k b a' t g.1 (aside a.state.opened false ∙ t.hanging.opened) refl t.hanging.paired))
        (λ nay g. subst (λ x. Tied x k b) (sym g.1) t)
        h,
    asks-map (a.fixed.line n) _ line
        (λ sure. asks-map (in_service a.state n) _ (service sure)
        (λ busy g. turns-map F g)
        (λ still g. gives-map F a refl (ap (onward (pile a k b)) (state-same (put _ _ false false refl sure) refl refl refl)) g))
        (λ nay g. turns-map F g)
        h,
  )

-- An inner line m.
module _ (a : Meaning) (k : ℕ) (b : Meaning) (la : Lawful a) (lb : Lawful b) (t : Hanging a k b) (m : ℕ) (r : Result Answer Refusal) (b' : Meaning) where
  abbrev G : Meaning → Meaning
  G y = pile a k y

  abbrev w : ℕ
  w = a.fixed.width

  abbrev U : State
  U = (pile a k b).state

  line-in : (pile a k b).fixed.line (w + m) ≡ b.fixed.line m
  line-in = line-inner a.fixed k b.fixed m

  at_in : (x y : ℕ → Bool) → b.fixed.line m ≡ true → marks a.fixed k b.fixed x y (w + m) ≡ y m
  at_in x y sure = at_inner a k b la lb t x y (w + m) m refl sure

  put_in : (x y : ℕ → Bool) (v v' : Bool) → v' ≡ v → b.fixed.line m ≡ true → marks a.fixed k b.fixed x (marked y m v) ≡ marked (marks a.fixed k b.fixed x y) (w + m) v'
  put_in x y v v' e sure = mark-set-inner a.fixed k b.fixed x y m v sure ∙ ap (marked (marks a.fixed k b.fixed x y) (w + m)) (sym e)

  service-in : in_service U (w + m) ≡ in_service b.state m
  service-in = service-inner a k b la lb t (w + m) m refl

  idles-in : b.fixed.line m ≡ true → idle U (w + m) ≡ idle b.state m
  idles-in sure = ap₂ (λ p q. not (p || q)) (at_in _ _ sure) service-in

  same : b' ≡ b → Hanging a k b'
  same e = subst (λ y. Hanging a k y) (sym e) t

  pub rises-inner : Rises b m r b' → Hanging a k b' × Rises (pile a k b) (w + m) r (pile a k b')
  rises-inner h = (
    asks-to (b.fixed.line m)
        (λ sure g. refix a k b a b' t refl g.1 t.opened t.paired)
        (λ nay g. same g.1)
        h,
    asks-map (b.fixed.line m) _ line-in
        (λ sure g. gives-map G b
        (ap (λ v. cond v Accepted Noted) (idles-in sure))
        (ap (onward (pile a k b)) (state-same refl (put_in _ _ true true refl sure) (put_in _ _ _ _ (ap₂ (λ p q. p || q) (at_in _ _ sure) (idles-in sure)) sure) refl))
        g)
        (λ nay g. turns-map G g)
        h,
  )

  pub falls-inner : Falls b m r b' → Hanging a k b' × Falls (pile a k b) (w + m) r (pile a k b')
  falls-inner h =
      let fleet : (pile a k b).fixed.fleeting (w + m) ≡ b.fixed.fleeting m = side-inner w _ _ m in (
        asks-to (b.fixed.line m)
            (λ sure g. refix a k b a b' t refl g.1 t.opened t.paired)
            (λ nay g. same g.1)
            h,
        asks-map (b.fixed.line m) _ line-in
            (λ sure g. gives-map G b
            (ap₂ (λ p q. cond (p && q) Withdrawn Noted) (at_in _ _ sure) fleet)
            (ap (onward (pile a k b)) (state-same refl (put_in _ _ false false refl sure) (put_in _ _ _ _ (ap₂ (λ p q. p && not q) (at_in _ _ sure) fleet) sure) refl))
            g)
            (λ nay g. turns-map G g)
            h,
      )

  pub opens-inner : Opens b m r b' → Hanging a k b' × Opens (pile a k b) (w + m) r (pile a k b')
  opens-inner h = (
    asks-to (b.fixed.line m)
        (λ sure g. refix a k b a b' t refl g.1 t.opened t.paired)
        (λ nay g. same g.1)
        h,
    asks-map (b.fixed.line m) _ line-in
        (λ sure g. gives-map G b refl (ap (onward (pile a k b)) (state-same (put_in _ _ true true refl sure) refl refl refl)) g)
        (λ nay g. turns-map G g)
        h,
  )

  pub shuts-inner : Shuts b m r b' → Hanging a k b' × Shuts (pile a k b) (w + m) r (pile a k b')
  shuts-inner h = (
    asks-to (b.fixed.line m)
        (λ sure. asks-to (in_service b.state m)
        (λ busy g. same g.1)
        (λ still g. refix a k b a b' t refl g.1 t.opened t.paired))
        (λ nay g. same g.1)
        h,
    asks-map (b.fixed.line m) _ line-in
        (λ sure. asks-map (in_service b.state m) _ service-in
        (λ busy g. turns-map G g)
        (λ still g. gives-map G b refl (ap (onward (pile a k b)) (state-same (put_in _ _ false false refl sure) refl refl refl)) g))
        (λ nay g. turns-map G g)
        h,
  )
