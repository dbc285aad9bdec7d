-- Take and finish on a pile.
use Rattle.std.proofs.Common.{◌≡◌, ℕ, ◌+◌, ◌-◌, ◌%◌, ◌<◌, ◌≤◌, Bool, true, false, cond, eqb, List, [], ◌∷◌, Some, None, Ok, Err, Option, Result, sym, refl, ap, ◌∙◌, subst, ap₂, ⊎_elim, arith}
use Rattle.std.specs.Option.{option_eq}
use Rattle.std.proofs.lemmas.Option.{same_Some, none-some}
use Rattle.std.proofs.lemmas.Bool.{eq-eqb, ne_eqb, eqb-true, cases_eq, both_ways, or_left, false≢true}
use Rattle.controller.specs.declared.refusal.Refusal.{Refusal}
use Rattle.controller.specs.declared.refusal.Refusal.TheVariants.{NotNewest}
use Rattle.controller.specs.declared.answer.Answer.{Answer}
use Rattle.controller.specs.declared.answer.Answer.TheVariants.{Accepted, Noted}
use Rattle.controller.specs.Meaning.{State, Meaning, Lawful, among}
use Rattle.controller.specs.Rules.{Signals, Takes, Finishes, Gives, so, otherwise, marked, onward, finished, older, tops, newest, is_newest}
use Rattle.cascade.specs.Pile.{pile, marks, instead, renamed, replaced}
use Rattle.cascade.specs.Tie.{Paired, Hanging, Tied, Tells}
use Rattle.cascade.specs.Sides.{line-outer, line-inner, mark-k, mark-set-outer, mark-set-inner}
use Rattle.cascade.specs.Stacks.{renamed-k, renamed-other, replaced-plain, eqb-outer, eqb-shift}
use Rattle.cascade.specs.Laws.{at-outer, at_inner, k-in}
use Rattle.cascade.proofs.Firsts.{first-outer, first_inner, none-pile, k-high, k-out, inner-still, signals-some}
use Rattle.controller.proofs.Marks.{state-same}
use Rattle.controller.proofs.Stacks.{Below, among-tail, below-head, served-below, tops-among, older-among, older-out, newest-tops}
use Rattle.controller.proofs.Asking.{asks-map, asks-to, asks-yes, gives-map, turns-map}
use Rattle.cascade.proofs.Ties.{paired_same, refix, retie, told_of, told-after, told-tied, told-unseen, told-opened, told-stack, told-high, highs-unseen, waits-unseen}

-- The stack of a pile whose outer takes or finishes a line.

pub older-replaced : (k w : ℕ) (ins xs : List ℕ) → replaced k w ins (older xs) ≡ older (replaced k w ins xs)
older-replaced k w ins [] = refl
older-replaced k w ins (x ∷ xs) = refl

pub top-outer : (k w : ℕ) (ins xs : List ℕ) (n : ℕ) → n < w → (n ≡ k → ⊥) → tops (replaced k w ins xs) n ≡ tops xs n
top-outer k w ins [] n nw ne = refl
top-outer k w ins (x ∷ xs) n nw ne = eqb-outer k w ins n x nw ne

-- Of an inner line: k is newest outside.
pub top-inner : (k w : ℕ) (ins xs : List ℕ) (m : ℕ) → Paired k xs ins → tops xs k ≡ true → tops (replaced k w ins xs) (w + m) ≡ tops ins m
unfolding instead
top-inner k w ins [] m h top = absurd (false≢true top)
top-inner k w [] (x ∷ xs) m h top = absurd (both_ways (among k (x ∷ xs)) h (or_left (eqb k x) (among k xs) top))
top-inner k w (i ∷ []) (x ∷ xs) m h top = rw (← eqb-true k x top) (ap (eqb (w + m)) (renamed-k k w (i ∷ [])) ∙ eqb-shift k w m i)
top-inner k w (i ∷ (i' ∷ is)) (x ∷ xs) m h top = absurd h

-- Or is not.
pub top-not : (k w : ℕ) (ins xs : List ℕ) (m : ℕ) → ((x : ℕ) → among x xs ≡ true → x < w) → tops xs k ≡ false → tops (replaced k w ins xs) (w + m) ≡ false
top-not k w ins [] m h top = refl
top-not k w ins (x ∷ xs) m h top =
    let ne : x ≡ k → ⊥ = λ e. both_ways (eqb k x) top (eq-eqb k x (sym e)) in
    let lt : x < w = below-head w x xs h in
    ap (eqb (w + m)) (renamed-other k w ins x ne) ∙ ne_eqb (w + m) x (λ bad. omega arith)

module _ (a : Meaning) (k : ℕ) (b : Meaning) (la : Lawful a) (lb : Lawful b) (t : Tied a k b) where
  abbrev w : ℕ
  w = a.fixed.width

  pub takes_none : (a' : Meaning) → Takes a None a' → Tied a' k b × Takes (pile a k b) None (pile a' k b)
  takes_none a' h = (subst (λ x. Tied x k b) (sym h.1) t, (none-pile a k b la lb t h.0, ap (λ x. pile x k b) h.1))

  pub takes-outer : (n : ℕ) (a' : Meaning) → (n ≡ k → ⊥) → Takes a (Some n) a' → Tied a' k b × Takes (pile a k b) (Some n) (pile a' k b)
  takes-outer n a' ne h =
      let sure = h.0.ready.line in
      let nw = la.fixed.within n sure in (
        retie a k b a' t h.1 t.hanging.opened refl (paired_same k b.state.stack a.state.stack (n ∷ a.state.stack) (among-tail k n a.state.stack ne) t.hanging.paired),
        (first-outer a k b la lb t n ne h.0, ap (λ x. pile x k b) h.1 ∙ ap (onward (pile a k b)) (state-same refl refl (mark-set-outer a.fixed k b.fixed _ _ n false nw ne sure) (ap (λ x. x ∷ replaced k w b.state.stack a.state.stack) (renamed-other k w b.state.stack n ne)))),
      )

  -- The outer takes k, and the inner takes m.
  pub takes-inner : (m : ℕ) (a' b' : Meaning) → Takes a (Some k) a' → Takes b (Some m) b' → Hanging a' k b' × Takes (pile a k b) (Some (w + m)) (pile a' k b')
  unfolding instead
  takes-inner m a' b' h i =
      let sure = i.0.ready.line in
      let out = k-out a k b la lb t h.0.ready.urgent in
      let still = inner-still a k b la lb t h.0.ready.urgent in
      let here : among k (k ∷ a.state.stack) ≡ true = or_left (eqb k k) (among k a.state.stack) (eq-eqb k k refl) in
      let paired : Paired k (k ∷ a.state.stack) (m ∷ b.state.stack) = subst (λ xs. Paired k (k ∷ a.state.stack) (m ∷ xs)) (sym still) here in
      let waits = mark-k a.fixed k b.fixed (k-in a k b la lb t.hanging) a.state.waiting (marked b.state.waiting m false) false ∙ mark-set-inner a.fixed k b.fixed a.state.waiting b.state.waiting m false sure in
      let stack : replaced k w (m ∷ b.state.stack) (k ∷ a.state.stack) ≡ (w + m) ∷ replaced k w b.state.stack a.state.stack = ap₂ (λ x xs. x ∷ xs) (renamed-k k w (m ∷ b.state.stack)) (replaced-plain k w (m ∷ b.state.stack) a.state.stack out ∙ sym (replaced-plain k w b.state.stack a.state.stack out)) in (
        refix a k b a' b' t.hanging h.1 i.1 t.hanging.opened paired,
        (first_inner a k b la lb t m h.0 i.0, ap₂ (λ x y. pile x k y) h.1 i.1 ∙ ap (onward (pile a k b)) (state-same refl refl waits stack)),
      )

  -- Where the outer takes k, the inner has a line to take.
  pub takes-idle : (a' b' : Meaning) → Takes a (Some k) a' → Takes b None b' → ⊥
  takes-idle a' b' h i =
      let some = signals-some b (a.state.high k) t.calls (k-high a k b la lb t h.0.ready) in
      i.0 some.0 some.1.ready

  -- It is numbered without a wrap.
  pub takes-k : (m : ℕ) (a' b' : Meaning) → Takes a (Some k) a' → Takes b (Some m) b' → Hanging a' k b' × Takes (pile a k b) (Some ((w + m) % 65536)) (pile a' k b')
  takes-k m a' b' h i =
      let low : m < b.fixed.width = lb.fixed.within m i.0.ready.line in
      let narrow : w + b.fixed.width ≤ 256 = t.hanging.narrow in
      let fits : w + m ≡ (w + m) % 65536 = omega arith in
      let both = takes-inner m a' b' h i in
      (both.0, subst (λ j. Takes (pile a k b) (Some j) (pile a' k b')) fits both.1)

  -- And the outer is told of k.
  pub takes-told : (m : ℕ) (a₁ b' a₂ : Meaning) → Takes a (Some k) a₁ → Takes b (Some m) b' → Tells a₁ k b' a₂ → Tied a₂ k b' × Takes (pile a k b) (Some ((w + m) % 65536)) (pile a₂ k b') × (a₂.fixed.width ≡ w)
  takes-told m a₁ b' a₂ h i tells =
      let both = takes-k m a₁ b' h i in
      let kw : k < a₁.fixed.width = subst (λ (x : Meaning). k < x.fixed.width) (sym h.1) (k-in a k b la lb t.hanging) in (
        told-tied a₁ k b' a₂ both.0 tells,
        subst (λ x. Takes (pile a k b) (Some ((w + m) % 65536)) x) (sym (told-unseen a₁ k b' a₂ both.0 tells kw)) both.1,
        ap (λ (x : Meaning). x.fixed.width) (told-after a₁ k b' a₂ both.0.line tells ∙ ap (λ (x : Meaning). onward x (told_of a₁ k tells.calls)) h.1),
      )

  pub finishes-outer : (n : ℕ) → n < w → (n ≡ k → ⊥) → (r : Result Answer Refusal) (a' : Meaning) → Finishes a n r a' → Tied a' k b × Finishes (pile a k b) n r (pile a' k b)
  finishes-outer n nw ne r a' h = (
    asks-to (a.fixed.line n)
        (λ sure. asks-to (is_newest a.state n)
        (λ top g. retie a k b a' t g.1 t.hanging.opened refl (paired_same k b.state.stack a.state.stack (older a.state.stack) (older-among k n a.state.stack ne top) t.hanging.paired))
        (λ under g. subst (λ x. Tied x k b) (sym g.1) t))
        (λ nay g. subst (λ x. Tied x k b) (sym g.1) t)
        h,
    asks-map (a.fixed.line n) _ (line-outer a.fixed k b.fixed n nw ne)
        (λ sure. asks-map (is_newest a.state n) _ (top-outer k w b.state.stack a.state.stack n nw ne)
        (λ top g.
        let high = at-outer a k b la lb t.hanging a.state.high b.state.high n (nw, ne, sure) in
        gives-map (λ x. pile x k b) a
        (ap (λ v. cond v Accepted Noted) high)
        (ap (onward (pile a k b)) (state-same refl refl
        (mark-set-outer a.fixed k b.fixed a.state.waiting b.state.waiting n (a.state.high n) nw ne sure ∙ ap (marked (marks a.fixed k b.fixed a.state.waiting b.state.waiting) n) (sym high))
        (older-replaced k w b.state.stack a.state.stack)))
        g)
        (λ under g. turns-map (λ x. pile x k b) g))
        (λ nay g. turns-map (λ x. pile x k b) g)
        h,
  )

-- The newest line of a pile.

pub newest_none : (k w : ℕ) (ins xs : List ℕ) → None ≡ newest xs → None ≡ newest (replaced k w ins xs)
newest_none k w ins [] e = refl
newest_none k w ins (x ∷ xs) e = absurd (none-some x e)

pub newest-outer : (k w : ℕ) (ins xs : List ℕ) (n : ℕ) → (n ≡ k → ⊥) → Some n ≡ newest xs → Some n ≡ newest (replaced k w ins xs)
newest-outer k w ins [] n ne e = absurd (none-some n (sym e))
newest-outer k w ins (x ∷ xs) n ne e = let same : n ≡ x = same_Some n x e in ap Some (same ∙ sym (renamed-other k w ins x (λ bad. ne (same ∙ bad))))

-- k is newest outside, and so is an inner line inside.
pub newest-idle : (k : ℕ) (ins xs : List ℕ) → Paired k xs ins → Some k ≡ newest xs → None ≡ newest ins → ⊥
newest-idle k [] xs paired top none = both_ways (among k xs) paired (tops-among k xs (newest-tops xs k top))
newest-idle k (i ∷ is) xs paired top none = none-some i none

pub newest-inner : (k w : ℕ) (ins xs : List ℕ) (m : ℕ) → Below (65536 - w) ins → Some k ≡ newest xs → Some m ≡ newest ins → Some ((w + m) % 65536) ≡ newest (replaced k w ins xs)
unfolding instead
newest-inner k w [] xs m small top e = absurd (none-some m (sym e))
newest-inner k w (i ∷ is) [] m small top e = absurd (none-some k (sym top))
newest-inner k w (i ∷ is) (x ∷ xs) m small top e =
    let here : k ≡ x = same_Some k x top in
    let same : m ≡ i = same_Some m i e in
    let low : i < 65536 - w = below-head (65536 - w) i is small in
    let fits : (w + m) % 65536 ≡ w + i = omega arith in
    ap Some (fits ∙ sym (renamed-k k w (i ∷ is)) ∙ ap (renamed k w (i ∷ is)) here)

-- Finishing an inner line.

-- Whether k is newest, as it is told.
pub atop-newest : (k : ℕ) (xs : List ℕ) (line : Option ℕ) → line ≡ newest xs → option_eq eqb line (Some k) ≡ tops xs k
atop-newest k xs line e = ap (λ x. option_eq eqb x (Some k)) e ∙ by-stack xs
  where
    by-stack : (xs : List ℕ) → option_eq eqb (newest xs) (Some k) ≡ tops xs k
    by-stack [] = refl
    by-stack (x ∷ xs) = ⊎_elim (λ e. eq-eqb x k e ∙ sym (eq-eqb k x (sym e))) (λ ne. ne_eqb x k ne ∙ sym (ne_eqb k x (λ e. ne (sym e)))) (cases_eq x k)

pub paired-older : (k : ℕ) (ins xs : List ℕ) → Paired k xs ins → among k (older xs) ≡ false → Paired k (older xs) (older ins)
paired-older k [] xs h out = out
paired-older k (m ∷ []) xs h out = out
paired-older k (m ∷ (m' ∷ ms)) xs h out = absurd h

pub older-inner : (k w : ℕ) (ins xs : List ℕ) → among k (older xs) ≡ false → replaced k w (older ins) (older xs) ≡ older (replaced k w ins xs)
older-inner k w ins xs out = replaced-plain k w (older ins) (older xs) out ∙ sym (replaced-plain k w ins (older xs) out) ∙ older-replaced k w ins xs

module _ (a : Meaning) (k : ℕ) (b : Meaning) (la : Lawful a) (lb : Lawful b) (t : Tied a k b) (m : ℕ) (sure : b.fixed.line m ≡ true) where
  abbrev v : ℕ
  v = a.fixed.width

  line : (pile a k b).fixed.line (v + m) ≡ true
  line = line-inner a.fixed k b.fixed m ∙ sure

  -- k is not newest outside.
  pub finishes-under : tops a.state.stack k ≡ false → Finishes (pile a k b) (v + m) (Err NotNewest) (pile a k b)
  finishes-under under = so line (otherwise (top-not k v b.state.stack a.state.stack m (served-below a la) under) (refl, refl))

  -- The inner refuses.
  pub finishes-refused : (e : Refusal) (b' : Meaning) → tops a.state.stack k ≡ true → Finishes b m (Err e) b' → Tied a k b' × Finishes (pile a k b) (v + m) (Err e) (pile a k b')
  finishes-refused e b' top h =
      asks-to (is_newest b.state m)
      (λ here g. cc)
      (λ under g. (
        subst (λ y. Tied a k y) (sym g.1) t,
        so line (otherwise (top-inner k v b.state.stack a.state.stack m t.hanging.paired top ∙ under) (turns-map (λ y. pile a k y) g)),
      ))
      (asks-yes _ _ (b.fixed.line m) sure h)

  -- The inner finishes m, k is told, and the outer finishes k.
  module _ (x : Answer) (b' a₁ a₂ : Meaning) (r₂ : Result Answer Refusal) (top : tops a.state.stack k ≡ true) (h : Finishes b m (Ok x) b') (tells : Tells a k b' a₁) (o : Finishes a₁ k r₂ a₂) where
    kw : k < v
    kw = k-in a k b la lb t.hanging

    out : among k (older a.state.stack) ≡ false
    out = older-out a.fixed k a.state.stack la.state.climbs top

    inside : (tops b.state.stack m ≡ true) × Gives (cond (b.state.high m) Accepted Noted) (finished b.state m) b (Ok x) b'
    inside = asks-to (is_newest b.state m) (λ here g. (here, g)) (λ under g. cc) (asks-yes _ _ (b.fixed.line m) sure h)

    abbrev s₁ : State
    s₁ = told_of a k tells.calls

    outside : a₂ ≡ onward a (finished s₁ k)
    outside =
        let at : Finishes (onward a s₁) k r₂ a₂ = subst (λ y. Finishes y k r₂ a₂) (told-after a k b' a₁ t.hanging.line tells) o in
        (asks-yes _ _ (tops s₁.stack k) (ap (λ xs. tops xs k) (told-stack a k tells.calls) ∙ top) (asks-yes _ _ (a.fixed.line k) t.hanging.line at)).1

    finishes-tied : Tied a₂ k b'
    finishes-tied = record {
      hanging = refix a k b a₂ b' t.hanging outside inside.1.1
          (ap (λ (y : ℕ → Bool). y k) (told-opened a k tells.calls) ∙ t.hanging.opened)
          (subst (λ xs. Paired k (older xs) (older b.state.stack)) (sym (told-stack a k tells.calls)) (paired-older k b.state.stack a.state.stack t.hanging.paired out));
      calls = subst (λ (y : Meaning). Signals b' (y.state.high k)) (sym outside) (subst (Signals b') (sym (told-high a k tells.calls)) tells.signals);
    }

    high : (pile a k b).state.high (v + m) ≡ b.state.high m
    high = at_inner a k b la lb t.hanging a.state.high b.state.high (v + m) m refl sure

    after : pile a₂ k b' ≡ onward (pile a k b) (finished (pile a k b).state (v + m))
    after =
        let waits = mark-k a.fixed k b.fixed kw s₁.waiting (marked b.state.waiting m (b.state.high m)) (s₁.high k)
        ∙ waits-unseen a k kw b.fixed (marked b.state.waiting m (b.state.high m)) tells.calls
        ∙ mark-set-inner a.fixed k b.fixed a.state.waiting b.state.waiting m (b.state.high m) sure
        ∙ ap (marked (marks a.fixed k b.fixed a.state.waiting b.state.waiting) (v + m)) (sym high) in
        ap₂ (λ y z. pile y k z) outside inside.1.1 ∙ ap (onward (pile a k b)) (state-same
        (ap (λ y. marks a.fixed k b.fixed y b.state.opened) (told-opened a k tells.calls))
        (highs-unseen a k kw b.fixed b.state.high tells.calls)
        waits
        (ap (λ xs. replaced k v (older b.state.stack) (older xs)) (told-stack a k tells.calls) ∙ older-inner k v b.state.stack a.state.stack out))

    pub finishes-inner : Tied a₂ k b' × Finishes (pile a k b) (v + m) (Ok x) (pile a₂ k b')
    finishes-inner = (finishes-tied, so line (so (top-inner k v b.state.stack a.state.stack m t.hanging.paired top ∙ inside.0) (inside.1.0 ∙ ap (λ y. Ok (cond y Accepted Noted)) (sym high), after)))
