-- The pile's stack: what stands in it, and in what order.
use Rattle.std.specs.Prelude.{◌≡◌, ℕ, ◌+◌, ◌<◌, Bool, true, false, cond, ◌&&◌, ◌||◌, List, [], ◌∷◌, ◌==◌, ◌≢◌, nat_eq}
use Rattle.std.proofs.Math.Path.{refl, sym, ap, ap₂}
use Rattle.std.proofs.Common.{◌∙◌, arith}
use Rattle.std.proofs.Math.Bool.{or-false}
use Rattle.std.proofs.Math.Logic.{⊎_elim}
use Rattle.std.proofs.lemmas.Bool.{eq-eqb, ne_eqb, cases_eq, or_parts, both_ways}
use Rattle.controller.specs.Meaning.{Fixed, among, Beats, Climbs}
use Rattle.cascade.specs.Pile.{pile_fixed, instead, renamed, replaced}
use Rattle.cascade.specs.Tie.{Paired}
use Rattle.controller.proofs.Stacks.{Below, below-head, below-tail, below-not}
use Rattle.cascade.specs.Sides.{side-outer, side-inner}

module _ (k w : ℕ) where
  pub renamed-k : (ins : List ℕ) → renamed k w ins k ≡ instead w ins k
  unfolding renamed
  renamed-k ins = rw (eq-eqb k k refl)

  pub renamed-other : (ins : List ℕ) (x : ℕ) → (x ≢ k) → renamed k w ins x ≡ x
  unfolding renamed
  renamed-other ins x ne = rw (ne_eqb x k ne)

  pub renamed-none : (x : ℕ) → renamed k w [] x ≡ x
  unfolding renamed instead
  renamed-none x = either (x == k)
    where
      either : (b : Bool) → cond b x x ≡ x
      either true = refl
      either false = refl

  pub replaced-none : (xs : List ℕ) → replaced k w [] xs ≡ xs
  replaced-none [] = refl
  replaced-none (x ∷ xs) = ap₂ (λ y ys. y ∷ ys) (renamed-none x) (replaced-none xs)

  pub replaced-plain : (ins xs : List ℕ) → among k xs ≡ false → replaced k w ins xs ≡ xs
  replaced-plain ins [] nay = refl
  replaced-plain ins (x ∷ xs) nay =
      let parts = or_parts (k == x) (among k xs) nay in
      ap₂ (λ y ys. y ∷ ys)
      (renamed-other ins x (λ e. both_ways (k == x) parts.0 (eq-eqb k x (sym e))))
      (replaced-plain ins xs parts.1)

  -- An outer line other than k.
  pub eqb-outer : (ins : List ℕ) (n x : ℕ) → n < w → (n ≢ k) → (n == renamed k w ins x) ≡ (n == x)
  unfolding instead
  eqb-outer [] n x h ne = ap (nat_eq n) (renamed-none x)
  eqb-outer (m ∷ ms) n x h ne =
      ⊎_elim
      (λ e. rw e (ap (nat_eq n) (renamed-k (m ∷ ms)) ∙ ne_eqb n (w + m) (λ bad. omega arith) ∙ sym (ne_eqb n k ne)))
      (λ other. ap (nat_eq n) (renamed-other (m ∷ ms) x other))
      (cases_eq x k)

  pub among-outer : (ins xs : List ℕ) (n : ℕ) → n < w → (n ≢ k) → among n (replaced k w ins xs) ≡ among n xs
  among-outer ins [] n h ne = refl
  among-outer ins (x ∷ xs) n h ne = ap₂ (λ p q. p || q) (eqb-outer ins n x h ne) (among-outer ins xs n h ne)

  -- k itself, where an inner line stands for it.
  pub among_one : (m : ℕ) (xs : List ℕ) → k < w → among k (replaced k w (m ∷ []) xs) ≡ false
  unfolding instead
  among_one m [] kw = refl
  among_one m (x ∷ xs) kw = ap₂ (λ p q. p || q)
      (⊎_elim
      (λ e. rw e (ap (nat_eq k) (renamed-k (m ∷ [])) ∙ ne_eqb k (w + m) (λ bad. omega arith)))
      (λ other. ap (nat_eq k) (renamed-other (m ∷ []) x other) ∙ ne_eqb k x (λ e. other (sym e)))
      (cases_eq x k))
      (among_one m xs kw)

  pub among-k : (ins xs : List ℕ) → k < w → Paired k xs ins → among k (replaced k w ins xs) ≡ false
  among-k [] xs kw nay = ap (among k) (replaced-none xs) ∙ nay
  among-k (m ∷ []) xs kw sure = among_one m xs kw
  among-k (m ∷ (m' ∷ ms)) xs kw bad = absurd bad

  -- An inner line.
  pub eqb-shift : (i j : ℕ) → (w + i == w + j) ≡ (i == j)
  eqb-shift i j =
      ⊎_elim
      (λ e. eq-eqb (w + i) (w + j) (ap (λ n. w + n) e) ∙ sym (eq-eqb i j e))
      (λ ne. ne_eqb (w + i) (w + j) (λ bad. ne (omega arith)) ∙ sym (ne_eqb i j ne))
      (cases_eq i j)

  pub among-line : (m i : ℕ) (xs : List ℕ) → Below w xs → among (w + i) (replaced k w (m ∷ []) xs) ≡ (among k xs && i == m)
  unfolding instead
  among-line m i [] h = refl
  among-line m i (x ∷ xs) h =
      ⊎_elim
      (λ e.
      let head : nat_eq (w + i) (renamed k w (m ∷ []) x) ≡ nat_eq i m = rw e (ap (nat_eq (w + i)) (renamed-k (m ∷ [])) ∙ eqb-shift i m) in
      let here : nat_eq k x ≡ true = eq-eqb k x (sym e) in
      ap₂ (λ p q. p || q) head (among-line m i xs (below-tail w x xs h)) ∙ rw here (absorbed (i == m) (among k xs)))
      (λ other.
      let head : nat_eq (w + i) (renamed k w (m ∷ []) x) ≡ false = ap (nat_eq (w + i)) (renamed-other (m ∷ []) x other) ∙ ne_eqb (w + i) x (λ bad. let lt : x < w = below-head w x xs h in omega arith) in
      let here : nat_eq k x ≡ false = ne_eqb k x (λ e. other (sym e)) in
      ap₂ (λ p q. p || q) head (among-line m i xs (below-tail w x xs h)) ∙ rw here)
      (cases_eq x k)
    where
      absorbed : (p q : Bool) → (p || (q && p)) ≡ p
      absorbed true q = refl
      absorbed false true = refl
      absorbed false false = refl

  pub among-inner : (ins xs : List ℕ) (i : ℕ) → Below w xs → Paired k xs ins → among (w + i) (replaced k w ins xs) ≡ among i ins
  among-inner [] xs i h nay = ap (among (w + i)) (replaced-none xs) ∙ below-not w xs (w + i) h (omega arith)
  among-inner (m ∷ []) xs i h sure = among-line m i xs h ∙ rw sure (sym (or-false (i == m)))
  among-inner (m ∷ (m' ∷ ms)) xs i h bad = absurd bad

module _ (f : Fixed) (k : ℕ) (g : Fixed) where
  pub class-renamed : (ins : List ℕ) (x : ℕ) → x < f.width → (pile_fixed f k g).class (renamed k f.width ins x) ≡ f.class x
  unfolding instead
  class-renamed [] x h = ap (pile_fixed f k g).class (renamed-none k f.width x) ∙ side-outer f.width _ _ x h
  class-renamed (m ∷ ms) x h =
      ⊎_elim
      (λ e. rw e (ap (pile_fixed f k g).class (renamed-k k f.width (m ∷ ms)) ∙ side-inner f.width _ _ m))
      (λ other. ap (pile_fixed f k g).class (renamed-other k f.width (m ∷ ms) x other) ∙ side-outer f.width _ _ x h)
      (cases_eq x k)

  -- n of the pile has the class of x.
  pub beats-pile : (ins xs : List ℕ) (n x : ℕ) → Below f.width xs → (pile_fixed f k g).class n ≡ f.class x → Beats f x xs → Beats (pile_fixed f k g) n (replaced k f.width ins xs)
  beats-pile ins [] n x h e beats = tt
  beats-pile ins (y ∷ ys) n x h e beats = let c = class-renamed ins y (below-head f.width y ys h) in let b : f.class x < f.class y = beats in omega arith

  pub beats-part : (ins xs : List ℕ) (n x : ℕ) → Below f.width xs → (pile_fixed f k g).class n ≡ f.class x → Beats (pile_fixed f k g) n (replaced k f.width ins xs) → Beats f x xs
  beats-part ins [] n x h e beats = tt
  beats-part ins (y ∷ ys) n x h e beats = let c = class-renamed ins y (below-head f.width y ys h) in let b : (pile_fixed f k g).class n < (pile_fixed f k g).class (renamed k f.width ins y) = beats in omega arith

  pub climbs-pile : (ins xs : List ℕ) → Below f.width xs → Climbs f xs → Climbs (pile_fixed f k g) (replaced k f.width ins xs)
  climbs-pile ins [] h up = tt
  climbs-pile ins (x ∷ xs) h up = (beats-pile ins xs (renamed k f.width ins x) x (below-tail f.width x xs h) (class-renamed ins x (below-head f.width x xs h)) up.0, climbs-pile ins xs (below-tail f.width x xs h) up.1)
