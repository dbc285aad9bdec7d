-- What a pile has at an outer line and at an inner one.
use Rattle.std.specs.Prelude.{◌≡◌, ℕ, ◌+◌, ◌-◌, ◌<◌, ◌≤◌, Bool, true, false, cond, ◌&&◌, ◌⊎◌, ◌≢◌, nat_lt}
use Rattle.std.proofs.Math.Path.{refl, sym, ap, fun_ext}
use Rattle.std.proofs.Common.{subst, ◌∙◌, inl, inr, arith}
use Rattle.std.proofs.Math.Bool.{and-true, and-false}
use Rattle.std.proofs.Math.Logic.{⊎_elim}
use Rattle.std.proofs.Math.Nat.{add-sub_cancel_left}
use Rattle.std.proofs.lemmas.Bool.{lt-ltb, le-ltb, eq-eqb, ne_eqb, cases_eq, cases_lt, both_ways}
use Rattle.controller.specs.Meaning.{Fixed}
use Rattle.controller.specs.Rules.{marked}
use Rattle.controller.proofs.Marks.{marked-here, marked_other}
use Rattle.cascade.specs.Pile.{side, pile_line, marks}

pub side-outer : {X : Type 0} (w : ℕ) (f g : ℕ → X) (n : ℕ) → n < w → side w f g n ≡ f n
unfolding side
side-outer w f g n h = rw (lt-ltb n w h)

pub side-inner : {X : Type 0} (w : ℕ) (f g : ℕ → X) (m : ℕ) → side w f g (w + m) ≡ g m
unfolding side
side-inner w f g m = let h : w ≤ w + m = omega arith in rw (le-ltb (w + m) w h, add-sub_cancel_left w m)

pub whose : (w n : ℕ) → (n < w) ⊎ ((m : ℕ) × (n ≡ w + m))
whose w n = ⊎_elim inl (λ h. inr (n - w, omega arith)) (cases_lt n w)

module _ (f : Fixed) (k : ℕ) (g : Fixed) where
  pub line-outer : (n : ℕ) → n < f.width → (n ≢ k) → pile_line f k g n ≡ f.line n
  unfolding pile_line
  line-outer n h ne = side-outer f.width _ _ n h ∙ rw (ne_eqb n k ne) (and-true (f.line n))

  pub line-k : k < f.width → pile_line f k g k ≡ false
  unfolding pile_line
  line-k h = side-outer f.width _ _ k h ∙ rw (eq-eqb k k refl) (and-false (f.line k))

  pub line-inner : (m : ℕ) → pile_line f k g (f.width + m) ≡ g.line m
  unfolding pile_line
  line-inner m = side-inner f.width _ _ m

  -- A line of the pile is an outer line that is not k, or an inner line.
  pub line-cases : k < f.width → (n : ℕ) → pile_line f k g n ≡ true → ((n < f.width) × (n ≢ k) × (f.line n ≡ true)) ⊎ ((m : ℕ) × (n ≡ f.width + m) × (g.line m ≡ true))
  line-cases kw n sure =
      ⊎_elim
      (λ h. ⊎_elim
      (λ e. absurd (both_ways (pile_line f k g k) (line-k kw) (subst (λ j. pile_line f k g j ≡ true) e sure)))
      (λ ne. inl (h, ne, sym (line-outer n h ne) ∙ sure))
      (cases_eq n k))
      (λ p. inr (p.0, p.1, sym (line-inner p.0) ∙ subst (λ j. pile_line f k g j ≡ true) p.1 sure))
      (whose f.width n)

  pub mark-outer : (x y : ℕ → Bool) (n : ℕ) → n < f.width → (n ≢ k) → f.line n ≡ true → marks f k g x y n ≡ x n
  unfolding marks
  mark-outer x y n h ne sure = rw (line-outer n h ne ∙ sure) (side-outer f.width x y n h)

  pub mark-inner : (x y : ℕ → Bool) (m : ℕ) → g.line m ≡ true → marks f k g x y (f.width + m) ≡ y m
  unfolding marks
  mark-inner x y m sure = rw (line-inner m ∙ sure) (side-inner f.width x y m)

  -- Two pairs of marks that agree at each line of the pile are one in the pile.
  pub mark-same : (x y x' y' : ℕ → Bool) → ((j : ℕ) → pile_line f k g j ≡ true → side f.width x y j ≡ side f.width x' y' j) → marks f k g x y ≡ marks f k g x' y'
  unfolding marks
  mark-same x y x' y' h = fun_ext (λ j. masked (pile_line f k g j) _ _ (h j))
    where
      masked : (b p q : Bool) → (b ≡ true → p ≡ q) → (b && p) ≡ (b && q)
      masked true p q e = e refl
      masked false p q e = refl

  -- What is marked at k does not show.
  pub mark-k : k < f.width → (x y : ℕ → Bool) (v : Bool) → marks f k g (marked x k v) y ≡ marks f k g x y
  mark-k kw x y v = mark-same _ _ _ _ (λ j sure.
      ⊎_elim
      (λ p. side-outer f.width _ _ j p.0 ∙ marked_other x k j v p.1 ∙ sym (side-outer f.width _ _ j p.0))
      (λ p. rw p.1 (side-inner f.width _ _ p.0 ∙ sym (side-inner f.width _ _ p.0)))
      (line-cases kw j sure))

  pub mark-set-outer : (x y : ℕ → Bool) (n : ℕ) (v : Bool) → n < f.width → (n ≢ k) → f.line n ≡ true → marks f k g (marked x n v) y ≡ marked (marks f k g x y) n v
  unfolding marks side
  mark-set-outer x y n v h ne sure = fun_ext (λ j.
      ⊎_elim
      (λ e. rw e (mark-outer (marked x n v) y n h ne sure ∙ marked-here x n v ∙ sym (marked-here (marks f k g x y) n v)))
      (λ other. rw (ne_eqb j n other))
      (cases_eq j n))

  pub mark-set-inner : (x y : ℕ → Bool) (m : ℕ) (v : Bool) → g.line m ≡ true → marks f k g x (marked y m v) ≡ marked (marks f k g x y) (f.width + m) v
  unfolding marks
  mark-set-inner x y m v sure = fun_ext (λ j.
      ⊎_elim
      (λ e. rw e (mark-inner x (marked y m v) m sure ∙ marked-here y m v ∙ sym (marked-here (marks f k g x y) (f.width + m) v)))
      (λ other. beside j other ∙ sym (marked_other (marks f k g x y) (f.width + m) j v other))
      (cases_eq j (f.width + m)))
    where
      beside : (j : ℕ) → (j ≢ f.width + m) → marks f k g x (marked y m v) j ≡ marks f k g x y j
      beside j other = ap (λ b. pile_line f k g j && b)
          (⊎_elim
          (λ h. side-outer f.width _ _ j h ∙ sym (side-outer f.width _ _ j h))
          (λ p. rw p.1 (side-inner f.width _ _ p.0 ∙ marked_other y m p.0 v (λ e. other (p.1 ∙ ap (λ i. f.width + i) e)) ∙ sym (side-inner f.width _ _ p.0)))
          (whose f.width j))

  -- Where neither part has a mark, the pile has none.
  pub marks-none : (x y : ℕ → Bool) → ((n : ℕ) → x n ≡ false) → ((n : ℕ) → y n ≡ false) → (n : ℕ) → marks f k g x y n ≡ false
  unfolding marks side
  marks-none x y no-x no-y n = ap (λ b. pile_line f k g n && b) (either (nat_lt n f.width)) ∙ and-false (pile_line f k g n)
    where
      either : (b : Bool) → cond b (x n) (y (n - f.width)) ≡ false
      either true = no-x n
      either false = no-y (n - f.width)
