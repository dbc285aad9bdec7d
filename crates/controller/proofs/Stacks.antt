-- Stacks: lists of lines that climb in class.
use Rattle.std.proofs.Common.{◌≡◌, ℕ, ◌+◌, ◌<◌, ◌≤◌, Bool, true, false, cond, ◌&&◌, ◌||◌, eqb, ltb, ◌≢◌, List, [], ◌∷◌, length, Some, sym, refl, ap, ◌∙◌, subst, ap₂, ⊎_elim, arith}
use Rattle.std.proofs.lemmas.Bool.{eq-eqb, ne_eqb, eqb-true, cases_eq, or_cases, or_left, or_right, and_parts, ltb-true, false_from_ne_true, false≢true}
use Rattle.controller.specs.Meaning.{Fixed, Meaning, Lawful, class_count, among, Beats, Climbs}
use Rattle.controller.specs.Rules.{newest, older, tops}
use Rattle.controller.proofs.Marks.{at_mark}

pub among-head : (x : ℕ) (xs : List ℕ) → among x (x ∷ xs) ≡ true
among-head x xs = or_left (eqb x x) (among x xs) (eq-eqb x x refl)

-- The newest line is in service.
pub tops-among : (n : ℕ) (xs : List ℕ) → tops xs n ≡ true → among n xs ≡ true
tops-among n [] top = absurd (false≢true top)
tops-among n (x ∷ xs) top = or_left (eqb n x) (among n xs) top

-- A line that beats the newest is of smaller class than every line of the stack, so it is none of them.
pub beats-all : (f : Fixed) (xs : List ℕ) (n y : ℕ) → Climbs f xs → Beats f n xs → among y xs ≡ true → f.class n < f.class y
beats-all f [] n y up beats sure = absurd (false≢true sure)
beats-all f (x ∷ xs) n y up beats sure =
    ⊎_elim
    (λ e. subst (λ j. f.class n < f.class j) (sym (eqb-true y x e)) beats)
    (λ more. let lt : f.class x < f.class y = beats-all f xs x y up.1 up.0 more in let lt' : f.class n < f.class x = beats in omega arith)
    (or_cases (eqb y x) (among y xs) sure)

pub beats-none : (f : Fixed) (xs : List ℕ) (n : ℕ) → Climbs f xs → Beats f n xs → among n xs ≡ false
beats-none f xs n up beats =
    false_from_ne_true (among n xs) (λ sure. let lt : f.class n < f.class n = beats-all f xs n n up beats sure in omega arith)

-- No line of the stack is of smaller class than the newest.
pub none-smaller : (f : Fixed) (xs : List ℕ) (n j : ℕ) → Climbs f xs → tops xs n ≡ true → among j xs ≡ true → f.class j < f.class n → ⊥
none-smaller f [] n j up top sure less = false≢true top
none-smaller f (x ∷ xs) n j up top sure less =
    let less' : f.class j < f.class x = subst (λ k. f.class j < f.class k) (eqb-true n x top) less in
    ⊎_elim
    (λ e. let same : f.class j ≡ f.class x = ap f.class (eqb-true j x e) in omega arith)
    (λ more. let lt : f.class x < f.class j = beats-all f xs x j up.1 up.0 more in omega arith)
    (or_cases (eqb j x) (among j xs) sure)

-- As the classes climb, the newest leaves room below it for all the others.
pub climbs-few : (f : Fixed) (x : ℕ) (xs : List ℕ) → Climbs f (x ∷ xs) → ((j : ℕ) → among j (x ∷ xs) ≡ true → f.class j < class_count) → f.class x + length xs < class_count
climbs-few f x [] up classed = let lt : f.class x < class_count = classed x (among-head x []) in omega arith
climbs-few f x (y ∷ ys) up classed =
    let rest : f.class y + length ys < class_count = climbs-few f y ys up.1 (λ j sure. classed j (or_right (eqb j x) (among j (y ∷ ys)) sure)) in
    let lt : f.class x < f.class y = up.0 in
    omega arith

-- A stack without its newest line climbs too.
pub climbs-older : (f : Fixed) (xs : List ℕ) → Climbs f xs → Climbs f (older xs)
climbs-older f [] up = tt
climbs-older f (x ∷ xs) up = up.1

-- It has the same lines but for the newest.
pub among-older : (f : Fixed) (n : ℕ) (xs : List ℕ) → Climbs f xs → tops xs n ≡ true → (j : ℕ) → among j (older xs) ≡ cond (eqb j n) false (among j xs)
among-older f n [] up top j = absurd (false≢true top)
among-older f n (x ∷ xs) up top j =
    at_mark (λ b. among j xs ≡ b) (λ k. among k (x ∷ xs)) n j false
    (λ e. ap (λ k. among k xs) (e ∙ eqb-true n x top) ∙ beats-none f xs x up.1 up.0)
    (λ ne. sym (ap (λ b. b || among j xs) (ne_eqb j x (λ e. ne (e ∙ sym (eqb-true n x top))))))

-- A stack is known by its lines: two that climb and have the same lines are the same.
pub one-order : (f : Fixed) (xs ys : List ℕ) → Climbs f xs → Climbs f ys → ((n : ℕ) → among n xs ≡ among n ys) → xs ≡ ys
one-order f [] [] up up' same = refl
one-order f [] (y ∷ ys) up up' same = absurd (false≢true (same y ∙ among-head y ys))
one-order f (x ∷ xs) [] up up' same = absurd (false≢true (sym (same x) ∙ among-head x xs))
one-order f (x ∷ xs) (y ∷ ys) up up' same =
    let head : x ≡ y =
    ⊎_elim
    (λ e. eqb-true x y e)
    (λ later. ⊎_elim
    (λ e. sym (eqb-true y x e))
    (λ later'.
    let a : f.class y < f.class x = beats-all f ys y x up'.1 up'.0 later in
    let b : f.class x < f.class y = beats-all f xs x y up.1 up.0 later' in
    absurd (omega arith))
    (or_cases (eqb y x) (among y xs) (same y ∙ among-head y ys)))
    (or_cases (eqb x y) (among x ys) (sym (same x) ∙ among-head x xs)) in
    let up'' : Climbs f (x ∷ ys) = subst (λ z. Climbs f (z ∷ ys)) (sym head) up' in
    let same' : (n : ℕ) → among n (x ∷ xs) ≡ among n (x ∷ ys) = λ n. same n ∙ ap (λ z. among n (z ∷ ys)) (sym head) in
    ap₂ (λ z zs. z ∷ zs) head (one-order f xs ys up.1 up'.1 (λ n. rest n up'' same'))
  where
    rest : (n : ℕ) → Climbs f (x ∷ ys) → ((n : ℕ) → among n (x ∷ xs) ≡ among n (x ∷ ys)) → among n xs ≡ among n ys
    rest n up'' same' =
        ⊎_elim
        (λ e. ap (λ m. among m xs) e ∙ beats-none f xs x up.1 up.0 ∙ sym (beats-none f ys x up''.1 up''.0) ∙ sym (ap (λ m. among m ys) e))
        (λ ne. let off : eqb n x ≡ false = ne_eqb n x ne in
        sym (ap (λ b. b || among n xs) off) ∙ same' n ∙ ap (λ b. b || among n ys) off)
        (cases_eq n x)

-- Every line of the stack is below w.
abbrev pub Below : ℕ → List ℕ → Type 0
Below w xs = (x : ℕ) → among x xs ≡ true → x < w

pub below-head : (w x : ℕ) (xs : List ℕ) → Below w (x ∷ xs) → x < w
below-head w x xs h = h x (among-head x xs)

pub below-tail : (w x : ℕ) (xs : List ℕ) → Below w (x ∷ xs) → Below w xs
below-tail w x xs h y sure = h y (or_right (eqb y x) (among y xs) sure)

pub below-not : (w : ℕ) (xs : List ℕ) (n : ℕ) → Below w xs → w ≤ n → among n xs ≡ false
below-not w xs n h le = false_from_ne_true (among n xs) (λ sure. let lt : n < w = h n sure in omega arith)

-- So it is in every lawful state, at the controller's width.
pub served-below : (m : Meaning) → Lawful m → Below m.fixed.width m.state.stack
served-below m l x sure = l.fixed.within x (l.state.served_line x sure)

-- A line other than the newest, as the stack grows and shrinks.
pub among-tail : (k n : ℕ) (xs : List ℕ) → n ≢ k → among k (n ∷ xs) ≡ among k xs
among-tail k n xs ne = ap (λ b. b || among k xs) (ne_eqb k n (λ e. ne (sym e)))

pub older-among : (k n : ℕ) (xs : List ℕ) → n ≢ k → tops xs n ≡ true → among k (older xs) ≡ among k xs
older-among k n [] ne top = refl
older-among k n (x ∷ xs) ne top = sym (among-tail k x xs (λ e. ne (eqb-true n x top ∙ e)))

-- The newest line stands once in a stack that climbs.
pub older-out : (f : Fixed) (k : ℕ) (xs : List ℕ) → Climbs f xs → tops xs k ≡ true → among k (older xs) ≡ false
older-out f k [] up top = refl
older-out f k (x ∷ xs) up top = ap (λ j. among j xs) (eqb-true k x top) ∙ beats-none f xs x up.1 up.0

-- What is told to be the newest line.
pub newest-tops : (xs : List ℕ) (n : ℕ) → Some n ≡ newest xs → tops xs n ≡ true
newest-tops [] n e = cc
newest-tops (x ∷ xs) n e = let same : n ≡ x = cc in eq-eqb n x same

-- A list of numbers that are all below w, as computed.
abbrev pub all_below : ℕ → List ℕ → Bool
all_below w [] = true
all_below w (x ∷ xs) = ltb x w && all_below w xs

pub among_below : (w : ℕ) (xs : List ℕ) → all_below w xs ≡ true → Below w xs
among_below w [] all x on = absurd (false≢true on)
among_below w (y ∷ ys) all x on =
    let parts = and_parts (ltb y w) (all_below w ys) all in
    ⊎_elim
    (λ e. subst (λ z. z < w) (sym (eqb-true x y e)) (ltb-true y w parts.0))
    (among_below w ys parts.1 x)
    (or_cases (eqb x y) (among x ys) on)
