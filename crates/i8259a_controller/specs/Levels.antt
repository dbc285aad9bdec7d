-- A byte's levels as marks and as a stack.
use Rattle.std.specs.Prelude.{◌≡◌, ℕ, zero, suc, ◌+◌, ◌-◌, ◌^◌, ◌<◌, ◌≤◌, Bool, true, false, cond, not, ◌&&◌, ◌||◌, ◌≢◌, ◌⊎◌, List, [], ◌∷◌, Some, ◌==◌, refl}
use Rattle.std.proofs.Common.{sym, ap, ◌∙◌, inl, inr, ⊎_elim, arith}
use Rattle.std.proofs.lemmas.Nat.{or_lt, and_le_l, pow_below}
use Rattle.std.proofs.lemmas.Bool.{cases_eq, cases_lt, cond_both, eq-eqb, ne_eqb, lt-ltb, le-ltb, and_left, and_right, or_right}
use mathlib.Core.Bool.{and-true, or-false, or_comm}
use Rattle.controller.specs.Meaning.{among, Beats, Climbs}
use Rattle.controller.specs.Rules.{marked, newest, older, tops}
use Rattle.controller.proofs.Marks.{marks-set}
use Rattle.controller.proofs.Stacks.{one-order, climbs-older, among-older}
use Rattle.i8259a.specs.Bits.{bit, with, without, lowest, lowest_from}
use Rattle.i8259a.specs.Chip.{is_line}
use Rattle.i8259a.proofs.Sets.{bit-with, bit-without}
use Rattle.i8259a_controller.specs.Told.{eight, has, levels_from}
use Rattle.i8259a_controller.specs.Steps.{is_atop}

-- One level more or less is a byte still.
pub with_byte : (x n : ℕ) → x < 256 → n < 8 → with x n < 256
with_byte x n h l = or_lt 8 x (2 ^ n) h (pow_below n 8 l)

pub without-byte : (x n : ℕ) → x < 256 → without x n < 256
without-byte x n h = omega (arith, and_le_l x (255 - 2 ^ n))

-- Past level 7 a byte has no level.
has-past : (x j : ℕ) → 8 ≤ j → has x j ≡ false
has-past x j le = and_left (is_line j) (bit x j) (le-ltb j 8 le)

pub has_in : (x j : ℕ) → j < 8 → has x j ≡ bit x j
has_in x j lt = ap (λ b. b && bit x j) (lt-ltb j 8 lt)

pub has-with : (x n j : ℕ) → n < 8 → has (with x n) j ≡ (has x j || j == n)
has-with x n j h =
    ⊎_elim
    (λ lt. has_in (with x n) j lt ∙ bit-with x n j h lt ∙ ap (λ b. b || j == n) (sym (has_in x j lt)))
    (λ le. has-past (with x n) j le ∙ sym (ap (λ b. b || j == n) (has-past x j le) ∙ ne_eqb j n (λ e. omega arith)))
    (cases_lt j 8)

pub has-without : (x n j : ℕ) → n < 8 → has (without x n) j ≡ (has x j && not (j == n))
has-without x n j h =
    ⊎_elim
    (λ lt. has_in (without x n) j lt ∙ bit-without x n j h lt ∙ ap (λ b. b && not (j == n)) (sym (has_in x j lt)))
    (λ le. has-past (without x n) j le ∙ sym (ap (λ b. b && not (j == n)) (has-past x j le)))
    (cases_lt j 8)

-- At the level itself, and at any other.
pub with-here : (x n : ℕ) → n < 8 → has (with x n) n ≡ true
with-here x n h = has-with x n n h ∙ or_right (has x n) _ (eq-eqb n n refl)

pub with-other : (x n j : ℕ) → n < 8 → j ≢ n → has (with x n) j ≡ has x j
with-other x n j h ne = has-with x n j h ∙ ap (λ b. has x j || b) (ne_eqb j n ne) ∙ or-false (has x j)

pub without-here : (x n : ℕ) → n < 8 → has (without x n) n ≡ false
without-here x n h = has-without x n n h ∙ and_right (has x n) _ (ap not (eq-eqb n n refl))

pub without_other : (x n j : ℕ) → n < 8 → j ≢ n → has (without x n) j ≡ has x j
without_other x n j h ne = has-without x n j h ∙ ap (λ b. has x j && not b) (ne_eqb j n ne) ∙ and-true (has x j)

-- As marks.
pub with-marks : (x n : ℕ) → n < 8 → has (with x n) ≡ marked (has x) n true
with-marks x n h = marks-set (has x) (has (with x n)) n true (with-here x n h) (λ j ne. with-other x n j h ne)

pub without-marks : (x n : ℕ) → n < 8 → has (without x n) ≡ marked (has x) n false
without-marks x n h = marks-set (has x) (has (without x n)) n false (without-here x n h) (λ j ne. without_other x n j h ne)

-- As a stack: the lowest level first, each lower than the next.
beats-from : (k n x m : ℕ) → m < n → Beats eight m (levels_from k n x)
unfolding levels_from
beats-from zero n x m lt = tt
beats-from (suc k) n x m lt =
    cond_both (bit x n) (n ∷ levels_from k (suc n) x) (levels_from k (suc n) x) (Beats eight m) (λ _. lt) (λ _. beats-from k (suc n) x m (omega arith))

climbs-from : (k n x : ℕ) → Climbs eight (levels_from k n x)
unfolding levels_from
climbs-from zero n x = tt
climbs-from (suc k) n x =
    cond_both (bit x n) (n ∷ levels_from k (suc n) x) (levels_from k (suc n) x) (Climbs eight)
    (λ _. (beats-from k (suc n) x n (omega arith), climbs-from k (suc n) x)) (λ _. climbs-from k (suc n) x)

pub climbs : (x : ℕ) → Climbs eight (levels_from 8 0 x)
climbs x = climbs-from 8 0 x

among-out : (k n x j : ℕ) → (j < n) ⊎ (n + k ≤ j) → among j (levels_from k n x) ≡ false
unfolding levels_from
among-out zero n x j out = refl
among-out (suc k) n x j out =
    let apart : j ≢ n = λ e. ⊎_elim (λ lt. omega arith) (λ le. omega arith) out in
    let rest : among j (levels_from k (suc n) x) ≡ false =
    among-out k (suc n) x j (⊎_elim (λ lt. inl (omega arith)) (λ le. inr (omega arith)) out) in
    cond_both (bit x n) (n ∷ levels_from k (suc n) x) (levels_from k (suc n) x) (λ xs. among j xs ≡ false)
    (λ _. ap (λ b. b || among j (levels_from k (suc n) x)) (ne_eqb j n apart) ∙ rest)
    (λ _. rest)

among_in : (k n x j : ℕ) → n ≤ j → j < n + k → among j (levels_from k n x) ≡ bit x j
unfolding levels_from
among_in zero n x j le lt = absurd (omega arith)
among_in (suc k) n x j le lt =
    let later : j ≢ n → among j (levels_from k (suc n) x) ≡ bit x j = λ ne. among_in k (suc n) x j (omega arith) (omega arith) in
    cond_both (bit x n) (n ∷ levels_from k (suc n) x) (levels_from k (suc n) x) (λ xs. among j xs ≡ bit x j)
    (λ on. ⊎_elim
    (λ e. ap (λ b. b || among j (levels_from k (suc n) x)) (eq-eqb j n e) ∙ sym (ap (bit x) e ∙ on))
    (λ ne. ap (λ b. b || among j (levels_from k (suc n) x)) (ne_eqb j n ne) ∙ later ne)
    (cases_eq j n))
    (λ off. ⊎_elim (λ e. among-out k (suc n) x j (inl (omega arith)) ∙ sym (ap (bit x) e ∙ off)) later (cases_eq j n))

-- In service are the levels of the byte.
pub members : (x n : ℕ) → among n (levels_from 8 0 x) ≡ has x n
members x n =
    ⊎_elim
    (λ lt. among_in 8 0 x n (omega arith) lt ∙ sym (has_in x n lt))
    (λ le. among-out 8 0 x n (inr le) ∙ sym (has-past x n le))
    (cases_lt n 8)

newest-from : (k n x : ℕ) → newest (levels_from k n x) ≡ lowest_from k n x
unfolding levels_from lowest_from
newest-from zero n x = refl
newest-from (suc k) n x =
    at (bit x n) (newest-from k (suc n) x)
  where
    at : (b : Bool) → newest (levels_from k (suc n) x) ≡ lowest_from k (suc n) x
        → newest (cond b (n ∷ levels_from k (suc n) x) (levels_from k (suc n) x)) ≡ cond b (Some n) (lowest_from k (suc n) x)
    at true e = refl
    at false e = e

-- The newest is the lowest.
pub newest-lowest : (x : ℕ) → newest (levels_from 8 0 x) ≡ lowest x
newest-lowest x = newest-from 8 0 x

pub tops-atop : (x n : ℕ) → tops (levels_from 8 0 x) n ≡ is_atop (lowest x) n
tops-atop x n = at (levels_from 8 0 x) ∙ ap (λ o. is_atop o n) (newest-lowest x)
  where
    at : (xs : List ℕ) → tops xs n ≡ is_atop (newest xs) n
    at [] = refl
    at (y ∷ ys) = refl

-- A list that climbs and has a byte's levels is its stack.
is-stack : (x : ℕ) (xs : List ℕ) → Climbs eight xs → ((n : ℕ) → among n xs ≡ has x n) → levels_from 8 0 x ≡ xs
is-stack x xs up same = one-order eight (levels_from 8 0 x) xs (climbs x) up (λ n. members x n ∙ sym (same n))

-- One level on top.
pub stack-with : (x n : ℕ) → n < 8 → Beats eight n (levels_from 8 0 x) → levels_from 8 0 (with x n) ≡ n ∷ levels_from 8 0 x
stack-with x n h beats =
    is-stack (with x n) (n ∷ levels_from 8 0 x) (beats, climbs x)
    (λ j. ap (λ b. (j == n) || b) (members x j) ∙ or_comm (j == n) (has x j) ∙ sym (has-with x n j h))

-- The top taken off.
pub stack-without : (x n : ℕ) → n < 8 → tops (levels_from 8 0 x) n ≡ true → levels_from 8 0 (without x n) ≡ older (levels_from 8 0 x)
stack-without x n h top =
    is-stack (without x n) (older (levels_from 8 0 x)) (climbs-older eight (levels_from 8 0 x) (climbs x))
    (λ j. among-older eight n (levels_from 8 0 x) (climbs x) top j ∙ ap (λ b. cond (j == n) false b) (members x j) ∙ at (j == n) (has x j) ∙ sym (has-without x n j h))
  where
    at : (e b : Bool) → cond e false b ≡ (b && not e)
    at true true = refl
    at true false = refl
    at false true = refl
    at false false = refl
