-- The laws of bytes as sets of the levels 0 to 7.
use Rattle.std.proofs.Common.{◌≡◌, ℕ, zero, suc, ◌-◌, ◌^◌, ◌<◌, bit_and, bit_or, w8, not, ◌&&◌, ◌||◌, eqb, sym, ap, ◌∙◌, ⊎_elim, arith}
use Rattle.std.proofs.lemmas.Bool.{cases_eq, eq-eqb, ne_eqb}
use Rattle.std.proofs.lemmas.Bool.Decides.{nat_tests}
use Rattle.std.proofs.lemmas.Nat.{pow_below}
use Rattle.std.proofs.lemmas.Nat.Bits.{bit_at_and, bit_at_or, bit_at-pow_same, bit_at-pow_other, bit_at_not}
use Rattle.i8259a.specs.Bits.{bit, with, without, outside}

-- A rule at each number below 8.
pub each8 : (P : ℕ → Type 0) → P 0 → P 1 → P 2 → P 3 → P 4 → P 5 → P 6 → P 7 → (m : ℕ) → m < 8 → P m
each8 P a b c d e f g h zero l = a
each8 P a b c d e f g h (suc zero) l = b
each8 P a b c d e f g h (suc (suc zero)) l = c
each8 P a b c d e f g h (suc (suc (suc zero))) l = d
each8 P a b c d e f g h (suc (suc (suc (suc zero)))) l = e
each8 P a b c d e f g h (suc (suc (suc (suc (suc zero))))) l = f
each8 P a b c d e f g h (suc (suc (suc (suc (suc (suc zero)))))) l = g
each8 P a b c d e f g h (suc (suc (suc (suc (suc (suc (suc zero))))))) l = h
each8 P a b c d e f g h (suc (suc (suc (suc (suc (suc (suc (suc m)))))))) l = absurd (omega arith)

-- A bit of a union, of a meet, of a set of one level, of a complement.
pub bit-or : (a b m : ℕ) → bit (bit_or a b) m ≡ (bit a m || bit b m)
bit-or a b m = let e = bit_at_or a b m in grind (arith, nat_tests)

pub bit-and : (a b m : ℕ) → bit (bit_and a b) m ≡ (bit a m && bit b m)
bit-and a b m = let e = bit_at_and a b m in grind (arith, nat_tests)

pub bit-pow : (n m : ℕ) → bit (2 ^ n) m ≡ eqb m n
bit-pow n m =
    ⊎_elim
    (λ e. ap (bit (2 ^ n)) e ∙ ap (λ x. eqb x 1) (bit_at-pow_same n) ∙ sym (eq-eqb m n e))
    (λ ne. ap (λ x. eqb x 1) (bit_at-pow_other n m ne) ∙ sym (ne_eqb m n ne))
    (cases_eq m n)

pub bit_not : (y m : ℕ) → y < 256 → m < 8 → bit (255 - y) m ≡ not (bit y m)
bit_not y m l h = let e = bit_at_not w8 y m l h in grind (arith, nat_tests)

-- One level more.
pub bit-with : (x n m : ℕ) → n < 8 → m < 8 → bit (with x n) m ≡ (bit x m || eqb m n)
bit-with x n m h k = bit-or x (2 ^ n) m ∙ ap (λ b. bit x m || b) (bit-pow n m)

-- The levels of x that are not in y.
pub bit-outside : (x y m : ℕ) → y < 256 → m < 8 → bit (outside x y) m ≡ (bit x m && not (bit y m))
bit-outside x y m h k = bit-and x (255 - y) m ∙ ap (λ b. bit x m && b) (bit_not y m h k)

-- One level less.
pub bit-without : (x n m : ℕ) → n < 8 → m < 8 → bit (without x n) m ≡ (bit x m && not (eqb m n))
bit-without x n m h k =
    let l : 2 ^ n < 256 = pow_below n 8 h in
    bit-outside x (2 ^ n) m l k ∙ ap (λ b. bit x m && not b) (bit-pow n m)
