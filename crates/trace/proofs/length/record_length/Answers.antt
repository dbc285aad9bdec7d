use Rattle.std.proofs.Common.{◌≡◌, ℕ, ◌+◌, ◌/◌, ◌%◌, ◌<◌, Bool, true, eqb, List, [], get_or, Some, sym, ap, ◌∙◌, arith, rules}
use Rattle.std.proofs.lemmas.Bool.{cond-true, eqb-true}
use Rattle.std.proofs.lemmas.Bool.Decides.{nat_tests}
use Rattle.trace.specs.Maps.{lawful, fields, length_of}
use Rattle.trace.proofs.Below.{below, below_at}
use Rattle.trace.proofs.length.record_length.Goals as goal

abbrev entry : List (List ℕ) → ℕ → ℕ → ℕ
entry table i j = get_or (get_or table i []) j 0

-- an entry is the length that the rule gives
abbrev right : List (List ℕ) → ℕ → Bool
right table m = eqb (entry table (m / 16) (m % 16)) (1 + fields m)

looked-up : (table : List (List ℕ)) (m i j n : ℕ) → n ≡ entry table i j → i ≡ m / 16 → j ≡ m % 16 → below (right table) 64 ≡ true → m < 64 → lawful m ≡ true → Some n ≡ length_of m
looked-up table m i j n e p q t h l =
    ap Some (e ∙ (λ k. entry table (p k) (q k)) ∙ eqb-true (entry table (m / 16) (m % 16)) (1 + fields m) (below_at (right table) 64 t m h)) ∙ sym (cond-true (lawful m) _ _ l)

-- search takes the table from the code and computes the test of all its entries
pub returns : goal.returns
returns c =
    let m = c.args.map in
    let h : m < 64 = omega arith in
    let l : lawful m ≡ true = grind (arith, nat_tests) in
    let e = c.from-3.ensures in
    search (rules, looked-up, e)
