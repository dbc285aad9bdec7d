-- Marks and states, compared part by part.
use Rattle.std.proofs.Common.{◌≡◌, ℕ, Bool, eqb, ◌≢◌, List, sym, refl, ap, ◌∙◌}
use mathlib.Core.Path.{fun_ext}
use Rattle.std.proofs.lemmas.Bool.{eqb-true, eq-eqb, ne_eqb, cond_both, cond-true, cond-false, both_ways}
use Rattle.controller.specs.Meaning.{State}
use Rattle.controller.specs.Rules.{marked}

-- A fact of the mark at j, from the fact at n and the fact elsewhere.
pub at_mark : (P : Bool → Type 0) (f : ℕ → Bool) (n j : ℕ) (b : Bool) → (j ≡ n → P b) → (j ≢ n → P (f j)) → P (marked f n b j)
at_mark P f n j b here there =
    cond_both (eqb j n) b (f j) P (λ e. here (eqb-true j n e)) (λ e. there (λ same. both_ways _ e (eq-eqb j n same)))

-- A mark set to what it was changes nothing.
pub marked-same : (f : ℕ → Bool) (n : ℕ) → marked f n (f n) ≡ f
marked-same f n = fun_ext (λ j. at_mark (λ b. b ≡ f j) f n j (f n) (λ e. ap f (sym e)) (λ _. refl))

-- The mark that was set, and any other.
pub marked-here : (f : ℕ → Bool) (n : ℕ) (b : Bool) → marked f n b n ≡ b
marked-here f n b = cond-true (eqb n n) b (f n) (eq-eqb n n refl)

pub marked_other : (f : ℕ → Bool) (n j : ℕ) (b : Bool) → j ≢ n → marked f n b j ≡ f j
marked_other f n j b ne = cond-false (eqb j n) b (f j) (ne_eqb j n ne)

-- Marks that agree at n and elsewhere are the same marks.
pub marks-set : (f g : ℕ → Bool) (n : ℕ) (b : Bool) → g n ≡ b → ((j : ℕ) → j ≢ n → g j ≡ f j) → g ≡ marked f n b
marks-set f g n b here there = fun_ext (λ j. at_mark (λ x. g j ≡ x) f n j b (λ e. ap g e ∙ here) (there j))

-- States with the same parts are the same.
pub state-same : {o o' h h' w w' : ℕ → Bool} {s s' : List ℕ} → o ≡ o' → h ≡ h' → w ≡ w' → s ≡ s'
    → ◌≡◌ {A = State} (record { opened = o; high = h; waiting = w; stack = s }) (record { opened = o'; high = h'; waiting = w'; stack = s' })
state-same o h w s = λ i. record { opened = o i; high = h i; waiting = w i; stack = s i }
