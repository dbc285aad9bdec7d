-- What a read or a write at each offset comes to, for whoever uses the registers.
use Rattle.std.proofs.Common.{◌≡◌, ℕ, ◌+◌, ◌*◌, ◌/◌, ◌%◌, ◌<◌, min, Bool, true, cond, ◌&&◌, eqb, ltb, ◌≢◌, List, length, get_or, set, Ok, Err, Result, sym, refl, ap, ◌∙◌, subst, ⊎_elim, arith}
use Rattle.std.proofs.lemmas.List.{length-set, get_or-set_same, get_or-set_other, ext_get_or}
use Rattle.std.proofs.lemmas.Bool.{cond-true, cond-false, cond_both, and_from, and_parts, lt-ltb, eq-eqb, ne_eqb, eqb-true, cases_eq}
use Rattle.controller.specs.declared.refusal.Refusal.{Refusal}
use Rattle.plic.specs.declared.chip.Plic.{Plic}
use Rattle.plic.specs.declared.gateway.Gateway.{Gateway}
use Rattle.plic.specs.declared.registers.Register.{Register}
use Rattle.plic.specs.declared.registers.Register.TheVariants.{SourcePriority, EnableWord, Threshold, ClaimComplete}
use Rattle.plic.specs.Gateways.{blank, with_enabled, with_priority}
use Rattle.plic.specs.Chip.{Source, is_source, gate, with_gate, with_threshold, Claims, Completes}
use Rattle.plic.specs.Registers.{address, There}
use Rattle.plic.specs.Words.{bit, shown, Word, Enables, enabled_by}
use Rattle.plic.specs.Access.{Reading, Reads, Writing, Writes}
use Rattle.plic.proofs.Reading.{one_register}

-- A register that is there, at its offset.
module _ (N : ℕ) (h : Register) (there : There N h) (p q : Plic N) where
  read_at : (v : ℕ) → Reads N p (address h) (Ok v) q → Reading N p h v q
  read_at v r = subst (λ (g : Register). Reading N p g v q) (one_register N r.0 h r.1 there r.2) r.3

  no-refusal : (e : Refusal) → Reads N p (address h) (Err e) q → ⊥
  no-refusal e r = r.0 h there refl

  write-at : (v : ℕ) (r : Result (Unit {0}) Refusal) → Writes N p (address h) v r q → Writing N p h v q
  write-at v (Ok _) w = subst (λ (g : Register). Writing N p g v q) (one_register N w.0 h w.1 there w.2) w.3
  write-at v (Err e) w = absurd (w.0 h there refl)

-- One bit of an enable word v changed: the word u switches source n, and no other.
module _ (N : ℕ) (gs : List Gateway) (n v u : ℕ) (on : Bool) (source : Source N n) (word : Word N gs (λ g. g.enabled) (n / 32) v)
    (changed : (j : ℕ) → j < 32 → bit u j ≡ cond (eqb j (n % 32)) on (bit v j)) where
  here : enabled_by N (n / 32) u n (get_or gs n blank) ≡ with_enabled (get_or gs n blank) on
  here =
      cond-true _ _ _ (and_from _ _ (and_from (ltb 0 n) (ltb n (min N 1024)) (lt-ltb 0 n source.0) (lt-ltb n (min N 1024) source.1)) (eq-eqb (n / 32) (n / 32) refl))
      ∙ ap (with_enabled (get_or gs n blank)) (changed (n % 32) (omega arith) ∙ cond-true _ _ _ (eq-eqb (n % 32) (n % 32) refl))

  bit_kept : (k : ℕ) → k ≢ n → is_source N k ≡ true → k / 32 ≡ n / 32 → bit u (k % 32) ≡ (get_or gs k blank).enabled
  bit_kept k ne src e =
      let other : k % 32 ≢ n % 32 = λ f. ne (omega arith) in
      let back : 32 * (n / 32) + k % 32 ≡ k = omega arith in
      changed (k % 32) (omega arith) ∙ cond-false _ _ _ (ne_eqb _ _ other)
      ∙ word.1 (k % 32) (omega arith)
      ∙ ap (shown N gs (λ g. g.enabled)) back
      ∙ cond-true _ _ _ src

  elsewhere : (k : ℕ) → k ≢ n → enabled_by N (n / 32) u k (get_or gs k blank) ≡ get_or gs k blank
  elsewhere k ne =
      cond_both (is_source N k && eqb (k / 32) (n / 32)) (with_enabled (get_or gs k blank) (bit u (k % 32))) (get_or gs k blank) (λ g. g ≡ get_or gs k blank)
      (λ yes. let parts = and_parts _ _ yes in ap (with_enabled (get_or gs k blank)) (bit_kept k ne parts.0 (eqb-true _ _ parts.1)))
      (λ _. refl)

  table : (hs : List Gateway) → Enables N gs (n / 32) u hs → hs ≡ set gs n (with_enabled (get_or gs n blank) on)
  table hs en =
      ext_get_or blank hs _ (en.0 ∙ sym (length-set gs n _))
      (λ k lt. en.1 k ∙ ⊎_elim
      (λ e. let within : n < length gs = omega (arith, en.0) in
      ap (λ m. enabled_by N (n / 32) u m (get_or gs m blank)) e ∙ here
      ∙ sym (ap (λ m. get_or (set gs n (with_enabled (get_or gs n blank) on)) m blank) e ∙ get_or-set_same gs n _ blank within))
      (λ ne. elsewhere k ne ∙ sym (get_or-set_other gs n k _ blank ne))
      (cases_eq k n))

module _ (N : ℕ) (p q : Plic N) where
  -- The priority of a source.
  pub reads-priority : (n v : ℕ) → Source N n → Reads N p (0x000000 + 4 * n) (Ok v) q → (v ≡ (gate N p n).priority) × (q ≡ p)
  reads-priority n v source r =
      let got = read_at N (SourcePriority n) source.1 p q v r in
      (got.0 ∙ cond-false _ _ _ (ne_eqb n 0 (λ z. omega (arith, source.0))), got.1)

  pub priority-there : (n : ℕ) (e : Refusal) → Source N n → Reads N p (0x000000 + 4 * n) (Err e) q → ⊥
  priority-there n e source r = no-refusal N (SourcePriority n) source.1 p q e r

  pub writes-priority : (n v : ℕ) (r : Result (Unit {0}) Refusal) → Source N n → Writes N p (0x000000 + 4 * n) v r q
      → q ≡ with_gate N p n (with_priority (gate N p n) (v % 8))
  writes-priority n v r source w =
      write-at N (SourcePriority n) source.1 p q v r w ∙ cond-false _ _ _ (ne_eqb n 0 (λ z. omega (arith, source.0)))

  -- Source 0 keeps its priority.
  pub ignores-zero : (n v : ℕ) (r : Result (Unit {0}) Refusal) → n ≡ 0 → 0 < N → Writes N p (0x000000 + 4 * n) v r q → q ≡ p
  ignores-zero n v r none some w =
      write-at N (SourcePriority n) (omega arith) p q v r w ∙ cond-true _ _ _ (eq-eqb n 0 none)

  -- An enable word that was read as v, changed in the bit of source n and written back, switches that source alone.
  pub writes-enable : (t : Plic N) (n v u : ℕ) (on : Bool) (r : Result (Unit {0}) Refusal) → Source N n
      → Reads N p (0x002000 + 4 * (n / 32)) (Ok v) q
      → ((j : ℕ) → j < 32 → bit u j ≡ cond (eqb j (n % 32)) on (bit v j))
      → Writes N q (0x002000 + 4 * (n / 32)) u r t
      → t ≡ with_gate N p n (with_enabled (gate N p n) on)
  writes-enable t n v u on r source re changed wr =
      let there : 32 * (n / 32) < min N 1024 = omega (arith, source.1) in
      let got = read_at N (EnableWord (n / 32)) there p q v re in
      let did = write-at N (EnableWord (n / 32)) there q t u r wr in
      let en : Enables N p.gateways (n / 32) u t.gateways = subst (λ (x : Plic N). Enables N x.gateways (n / 32) u t.gateways) got.1 did.1 in
      let gates = table N p.gateways n v u on source got.0 changed t.gateways en in
      let level = did.0 ∙ ap (λ (x : Plic N). x.threshold) got.1 in
      λ i. record { gateways = gates i; threshold = level i }

  pub enable-there : (n : ℕ) (e : Refusal) → Source N n → Reads N p (0x002000 + 4 * (n / 32)) (Err e) q → ⊥
  enable-there n e source r =
      let there : 32 * (n / 32) < min N 1024 = omega (arith, source.1) in
      no-refusal N (EnableWord (n / 32)) there p q e r

  -- Threshold, claim and completion.
  pub writes-threshold : (v : ℕ) (r : Result (Unit {0}) Refusal) → Writes N p 0x200000 v r q → q ≡ with_threshold N p (v % 8)
  writes-threshold v r w = write-at N Threshold tt p q v r w

  pub claims : (v : ℕ) → Reads N p 0x200004 (Ok v) q → Claims N p v q
  claims v r = read_at N ClaimComplete tt p q v r

  pub claim-there : (e : Refusal) → Reads N p 0x200004 (Err e) q → ⊥
  claim-there e r = no-refusal N ClaimComplete tt p q e r

  pub completes : (v : ℕ) (r : Result (Unit {0}) Refusal) → Writes N p 0x200004 v r q → Completes N p v q
  completes v r w = write-at N ClaimComplete tt p q v r w

  -- The other way round: a claim is such a read, and a completion such a write, which is never refused.
  pub claim-reads : (v : ℕ) → Claims N p v q → Reads N p 0x200004 (Ok v) q
  claim-reads v c = (ClaimComplete, tt, refl, c)

  pub completion-writes : (v : ℕ) → Completes N p v q → Writes N p 0x200004 v (Ok tt) q
  completion-writes v c = (ClaimComplete, tt, refl, c)

  pub completion-there : (v : ℕ) (e : Refusal) → Writes N p 0x200004 v (Err e) q → ⊥
  completion-there v e w = w.0 ClaimComplete tt refl
