-- The law of service holds.
use Rattle.std.proofs.Common.{◌≡◌, ℕ, ◌+◌, ◌⊎◌, Some, None, sym, refl, ap, ◌∙◌, inl, inr, arith}
use Rattle.std.proofs.lemmas.Bool.{eqb-true}
use Rattle.controller.specs.Meaning.{in_service, among, FirstReady, NoneReady}
use Rattle.controller.specs.Rules.Asks.{so, otherwise}
use Rattle.service.specs.Nests.{most_depth}
use Rattle.service.specs.Calls.{Reply}
use Rattle.service.specs.Calls.Call.{Take}
use Rattle.service.specs.Calls.Reply.{Start, Spurious}
use Rattle.service.specs.Steps.{Snapshot, Step, depth}
use Rattle.service.specs.Runs.{Fresh}
use Rattle.service.specs.Counts.{one}
use Rattle.service.specs.Law.{Balance, ServiceLaw}
use Rattle.service.proofs.Moves.{Kept, full-none}
use Rattle.service.proofs.Kept.{keeps, fresh_kept}
use Rattle.service.proofs.Balancing.{balanced}
use Rattle.service.proofs.Preceding.{preceding}
use Rattle.service.proofs.Abreast.{abreast-fresh, abreast-run}

balance : (s : Snapshot) → Fresh s → Balance s
balance s f s' cs rs q n h =
    let waits : one (s.meaning.state.waiting n) ≡ 0 = ap one (f.quiet.waits n h) in
    let serves : one (in_service s.meaning.state n) ≡ 0 = ap (λ xs. one (among n xs)) f.quiet.serves in
    omega (arith, balanced (fresh_kept s f) q n)

chosen : (s s' : Snapshot) (r : Reply) → Kept s → Step s Take r s' → (NoneReady s.meaning × (r ≡ Spurious (depth s))) ⊎ ((n : ℕ) × FirstReady s.meaning n × (r ≡ Start n (depth s + 1)))
chosen s s' r k (so e (p, q)) = let full : depth s ≡ most_depth = eqb-true (depth s) most_depth e in inl (full-none s k full, p ∙ ap Spurious (sym full))
chosen s s' r k (otherwise e (None, (x, y), (p, q))) = inl (x, p)
chosen s s' r k (otherwise e (Some n, (x, y), (p, q))) = inr (n, x, p)

pub service-law : ServiceLaw
service-law s f = record {
  balance = balance s f;
  chooses = λ s₁ s₂ cs rs r q step. chosen s₁ s₂ r (keeps (fresh_kept s f) q) step;
  precedence = λ s' cs rs q. preceding s.meaning.fixed (fresh_kept s f) refl q;
  same = λ t s' t' cs rs qs g a p q. abreast-run (abreast-fresh s t f g a) p q;
}
