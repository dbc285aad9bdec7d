-- Two dispatchers that go abreast: each call brings back the same from both, and they stay abreast.
use Rattle.std.proofs.Common.{◌≡◌, List, ◌∷◌, refl, ap₂}
use Rattle.service.specs.Calls.{Call, Reply}
use Rattle.service.specs.Steps.{Snapshot, Step}
use Rattle.service.specs.Runs.{Run, Fresh}
use Rattle.service.specs.Runs.Run.{rest, then}
use Rattle.service.specs.Law.{Alike}
use Rattle.service.proofs.Moves.{Kept, view}
use Rattle.service.proofs.Kept.{keep, fresh_kept}
use Rattle.service.proofs.Twins.{Twin, Level, same_step, ready-too, fresh-twin, alike-back}

-- Twins both ways, since a twin's ranks go one way.
pub record Abreast (s t : Snapshot) : Type 0 where
  pub left : Kept s
  pub right : Kept t
  pub there : Twin s t
  pub back : Twin t s

-- So they are at the making.
pub abreast-fresh : (s t : Snapshot) → Fresh s → Fresh t → Alike s.meaning t.meaning → Abreast s t
abreast-fresh s t f g a = record { left = fresh_kept s f; right = fresh_kept t g; there = fresh-twin s t f g a; back = fresh-twin t s g f (alike-back _ _ a) }

pub same-nest : {s t : Snapshot} → Abreast s t → s.nest ≡ t.nest
same-nest a = a.there.nest

pub abreast-step : {s t s' t' : Snapshot} {r q : Reply} (c : Call) → Abreast s t → Step s c r s' → Step t c q t' → (r ≡ q) × Abreast s' t'
abreast-step {s} {t} {s'} {t'} {r} {q} c a x y =
    let there : Level r q s' t' = same_step s t a.left a.right a.there c (ready-too t s a.right a.left a.back) x y in
    let back : Level q r t' s' = same_step t s a.right a.left a.back c (ready-too s t a.left a.right a.there) y x in
    (there.said, record { left = keep a.left (view s s' c r a.left x); right = keep a.right (view t t' c q a.right y); there = there.twin; back = back.twin })

pub abreast-run : {s t s' t' : Snapshot} {cs : List Call} {rs qs : List Reply} → Abreast s t → Run s cs rs s' → Run t cs qs t' → rs ≡ qs
abreast-run a rest rest = refl
abreast-run a (then {c = c} x p) (then y q) = let next = abreast-step c a x y in ap₂ ◌∷◌ next.0 (abreast-run next.1 p q)
