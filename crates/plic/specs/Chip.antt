-- The calls of a bare PLIC with the sources below N, over its whole state before and after.
use Rattle.std.specs.Prelude.{◌≡◌, ℕ, ◌<◌, ◌≤◌, min, Bool, true, cond, ◌&&◌, List, length, replicate, Some, None, Ok, Err, MatchBool, Option, Result, nat_lt, slice_index_or, slice_set}
use Rattle.arbiter.specs.declared.key.Priority.{Priority}
use Rattle.controller.specs.declared.refusal.Refusal.{Refusal}
use Rattle.controller.specs.declared.refusal.Refusal.TheVariants.{NotALine}
use Rattle.plic.specs.declared.gateway.Gateway.{Gateway}
use Rattle.plic.specs.declared.chip.Plic.{Plic}
use Rattle.plic.specs.Gateways.{blank, risen, fallen, claimed, completed, completable, requesting, contender}

-- The sources are the numbers from 1 on, below N and below 1,024.
abbrev pub Source : ℕ → ℕ → Type 0
Source N n = (1 ≤ n) × (n < min N 1024)

abbrev pub is_source : ℕ → ℕ → Bool
is_source N n = nat_lt 0 n && nat_lt n (min N 1024)

-- All zero.
abbrev pub fresh : (N : ℕ) → Plic N
fresh N = record { gateways = replicate N blank; threshold = 0 }

-- The gateway of source n.
abbrev pub gate : (N : ℕ) → Plic N → ℕ → Gateway
gate N p n = slice_index_or p.gateways n blank

-- What a question about number n shows: past the last source a blank gateway.
abbrev pub gateway_of : (N : ℕ) → Plic N → ℕ → Gateway
gateway_of N p n = cond (nat_lt n (min N 1024)) (gate N p n) blank

-- One gateway is exchanged, and nothing else.
abbrev pub with_gate : (N : ℕ) → Plic N → ℕ → Gateway → Plic N
with_gate N p n g = record { gateways = slice_set p.gateways n g; threshold = p.threshold }

abbrev pub with_threshold : (N : ℕ) → Plic N → ℕ → Plic N
with_threshold N p t = record { gateways = p.gateways; threshold = t }

-- A change of source n: refused exactly if n is no source, and then nothing changes.
abbrev pub Changes : (N : ℕ) → (Gateway → Gateway) → Plic N → ℕ → Result (Unit {0}) Refusal → Plic N → Type 0
Changes N f p n (Ok _) q = Source N n × (q ≡ with_gate N p n (f (gate N p n)))
Changes N f p n (Err e) q = (Source N n → ⊥) × (e ≡ NotALine) × (q ≡ p)

abbrev pub Rises : (N : ℕ) → Plic N → ℕ → Result (Unit {0}) Refusal → Plic N → Type 0
Rises N = Changes N risen

abbrev pub Falls : (N : ℕ) → Plic N → ℕ → Result (Unit {0}) Refusal → Plic N → Type 0
Falls N = Changes N fallen

-- The place of source n in the table is its number; what is no source has none.
abbrev pub Placed : ℕ → ℕ → Result ℕ Refusal → Type 0
Placed N n (Ok i) = Source N n × (i ≡ n)
Placed N n (Err e) = (Source N n → ⊥) × (e ≡ NotALine)

-- An enabled pending source.
abbrev pub Requests : (N : ℕ) → Plic N → ℕ → Type 0
Requests N p n = Source N n × (requesting (gate N p n) ≡ true)

-- An enabled pending source with a priority above the threshold.
abbrev pub Above : (N : ℕ) → Plic N → ℕ → Type 0
Above N p n = Requests N p n × (p.threshold < (gate N p n).priority)

-- The PLIC signals exactly if there is one.
abbrev pub Signals : (N : ℕ) → Plic N → Bool → Type 0
Signals N p r = MatchBool r ((n : ℕ) × Above N p n) ((n : ℕ) → Above N p n → ⊥)

-- A source that a claim may answer: enabled, pending, of a priority above 0.
abbrev pub Claimable : (N : ℕ) → Plic N → ℕ → Type 0
Claimable N p n = Requests N p n × (0 < (gate N p n).priority)

-- The claimable source of highest priority, the smaller number among equals.
pub record First (N : ℕ) (p : Plic N) (n : ℕ) : Type 0 where
  pub claimable : Claimable N p n
  pub highest : (m : ℕ) → Claimable N p m → (gate N p m).priority ≤ (gate N p n).priority
  pub smallest : (m : ℕ) → m < n → Claimable N p m → (gate N p m).priority < (gate N p n).priority

abbrev pub NoneClaimable : (N : ℕ) → Plic N → Type 0
NoneClaimable N p = (n : ℕ) → Claimable N p n → ⊥

abbrev pub Firsts : (N : ℕ) → Plic N → Option ℕ → Type 0
Firsts N p None = NoneClaimable N p
Firsts N p (Some n) = First N p n

-- A claim answers the first source and makes it claimed, or answers 0 and changes nothing.
abbrev pub Claims : (N : ℕ) → Plic N → ℕ → Plic N → Type 0
Claims N p r q =
    (r ≡ 0 → NoneClaimable N p × (q ≡ p))
    × (0 < r → First N p r × (q ≡ with_gate N p r (claimed (gate N p r))))

-- An enabled claimed source.
abbrev pub Completable : (N : ℕ) → Plic N → ℕ → Type 0
Completable N p n = Source N n × (completable (gate N p n) ≡ true)

-- A completion of n changes an enabled claimed source, and else nothing.
abbrev pub Completes : (N : ℕ) → Plic N → ℕ → Plic N → Type 0
Completes N p n q =
    (Completable N p n → q ≡ with_gate N p n (completed (gate N p n)))
    × ((Completable N p n → ⊥) → q ≡ p)

-- A leaf of the arbitration tree: the key of a source that contends, nothing elsewhere.
abbrev pub leaf_of : ℕ → List Gateway → ℕ → Option Priority
leaf_of N gs n = cond (is_source N n) (contender (slice_index_or gs n blank)) None

abbrev pub Leaves : ℕ → List Gateway → List (Option Priority) → Type 0
Leaves N gs ls =
    (length ls ≡ N)
    × ((n : ℕ) → n < N → slice_index_or ls n None ≡ leaf_of N gs n)
