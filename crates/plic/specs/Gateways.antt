-- What happens to one gateway.
use Rattle.std.specs.Prelude.{ℕ, List, codes, Bool, true, false, cond, Some, None, Option, nat_lt}
use Rattle.arbiter.specs.declared.key.Priority.{Priority}
use Rattle.plic.specs.declared.gateway.Request.{Request}
use Rattle.plic.specs.declared.gateway.Request.TheVariants.{Idle, Pending, Claimed}
use Rattle.plic.specs.declared.gateway.Gateway.{Gateway}

-- A gateway of a new PLIC.
abbrev pub blank : Gateway
blank = record { request = Idle; high = false; enabled = false; priority = 0 }

-- The request, the line, the enable bit or the priority alone is exchanged.
abbrev pub with_request : Gateway → Request → Gateway
with_request g x = record { request = x; high = g.high; enabled = g.enabled; priority = g.priority }

abbrev pub with_high : Gateway → Bool → Gateway
with_high g x = record { request = g.request; high = x; enabled = g.enabled; priority = g.priority }

abbrev pub with_enabled : Gateway → Bool → Gateway
with_enabled g x = record { request = g.request; high = g.high; enabled = x; priority = g.priority }

abbrev pub with_priority : Gateway → ℕ → Gateway
with_priority g x = record { request = g.request; high = g.high; enabled = g.enabled; priority = x }

-- A rise turns an idle request into a pending one.
abbrev pub raised : Request → Request
raised Idle = Pending
raised Pending = Pending
raised Claimed = Claimed

abbrev pub risen : Gateway → Gateway
risen g = with_request (with_high g true) (raised g.request)

-- A fall only lowers the line.
abbrev pub fallen : Gateway → Gateway
fallen g = with_high g false

abbrev pub claimed : Gateway → Gateway
claimed g = with_request g Claimed

-- A completed source whose line is high has a request pending again.
abbrev pub completed : Gateway → Gateway
completed g = with_request g (cond g.high Pending Idle)

abbrev pub is_pending : Request → Bool
is_pending Idle = false
is_pending Pending = true
is_pending Claimed = false

abbrev pub is_claimed : Request → Bool
is_claimed Idle = false
is_claimed Pending = false
is_claimed Claimed = true

-- Claimed and enabled: its completion is heeded.
abbrev pub completable : Gateway → Bool
completable g = cond (is_claimed g.request) g.enabled false

-- Pending and enabled.
abbrev pub requesting : Gateway → Bool
requesting g = cond (is_pending g.request) g.enabled false

-- The key under which a source contends for a claim; priority 0 never does.
abbrev pub contender : Gateway → Option Priority
contender g = cond (requesting g) (cond (nat_lt 0 g.priority) (Some (record { 0 = g.priority })) None) None

-- The word under which a request is printed.
abbrev pub word : Request → List ℕ
word Idle = codes "IDLE"
word Pending = codes "PENDING"
word Claimed = codes "CLAIMED"
