-- What becomes of the claims that are out: a claim that was handed out is HELD, stays so until it is given up, and as long
-- as it is HELD can be parked. All but TakesAnother and StartsAnother hold in any state, so that a handler may rely on them
-- with no proof of soundness. es are the entries of the nest before the call, es' after it.
use Rattle.std.specs.Prelude.{◌≡◌, ℕ, true, false, ◌≢◌, List, Some, None, Ok, Err, Option, Result}
use Rattle.controller.specs.declared.refusal.Refusal.{Refusal}
use Rattle.service.specs.declared.entry.Entry.{Entry}
use Rattle.service.specs.Nests.{held, newest_is, newest_parked}
use Rattle.dispatch.specs.declared.claim.Claim.{Claim}
use Rattle.dispatch.specs.declared.written.Taken.{Taken}
use Rattle.dispatch.specs.declared.written.Taken.TheVariants as taken
use Rattle.dispatch.specs.declared.written.Ended.{Ended}
use Rattle.dispatch.specs.declared.written.Refused.{Refused}

-- Each line that was HELD still is.
abbrev pub StayHeld : List Entry → List Entry → Type 0
StayHeld es es' = (n : ℕ) → held n es ≡ true → held n es' ≡ true

-- Each line but m that was HELD still is.
abbrev pub OthersStayHeld : ℕ → List Entry → List Entry → Type 0
OthersStayHeld m es es' = (n : ℕ) → n ≢ m → held n es ≡ true → held n es' ≡ true

-- The claim that is handed out is HELD.
abbrev pub TakeClaims : Taken → List Entry → List Entry → Type 0
TakeClaims (taken.Start k c) es es' = (held c.line es' ≡ true) × StayHeld es es'
TakeClaims (taken.Spurious k) es es' = StayHeld es es'

-- In a sound state no line that was HELD is the one that is taken and started.
abbrev pub TakesAnother : Option ℕ → List Entry → Type 0
TakesAnother None es = Unit {0}
TakesAnother (Some m) es = (n : ℕ) → held n es ≡ true → n ≢ m

abbrev pub StartsAnother : Taken → List Entry → Type 0
StartsAnother (taken.Start k c) es = (n : ℕ) → held n es ≡ true → n ≢ c.line
StartsAnother (taken.Spurious k) es = Unit {0}

-- Only a claim that is not HELD is refused. A refusal hands it back as it was.
abbrev pub ParkClaims : Claim → Result (Unit {0}) Refused → List Entry → List Entry → Type 0
ParkClaims c (Ok _) es es' = OthersStayHeld c.line es es'
ParkClaims c (Err b) es es' = (b.claim ≡ c) × (held c.line es ≡ false) × StayHeld es es'

-- A refusal hands the claim back as it was.
abbrev pub CloseClaims : Claim → Result Ended Refused → List Entry → List Entry → Type 0
CloseClaims c (Ok e) es es' = OthersStayHeld c.line es es'
CloseClaims c (Err b) es es' = (b.claim ≡ c) × StayHeld es es'

-- The newest line n is ended, by close or by finish.
abbrev pub EndClaims : ℕ → Result Ended Refusal → List Entry → List Entry → Type 0
EndClaims n (Ok e) es es' = (newest_is n es ≡ true → OthersStayHeld n es es') × (newest_parked es ≡ true → StayHeld es es')
EndClaims n (Err why) es es' = StayHeld es es'
