-- What each call of a controller asks, answers and leaves. Nothing else of the meaning changes.
use Rattle.std.specs.Prelude.{◌≡◌, ℕ, Bool, true, false, cond, not, ◌&&◌, ◌||◌, List, [], ◌∷◌, Some, None, Ok, Err, Option, Result, ◌==◌}
use Rattle.controller.specs.declared.refusal.Refusal.{Refusal}
use Rattle.controller.specs.declared.refusal.Refusal.TheVariants.{NotALine, InService, NotNewest}
use Rattle.controller.specs.declared.answer.Answer.{Answer}
use Rattle.controller.specs.declared.answer.Answer.TheVariants.{Accepted, Withdrawn, Noted, Done}
use Rattle.controller.specs.Meaning.{Fixed, State, Meaning, in_service, FirstReady, NoneReady}

-- The marks f, with that of n set to b.
abbrev pub marked : (ℕ → Bool) → ℕ → Bool → ℕ → Bool
marked f n b j = cond (j == n) b (f j)

abbrev pub newest : List ℕ → Option ℕ
newest [] = None
newest (x ∷ xs) = Some x

-- The stack without its newest line.
abbrev pub older : List ℕ → List ℕ
older [] = []
older (x ∷ xs) = xs

-- Line n is the newest of the stack.
abbrev pub tops : List ℕ → ℕ → Bool
tops [] n = false
tops (x ∷ xs) n = n == x

abbrev pub is_newest : State → ℕ → Bool
is_newest s n = tops s.stack n

-- Line n neither waits nor is in service.
abbrev pub idle : State → ℕ → Bool
idle s n = not (s.waiting n || in_service s n)

-- The state after each call that is carried out.
-- A rise makes n high; if it was idle it now waits.
abbrev pub risen : State → ℕ → State
risen s n = record { opened = s.opened; high = marked s.high n true; waiting = marked s.waiting n (s.waiting n || idle s n); stack = s.stack }

-- A fall makes n low; if it is fleeting it no longer waits.
abbrev pub fallen : Fixed → State → ℕ → State
fallen f s n = record { opened = s.opened; high = marked s.high n false; waiting = marked s.waiting n (s.waiting n && not (f.fleeting n)); stack = s.stack }

-- Open and shut set that mark.
abbrev pub opening : State → ℕ → Bool → State
opening s n b = record { opened = marked s.opened n b; high = s.high; waiting = s.waiting; stack = s.stack }

-- A take moves n from waiting to the top of the stack.
abbrev pub taken : State → ℕ → State
taken s n = record { opened = s.opened; high = s.high; waiting = marked s.waiting n false; stack = n ∷ s.stack }

-- A finish takes n off the stack; if it is high it waits again.
abbrev pub finished : State → ℕ → State
finished s n = record { opened = s.opened; high = s.high; waiting = marked s.waiting n (s.high n); stack = older s.stack }

-- What is fixed stays; the state is s.
abbrev pub onward : Meaning → State → Meaning
onward m s = record { fixed = m.fixed; state = s }

-- The call is refused for e, and nothing changes.
abbrev pub Turns : Refusal → Meaning → Result Answer Refusal → Meaning → Type 0
Turns e m r m' = (r ≡ Err e) × (m' ≡ m)

-- A refused call leaves the value itself as it was, in every state, sound or not: s before the call, t after it.
abbrev pub Untouched : {A E S : Type 0} → Result A E → S → S → Type 0
Untouched (Ok _) s t = Unit {0}
Untouched (Err _) s t = t ≡ s

-- The call is carried out: it answers a and leaves the state s.
abbrev pub Gives : Answer → State → Meaning → Result Answer Refusal → Meaning → Type 0
Gives a s m r m' = (r ≡ Ok a) × (m' ≡ onward m s)

-- A question with its two outcomes: P if the answer b is yes, Q if it is no.
pub data Asks (b : Bool) (P Q : Type 0) : Type 0 where
  so : b ≡ true → P → Asks b P Q
  otherwise : b ≡ false → Q → Asks b P Q

-- Is n a line?
abbrev pub Rises : Meaning → ℕ → Result Answer Refusal → Meaning → Type 0
Rises m n r m' =
    Asks (m.fixed.line n)
    (Gives (cond (idle m.state n) Accepted Noted) (risen m.state n) m r m')
    (Turns NotALine m r m')

-- Is n a line?
abbrev pub Falls : Meaning → ℕ → Result Answer Refusal → Meaning → Type 0
Falls m n r m' =
    Asks (m.fixed.line n)
    (Gives (cond (m.state.waiting n && m.fixed.fleeting n) Withdrawn Noted) (fallen m.fixed m.state n) m r m')
    (Turns NotALine m r m')

-- Is n a line?
abbrev pub Opens : Meaning → ℕ → Result Answer Refusal → Meaning → Type 0
Opens m n r m' = Asks (m.fixed.line n) (Gives Done (opening m.state n true) m r m') (Turns NotALine m r m')

-- Is n a line? Is it out of service?
abbrev pub Shuts : Meaning → ℕ → Result Answer Refusal → Meaning → Type 0
Shuts m n r m' =
    Asks (m.fixed.line n)
    (Asks (in_service m.state n) (Turns InService m r m') (Gives Done (opening m.state n false) m r m'))
    (Turns NotALine m r m')

-- Is n a line? Is it the newest on the stack?
abbrev pub Finishes : Meaning → ℕ → Result Answer Refusal → Meaning → Type 0
Finishes m n r m' =
    Asks (m.fixed.line n)
    (Asks (is_newest m.state n)
    (Gives (cond (m.state.high n) Accepted Noted) (finished m.state n) m r m')
    (Turns NotNewest m r m'))
    (Turns NotALine m r m')

-- The first ready line, or none.
abbrev pub Takes : Meaning → Option ℕ → Meaning → Type 0
Takes m None m' = NoneReady m × (m' ≡ m)
Takes m (Some n) m' = FirstReady m n × (m' ≡ onward m (taken m.state n))

-- Is a line ready?
abbrev pub Signals : Meaning → Bool → Type 0
Signals m true = (n : ℕ) × FirstReady m n
Signals m false = NoneReady m
