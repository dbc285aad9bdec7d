use Rattle.std.proofs.Common.{◌≡◌, ℕ, true, false, ◌&&◌, ap, arith, eqb}
use denote.Enum.Bare.{sameb}
use Rattle.service.specs.contracts.entry.Mark.{the_type}
use Rattle.service.specs.declared.entry.Mark.{Mark}
use Rattle.service.specs.declared.entry.Mark.TheVariants.{Held, Parked}
use Rattle.service.specs.Nests.{is_held}
use Rattle.dispatch.proofs.Tables.{held-within}
use Rattle.dispatch.proofs.nest.Nest.holds.Goals as goal

-- The derived equality of entries, at an entry that is held.
same-held : (n l : ℕ) (m : Mark) → (eqb l n && sameb the_type m Held) ≡ (eqb n l && is_held m)
same-held n l m =
    let s : eqb l n ≡ eqb n l = grind arith in
    elim m as (λ k. (eqb l n && sameb the_type k Held) ≡ (eqb n l && is_held k)) [ Held ↦ ap (λ b. b && true) s | Parked ↦ ap (λ b. b && false) s ]

pub returns : goal.returns
returns c = held-within _ c.args.line c.args.self.now.entries _ c.args.self.now.depth _ c.contains.ensures.value c.entries.ensures (omega arith) (same-held c.args.line)
