use Rattle.std.proofs.Common.{◌≡◌, ℕ, ◌≤◌, ◌<◌, slice_index_or}
use Rattle.service.specs.declared.entry.Mark.TheVariants.{Held}
use Rattle.service.specs.Nests.{parked_entry, entry}
use Rattle.dispatch.proofs.nest.Nest.park.Given as goal

-- The places seen are marked, and the others as they were.
abbrev pub invariant-loop-entry : goal.invariant-loop-entry
invariant-loop-entry l = record {
  marked : (k : ℕ) → k < l.entry-index → slice_index_or l.entry-items k (entry 0 Held) ≡ parked_entry l.line (slice_index_or l.initial.entry-items k (entry 0 Held));
  others : (k : ℕ) → l.entry-index ≤ k → slice_index_or l.entry-items k (entry 0 Held) ≡ slice_index_or l.initial.entry-items k (entry 0 Held);
}
