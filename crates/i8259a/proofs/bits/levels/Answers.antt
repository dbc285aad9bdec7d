use Rattle.std.proofs.Common.{cond, Some, None, rules}
use Rattle.i8259a.specs.Bits.{bit}
use Rattle.i8259a.proofs.Made.{made}
use Rattle.i8259a.proofs.bits.levels.Goals as goal

pub returns : goal.returns
returns c = (
  c.from_fn.ensures.items.long,
  λ n lt. made _ _ (λ n. cond (bit c.args.x n) (Some (record { 0 = n })) None) 8 c.from_fn.result (λ i y q lt called. search rules) c.from_fn.ensures.items n None lt,
)
