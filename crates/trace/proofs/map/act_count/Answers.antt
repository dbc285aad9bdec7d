use Rattle.std.proofs.Common.{rules, arith}
use Rattle.trace.proofs.Bits.{ones-count}
use Rattle.trace.proofs.map.act_count.Goals as goal

pub returns : goal.returns
returns c = let counted = ones-count c.args.map (omega arith) in search (rules, counted)
