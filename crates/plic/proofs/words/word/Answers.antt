use Rattle.std.proofs.Common.{◌+◌, ◌*◌, ap, ◌∙◌, arith}
use Rattle.plic.specs.Words.{shown}
use Rattle.plic.proofs.Packing.{pack-turn, pack-bits}
use Rattle.plic.proofs.words.word.Goals as goal

pub loop-i-preserved : goal.loop-i-preserved
loop-i-preserved g c =
    let on = c.shown-on.result in
    let v = c.loop-i.value in
    let i = c.loop-i.i in
    simp c.from.ensures (
      pack-turn on v i (omega arith) (omega arith) c.loop-i.invariant.0,
      (λ told tells. pack-bits (λ k. shown g.row.N c.args.gateways.now told (32 * c.args.w + k)) on v i (omega arith) (omega arith)
          (c.shown-on.ensures told tells) (c.loop-i.invariant.1 told tells)),
    )

pub returns : goal.returns
returns g c = λ told tells. (
  omega arith,
  (λ i lt. c.loop-i.invariant.1 told tells i (omega arith)
      ∙ ap (λ k. shown g.row.N c.args.gateways.now told (32 * c.args.w + k)) (omega arith)),
)
