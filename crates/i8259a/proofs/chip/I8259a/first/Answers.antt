use Rattle.std.proofs.Common.{◌≡◌, arith}
use Rattle.i8259a.specs.Bits.{outside, lowest}
use Rattle.i8259a.specs.Signal.{ahead}
use Rattle.i8259a.proofs.Race.{firsts}
use Rattle.i8259a.proofs.chip.I8259a.first.Goals as goal

pub returns : goal.returns
returns c =
    let chip = c.args.self.now in
    let is : c.ahead.result ≡ ahead (lowest (outside chip.irr chip.imr)) (lowest chip.isr) = cc in
    rw is (firsts chip (omega arith))
