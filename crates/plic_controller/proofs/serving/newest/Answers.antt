use Rattle.std.proofs.Common.{rules}
use Rattle.plic_controller.proofs.Newest.{newest-is}
use Rattle.plic_controller.proofs.serving.newest.Goals as goal

pub returns : goal.returns
returns c settled =
    let is = newest-is c.args.chip.now c.keys.result c.keys.ensures settled c.winner.result c.winner.ensures.wins in
    search rules
