use Rattle.std.proofs.Common.{rules}
use Rattle.plic_controller.proofs.Calls.{claim-signalled}
use Rattle.plic_controller.proofs.serving.claim_signalled.Goals as goal

pub returns-then-signal : goal.returns-then-signal
returns-then-signal c = claim-signalled _ _ _ (search rules) c.claim.ensures
