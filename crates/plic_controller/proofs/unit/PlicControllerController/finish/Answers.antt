use Rattle.std.proofs.Common.{◌≡◌, true, rules}
use Rattle.controller.specs.Rules.{newest, tops}
use Rattle.plic.specs.Chip.{gate}
use Rattle.plic_controller.specs.Told.{stack_of}
use Rattle.plic_controller.specs.Sound.{Sound}
use Rattle.plic_controller.specs.Steps.{Follows}
use Rattle.plic_controller.specs.After.{finished_at}
use Rattle.plic_controller.proofs.Calls.{settled-after, finish-leaves, finishes}
use Rattle.plic_controller.proofs.unit.PlicControllerController.finish.Goals as goal

pub returns : goal.returns
returns c =
    let p = c.args.self.now.chip in
    let q₁ = c.complete.new.chip in
    let q = c.follow.new.chip in
    let x = c.in_ok-gateway.gateway in
    let lined = c.in_ok-gateway.ensures in
    let top : (sound : Sound p) → tops (stack_of (gate 64 p)) c.args.n ≡ true = λ sound. let is = c.newest.ensures sound.settled in search rules in
    let leaves : (sound : Sound p) → q ≡ finished_at p c.args.n = λ sound.
    let is = c.newest-newest.ensures (settled-after p c.args.n sound x lined (top sound) q₁ c.complete.ensures) in
    let follows : Follows q₁ (newest (stack_of (gate 64 q₁))) q = search rules in
    finish-leaves p c.args.n sound x lined (top sound) q₁ q c.complete.ensures follows in
    record { rule = λ sound. finishes p c.args.n sound x lined (top sound) q (leaves sound) _ (search rules); refused = tt; chip = leaves }
