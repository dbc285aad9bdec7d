use Rattle.std.proofs.Common.{◌≡◌, true, false, rules}
use Rattle.plic.specs.Gateways.{is_claimed}
use Rattle.plic_controller.proofs.Calls.{enable-leaves, shut-refused, shuts}
use Rattle.plic_controller.proofs.unit.PlicControllerController.shut.Goals as goal

pub returns-then-eq-clause-rule : goal.returns-then-eq-clause-rule
returns-then-eq-clause-rule c =
    let x = c.in_ok-gateway.gateway in
    let claimed : is_claimed x.request ≡ true = search rules in
    λ sound. shut-refused c.args.self.now.chip c.args.n sound x c.in_ok-gateway.ensures claimed

pub returns-clause-rule : goal.returns-clause-rule
returns-clause-rule c =
    let p = c.args.self.now.chip in
    let q = c.set_enabled.new.chip in
    let x = c.in_ok-gateway.gateway in
    let lined = c.in_ok-gateway.ensures in
    let idle : is_claimed x.request ≡ false = search rules in
    λ sound. shuts p c.args.n sound x lined q (enable-leaves p c.args.n sound x lined q false (search rules)) idle
