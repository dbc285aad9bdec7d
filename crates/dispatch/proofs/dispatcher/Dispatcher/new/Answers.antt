use Rattle.std.proofs.Common.{sym, ap}
use Rattle.service.proofs.Service.{service-law}
use Rattle.dispatch.specs.Tables.{atop}
use Rattle.dispatch.proofs.dispatcher.Dispatcher.new.Goals as goal

pub returns-clause-sound : goal.returns-clause-sound
returns-clause-sound g c =
    let G = g.C.Controller in
    λ h. record { below = h; base = G.stack c.args.controller; top = sym (ap (λ es. atop es (G.stack c.args.controller)) c.new.ensures) }

pub returns-clause-serves : goal.returns-clause-serves
returns-clause-serves g c =
    λ h q. service-law _ (record { lawful = g.met.C.Controller.lawful c.args.controller h; quiet = q; empty = c.new.ensures })
