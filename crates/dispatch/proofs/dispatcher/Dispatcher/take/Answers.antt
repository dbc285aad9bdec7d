use Rattle.std.proofs.Common.{Some, subst}
use Rattle.controller.specs.Rules.{Takes}
use Rattle.controller.specs.Telling.{meaning}
use Rattle.dispatch.specs.Tables.{entries_of}
use Rattle.dispatch.proofs.Held.{takes-another}
use Rattle.dispatch.proofs.dispatcher.Dispatcher.take.Goals as goal

-- A line in service does not wait, and the lines of the nest are in service.
pub returns-in-Some-clause-another : goal.returns-in-Some-clause-another
returns-in-Some-clause-another g c sound =
    let m = meaning g.C.Controller c.args.self.now.controller in
    let m' = meaning g.C.Controller c.take.new.self in
    let took : Takes m (Some c.in-Some.line) m' = subst (λ r. Takes m r m') c.in-Some.is (c.take.ensures sound.below).1 in
    takes-another m m' (entries_of c.args.self.now.nest) sound.base (Some c.in-Some.line) (g.met.C.Controller.lawful c.args.self.now.controller sound.below) sound.top took
