use Rattle.cascade.proofs.Made.{made-hung}
use Rattle.cascade.proofs.pile.Cascade.new.Goals as goal

pub returns : goal.returns
returns g c =
    let made = made-hung g.O.Controller g.I.Controller g.met.O.Controller.lawful c.args.outer c.args.k c.args.inner c.check.result c.check.ensures.answer c.if-is_err.ensures.negation c.open.result c.open.new.self c.tell.new.outer
    c.check.new.outer c.check.ensures.outer c.check.new.inner c.check.ensures.inner c.open.ensures.rule c.tell.ensures in
    record {
      sound = λ outer inner. (made outer inner).0;
      makes = λ outer inner. (made outer inner).1;
    }
