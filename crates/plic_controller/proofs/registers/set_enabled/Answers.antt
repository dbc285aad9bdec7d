use Rattle.plic.proofs.Offsets.{writes-enable, enable-there}
use Rattle.plic_controller.proofs.registers.set_enabled.Goals as goal

pub returns-in-Ok : goal.returns-in-Ok
returns-in-Ok c source =
    writes-enable 64 _ _ _ c.args.n c.in-Ok.word c.with_bit.result c.args.on c.write.result source (rw c.from-n.ensures at c.in-Ok.ensures) (rw c.from-n.ensures at c.with_bit.ensures) (rw c.from-n.ensures at c.write.ensures)

pub returns-in_default : goal.returns-in_default
returns-in_default c source = absurd (enable-there 64 _ _ c.args.n _ source (rw c.from-n.ensures at c.in_default.ensures))
