use Rattle.std.proofs.Common.{true, false, eqb, ap, w32}
use Rattle.std.proofs.lemmas.Nat.Bits.{bit_at_set_same, bit_at_set_other, bit_at_clear_same, bit_at_clear_other}
use Rattle.plic_controller.proofs.Masks.{with_bit}
use Rattle.plic_controller.proofs.registers.with_bit.Goals as goal

pub returns-then-on : goal.returns-then-on
returns-then-on c =
    let v = c.args.value in
    let i = c.args.i in
    simp c.if-on.true (with_bit _ v i true
    (ap (λ b. eqb b 1) (bit_at_set_same w32 v i c.requires))
    (λ j lt ne. ap (λ b. eqb b 1) (bit_at_set_other w32 v i c.requires j ne)))

pub returns-else-on : goal.returns-else-on
returns-else-on c =
    let v = c.args.value in
    let i = c.args.i in
    simp c.if-on.false (with_bit _ v i false
    (ap (λ b. eqb b 1) (bit_at_clear_same w32 v i c.requires))
    (λ j lt ne. ap (λ b. eqb b 1) (bit_at_clear_other w32 v i c.requires j lt ne)))
