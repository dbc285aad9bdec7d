use Rattle.std.proofs.Common.{◌≡◌, length, sym, subst, arith, rules}
use Rattle.controller.proofs.RuleLaws.{rule-laws}
use Rattle.plic_controller.proofs.Making.{Partly, nothing_yet, made-sound, made-fixed, made-state, made-chip}
use Rattle.plic_controller.proofs.unit.PlicController.new.Goals as goal

pub loop-n-init : goal.loop-n-init
loop-n-init c = subst (Partly c.args.priorities 0) (sym c.new-chip.ensures.value) (nothing_yet c.args.priorities)

pub returns : goal.returns
returns c =
    let l : length c.args.priorities ≡ 64 = search rules in
    let end : c.loop-n.n ≡ 64 = omega arith in
    let all = subst (λ n. Partly c.args.priorities n c.loop-n.chip) end c.loop-n.invariant in
    record {
      sound = made-sound c.args.priorities c.loop-n.chip l all;
      fixed = made-fixed c.args.priorities c.loop-n.chip l all;
      state = made-state c.args.priorities c.loop-n.chip l all;
      chip = made-chip c.args.priorities c.loop-n.chip l all;
      laws = rule-laws;
    }
