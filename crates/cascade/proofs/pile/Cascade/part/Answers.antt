use Rattle.std.proofs.Common.{◌≡◌, ◌-◌, ◌<◌, ◌≤◌, Some, Ok, sym, subst, arith, rules}
use Rattle.std.proofs.lemmas.Bool.{ne_eqb, lt-ltb, le-ltb}
use Rattle.cascade.specs.declared.pile.Part.TheVariants.{Outer, Inner}
use Rattle.cascade.specs.Parts.{part_of}
use Rattle.cascade.proofs.pile.Cascade.part.Goals as goal

pub returns-then-n-width : goal.returns-then-n-width
returns-then-n-width g c sound =
    let w = g.O.Controller.widths c.args.self.now.outer in
    let at : c.args.self.now.k ≡ Some c.in_ok-k.k = search rules in
    let width : c.width-width.result ≡ w = c.width-width.ensures (sound c.in_ok-k.k at).outer in
    let lt : c.args.n < w = omega arith in
    subst (λ k. Ok Outer ≡ part_of k w c.args.n) (sym at) (rw (ne_eqb c.args.n c.in_ok-k.k c.if-n-k.false, lt-ltb c.args.n w lt))

pub returns-else-n-width : goal.returns-else-n-width
returns-else-n-width g c sound =
    let w = g.O.Controller.widths c.args.self.now.outer in
    let at : c.args.self.now.k ≡ Some c.in_ok-k.k = search rules in
    let width : c.width-width.result ≡ w = c.width-width.ensures (sound c.in_ok-k.k at).outer in
    let le : w ≤ c.args.n = omega arith in
    subst (λ k. Ok (Inner c.in_ok-k.k (c.args.n - c.width-width.result)) ≡ part_of k w c.args.n) (sym at) (rw (ne_eqb c.args.n c.in_ok-k.k c.if-n-k.false, le-ltb c.args.n w le, width))
