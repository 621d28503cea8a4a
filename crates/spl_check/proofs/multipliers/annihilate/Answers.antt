use Rattle.std.proofs.Common.{◌<◌, sym, ◌∙◌, arith, below_more}
use Rattle.std.proofs.lemmas.Bool.{both_ways}
use Rattle.spl_check.proofs.MultiplierLists.{annihilate_sums}
use Rattle.spl_check.proofs.Tests.{yes, no}
use Rattle.spl_check.proofs.multipliers.annihilate.Goals as goal

pub loop-i-preserved : goal.loop-i-preserved
loop-i-preserved g c =
    let o = g.F.Field.ops c.args.f.now in
    let L = g.met.F.Field.laws c.args.f.now in
    let sums = annihilate_sums o L c.args.algebra.now c.requires.over c.args.left.now c.args.right.now c.requires.left
    c.requires.right c.loop-i.i c.in_ok-zero-2.field-0 c.in_ok-sum.sum c.in_ok-sum-2.sum c.in_ok-zero-2.ensures.value
    c.in_ok-sum.ensures.value c.in_ok-sum-2.ensures.value in
    below_more _ _ c.loop-i.invariant
    (sym sums ∙ c.eq.ensures.0 c.if-not-eq.false ∙ c.in_ok-zero.ensures.value)

pub returns : goal.returns
returns g c = yes (λ i i_in. c.loop-i.invariant i (omega (arith, i_in, c.loop-i-test.false, c.dim-i-end.ensures.dim)))

pub returns-then-not-eq : goal.returns-then-not-eq
returns-then-not-eq g c =
    let o = g.F.Field.ops c.args.f.now in
    let L = g.met.F.Field.laws c.args.f.now in
    let i_in : c.loop-i.i < c.args.algebra.now.dim = omega (arith, c.loop-i-test.true, c.dim-i-end.ensures.dim) in
    let sums = annihilate_sums o L c.args.algebra.now c.requires.over c.args.left.now c.args.right.now c.requires.left
    c.requires.right c.loop-i.i c.in_ok-zero-2.field-0 c.in_ok-sum.sum c.in_ok-sum-2.sum c.in_ok-zero-2.ensures.value
    c.in_ok-sum.ensures.value c.in_ok-sum-2.ensures.value in
    no (λ h. both_ways c.eq.result c.if-not-eq.true
    (c.eq.ensures.1 (sums ∙ h c.loop-i.i i_in ∙ sym c.in_ok-zero.ensures.value)))
