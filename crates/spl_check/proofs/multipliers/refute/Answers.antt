use Rattle.std.proofs.Common.{sym, ◌∙◌}
use Rattle.spl_check.proofs.MultiplierLists.{refute_sums}
use Rattle.spl_check.proofs.Tests.{reworded}
use Rattle.spl_check.proofs.multipliers.refute.Goals as goal

pub returns : goal.returns
returns g c =
    let o = g.F.Field.ops c.args.f.now in
    let L = g.met.F.Field.laws c.args.f.now in
    let sums = refute_sums o L c.args.algebra.now.dim c.args.left.now c.args.right.now c.requires.left c.requires.right
    c.in_ok-zero.field-0 c.in_ok-sum.sum c.in_ok-sum-2.sum c.in_ok-zero.ensures.value c.in_ok-sum.ensures.value
    c.in_ok-sum-2.ensures.value in
    reworded c.eq.result c.eq.ensures (λ e. sym sums ∙ e ∙ c.in_ok-one.ensures.value)
    (λ h. sums ∙ h ∙ sym c.in_ok-one.ensures.value)
