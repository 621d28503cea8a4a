use Rattle.std.proofs.Common.{sym, ◌∙◌, subst}
use Rattle.spl_field.specs.SmallField.{small_ops, small_laws}
use Rattle.theory_fractions.specs.Fraction.{IsFractionSum}
use Rattle.theory_fractions.proofs.SumsOfFractions.{zero_sum, sum_zero, sum_comm}
use Rattle.spl_fraction.proofs.arithmetic.sum_of.Goals as goal

pub returns-then-is_zero-clause-sum : goal.returns-then-is_zero-clause-sum
returns-then-is_zero-clause-sum c =
    let o = small_ops c.args.f.now in
    subst (IsFractionSum o c.args.a.now c.args.b.now) (sym c.in_ok-copy_of.ensures)
    (zero_sum o (small_laws c.args.f.now) c.args.a.now c.args.b.now c.requires.left c.requires.right
    (sym c.numerator.ensures.value ∙ c.is_zero.ensures.0 c.if-is_zero.true))

pub returns-then-is_zero-2-clause-sum : goal.returns-then-is_zero-2-clause-sum
returns-then-is_zero-2-clause-sum c =
    let o = small_ops c.args.f.now in
    subst (IsFractionSum o c.args.a.now c.args.b.now) (sym c.in_ok-copy_of-2.ensures)
    (sum_zero o (small_laws c.args.f.now) c.args.a.now c.args.b.now c.requires.left c.requires.right
    (sym c.numerator-2.ensures.value ∙ c.is_zero-2.ensures.0 c.if-is_zero-2.true))

pub returns-then-is_constant-2-clause-sum : goal.returns-then-is_constant-2-clause-sum
returns-then-is_constant-2-clause-sum c =
    sum_comm (small_ops c.args.f.now)
    (small_laws c.args.f.now) c.args.b.now c.args.a.now c.in_ok-sum_with_polynomial-2.field-0
    c.requires.right c.requires.left c.in_ok-sum_with_polynomial-2.ensures.lowest
    c.in_ok-sum_with_polynomial-2.ensures.sum
