use Rattle.spl_field.specs.SmallField.{small_ops, small_laws}
use Rattle.theory_fractions.proofs.CommonDenominators.{least_multiple_same}
use Rattle.spl_fraction.proofs.denominator.common_multiple.Goals as goal

pub returns-then-branch-clause-value : goal.returns-then-branch-clause-value
returns-then-branch-clause-value c =
    least_multiple_same (small_ops c.args.f.now) (small_laws c.args.f.now) c.args.a c.args.b.now
    c.requires.a_over c.requires.a_monic (c.in_ok-is_multiple.ensures c.if-branch.true)
