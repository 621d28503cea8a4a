use Rattle.spl_field.specs.SmallField.{small_ops}
use Rattle.spl_lattice.proofs.RowSteps.{plus_nothing}
use Rattle.spl_lattice.proofs.steps.plus_multiple.Goals as goal

pub returns-then-is_zero-clause-value : goal.returns-then-is_zero-clause-value
returns-then-is_zero-clause-value c =
    plus_nothing (small_ops c.args.f.now) c.know_laws.ensures c.args.a.now c.args.m.now c.args.b.now
    c.in_ok-copy.field-0 c.requires.a_over c.requires.m_over (c.is_zero.ensures.0 c.if-is_zero.true)
    c.in_ok-copy.ensures.value
