use Rattle.spl_field.specs.SmallField.{small_ops, small_laws}
use Rattle.theory_fractions.proofs.ElementClauses.{elem_of_lowest}
use Rattle.spl_fraction.proofs.field.Fractions.make.Goals as goal

pub returns-clause-elem : goal.returns-clause-elem
returns-clause-elem c =
    elem_of_lowest (small_ops c.args.self.now.field)
    (small_laws c.args.self.now.field) c.in_ok-reduced.field-0 c.in_ok-reduced.ensures.lowest
