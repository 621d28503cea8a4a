use Rattle.spl_field.specs.SmallField.{small_ops, small_laws}
use Rattle.theory_fractions.proofs.ElementClauses.{lowest_of_elem, elem_of_lowest}
use Rattle.spl_fraction.proofs.field.Fractions.swap_infinity.Goals as goal

pub swapped-requires : goal.swapped-requires
swapped-requires c = lowest_of_elem (small_ops c.args.self.now.field)
    (small_laws c.args.self.now.field) c.args.a.now c.requires

pub returns-clause-elem : goal.returns-clause-elem
returns-clause-elem c =
    elem_of_lowest (small_ops c.args.self.now.field)
    (small_laws c.args.self.now.field) c.in_ok-swapped.field-0 c.in_ok-swapped.ensures.lowest
