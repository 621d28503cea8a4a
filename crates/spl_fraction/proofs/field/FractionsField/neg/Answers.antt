use Rattle.spl_field.specs.SmallField.{small_ops, small_laws}
use Rattle.theory_fractions.proofs.ElementClauses.{lowest_of_elem, elem_of_lowest, neg_is}
use Rattle.spl_fraction.proofs.field.FractionsField.neg.Goals as goal

pub negative_of-requires : goal.negative_of-requires
negative_of-requires c =
    lowest_of_elem (small_ops c.args.self.now.field) (small_laws c.args.self.now.field) c.args.a.now c.requires

pub returns-clause-elem : goal.returns-clause-elem
returns-clause-elem c =
    elem_of_lowest (small_ops c.args.self.now.field)
    (small_laws c.args.self.now.field) c.in_ok-negative_of.field-0 c.in_ok-negative_of.ensures.lowest

pub returns-clause-value : goal.returns-clause-value
returns-clause-value c =
    neg_is (small_ops c.args.self.now.field) (small_laws c.args.self.now.field) c.args.a.now c.in_ok-negative_of.field-0
    c.requires c.in_ok-negative_of.ensures.lowest c.in_ok-negative_of.ensures.negative
