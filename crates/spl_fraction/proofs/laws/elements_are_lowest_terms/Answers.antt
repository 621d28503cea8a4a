use Rattle.spl_field.specs.SmallField.{small_ops, small_laws}
use Rattle.theory_fractions.proofs.LowestTerms.{elem_iff_lowest}
use Rattle.spl_fraction.proofs.laws.elements_are_lowest_terms.Goals as goal

pub returns : goal.returns
returns c u v = elem_iff_lowest (small_ops c.args.f.now) (small_laws c.args.f.now) u v
