use Rattle.spl_field.specs.SmallField.{small_ops, small_laws}
use Rattle.theory_fractions.proofs.ElementClauses.{lowest_of_elem}
use Rattle.spl_fraction.proofs.field.Fractions.valuation.Goals as goal

pub valuation_of-requires-clause-lowest : goal.valuation_of-requires-clause-lowest
valuation_of-requires-clause-lowest c = lowest_of_elem (small_ops c.args.self.now.field)
    (small_laws c.args.self.now.field) c.args.a.now c.requires.elem
