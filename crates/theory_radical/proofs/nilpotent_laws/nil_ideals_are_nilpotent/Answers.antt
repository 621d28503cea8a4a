use Rattle.theory_spaces.specs.Module.{module_of}
use Rattle.theory_spaces.proofs.Linear.Spaces.{coords_of}
use Rattle.theory_radical.proofs.Nilpotent.NilIdeals.{nil_products_vanish, nil_ideal_nilpotent}
use Rattle.theory_radical.proofs.nilpotent_laws.nil_ideals_are_nilpotent.Goals as goal

pub returns-clause-products : goal.returns-clause-products
returns-clause-products g c =
    let a = g.J.AlgebraSubset in
    nil_products_vanish a.field a.algebra a.dimension (coords_of (module_of a.algebra) a.dimension a.basis) a.Subset

pub returns-clause-ideal : goal.returns-clause-ideal
returns-clause-ideal g c =
    let a = g.J.AlgebraSubset in
    nil_ideal_nilpotent a.field a.algebra a.dimension (coords_of (module_of a.algebra) a.dimension a.basis) a.Subset
