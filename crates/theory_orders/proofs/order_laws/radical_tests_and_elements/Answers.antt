use Rattle.theory_spaces.specs.Module.{module_of}
use Rattle.theory_spaces.proofs.Linear.Spaces.{coords_of}
use Rattle.theory_orders.specs.Lattices.{Lattice}
use Rattle.theory_orders.proofs.Ideals.SimpleQuotients.{simple_by_elements, simple_by_tests, radical_of_simple}
use Rattle.theory_orders.proofs.order_laws.radical_tests_and_elements.Goals as goal

pub returns-clause-to_elements : goal.returns-clause-to_elements
returns-clause-to_elements g c = λ n v O m w I S.
    let a = g.A.PlacedAlgebra in
    simple_by_elements a.field a.valuation a.algebra a.dimension
    (coords_of (module_of a.algebra) a.dimension a.basis) n v m w O I S

pub returns-clause-to_tests : goal.returns-clause-to_tests
returns-clause-to_tests g c = λ n v O m w S.
    let a = g.A.PlacedAlgebra in
    simple_by_tests a.algebra (Lattice a.field a.valuation a.algebra n v)
    (Lattice a.field a.valuation a.algebra m w) O S

pub returns-clause-radical : goal.returns-clause-radical
returns-clause-radical g c = λ n v O m w I over e falls S.
    let a = g.A.PlacedAlgebra in
    radical_of_simple a.algebra (Lattice a.field a.valuation a.algebra n v)
    (Lattice a.field a.valuation a.algebra m w) O S a.p I over e falls
