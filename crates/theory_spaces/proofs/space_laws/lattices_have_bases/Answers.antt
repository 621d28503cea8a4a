use Rattle.theory_spaces.proofs.Linear.Lattices.{lattice_basis}
use Rattle.theory_spaces.proofs.space_laws.lattices_have_bases.Goals as goal

pub returns : goal.returns
returns g c = let v = g.V.ValuedSpace in lattice_basis v.field v.valuation v.space v.size v.coords
