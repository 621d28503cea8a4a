use Rattle.theory_lattices.proofs.Duals.DualLattices.{self_dual}
use Rattle.theory_lattices.proofs.lattice_laws.self_dual_lattice.Goals as goal

pub returns : goal.returns
returns g c = λ n f h pairing. let b = g.B.FormWithWeights in
    self_dual b.field b.space b.Weight n b.form b.bilinear f h pairing
