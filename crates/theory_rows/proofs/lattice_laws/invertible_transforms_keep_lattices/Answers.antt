use Rattle.theory_rows.proofs.InvertibleTransforms.{unimodular_image}
use Rattle.theory_rows.proofs.lattice_laws.invertible_transforms_keep_lattices.Goals as goal

pub returns : goal.returns
returns g c = record {
  image = λ w rows new t hr hn h i. unimodular_image g.F.ProgramField.ops g.F.ProgramField.laws w rows new t hr hn h i;
}
