use Rattle.theory_places.proofs.PlaceResidues.{finite_residues, infinite_residues}
use Rattle.theory_places.proofs.place_laws.residue_fields_of_places.Goals as goal

pub returns : goal.returns
returns g c =
    let q = g.Q.RationalFunctions in
    record {
      finite = finite_residues q.constants q.field q.fractions;
      infinite = infinite_residues q.constants q.field q.fractions;
    }
