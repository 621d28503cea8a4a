use Rattle.theory_places.proofs.FractionPlaces.{finite_fraction_residues, infinite_fraction_residue}
use Rattle.theory_places.proofs.fraction_laws.residue_fields_of_fraction_places.Goals as goal

pub returns : goal.returns
returns g c =
    let f = g.F.ProgramField in
    record { finite = finite_fraction_residues f.ops f.laws; infinite = infinite_fraction_residue f.ops f.laws }
