use Rattle.theory_residue.proofs.Laws.{ideals_correspond}
use Rattle.theory_residue.proofs.residue_laws.ideals_correspond.Goals as goal

pub returns : goal.returns
returns g c =
    let a = g.A.ResidueAlgebras in
    ideals_correspond a.field a.valuation a.p a.q a.uniformizer a.residue_field a.residue a.algebra a.dimension a.basis
    a.Reduced
