use Rattle.theory_residue.proofs.Laws.{residue_algebra_exists, order_reduces}
use Rattle.theory_residue.proofs.residue_laws.order_has_residue_algebra.Goals as goal

pub returns-clause-exists : goal.returns-clause-exists
returns-clause-exists g c =
    let a = g.A.ResidueAlgebras in
    residue_algebra_exists a.field a.valuation a.p a.q a.uniformizer a.residue_field a.residue a.algebra a.dimension
    a.basis a.Reduced

pub returns-clause-reduces : goal.returns-clause-reduces
returns-clause-reduces g c =
    let a = g.A.ResidueAlgebras in
    order_reduces a.field a.valuation a.p a.q a.uniformizer a.residue_field a.residue a.algebra a.dimension a.basis
    a.Reduced
