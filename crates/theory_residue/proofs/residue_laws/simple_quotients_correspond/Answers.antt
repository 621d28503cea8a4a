use Rattle.theory_residue.proofs.SimpleLaws.{simple_by_quotient, quotient_algebra_exists}
use Rattle.theory_residue.proofs.residue_laws.simple_quotients_correspond.Goals as goal

pub returns-clause-exists : goal.returns-clause-exists
returns-clause-exists g c =
    let a = g.A.ResidueAlgebras in
    quotient_algebra_exists a.field a.valuation a.p a.q a.uniformizer a.residue_field a.residue a.algebra a.dimension
    a.basis a.Reduced a.Quotient

pub returns-clause-simple : goal.returns-clause-simple
returns-clause-simple g c =
    let a = g.A.ResidueAlgebras in
    simple_by_quotient a.field a.valuation a.p a.q a.uniformizer a.residue_field a.residue a.algebra a.dimension a.basis
    a.Reduced a.Quotient
