use Rattle.theory_residue.proofs.RadicalLaws.{radical_quotient_exists}
use Rattle.theory_residue.proofs.Counted.{maximal_ideals_are_counted}
use Rattle.theory_residue.proofs.residue_laws.order_modulo_radical.Goals as goal

pub returns-clause-exists : goal.returns-clause-exists
returns-clause-exists g c =
    let a = g.A.ResidueAlgebras in
    radical_quotient_exists a.field a.valuation a.p a.q a.uniformizer a.residue_field a.residue a.algebra a.dimension
    a.basis a.Reduced a.Quotient

pub returns-clause-counted : goal.returns-clause-counted
returns-clause-counted g c =
    let a = g.A.ResidueAlgebras in
    maximal_ideals_are_counted a.field a.valuation a.p a.q a.residue_field a.residue a.algebra a.dimension a.Quotient
