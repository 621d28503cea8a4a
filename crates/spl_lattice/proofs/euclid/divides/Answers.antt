use Rattle.std.proofs.Common.{sym, ◌∙◌}
use Rattle.spl_field.specs.SmallField.{small_ops}
use Rattle.spl_lattice.proofs.GreatestDivisors.{divides_of_constant, divides_of_division, length_of_degree_zero}
use Rattle.spl_lattice.proofs.euclid.divides.Goals as goal

pub returns-then-eq : goal.returns-then-eq
returns-then-eq c t =
    divides_of_constant (small_ops c.args.f.now) c.know_laws.ensures c.args.a.now c.args.b.now c.requires.a_over
    c.degree.ensures.trimmed
    (length_of_degree_zero c.degree.result c.args.a.now
    (sym c.eq.ensures ∙ c.if-eq.true) c.degree.ensures.degree) c.requires.b_over

pub returns : goal.returns
returns c t =
    let d = c.in_ok-division in
    divides_of_division (small_ops c.args.f.now) c.know_laws.ensures c.args.a.now c.args.b.now d.division.quotient
    d.division.remainder
    c.requires.a_over d.ensures.quotient_over d.ensures.value (c.is_zero.ensures.0 t)
