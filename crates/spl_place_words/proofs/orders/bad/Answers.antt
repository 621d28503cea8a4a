use Rattle.std.proofs.Common.{sym, subst}
use Rattle.spl_field.specs.SmallField.{small_ops, small_laws}
use Rattle.spl_fraction.specs.Fractions.{field_of}
use Rattle.spl_fraction.specs.FractionsOver.{fractions_over}
use Rattle.theory_bases.specs.TupleLattices.{TupleLattice}
use Rattle.theory_bases.specs.Bases.{IsPolynomialFraction, tuples_of}
use Rattle.spl_place_words.proofs.orders.bad.Goals as goal

pub bad_places-requires-clause-closed : goal.bad_places-requires-clause-closed
bad_places-requires-clause-closed c = λ x p.
    let F = field_of c.args.k.now in
    let h = c.in_ok-order.ensures.order.order in
    subst (TupleLattice (fractions_over F) (IsPolynomialFraction (small_ops F)) c.in_ok-a.a.algebra.dim
    (tuples_of (small_ops F) (small_laws F) c.in_ok-order.order)) (sym p.4) (h.mul_in p.0 p.1 p.2 p.3)
