use Rattle.std.proofs.Common.{◌<◌, ℕ, [], get_or, map}
use Rattle.spl_field.specs.SmallField.{small_ops, small_laws}
use Rattle.spl_fraction.specs.Fractions.{field_of}
use Rattle.spl_fraction.specs.FractionsOver.{fractions_over}
use Rattle.theory_bases.specs.TupleLattices.{TupleLattice}
use Rattle.theory_bases.specs.Bases.{IsBasis, IsPolynomialFraction, fraction_over, tuples_of}
use Rattle.spl_order.proofs.within.is_within.Given as goal

abbrev pub invariant-loop-i : goal.invariant-loop-i
invariant-loop-i l = (n : ℕ) → IsBasis (small_ops (field_of l.f)) (small_laws (field_of l.f)) n l.a
    → IsBasis (small_ops (field_of l.f)) (small_laws (field_of l.f)) n l.b → (j : ℕ) → j < l.i
    → TupleLattice (fractions_over (field_of l.f)) (IsPolynomialFraction (small_ops (field_of l.f))) n
    (tuples_of (small_ops (field_of l.f)) (small_laws (field_of l.f)) l.b)
    (map (fraction_over (small_ops (field_of l.f)) (small_laws (field_of l.f)) l.a.denominator)
    (get_or l.a.numerators j []))
