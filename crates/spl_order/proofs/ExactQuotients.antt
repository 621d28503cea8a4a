-- The quotient by a divisor as a fraction.
use Rattle.std.specs.Prelude.{◌≡◌, ◌≢◌, List, []}
use Rattle.std.proofs.Common.{sym, ◌∙◌}
use Rattle.theory_rings.specs.Ops.{Ops, FieldLaws}
use Rattle.theory_fractions.specs.PolynomialLists.{IsPolynomialList, IsDivision, Divides}
use Rattle.theory_fractions.specs.FractionOps.{fraction_ops}
use Rattle.theory_fractions.specs.CommonDenominator.{as_fraction}
use Rattle.theory_fractions.proofs.CommonDenominators.{product_of_poly}
use Rattle.theory_fractions.proofs.PolynomialFractions.{as_fraction-elem, as_fraction-mul}
use Rattle.theory_fractions.proofs.Reducing.{exact_quotient}
use Rattle.theory_bases.specs.Bases.{fraction_over}
use Rattle.theory_bases.proofs.FractionsOver.{M, over_of_multiple}

module _ {E : Type 0} (o : Ops E) (L : FieldLaws o) (h u q r : List E) (hh : IsPolynomialList o h) (n : h ≢ [])
    (hu : IsPolynomialList o u) (hq : IsPolynomialList o q) (hr : IsPolynomialList o r) (d : Divides o h u)
    (division : IsDivision o u h q r) where
  -- the quotient times the divisor
  pub quotient_times : as_fraction o u ≡ (fraction_ops o L).mul (as_fraction o q) (as_fraction o h)
  quotient_times = as_fraction-mul o L q h u hq hh hu
      (product_of_poly o L q h u hq.over hh.over hu.over (exact_quotient o L u h q r hu hh hq hr n d division))

  pub quotient_value : as_fraction o q ≡ fraction_over o L h u
  quotient_value =
      let laws = M o L in
      let ih = as_fraction-elem o L h hh in
      let iq = as_fraction-elem o L q hq in
      sym (over_of_multiple o L h hh n u (as_fraction o q) iq
      (quotient_times ∙ laws.mul_comm (as_fraction o q) (as_fraction o h) iq ih))
