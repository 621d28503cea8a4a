use Rattle.std.proofs.Common.{◌+◌, ◌*◌, ℕ, [], sym, ◌∙◌, ap₂, subst}
use Rattle.std.proofs.lemmas.List.{get_or_default}
use Rattle.theory_rings.specs.Ops.{Ops}
use Rattle.spl_field.specs.SmallField.{small_ops, small_laws}
use Rattle.theory_fractions.specs.PolynomialLists.{IsPolynomialList}
use Rattle.theory_fractions.specs.Fraction.{Pair}
use Rattle.theory_fractions.specs.FractionOps.{fraction_ops}
use Rattle.theory_fractions.specs.CommonDenominator.{as_fraction}
use Rattle.theory_tables.proofs.Rows.Sums.{sum_step}
use Rattle.spl_numerators.specs.Sums.{fraction_at}
use Rattle.spl_numerators.proofs.Sums.{zero_fraction, no_polynomial, polynomial_at}
use Rattle.spl_numerators.proofs.products.sum_of_products.Goals as goal

pub loop-l-init : goal.loop-l-init
loop-l-init c =
    let o = small_ops c.args.f.now in
    let e = c.in_ok-sum.ensures.value in
    record {
      polynomial = subst (IsPolynomialList o) (sym e) (no_polynomial o (small_laws c.args.f.now));
      value = zero_fraction o (small_laws c.args.f.now) c.in_ok-sum.sum e;
    }

pub add_product-requires-clause-left : goal.add_product-requires-clause-left
add_product-requires-clause-left c =
    polynomial_at (small_ops c.args.f.now) (small_laws c.args.f.now) c.args.lefts.now
    (c.args.first + c.loop-l.l) c.index-lefts-first.result
    (c.requires.first_within c.loop-l.l c.loop-l-test.true) c.index-lefts-first.is c.requires.lefts

pub add_product-requires-clause-right : goal.add_product-requires-clause-right
add_product-requires-clause-right c =
    polynomial_at (small_ops c.args.f.now) (small_laws c.args.f.now) c.args.rights.now
    (c.args.second + c.loop-l.l * c.args.stride) c.index-rights-second.result
    (c.requires.second_within c.loop-l.l c.loop-l-test.true) c.index-rights-second.is c.requires.rights

pub loop-l-preserved : goal.loop-l-preserved
loop-l-preserved c =
    let o = small_ops c.args.f.now in
    let L = small_laws c.args.f.now in
    let K : Ops (Pair ℕ) = fraction_ops o L in
    let lefts = c.args.lefts.now in
    let rights = c.args.rights.now in
    let l = c.loop-l.l in
    let p = c.args.first + l in
    let q = c.args.second + l * c.args.stride in
    let left = c.index-lefts-first.is
    ∙ get_or_default lefts p c.index-lefts-first.result [] (c.requires.first_within l c.loop-l-test.true) in
    let right = c.index-rights-second.is
    ∙ get_or_default rights q c.index-rights-second.result [] (c.requires.second_within l c.loop-l-test.true) in
    record {
      polynomial = c.in_ok-sum-2.ensures.polynomial;
      value = sum_step K l
          (λ k. K.mul (fraction_at o L lefts (c.args.first + k))
          (fraction_at o L rights (c.args.second + k * c.args.stride)))
          (as_fraction o c.loop-l.sum) (as_fraction o c.in_ok-sum-2.sum)
          (K.mul (as_fraction o c.index-lefts-first.result) (as_fraction o c.index-rights-second.result))
          c.loop-l.invariant.value
          (ap₂ (λ x y. K.mul (as_fraction o x) (as_fraction o y)) left right)
          c.in_ok-sum-2.ensures.value;
    }
