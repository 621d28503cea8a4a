use Rattle.std.proofs.Common.{◌≡◌, [], get_or, length, sym, ap₂, subst, arith}
use Rattle.theory_rings.specs.Sum.{sum_of}
use Rattle.spl_field.specs.SmallField.{small_ops, small_laws}
use Rattle.theory_fractions.specs.PolynomialLists.{IsPolynomialList}
use Rattle.theory_fractions.specs.FractionOps.{fraction_ops}
use Rattle.theory_fractions.specs.CommonDenominator.{as_fraction}
use Rattle.spl_order.specs.Values.{fraction_entry}
use Rattle.spl_order.proofs.Values.{read, read_is, items_of}
use Rattle.theory_tables.proofs.Rows.Sums.{sum_step}
use Rattle.spl_numerators.proofs.Sums.{zero_fraction, no_polynomial}
use Rattle.theory_rows.proofs.LiftedRows.{matrix-over, matrix-trimmed}
use Rattle.spl_order.proofs.matrices.dot.Goals as goal

pub loop-k-init : goal.loop-k-init
loop-k-init c =
    let o = small_ops c.args.f.now in
    let e = c.in_ok-sum.ensures.value in
    record {
      polynomial = subst (IsPolynomialList o) (sym e) (no_polynomial o (small_laws c.args.f.now));
      value = zero_fraction o (small_laws c.args.f.now) c.in_ok-sum.sum e;
    }

pub add_product-requires-clause-left : goal.add_product-requires-clause-left
add_product-requires-clause-left c =
    let o = small_ops c.args.f.now in
    let h = c.requires.row in
    read (IsPolynomialList o) c.args.row.now c.loop-k.k c.index-row-k.result
    (omega (arith, c.loop-k-test.true, h.width)) c.index-row-k.is
    (items_of o (length c.args.rows.now) c.args.row.now h)

pub add_product-requires-clause-right : goal.add_product-requires-clause-right
add_product-requires-clause-right c =
    let o = small_ops c.args.f.now in
    let L = small_laws c.args.f.now in
    subst (IsPolynomialList o) (sym c.entry.ensures) record {
      over = matrix-over o L c.args.w c.args.rows.now c.requires.rows c.loop-k.k c.args.j;
      trimmed = matrix-trimmed o L c.args.w c.args.rows.now c.requires.rows c.loop-k.k c.args.j;
    }

pub loop-k-preserved : goal.loop-k-preserved
loop-k-preserved c =
    let o = small_ops c.args.f.now in
    let L = small_laws c.args.f.now in
    let K = fraction_ops o L in
    let k = c.loop-k.k in
    let h = c.requires.row in
    record {
      polynomial = c.in_ok-sum-2.ensures.polynomial;
      value = sum_step K k
          (λ k. K.mul (as_fraction o (get_or c.args.row.now k [])) (fraction_entry o c.args.rows.now k c.args.j))
          (as_fraction o c.loop-k.sum) (as_fraction o c.in_ok-sum-2.sum)
          (K.mul (as_fraction o c.index-row-k.result) (as_fraction o c.entry.result.now))
          c.loop-k.invariant.value
          (ap₂ (λ x y. K.mul (as_fraction o x) (as_fraction o y))
          (read_is c.args.row.now k c.index-row-k.result (omega (arith, c.loop-k-test.true, h.width)) c.index-row-k.is)
          c.entry.ensures)
          c.in_ok-sum-2.ensures.value;
    }

pub returns : goal.returns
returns c =
    let o = small_ops c.args.f.now in
    let L = small_laws c.args.f.now in
    let K = fraction_ops o L in
    let whole : c.loop-k.k ≡ length c.args.rows.now = omega (arith, c.loop-k-test.false, c.loop-k.auto) in
    record {
      polynomial = c.loop-k.invariant.polynomial;
      value = subst
          (λ n. as_fraction o c.loop-k.sum ≡ sum_of K n
          (λ k. K.mul (as_fraction o (get_or c.args.row.now k [])) (fraction_entry o c.args.rows.now k c.args.j)))
          whole c.loop-k.invariant.value;
    }
