use Rattle.std.proofs.Common.{length, subst, sym, ◌∙◌}
use Rattle.spl_field.specs.SmallField.{small_ops, small_laws}
use Rattle.theory_fractions.specs.PolynomialLists.{IsOver, IsProduct, IsPolynomialList}
use Rattle.theory_fractions.specs.FractionOps.{fraction_ops}
use Rattle.theory_fractions.specs.CommonDenominator.{as_fraction}
use Rattle.theory_rows.specs.Rows.{IsPolynomialMatrix}
use Rattle.theory_bases.specs.TupleLattices.{AreTraceDual}
use Rattle.theory_bases.specs.Bases.{tuples_of}
use Rattle.spl_order.specs.Values.{HasMatrix, fraction_entry, product_entry}
use Rattle.spl_order.proofs.Values.{matrix_is}
use Rattle.spl_order.proofs.DualBases.{form-matrix, order-matrix, columns-square, columns-free}
use Rattle.spl_order.proofs.DualBases.{inverse-matrix, rows-dual, new-square, new-free, new-basis}
use Rattle.spl_order.proofs.forms.dual_by_form.Goals as goal

pub product-requires-clause-a : goal.product-requires-clause-a
product-requires-clause-a c =
    let o = small_ops c.args.f.now in
    let L = small_laws c.args.f.now in
    let K = fraction_ops o L in
    let A = c.args.a.now in
    let e = c.args.form.now.denominator in
    let N = c.args.form.now.numerators in
    let b = c.args.order.now in
    let dim = c.dim-m.ensures.dim in
    let first = c.as_slice.ensures ∙ c.numerators.ensures in
    let second = c.as_slice-2.ensures in
    subst (λ x. IsPolynomialMatrix o (length x) c.as_slice.result.now) (sym second)
    (subst (IsPolynomialMatrix o (length N)) (sym first) (order-matrix o L A c.requires.over c.requires.associative c.requires.nondegenerate e N c.requires.form b
    c.requires.order))

pub product-requires-clause-b : goal.product-requires-clause-b
product-requires-clause-b c =
    let o = small_ops c.args.f.now in
    let L = small_laws c.args.f.now in
    let K = fraction_ops o L in
    let A = c.args.a.now in
    let e = c.args.form.now.denominator in
    let N = c.args.form.now.numerators in
    let b = c.args.order.now in
    let dim = c.dim-m.ensures.dim in
    let first = c.as_slice.ensures ∙ c.numerators.ensures in
    let second = c.as_slice-2.ensures in
    subst (λ w. IsPolynomialMatrix o w c.as_slice-2.result.now) (sym dim)
    (subst (IsPolynomialMatrix o A.dim) (sym second) (form-matrix o L A c.requires.over c.requires.associative c.requires.nondegenerate e N c.requires.form b
    c.requires.order))

pub transposed-requires : goal.transposed-requires
transposed-requires c =
    let o = small_ops c.args.f.now in
    let L = small_laws c.args.f.now in
    let K = fraction_ops o L in
    let A = c.args.a.now in
    let e = c.args.form.now.denominator in
    let N = c.args.form.now.numerators in
    let b = c.args.order.now in
    let dim = c.dim-m.ensures.dim in
    let first = c.as_slice.ensures ∙ c.numerators.ensures in
    let second = c.as_slice-2.ensures in
    let q = c.in_ok-values.values in
    let x1 = c.as_slice.result.now in
    let x2 = c.as_slice-2.result.now in
    let Q = subst (λ x. HasMatrix o (product_entry o L (length N) x N) (length x) A.dim q) first
    (subst (λ x. HasMatrix o (product_entry o L (length x) x1 x) (length x1) A.dim q) second
    (subst (λ w. HasMatrix o (product_entry o L (length x2) x1 x2) (length x1) w q) dim c.in_ok-values.ensures)) in
    subst (λ w. IsPolynomialMatrix o w c.as_slice-3.result.now) (sym dim)
    (subst (IsPolynomialMatrix o A.dim) (sym c.as_slice-3.ensures)
    (matrix_is o (product_entry o L (length N) b.numerators N) (length b.numerators) A.dim q Q))

pub inverse_rows-requires-clause-rows : goal.inverse_rows-requires-clause-rows
inverse_rows-requires-clause-rows c =
    let o = small_ops c.args.f.now in
    let L = small_laws c.args.f.now in
    let K = fraction_ops o L in
    let A = c.args.a.now in
    let e = c.args.form.now.denominator in
    let N = c.args.form.now.numerators in
    let b = c.args.order.now in
    let dim = c.dim-m.ensures.dim in
    let first = c.as_slice.ensures ∙ c.numerators.ensures in
    let second = c.as_slice-2.ensures in
    let q = c.in_ok-values.values in
    let x1 = c.as_slice.result.now in
    let x2 = c.as_slice-2.result.now in
    let Q = subst (λ x. HasMatrix o (product_entry o L (length N) x N) (length x) A.dim q) first
    (subst (λ x. HasMatrix o (product_entry o L (length x) x1 x) (length x1) A.dim q) second
    (subst (λ w. HasMatrix o (product_entry o L (length x2) x1 x2) (length x1) w q) dim c.in_ok-values.ensures)) in
    let p = c.in_ok-columns.columns in
    let x3 = c.as_slice-3.result.now in
    let P = subst (λ x. HasMatrix o (λ j i. fraction_entry o x i j) A.dim (length x) p) c.as_slice-3.ensures
    (subst (λ w. HasMatrix o (λ j i. fraction_entry o x3 i j) w (length x3) p) dim c.in_ok-columns.ensures) in
    columns-square o L A c.requires.over c.requires.associative c.requires.nondegenerate e N c.requires.form b
    c.requires.order q Q p P

pub inverse_rows-requires-clause-independent : goal.inverse_rows-requires-clause-independent
inverse_rows-requires-clause-independent c =
    let o = small_ops c.args.f.now in
    let L = small_laws c.args.f.now in
    let K = fraction_ops o L in
    let A = c.args.a.now in
    let e = c.args.form.now.denominator in
    let N = c.args.form.now.numerators in
    let b = c.args.order.now in
    let dim = c.dim-m.ensures.dim in
    let first = c.as_slice.ensures ∙ c.numerators.ensures in
    let second = c.as_slice-2.ensures in
    let q = c.in_ok-values.values in
    let x1 = c.as_slice.result.now in
    let x2 = c.as_slice-2.result.now in
    let Q = subst (λ x. HasMatrix o (product_entry o L (length N) x N) (length x) A.dim q) first
    (subst (λ x. HasMatrix o (product_entry o L (length x) x1 x) (length x1) A.dim q) second
    (subst (λ w. HasMatrix o (product_entry o L (length x2) x1 x2) (length x1) w q) dim c.in_ok-values.ensures)) in
    let p = c.in_ok-columns.columns in
    let x3 = c.as_slice-3.result.now in
    let P = subst (λ x. HasMatrix o (λ j i. fraction_entry o x i j) A.dim (length x) p) c.as_slice-3.ensures
    (subst (λ w. HasMatrix o (λ j i. fraction_entry o x3 i j) w (length x3) p) dim c.in_ok-columns.ensures) in
    columns-free o L A c.requires.over c.requires.associative c.requires.nondegenerate e N c.requires.form b
    c.requires.order q Q p P

pub mul-requires-clause-self_over : goal.mul-requires-clause-self_over
mul-requires-clause-self_over c =
    let p = c.requires.order.polynomial in
    subst (IsOver (small_ops c.args.f.now)) (sym c.denominator.ensures.value) p.over

pub mul-requires-clause-b_over : goal.mul-requires-clause-b_over
mul-requires-clause-b_over c = let p = c.requires.form.polynomial in p.over

pub row_multiples-requires-clause-c : goal.row_multiples-requires-clause-c
row_multiples-requires-clause-c c = record { over = c.in_ok-c.ensures.over; trimmed = c.in_ok-c.ensures.trimmed }

pub row_multiples-requires-clause-rows : goal.row_multiples-requires-clause-rows
row_multiples-requires-clause-rows c =
    let o = small_ops c.args.f.now in
    let L = small_laws c.args.f.now in
    let K = fraction_ops o L in
    let A = c.args.a.now in
    let e = c.args.form.now.denominator in
    let N = c.args.form.now.numerators in
    let b = c.args.order.now in
    let dim = c.dim-m.ensures.dim in
    let first = c.as_slice.ensures ∙ c.numerators.ensures in
    let second = c.as_slice-2.ensures in
    let q = c.in_ok-values.values in
    let x1 = c.as_slice.result.now in
    let x2 = c.as_slice-2.result.now in
    let Q = subst (λ x. HasMatrix o (product_entry o L (length N) x N) (length x) A.dim q) first
    (subst (λ x. HasMatrix o (product_entry o L (length x) x1 x) (length x1) A.dim q) second
    (subst (λ w. HasMatrix o (product_entry o L (length x2) x1 x2) (length x1) w q) dim c.in_ok-values.ensures)) in
    let p = c.in_ok-columns.columns in
    let x3 = c.as_slice-3.result.now in
    let P = subst (λ x. HasMatrix o (λ j i. fraction_entry o x i j) A.dim (length x) p) c.as_slice-3.ensures
    (subst (λ w. HasMatrix o (λ j i. fraction_entry o x3 i j) w (length x3) p) dim c.in_ok-columns.ensures) in
    let R = c.in_ok-inverse.inverse.rows in
    let s = c.in_ok-inverse.inverse.scale in
    let I = c.in_ok-inverse.ensures in
    let t = c.in_ok-c.c in
    let ht : IsPolynomialList o t = record { over = c.in_ok-c.ensures.over; trimmed = c.in_ok-c.ensures.trimmed } in
    let is = subst (λ x. IsProduct o x e t) c.denominator.ensures.value c.in_ok-c.ensures.value in
    subst (λ w. IsPolynomialMatrix o w c.as_slice-4.result.now) (sym dim)
    (subst (IsPolynomialMatrix o A.dim) (sym c.as_slice-4.ensures) (inverse-matrix o L A c.requires.over c.requires.associative c.requires.nondegenerate e N c.requires.form b
    c.requires.order q Q p P R s I t ht is))

pub basis_from_rows-requires-clause-c : goal.basis_from_rows-requires-clause-c
basis_from_rows-requires-clause-c c = c.in_ok-inverse.ensures.polynomial

pub basis_from_rows-requires-clause-nonzero : goal.basis_from_rows-requires-clause-nonzero
basis_from_rows-requires-clause-nonzero c = c.in_ok-inverse.ensures.nonzero

pub basis_from_rows-requires-clause-rows : goal.basis_from_rows-requires-clause-rows
basis_from_rows-requires-clause-rows c =
    let o = small_ops c.args.f.now in
    let L = small_laws c.args.f.now in
    let K = fraction_ops o L in
    let A = c.args.a.now in
    let e = c.args.form.now.denominator in
    let N = c.args.form.now.numerators in
    let b = c.args.order.now in
    let dim = c.dim-m.ensures.dim in
    let first = c.as_slice.ensures ∙ c.numerators.ensures in
    let second = c.as_slice-2.ensures in
    let q = c.in_ok-values.values in
    let x1 = c.as_slice.result.now in
    let x2 = c.as_slice-2.result.now in
    let Q = subst (λ x. HasMatrix o (product_entry o L (length N) x N) (length x) A.dim q) first
    (subst (λ x. HasMatrix o (product_entry o L (length x) x1 x) (length x1) A.dim q) second
    (subst (λ w. HasMatrix o (product_entry o L (length x2) x1 x2) (length x1) w q) dim c.in_ok-values.ensures)) in
    let p = c.in_ok-columns.columns in
    let x3 = c.as_slice-3.result.now in
    let P = subst (λ x. HasMatrix o (λ j i. fraction_entry o x i j) A.dim (length x) p) c.as_slice-3.ensures
    (subst (λ w. HasMatrix o (λ j i. fraction_entry o x3 i j) w (length x3) p) dim c.in_ok-columns.ensures) in
    let R = c.in_ok-inverse.inverse.rows in
    let s = c.in_ok-inverse.inverse.scale in
    let I = c.in_ok-inverse.ensures in
    let t = c.in_ok-c.c in
    let ht : IsPolynomialList o t = record { over = c.in_ok-c.ensures.over; trimmed = c.in_ok-c.ensures.trimmed } in
    let is = subst (λ x. IsProduct o x e t) c.denominator.ensures.value c.in_ok-c.ensures.value in
    let new = c.in_ok-rows.rows in
    let x4 = c.as_slice-4.result.now in
    let M = subst (λ x. HasMatrix o (λ i j. K.mul (as_fraction o t) (fraction_entry o x i j)) (length x) A.dim new)
    c.as_slice-4.ensures
    (subst (λ w. HasMatrix o (λ i j. K.mul (as_fraction o t) (fraction_entry o x4 i j)) (length x4) w new) dim
    c.in_ok-rows.ensures) in
    new-square o L A c.requires.over c.requires.associative c.requires.nondegenerate e N c.requires.form b
    c.requires.order q Q p P R s I t ht is new M

pub basis_from_rows-requires-clause-independent : goal.basis_from_rows-requires-clause-independent
basis_from_rows-requires-clause-independent c =
    let o = small_ops c.args.f.now in
    let L = small_laws c.args.f.now in
    let K = fraction_ops o L in
    let A = c.args.a.now in
    let e = c.args.form.now.denominator in
    let N = c.args.form.now.numerators in
    let b = c.args.order.now in
    let dim = c.dim-m.ensures.dim in
    let first = c.as_slice.ensures ∙ c.numerators.ensures in
    let second = c.as_slice-2.ensures in
    let q = c.in_ok-values.values in
    let x1 = c.as_slice.result.now in
    let x2 = c.as_slice-2.result.now in
    let Q = subst (λ x. HasMatrix o (product_entry o L (length N) x N) (length x) A.dim q) first
    (subst (λ x. HasMatrix o (product_entry o L (length x) x1 x) (length x1) A.dim q) second
    (subst (λ w. HasMatrix o (product_entry o L (length x2) x1 x2) (length x1) w q) dim c.in_ok-values.ensures)) in
    let p = c.in_ok-columns.columns in
    let x3 = c.as_slice-3.result.now in
    let P = subst (λ x. HasMatrix o (λ j i. fraction_entry o x i j) A.dim (length x) p) c.as_slice-3.ensures
    (subst (λ w. HasMatrix o (λ j i. fraction_entry o x3 i j) w (length x3) p) dim c.in_ok-columns.ensures) in
    let R = c.in_ok-inverse.inverse.rows in
    let s = c.in_ok-inverse.inverse.scale in
    let I = c.in_ok-inverse.ensures in
    let t = c.in_ok-c.c in
    let ht : IsPolynomialList o t = record { over = c.in_ok-c.ensures.over; trimmed = c.in_ok-c.ensures.trimmed } in
    let is = subst (λ x. IsProduct o x e t) c.denominator.ensures.value c.in_ok-c.ensures.value in
    let new = c.in_ok-rows.rows in
    let x4 = c.as_slice-4.result.now in
    let M = subst (λ x. HasMatrix o (λ i j. K.mul (as_fraction o t) (fraction_entry o x i j)) (length x) A.dim new)
    c.as_slice-4.ensures
    (subst (λ w. HasMatrix o (λ i j. K.mul (as_fraction o t) (fraction_entry o x4 i j)) (length x4) w new) dim
    c.in_ok-rows.ensures) in
    new-free o L A c.requires.over c.requires.associative c.requires.nondegenerate e N c.requires.form b
    c.requires.order q Q p P R s I t ht is new M

pub returns : goal.returns
returns c =
    let o = small_ops c.args.f.now in
    let L = small_laws c.args.f.now in
    let K = fraction_ops o L in
    let A = c.args.a.now in
    let e = c.args.form.now.denominator in
    let N = c.args.form.now.numerators in
    let b = c.args.order.now in
    let dim = c.dim-m.ensures.dim in
    let first = c.as_slice.ensures ∙ c.numerators.ensures in
    let second = c.as_slice-2.ensures in
    let q = c.in_ok-values.values in
    let x1 = c.as_slice.result.now in
    let x2 = c.as_slice-2.result.now in
    let Q = subst (λ x. HasMatrix o (product_entry o L (length N) x N) (length x) A.dim q) first
    (subst (λ x. HasMatrix o (product_entry o L (length x) x1 x) (length x1) A.dim q) second
    (subst (λ w. HasMatrix o (product_entry o L (length x2) x1 x2) (length x1) w q) dim c.in_ok-values.ensures)) in
    let p = c.in_ok-columns.columns in
    let x3 = c.as_slice-3.result.now in
    let P = subst (λ x. HasMatrix o (λ j i. fraction_entry o x i j) A.dim (length x) p) c.as_slice-3.ensures
    (subst (λ w. HasMatrix o (λ j i. fraction_entry o x3 i j) w (length x3) p) dim c.in_ok-columns.ensures) in
    let R = c.in_ok-inverse.inverse.rows in
    let s = c.in_ok-inverse.inverse.scale in
    let I = c.in_ok-inverse.ensures in
    let t = c.in_ok-c.c in
    let ht : IsPolynomialList o t = record { over = c.in_ok-c.ensures.over; trimmed = c.in_ok-c.ensures.trimmed } in
    let is = subst (λ x. IsProduct o x e t) c.denominator.ensures.value c.in_ok-c.ensures.value in
    let new = c.in_ok-rows.rows in
    let x4 = c.as_slice-4.result.now in
    let M = subst (λ x. HasMatrix o (λ i j. K.mul (as_fraction o t) (fraction_entry o x i j)) (length x) A.dim new)
    c.as_slice-4.ensures
    (subst (λ w. HasMatrix o (λ i j. K.mul (as_fraction o t) (fraction_entry o x4 i j)) (length x4) w new) dim
    c.in_ok-rows.ensures) in
    let found = c.in_ok-found.found in
    record {
      basis = new-basis o L A c.requires.over c.requires.associative c.requires.nondegenerate e N c.requires.form b
          c.requires.order q Q p P R s I t ht is new M found c.in_ok-found.ensures.basis;
      dual = subst (AreTraceDual K A (tuples_of o L b)) (sym c.in_ok-found.ensures.tuples) (rows-dual o L A c.requires.over c.requires.associative c.requires.nondegenerate e N c.requires.form b
          c.requires.order q Q p P R s I t ht is new M);
    }
