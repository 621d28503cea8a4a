use Rattle.std.proofs.Common.{length, subst, sym, ◌∙◌}
use Rattle.spl_field.specs.SmallField.{small_ops, small_laws}
use Rattle.theory_fractions.specs.PolynomialLists.{IsOver, IsProduct}
use Rattle.theory_rows.specs.Rows.{IsPolynomialMatrix}
use Rattle.spl_order.specs.Values.{HasMatrix, fraction_entry, product_entry}
use Rattle.spl_order.proofs.GramRows.{form-matrix, order-matrix, values-matrix, columns-matrix, cleared_gram}
use Rattle.spl_order.proofs.bad_places.gram_by_form.Goals as goal

pub product-requires-clause-a : goal.product-requires-clause-a
product-requires-clause-a c =
    let o = small_ops c.args.f.now in
    let L = small_laws c.args.f.now in
    let A = c.args.a.now in
    let e = c.args.form.now.denominator in
    let N = c.args.form.now.numerators in
    let b = c.args.order.now in
    let dim = c.dim-m.ensures.dim in
    let first = c.as_slice.ensures ∙ c.numerators-rows.ensures in
    subst (λ x. IsPolynomialMatrix o (length x) c.as_slice.result.now) (sym c.as_slice-2.ensures)
    (subst (IsPolynomialMatrix o (length N)) (sym first)
    (order-matrix o L A c.requires.over c.requires.associative e N c.requires.form b c.requires.order))

pub product-requires-clause-b : goal.product-requires-clause-b
product-requires-clause-b c =
    let o = small_ops c.args.f.now in
    let L = small_laws c.args.f.now in
    let A = c.args.a.now in
    let e = c.args.form.now.denominator in
    let N = c.args.form.now.numerators in
    let b = c.args.order.now in
    let dim = c.dim-m.ensures.dim in
    let first = c.as_slice.ensures ∙ c.numerators-rows.ensures in
    subst (λ w. IsPolynomialMatrix o w c.as_slice-2.result.now) (sym dim)
    (subst (IsPolynomialMatrix o A.dim) (sym c.as_slice-2.ensures)
    (form-matrix o L A c.requires.over c.requires.associative e N c.requires.form b c.requires.order))

pub transposed-requires : goal.transposed-requires
transposed-requires c =
    let o = small_ops c.args.f.now in
    let L = small_laws c.args.f.now in
    let A = c.args.a.now in
    let e = c.args.form.now.denominator in
    let N = c.args.form.now.numerators in
    let b = c.args.order.now in
    let dim = c.dim-m.ensures.dim in
    let first = c.as_slice.ensures ∙ c.numerators-rows.ensures in
    subst (λ w. IsPolynomialMatrix o w c.as_slice-3.result.now) (sym dim)
    (subst (IsPolynomialMatrix o A.dim) (sym (c.as_slice-3.ensures ∙ c.numerators-rows.ensures))
    (let B = c.requires.order in B.rows))

pub product-requires-2-clause-a : goal.product-requires-2-clause-a
product-requires-2-clause-a c =
    let o = small_ops c.args.f.now in
    let L = small_laws c.args.f.now in
    let A = c.args.a.now in
    let e = c.args.form.now.denominator in
    let N = c.args.form.now.numerators in
    let b = c.args.order.now in
    let dim = c.dim-m.ensures.dim in
    let first = c.as_slice.ensures ∙ c.numerators-rows.ensures in
    let q = c.in_ok-values.values in
    let x1 = c.as_slice.result.now in
    let x2 = c.as_slice-2.result.now in
    let Q = subst (λ x. HasMatrix o (product_entry o L (length N) x N) (length x) A.dim q) first
    (subst (λ x. HasMatrix o (product_entry o L (length x) x1 x) (length x1) A.dim q) c.as_slice-2.ensures
    (subst (λ w. HasMatrix o (product_entry o L (length x2) x1 x2) (length x1) w q) dim c.in_ok-values.ensures)) in
    let third = c.as_slice-3.ensures ∙ c.numerators-rows.ensures in
    let p = c.in_ok-columns.columns in
    let x3 = c.as_slice-3.result.now in
    let P = subst (λ x. HasMatrix o (λ j i. fraction_entry o x i j) A.dim (length x) p) third
    (subst (λ w. HasMatrix o (λ j i. fraction_entry o x3 i j) w (length x3) p) dim c.in_ok-columns.ensures) in
    subst (λ x. IsPolynomialMatrix o (length x) c.as_slice-4.result.now) (sym c.as_slice-5.ensures)
    (subst (IsPolynomialMatrix o (length p)) (sym c.as_slice-4.ensures)
    (values-matrix o L A c.requires.over c.requires.associative e N c.requires.form b c.requires.order q Q p P))

pub product-requires-2-clause-b : goal.product-requires-2-clause-b
product-requires-2-clause-b c =
    let o = small_ops c.args.f.now in
    let L = small_laws c.args.f.now in
    let A = c.args.a.now in
    let e = c.args.form.now.denominator in
    let N = c.args.form.now.numerators in
    let b = c.args.order.now in
    let dim = c.dim-m.ensures.dim in
    let first = c.as_slice.ensures ∙ c.numerators-rows.ensures in
    let q = c.in_ok-values.values in
    let x1 = c.as_slice.result.now in
    let x2 = c.as_slice-2.result.now in
    let Q = subst (λ x. HasMatrix o (product_entry o L (length N) x N) (length x) A.dim q) first
    (subst (λ x. HasMatrix o (product_entry o L (length x) x1 x) (length x1) A.dim q) c.as_slice-2.ensures
    (subst (λ w. HasMatrix o (product_entry o L (length x2) x1 x2) (length x1) w q) dim c.in_ok-values.ensures)) in
    let third = c.as_slice-3.ensures ∙ c.numerators-rows.ensures in
    let p = c.in_ok-columns.columns in
    let x3 = c.as_slice-3.result.now in
    let P = subst (λ x. HasMatrix o (λ j i. fraction_entry o x i j) A.dim (length x) p) third
    (subst (λ w. HasMatrix o (λ j i. fraction_entry o x3 i j) w (length x3) p) dim c.in_ok-columns.ensures) in
    subst (λ w. IsPolynomialMatrix o w c.as_slice-5.result.now) (sym dim)
    (subst (IsPolynomialMatrix o A.dim) (sym c.as_slice-5.ensures)
    (columns-matrix o L A c.requires.over c.requires.associative e N c.requires.form b c.requires.order q Q p P))

pub mul-requires-clause-self_over : goal.mul-requires-clause-self_over
mul-requires-clause-self_over c =
    let p = c.requires.order.polynomial in
    subst (IsOver (small_ops c.args.f.now)) (sym c.denominator.ensures.value) p.over

pub mul-requires-clause-b_over : goal.mul-requires-clause-b_over
mul-requires-clause-b_over c = let p = c.requires.form.polynomial in p.over

pub mul-requires-2-clause-self_over : goal.mul-requires-2-clause-self_over
mul-requires-2-clause-self_over c =
    let p = c.requires.order.polynomial in
    subst (IsOver (small_ops c.args.f.now)) (sym c.denominator-2.ensures.value) p.over

pub mul-requires-2-clause-b_over : goal.mul-requires-2-clause-b_over
mul-requires-2-clause-b_over c = c.in_ok-scale.ensures.over

pub returns : goal.returns
returns c =
    let o = small_ops c.args.f.now in
    let L = small_laws c.args.f.now in
    let A = c.args.a.now in
    let e = c.args.form.now.denominator in
    let N = c.args.form.now.numerators in
    let b = c.args.order.now in
    let dim = c.dim-m.ensures.dim in
    let first = c.as_slice.ensures ∙ c.numerators-rows.ensures in
    let q = c.in_ok-values.values in
    let x1 = c.as_slice.result.now in
    let x2 = c.as_slice-2.result.now in
    let Q = subst (λ x. HasMatrix o (product_entry o L (length N) x N) (length x) A.dim q) first
    (subst (λ x. HasMatrix o (product_entry o L (length x) x1 x) (length x1) A.dim q) c.as_slice-2.ensures
    (subst (λ w. HasMatrix o (product_entry o L (length x2) x1 x2) (length x1) w q) dim c.in_ok-values.ensures)) in
    let third = c.as_slice-3.ensures ∙ c.numerators-rows.ensures in
    let p = c.in_ok-columns.columns in
    let x3 = c.as_slice-3.result.now in
    let P = subst (λ x. HasMatrix o (λ j i. fraction_entry o x i j) A.dim (length x) p) third
    (subst (λ w. HasMatrix o (λ j i. fraction_entry o x3 i j) w (length x3) p) dim c.in_ok-columns.ensures) in
    let g = c.in_ok-numerators.numerators in
    let x4 = c.as_slice-4.result.now in
    let x5 = c.as_slice-5.result.now in
    let G = subst (λ x. HasMatrix o (product_entry o L (length p) x p) (length x) A.dim g) c.as_slice-4.ensures
    (subst (λ x. HasMatrix o (product_entry o L (length x) x4 x) (length x4) A.dim g) c.as_slice-5.ensures
    (subst (λ w. HasMatrix o (product_entry o L (length x5) x4 x5) (length x4) w g) dim c.in_ok-numerators.ensures)) in
    let s = c.in_ok-scale.scale in
    let t = c.in_ok-denominator.denominator in
    cleared_gram o L A c.requires.over c.requires.associative e N c.requires.form b c.requires.order q Q p P g G s t
    (record { over = c.in_ok-scale.ensures.over; trimmed = c.in_ok-scale.ensures.trimmed })
    (record { over = c.in_ok-denominator.ensures.over; trimmed = c.in_ok-denominator.ensures.trimmed })
    (subst (λ x. IsProduct o x e s) c.denominator.ensures.value c.in_ok-scale.ensures.value)
    (subst (λ x. IsProduct o x s t) c.denominator-2.ensures.value c.in_ok-denominator.ensures.value)
