use Rattle.std.proofs.Common.{length, subst, sym, ap, ◌∙◌}
use Rattle.spl_field.specs.SmallField.{small_ops, small_laws}
use Rattle.theory_rows.specs.Rows.{IsPolynomialMatrix, InRowLattice, RowsAreIndependent}
use Rattle.spl_order.specs.Values.{HasMatrix, product_entry, scaled_unit, AreUnitCoordinates}
use Rattle.spl_order.proofs.InverseRows.{square-width, basis_matrix, basis_free, basis_count, weights_matrix}
use Rattle.spl_order.proofs.InverseRows.{transform_matrix, scaled_inverse}
use Rattle.spl_order.proofs.inverse.inverse_rows.Goals as goal

pub reduce-requires : goal.reduce-requires
reduce-requires c =
    let o = small_ops c.args.f.now in
    subst (λ w. IsPolynomialMatrix o w c.args.rows.now) (sym (square-width o c.args.rows.now c.requires.rows))
    c.requires.rows

pub common_scale-requires-clause-basis : goal.common_scale-requires-clause-basis
common_scale-requires-clause-basis c =
    let o = small_ops c.args.f.now in
    let L = small_laws c.args.f.now in
    let rows = c.args.rows.now in
    let n = length rows in
    let p = c.in_ok-reduced.ensures in
    let basis = c.in_ok-reduced.reduced.basis in
    let U = c.in_ok-reduced.reduced.transform in
    subst (λ m. IsPolynomialMatrix o m c.basis.result.now) (sym c.len-n.ensures)
    (subst (IsPolynomialMatrix o n) (sym c.basis.ensures.value) (basis_matrix o L rows c.requires.rows c.requires.independent basis U p.matrix p.lattice p.reduced.places
    p.reduced.positions p.transform))

pub common_scale-requires-clause-count : goal.common_scale-requires-clause-count
common_scale-requires-clause-count c =
    let o = small_ops c.args.f.now in
    let L = small_laws c.args.f.now in
    let rows = c.args.rows.now in
    let n = length rows in
    let p = c.in_ok-reduced.ensures in
    let basis = c.in_ok-reduced.reduced.basis in
    let U = c.in_ok-reduced.reduced.transform in
    ap length c.basis.ensures.value ∙ basis_count o L rows c.requires.rows c.requires.independent basis U p.matrix p.lattice p.reduced.places
    p.reduced.positions p.transform ∙ sym c.len-n.ensures

pub common_scale-requires-clause-independent : goal.common_scale-requires-clause-independent
common_scale-requires-clause-independent c =
    let o = small_ops c.args.f.now in
    let L = small_laws c.args.f.now in
    let rows = c.args.rows.now in
    let n = length rows in
    let p = c.in_ok-reduced.ensures in
    let basis = c.in_ok-reduced.reduced.basis in
    let U = c.in_ok-reduced.reduced.transform in
    subst (RowsAreIndependent o) (sym c.basis.ensures.value) (basis_free o L rows c.requires.rows c.requires.independent basis U p.matrix p.lattice p.reduced.places
    p.reduced.positions p.transform)

pub all_coordinates-requires-clause-basis : goal.all_coordinates-requires-clause-basis
all_coordinates-requires-clause-basis c =
    let o = small_ops c.args.f.now in
    let L = small_laws c.args.f.now in
    let rows = c.args.rows.now in
    let n = length rows in
    let p = c.in_ok-reduced.ensures in
    let basis = c.in_ok-reduced.reduced.basis in
    let U = c.in_ok-reduced.reduced.transform in
    subst (λ m. IsPolynomialMatrix o m basis) (sym c.len-n.ensures) (basis_matrix o L rows c.requires.rows c.requires.independent basis U p.matrix p.lattice p.reduced.places
    p.reduced.positions p.transform)

pub all_coordinates-requires-clause-d : goal.all_coordinates-requires-clause-d
all_coordinates-requires-clause-d c = c.in_ok-scale.ensures.polynomial

pub all_coordinates-requires-clause-members : goal.all_coordinates-requires-clause-members
all_coordinates-requires-clause-members c = λ j l.
    subst (λ b. InRowLattice (small_ops c.args.f.now) b (scaled_unit c.in_ok-scale.scale c.len-n.result j))
    c.basis.ensures.value (c.in_ok-scale.ensures.members j l)

pub product-requires-clause-a : goal.product-requires-clause-a
product-requires-clause-a c =
    let o = small_ops c.args.f.now in
    let L = small_laws c.args.f.now in
    let rows = c.args.rows.now in
    let n = length rows in
    let p = c.in_ok-reduced.ensures in
    let basis = c.in_ok-reduced.reduced.basis in
    let U = c.in_ok-reduced.reduced.transform in
    let scale = c.in_ok-scale.scale in
    let s = c.in_ok-scale.ensures in
    let weights = c.in_ok-coordinates.coordinates in
    let C = subst (λ m. AreUnitCoordinates o basis m scale m weights) c.len-n.ensures c.in_ok-coordinates.ensures in
    let first = c.as_slice.ensures in
    let second = c.as_slice-2.ensures ∙ c.transform.ensures in
    subst (λ x. IsPolynomialMatrix o (length x) c.as_slice.result.now) (sym second)
    (subst (IsPolynomialMatrix o (length U)) (sym first)
    (subst (λ m. IsPolynomialMatrix o m weights) (sym p.transform.count)
    (weights_matrix o L rows c.requires.rows c.requires.independent basis U p.matrix p.lattice p.reduced.places
    p.reduced.positions p.transform scale s.polynomial s.nonzero weights C)))

pub product-requires-clause-b : goal.product-requires-clause-b
product-requires-clause-b c =
    let o = small_ops c.args.f.now in
    let L = small_laws c.args.f.now in
    let rows = c.args.rows.now in
    let n = length rows in
    let p = c.in_ok-reduced.ensures in
    let basis = c.in_ok-reduced.reduced.basis in
    let U = c.in_ok-reduced.reduced.transform in
    let scale = c.in_ok-scale.scale in
    let s = c.in_ok-scale.ensures in
    let weights = c.in_ok-coordinates.coordinates in
    let C = subst (λ m. AreUnitCoordinates o basis m scale m weights) c.len-n.ensures c.in_ok-coordinates.ensures in
    let first = c.as_slice.ensures in
    let second = c.as_slice-2.ensures ∙ c.transform.ensures in
    subst (λ m. IsPolynomialMatrix o m c.as_slice-2.result.now) (sym c.len-n.ensures)
    (subst (IsPolynomialMatrix o n) (sym second)
    (transform_matrix o L rows c.requires.rows c.requires.independent basis U p.matrix p.lattice p.reduced.places
    p.reduced.positions p.transform scale s.polynomial s.nonzero weights C))

pub returns : goal.returns
returns c =
    let o = small_ops c.args.f.now in
    let L = small_laws c.args.f.now in
    let rows = c.args.rows.now in
    let n = length rows in
    let p = c.in_ok-reduced.ensures in
    let basis = c.in_ok-reduced.reduced.basis in
    let U = c.in_ok-reduced.reduced.transform in
    let scale = c.in_ok-scale.scale in
    let s = c.in_ok-scale.ensures in
    let weights = c.in_ok-coordinates.coordinates in
    let C = subst (λ m. AreUnitCoordinates o basis m scale m weights) c.len-n.ensures c.in_ok-coordinates.ensures in
    let first = c.as_slice.ensures in
    let second = c.as_slice-2.ensures ∙ c.transform.ensures in
    let new = c.in_ok-rows.rows in
    let I = subst (λ x. HasMatrix o (product_entry o L (length U) x U) (length x) n new) first
    (subst (λ x. HasMatrix o (product_entry o L (length x) c.as_slice.result.now x) (length c.as_slice.result.now) n new)
    second (subst (λ m. HasMatrix o (product_entry o L (length c.as_slice-2.result.now) c.as_slice.result.now
    c.as_slice-2.result.now) (length c.as_slice.result.now) m new) c.len-n.ensures c.in_ok-rows.ensures)) in
    scaled_inverse o L rows c.requires.rows c.requires.independent basis U p.matrix p.lattice p.reduced.places
    p.reduced.positions p.transform scale s.polynomial s.nonzero weights C new I
