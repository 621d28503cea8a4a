use Rattle.std.proofs.Common.{sym, ◌∙◌, ap, subst, ◌+◌, length}
use Rattle.theory_tables.specs.Matrix.{width_of}
use Rattle.theory_rows.specs.Rows.{IsPolynomialMatrix, SameRowLattice, IsRowTransform}
use Rattle.theory_rows.specs.Augmented.{heads_of}
use Rattle.theory_rows.specs.LeadingPositions.{HaveLeadingPositions, AreReducedRows}
use Rattle.spl_field.specs.SmallField.{small_ops}
use Rattle.spl_lattice.specs.Reduction.{IsSplit}
use Rattle.spl_lattice.proofs.RowLattices.{matrix_read, reduced_matrix, reduced_same, reduced_transform}
use Rattle.spl_lattice.proofs.RowLattices.{reduced_positions}
use Rattle.spl_lattice.proofs.reduced.reduce.Goals as goal

pub split_with_units-requires : goal.split_with_units-requires
split_with_units-requires c = matrix_read (small_ops c.args.f.now) c.know_laws.ensures c.width-w.result
    (width_of c.args.rows.now) c.args.rows.now c.as_slice.result.now c.width-w.ensures c.as_slice.ensures c.requires

pub reduced_form-requires : goal.reduced_form-requires
reduced_form-requires c =
    let o = small_ops c.args.f.now in
    let w = c.width-w.result in
    let s = c.in_ok-split in
    let g = s.ensures in
    subst (λ n. IsSplit o w (w + n) s.split.basis.items s.split.places.items s.split.zeros.items)
    (ap length c.as_slice.ensures ∙ sym c.len.ensures) g.split

pub returns-clause-matrix : goal.returns-clause-matrix
returns-clause-matrix c =
    let o = small_ops c.args.f.now in
    let w = c.width-w.result in
    let s = c.in_ok-split in
    let r = c.in_ok-reduced_form in
    subst (λ m. IsPolynomialMatrix o m r.field-0.basis) c.width-w.ensures
    (subst (IsPolynomialMatrix o w) (sym r.ensures.basis)
    (reduced_matrix o c.know_laws.ensures w c.as_slice.result.now s.split.basis.items s.split.places.items
    s.split.zeros.items
    (matrix_read o c.know_laws.ensures w (width_of c.args.rows.now) c.args.rows.now c.as_slice.result.now
    c.width-w.ensures c.as_slice.ensures c.requires) s.ensures))

pub returns-clause-lattice : goal.returns-clause-lattice
returns-clause-lattice c =
    let o = small_ops c.args.f.now in
    let w = c.width-w.result in
    let s = c.in_ok-split in
    let r = c.in_ok-reduced_form in
    subst (λ m. SameRowLattice o m c.args.rows.now r.field-0.basis) c.width-w.ensures
    (subst (λ x. SameRowLattice o w x r.field-0.basis) c.as_slice.ensures
    (subst (SameRowLattice o w c.as_slice.result.now) (sym r.ensures.basis)
    (reduced_same o c.know_laws.ensures w c.as_slice.result.now s.split.basis.items s.split.places.items
    s.split.zeros.items
    (matrix_read o c.know_laws.ensures w (width_of c.args.rows.now) c.args.rows.now c.as_slice.result.now
    c.width-w.ensures c.as_slice.ensures c.requires) s.ensures)))

pub returns-clause-reduced : goal.returns-clause-reduced
returns-clause-reduced c =
    let o = small_ops c.args.f.now in
    let w = c.width-w.result in
    let s = c.in_ok-split in
    let r = c.in_ok-reduced_form in
    subst (λ m. AreReducedRows m r.field-0.basis r.field-0.degrees) c.width-w.ensures (record {
      places = s.split.places.items;
      positions = subst (λ b. HaveLeadingPositions w b s.split.places.items) (sym r.ensures.basis)
          (reduced_positions o c.know_laws.ensures w c.as_slice.result.now s.split.basis.items s.split.places.items
          s.split.zeros.items
          (matrix_read o c.know_laws.ensures w (width_of c.args.rows.now) c.args.rows.now c.as_slice.result.now
          c.width-w.ensures c.as_slice.ensures c.requires) s.ensures);
      degrees_are = r.ensures.degrees;
    })

pub returns-clause-transform : goal.returns-clause-transform
returns-clause-transform c =
    let o = small_ops c.args.f.now in
    let w = c.width-w.result in
    let s = c.in_ok-split in
    let r = c.in_ok-reduced_form in
    subst (λ x. IsRowTransform o x r.field-0.basis r.field-0.transform) c.as_slice.ensures
    (subst (λ b. IsRowTransform o c.as_slice.result.now b r.field-0.transform) (sym r.ensures.basis)
    (subst (IsRowTransform o c.as_slice.result.now (heads_of w s.split.basis.items)) (sym r.ensures.transform)
    (reduced_transform o c.know_laws.ensures w c.as_slice.result.now s.split.basis.items s.split.places.items
    s.split.zeros.items
    (matrix_read o c.know_laws.ensures w (width_of c.args.rows.now) c.args.rows.now c.as_slice.result.now
    c.width-w.ensures c.as_slice.ensures c.requires) s.ensures)))
