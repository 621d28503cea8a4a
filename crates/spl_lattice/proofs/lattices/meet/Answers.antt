use Rattle.std.proofs.Common.{sym, ◌∙◌, ap, subst, ◌++◌, ◌+◌, ◌≤◌, length}
use Rattle.std.specs.List.{All}
use Rattle.theory_tables.specs.Matrix.{width_of}
use Rattle.std.proofs.Common.{refl}
use Rattle.theory_rows.specs.Rows.{IsLatticeBasis, InLatticeMeet, IsPolynomialMatrix}
use Rattle.theory_rows.specs.Augmented.{extended_by, zero_rows, tails_of}
use Rattle.spl_field.specs.SmallField.{small_ops}
use Rattle.spl_poly.specs.Operations.{IsOver}
use Rattle.spl_lattice.specs.Reduction.{IsSplitOf}
use Rattle.spl_lattice.proofs.RowLattices.{matrix_read, meet_of_splits, rows_over, rows_wide}
use Rattle.spl_lattice.proofs.lattices.meet.Goals as goal

pub split_of-requires : goal.split_of-requires
split_of-requires c =
    let w = c.common_width-w in
    matrix_read (small_ops c.args.f.now) c.know_laws.ensures w.result (width_of (c.args.a.now ++ c.args.b.now))
    c.args.a.now
    c.as_slice.result.now w.ensures c.as_slice.ensures c.requires.left

pub split_of-requires-2 : goal.split_of-requires-2
split_of-requires-2 c =
    let w = c.common_width-w in
    matrix_read (small_ops c.args.f.now) c.know_laws.ensures w.result (width_of (c.args.a.now ++ c.args.b.now))
    c.args.b.now
    c.as_slice-2.result.now w.ensures c.as_slice-2.ensures c.requires.right

pub split_for_meet-requires : goal.split_for_meet-requires
split_for_meet-requires c =
    let o = small_ops c.args.f.now in
    let w = c.common_width-w.result in
    let s = c.in_ok-left.ensures in
    let t = c.in_ok-right.ensures in
    let x = s.split in
    let y = t.split in
    record {
      left = subst (IsPolynomialMatrix o w) (sym c.as_slice-3.ensures.value) x.basis_rows;
      right = subst (IsPolynomialMatrix o w) (sym c.as_slice-4.ensures.value) y.basis_rows;
    }

pub tails-requires : goal.tails-requires
tails-requires c =
    let o = small_ops c.args.f.now in
    let w = c.common_width-w.result in
    let s = c.in_ok-split in
    let g = s.ensures in
    let h = g.split in
    let e = sym c.as_slice-5.ensures.value in
    record {
      rows = subst (All (All (IsOver o))) e
          (rows_over o c.know_laws.ensures (w + w) s.split.zeros.items h.zero_rows);
      width = subst (All (λ row. w ≤ length row)) e
          (rows_wide o c.know_laws.ensures w w s.split.zeros.items h.zero_rows);
    }

pub returns : goal.returns
returns c =
    let o = small_ops c.args.f.now in
    let L = c.know_laws.ensures in
    let a = c.args.a.now in
    let b = c.args.b.now in
    let w = c.common_width-w.result in
    let e = c.common_width-w.ensures in
    let l = c.in_ok-left.left in
    let r = c.in_ok-right.right in
    let s = c.in_ok-split.split in
    let B = s.basis.items in
    let p = s.places.items in
    let z = s.zeros.items in
    let u : IsSplitOf o w (w + w) (extended_by l.basis.items l.basis.items
    ++ extended_by r.basis.items (zero_rows (length r.basis.items) w)) B p z =
    subst (λ x. IsSplitOf o w (w + w) (extended_by x x ++ extended_by r.basis.items
    (zero_rows (length r.basis.items) w)) B p z) c.as_slice-3.ensures.value
    (subst (λ y. IsSplitOf o w (w + w) (extended_by c.as_slice-3.result.now c.as_slice-3.result.now
    ++ extended_by y (zero_rows (length y) w)) B p z) c.as_slice-4.ensures.value c.in_ok-split.ensures) in
    subst (λ m. IsLatticeBasis o m (InLatticeMeet o a b) c.in_ok-tails.field-0) e
    (subst (IsLatticeBasis o w (InLatticeMeet o a b))
    (sym (c.in_ok-tails.ensures ∙ ap (tails_of w) c.as_slice-5.ensures.value))
    (meet_of_splits o L w a b l.basis.items l.places.items l.zeros.items r.basis.items r.places.items r.zeros.items
    B p z
    (matrix_read o L w (width_of (a ++ b)) a a e refl c.requires.left)
    (matrix_read o L w (width_of (a ++ b)) b b e refl c.requires.right)
    (subst (λ x. IsSplitOf o w w x l.basis.items l.places.items l.zeros.items) c.as_slice.ensures c.in_ok-left.ensures)
    (subst (λ x. IsSplitOf o w w x r.basis.items r.places.items r.zeros.items) c.as_slice-2.ensures
    c.in_ok-right.ensures)
    u))
