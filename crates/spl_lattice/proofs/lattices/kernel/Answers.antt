use Rattle.std.proofs.Common.{sym, ◌∙◌, ap, subst, ◌+◌, ◌≤◌, length}
use Rattle.std.specs.List.{All}
use Rattle.theory_tables.specs.Matrix.{width_of}
use Rattle.theory_rows.specs.Rows.{IsLatticeBasis, InRowKernel}
use Rattle.theory_rows.specs.Augmented.{tails_of}
use Rattle.spl_field.specs.SmallField.{small_ops}
use Rattle.spl_poly.specs.Operations.{IsOver}
use Rattle.spl_lattice.proofs.RowLattices.{matrix_read, kernel_of_split, rows_over, rows_wide}
use Rattle.spl_lattice.proofs.lattices.kernel.Goals as goal

pub split_with_units-requires : goal.split_with_units-requires
split_with_units-requires c = matrix_read (small_ops c.args.f.now) c.know_laws.ensures c.width-w.result
    (width_of c.args.rows.now) c.args.rows.now c.as_slice.result.now c.width-w.ensures c.as_slice.ensures c.requires

pub tails-requires : goal.tails-requires
tails-requires c =
    let o = small_ops c.args.f.now in
    let w = c.width-w.result in
    let n = length c.as_slice.result.now in
    let s = c.in_ok-split in
    let g = s.ensures in
    let h = g.split in
    let e = sym c.as_slice-2.ensures.value in
    record {
      rows = subst (All (All (IsOver o))) e
          (rows_over o c.know_laws.ensures (w + n) s.split.zeros.items h.zero_rows);
      width = subst (All (λ row. w ≤ length row)) e
          (rows_wide o c.know_laws.ensures w n s.split.zeros.items h.zero_rows);
    }

pub returns : goal.returns
returns c =
    let o = small_ops c.args.f.now in
    let w = c.width-w.result in
    let rows = c.as_slice.result.now in
    let s = c.in_ok-split in
    let r = c.in_ok-tails in
    subst (λ x. IsLatticeBasis o (length x) (InRowKernel o x) r.field-0) c.as_slice.ensures
    (subst (IsLatticeBasis o (length rows) (InRowKernel o rows))
    (sym (r.ensures ∙ ap (tails_of w) c.as_slice-2.ensures.value))
    (kernel_of_split o c.know_laws.ensures w rows s.split.basis.items s.split.places.items s.split.zeros.items
    (matrix_read o c.know_laws.ensures w (width_of c.args.rows.now) c.args.rows.now rows
    c.width-w.ensures c.as_slice.ensures c.requires) s.ensures))
