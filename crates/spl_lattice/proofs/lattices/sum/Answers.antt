use Rattle.std.proofs.Common.{refl, sym, subst, ◌++◌}
use Rattle.theory_tables.specs.Matrix.{width_of}
use Rattle.theory_rows.specs.Rows.{IsLatticeBasis, InLatticeSum}
use Rattle.spl_field.specs.SmallField.{small_ops}
use Rattle.spl_lattice.specs.Reduction.{IsSplitOf}
use Rattle.spl_lattice.proofs.RowLattices.{matrix_read, sum_of_split}
use Rattle.spl_lattice.proofs.lattices.sum.Goals as goal

pub split_of_both-requires : goal.split_of_both-requires
split_of_both-requires c =
    let o = small_ops c.args.f.now in
    let L = c.know_laws.ensures in
    let w = c.common_width-w in
    let m = width_of (c.args.a.now ++ c.args.b.now) in
    record {
      left = matrix_read o L w.result m c.args.a.now c.as_slice.result.now w.ensures c.as_slice.ensures c.requires.left;
      right = matrix_read o L w.result m c.args.b.now c.as_slice-2.result.now w.ensures c.as_slice-2.ensures
          c.requires.right;
    }

pub returns : goal.returns
returns c =
    let o = small_ops c.args.f.now in
    let L = c.know_laws.ensures in
    let a = c.args.a.now in
    let b = c.args.b.now in
    let w = c.common_width-w.result in
    let e = c.common_width-w.ensures in
    let s = c.in_ok-split.split in
    let t : IsSplitOf o w w (a ++ b) s.basis.items s.places.items s.zeros.items =
    subst (λ x. IsSplitOf o w w (x ++ b) s.basis.items s.places.items s.zeros.items) c.as_slice.ensures
    (subst (λ y. IsSplitOf o w w (c.as_slice.result.now ++ y) s.basis.items s.places.items s.zeros.items)
    c.as_slice-2.ensures c.in_ok-split.ensures) in
    subst (λ m. IsLatticeBasis o m (InLatticeSum o m a b) c.from_vec.result) e
    (subst (IsLatticeBasis o w (InLatticeSum o w a b))
    (sym c.from_vec.ensures)
    (sum_of_split o L w a b s.basis.items s.places.items s.zeros.items
    (matrix_read o L w (width_of (a ++ b)) a a e refl c.requires.left)
    (matrix_read o L w (width_of (a ++ b)) b b e refl c.requires.right) t))
