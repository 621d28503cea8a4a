use Rattle.std.proofs.Common.{◌≡◌, [], length, All, sym, subst, arith}
use Rattle.theory_rings.specs.Ops.{IsElem}
use Rattle.theory_tables.proofs.Rows.Sums.{row_at}
use Rattle.spl_residue.specs.Residue.{residue_ops}
use Rattle.spl_radical.specs.LiftNumbers.{residues_of, level_of}
use Rattle.spl_radical.specs.LiftMatrices.{AreLiftedRows}
use Rattle.spl_radical.proofs.LiftMatrices.{no_rows, next_lifted_row}
use Rattle.spl_radical.proofs.matrices.lifted_rows.Goals as goal

pub loop-i-init : goal.loop-i-init
loop-i-init c = no_rows (residues_of c.args.ring.now) (level_of c.args.ring.now) c.args.left.now c.new-out.result
    c.new-out.ensures

pub lifted_row-requires : goal.lifted_row-requires
lifted_row-requires c =
    let left = c.args.left.now in
    let i = c.loop-i.i in
    subst (All (IsElem (residue_ops (residues_of c.args.ring.now))))
    (sym (row_at left i c.index-left-i.result c.as_slice.result.now c.loop-i-test.true c.index-left-i.is
    c.as_slice.ensures)) (c.requires i [] c.loop-i-test.true).of_elements

pub loop-i-preserved : goal.loop-i-preserved
loop-i-preserved c =
    let R = c.args.ring.now in
    let left = c.args.left.now in
    let i = c.loop-i.i in
    next_lifted_row (residues_of R) (level_of R) left i c.loop-i.out c.push.new.self c.in_ok-lifted_row.field-0
    c.as_slice.result.now c.loop-i.invariant c.in_ok-lifted_row.ensures
    (row_at left i c.index-left-i.result c.as_slice.result.now c.loop-i-test.true c.index-left-i.is c.as_slice.ensures)
    c.in_ok-push.ensures.ok

pub returns : goal.returns
returns c =
    let R = c.args.ring.now in
    let n = length c.args.left.now in
    let a = c.loop-i.auto.i-end in
    let b = c.loop-i-test.false in
    let e : c.loop-i.i ≡ n = omega arith in
    subst (λ n. AreLiftedRows (residues_of R) (level_of R) c.args.left.now n c.loop-i.out) e c.loop-i.invariant
