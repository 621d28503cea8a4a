use Rattle.std.proofs.Common.{◌/◌, ◌%◌, [], List, length, get_or, sym, ◌∙◌, ap₂, subst}
use Rattle.theory_spaces.specs.Tuples.{IsTuple, product}
use Rattle.theory_spaces.proofs.Matrices.PairIndex.{row-lt, column-lt}
use Rattle.theory_tables.proofs.Rows.Sums.{table_step, All_step, row_at}
use Rattle.spl_algebra.proofs.power.product_rows.Goals as goal

pub product_of_slices-requires-clause-left : goal.product_of_slices-requires-clause-left
product_of_slices-requires-clause-left g c =
    let o = g.F.Field.ops c.args.f.now in
    let a = c.args.a.now in
    let n = length c.args.b.now in
    let t = c.loop-t.t in
    let t_in = row-lt (length a) n t c.loop-t-test.true in
    let left = row_at a (t / n) c.index-a-t.result c.as_slice-left.result.now t_in c.index-a-t.is
    c.as_slice-left.ensures in
    let P : List g.row.F-Elem.Denot → Type 0 = IsTuple o c.args.m in
    subst P (sym left) (c.requires.left (t / n) [] t_in)

pub push-requires : goal.push-requires
push-requires g c = λ k d k_in. (c.loop-t.invariant.shape k d k_in).right_length
    ∙ sym c.in_ok-product_of_slices.ensures.elem.right_length

pub loop-t-preserved : goal.loop-t-preserved
loop-t-preserved g c =
    let o = g.F.Field.ops c.args.f.now in
    let m = c.args.m in
    let cs = c.args.constants.now in
    let a = c.args.a.now in
    let b = c.args.b.now in
    let n = length b in
    let t = c.loop-t.t in
    let row = c.in_ok-product_of_slices in
    let left = row_at a (t / n) c.index-a-t.result c.as_slice-left.result.now
    (row-lt (length a) n t c.loop-t-test.true) c.index-a-t.is c.as_slice-left.ensures in
    let right = row_at b (t % n) c.index-b-t.result c.as_slice-right.result.now
    (column-lt (length a) n t c.loop-t-test.true) c.index-b-t.is c.as_slice-right.ensures in
    record {
      shape = All_step (IsTuple o m) c.loop-t.rows c.push.new.self row.field-0 c.loop-t.invariant.shape row.ensures.elem
          c.in_ok-push.ensures.ok;
      value = table_step t (λ t. product o m cs (get_or a (t / n) []) (get_or b (t % n) [])) c.loop-t.rows
          c.push.new.self row.field-0 c.loop-t.invariant.value (row.ensures.value ∙ ap₂ (product o m cs) left right)
          c.in_ok-push.ensures.ok;
    }
