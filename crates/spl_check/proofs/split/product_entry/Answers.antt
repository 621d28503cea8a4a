use Rattle.std.proofs.Common.{◌≡◌, ◌<◌, ℕ, [], List, length, get_or, ap, ap₂, ◌∙◌, arith}
use Rattle.theory_rings.specs.Sum.{sum_of, at}
use Rattle.theory_tables.specs.Matrix.{entry}
use Rattle.theory_tables.proofs.Rows.Sums.{sum_step, read_at, row_at}
use Rattle.spl_matrix.proofs.Changes.{slice-elem}
use Rattle.spl_check.proofs.split.product_entry.Goals as goal

pub add_product-requires : goal.add_product-requires
add_product-requires g c =
    let o = g.F.Field.ops c.args.f.now in
    let t = c.loop-t.t in
    let r_in : c.args.r < length c.args.a.now = omega (arith, c.requires.left.height, c.requires.row) in
    let t_in : t < length c.args.b.now = omega (arith, c.requires.right.height, c.loop-t-test.true) in
    let here = c.requires.left.shape c.args.r [] r_in in
    let there = c.requires.right.shape t [] t_in in
    let row = row_at c.args.a.now c.args.r c.index-a-r.result c.as_slice-row.result.now r_in c.index-a-r.is
    c.as_slice-row.ensures in
    let other = row_at c.args.b.now t c.index-b-t.result c.as_slice-other.result.now t_in c.index-b-t.is
    c.as_slice-other.ensures in
    record {
      zero_elem = c.requires.zero_elem;
      zero = c.requires.zero;
      sum = c.loop-t.invariant.elem;
      left = slice-elem o (get_or c.args.a.now c.args.r []) c.as_slice-row.result.now t c.index-row-t.result
          here.of_elements row (omega (arith, here.right_length, c.loop-t-test.true)) c.index-row-t.is;
      right = slice-elem o (get_or c.args.b.now t []) c.as_slice-other.result.now c.args.s c.index-other-s.result
          there.of_elements other (omega (arith, there.right_length, c.requires.column)) c.index-other-s.is;
    }

pub loop-t-preserved : goal.loop-t-preserved
loop-t-preserved g c =
    let o = g.F.Field.ops c.args.f.now in
    let a = c.args.a.now in
    let b = c.args.b.now in
    let r = c.args.r in
    let s = c.args.s in
    let t = c.loop-t.t in
    let r_in : r < length a = omega (arith, c.requires.left.height, c.requires.row) in
    let t_in : t < length b = omega (arith, c.requires.right.height, c.loop-t-test.true) in
    let items = c.as_slice-row.result.now in
    let others = c.as_slice-other.result.now in
    let row = row_at a r c.index-a-r.result items r_in c.index-a-r.is c.as_slice-row.ensures in
    let other = row_at b t c.index-b-t.result others t_in c.index-b-t.is c.as_slice-other.ensures in
    let t_row : t < length items =
    omega (arith, ap length row, (c.requires.left.shape r [] r_in).right_length, c.loop-t-test.true) in
    let s_row : s < length others =
    omega (arith, ap length other, (c.requires.right.shape t [] t_in).right_length, c.requires.column) in
    let x = c.index-row-t.result in
    let y = c.index-other-s.result in
    record {
      elem = c.in_ok-total-2.ensures.elem;
      value = sum_step o t (λ (t : ℕ). o.mul (entry o a r t) (entry o b t s)) c.loop-t.total c.in_ok-total-2.total
          (o.mul x y) c.loop-t.invariant.value
          (ap₂ o.mul
          (read_at o items t x t_row c.index-row-t.is ∙ ap (λ (xs : List g.row.F-Elem.Denot). at o xs t) row)
          (read_at o others s y s_row c.index-other-s.is ∙ ap (λ (xs : List g.row.F-Elem.Denot). at o xs s) other))
          c.in_ok-total-2.ensures.value;
    }

pub returns : goal.returns
returns g c =
    let o = g.F.Field.ops c.args.f.now in
    let ended : c.loop-t.t ≡ c.args.n = omega arith in
    record {
      elem = c.loop-t.invariant.elem;
      value = c.loop-t.invariant.value
          ∙ ap (λ (n : ℕ). sum_of o n
          (λ t. o.mul (entry o c.args.a.now c.args.r t) (entry o c.args.b.now t c.args.s))) ended;
    }
