use Rattle.std.proofs.Common.{◌≡◌, [], get_or, ap, ap₂, ◌∙◌, arith, ◌<◌, ℕ, List, length}
use Rattle.theory_rings.specs.Sum.{sum_of, at}
use Rattle.theory_tables.specs.Matrix.{entry}
use Rattle.theory_tables.proofs.Rows.Sums.{sum_step, read_at, row_at}
use Rattle.spl_matrix.proofs.Changes.{read-elem, slice-elem}
use Rattle.spl_matrix.proofs.basis.combined_item.Goals as goal

pub loop-i-preserved : goal.loop-i-preserved
loop-i-preserved g c =
    let o = g.F.Field.ops c.args.f.now in
    let rows = c.args.rows.now in
    let cs = c.args.c.now in
    let i = c.loop-i.i in
    let j = c.args.j in
    let i_in = c.loop-i-test.true in
    let row = c.as_slice.result.now in
    let read = row_at rows i c.index-rows-i.result row i_in c.index-rows-i.is c.as_slice.ensures in
    let j_in : j < length row = omega (arith, ap length read, (c.requires.shape i [] i_in).right_length) in
    let c_in : i < length cs = omega (arith, c.requires.weights.right_length) in
    let x = c.index-c-i.result in
    let y = c.index-as_slice-j.result in
    record {
      elem = c.in_ok-sum-2.ensures.elem;
      value = sum_step o i (λ (k : ℕ). o.mul (at o cs k) (entry o rows k j)) c.loop-i.sum c.in_ok-sum-2.sum
          (o.mul x y) c.loop-i.invariant.value
          (ap₂ o.mul (read_at o cs i x c_in c.index-c-i.is)
          (read_at o row j y j_in c.index-as_slice-j.is ∙ ap (λ (r : List g.row.F-Elem.Denot). at o r j) read))
          c.in_ok-sum-2.ensures.value;
    }

pub returns : goal.returns
returns g c =
    let o = g.F.Field.ops c.args.f.now in
    let rows = c.args.rows.now in
    let ended : c.loop-i.i ≡ length rows = omega arith in
    record {
      elem = c.loop-i.invariant.elem;
      value = c.loop-i.invariant.value
          ∙ ap (λ (n : ℕ). sum_of o n (λ i. o.mul (at o c.args.c.now i) (entry o rows i c.args.j))) ended;
    }

pub add_product-requires : goal.add_product-requires
add_product-requires g c =
    let o = g.F.Field.ops c.args.f.now in
    let rows = c.args.rows.now in
    let cs = c.args.c.now in
    let i = c.loop-i.i in
    let j = c.args.j in
    let i_in = c.loop-i-test.true in
    let row = c.as_slice.result.now in
    let read = row_at rows i c.index-rows-i.result row i_in c.index-rows-i.is c.as_slice.ensures in
    let here = c.requires.shape i [] i_in in
    let j_in : j < length (get_or rows i []) = omega (arith, here.right_length) in
    let c_in : i < length cs = omega (arith, c.requires.weights.right_length) in
    record {
      zero_elem = c.requires.zero_elem;
      zero = c.requires.zero;
      sum = c.loop-i.invariant.elem;
      left = read-elem o cs i c.index-c-i.result c.requires.weights.of_elements c_in c.index-c-i.is;
      right = slice-elem o (get_or rows i []) row j c.index-as_slice-j.result here.of_elements read j_in
          c.index-as_slice-j.is;
    }
