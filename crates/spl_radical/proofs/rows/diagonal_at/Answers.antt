use Rattle.std.proofs.Common.{◌+◌, ◌*◌, [], get_or, arith}
use Rattle.theory_rings.specs.Sum.{sum}
use Rattle.theory_rings.specs.Naturals.{nat_monoid}
use Rattle.spl_radical.proofs.RowSteps.{number_in, number_below, sum_below, next_diagonal, number_at}
use Rattle.spl_radical.proofs.rows.diagonal_at.Goals as goal

pub offset_bounds-as_slice-i : goal.offset_bounds-as_slice-i
offset_bounds-as_slice-i c =
    let h = number_in c.args.q c.args.w c.args.rows.now c.loop-i.i c.args.t c.index-rows-i.result c.as_slice.result.now
    c.requires.rows c.loop-i-test.true c.requires.place c.index-rows-i.is c.as_slice.ensures in
    let f = c.as_slice.type_inv in
    omega arith

pub bounds-as_slice-i : goal.bounds-as_slice-i
bounds-as_slice-i c = number_in c.args.q c.args.w c.args.rows.now c.loop-i.i c.args.t c.index-rows-i.result
    c.as_slice.result.now c.requires.rows c.loop-i-test.true c.requires.place c.index-rows-i.is c.as_slice.ensures

pub overflow_add-sum-in-loop-i : goal.overflow_add-sum-in-loop-i
overflow_add-sum-in-loop-i c =
    let h = number_below c.args.q c.args.w c.args.rows.now c.loop-i.i c.args.t c.index-rows-i.result
    c.as_slice.result.now c.requires.rows c.loop-i-test.true c.requires.place c.index-rows-i.is c.as_slice.ensures in
    let s = sum_below c.args.q (sum nat_monoid c.loop-i.i
    (λ i. get_or (get_or c.args.rows.now i []) (i * c.args.w + c.args.t) 0)) c.loop-i.sum c.requires.positive
    c.loop-i.invariant in
    let m = c.requires.modulus in
    omega arith

pub loop-i-preserved : goal.loop-i-preserved
loop-i-preserved c =
    let rows = c.args.rows.now in
    let w = c.args.w in
    let t = c.args.t in
    let i = c.loop-i.i in
    next_diagonal c.args.q (λ i. get_or (get_or rows i []) (i * w + t) 0) i c.loop-i.sum
    (get_or c.as_slice.result.now (i * w + t) 0) c.loop-i.invariant
    (number_at rows i (i * w + t) c.index-rows-i.result c.as_slice.result.now c.loop-i-test.true c.index-rows-i.is
    c.as_slice.ensures)
