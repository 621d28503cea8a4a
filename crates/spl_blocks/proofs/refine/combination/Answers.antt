use Rattle.std.proofs.Common.{◌≡◌, ◌+◌, ℕ, length, ◌∙◌, ap, arith}
use Rattle.theory_rings.specs.Sum.{table, sum_of, at}
use Rattle.theory_tables.specs.Matrix.{entry}
use Rattle.theory_tables.proofs.Rows.Sums.{read_at, row_at}
use Rattle.spl_blocks.proofs.ListSteps.{combination_next, combination-elem}
use Rattle.spl_blocks.proofs.refine.combination.Goals as goal

pub loop-i-init : goal.loop-i-init
loop-i-init g c =
    let o = g.F.Field.ops c.args.f.now in
    let L = g.met.F.Field.laws c.args.f.now in
    let A = c.args.a.now in
    let s = c.in_ok-sums in
    let value : s.sums ≡ table A.dim (λ j. sum_of o 0
    (λ i. o.mul (at o c.args.c.now i) (entry o c.args.rows.now i j))) =
    s.ensures ∙ ap (λ (n : ℕ). table n (λ _. o.zero)) c.dim.ensures.dim in
    record {
      elem = combination-elem o A L c.args.c.now c.args.rows.now 0 s.sums c.requires.weights.of_elements
          c.requires.shape value;
      value = value;
    }

pub loop-i-preserved : goal.loop-i-preserved
loop-i-preserved g c =
    let o = g.F.Field.ops c.args.f.now in
    let L = g.met.F.Field.laws c.args.f.now in
    let A = c.args.a.now in
    let rows = c.args.rows.now in
    let i = c.loop-i.i in
    let row = row_at rows i c.index-rows-i.result c.as_slice.result.now c.loop-i-test.true c.index-rows-i.is
    c.as_slice.ensures in
    let x = read_at o c.args.c.now i c.index-c-i.result
    (omega (arith, c.requires.weights.right_length, c.loop-i-test.true)) c.index-c-i.is in
    let new = c.add_multiple.new.row in
    let value = combination_next o A c.args.c.now rows i c.loop-i.sums new c.index-c-i.result
    c.as_slice.result.now
    c.loop-i.invariant.value x row c.loop-i.invariant.elem.right_length c.in_ok-add_multiple.ensures in
    record {
      elem = combination-elem o A L c.args.c.now rows (i + 1) new c.requires.weights.of_elements c.requires.shape value;
      value = value;
    }

pub returns : goal.returns
returns g c =
    let o = g.F.Field.ops c.args.f.now in
    let A = c.args.a.now in
    let rows = c.args.rows.now in
    let ended : c.loop-i.i ≡ length rows = omega arith in
    record {
      elem = c.loop-i.invariant.elem;
      value = c.loop-i.invariant.value ∙ ap (λ (n : ℕ). table A.dim (λ j. sum_of o n
          (λ i. o.mul (at o c.args.c.now i) (entry o rows i j)))) ended;
    }
