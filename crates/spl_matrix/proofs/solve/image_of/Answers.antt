use Rattle.std.proofs.Common.{◌≡◌, ℕ, ◌+◌, length, ap, ◌∙◌}
use Rattle.theory_rings.specs.Sum.{sum_of, at}
use Rattle.theory_rings.specs.Ops.{IsElem}
use Rattle.theory_tables.specs.Matrix.{entry, dot}
use Rattle.theory_tables.proofs.Rows.Sums.{table_step, All_step, row_at}
use Rattle.std.proofs.lemmas.List.{length_push}
use Rattle.spl_matrix.proofs.solve.image_of.Goals as goal

pub loop-i-preserved : goal.loop-i-preserved
loop-i-preserved g c =
    let o = g.F.Field.ops c.args.f.now in
    let m = c.args.m.now in
    let v = c.args.v.now in
    let n = length v in
    let i = c.loop-i.i in
    let row = c.as_slice.result.now in
    let read = row_at m i c.index-m-i.result row c.loop-i-test.true c.index-m-i.is c.as_slice.ensures in
    let long : length row ≡ n = ap length read ∙ (c.requires.shape i _ c.loop-i-test.true).right_length in
    let item = c.in_ok-item.item in
    let P : ℕ → Type 0 = λ k. item ≡ dot o k row v in
    let same : item ≡ dot o n row v = rw long at c.in_ok-item.ensures.value in
    let grown : length c.push.new.self ≡ i + 1 = ap length c.in_ok-push.ensures.ok ∙ length_push c.loop-i.items item
    ∙ ap (λ k. k + 1) c.loop-i.invariant.elem.right_length in
    record {
      elem = record {
        right_length = grown;
        of_elements =
            All_step (IsElem o) c.loop-i.items c.push.new.self item c.loop-i.invariant.elem.of_elements
            c.in_ok-item.ensures.elem c.in_ok-push.ensures.ok;
      };
      value = table_step i (λ i.
          sum_of o n (λ k. o.mul (entry o m i k)
          (at o v k))) c.loop-i.items c.push.new.self item c.loop-i.invariant.value
          (rw read at same) c.in_ok-push.ensures.ok;
    }
