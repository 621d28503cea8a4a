use Rattle.std.proofs.Common.{◌≡◌, ◌<◌, ℕ, [], List, length, ◌∙◌, ap, subst, arith}
use Rattle.theory_rings.specs.Sum.{table, at}
use Rattle.theory_spaces.specs.Tuples.{IsTuple}
use Rattle.theory_tables.specs.Matrix.{entry}
use Rattle.theory_tables.proofs.Rows.Sums.{table_step, read_at, row_at}
use Rattle.spl_algebra.proofs.Steps.{IsTuple-push}
use Rattle.spl_blocks.proofs.fixed.column_of.Goals as goal

pub loop-i-preserved : goal.loop-i-preserved
loop-i-preserved g c =
    let o = g.F.Field.ops c.args.f.now in
    let rows = c.args.rows.now in
    let i = c.loop-i.i in
    let j = c.args.j in
    let i_in = c.loop-i-test.true in
    let row = c.as_slice.result.now in
    let read = row_at rows i c.index-rows-i.result row i_in c.index-rows-i.is c.as_slice.ensures in
    let wide = (c.requires.shape i [] i_in).right_length in
    let j_in : j < length row = omega (arith, ap length read, wide, c.requires.column) in
    let y = c.index-as_slice-j.result in
    let item = c.in_ok-copy.field-0 in
    record {
      elem = IsTuple-push o i c.loop-i.items c.push.new.self item c.loop-i.invariant.elem c.in_ok-copy.ensures.elem
          c.in_ok-push.ensures.ok;
      value = table_step i (λ i. entry o rows i j) c.loop-i.items c.push.new.self item c.loop-i.invariant.value
          (c.in_ok-copy.ensures.value ∙ read_at o row j y j_in c.index-as_slice-j.is
          ∙ ap (λ (r : List g.row.F-Elem.Denot). at o r j) read)
          c.in_ok-push.ensures.ok;
    }

pub returns : goal.returns
returns g c =
    let o = g.F.Field.ops c.args.f.now in
    let rows = c.args.rows.now in
    let ended : c.loop-i.i ≡ length rows = omega arith in
    let P : ℕ → Type 0 = λ n. IsTuple o n c.loop-i.items in
    record {
      elem = subst P ended c.loop-i.invariant.elem;
      value = c.loop-i.invariant.value ∙ ap (λ (n : ℕ). table n (λ i. entry o rows i c.args.j)) ended;
    }
