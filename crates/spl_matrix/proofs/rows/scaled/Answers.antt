use Rattle.std.proofs.Common.{◌≡◌, ap, subst, ◌∙◌, arith, ℕ, length}
use Rattle.theory_rings.specs.Sum.{table, at}
use Rattle.theory_spaces.specs.Tuples.{IsTuple}
use Rattle.theory_tables.proofs.Rows.Sums.{table_step, read_at}
use Rattle.spl_matrix.proofs.Beside.{IsTuple-push}
use Rattle.spl_matrix.proofs.rows.scaled.Goals as goal

pub loop-j-preserved : goal.loop-j-preserved
loop-j-preserved g c =
    let o = g.F.Field.ops c.args.f.now in
    let row = c.args.row.now in
    let j = c.loop-j.j in
    let x = c.in_ok-mul.field-0 in
    record {
      elem = IsTuple-push o j c.loop-j.items c.push.new.self x c.loop-j.invariant.elem c.in_ok-mul.ensures.elem
          c.in_ok-push.ensures.ok;
      value = table_step j (λ j. o.mul c.args.c.now (at o row j)) c.loop-j.items c.push.new.self x
          c.loop-j.invariant.value
          (c.in_ok-mul.ensures.value
          ∙ ap (o.mul c.args.c.now) (read_at o row j c.index-row-j.result c.loop-j-test.true c.index-row-j.is))
          c.in_ok-push.ensures.ok;
    }

pub returns : goal.returns
returns g c =
    let o = g.F.Field.ops c.args.f.now in
    let row = c.args.row.now in
    let ended : c.loop-j.j ≡ length row = omega arith in
    let P : ℕ → Type 0 = λ n. IsTuple o n c.loop-j.items in
    record {
      elem = subst P ended c.loop-j.invariant.elem;
      value = c.loop-j.invariant.value ∙ ap (λ (n : ℕ). table n (λ j. o.mul c.args.c.now (at o row j))) ended;
    }
