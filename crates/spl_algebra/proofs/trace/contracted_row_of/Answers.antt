use Rattle.std.proofs.Common.{◌+◌, ◌*◌, ◌<◌, length, arith}
use Rattle.theory_tables.proofs.Rows.Sums.{table_step}
use Rattle.spl_algebra.specs.Contractions.{contracted}
use Rattle.spl_algebra.proofs.Steps.{IsTuple-push}
use Rattle.spl_algebra.proofs.trace.contracted_row_of.Goals as goal

pub overflow_mul-j : goal.overflow_mul-j
overflow_mul-j g c =
    let some : 0 < length c.args.a.now = omega arith in
    let last = c.requires.within c.loop-j.j 0 c.loop-j-test.true some in
    omega arith

pub overflow_add-start : goal.overflow_add-start
overflow_add-start g c =
    let some : 0 < length c.args.a.now = omega arith in
    let last = c.requires.within c.loop-j.j 0 c.loop-j-test.true some in
    omega arith

pub contracted_item-requires-clause-within : goal.contracted_item-requires-clause-within
contracted_item-requires-clause-within g c = λ l hl. c.requires.within c.loop-j.j l c.loop-j-test.true hl

pub loop-j-preserved : goal.loop-j-preserved
loop-j-preserved g c =
    let o = g.F.Field.ops c.args.f.now in
    let a = c.args.a.now in
    let j = c.loop-j.j in
    let item = c.in_ok-contracted_item.field-0 in
    record {
      elem = IsTuple-push o j c.loop-j.row c.push.new.self item c.loop-j.invariant.elem
          c.in_ok-contracted_item.ensures.elem c.in_ok-push.ensures.ok;
      value = table_step j (λ j.
          contracted o (length a) a c.args.constants.now
          (c.args.start + j * c.args.along) c.args.stride) c.loop-j.row c.push.new.self item
          c.loop-j.invariant.value c.in_ok-contracted_item.ensures.value c.in_ok-push.ensures.ok;
    }
