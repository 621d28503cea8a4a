use Rattle.std.proofs.Common.{◌*◌, ◌<◌, length, sym, ◌∙◌, arith}
use Rattle.theory_spaces.specs.Tuples.{IsTuple}
use Rattle.theory_tables.proofs.Rows.Sums.{table_step, All_step}
use Rattle.spl_algebra.specs.Contractions.{contracted_row}
use Rattle.spl_algebra.proofs.trace.contraction_of.Goals as goal

pub overflow_mul-r : goal.overflow_mul-r
overflow_mul-r g c =
    let some : 0 < length c.args.a.now = omega arith in
    let last = c.requires.within c.loop-r.r 0 0 c.loop-r-test.true some some in
    omega arith

pub contracted_row_of-requires-clause-within : goal.contracted_row_of-requires-clause-within
contracted_row_of-requires-clause-within g c = λ j l hj hl. c.requires.within c.loop-r.r j l c.loop-r-test.true hj hl

pub push-requires : goal.push-requires
push-requires g c = λ k d k_in. (c.loop-r.invariant.shape k d k_in).right_length
    ∙ sym c.in_ok-row.ensures.elem.right_length

pub loop-r-preserved : goal.loop-r-preserved
loop-r-preserved g c =
    let o = g.F.Field.ops c.args.f.now in
    let a = c.args.a.now in
    let item = c.in_ok-row.row in
    record {
      shape = All_step (IsTuple o
          (length a)) c.loop-r.rows c.push.new.self item c.loop-r.invariant.shape c.in_ok-row.ensures.elem
          c.in_ok-push.ensures.ok;
      value = table_step c.loop-r.r
          (λ r. contracted_row o (length a) a c.args.constants.now
          (r * c.args.down) c.args.along c.args.stride) c.loop-r.rows c.push.new.self item
          c.loop-r.invariant.value c.in_ok-row.ensures.value c.in_ok-push.ensures.ok;
    }
