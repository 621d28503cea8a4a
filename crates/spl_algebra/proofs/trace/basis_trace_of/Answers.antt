use Rattle.std.proofs.Common.{ap, ◌∙◌, arith}
use Rattle.theory_rings.specs.Sum.{at}
use Rattle.theory_spaces.specs.Tuples.{constant}
use Rattle.theory_tables.proofs.Rows.Sums.{sum_step, read_at}
use Rattle.spl_algebra.proofs.trace.basis_trace_of.Goals as goal

pub loop-j-preserved : goal.loop-j-preserved
loop-j-preserved g c =
    let o = g.F.Field.ops c.args.f.now in
    let m = c.args.m in
    let cs = c.args.constants.now in
    let i = c.args.i in
    let j = c.loop-j.j in
    let item = read_at o cs c.place.result c.index-constants-place.result
    (omega (arith, c.requires.over.right_length, c.place.ensures.within)) c.index-constants-place.is
    ∙ ap (at o cs) c.place.ensures.value in
    record {
      elem = c.in_ok-sum-2.ensures.elem;
      value = sum_step o j (λ j. constant o m cs i j j) c.loop-j.sum c.in_ok-sum-2.sum c.index-constants-place.result
          c.loop-j.invariant.value item c.in_ok-sum-2.ensures.value;
    }
