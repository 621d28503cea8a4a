use Rattle.std.proofs.Common.{◌*◌, ◌+◌, ap₂}
use Rattle.theory_rings.specs.Sum.{at}
use Rattle.theory_tables.proofs.Rows.Sums.{sum_step, read_at}
use Rattle.spl_algebra.proofs.products.contracted_item.Goals as goal

pub loop-l-preserved : goal.loop-l-preserved
loop-l-preserved g c =
    let o = g.F.Field.ops c.args.f.now in
    let a = c.args.a.now in
    let cs = c.args.constants.now in
    let l = c.loop-l.l in
    let p = c.args.start + l * c.args.stride in
    let factor = read_at o a l c.index-a-l.result c.loop-l-test.true c.index-a-l.is in
    let item = read_at o cs p c.index-constants-start.result
    (c.requires.within l c.loop-l-test.true) c.index-constants-start.is in
    record {
      elem = c.in_ok-sum-2.ensures.elem;
      value = sum_step o l (λ k.
          o.mul (at o a k) (at o cs (c.args.start + k * c.args.stride))) c.loop-l.sum c.in_ok-sum-2.sum
          (o.mul c.index-a-l.result c.index-constants-start.result) c.loop-l.invariant.value
          (ap₂ o.mul factor item) c.in_ok-sum-2.ensures.value;
    }
