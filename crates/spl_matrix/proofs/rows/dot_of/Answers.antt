use Rattle.std.proofs.Common.{◌≡◌, ap, ap₂, ◌∙◌, arith, ℕ, length, ◌<◌}
use Rattle.theory_rings.specs.Sum.{at}
use Rattle.theory_tables.specs.Matrix.{dot}
use Rattle.theory_tables.proofs.Rows.Sums.{sum_step, read_at}
use Rattle.spl_matrix.proofs.rows.dot_of.Goals as goal

pub loop-i-preserved : goal.loop-i-preserved
loop-i-preserved g c =
    let o = g.F.Field.ops c.args.f.now in
    let a = c.args.a.now in
    let b = c.args.b.now in
    let i = c.loop-i.i in
    let b_in : i < length b = omega (arith, c.requires.same) in
    record {
      elem = c.in_ok-sum-2.ensures.elem;
      value = sum_step o i (λ (k : ℕ). o.mul (at o a k) (at o b k)) c.loop-i.sum c.in_ok-sum-2.sum
          c.in_ok-term.term c.loop-i.invariant.value
          (c.in_ok-term.ensures.value ∙ ap₂ o.mul
          (read_at o a i c.index-a-i.result c.loop-i-test.true c.index-a-i.is)
          (read_at o b i c.index-b-i.result b_in c.index-b-i.is))
          c.in_ok-sum-2.ensures.value;
    }

pub returns : goal.returns
returns g c =
    let o = g.F.Field.ops c.args.f.now in
    let ended : c.loop-i.i ≡ length c.args.a.now = omega arith in
    record {
      elem = c.loop-i.invariant.elem;
      value = c.loop-i.invariant.value ∙ ap (λ (n : ℕ). dot o n c.args.a.now c.args.b.now) ended;
    }
