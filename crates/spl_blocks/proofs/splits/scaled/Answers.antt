use Rattle.std.proofs.Common.{◌≡◌, ap, ◌∙◌, ℕ, length, subst, arith}
use Rattle.theory_spaces.specs.Tuples.{IsTuple}
use Rattle.theory_rings.specs.Sum.{table, at}
use Rattle.theory_tables.proofs.Rows.Sums.{table_step, read_at}
use Rattle.spl_algebra.proofs.Steps.{IsTuple-push}
use Rattle.spl_blocks.proofs.splits.scaled.Goals as goal

pub loop-k-preserved : goal.loop-k-preserved
loop-k-preserved g c =
    let o = g.F.Field.ops c.args.f.now in
    let x = c.args.x.now in
    let k = c.loop-k.k in
    let item = c.in_ok-mul.field-0 in
    record {
      elem = IsTuple-push o k c.loop-k.items c.push.new.self item c.loop-k.invariant.elem c.in_ok-mul.ensures.elem
          c.in_ok-push.ensures.ok;
      value = table_step k (λ k. o.mul c.args.c.now (at o x k)) c.loop-k.items c.push.new.self item
          c.loop-k.invariant.value
          (c.in_ok-mul.ensures.value
          ∙ ap (o.mul c.args.c.now) (read_at o x k c.index-x-k.result c.loop-k-test.true c.index-x-k.is))
          c.in_ok-push.ensures.ok;
    }

pub returns : goal.returns
returns g c =
    let o = g.F.Field.ops c.args.f.now in
    let x = c.args.x.now in
    let ended : c.loop-k.k ≡ length x = omega arith in
    let P : ℕ → Type 0 = λ n. IsTuple o n c.loop-k.items in
    record {
      elem = subst P ended c.loop-k.invariant.elem;
      value = c.loop-k.invariant.value ∙ ap (λ (n : ℕ). table n (λ k. o.mul c.args.c.now (at o x k))) ended;
    }
