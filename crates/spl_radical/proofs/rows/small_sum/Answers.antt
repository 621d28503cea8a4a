use Rattle.std.proofs.Common.{◌≡◌, ◌+◌, ◌*◌, suc, get_or, ◌∙◌, ap, arith}
use Rattle.theory_rings.specs.Sum.{sum}
use Rattle.theory_rings.specs.Naturals.{nat_monoid}
use Rattle.spl_radical.proofs.RowSteps.{product_small, next_small}
use Rattle.spl_radical.proofs.rows.small_sum.Goals as goal

pub overflow_mul-sum : goal.overflow_mul-sum
overflow_mul-sum c =
    let a = c.args.a.now in
    let b = c.args.b.now in
    let r = c.loop-r.r in
    let m = product_small c.args.q (get_or a r 0) (get_or b r 0) c.requires.modulus
    (c.requires.left r 0 c.loop-r-test.true)
    (c.requires.right r 0 (omega (arith, c.requires.same, c.loop-r-test.true))) in
    omega arith

pub overflow_add-sum : goal.overflow_add-sum
overflow_add-sum c =
    let a = c.args.a.now in
    let b = c.args.b.now in
    let r = c.loop-r.r in
    let l = c.loop-r-test.true in
    let f = c.requires.few in
    let m = next_small c.args.q r c.loop-r.sum (get_or a r 0) (get_or b r 0) c.requires.modulus
    (c.requires.left r 0 l) (c.requires.right r 0 (omega (arith, c.requires.same))) c.loop-r.invariant.small in
    omega arith

pub loop-r-preserved : goal.loop-r-preserved
loop-r-preserved c =
    let a = c.args.a.now in
    let b = c.args.b.now in
    let r = c.loop-r.r in
    let l = c.loop-r-test.true in
    let n : suc r ≡ r + 1 = omega arith in
    record {
      value = ap (λ s. s + get_or a r 0 * get_or b r 0) c.loop-r.invariant.value
          ∙ ap (λ n. sum nat_monoid n (λ r. get_or a r 0 * get_or b r 0)) n;
      small = next_small c.args.q r c.loop-r.sum (get_or a r 0) (get_or b r 0) c.requires.modulus
          (c.requires.left r 0 l) (c.requires.right r 0 (omega (arith, c.requires.same))) c.loop-r.invariant.small;
    }
