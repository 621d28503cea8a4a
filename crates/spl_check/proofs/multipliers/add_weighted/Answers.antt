use Rattle.std.proofs.Common.{◌≡◌, cond, length, ap, ◌∙◌, arith}
use Rattle.theory_rings.specs.Ops.{IsElem}
use Rattle.theory_spaces.specs.Tuples.{constant}
use Rattle.theory_tables.proofs.Rows.Terms.{cond_either}
use Rattle.spl_check.proofs.MultiplierLists.{constant-elem, item_fits, weighted_sum-begin, weighted_sum-next}
use Rattle.spl_check.proofs.MultiplierLists.{weighted_sum-end}
use Rattle.spl_check.proofs.multipliers.add_weighted.Goals as goal

pub loop-t-init : goal.loop-t-init
loop-t-init g c =
    let o = g.F.Field.ops c.args.f.now in
    let L = g.met.F.Field.laws c.args.f.now in
    let A = c.args.algebra.now in
    let i = c.args.i in
    let one = constant o A.dim A.constants in
    record {
      elem = c.requires.sum;
      value = weighted_sum-begin o L A.dim (λ j k. cond c.args.is_left (one i j k) (one j i k))
          (λ j k. cond_either (IsElem o) c.args.is_left (one i j k) (one j i k)
          (constant-elem o L A c.requires.over i j k) (constant-elem o L A c.requires.over j i k))
          c.args.sum c.requires.sum;
    }

pub constant_at-constant-requires : goal.constant_at-constant-requires
constant_at-constant-requires g c =
    let item = item_fits (g.F.Field.ops c.args.f.now) (g.met.F.Field.laws c.args.f.now) c.args.algebra.now.dim
    c.args.list.now c.requires.list c.loop-t.t c.loop-t-test.true c.index-list-t.result c.index-list-t.is in
    record {
      over = c.requires.over;
      i = c.requires.i;
      j_low = item.first_low;
      j_high = item.first_high;
      k_low = item.second_low;
      k_high = item.second_high;
    }

pub add_product-requires : goal.add_product-requires
add_product-requires g c = record {
  zero_elem = c.in_ok-zero.ensures.elem;
  zero = c.in_ok-zero.ensures.value;
  sum = c.loop-t.invariant.elem;
  left = (item_fits (g.F.Field.ops c.args.f.now) (g.met.F.Field.laws c.args.f.now) c.args.algebra.now.dim
      c.args.list.now c.requires.list c.loop-t.t c.loop-t-test.true c.index-list-t.result c.index-list-t.is).of_field;
  right = c.constant_at-constant.ensures.elem;
}

pub loop-t-preserved : goal.loop-t-preserved
loop-t-preserved g c =
    let o = g.F.Field.ops c.args.f.now in
    let L = g.met.F.Field.laws c.args.f.now in
    let A = c.args.algebra.now in
    let i = c.args.i in
    let one = constant o A.dim A.constants in
    let x = c.index-list-t.result in
    record {
      elem = c.in_ok-total.ensures.elem;
      value = weighted_sum-next o L A.dim c.args.list.now c.requires.list
          (λ j k. cond c.args.is_left (one i j k) (one j i k))
          (λ j k. cond_either (IsElem o) c.args.is_left (one i j k) (one j i k)
          (constant-elem o L A c.requires.over i j k) (constant-elem o L A c.requires.over j i k))
          c.loop-t.t c.loop-t-test.true x c.index-list-t.is c.args.sum c.loop-t.total c.in_ok-total.total c.requires.sum
          c.loop-t.invariant.value
          (c.in_ok-total.ensures.value
          ∙ ap (λ z. o.add c.loop-t.total (o.mul x.2 z)) c.constant_at-constant.ensures.value);
    }

pub returns : goal.returns
returns g c =
    let o = g.F.Field.ops c.args.f.now in
    let L = g.met.F.Field.laws c.args.f.now in
    let A = c.args.algebra.now in
    let one = constant o A.dim A.constants in
    let ended : c.loop-t.t ≡ length c.args.list.now = omega arith in
    record {
      elem = c.loop-t.invariant.elem;
      value = weighted_sum-end o L A.dim c.args.list.now c.requires.list
          (λ j k. cond c.args.is_left (one c.args.i j k) (one j c.args.i k))
          c.loop-t.t c.args.sum c.loop-t.total ended c.loop-t.invariant.value;
    }
