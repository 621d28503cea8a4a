use Rattle.std.proofs.Common.{◌≡◌, length, arith}
use Rattle.spl_check.proofs.MultiplierLists.{item_fits, diagonal_sum-begin, diagonal_sum-next, diagonal_sum-end}
use Rattle.spl_check.proofs.multipliers.add_diagonal.Goals as goal

pub loop-t-init : goal.loop-t-init
loop-t-init g c = record {
  elem = c.requires.sum;
  value = diagonal_sum-begin (g.F.Field.ops c.args.f.now) (g.met.F.Field.laws c.args.f.now) c.args.algebra.now.dim
      c.args.sum c.requires.sum;
}

pub add_where-requires : goal.add_where-requires
add_where-requires g c = record {
  sum = c.loop-t.invariant.elem;
  term = (item_fits (g.F.Field.ops c.args.f.now) (g.met.F.Field.laws c.args.f.now) c.args.algebra.now.dim
      c.args.list.now c.requires.list c.loop-t.t c.loop-t-test.true c.index-list-t.result c.index-list-t.is).of_field;
}

pub loop-t-preserved : goal.loop-t-preserved
loop-t-preserved g c = record {
  elem = c.in_ok-total.ensures.elem;
  value = diagonal_sum-next (g.F.Field.ops c.args.f.now) (g.met.F.Field.laws c.args.f.now) c.args.algebra.now.dim
      c.args.list.now c.requires.list c.loop-t.t c.loop-t-test.true c.index-list-t.result c.index-list-t.is c.args.sum
      c.loop-t.total c.in_ok-total.total c.requires.sum c.loop-t.invariant.value c.in_ok-total.ensures.value;
}

pub returns : goal.returns
returns g c =
    let ended : c.loop-t.t ≡ length c.args.list.now = omega arith in
    record {
      elem = c.loop-t.invariant.elem;
      value = diagonal_sum-end (g.F.Field.ops c.args.f.now) (g.met.F.Field.laws c.args.f.now) c.args.algebra.now.dim
          c.args.list.now c.requires.list c.loop-t.t c.args.sum c.loop-t.total ended c.loop-t.invariant.value;
    }
