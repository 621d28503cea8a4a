use Rattle.std.proofs.Common.{◌<◌, arith, below_more}
use Rattle.std.proofs.lemmas.Bool.{both_ways}
use Rattle.spl_check.proofs.Tests.{yes, no}
use Rattle.spl_check.proofs.split.maps_multiply.Goals as goal

pub multiply_by-requires : goal.multiply_by-requires
multiply_by-requires g c = record {
  over = c.requires.over;
  zero_elem = c.in_ok-zero.ensures.elem;
  zero = c.in_ok-zero.ensures.value;
  count = c.requires.count;
  maps = c.requires.maps;
  small = c.requires.small;
  place = omega (arith, c.loop-i-test.true, c.dim-i-end.ensures.dim);
}

pub loop-i-preserved : goal.loop-i-preserved
loop-i-preserved g c =
    below_more _ _ c.loop-i.invariant (c.in_ok-multiply_by.ensures.0 c.if-not-branch.false)

pub returns : goal.returns
returns g c = yes (λ i j r s i_in j_in r_in s_in.
    c.loop-i.invariant i (omega (arith, i_in, c.loop-i-test.false, c.dim-i-end.ensures.dim)) j r s j_in r_in s_in)

pub returns-then-not-branch : goal.returns-then-not-branch
returns-then-not-branch g c =
    let i_in : c.loop-i.i < c.args.algebra.now.dim = omega (arith, c.loop-i-test.true, c.dim-i-end.ensures.dim) in
    no (λ h. both_ways c.in_ok-multiply_by.field-0 c.if-not-branch.true
    (c.in_ok-multiply_by.ensures.1 (λ j r s j_in r_in s_in. h c.loop-i.i j r s i_in j_in r_in s_in)))
