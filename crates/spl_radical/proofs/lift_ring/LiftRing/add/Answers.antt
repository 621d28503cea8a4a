use Rattle.std.proofs.Common.{◌≡◌, sym, ◌∙◌, ap, subst, arith, length}
use Rattle.spl_radical.specs.LiftRing.{size_of, IsLiftElem, IsLiftSum}
use Rattle.spl_radical.specs.LiftNumbers.{residues_of, level_of}
use Rattle.spl_radical.proofs.Elements.{two_le_size, below_read, sums_are, sum_below, sum_is}
use Rattle.spl_radical.proofs.lift_ring.LiftRing.add.Goals as goal

pub sums_of-requires : goal.sums_of-requires
sums_of-requires c =
    let R = c.args.self.now in
    let k = residues_of R in
    let l = level_of R in
    let two = two_le_size k l in
    let e : R.modulus ≡ size_of k l = R.size in
    let na = c.numbers.ensures in
    let nb = c.numbers-2.ensures in
    let ca = c.requires.left.count in
    let cb = c.requires.right.count in
    record {
      positive = omega arith;
      modulus = R.small;
      left = below_read k l R.modulus c.args.a.now c.numbers.result.now e na c.requires.left;
      right = below_read k l R.modulus c.args.b.now c.numbers-2.result.now e nb c.requires.right;
      same = ap length na ∙ ca ∙ sym cb ∙ sym (ap length nb);
    }

pub returns : goal.returns
returns c =
    let R = c.args.self.now in
    let k = residues_of R in
    let l = level_of R in
    let e = sums_are k l R.modulus c.args.a.now c.args.b.now c.numbers.result.now c.numbers-2.result.now
    c.in_ok-numbers.numbers R.size c.requires.left.count c.numbers.ensures c.numbers-2.ensures
    c.in_ok-numbers.ensures in
    record {
      elem = subst (IsLiftElem k l) (sym e) (sum_below k l c.args.a.now c.args.b.now);
      value = subst (IsLiftSum k l c.args.a.now c.args.b.now) (sym e) (sum_is k l c.args.a.now c.args.b.now);
    }
