use Rattle.std.proofs.Common.{◌≡◌, ◌+◌, ◌*◌}
use Rattle.theory_rings.specs.Ops.{IsElem}
use Rattle.theory_rings.specs.Sum.{sum_of, at}
use Rattle.spl_algebra.proofs.products.contracted_item.Given as goal

abbrev pub invariant-loop-l : goal.invariant-loop-l
invariant-loop-l g l = let o = g.F.Field.ops l.f in record {
  elem : IsElem o l.sum;
  value : l.sum ≡ sum_of o l.l (λ k. o.mul (at o l.a k) (at o l.constants (l.start + k * l.stride)));
}
