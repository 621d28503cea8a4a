use Rattle.spl_fraction.specs.Fractions.{field_of}
use Rattle.spl_local.specs.Everywhere.{IsUnimodularOff, IsLargerOrder}
use Rattle.spl_local.proofs.everywhere.settle_factors.Given as goal

abbrev pub invariant-loop-i : goal.invariant-loop-i
invariant-loop-i l = let f = field_of l.f in record {
  larger : IsLargerOrder f l.a l.order l.grown;
  off : IsUnimodularOff f l.a l.i l.factors l.grown;
}
