use Rattle.std.proofs.Common.{take, All}
use Rattle.std.specs.List.{AllZip}
use Rattle.theory_rings.specs.Ops.{IsElem}
use Rattle.spl_field.specs.SmallField.{small_ops}
use Rattle.spl_fraction.specs.Fractions.{field_of}
use Rattle.spl_fraction.specs.FractionsOver.{fractions_over}
use Rattle.spl_fraction.specs.Valuation.{IsSwapped}
use Rattle.spl_order.proofs.swap.swapped_tuple.Given as goal

abbrev pub invariant-loop-item : goal.invariant-loop-item
invariant-loop-item l = All (IsElem (fractions_over (field_of l.f))) l.tuple
    × AllZip (IsSwapped (small_ops (field_of l.f))) (take l.item-index l.items) l.tuple
