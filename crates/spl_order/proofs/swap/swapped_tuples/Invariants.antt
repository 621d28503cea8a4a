use Rattle.std.proofs.Common.{take, All}
use Rattle.std.specs.List.{AllZip}
use Rattle.theory_rings.specs.Ops.{IsElem}
use Rattle.spl_field.specs.SmallField.{small_ops}
use Rattle.spl_fraction.specs.Fractions.{field_of}
use Rattle.spl_fraction.specs.FractionsOver.{fractions_over}
use Rattle.spl_fraction.specs.Valuation.{IsSwapped}
use Rattle.spl_order.proofs.swap.swapped_tuples.Given as goal

abbrev pub invariant-loop-row : goal.invariant-loop-row
invariant-loop-row l = All (All (IsElem (fractions_over (field_of l.f)))) l.tuples
    × AllZip (AllZip (IsSwapped (small_ops (field_of l.f)))) (take l.row-index l.rows) l.tuples
