use Rattle.std.proofs.Common.{◌≡◌, get_or, []}
use Rattle.theory_rings.specs.Sum.{table}
use Rattle.spl_field.specs.SmallField.{small_ops, small_laws}
use Rattle.spl_fraction.specs.Fractions.{field_of}
use Rattle.theory_bases.specs.Bases.{fraction_over}
use Rattle.spl_order.proofs.fractions.tuple_over.Given as goal

abbrev pub invariant-loop-j : goal.invariant-loop-j
invariant-loop-j l = l.tuple ≡ table l.j (λ j.
    fraction_over (small_ops (field_of l.f)) (small_laws (field_of l.f)) l.den (get_or l.row j []))
