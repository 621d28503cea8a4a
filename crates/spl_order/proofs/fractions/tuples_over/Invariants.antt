use Rattle.std.proofs.Common.{◌≡◌, get_or, [], length}
use Rattle.theory_rings.specs.Sum.{table}
use Rattle.spl_field.specs.SmallField.{small_ops, small_laws}
use Rattle.spl_fraction.specs.Fractions.{field_of}
use Rattle.theory_bases.specs.Bases.{fraction_over}
use Rattle.spl_order.proofs.fractions.tuples_over.Given as goal

abbrev pub invariant-loop-i : goal.invariant-loop-i
invariant-loop-i l = l.tuples ≡ table l.i (λ i. table (length (get_or l.rows i [])) (λ j.
    fraction_over (small_ops (field_of l.f)) (small_laws (field_of l.f)) l.den (get_or (get_or l.rows i []) j [])))
