use Rattle.std.proofs.Common.{◌<◌, ℕ, [], get_or}
use Rattle.spl_field.specs.SmallField.{small_ops}
use Rattle.theory_fractions.specs.PolynomialLists.{Divides}
use Rattle.spl_order.proofs.place_parts.divides_all.Given as goal

abbrev pub invariant-loop-p : goal.invariant-loop-p
invariant-loop-p l = (p : ℕ) → p < l.p → Divides (small_ops l.f) l.a (get_or l.items p [])
