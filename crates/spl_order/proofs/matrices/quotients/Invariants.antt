use Rattle.std.proofs.Common.{[], get_or}
use Rattle.spl_field.specs.SmallField.{small_ops, small_laws}
use Rattle.theory_bases.specs.Bases.{fraction_over}
use Rattle.spl_order.specs.Values.{HasRow}
use Rattle.spl_order.proofs.matrices.quotients.Given as goal

abbrev pub invariant-loop-i : goal.invariant-loop-i
invariant-loop-i l = let o = small_ops l.f in
    HasRow o (λ j. fraction_over o (small_laws l.f) l.h (get_or l.items j [])) l.i l.row
