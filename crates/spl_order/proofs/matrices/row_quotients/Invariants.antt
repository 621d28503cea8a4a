use Rattle.std.proofs.Common.{[], get_or}
use Rattle.spl_field.specs.SmallField.{small_ops, small_laws}
use Rattle.theory_bases.specs.Bases.{fraction_over}
use Rattle.spl_order.specs.Values.{HasMatrix}
use Rattle.spl_order.proofs.matrices.row_quotients.Given as goal

abbrev pub invariant-loop-i : goal.invariant-loop-i
invariant-loop-i l = let o = small_ops l.f in
    HasMatrix o (λ i j. fraction_over o (small_laws l.f) l.h (get_or (get_or l.rows i []) j [])) l.i l.w l.parts
