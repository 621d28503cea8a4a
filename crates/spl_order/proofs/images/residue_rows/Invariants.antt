use Rattle.std.proofs.Common.{◌≡◌, ◌<◌, ℕ, [], get_or, length}
use Rattle.spl_field.specs.SmallField.{small_ops, small_laws}
use Rattle.spl_fraction.specs.Fractions.{field_of}
use Rattle.spl_residue.specs.Residue.{polynomial_of, residue_ops}
use Rattle.spl_order.specs.Residues.{AreResiduesOver}
use Rattle.spl_order.proofs.images.residue_rows.Given as goal

abbrev pub invariant-loop-i : goal.invariant-loop-i
invariant-loop-i l = record {
  count : length l.residues.items ≡ l.i;
  each : (i : ℕ) → i < l.i → AreResiduesOver (small_ops (field_of l.f)) (small_laws (field_of l.f)) (polynomial_of l.k)
      (residue_ops l.k) l.d (get_or l.rows i []) l.n (get_or l.residues.items i []);
}
