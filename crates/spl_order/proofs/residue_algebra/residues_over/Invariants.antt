use Rattle.spl_field.specs.SmallField.{small_ops, small_laws}
use Rattle.spl_fraction.specs.Fractions.{field_of}
use Rattle.spl_residue.specs.Residue.{polynomial_of, residue_ops}
use Rattle.spl_order.specs.Residues.{AreResiduesOver}
use Rattle.spl_order.proofs.residue_algebra.residues_over.Given as goal

abbrev pub invariant-loop-p : goal.invariant-loop-p
invariant-loop-p l =
    let s = field_of l.f in
    AreResiduesOver (small_ops s) (small_laws s) (polynomial_of l.k) (residue_ops l.k) l.d l.items l.p l.residues
