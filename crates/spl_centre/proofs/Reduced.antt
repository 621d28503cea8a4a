-- The algebra of the residues of polynomials, by its dimension and its constants.
use Rattle.std.specs.Prelude.{◌≡◌, ◌*◌, ℕ, List}
use Rattle.std.proofs.Common.{sym, ◌∙◌, subst}
use Rattle.theory_spaces.specs.Tuples.{IsTuple}
use Rattle.theory_tables.specs.Structure.{Structure, IsOver}
use Rattle.theory_tables.specs.Traces.{trace_matrix}
use Rattle.theory_constants.specs.Residues.{KernelIsZero}
use Rattle.spl_residue.specs.declared.field.ResidueField.{ResidueField}
use Rattle.spl_residue.specs.Residue.{residue_ops}
use Rattle.spl_numerators.specs.Residues.{AreRemainders}
use Rattle.spl_centre.specs.Line.{CentreIsOnLine}

module _ (k : ResidueField) (xs entries : List (List ℕ)) (d m : ℕ) (same : xs ≡ entries) (dim : d ≡ m)
    (S : Structure (List ℕ)) (wide : S.dim ≡ d) (each : AreRemainders k xs (d * d * d) S.constants) where
  pub reduced_over : IsOver (residue_ops k) S
  reduced_over = subst (λ (n : ℕ). IsTuple (residue_ops k) (n * n * n) S.constants) (sym wide) each.tuple

  pub reduced_items : AreRemainders k entries (m * m * m) S.constants
  reduced_items = subst (λ (n : ℕ). AreRemainders k entries (n * n * n) S.constants) dim
      (subst (λ (zs : List (List ℕ)). AreRemainders k zs (d * d * d) S.constants) same each)

  pub reduced_line : CentreIsOnLine (residue_ops k) S
      → CentreIsOnLine (residue_ops k) (record { dim = m; constants = S.constants })
  reduced_line = subst (λ (n : ℕ). CentreIsOnLine (residue_ops k) (record { dim = n; constants = S.constants }))
      (wide ∙ dim)

  pub reduced_form : KernelIsZero (residue_ops k) S.dim S.dim (trace_matrix (residue_ops k) S)
      → KernelIsZero (residue_ops k) m m
      (trace_matrix (residue_ops k) (record { dim = m; constants = S.constants }))
  reduced_form = subst (λ (n : ℕ). KernelIsZero (residue_ops k) n n
      (trace_matrix (residue_ops k) (record { dim = n; constants = S.constants }))) (wide ∙ dim)
