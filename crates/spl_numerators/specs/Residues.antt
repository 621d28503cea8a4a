-- What the residues of the constants at an irreducible polynomial tell.
use Rattle.std.specs.Prelude.{◌*◌, ◌<◌, ℕ, List, [], get_or}
use Rattle.theory_rings.specs.Sum.{at}
use Rattle.theory_spaces.specs.Tuples.{IsTuple}
use Rattle.theory_remainders.specs.RemainderLaws.{IsRemainderOf}
use Rattle.theory_constants.specs.Generated.{Generates}
use Rattle.spl_field.specs.SmallField.{small_ops}
use Rattle.spl_residue.specs.declared.field.ResidueField.{ResidueField}
use Rattle.spl_residue.specs.Residue.{field_of, polynomial_of, residue_ops}

module _ (k : ResidueField) (entries : List (List ℕ)) where
  -- the n residues are those of the first n polynomials
  pub record AreRemainders (n : ℕ) (residues : List (List ℕ)) : Type 0 where
    pub tuple : IsTuple (residue_ops k) n residues
    pub each : (p : ℕ) → p < n
        → IsRemainderOf (small_ops (field_of k)) (at (small_ops (field_of k)) (get_or entries p [])) (polynomial_of k)
        (get_or residues p [])

  -- these basis elements generate the algebra whose constants are the residues of the polynomials
  pub record GenerateResidues (dim : ℕ) (by : List ℕ) : Type 0 where
    pub residues : List (List ℕ)
    pub are_remainders : AreRemainders (dim * dim * dim) residues
    pub generates : Generates (residue_ops k) (record { dim = dim; constants = residues }) by
