-- The trace of a power of the lift of a multiplication. (Rónyai, Computing the structure of finite algebras.)
use Rattle.std.specs.Prelude.{◌≡◌, ℕ, suc, ◌^◌, ◌<◌, List}
use Rattle.theory_rings.specs.Sum.{at}
use Rattle.theory_spaces.specs.Matrix.{Matrix, mat_trace}
use Rattle.theory_radical.specs.Chain.{mat_power}
use Rattle.theory_radical.specs.Congruence.{CongruentMod}
use Rattle.theory_tables.specs.Structure.{Structure, product_of, basis_of}
use Rattle.spl_residue.specs.Residue.{residue_ops}
use Rattle.spl_residue.specs.declared.field.ResidueField.{ResidueField}
use Rattle.spl_radical.specs.LiftRing.{LiftNumbers, lift_ring, lifted, ring_of, prime_of}

module _ (k : ResidueField) (l : ℕ) (T : Structure (List ℕ)) where
  -- the matrix of the multiplication by a from the left, entry by entry lifted by its digits: in row i and column j
  -- stands coordinate i of a·b_j
  abbrev pub lifted_matrix : List (List ℕ) → Matrix (LiftNumbers k l)
  lifted_matrix a i j = lifted k l
      (at (residue_ops k) (product_of (residue_ops k) T a (basis_of (residue_ops k) T j)) i)

  -- the trace of its p^i-th power
  abbrev pub lifted_trace : List (List ℕ) → ℕ → LiftNumbers k l
  lifted_trace a i = mat_trace (ring_of k l).ring T.dim
      (mat_power (ring_of k l).ring T.dim (lifted_matrix a) (prime_of k ^ i))

  -- modulo p^(i + 1) it is the trace of the p^i-th power of each matrix whose entries have these residues
  abbrev pub IsIndependentOfLift : List (List ℕ) → ℕ → Type 0
  IsIndependentOfLift a i = (N : Matrix (LiftNumbers k l))
      → ((r c : ℕ) → r < T.dim → c < T.dim → ((lift_ring k l).down (N r c)).0
      ≡ at (residue_ops k) (product_of (residue_ops k) T a (basis_of (residue_ops k) T c)) r)
      → CongruentMod (ring_of k l).monoid (prime_of k ^ suc i)
      (mat_trace (ring_of k l).ring T.dim (mat_power (ring_of k l).ring T.dim N (prime_of k ^ i))) (lifted_trace a i)
