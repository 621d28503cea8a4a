-- Matrices over the lift ring of a residue field, as rows of numbers.
use Rattle.std.specs.Prelude.{◌≡◌, ℕ, ◌*◌, ◌<◌, List, [], length, get_or}
use Rattle.theory_rings.specs.Sum.{at}
use Rattle.theory_spaces.specs.Matrix.{Matrix}
use Rattle.theory_chains.specs.NumberRows.{AreNumbers, AreRows}
use Rattle.spl_residue.specs.Residue.{residue_ops}
use Rattle.spl_residue.specs.declared.field.ResidueField.{ResidueField}
use Rattle.spl_radical.specs.LiftRing.{LiftNumbers, size_of, width_of, element_of, lifted}

module _ (k : ResidueField) (l : ℕ) where
  -- m rows of m elements, one after the other
  pub record IsLiftMatrix (m : ℕ) (rows : List (List ℕ)) : Type 0 where
    pub count : length rows ≡ m
    pub numbers : AreRows (size_of k l) (m * width_of k) rows

  -- in row i and column j stands element j of row i
  abbrev pub matrix_of : List (List ℕ) → Matrix (LiftNumbers k l)
  matrix_of rows i j = element_of k l (get_or rows i []) j

  -- the entries of the first m rows and columns are those of N
  abbrev pub HasEntries : ℕ → Matrix (LiftNumbers k l) → List (List ℕ) → Type 0
  HasEntries m N rows = (i j : ℕ) → i < m → j < m → matrix_of rows i j ≡ N i j

  -- the numbers of the lifts of the first n elements of the row, by their digits
  pub record IsLiftedRow (row : List (List ℕ)) (n : ℕ) (numbers : List ℕ) : Type 0 where
    pub are_numbers : AreNumbers (size_of k l) (n * width_of k) numbers
    pub elements : (j : ℕ) → j < n → element_of k l numbers j ≡ lifted k l (at (residue_ops k) row j)

  -- the rows are those of the lifts of the entries of the first n rows
  pub record AreLiftedRows (left : List (List (List ℕ))) (n : ℕ) (rows : List (List ℕ)) : Type 0 where
    pub count : length rows ≡ n
    pub each : (i : ℕ) → i < n → IsLiftedRow (get_or left i []) (length (get_or left i [])) (get_or rows i [])
