-- Split algebras: those that a bijective homomorphism makes the algebra of all n by n matrices.
-- (Reiner, Maximal Orders, section 7.)
use Rattle.std.specs.Prelude.{◌≡◌, ◌<◌, ℕ, List, length}
use Rattle.std.specs.List.{All}
use Rattle.theory_rings.specs.Ops.{Ops}
use Rattle.theory_rings.specs.Sum.{sum_of, at}
use Rattle.theory_spaces.specs.Tuples.{IsTuple}
use Rattle.theory_tables.specs.Matrix.{IsMatrix, entry}
use Rattle.theory_tables.specs.Structure.{Structure}
use Rattle.theory_tables.specs.Conditions.{map_entry, MapsMultiply}

module _ {E : Type 0} (o : Ops E) where
  -- n rows of n elements
  pub record IsSquare (n : ℕ) (x : List (List E)) : Type 0 where
    pub shape : IsMatrix o n x
    pub height : length x ≡ n

  -- x is the combination of the m maps with the weights c
  abbrev pub IsCombination : ℕ → ℕ → List (List (List E)) → List E → List (List E) → Type 0
  IsCombination m n maps c x = (r s : ℕ) → r < n → s < n
      → entry o x r s ≡ sum_of o m (λ k. o.mul (at o c k) (map_entry o maps k r s))

  module _ (A : Structure E) where
    -- matrices of size n that multiply as the basis elements do, and of which each n by n matrix is the combination by
    -- exactly one tuple
    pub record IsSplitBy (n : ℕ) (maps : List (List (List E))) : Type 0 where
      pub count : length maps ≡ A.dim
      pub square : All (IsSquare n) maps
      pub multiplies : MapsMultiply o A n maps
      pub onto : (x : List (List E)) → IsSquare n x → (c : List E) × IsTuple o A.dim c × IsCombination A.dim n maps c x
      pub once : (x : List (List E)) (c d : List E) → IsSquare n x → IsTuple o A.dim c → IsTuple o A.dim d
          → IsCombination A.dim n maps c x → IsCombination A.dim n maps d x → c ≡ d

    -- some matrices do
    pub record IsSplit (n : ℕ) : Type 0 where
      pub maps : List (List (List E))
      pub by : IsSplitBy n maps
