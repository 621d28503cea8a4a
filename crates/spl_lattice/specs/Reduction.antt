-- The steps of the reduction of rows, on lists.
use Rattle.std.specs.Prelude.{◌≡◌, ℕ, ◌<◌, ◌≤◌, ◌⊎◌, List, [], ◌∷◌, ◌++◌, length, get_or, slice_set}
use Rattle.std.specs.List.{All}
use Rattle.theory_rings.specs.Ops.{Ops}
use Rattle.theory_rings.specs.Sum.{at}
use Rattle.theory_rings.specs.Polynomial.{IsTrimmed}
use Rattle.spl_poly.specs.Operations.{IsOver, IsDivision}
use Rattle.theory_rows.specs.Rows.{IsPolynomialMatrix, IsUnimodularImage}
use Rattle.theory_rows.specs.LeadingPositions.{HasLeadingPosition, HaveLeadingPositions, IsZeroUpTo}
use Rattle.spl_lattice.specs.Steps.{IsSumWithMultiple}

-- of the row and that of the basis at i, that of smaller degree at p stands in the basis, and the other is the new row
pub record IsLowerKept {E : Type 0} (p i : ℕ) (basis : List (List (List E))) (row : List (List E))
    (new_basis : List (List (List E))) (new_row : List (List E)) : Type 0 where
  pub lower : length (get_or (get_or new_basis i []) p []) ≤ length (get_or new_row p [])
  pub either : ((new_basis ≡ basis) × (new_row ≡ row))
      ⊎ ((new_basis ≡ slice_set basis i row) × (new_row ≡ get_or basis i []))

-- a row that is 0 in its first w entries is one more of the zero rows, any other one more of the basis, with its
-- leading position
abbrev pub IsSettled : {E : Type 0} (w : ℕ) (basis : List (List (List E))) (places : List ℕ)
    (zeros : List (List (List E))) (row : List (List E)) (new_basis : List (List (List E))) (new_places : List ℕ)
    (new_zeros : List (List (List E))) → Type 0
IsSettled w basis places zeros row new_basis new_places new_zeros =
    (IsZeroUpTo w row × (new_basis ≡ basis) × (new_places ≡ places) × (new_zeros ≡ zeros ++ row ∷ []))
    ⊎ ((p : ℕ) × HasLeadingPosition w row p × (new_basis ≡ basis ++ row ∷ []) × (new_places ≡ places ++ p ∷ [])
    × (new_zeros ≡ zeros))

module _ {E : Type 0} (o : Ops E) where
  -- r is -a
  abbrev pub IsNegative : List E → List E → Type 0
  IsNegative a r = (k : ℕ) → at o r k ≡ o.neg (at o a k)

  -- the new row is the old one and m times another
  pub record IsRowWithMultiple (row : List (List E)) (m : List E) (by new : List (List E)) : Type 0 where
    pub count : length new ≡ length row
    pub entries : (j : ℕ) → j < length row → IsSumWithMultiple o (get_or row j []) m (get_or by j []) (get_or new j [])

  -- the new row is the old one less q times another
  pub record IsRowLess (row : List (List E)) (q : List E) (by new : List (List E)) : Type 0 where
    pub multiple : List E
    pub multiple_over : IsOver o multiple
    pub negative : IsNegative q multiple
    pub whole : IsRowWithMultiple row multiple by new

  -- the new row is the old one less q times another, where q is the quotient of their entries at p
  pub record IsRowRest (p : ℕ) (row by new : List (List E)) : Type 0 where
    pub quotient : List E
    pub rest : List E
    pub quotient_over : IsOver o quotient
    pub rest_over : IsOver o rest
    pub rest_trimmed : IsTrimmed o.zero rest
    pub division : IsDivision o (get_or row p []) (get_or by p []) quotient rest
    pub less : IsRowLess row quotient by new

  -- the row, or the one of the basis at i whose place it takes, is brought to its rest by the one that
  -- stands there then
  pub record IsLowering (p i : ℕ) (basis : List (List (List E))) (row : List (List E))
      (new_basis : List (List (List E))) (new_row : List (List E)) : Type 0 where
    pub high : List (List E)
    pub kept : IsLowerKept p i basis row new_basis high
    pub rest : IsRowRest p high (get_or new_basis i []) new_row

  -- reduced rows in the first w of v columns, with their leading positions, and rows that are 0 there
  pub record IsSplit (w v : ℕ) (basis : List (List (List E))) (places : List ℕ) (zeros : List (List (List E))) : Type 0
    where
      pub basis_rows : IsPolynomialMatrix o v basis
      pub zero_rows : IsPolynomialMatrix o v zeros
      pub positions : HaveLeadingPositions w basis places
      pub zero : All (IsZeroUpTo w) zeros

  -- such rows, by an invertible transform of the given ones
  pub record IsSplitOf (w v : ℕ) (rows basis : List (List (List E))) (places : List ℕ) (zeros : List (List (List E)))
      : Type 0 where
    pub split : IsSplit w v basis places zeros
    pub image : IsUnimodularImage o v rows (basis ++ zeros)

-- of the entries before j the one at p is of the greatest degree, and those after it are of smaller degree; before the
-- first, p is 0
pub record LeadsSoFar {E : Type 0} (j : ℕ) (row : List (List E)) (p : ℕ) : Type 0 where
  pub inside : (p ≡ 0) ⊎ (p < j)
  pub within : (i : ℕ) → i < j → length (get_or row i []) ≤ length (get_or row p [])
  pub after : (i : ℕ) → i < j → p < i → length (get_or row i []) < length (get_or row p [])
