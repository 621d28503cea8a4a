-- The reduced row echelon form of a matrix, and the invertible matrix that makes it.
use Rattle.std.specs.Prelude.{◌≡◌, ◌<◌, ◌≤◌, ℕ, List, length, get_or, cond, nat_eq}
use Rattle.theory_rings.specs.Ops.{Ops}
use Rattle.theory_tables.specs.Inverse.{IsInverse}
use Rattle.theory_tables.specs.Matrix.{entry, product, IsMatrix}

-- the first col columns of the h rows are in reduced row echelon form, with these pivots
pub record IsReducedEchelon {E : Type 0} (o : Ops E) (h : ℕ) (rows : List (List E)) (pivots : List ℕ) (col : ℕ)
    : Type 0 where
  -- as many leading rows as pivots
  pub count : length pivots ≤ h
  -- the pivots are columns, and go up
  pub below : (s : ℕ) → s < length pivots → get_or pivots s 0 < col
  pub order : (s t : ℕ) → s < t → t < length pivots → get_or pivots s 0 < get_or pivots t 0
  -- a pivot is 1, alone in its column
  pub unit : (s i : ℕ) → s < length pivots → i < h → entry o rows i (get_or pivots s 0) ≡ cond (nat_eq i s) o.one o.zero
  -- and the first of its row that is not 0
  pub left : (s j : ℕ) → s < length pivots → j < get_or pivots s 0 → entry o rows s j ≡ o.zero
  -- the other rows are 0
  pub rest : (i j : ℕ) → length pivots ≤ i → i < h → j < col → entry o rows i j ≡ o.zero

-- some h by h matrix is the inverse of this one, on both sides
pub record IsInvertible {E : Type 0} (o : Ops E) (h : ℕ) (m : List (List E)) : Type 0 where
  pub inverse : List (List E)
  pub is_inverse : IsInverse o h m inverse

-- rows is the reduced row echelon form of the h by w matrix a, with these pivots; transform·a = rows, and transform is
-- invertible
pub record IsEchelon {E : Type 0} (o : Ops E) (h w : ℕ) (a rows : List (List E)) (pivots : List ℕ)
    (transform : List (List E)) : Type 0 where
  pub rows_shape : IsMatrix o w rows
  pub rows_height : length rows ≡ h
  pub transform_shape : IsMatrix o h transform
  pub transform_height : length transform ≡ h
  pub reduced : IsReducedEchelon o h rows pivots w
  pub makes : product o h h w transform a ≡ rows
  pub invertible : IsInvertible o h transform
