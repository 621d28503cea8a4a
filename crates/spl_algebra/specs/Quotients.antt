-- The constants of a quotient, row by row.
use Rattle.std.specs.Prelude.{◌≡◌, ◌+◌, ◌*◌, ◌/◌, ◌%◌, ◌<◌, ℕ, List, length, get_or, All}
use Rattle.theory_rings.specs.Ops.{Ops, IsElem}
use Rattle.theory_rings.specs.Sum.{at}
use Rattle.theory_spaces.specs.Tuples.{basis, product}
use Rattle.theory_tables.specs.Matrix.{image}

module _ {E : Type 0} (o : Ops E) where
  -- `count` rows of n elements, one after the other
  pub record JoinsRows (n count : ℕ) (row : ℕ → List E) (items : List E) : Type 0 where
    pub long : length items ≡ count * n
    pub of_elements : All (IsElem o) items
    pub item : (r k : ℕ) → r < count → k < n → at o items (r * n + k) ≡ at o (row r) k

  -- the image of the product of the basis elements at two places, which are numbered by pairs
  abbrev pub image_row : ℕ → List E → List ℕ → List (List E) → ℕ → List E
  image_row m cs places project r = image o (length project) m project (product o m cs
      (basis o m (get_or places (r / length places) 0)) (basis o m (get_or places (r % length places) 0)))
