-- The maps y → (b_i·y)·b_j of an algebra by their coordinates, and the dimension of their span. (Jacobson, Basic
-- Algebra II, section 4.6; Pierce, Associative Algebras, chapter 12.)
use Rattle.std.specs.Prelude.{◌≡◌, ◌*◌, ◌/◌, ◌%◌, ℕ, List, length}
use Rattle.theory_rings.specs.Ops.{Ops}
use Rattle.theory_rings.specs.Sum.{table, at}
use Rattle.theory_spaces.specs.Tuples.{product, basis}
use Rattle.theory_tables.specs.Matrix.{IsMatrix}
use Rattle.theory_tables.specs.Subspace.{AreIndependent, SameSpan}
use Rattle.theory_tables.specs.Structure.{Structure}

module _ {E : Type 0} (o : Ops E) (m : ℕ) (cs : List E) where
  -- the coordinate l of (b_i·b_k)·b_j, where s is k·m + l
  abbrev pub map_coordinate : ℕ → ℕ → ℕ → E
  map_coordinate i j s =
      at o (product o m cs (product o m cs (basis o m i) (basis o m (s / m))) (basis o m j)) (s % m)

  -- the map y → (b_i·y)·b_j, by what it makes of the basis elements
  abbrev pub map_coordinates : ℕ → ℕ → List E
  map_coordinates i j = table (m * m) (map_coordinate i j)

  -- the maps for all i and j, that for i and j at i·m + j
  abbrev pub two_sided_maps : List (List E)
  two_sided_maps = table (m * m) (λ t. map_coordinates (t / m) (t % m))

-- r independent rows have the same span as the maps
pub record IsTwoSidedRank {E : Type 0} (o : Ops E) (A : Structure E) (r : ℕ) : Type 0 where
  pub rows : List (List E)
  pub count : length rows ≡ r
  pub shape : IsMatrix o (A.dim * A.dim) rows
  pub independent : AreIndependent o (A.dim * A.dim) rows
  pub spans : SameSpan o (A.dim * A.dim) rows (two_sided_maps o A.dim A.constants)
