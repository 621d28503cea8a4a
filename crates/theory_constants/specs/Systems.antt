-- Linear systems over a field contained in another.
use Rattle.std.specs.Prelude.{◌↔◌, ℕ, List}
use Rattle.theory_rings.specs.Ops.{Ops}
use Rattle.theory_rings.specs.Sum.{table}
use Rattle.theory_spaces.specs.Tuples.{IsTuple}
use Rattle.theory_tables.specs.Matrix.{entry, IsMatrix}
use Rattle.theory_tables.specs.Solve.{IsSolved, IsRefuted}
use Rattle.theory_tables.specs.Subspace.{IsKilled}
use Rattle.theory_constants.specs.Subfield.{IsFieldMap, images}

module _ {E R : Type 0} (o : Ops E) (r : Ops R) (f : E → R) where
  -- the images of the entries of a matrix with h rows and w columns
  abbrev pub matrix_images : ℕ → ℕ → List (List E) → List (List R)
  matrix_images h w a = table h (λ i. table w (λ j. f (entry o a i j)))

  -- what the images of the entries of a matrix do with images of tuples
  pub record KeepsSystems (h w : ℕ) (a : List (List E)) : Type 0 where
    pub kernel : (v : List E) → IsTuple o w v
        → (IsKilled o h w a v ↔ IsKilled r h w (matrix_images h w a) (images o r f w v))
    pub solved : (right v : List E) → IsTuple o h right → IsSolved o h w a right v
        → IsSolved r h w (matrix_images h w a) (images o r f h right) (images o r f w v)
    pub refuted : (right m : List E) → IsTuple o h right → IsRefuted o h w a right m
        → IsRefuted r h w (matrix_images h w a) (images o r f h right) (images o r f h m)
    -- what is refuted over the smaller field has no solution over the larger
    pub no_solution : (right m : List E) (v : List R) → IsTuple o h right → IsRefuted o h w a right m
        → IsSolved r h w (matrix_images h w a) (images o r f h right) v → ⊥

  abbrev pub SystemLaw : Type 0
  SystemLaw = IsFieldMap o r f → (h w : ℕ) (a : List (List E)) → IsMatrix o w a → KeepsSystems h w a
