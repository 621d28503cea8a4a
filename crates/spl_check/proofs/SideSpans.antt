-- Products from a side: that they are tuples, and whether spans that are the same hold them.
use Rattle.std.specs.Prelude.{◌≡◌, ℕ, Bool, List}
use Rattle.std.proofs.Common.{subst}
use Rattle.theory_rings.specs.Ops.{Ops, FieldLaws}
use Rattle.theory_spaces.specs.Tuples.{IsTuple}
use Rattle.theory_spaces.proofs.Tuples.TupleProducts.{IsTuple-product, IsTuple-basis}
use Rattle.theory_tables.specs.Structure.{Structure, IsOver, IsElement, product_of, basis_of}
use Rattle.theory_tables.specs.Subspace.{InSpan, SameSpan}
use Rattle.theory_tables.proofs.Rows.Terms.{cond_either}
use Rattle.spl_check.specs.Sides.{side_product_of}

module _ {E : Type 0} (o : Ops E) where
  -- the width and the vector that were read
  pub InSpan-read : (w w' : ℕ) (rows : List (List E)) (u v : List E) → w ≡ w' → u ≡ v → InSpan o w rows u
      → InSpan o w' rows v
  InSpan-read w w' rows u v e f h =
      subst (λ (x : List E). InSpan o w' rows x) f (subst (λ (n : ℕ). InSpan o n rows u) e h)

  pub IsTuple-read : (w w' : ℕ) (u v : List E) → w ≡ w' → u ≡ v → IsTuple o w u → IsTuple o w' v
  IsTuple-read w w' u v e f h = subst (IsTuple o w') f (subst (λ (n : ℕ). IsTuple o n u) e h)

  pub SameSpan-read : (w w' : ℕ) (rows a b : List (List E)) → w ≡ w' → a ≡ b → SameSpan o w rows a
      → SameSpan o w' rows b
  SameSpan-read w w' rows a b e f h = subst (SameSpan o w' rows) f (subst (λ (n : ℕ). SameSpan o n rows a) e h)

module _ {E : Type 0} (o : Ops E) (L : FieldLaws o) (A : Structure E) (over : IsOver o A) where
  pub IsElement-side_product : (is_left : Bool) (v : List E) (i : ℕ) → IsElement o A v
      → IsElement o A (side_product_of o A is_left v i)
  IsElement-side_product is_left v i h =
      let unit = IsTuple-basis o L A.dim A.constants over.of_elements i in
      cond_either (IsElement o A) is_left (product_of o A (basis_of o A i) v) (product_of o A v (basis_of o A i))
      (IsTuple-product o L A.dim A.constants over.of_elements (basis_of o A i) v unit h)
      (IsTuple-product o L A.dim A.constants over.of_elements v (basis_of o A i) h unit)

  module _ (rows tuples : List (List E)) (same : SameSpan o A.dim rows tuples) (is_left : Bool) where
    -- of a tuple that was read
    pub to_tuples : (u v : List E) (i : ℕ) → u ≡ v → IsElement o A v
        → InSpan o A.dim rows (side_product_of o A is_left u i)
        → InSpan o A.dim tuples (side_product_of o A is_left v i)
    to_tuples u v i e h s =
        (same (side_product_of o A is_left v i) (IsElement-side_product is_left v i h)).0
        (subst (λ (x : List E). InSpan o A.dim rows (side_product_of o A is_left x i)) e s)

    pub to_rows : (u v : List E) (i : ℕ) → v ≡ u → IsElement o A v
        → InSpan o A.dim tuples (side_product_of o A is_left v i)
        → InSpan o A.dim rows (side_product_of o A is_left u i)
    to_rows u v i e h s =
        subst (λ (x : List E). InSpan o A.dim rows (side_product_of o A is_left x i)) e
        ((same (side_product_of o A is_left v i) (IsElement-side_product is_left v i h)).1 s)
