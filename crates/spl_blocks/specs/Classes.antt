-- Elements of a residue field by polynomials.
use Rattle.std.specs.Prelude.{◌≡◌, ◌<◌, ℕ, List, [], ◌∷◌, length}
use Rattle.theory_rings.specs.Ops.{IsElem}
use Rattle.theory_rings.specs.Sum.{at}
use Rattle.theory_remainders.specs.RemainderLaws.{IsRemainderOf}
use Rattle.spl_field.specs.SmallField.{small_ops, size_of}
use Rattle.spl_poly.specs.Operations.{without_zeros}
use Rattle.spl_residue.specs.Residue.{residue_ops, field_of, polynomial_of}
use Rattle.spl_residue.specs.declared.field.ResidueField.{ResidueField}

module _ (k : ResidueField) where
  -- the element is the remainder of the polynomial
  pub record IsClassOf (p r : List ℕ) : Type 0 where
    pub elem : IsElem (residue_ops k) r
    pub remainder : IsRemainderOf (small_ops (field_of k)) (at (small_ops (field_of k)) p) (polynomial_of k) r

  -- the constants, by their numbers
  pub record AreConstants (list : List (List ℕ)) : Type 0 where
    pub long : length list ≡ size_of (field_of k)
    pub each : (c : ℕ) → c < size_of (field_of k) → IsClassOf (without_zeros (c ∷ [])) (at (residue_ops k) list c)
