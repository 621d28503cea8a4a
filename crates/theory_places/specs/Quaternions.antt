-- Quaternions over a program's field by structure constants: the basis 1, i, j and k = i·j = −j·i with i² = p and
-- j² = b. (Reiner, Maximal Orders, section 9; Lam, Introduction to Quadratic Forms over Fields, chapter III.)
use Rattle.std.specs.Prelude.{◌≡◌, ℕ, List, [], ◌∷◌, ◌++◌}
use Rattle.theory_rings.specs.Ops.{Ops, FieldLaws}
use Rattle.theory_rings.specs.Elements.{Elem, elements}
use Rattle.theory_fractions.specs.FractionOps.{fraction_ops}
use Rattle.theory_rings.specs.IntegersMod.{mod_ops}
use Rattle.theory_tables.specs.Structure.{Structure}
use Rattle.theory_places.specs.Places.{PlaceOf, Finite, Infinite}
use Rattle.theory_places.specs.FractionPlaces.{uniformizer_at, RamifiedAtPlace}

module _ {E : Type 0} (o : Ops E) where
  -- a tuple of four
  abbrev pub tuple4 : E → E → E → E → List E
  tuple4 a b c d = a ∷ b ∷ c ∷ d ∷ []

  -- the tuples of 1, i, j and k with the weight a
  abbrev pub at_one : E → List E
  at_one a = tuple4 a o.zero o.zero o.zero

  abbrev pub at_i : E → List E
  at_i a = tuple4 o.zero a o.zero o.zero

  abbrev pub at_j : E → List E
  at_j a = tuple4 o.zero o.zero a o.zero

  abbrev pub at_k : E → List E
  at_k a = tuple4 o.zero o.zero o.zero a

  -- the products of 1 with 1, i, j and k, and then those of i, j and k
  abbrev pub quaternion_constants : E → E → List E
  quaternion_constants p b =
      at_one o.one ++ (at_i o.one ++ (at_j o.one ++ (at_k o.one
      ++ (at_i o.one ++ (at_one p ++ (at_k o.one ++ (at_j p
      ++ (at_j o.one ++ (at_k (o.neg o.one) ++ (at_one b ++ (at_i (o.neg b)
      ++ (at_k o.one ++ (at_j (o.neg p) ++ (at_i b ++ at_one (o.neg (o.mul p b))))))))))))))))

  abbrev pub quaternion_structure : E → E → Structure E
  quaternion_structure p b = record { dim = 4; constants = quaternion_constants p b }

  -- 1, i, j and k
  abbrev pub quaternion_order : List (List E)
  quaternion_order = at_one o.one ∷ at_i o.one ∷ at_j o.one ∷ at_k o.one ∷ []

  -- p, i, p·j and k
  abbrev pub quaternion_radical : E → List (List E)
  quaternion_radical p = at_one p ∷ at_i o.one ∷ at_j p ∷ at_k o.one ∷ []

  -- b is no square: x² is b·y² only where x and y are 0
  abbrev pub IsNoSquare : FieldLaws o → Elem o → Type 0
  IsNoSquare L b = (x y : Elem o)
      → (let F = elements o L in F.◌⊗◌ x x ≡ F.◌⊗◌ b (F.◌⊗◌ y y) → (x ≡ F.zero) × (y ≡ F.zero))

module _ {E : Type 0} (o : Ops E) (L : FieldLaws o) (M : FieldLaws (fraction_ops o L)) where
  -- the quaternions with i² the uniformizer of the place, and j² the constant b, are ramified there
  abbrev pub QuaternionsRamifiedAt : E → PlaceOf (List E) → Type 0
  QuaternionsRamifiedAt b place =
      let p = uniformizer_at o place in
      let f = fraction_ops o L in
      RamifiedAtPlace o L M (quaternion_structure f p (b ∷ [], o.one ∷ [])) place (quaternion_order f)
      (quaternion_radical f p)

  -- at x, and at infinity, if b is no square
  abbrev pub QuaternionsAreRamified : Type 0
  QuaternionsAreRamified = (b : Elem o) → IsNoSquare o L b
      → QuaternionsRamifiedAt b.0 (Finite (o.zero ∷ o.one ∷ [])) × QuaternionsRamifiedAt b.0 Infinite

-- the field of three elements, and that with j² = 2 the quaternions over it are ramified at x where i² = x, and at
-- infinity where i² = 1/x
abbrev pub three : Ops ℕ
three = mod_ops 3 (0 ∷ 1 ∷ 2 ∷ [])

abbrev pub QuaternionsOverThree : Type 0
QuaternionsOverThree = (L : FieldLaws three) (M : FieldLaws (fraction_ops three L))
    → QuaternionsRamifiedAt three L M 2 (Finite (0 ∷ 1 ∷ [])) × QuaternionsRamifiedAt three L M 2 Infinite
