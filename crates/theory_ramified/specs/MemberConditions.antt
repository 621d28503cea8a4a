-- The conditions by finitely many tuples: those that span the lattices, their products and their multiples by π, and a
-- member of a lattice by its coordinates. (Reiner, Maximal Orders, section 8.)
use Rattle.std.specs.Prelude.{◌≡◌, ◌↔◌, ◌<◌, ℕ, List, [], get_or}
use Rattle.theory_rings.specs.Ops.{Ops, FieldLaws}
use Rattle.theory_rings.specs.Sum.{at, sum_of}
use Rattle.theory_spaces.specs.Tuples.{IsTuple, tuple_scale}
use Rattle.theory_tables.specs.Matrix.{entry}
use Rattle.theory_tables.specs.Structure.{Structure, IsOver, product_of}
use Rattle.theory_tables.specs.Algebras.{IsIdentity}
use Rattle.theory_fractions.specs.Fraction.{Pair}
use Rattle.theory_fractions.specs.FractionOps.{fraction_ops}
use Rattle.theory_places.specs.Places.{PlaceOf}
use Rattle.theory_places.specs.FractionPlaces.{IsPlace, IsIntegralAt, uniformizer_at}
use Rattle.theory_bases.specs.TupleLattices.{AreIndependentTuples}
use Rattle.theory_ramified.specs.Conditions.{LatticeAt, HoldsIdentity, IsClosed, IsInside, AbsorbsProducts}
use Rattle.theory_ramified.specs.Conditions.{HoldsMultiple}

module _ {E : Type 0} (o : Ops E) (L : FieldLaws o) where
  module _ (A : Structure (Pair E)) (place : PlaceOf (List E)) (os : List (List (Pair E))) where
    -- a tuple with coordinates by os is in their lattice just where these are integral
    abbrev pub MembersByCoordinates : Type 0
    MembersByCoordinates = (x weights : List (Pair E)) → IsTuple (fraction_ops o L) A.dim x
        → IsTuple (fraction_ops o L) A.dim weights
        → ((c : ℕ) → c < A.dim → at (fraction_ops o L) x c ≡ sum_of (fraction_ops o L) A.dim
        (λ l. (let k = fraction_ops o L in k.mul (at k weights l) (entry k os l c))))
        → LatticeAt o L A place os x ↔ ((l : ℕ) → l < A.dim → IsIntegralAt o place (at (fraction_ops o L) weights l))

    -- the conditions on the order, by its tuples
    pub record OrderByMembers : Type 0 where
      pub member : MembersByCoordinates
      pub holds : (e : List (Pair E)) → IsIdentity (fraction_ops o L) A e
          → HoldsIdentity o L A place os ↔ LatticeAt o L A place os e
      pub closed : IsClosed o L A place os ↔ ((i j : ℕ) → i < A.dim → j < A.dim
          → LatticeAt o L A place os (product_of (fraction_ops o L) A (get_or os i []) (get_or os j [])))

    -- those on the radical, by the tuples of both
    pub record RadicalByMembers (js : List (List (Pair E))) : Type 0 where
      pub inside : IsInside o L A place os js
          ↔ ((i : ℕ) → i < A.dim → LatticeAt o L A place os (get_or js i []))
      pub absorbs : AbsorbsProducts o L A place os js ↔ ((i j : ℕ) → i < A.dim → j < A.dim
          → LatticeAt o L A place js (product_of (fraction_ops o L) A (get_or os i []) (get_or js j []))
          × LatticeAt o L A place js (product_of (fraction_ops o L) A (get_or js j []) (get_or os i [])))
      pub over : HoldsMultiple o L A place os js ↔ ((i : ℕ) → i < A.dim → LatticeAt o L A place js
          (tuple_scale (fraction_ops o L) A.dim (uniformizer_at o place) (get_or os i [])))

  abbrev pub OrdersByMembers : Type 0
  OrdersByMembers = (A : Structure (Pair E)) → IsOver (fraction_ops o L) A → (place : PlaceOf (List E))
      → IsPlace o place → (os : List (List (Pair E))) → AreIndependentTuples (fraction_ops o L) A.dim os
      → OrderByMembers A place os

  abbrev pub RadicalsByMembers : Type 0
  RadicalsByMembers = (A : Structure (Pair E)) → IsOver (fraction_ops o L) A → (place : PlaceOf (List E))
      → IsPlace o place → (os js : List (List (Pair E))) → AreIndependentTuples (fraction_ops o L) A.dim os
      → AreIndependentTuples (fraction_ops o L) A.dim js → RadicalByMembers A place os js
