-- The conditions on tuples at a finite place, by what the calls answer: an order by its identity and its products, its
-- radical, and the left order of this.
use Rattle.std.specs.Prelude.{◌≡◌, ◌↔◌, ℕ, List, length}
use Rattle.std.proofs.Common.{sym, subst}
use Rattle.theory_rings.specs.Ops.{Ops, FieldLaws}
use Rattle.theory_spaces.specs.Sets.{Within}
use Rattle.theory_tables.specs.Subspace.{AreIndependent}
use Rattle.theory_tables.specs.Structure.{Structure, IsOver, IsAssociative}
use Rattle.theory_tables.specs.Algebras.{IsIdentity}
use Rattle.theory_fractions.specs.Fraction.{Pair}
use Rattle.theory_fractions.specs.FractionOps.{fraction_ops}
use Rattle.theory_places.specs.Places.{PlaceOf, Finite}
use Rattle.theory_places.specs.FractionPlaces.{IsIntegralAt, IsMonicIrreducible}
use Rattle.theory_bases.specs.TupleLattices.{AreIndependentTuples, SpanOrder}
use Rattle.theory_bases.specs.Bases.{BasisForm, IsBasis, tuples_of}
use Rattle.theory_ramified.specs.Conditions.{LatticeAt, HoldsIdentity, IsClosed, IsInside, AbsorbsProducts}
use Rattle.theory_ramified.specs.Conditions.{HoldsMultiple, SomePowerFalls, IsSimpleOver, IsLeftOrder, GivesOrder}
use Rattle.theory_ramified.specs.ConditionLaws.{IsSimpleRadical}
use Rattle.theory_ramified.proofs.Conditions.{conditions_on_radical}
use Rattle.theory_ramified.proofs.MemberConditions.{orders_by_members}
use Rattle.spl_order.specs.LeftOrders.{SpansIdealOver, SpansLeftOrder}
use Rattle.spl_order.proofs.ProductTests.{order_tells}

-- tuples that are dependent in the space of as many items as there are tuples are not independent
pub are_dependent : {E : Type 0} (o : Ops E) (n : ℕ) (rows : List (List E)) → length rows ≡ n
    → (AreIndependent o (length rows) rows → ⊥) → AreIndependentTuples o n rows → ⊥
are_dependent o n rows e h i = h (subst (λ m. AreIndependent o m rows) (sym e) i.independent)

module _ {E : Type 0} (o : Ops E) (L : FieldLaws o) (A : Structure (Pair E)) (over : IsOver (fraction_ops o L) A)
    (m : List E) (s : IsMonicIrreducible o m) where
  abbrev k : Ops (Pair E)
  k = fraction_ops o L

  abbrev P : Pair E → Type 0
  P = IsIntegralAt o (Finite m)

  abbrev place : PlaceOf (List E)
  place = Finite m

  abbrev Lat : List (List (Pair E)) → List (Pair E) → Type 0
  Lat = LatticeAt o L A place

  -- the identity is held where the one that is handed in is
  pub identity_held : (os : List (List (Pair E))) → AreIndependentTuples k A.dim os → (one : List (Pair E))
      → IsIdentity k A one → HoldsIdentity o L A place os ↔ Lat os one
  identity_held os free one is_one =
      let w = orders_by_members o L A over place s os free in
      w.holds one is_one

  -- with the products, the tuples span an order
  pub spans_order : (order : BasisForm E) → IsBasis o L A.dim order → (one : List (Pair E)) → IsIdentity k A one
      → HoldsIdentity o L A place (tuples_of o L order) → IsClosed o L A place (tuples_of o L order)
      → SpanOrder k A P (tuples_of o L order)
  spans_order order basis one is_one holds closed =
      (order_tells o L m s A over order basis one is_one).1 (holds one is_one, closed)

  module _ (assoc : IsAssociative k A) (os : List (List (Pair E))) (O : SpanOrder k A P os) where
    gives_order : GivesOrder o L A place os
    gives_order =
        let w = orders_by_members o L A over place s os O.basis in
        let h = O.order in
        record {
          is_place = s;
          associative = assoc;
          identity = record { one = O.one; is_one = O.is_one };
          independent = O.basis;
          holds = (w.holds O.one O.is_one).1 h.one_in;
          closed = h.mul_in;
        }

    module _ (js : List (List (Pair E))) where
      -- an ideal over the multiples with a power in these, and a simple quotient, is the radical
      pub is_simple_radical : AreIndependentTuples k A.dim js → IsInside o L A place os js
          → AbsorbsProducts o L A place os js → HoldsMultiple o L A place os js → SomePowerFalls o L A place os js
          → IsSimpleOver o L A place os js → IsSimpleRadical o L A place os js
      is_simple_radical free inside absorbs multiple power simple =
          (conditions_on_radical o L A over place os js gives_order free).0 (record {
            inside = inside;
            absorbs = absorbs;
            over = multiple;
            power = power;
            simple = simple;
          })

      module _ (R : IsSimpleRadical o L A place os js) where
        -- the radical is an ideal over the multiples
        pub radical_over : SpansIdealOver o L P A m os js
        radical_over = let r = R.radical in record { is_order = O; is_ideal = r.ideal; over = r.over }

        -- its left order is the order where it lies in this
        pub own_left_order : (left : List (List (Pair E))) → SpansLeftOrder o L P A js left
            → Within (Lat left) (Lat os) ↔ IsLeftOrder o L A place os js
        own_left_order left d =
            let r = R.radical in
            let i = r.ideal in (
              λ w. ((λ x g. w x (d.0 x g)), (λ x h. (h.0, λ y j. i.left x y h j))),
              λ l x h. l.0 x (d.1 x h),
            )
