-- The conditions by finitely many tuples.
use Rattle.std.specs.Prelude.{◌<◌, ℕ, List, [], get_or}
use Rattle.std.proofs.Common.{refl, sym, ◌∙◌, subst}
use Rattle.theory_rings.specs.Ring.{FieldOn}
use Rattle.theory_rings.specs.Ops.{Ops, IsElem, FieldLaws}
use Rattle.theory_rings.specs.Elements.{Elem, elements}
use Rattle.theory_rings.specs.Sum.{at}
use Rattle.theory_rings.proofs.Rings.Elements.{at-elem}
use Rattle.theory_spaces.specs.Lattice.{IsSubring}
use Rattle.theory_spaces.specs.Sets.{Multiple}
use Rattle.theory_spaces.specs.Tuples.{tuple_scale}
use Rattle.theory_spaces.proofs.Linear.LatticeSpans.{integral_subring}
use Rattle.theory_spaces.proofs.Tuples.TupleProducts.{one-product, product-one}
use Rattle.theory_tables.specs.Structure.{Structure, IsOver, tuple_ops}
use Rattle.theory_tables.proofs.Algebras.Bridge.{as_tuple}
use Rattle.theory_fractions.specs.Fraction.{Pair}
use Rattle.theory_fractions.specs.FractionOps.{fraction_ops}
use Rattle.theory_fractions.proofs.FractionField.{fraction_laws}
use Rattle.theory_places.specs.Places.{PlaceOf}
use Rattle.theory_places.specs.FractionPlaces.{IsPlace, IsIntegralAt, uniformizer_at, FractionPlaceValuation}
use Rattle.theory_places.proofs.FractionPlaces.{fraction_places}
use Rattle.theory_bases.specs.TupleLattices.{AreIndependentTuples}
use Rattle.theory_left_orders.proofs.CoordinateOrders as coordinates
use Rattle.theory_ramified.specs.Conditions.{LatticeAt}
use Rattle.theory_ramified.specs.MemberConditions.{OrderByMembers, RadicalByMembers, OrdersByMembers}
use Rattle.theory_ramified.specs.MemberConditions.{RadicalsByMembers, MembersByCoordinates}
use Rattle.theory_ramified.proofs.Members as members

module _ {E : Type 0} (o : Ops E) (L : FieldLaws o) (A : Structure (Pair E)) (over : IsOver (fraction_ops o L) A)
    (place : PlaceOf (List E)) (is_place : IsPlace o place) where
  abbrev k : Ops (Pair E)
  k = fraction_ops o L

  abbrev M : FieldLaws k
  M = fraction_laws o L

  abbrev K : FieldOn (Elem k)
  K = elements k M

  abbrev n : ℕ
  n = A.dim

  abbrev P : Pair E → Type 0
  P = IsIntegralAt o place

  Z : FractionPlaceValuation o L M place
  Z = fraction_places o L M place is_place

  -- what is integral is a subring
  subring : IsSubring K.ring (λ x. P x.0)
  subring =
      let S = integral_subring K Z.valuation in
      record {
        one_in = (Z.tells K.one).0 S.one_in;
        zero_in = (Z.tells K.zero).0 S.zero_in;
        add_in = λ a b x y. (Z.tells (K.◌⊕◌ a b)).0 (S.add_in a b ((Z.tells a).1 x) ((Z.tells b).1 y));
        neg_in = λ a x. (Z.tells (K.neg a)).0 (S.neg_in a ((Z.tells a).1 x));
        mul_in = λ a b x y. (Z.tells (K.◌⊗◌ a b)).0 (S.mul_in a b ((Z.tells a).1 x) ((Z.tells b).1 y));
      }

  module _ (os : List (List (Pair E))) (fo : AreIndependentTuples k n os) where
    abbrev O : List (Pair E) → Type 0
    O = LatticeAt o L A place os

    o_member : (i : ℕ) → i < n → O (get_or os i [])
    o_member = members.member k M P subring A over os fo

    by_coordinates : MembersByCoordinates o L A place os
    by_coordinates x w hx hw e =
        let y = as_tuple k M n x hx in
        let el : (l : ℕ) → IsElem k (at k w l) = λ l. at-elem k M w hw.of_elements l in
        let c : ℕ → Elem k = λ l. (at k w l, el l) in
        let s = coordinates.combined k M P subring A over os fo x (at k w) el e y refl in (
          λ h. coordinates.weights_in k M P subring A over os fo y c s
              (coordinates.inside k M P subring A over os fo y h),
          λ h. coordinates.outside k M P subring A over os fo y
              (record { weights = c; passes = h; combines = s }),
        )

    pub order_by_members : OrderByMembers o L A place os
    order_by_members = record {
      member = by_coordinates;
      holds = λ e i. (
        λ h. h e i,
        λ h f j. subst O
            (sym (product-one k M n A.constants over.of_elements f j e i.tuple)
            ∙ one-product k M n A.constants over.of_elements e i f j.tuple) h,
      );
      closed = (
        λ h i j i_in j_in. h (get_or os i []) (get_or os j []) (o_member i i_in) (o_member j j_in),
        members.products_within k M P subring A over os os fo fo os fo,
      );
    }

    module _ (js : List (List (Pair E))) (fj : AreIndependentTuples k n js) where
      abbrev J : List (Pair E) → Type 0
      J = LatticeAt o L A place js

      j_member : (i : ℕ) → i < n → J (get_or js i [])
      j_member = members.member k M P subring A over js fj

      abbrev multiple : Pair E → List (Pair E) → Type 0
      multiple p = Multiple (tuple_ops k A) (tuple_scale k n) p O

      pub radical_by_members : RadicalByMembers o L A place os js
      radical_by_members = record {
        inside = (
          λ h i i_in. h (get_or js i []) (j_member i i_in),
          members.within k M P subring A over js os fj fo,
        );
        absorbs = (
          λ h i j i_in j_in. (
            h.left (get_or os i []) (get_or js j []) (o_member i i_in) (j_member j j_in),
            h.right (get_or os i []) (get_or js j []) (o_member i i_in) (j_member j j_in),
          ),
          λ h. record {
            left = λ a x l j. members.products_within k M P subring A over os js fo fj js fj
                (λ i t i_in t_in. (h i t i_in t_in).0) a x l j;
            right = λ a x l j. members.products_within k M P subring A over js js fj fj os fo
                (λ i t i_in t_in. (h t i t_in i_in).1) x a j l;
          },
        );
        over = (
          λ h i i_in. h (tuple_scale k n (uniformizer_at o place) (get_or os i []))
              (get_or os i [], o_member i i_in, refl),
          λ h. subst (λ p. (x : List (Pair E)) → multiple p x → J x) Z.p_is (members.within_multiple k M P subring A
              over os js fo fj Z.p (subst (λ p. (i : ℕ) → i < n → J (tuple_scale k n p (get_or os i [])))
              (sym Z.p_is) h)),
        );
      }

pub orders_by_members : {E : Type 0} (o : Ops E) (L : FieldLaws o) → OrdersByMembers o L
orders_by_members o L A over place is_place os fo = order_by_members o L A over place is_place os fo

pub radicals_by_members : {E : Type 0} (o : Ops E) (L : FieldLaws o) → RadicalsByMembers o L
radicals_by_members o L A over place is_place os js fo fj = radical_by_members o L A over place is_place os fo js fj
