-- Orders at infinity by orders at the place x of the algebra with 1/x put for x, with 1/x put for x again.
use Rattle.std.specs.Prelude.{◌≡◌, List}
use Rattle.std.proofs.Common.{sym, ◌∙◌, ap, subst}
use Rattle.theory_rings.specs.Ops.{Ops, FieldLaws}
use Rattle.theory_spaces.specs.Sets.{Within}
use Rattle.theory_tables.specs.Matrix.{IsMatrix}
use Rattle.theory_tables.specs.Structure.{Structure, IsOver}
use Rattle.theory_tables.specs.Algebras.{HasSmallCentre, IsCentral}
use Rattle.theory_fractions.specs.Fraction.{Pair}
use Rattle.theory_fractions.specs.FractionOps.{fraction_ops}
use Rattle.theory_fractions.proofs.FractionField.{fraction_laws}
use Rattle.theory_places.specs.Places.{Infinite}
use Rattle.theory_places.specs.FractionPlaces.{IsIntegralAt, RamifiedAtPlace}
use Rattle.theory_bases.specs.TupleLattices.{TupleLattice, SpanOrder, IsTraceDualOfItself}
use Rattle.theory_swaps.specs.Involutions.{IsInvolution, image, images, image_structure}
use Rattle.theory_swaps.specs.CarriedAlgebras.{CarriesAlgebra}
use Rattle.theory_swaps.specs.CarriedLattices.{CarriesLattices, CarriesOrders}
use Rattle.theory_swaps.specs.FractionSwaps.{place_x, IsFractionSwap, CarriesInfinityToX}
use Rattle.theory_swaps.proofs.MappedTuples.{image_twice, images_twice, image-scale}
use Rattle.theory_swaps.proofs.CarriedLattices.{matrix-images}
use Rattle.theory_swaps.proofs.FractionSwaps.{infinity_is_the_place_x}
use Rattle.theory_swaps.proofs.RamifiedPlaces.{ramified_at_infinity_at_x}

module _ {E : Type 0} (o : Ops E) (L : FieldLaws o) (s : Pair E → Pair E) (S : IsFractionSwap o L s)
    (A : Structure (Pair E)) (over : IsOver (fraction_ops o L) A) where
  abbrev k : Ops (Pair E)
  k = fraction_ops o L

  abbrev M : FieldLaws k
  M = fraction_laws o L

  abbrev I : IsInvolution k s
  I = S.involution

  abbrev B : Structure (Pair E)
  B = image_structure s A

  carries : CarriesInfinityToX o L s
  carries = infinity_is_the_place_x o L s S

  pub algebra : CarriesAlgebra k s A
  algebra = carries.algebras A over

  lattices : CarriesLattices k s (IsIntegralAt o Infinite) (IsIntegralAt o (place_x o)) A.dim
  lattices = carries.lattices A.dim

  orders : CarriesOrders k s (IsIntegralAt o Infinite) (IsIntegralAt o (place_x o)) A
  orders = carries.orders A over

  twice : (rows : List (List (Pair E))) → images s (images s rows) ≡ rows
  twice = images_twice k M s I

  -- a small centre is carried
  pub small_centre : HasSmallCentre k A → HasSmallCentre k B
  small_centre h = record {
    one = image s h.one;
    is_one = (algebra.identity h.one).0 h.is_one;
    multiple = λ a c.
        let a' = image s a in
        let m = h.multiple a' ((algebra.central a').1 (subst (IsCentral k B) (sym (image_twice k M s I a)) c)) in
        let t = h.is_one.tuple in
        record {
          factor = s m.factor;
          of_field = I.elem m.factor m.of_field;
          is_multiple = sym (image_twice k M s I a) ∙ ap (image s) m.is_multiple
              ∙ image-scale k M s I A.dim m.factor h.one m.of_field t.of_elements;
        };
  }

  -- an order at x comes from one at infinity
  pub order_back : (rows : List (List (Pair E))) → SpanOrder k B (IsIntegralAt o (place_x o)) rows
      → SpanOrder k A (IsIntegralAt o Infinite) (images s rows)
  order_back rows h = (orders.order (images s rows)).1
      (subst (SpanOrder k B (IsIntegralAt o (place_x o))) (sym (twice rows)) h)

  -- so does one that is its own dual
  pub own_dual_back : (rows : List (List (Pair E))) → IsMatrix k A.dim rows
      → IsTraceDualOfItself k B (IsIntegralAt o (place_x o)) rows
      → IsTraceDualOfItself k A (IsIntegralAt o Infinite) (images s rows)
  own_dual_back rows m h = (orders.own_dual (images s rows) (matrix-images k M s I A.dim rows m)).1
      (subst (IsTraceDualOfItself k B (IsIntegralAt o (place_x o))) (sym (twice rows)) h)

  -- and one that is ramified
  pub ramified_back : (N : FieldLaws k) (os js : List (List (Pair E))) → RamifiedAtPlace o L N B (place_x o) os js
      → RamifiedAtPlace o L N A Infinite (images s os) (images s js)
  ramified_back N os js h = (ramified_at_infinity_at_x o L N s S A over (images s os) (images s js)).1
      (subst (λ r. RamifiedAtPlace o L N B (place_x o) r (images s (images s js))) (sym (twice os))
      (subst (RamifiedAtPlace o L N B (place_x o) os) (sym (twice js)) h))

  -- and a lattice that lies within another
  pub within_back : (a b : List (List (Pair E))) → IsMatrix k A.dim a → IsMatrix k A.dim b
      → Within (TupleLattice k (IsIntegralAt o (place_x o)) A.dim a)
      (TupleLattice k (IsIntegralAt o (place_x o)) A.dim b)
      → Within (TupleLattice k (IsIntegralAt o Infinite) A.dim (images s a))
      (TupleLattice k (IsIntegralAt o Infinite) A.dim (images s b))
  within_back a b ha hb w x h =
      let X = IsIntegralAt o (place_x o) in
      let y = image s x in
      let down : TupleLattice k X A.dim a y = subst (λ r. TupleLattice k X A.dim r y) (twice a)
      ((lattices.lattice (images s a) (matrix-images k M s I A.dim a ha) x).0 h) in
      (lattices.lattice (images s b) (matrix-images k M s I A.dim b hb) x).1
      (subst (λ r. TupleLattice k X A.dim r y) (sym (twice b)) (w y down))
