-- Two-sided ideals of orders at a place that hold the multiples by the place's polynomial, by tests of lattices.
-- (Reiner, Maximal Orders, section 8.)
use Rattle.std.specs.Prelude.{◌↔◌, ℕ, List, length}
use Rattle.std.proofs.Common.{subst}
use Rattle.theory_rings.specs.Ops.{Ops, FieldLaws}
use Rattle.theory_rings.specs.Elements.{Elem, elements}
use Rattle.theory_spaces.specs.Lattice.{IsSubring}
use Rattle.theory_spaces.specs.Sets.{Within, Multiple}
use Rattle.theory_spaces.specs.Tuples.{Tuple, tuple_zero, tuple_add, tuple_scale}
use Rattle.theory_spaces.proofs.Linear.LatticeSpans.{span-zero, span-add}
use Rattle.theory_spaces.proofs.Tuples.Tuples.{tuples, tuples-zero, tuples-add}
use Rattle.theory_tables.specs.Matrix.{IsMatrix}
use Rattle.theory_tables.specs.Structure.{Structure, tuple_ops, product_of}
use Rattle.theory_tables.proofs.Algebras.Bridge.{row, row-is, as_tuple}
use Rattle.theory_fractions.specs.Fraction.{Pair}
use Rattle.theory_fractions.specs.CommonDenominator.{as_fraction}
use Rattle.theory_places.specs.Places.{Finite}
use Rattle.theory_places.specs.FractionPlaces.{IsIntegralAt, IsMonicIrreducible}
use Rattle.theory_bases.specs.TupleLattices.{TupleLattice, SpanOrder}
use Rattle.theory_bases.proofs.FractionsOver.{K, M}
use Rattle.theory_bases.proofs.LatticeBridge.{to_lattice, from_lattice}
use Rattle.spl_order.specs.LeftOrders.{SpansIdealOver}
use Rattle.spl_order.proofs.WithinAt.{place_subring}

-- ---- a lattice of tuples holds 0 and sums

module _ {E : Type 0} (o : Ops E) (L : FieldLaws o) (P : E → Type 0)
    (subring : IsSubring (let F = elements o L in F.ring) (λ (c : Elem o). P c.0)) (m : ℕ) (rows : List (List E))
    (shape : IsMatrix o m rows) where
  abbrev T : List E → Type 0
  T = TupleLattice o P m rows

  abbrev v : ℕ → Tuple o m
  v = row o L m rows shape

  pub lattice_zero : T (tuple_zero o m)
  lattice_zero =
      let N = tuples o L m in
      subst T (tuples-zero o L m) (from_lattice o L P m rows v (row-is o L m rows shape) N.zero
      (span-zero (elements o L) (λ c. P c.0) subring N (length rows) v))

  pub lattice_add : (x y : List E) → T x → T y → T (tuple_add o m x y)
  lattice_add x y hx hy =
      let N = tuples o L m in
      let a = as_tuple o L m x hx.0 in
      let b = as_tuple o L m y hy.0 in
      subst T (tuples-add o L m a b) (from_lattice o L P m rows v (row-is o L m rows shape) (N.◌⊕◌ a b)
      (span-add (elements o L) (λ c. P c.0) subring N (length rows) v a b
      (to_lattice o L P m rows v (row-is o L m rows shape) a hx)
      (to_lattice o L P m rows v (row-is o L m rows shape) b hy)))

-- ---- the tests of an ideal

module _ {E : Type 0} (o : Ops E) (L : FieldLaws o) (m : List E) (place : IsMonicIrreducible o m)
    (A : Structure (Pair E)) (order ideal : List (List (Pair E))) where
  abbrev Lat : List (List (Pair E)) → List (Pair E) → Type 0
  Lat rows = TupleLattice (K o L) (IsIntegralAt o (Finite m)) A.dim rows

  abbrev pub MultiplesWithin : Type 0
  MultiplesWithin = Within (Multiple (tuple_ops (K o L) A) (tuple_scale (K o L) A.dim) (as_fraction o m) (Lat order))
      (Lat ideal)

  abbrev pub ProductsWithin : List (List (Pair E)) → List (List (Pair E)) → Type 0
  ProductsWithin left right = (x y : List (Pair E)) → Lat left x → Lat right y → Lat ideal (product_of (K o L) A x y)

  -- the lattice is a two-sided ideal of the order exactly where it lies in it and holds its multiples and the products
  -- from both sides
  pub ideal_tells : IsMatrix (K o L) A.dim ideal → SpanOrder (K o L) A (IsIntegralAt o (Finite m)) order
      → (Within (Lat ideal) (Lat order) × MultiplesWithin × ProductsWithin order ideal × ProductsWithin ideal order)
      ↔ SpansIdealOver o L (IsIntegralAt o (Finite m)) A m order ideal
  ideal_tells shape is_order = (
    λ t. record {
      is_order = is_order;
      is_ideal = record {
        inside = t.0;
        zero_in = lattice_zero (K o L) (M o L) (IsIntegralAt o (Finite m)) (place_subring o L m place) A.dim ideal shape;
        add_in = lattice_add (K o L) (M o L) (IsIntegralAt o (Finite m)) (place_subring o L m place) A.dim ideal shape;
        left = λ a x ha hx. t.2 a x ha hx;
        right = λ a x ha hx. t.3 x a hx ha;
      };
      over = t.1;
    },
    λ s. (
      s.is_ideal.inside,
      s.over,
      λ x y hx hy. s.is_ideal.left x y hx hy,
      λ x y hx hy. s.is_ideal.right y x hy hx,
    ),
  )
