-- The coordinates of the products of an order's tuples, and the residue tables that they make.
use Rattle.std.specs.Prelude.{◌<◌, ℕ, List, [], length, get_or}
use Rattle.std.proofs.Common.{◌∙◌, ap, subst, arith}
use Rattle.theory_rings.specs.Ring.{FieldOn}
use Rattle.theory_rings.specs.Ops.{Ops, FieldLaws}
use Rattle.theory_rings.specs.Elements.{Elem, elements}
use Rattle.theory_spaces.specs.Module.{ModuleOn}
use Rattle.theory_spaces.specs.Linear.{Basis}
use Rattle.theory_spaces.specs.Lattice.{LatticeOver}
use Rattle.theory_spaces.specs.Tuples.{Tuple}
use Rattle.theory_spaces.proofs.Linear.Spaces.{Basis-coord}
use Rattle.theory_spaces.proofs.Linear.LatticeSpans.{span-member}
use Rattle.theory_spaces.proofs.Tuples.Tuples.{tuples}
use Rattle.theory_tables.specs.Structure.{Structure, IsOver, IsAssociative, product_of}
use Rattle.theory_tables.specs.Algebras.{HasIdentity}
use Rattle.theory_tables.proofs.Algebras.Bridge.{row, row-is, as_tuple}
use Rattle.theory_fractions.specs.Fraction.{Pair}
use Rattle.theory_fractions.specs.FractionOps.{fraction_ops}
use Rattle.theory_remainders.specs.RemainderOps.{remainder_ops}
use Rattle.theory_remainders.proofs.RemainderField.{monic}
use Rattle.theory_places.specs.Places.{Finite}
use Rattle.theory_places.specs.FractionPlaces.{IsIntegralAt, IsMonicIrreducible, fractions}
use Rattle.theory_bases.specs.TupleLattices.{TupleLattice, AreIndependentTuples, SpanOrder}
use Rattle.theory_bases.specs.Bases.{IsPolynomialFraction}
use Rattle.theory_left_orders.specs.ResidueRings.{ResidueRingOn}
use Rattle.theory_left_orders.specs.FractionResidues.{ResidueRingsBy}
use Rattle.theory_left_orders.specs.TupleResidues.{AreProductCoordinates}
use Rattle.theory_left_orders.specs.TupleIdeals.{IsResidueTable}
use Rattle.theory_left_orders.proofs.ResidueRings.{coord_member}
use Rattle.theory_left_orders.proofs.TupleLattices.{is_comb, to_lattice, from_lattice, rows_basis}
use Rattle.theory_left_orders.proofs.TupleIdeals.{residue_tables_are_algebras}
use Rattle.spl_order.specs.Residues.{AreProductResidues}

module _ {E R : Type 0} (o : Ops E) (L : FieldLaws o) (P : E → Type 0) (p q : Elem o) (r : Ops R) (N : FieldLaws r)
    (D : ResidueRingOn (elements o L) (λ x. P x.0) p q (elements r N)) (A : Structure E) (rows : List (List E))
    (ind : AreIndependentTuples o A.dim rows) where
  abbrev n : ℕ
  n = A.dim

  abbrev K : FieldOn (Elem o)
  K = elements o L

  abbrev Q : Elem o → Type 0
  Q x = P x.0

  abbrev M : ModuleOn K.ring (Tuple o n)
  M = tuples o L n

  abbrev v : ℕ → Tuple o n
  v = row o L n rows ind.shape

  abbrev B : Basis M n
  B = rows_basis o L n rows ind

  abbrev T : List E → Type 0
  T = TupleLattice o P n rows

  -- each tuple is in its lattice
  member : (i : ℕ) → i < n → T (get_or rows i [])
  member i l =
      let l' : i < length rows = omega (arith, l, ind.count) in
      subst T (row-is o L n rows ind.shape i l') (from_lattice o L n rows ind.shape P (v i)
      (span-member K Q D.subring M (length rows) v i l'))

  -- where the lattice is closed under products, it holds those of the tuples
  pub products_inside : ((x y : List E) → T x → T y → T (product_of o A x y)) → (i j : ℕ) → i < n → j < n
      → T (product_of o A (get_or rows i []) (get_or rows j []))
  products_inside closed i j i_in j_in =
      closed (get_or rows i []) (get_or rows j []) (member i i_in) (member j j_in)

  -- where the lattice holds the products of the tuples, their coordinates are weights that are allowed
  pub coordinates_allowed : ((i j : ℕ) → i < n → j < n → T (product_of o A (get_or rows i []) (get_or rows j [])))
      → (c : ℕ → ℕ → ℕ → E)
      → AreProductCoordinates o A rows c → (i j l : ℕ) → i < n → j < n → l < n → P (c i j l)
  coordinates_allowed inside c h i j l i_in j_in l_in =
      let z = product_of o A (get_or rows i []) (get_or rows j []) in
      let t : T z = inside i j i_in j_in in
      let x : Tuple o n = as_tuple o L n z t.0 in
      let e : ℕ → Elem o = λ k. (c i j k, h.elements_of i j k) in
      let S : ℕ → Type 0 = λ m. LatticeOver M Q m v x in
      let s : LatticeOver M Q n v x = subst S ind.count (to_lattice o L n rows ind.shape P x t.1) in
      subst Q (ap (λ y. B.coord y l) (is_comb o L n rows ind.shape x n e (λ k. h.products i j k i_in j_in))
      ∙ Basis-coord M n B e l l_in) (coord_member K Q p q (elements r N) D M n B x s l l_in)

module _ {E : Type 0} (o : Ops E) (L : FieldLaws o) (M : FieldLaws (fraction_ops o L)) (m : List E)
    (s : IsMonicIrreducible o m) (N : FieldLaws (remainder_ops o L m (monic o L m s.irreducible)))
    (R : ResidueRingsBy o L M m (remainder_ops o L m (monic o L m s.irreducible)) N) (A : Structure (Pair E))
    (tuples : List (List (Pair E))) (constants : List (List E))
    (H : AreProductResidues o L m (remainder_ops o L m (monic o L m s.irreducible)) A tuples constants) where
  abbrev k : Ops (Pair E)
  k = fraction_ops o L

  abbrev r : Ops (List E)
  r = remainder_ops o L m (monic o L m s.irreducible)

  abbrev q : Elem k
  q = let F = fractions o L M in F.inv R.p

  abbrev AtPlace : Pair E → Type 0
  AtPlace = IsIntegralAt o (Finite m)

  abbrev Poly : Pair E → Type 0
  Poly = IsPolynomialFraction o

  -- the constants are a residue table of the order at the place
  pub table_at_place : SpanOrder k A AtPlace tuples
      → IsResidueTable k M AtPlace R.p q r N R.at_place A tuples constants
  table_at_place S = record {
    shape = H.shape;
    coordinate = H.coordinate;
    coordinates = H.coordinates;
    residues = λ i j l i_in j_in l_in.
        let e = (let C = H.coordinates in C.elements_of i j l) in
        let a = coordinates_allowed k M AtPlace R.p q r N R.at_place A tuples S.basis
        (products_inside k M AtPlace R.p q r N R.at_place A tuples S.basis (let O = S.order in O.mul_in))
        H.coordinate H.coordinates i j l i_in j_in l_in in
        record {
          elem = e;
          allowed = a;
          residue = (let V = R.at_place_values in
              V.value (H.coordinate i j l, e) _ a (H.residues i j l i_in j_in l_in));
        };
  }

  -- and of the order over the polynomials
  pub table_of_polynomials : SpanOrder k A Poly tuples
      → IsResidueTable k M Poly R.p q r N R.polynomials A tuples constants
  table_of_polynomials S = record {
    shape = H.shape;
    coordinate = H.coordinate;
    coordinates = H.coordinates;
    residues = λ i j l i_in j_in l_in.
        let e = (let C = H.coordinates in C.elements_of i j l) in
        let a = coordinates_allowed k M Poly R.p q r N R.polynomials A tuples S.basis
        (products_inside k M Poly R.p q r N R.polynomials A tuples S.basis (let O = S.order in O.mul_in))
        H.coordinate H.coordinates i j l i_in j_in l_in in
        record {
          elem = e;
          allowed = a;
          residue = (let V = R.polynomial_values in
              V.value (H.coordinate i j l, e) _ a (H.residues i j l i_in j_in l_in));
        };
  }

  -- so they are those of an associative algebra with one
  pub laws_of_residues : IsOver k A → IsAssociative k A → SpanOrder k A AtPlace tuples
      → (let C : Structure (List E) = record { dim = A.dim; constants = constants } in
      IsAssociative r C × HasIdentity r C)
  laws_of_residues over assoc S =
      residue_tables_are_algebras k M AtPlace R.p q r N R.at_place A over assoc S.one S.is_one tuples S.basis S.order
      constants (table_at_place S)
