-- Independent tuples span an order over a subring exactly where the coordinates of their products, and those of an
-- identity, lie in the subring. The algebra need not be associative.
use Rattle.std.specs.Prelude.{◌≡◌, ℕ, ◌<◌, List, [], get_or, length}
use Rattle.std.proofs.Common.{refl, sym, ◌∙◌, ap, ap₂, subst, arith}
use Rattle.theory_rings.specs.Ring.{FieldOn}
use Rattle.theory_rings.specs.Ops.{Ops, IsElem, FieldLaws}
use Rattle.theory_rings.specs.Elements.{Elem, elements}
use Rattle.theory_rings.specs.Sum.{at, sum_of}
use Rattle.theory_spaces.specs.Module.{ModuleOn}
use Rattle.theory_spaces.specs.Linear.{comb}
use Rattle.theory_spaces.specs.Lattice.{IsSubring, LatticeOver}
use Rattle.theory_spaces.specs.Space.{ProductOn}
use Rattle.theory_spaces.specs.Tuples.{Tuple}
use Rattle.theory_spaces.proofs.Linear.LatticeSpans.{span-member}
use Rattle.theory_spaces.proofs.Tuples.TupleProducts.{tuple_product, tuple_product-list, one-product, product-one}
use Rattle.theory_spaces.proofs.Tuples.Tuples.{tuples}
use Rattle.theory_tables.specs.Matrix.{entry}
use Rattle.theory_tables.specs.Structure.{Structure, IsOver, product_of}
use Rattle.theory_tables.specs.Algebras.{IsIdentity}
use Rattle.theory_tables.proofs.Algebras.Bridge.{row, row-is, as_tuple}
use Rattle.theory_bases.specs.TupleLattices.{TupleLattice, AreIndependentTuples, SpanOrder}
use Rattle.theory_left_orders.specs.TupleResidues.{AreProductCoordinates}
use Rattle.theory_left_orders.proofs.TupleLattices.{to_lattice, from_lattice, is_comb, weights_allowed}
use Rattle.theory_left_orders.proofs.ProductLattices.{products_within, order_of_products}

module _ {E : Type 0} (o : Ops E) (L : FieldLaws o) (P : E → Type 0)
    (subring : IsSubring (let K = elements o L in K.ring) (λ x. P x.0)) (A : Structure E) (over : IsOver o A)
    (rows : List (List E)) (free : AreIndependentTuples o A.dim rows) where
  infixl 70 ◌⊗◌
  abbrev K : FieldOn (Elem o)
  K = elements o L

  abbrev m : ℕ
  m = A.dim

  abbrev V : Type 0
  V = Tuple o m

  abbrev N : ModuleOn K.ring V
  N = tuples o L m

  abbrev times : ProductOn N
  times = tuple_product o L m A.constants over.of_elements

  open times use {◌⊗◌}

  abbrev v : ℕ → V
  v = row o L m rows free.shape

  abbrev In : V → Type 0
  In = LatticeOver N (λ c. P c.0) m v

  abbrev T : List E → Type 0
  T = TupleLattice o P m rows

  pub inside : (x : V) → T x.0 → In x
  inside x h = let S : ℕ → Type 0 = λ n. LatticeOver N (λ c. P c.0) n v x in
      subst S free.count (to_lattice o L m rows free.shape P x h.1)

  pub outside : (x : V) → In x → T x.0
  outside x h = let S : ℕ → Type 0 = λ n. LatticeOver N (λ c. P c.0) n v x in
      from_lattice o L m rows free.shape P x (subst S (sym free.count) h)

  -- the weights of a member of the lattice are in the subring
  pub weights_in : (x : V) (c : ℕ → Elem o) → x ≡ comb N m c v → In x → (l : ℕ) → l < m → P (c l).0
  weights_in = weights_allowed o L m rows free P

  pub product-is : (x y : V) → (x ⊗ y).0 ≡ product_of o A x.0 y.0
  product-is = tuple_product-list o L m A.constants over.of_elements

  -- what combines to a tuple
  module _ (e : List E) (w : ℕ → E) (w-elem : (l : ℕ) → IsElem o (w l))
      (w-is : (t : ℕ) → t < m → at o e t ≡ sum_of o m (λ l. o.mul (w l) (entry o rows l t))) where
    pub combined : (x : V) → x.0 ≡ e → x ≡ comb N m (λ l. (w l, w-elem l)) v
    combined x p = is_comb o L m rows free.shape x m (λ l. (w l, w-elem l))
        (λ t t_in. ap (λ xs. at o xs t) p ∙ w-is t t_in)

  module _ (coordinate : ℕ → ℕ → ℕ → E) (C : AreProductCoordinates o A rows coordinate) where
    abbrev c : ℕ → ℕ → ℕ → Elem o
    c i j l = (coordinate i j l, C.elements_of i j l)

    vectors_product : (i j : ℕ) → i < m → j < m → v i ⊗ v j ≡ comb N m (c i j) v
    vectors_product i j i_in j_in =
        combined (product_of o A (get_or rows i []) (get_or rows j [])) (coordinate i j) (C.elements_of i j)
        (λ t t_in. C.products i j t i_in j_in t_in) (v i ⊗ v j)
        (product-is (v i) (v j) ∙ ap₂ (product_of o A)
        (row-is o L m rows free.shape i (let e = free.count in omega (arith, i_in, e)))
        (row-is o L m rows free.shape j (let e = free.count in omega (arith, j_in, e))))

    -- where the coordinates of the products are in the subring, the lattice is closed under products
    module _ (allowed : (i j l : ℕ) → i < m → j < m → l < m → P (coordinate i j l)) where
      vectors_in : (i j : ℕ) → i < m → j < m → In (v i ⊗ v j)
      vectors_in i j i_in j_in = record {
        weights = c i j;
        passes = λ l l_in. allowed i j l i_in j_in l_in;
        combines = vectors_product i j i_in j_in;
      }

      rows_in : (i j : ℕ) → i < length rows → j < length rows → T (product_of o A (get_or rows i []) (get_or rows j []))
      rows_in i j i_in j_in =
          let e = free.count in
          subst T (product-is (v i) (v j) ∙ ap₂ (product_of o A) (row-is o L m rows free.shape i i_in)
          (row-is o L m rows free.shape j j_in))
          (outside (v i ⊗ v j) (vectors_in i j (omega (arith, i_in, e)) (omega (arith, j_in, e))))

      module _ (one : List E) (is_one : IsIdentity o A one) (w : ℕ → E) (w-elem : (l : ℕ) → IsElem o (w l))
          (w-is : (t : ℕ) → t < m → at o one t ≡ sum_of o m (λ l. o.mul (w l) (entry o rows l t)))
          (w-in : (l : ℕ) → l < m → P (w l)) where
        pub order_of_coordinates : SpanOrder o A P rows
        order_of_coordinates =
            let u = as_tuple o L m one is_one.tuple in
            order_of_products o L P subring A over rows free one is_one
            (outside u (record {
              weights = λ l. (w l, w-elem l);
              passes = w-in;
              combines = combined one w w-elem w-is u refl;
            }))
            (products_within o L P subring A over rows rows rows free.shape free.shape free.shape rows_in)

  -- the other way round
  module _ (h : SpanOrder o A P rows) where
    pub product_coordinates_in : (coordinate : ℕ → ℕ → ℕ → E) → AreProductCoordinates o A rows coordinate
        → (i j l : ℕ) → i < m → j < m → l < m → P (coordinate i j l)
    product_coordinates_in coordinate C i j l i_in j_in l_in =
        weights_in (v i ⊗ v j) (c coordinate C i j) (vectors_product coordinate C i j i_in j_in)
        (inside (v i ⊗ v j) (subst T (sym (product-is (v i) (v j)))
        (h.order.mul_in (v i).0 (v j).0 (outside (v i) (span-member K (λ c. P c.0) subring N m v i i_in))
        (outside (v j) (span-member K (λ c. P c.0) subring N m v j j_in))))) l l_in

    -- all identities are the same
    pub identity_is : (one : List E) → IsIdentity o A one → one ≡ h.one
    identity_is one is_one =
        sym (product-one o L m A.constants over.of_elements h.one h.is_one one is_one.tuple)
        ∙ one-product o L m A.constants over.of_elements one is_one h.one h.is_one.tuple

    pub identity_coordinates_in : (one : List E) → IsIdentity o A one → (w : ℕ → E) (w-elem : (l : ℕ) → IsElem o (w l))
        → ((t : ℕ) → t < m → at o one t ≡ sum_of o m (λ l. o.mul (w l) (entry o rows l t)))
        → (l : ℕ) → l < m → P (w l)
    identity_coordinates_in one is_one w w-elem w-is l l_in =
        let u = as_tuple o L m one is_one.tuple in
        weights_in u (λ l. (w l, w-elem l)) (combined one w w-elem w-is u refl)
        (inside u (subst T (sym (identity_is one is_one)) h.order.one_in)) l l_in
