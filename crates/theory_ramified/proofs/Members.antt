-- Lattices of tuples over a subring, by the members that span them: inclusions, products and multiples.
use Rattle.std.specs.Prelude.{◌≡◌, ◌<◌, ℕ, List, [], get_or}
use Rattle.std.proofs.Common.{sym, ◌∙◌, ap, ap₂, subst, arith}
use Rattle.theory_rings.specs.Ring.{FieldOn}
use Rattle.theory_rings.specs.Ops.{Ops, FieldLaws}
use Rattle.theory_rings.specs.Elements.{Elem, elements}
use Rattle.theory_spaces.specs.Module.{ModuleOn}
use Rattle.theory_spaces.specs.Lattice.{IsSubring, LatticeOver}
use Rattle.theory_spaces.specs.Sets.{Within, Multiple}
use Rattle.theory_spaces.specs.Space.{ProductOn}
use Rattle.theory_spaces.specs.Tuples.{Tuple, tuple_scale}
use Rattle.theory_spaces.proofs.Linear.LatticeSpans.{span-comb, span-member}
use Rattle.theory_spaces.proofs.Linear.Modules.{map-comb}
use Rattle.theory_spaces.proofs.Tuples.TupleProducts.{tuple_product, tuple_product-list}
use Rattle.theory_spaces.proofs.Tuples.Tuples.{tuples, tuples-scale}
use Rattle.theory_tables.specs.Structure.{Structure, IsOver, product_of, tuple_ops}
use Rattle.theory_tables.proofs.Algebras.Bridge.{row, row-is, as_tuple}
use Rattle.theory_bases.specs.TupleLattices.{TupleLattice, AreIndependentTuples}
use Rattle.theory_left_orders.proofs.CoordinateOrders as coordinates
use Rattle.theory_left_orders.proofs.ProductLattices.{products_in}

module _ {E : Type 0} (o : Ops E) (L : FieldLaws o) (P : E → Type 0)
    (subring : IsSubring (let K = elements o L in K.ring) (λ x. P x.0)) (A : Structure E) (over : IsOver o A) where
  infixl 70 ◌⊗◌
  abbrev K : FieldOn (Elem o)
  K = elements o L

  abbrev m : ℕ
  m = A.dim

  abbrev V : Type 0
  V = Tuple o m

  abbrev N : ModuleOn K.ring V
  N = tuples o L m

  abbrev times : ProductOn N
  times = tuple_product o L m A.constants over.of_elements

  open times use {◌⊗◌}

  abbrev In : (ℕ → V) → V → Type 0
  In v = LatticeOver N (λ c. P c.0) m v

  -- the members that span a lattice
  module _ (rows : List (List E)) (free : AreIndependentTuples o m rows) where
    abbrev v : ℕ → V
    v = row o L m rows free.shape

    abbrev T : List E → Type 0
    T = TupleLattice o P m rows

    to : (x : V) → T x.0 → In v x
    to = coordinates.inside o L P subring A over rows free

    from : (x : V) → In v x → T x.0
    from = coordinates.outside o L P subring A over rows free

    item : (i : ℕ) → i < m → (v i).0 ≡ get_or rows i []
    item i l = row-is o L m rows free.shape i (let e = free.count in omega (arith, l, e))

    pub member : (i : ℕ) → i < m → T (get_or rows i [])
    member i l = subst T (item i l) (from (v i) (span-member K (λ c. P c.0) subring N m v i l))

  module _ (a c : List (List E)) (fa : AreIndependentTuples o m a) (fc : AreIndependentTuples o m c) where
    -- a lattice lies in another where the members that span it do
    pub within : ((i : ℕ) → i < m → T c fc (get_or a i [])) → Within (T a fa) (T c fc)
    within h x hx =
        let y = as_tuple o L m x hx.0 in
        let s = to a fa y hx in
        from c fc y (subst (In (v c fc)) (sym s.combines)
        (span-comb K (λ z. P z.0) subring N m (v c fc) m s.weights (v a fa) s.passes
        (λ i l. to c fc (v a fa i) (subst (T c fc) (sym (item a fa i l)) (h i l)))))

    -- so for its multiple
    pub within_multiple : (p : Elem o) → ((i : ℕ) → i < m → T c fc (tuple_scale o m p.0 (get_or a i [])))
        → Within (Multiple (tuple_ops o A) (tuple_scale o m) p.0 (T a fa)) (T c fc)
    within_multiple p h x hx =
        let y = as_tuple o L m hx.0 hx.1.0 in
        let s = to a fa y hx.1 in
        let z = N.◌•◌ p y in
        let e : z ≡ _ = ap (N.◌•◌ p) s.combines ∙ map-comb N N (N.◌•◌ p) (record {
          map-add = N.scale-add p;
          map-scale = λ d x. sym (N.mul-scale p d x) ∙ ap (λ t. N.◌•◌ t x) (K.mul_comm p d) ∙ N.mul-scale d p x;
        }) m s.weights (v a fa) in
        subst (T c fc) (tuples-scale o L m p y ∙ sym hx.2)
        (from c fc z (subst (In (v c fc)) (sym e)
        (span-comb K (λ z. P z.0) subring N m (v c fc) m s.weights (λ i. N.◌•◌ p (v a fa i)) s.passes
        (λ i l. to c fc (N.◌•◌ p (v a fa i)) (subst (T c fc)
        (sym (tuples-scale o L m p (v a fa i) ∙ ap (tuple_scale o m p.0) (item a fa i l))) (h i l))))))

    -- and for products with another
    module _ (b : List (List E)) (fb : AreIndependentTuples o m b)
        (h : (i j : ℕ) → i < m → j < m → T c fc (product_of o A (get_or a i []) (get_or b j []))) where
      product-is : (x y : V) → (x ⊗ y).0 ≡ product_of o A x.0 y.0
      product-is = tuple_product-list o L m A.constants over.of_elements

      abbrev w : ℕ → V
      w = v b fb

      abbrev u : ℕ → V
      u = v a fa

      each : (i j : ℕ) → i < m → j < m → In (v c fc) (u i ⊗ w j)
      each i j i_in j_in = to c fc (u i ⊗ w j) (subst (T c fc)
          (sym (product-is (u i) (w j) ∙ ap₂ (product_of o A) (item a fa i i_in) (item b fb j j_in))) (h i j i_in j_in))

      pub products_within : (x y : List E) → T a fa x → T b fb y → T c fc (product_of o A x y)
      products_within x y hx hy =
          let f = as_tuple o L m x hx.0 in
          let g = as_tuple o L m y hy.0 in
          subst (T c fc) (product-is f g) (from c fc (f ⊗ g)
          (products_in K (λ z. P z.0) subring N times m m m u w (v c fc) each f g (to a fa f hx)
          (to b fb g hy)))
