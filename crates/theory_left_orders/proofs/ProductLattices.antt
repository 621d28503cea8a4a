-- Products of lattices of tuples over a subring lie in a third lattice where the products of their rows do; orders by
-- such products. The algebra need not be associative.
use Rattle.std.specs.Prelude.{◌≡◌, ℕ, ◌<◌, List, [], get_or, length}
use Rattle.std.proofs.Common.{sym, ◌∙◌, ap, ap₂, subst}
use Rattle.theory_rings.specs.Ring.{FieldOn}
use Rattle.theory_rings.specs.Ops.{Ops, FieldLaws}
use Rattle.theory_rings.specs.Elements.{Elem, elements}
use Rattle.theory_spaces.specs.Module.{ModuleOn}
use Rattle.theory_spaces.specs.Lattice.{IsSubring, LatticeOver}
use Rattle.theory_spaces.specs.Space.{ProductOn}
use Rattle.theory_spaces.specs.Tuples.{Tuple}
use Rattle.theory_spaces.proofs.Linear.LatticeSpans.{span-zero, span-add, span-neg, span-member, span-comb}
use Rattle.theory_spaces.proofs.Linear.Modules.{map-comb}
use Rattle.theory_spaces.proofs.Tuples.TupleProducts.{tuple_product, tuple_product-list}
use Rattle.theory_spaces.proofs.Tuples.Tuples.{tuples, tuples-zero, tuples-add, tuples-neg}
use Rattle.theory_tables.specs.Matrix.{IsMatrix}
use Rattle.theory_tables.specs.Structure.{Structure, IsOver, product_of}
use Rattle.theory_tables.specs.Algebras.{IsIdentity}
use Rattle.theory_tables.proofs.Algebras.Bridge.{row, row-is, as_tuple}
use Rattle.theory_bases.specs.TupleLattices.{TupleLattice, AreIndependentTuples, SpanOrder}
use Rattle.theory_left_orders.proofs.TupleLattices.{to_lattice, from_lattice}

-- products of members of two lattices lie in a third where those of the vectors that span them do
pub products_in : {K V : Type 0} (F : FieldOn K) (P : K → Type 0) → IsSubring F.ring P → (M : ModuleOn F.ring V)
    (G : ProductOn M) (k l n : ℕ) (u w v : ℕ → V)
    → ((i j : ℕ) → i < k → j < l → LatticeOver M P n v (G.◌⊗◌ (u i) (w j)))
    → (x y : V) → LatticeOver M P k u x → LatticeOver M P l w y → LatticeOver M P n v (G.◌⊗◌ x y)
products_in F P subring M G k l n u w v each x y s t =
    let In = LatticeOver M P n v in
    subst In (sym (ap (λ z. G.◌⊗◌ z y) s.combines ∙ map-comb M M (λ z. G.◌⊗◌ z y)
    (record { map-add = λ a b. G.add-mul a b y; map-scale = λ a b. G.scale-left a b y }) k s.weights u))
    (span-comb F P subring M n v k s.weights (λ i. G.◌⊗◌ (u i) y) s.passes (λ i i_in.
    subst In (sym (ap (λ z. G.◌⊗◌ (u i) z) t.combines ∙ map-comb M M (λ z. G.◌⊗◌ (u i) z)
    (record { map-add = G.mul-add (u i); map-scale = λ a b. G.scale-right a (u i) b }) l t.weights w))
    (span-comb F P subring M n v l t.weights (λ j. G.◌⊗◌ (u i) (w j)) t.passes (λ j j_in. each i j i_in j_in))))

module _ {E : Type 0} (o : Ops E) (L : FieldLaws o) (P : E → Type 0)
    (subring : IsSubring (let K = elements o L in K.ring) (λ x. P x.0)) (A : Structure E) (over : IsOver o A) where
  infixl 70 ◌⊗◌
  abbrev K : FieldOn (Elem o)
  K = elements o L

  abbrev Q : Elem o → Type 0
  Q x = P x.0

  abbrev m : ℕ
  m = A.dim

  abbrev V : Type 0
  V = Tuple o m

  abbrev N : ModuleOn K.ring V
  N = tuples o L m

  abbrev times : ProductOn N
  times = tuple_product o L m A.constants over.of_elements

  open times use {◌⊗◌}

  product-is : (x y : V) → (x ⊗ y).0 ≡ product_of o A x.0 y.0
  product-is = tuple_product-list o L m A.constants over.of_elements

  abbrev T : List (List E) → List E → Type 0
  T = TupleLattice o P m

  -- the rows are in their lattice
  pub row_in_lattice : (rows : List (List E)) → IsMatrix o m rows → (i : ℕ) → i < length rows → T rows (get_or rows i [])
  row_in_lattice rows shape i l = subst (T rows) (row-is o L m rows shape i l)
      (from_lattice o L m rows shape P (row o L m rows shape i)
      (span-member K Q subring N (length rows) (row o L m rows shape) i l))

  module _ (left right inside : List (List E)) (hl : IsMatrix o m left) (hr : IsMatrix o m right)
      (hi : IsMatrix o m inside) where
    abbrev u : ℕ → V
    u = row o L m left hl

    abbrev w : ℕ → V
    w = row o L m right hr

    abbrev In : V → Type 0
    In = LatticeOver N Q (length inside) (row o L m inside hi)

    module _ (h : (i j : ℕ) → i < length left → j < length right
        → T inside (product_of o A (get_or left i []) (get_or right j []))) where
      rows_in : (i j : ℕ) → i < length left → j < length right → In (u i ⊗ w j)
      rows_in i j i_in j_in =
          let t : T inside (u i ⊗ w j).0 = subst (T inside) (sym (product-is (u i) (w j)
          ∙ ap₂ (product_of o A) (row-is o L m left hl i i_in) (row-is o L m right hr j j_in))) (h i j i_in j_in) in
          to_lattice o L m inside hi P (u i ⊗ w j) t.1

      pub products_within : (x y : List E) → T left x → T right y → T inside (product_of o A x y)
      products_within x y hx hy =
          let a = as_tuple o L m x hx.0 in
          let b = as_tuple o L m y hy.0 in
          subst (T inside) (product-is a b) (from_lattice o L m inside hi P (a ⊗ b)
          (products_in K Q subring N times (length left) (length right) (length inside) u w (row o L m inside hi) rows_in
          a b (to_lattice o L m left hl P a hx.1) (to_lattice o L m right hr P b hy.1)))

  -- ---- orders

  module _ (rows : List (List E)) (free : AreIndependentTuples o m rows) where
    abbrev n : ℕ
    n = length rows

    abbrev v : ℕ → V
    v = row o L m rows free.shape

    abbrev Lat : V → Type 0
    Lat = LatticeOver N Q n v

    abbrev up : (x : List E) → T rows x → V
    up x h = as_tuple o L m x h.0

    to : (x : List E) (h : T rows x) → Lat (up x h)
    to x h = to_lattice o L m rows free.shape P (up x h) h.1

    from : (x : V) → Lat x → T rows x.0
    from = from_lattice o L m rows free.shape P

    pub order_of_products : (one : List E) → IsIdentity o A one → T rows one
        → ((x y : List E) → T rows x → T rows y → T rows (product_of o A x y)) → SpanOrder o A P rows
    order_of_products one is_one one_in closed = record {
      basis = free;
      one = one;
      is_one = is_one;
      order = record {
        one_in = one_in;
        zero_in = subst (T rows) (tuples-zero o L m) (from N.zero (span-zero K Q subring N n v));
        add_in = λ x y hx hy. subst (T rows) (tuples-add o L m (up x hx) (up y hy))
            (from (N.◌⊕◌ (up x hx) (up y hy)) (span-add K Q subring N n v (up x hx) (up y hy) (to x hx) (to y hy)));
        neg_in = λ x hx. subst (T rows) (tuples-neg o L m (up x hx))
            (from (N.neg (up x hx)) (span-neg K Q subring N n v (up x hx) (to x hx)));
        mul_in = closed;
      };
    }
