-- A lattice over a subring that holds its Gram matrix for the trace form is its own dual exactly where the subring
-- holds the inverse of that matrix; of a lattice that is closed under products it holds the Gram matrix.
use Rattle.std.specs.Prelude.{◌≡◌, ℕ, ◌<◌, List}
use Rattle.std.proofs.Common.{refl, sym, ◌∙◌, ap, ap₂, subst, arith}
use Rattle.theory_rings.specs.Ring.{FieldOn}
use Rattle.theory_rings.specs.Ops.{Ops, FieldLaws}
use Rattle.theory_rings.specs.Elements.{Elem, Elem-path, elements}
use Rattle.theory_rings.specs.Sum.{sum}
use Rattle.theory_rings.proofs.Rings.Elements.{sum_of-elements, sum_of_congr}
use Rattle.theory_rings.proofs.Rings.Solver.{◌⊠◌, ring3}
use Rattle.theory_rings.proofs.Sums.Sums.{sum_congr, sum_comm, mul-sum}
use Rattle.theory_spaces.specs.Matrix.{delta}
use Rattle.theory_spaces.specs.Module.{ModuleOn}
use Rattle.theory_spaces.specs.Linear.{comb, Basis}
use Rattle.theory_spaces.specs.Form.{IsBilinear}
use Rattle.theory_spaces.specs.Lattice.{IsSubring, LatticeOver}
use Rattle.theory_spaces.specs.Sets.{Within, Product}
use Rattle.theory_spaces.specs.Space.{ProductOn}
use Rattle.theory_spaces.specs.Tuples.{Tuple}
use Rattle.theory_spaces.proofs.Forms.Forms.{form-comb_left, form-comb_right}
use Rattle.theory_spaces.proofs.Linear.LatticeSpans.{sum_in, delta_in, span-member}
use Rattle.theory_spaces.proofs.Matrices.Matrices.{delta_comm, sum-mul_delta}
use Rattle.theory_spaces.proofs.Tuples.TupleProducts.{tuple_product}
use Rattle.theory_spaces.proofs.Tuples.Tuples.{tuples}
use Rattle.theory_tables.specs.Matrix.{entry}
use Rattle.theory_tables.specs.Structure.{Structure, IsOver, IsAssociative, tuple_ops}
use Rattle.theory_tables.proofs.Algebras.Bridge.{row, row-is, as_tuple, IsTuple-of}
use Rattle.theory_tables.proofs.Rows.Sums.{entry-elem}
use Rattle.theory_bases.specs.TupleLattices.{TupleLattice, AreIndependentTuples, IsTraceDualOfItself, trace_of_product}
use Rattle.theory_bases.specs.Grams.{gram_entry, IsInverseGram}
use Rattle.theory_bases.proofs.DualRows.{delta-value}
use Rattle.theory_bases.proofs.TraceForms.{form, form-is, form_bilinear, form_by_basis, form_symmetric}
use Rattle.theory_left_orders.proofs.CoordinateOrders.{inside, outside, weights_in, product-is}
use Rattle.theory_left_orders.proofs.TupleLattices.{rows_basis}

module _ {E : Type 0} (o : Ops E) (L : FieldLaws o) (P : E → Type 0)
    (subring : IsSubring (let K = elements o L in K.ring) (λ x. P x.0)) (A : Structure E) (over : IsOver o A)
    (assoc : IsAssociative o A) (rows : List (List E)) (free : AreIndependentTuples o A.dim rows) where
  infixl 70 ◌⊗◌
  abbrev K : FieldOn (Elem o)
  K = elements o L

  abbrev m : ℕ
  m = A.dim

  abbrev V : Type 0
  V = Tuple o m

  abbrev N : ModuleOn K.ring V
  N = tuples o L m

  abbrev times : ProductOn N
  times = tuple_product o L m A.constants over.of_elements

  open times use {◌⊗◌}

  abbrev B : Basis N m
  B = rows_basis o L m rows free

  abbrev v : ℕ → V
  v = row o L m rows free.shape

  abbrev In : V → Type 0
  In = LatticeOver N (λ c. P c.0) m v

  abbrev T : List E → Type 0
  T = TupleLattice o P m rows

  abbrev f : V → V → Elem o
  f = form o L A over.of_elements assoc

  bilinear : IsBilinear N f
  bilinear = form_bilinear o L A over.of_elements assoc

  to : (x : V) → T x.0 → In x
  to = inside o L P subring A over rows free

  from : (x : V) → In x → T x.0
  from = outside o L P subring A over rows free

  member : (i : ℕ) → i < m → In (v i)
  member i i_in = span-member K (λ c. P c.0) subring N m v i i_in

  gram-is : (i j : ℕ) → i < m → j < m → (f (v i) (v j)).0 ≡ gram_entry o A rows i j
  gram-is i j i_in j_in = form-is o L A over.of_elements assoc (v i) (v j)
      ∙ ap₂ (trace_of_product o A)
      (row-is o L m rows free.shape i (let e = free.count in omega (arith, i_in, e)))
      (row-is o L m rows free.shape j (let e = free.count in omega (arith, j_in, e)))

  -- ---- where the lattice is closed under products

  module _ (closed : Within (Product (tuple_ops o A) T T) T) where
    product_in : (x y : V) → In x → In y → In (x ⊗ y)
    product_in x y s t = to (x ⊗ y) (subst T (sym (product-is o L P subring A over rows free x y))
        (closed (let S = tuple_ops o A in S.mul x.0 y.0) (x.0, y.0, from x s, from y t, refl)))

    form_in : (x y : V) → In x → In y → P (f x y).0
    form_in x y s t =
        let g : V → V = λ z. x ⊗ y ⊗ z in
        let Q : Elem o → Type 0 = λ c. P c.0 in
        subst Q (sym (form_by_basis o L A over.of_elements assoc B x y))
        (sum_in K (λ c. P c.0) subring m (λ j. B.coord (g (v j)) j) (λ j j_in.
        let h = product_in (x ⊗ y) (v j) (product_in x y s t) (member j j_in) in
        weights_in o L P subring A over rows free (g (v j)) (B.coord (g (v j))) (B.expand (g (v j))) h j j_in))

    pub gram_in : (i j : ℕ) → i < m → j < m → P (gram_entry o A rows i j)
    gram_in i j i_in j_in = subst P (gram-is i j i_in j_in) (form_in (v i) (v j) (member i i_in) (member j j_in))

  -- ---- by an inverse

  module _ (inverse : List (List E)) (I : IsInverseGram o A rows inverse) where
    n : ℕ → ℕ → Elem o
    n i k = (entry o inverse i k, entry-elem o L m inverse I.shape i k)

    inverts : (i j : ℕ) → i < m → j < m
        → sum K.monoid m (λ k. K.◌⊗◌ (n i k) (f (v k) (v j))) ≡ delta K.ring i j
    unfolding n
    inverts i j i_in j_in =
        Elem-path o (sum K.monoid m (λ k. K.◌⊗◌ (n i k) (f (v k) (v j)))) (delta K.ring i j)
        (sym (sum_of-elements o L m (λ k. K.◌⊗◌ (n i k) (f (v k) (v j))))
        ∙ sum_of_congr o m (λ k. o.mul (entry o inverse i k) (f (v k) (v j)).0)
        (λ k. o.mul (entry o inverse i k) (gram_entry o A rows k j))
        (λ k k_in. ap (o.mul (entry o inverse i k)) (gram-is k j k_in j_in))
        ∙ I.inverts i j i_in j_in ∙ sym (delta-value o L j i) ∙ ap (λ (c : Elem o). c.0) (delta_comm K.ring j i))

    -- the coordinates of a vector, by its values with the tuples
    recovered : (x : V) (i : ℕ) → i < m → sum K.monoid m (λ j. K.◌⊗◌ (n i j) (f (v j) x)) ≡ B.coord x i
    recovered x i i_in =
        let c = B.coord x in
        sum_congr K.monoid m (λ j. K.◌⊗◌ (n i j) (f (v j) x))
        (λ j. sum K.monoid m (λ l. K.◌⊗◌ (c l) (K.◌⊗◌ (n i j) (f (v j) (v l)))))
        (λ j _. ap (λ y. K.◌⊗◌ (n i j) (f (v j) y)) (B.expand x)
        ∙ ap (K.◌⊗◌ (n i j)) (form-comb_right K.cring N f bilinear m c v (v j))
        ∙ mul-sum K.ring m (n i j) (λ l. K.◌⊗◌ (c l) (f (v j) (v l)))
        ∙ sum_congr K.monoid m (λ l. K.◌⊗◌ (n i j) (K.◌⊗◌ (c l) (f (v j) (v l))))
        (λ l. K.◌⊗◌ (c l) (K.◌⊗◌ (n i j) (f (v j) (v l))))
        (λ l _. ring3 K.cring (λ n c g. (n ⊠ (c ⊠ g), c ⊠ (n ⊠ g))) refl (n i j) (c l) (f (v j) (v l))))
        ∙ sum_comm K.monoid m m (λ j l. K.◌⊗◌ (c l) (K.◌⊗◌ (n i j) (f (v j) (v l))))
        ∙ sum_congr K.monoid m (λ l. sum K.monoid m (λ j. K.◌⊗◌ (c l) (K.◌⊗◌ (n i j) (f (v j) (v l)))))
        (λ l. K.◌⊗◌ (c l) (delta K.ring l i)) (λ l l_in.
        sym (mul-sum K.ring m (c l) (λ j. K.◌⊗◌ (n i j) (f (v j) (v l))))
        ∙ ap (K.◌⊗◌ (c l)) (inverts i l i_in l_in ∙ delta_comm K.ring i l))
        ∙ sum-mul_delta K.ring m c i i_in

    pub own_dual_of_inverse : ((i j : ℕ) → i < m → j < m → P (gram_entry o A rows i j))
        → ((i j : ℕ) → i < m → j < m → P (entry o inverse i j)) → IsTraceDualOfItself o A P rows
    unfolding n
    own_dual_of_inverse gram_all inverse_all = record {
      into = λ x tx d.
          let X = as_tuple o L m x tx in
          let Q : Elem o → Type 0 = λ c. P c.0 in
          from X (record {
            weights = B.coord X;
            passes = λ i i_in. subst Q (recovered X i i_in)
                (sum_in K Q subring m (λ j. K.◌⊗◌ (n i j) (f (v j) X)) (λ j j_in.
                subring.mul_in (n i j) (f (v j) X) (inverse_all i j i_in j_in)
                (subst P (sym (form-is o L A over.of_elements assoc (v j) X))
                (d (v j).0 (from (v j) (member j j_in))))));
            combines = B.expand X;
          });
      back = λ x hx y hy.
          let X = as_tuple o L m x hx.0 in
          let Y = as_tuple o L m y hy.0 in
          let a = to X hx in
          let b = to Y hy in
          let Q : Elem o → Type 0 = λ c. P c.0 in
          subst P (form-is o L A over.of_elements assoc Y X)
          (subst Q (sym (ap (λ z. f z X) b.combines ∙ form-comb_left K.cring N f bilinear m b.weights v X))
          (sum_in K Q subring m (λ i. K.◌⊗◌ (b.weights i) (f (v i) X)) (λ i i_in.
          subring.mul_in (b.weights i) (f (v i) X) (b.passes i i_in)
          (subst Q (sym (ap (f (v i)) a.combines ∙ form-comb_right K.cring N f bilinear m a.weights v (v i)))
          (sum_in K Q subring m (λ j. K.◌⊗◌ (a.weights j) (f (v i) (v j))) (λ j j_in.
          subring.mul_in (a.weights j) (f (v i) (v j)) (a.passes j j_in)
          (subst P (sym (gram-is i j i_in j_in)) (gram_all i j i_in j_in))))))));
    }

    pub inverse_of_own_dual : IsTraceDualOfItself o A P rows
        → (i j : ℕ) → i < m → j < m → P (entry o inverse i j)
    unfolding n
    inverse_of_own_dual h i j i_in j_in =
        let X = comb N m (n i) v in
        let Q : Elem o → Type 0 = λ c. P c.0 in
        weights_in o L P subring A over rows free X (n i) refl (to X (h.into X.0 (IsTuple-of o L m X) (λ y hy.
        let Y = as_tuple o L m y hy.0 in
        let b = to Y hy in
        subst P (form-is o L A over.of_elements assoc Y X)
        (subst Q (sym (form_symmetric o L A over.of_elements assoc Y X ∙ ap (f X) b.combines
        ∙ form-comb_right K.cring N f bilinear m b.weights v X))
        (sum_in K Q subring m (λ l. K.◌⊗◌ (b.weights l) (f X (v l))) (λ l l_in.
        subring.mul_in (b.weights l) (f X (v l)) (b.passes l l_in)
        (subst Q (sym (form-comb_left K.cring N f bilinear m (n i) v (v l) ∙ inverts i l i_in l_in))
        (delta_in K Q subring i l)))))))) j j_in
