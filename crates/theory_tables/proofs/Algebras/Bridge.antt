-- From lists to the tuples of theory_spaces: items of combinations and of products, rows of a matrix as vectors, spans
-- and independent rows; the algebra of a table, with its trace, ideals and centre.
use Rattle.std.specs.Prelude.{◌≡◌, ℕ, ◌+◌, ◌*◌, ◌<◌, List, [], length, get_or, cond, nat_eq}
use Rattle.std.specs.List.{All}
use Rattle.std.proofs.Common.{refl, sym, ◌∙◌, ap, subst, inl, inr, ⊎_elim}
use Rattle.theory_rings.specs.Ring.{RingOn, FieldOn}
use Rattle.theory_rings.specs.Ops.{Ops, IsElem, FieldLaws}
use Rattle.theory_rings.specs.Elements.{Elem, Elem-path, elements}
use Rattle.theory_rings.specs.Sum.{sum, sum_of, table, at}
use Rattle.theory_rings.proofs.Sums.Sums.{sum_congr}
use Rattle.theory_rings.proofs.Rings.Elements.{at-elem, sum_of-elem, sum_of-elements, sum_of_congr}
use Rattle.theory_spaces.specs.Module.{ModuleOn, AlgebraOn, module_of}
use Rattle.theory_spaces.specs.Matrix.{delta}
use Rattle.theory_spaces.specs.Linear.{comb, InSpan, Independent, Basis, IsLinear}
use Rattle.theory_spaces.specs.Algebra.{trace, IdealSpan, Central, CentralSimple}
use Rattle.theory_spaces.proofs.Algebras.Ideals.{span_ideal}
use Rattle.theory_spaces.proofs.Linear.Modules.{map-comb, InSpan-comb}
use Rattle.theory_spaces.proofs.Tuples.TupleProducts.{tuple_algebra, tuple_algebra_is, one-product, product-one}
use Rattle.theory_spaces.proofs.Tuples.TupleProducts.{product_comm_of_basis}
use Rattle.theory_spaces.specs.Space.{SpaceOn, sum2}
use Rattle.theory_spaces.specs.Tuples.{IsTuple, Tuple, tuple_scale, basis, constant, product}
use Rattle.theory_spaces.specs.Tuples.{IsTableAlgebra}
use Rattle.theory_spaces.proofs.Tuples.Tables.{coord-sum, coord-unit, space_basis, space_basis-coord}
use Rattle.theory_spaces.proofs.Tuples.Tuples.{at-table, IsTuple-is_tuple, is_tuple-IsTuple, IsTuple-table, IsTuple-ext}
use Rattle.theory_spaces.proofs.Tuples.Tuples.{Tuple-path, make, tuples, tuple_space, tuples-zero, unit-basis}
use Rattle.theory_tables.specs.Matrix.{entry, IsMatrix}
use Rattle.theory_tables.specs.Subspace as rows_of
use Rattle.theory_tables.specs.Subspace.{Combinations}
use Rattle.theory_tables.specs.Structure.{Structure, IsAssociative}
use Rattle.theory_tables.proofs.Rows.Terms.{cond_either}
use Rattle.theory_tables.proofs.Rows.Sums.{entry-elem, mul-sum_of, sum_of-delta_mul}
use Rattle.theory_tables.proofs.Rows.Spans.{InSpan-by, InSpan-member}
use Rattle.theory_tables.specs.Algebras.{IsIdentity, IsCentral, HasSmallCentre, SpansIdeal, IsCentralSimple}
use Rattle.theory_tables.specs.Traces.{trace as list_trace}

module _ {E : Type 0} (o : Ops E) (L : FieldLaws o) where
  abbrev K : FieldOn (Elem o)
  K = elements o L

  -- a sum of sums
  pub sum2_of-elements : (n : ℕ) (f : ℕ → ℕ → Elem o)
      → sum_of o n (λ i. sum_of o n (λ j. (f i j).0)) ≡ (sum2 K.ring n f).0
  sum2_of-elements n f =
      sum_of_congr o n (λ i. sum_of o n (λ j. (f i j).0)) (λ i. (sum K.monoid n (f i)).0)
      (λ i _. sum_of-elements o L n (f i))
      ∙ sum_of-elements o L n (λ i. sum K.monoid n (f i))

  module _ (m : ℕ) where
    abbrev M : ModuleOn K.ring (Tuple o m)
    M = tuples o L m

    abbrev S : SpaceOn M m
    S = tuple_space o L m

    -- a list that is a tuple, as one
    abbrev pub as_tuple : (a : List E) → IsTuple o m a → Tuple o m
    as_tuple a h = (a, IsTuple-is_tuple o m a h)

    pub IsTuple-of : (x : Tuple o m) → IsTuple o m x.0
    IsTuple-of x = is_tuple-IsTuple o m x.0 x.1

    -- the items of a combination
    pub comb-at : (n : ℕ) (c : ℕ → Elem o) (v : ℕ → Tuple o m) (j : ℕ) → j < m
        → at o (comb M n c v).0 j ≡ sum_of o n (λ i. o.mul (c i).0 (at o (v i).0 j))
    unfolding tuple_space
    comb-at n c v j j_in =
        ap (λ (x : Elem o). x.0) (coord-sum M m S n (λ i. M.◌•◌ (c i) (v i)) j j_in
        ∙ sum_congr K.monoid n (λ i. S.coord (M.◌•◌ (c i) (v i)) j) (λ i. K.◌⊗◌ (c i) (S.coord (v i) j))
        (λ i _. S.coord-scale (c i) (v i) j j_in))
        ∙ sym (sum_of-elements o L n (λ i. K.◌⊗◌ (c i) (S.coord (v i) j)))

    pub zero-at : (j : ℕ) → j < m → at o M.zero.0 j ≡ o.zero
    zero-at j j_in = ap (λ xs. at o xs j) (tuples-zero o L m) ∙ at-table o m (λ _. o.zero) j j_in

    -- the items of a basis element
    pub basis-at : (i k : ℕ) → k < m → at o (basis o m i) k ≡ (delta K.ring k i).0
    unfolding tuple_space
    basis-at i k k_in = sym (ap (λ xs. at o xs k) (unit-basis o L m i))
        ∙ ap (λ (x : Elem o). x.0) (coord-unit M m S i k k_in)

    -- the rows of a matrix as vectors
    module _ (rows : List (List E)) (shape : IsMatrix o m rows) where
      pub row : ℕ → Tuple o m
      row i = make o L m (λ k. (entry o rows i k, entry-elem o L m rows shape i k))

      pub row-at : (i k : ℕ) → k < m → at o (row i).0 k ≡ entry o rows i k
      unfolding row
      row-at i k k_in = at-table o m (λ k. entry o rows i k) k k_in

      pub row-is : (i : ℕ) → i < length rows → (row i).0 ≡ get_or rows i []
      row-is i i_in = IsTuple-ext o m (row i).0 (get_or rows i []) (IsTuple-of (row i)) (shape i [] i_in)
          (λ k k_in. row-at i k k_in)

      row-sum : (c : ℕ → Elem o) (j : ℕ) → j < m
          → at o (comb M (length rows) c row).0 j ≡ sum_of o (length rows) (λ i. o.mul (c i).0 (entry o rows i j))
      row-sum c j j_in = comb-at (length rows) c row j j_in
          ∙ sum_of_congr o (length rows) (λ i. o.mul (c i).0 (at o (row i).0 j))
          (λ i. o.mul (c i).0 (entry o rows i j)) (λ i _. ap (o.mul (c i).0) (row-at i j j_in))

      -- a combination of the rows is one of the vectors, and the other way round
      pub to_span : (x : Tuple o m) → rows_of.InSpan o m rows x.0 → InSpan M (length rows) row x
      to_span x h =
          let c : ℕ → Elem o = λ i. (at o h.0 i, at-elem o L h.0 h.1.of_elements i) in
          let y = comb M (length rows) c row in
          record {
            weights = c;
            combines = Tuple-path o L m x y
                (IsTuple-ext o m x.0 y.0 (IsTuple-of x) (IsTuple-of y) (λ j j_in. h.2 j j_in ∙ sym (row-sum c j j_in)));
          }

      pub from_span : (x : Tuple o m) → InSpan M (length rows) row x → rows_of.InSpan o m rows x.0
      from_span x h = InSpan-by o L m rows x.0 (λ i. (h.weights i).0) (λ i. (h.weights i).1)
          (λ j j_in. ap (λ (y : Tuple o m). at o y.0 j) h.combines ∙ row-sum h.weights j j_in)

      pub to_independent : rows_of.AreIndependent o m rows → Independent M (length rows) row
      to_independent h = record {
        only_zero = λ c e i i_in.
            let w : ℕ → E = λ i. (c i).0 in
            let n = length rows in
            Elem-path o (c i) K.zero (sym (at-table o n w i i_in)
            ∙ h (table n w) (IsTuple-table o n w (λ k _. (c k).1)) (λ j j_in.
            sum_of_congr o n (λ i. o.mul (at o (table n w) i) (entry o rows i j))
            (λ i. o.mul (w i) (entry o rows i j))
            (λ i i_in. ap (λ x. o.mul x (entry o rows i j)) (at-table o n w i i_in))
            ∙ sym (row-sum c j j_in) ∙ ap (λ (y : Tuple o m). at o y.0 j) e ∙ zero-at j j_in) i i_in);
      }

      pub from_independent : Independent M (length rows) row → rows_of.AreIndependent o m rows
      from_independent h c c_tuple e i i_in =
          let w : ℕ → Elem o = λ i. (at o c i, at-elem o L c c_tuple.of_elements i) in
          let x = comb M (length rows) w row in
          ap (λ (y : Elem o). y.0) (h.only_zero w (Tuple-path o L m x M.zero
          (IsTuple-ext o m x.0 M.zero.0 (IsTuple-of x) (IsTuple-of M.zero)
          (λ j j_in. row-sum w j j_in ∙ e j j_in ∙ sym (zero-at j j_in)))) i i_in)

    -- the items of the products with a basis element
    module _ (cs : List E) (constants : All (IsElem o) cs) where
      constant-elem : (i j k : ℕ) → IsElem o (constant o m cs i j k)
      constant-elem i j k = at-elem o L cs constants ((i * m + j) * m + k)

      swap_factors : (x d y : E) → IsElem o x → IsElem o d → IsElem o y → o.mul (o.mul x d) y ≡ o.mul d (o.mul x y)
      swap_factors x d y hx hd hy = ap (λ z. o.mul z y) (L.mul_comm x d hx hd) ∙ L.mul_assoc d x y hd hx hy

      unit-elem : (k i : ℕ) → IsElem o (cond (nat_eq k i) o.one o.zero)
      unit-elem k i = cond_either (IsElem o) (nat_eq k i) o.one o.zero L.one-elem L.zero-elem

      pub product_basis-at : (a : List E) → IsTuple o m a → (j k : ℕ) → j < m → k < m
          → at o (product o m cs a (basis o m j)) k ≡ sum_of o m (λ i. o.mul (at o a i) (constant o m cs i j k))
      product_basis-at a ha j k j_in k_in =
          let a_in = at-elem o L a ha.of_elements in
          let b = basis o m j in
          at-table o m (λ k. sum_of o m
          (λ i. sum_of o m (λ s. o.mul (o.mul (at o a i) (at o b s)) (constant o m cs i s k)))) k k_in
          ∙ sum_of_congr o m (λ i. sum_of o m (λ s. o.mul (o.mul (at o a i) (at o b s)) (constant o m cs i s k)))
          (λ i. o.mul (at o a i) (constant o m cs i j k)) (λ i _.
          sum_of_congr o m (λ s. o.mul (o.mul (at o a i) (at o b s)) (constant o m cs i s k))
          (λ s. o.mul (cond (nat_eq s j) o.one o.zero) (o.mul (at o a i) (constant o m cs i s k))) (λ s s_in.
          ap (λ d. o.mul (o.mul (at o a i) d) (constant o m cs i s k))
          (at-table o m (λ k. cond (nat_eq k j) o.one o.zero) s s_in)
          ∙ swap_factors (at o a i) (cond (nat_eq s j) o.one o.zero) (constant o m cs i s k) (a_in i) (unit-elem s j)
          (constant-elem i s k))
          ∙ sum_of-delta_mul o L m j (λ s. o.mul (at o a i) (constant o m cs i s k))
          (λ s. L.mul-elem (at o a i) (constant o m cs i s k) (a_in i) (constant-elem i s k)) j_in)

      pub basis_product-at : (a : List E) → IsTuple o m a → (i k : ℕ) → i < m → k < m
          → at o (product o m cs (basis o m i) a) k ≡ sum_of o m (λ j. o.mul (at o a j) (constant o m cs i j k))
      basis_product-at a ha i k i_in k_in =
          let a_in = at-elem o L a ha.of_elements in
          let b = basis o m i in
          let rest : ℕ → E = λ s. sum_of o m (λ j. o.mul (at o a j) (constant o m cs s j k)) in
          at-table o m (λ k. sum_of o m
          (λ s. sum_of o m (λ j. o.mul (o.mul (at o b s) (at o a j)) (constant o m cs s j k)))) k k_in
          ∙ sum_of_congr o m (λ s. sum_of o m (λ j. o.mul (o.mul (at o b s) (at o a j)) (constant o m cs s j k)))
          (λ s. o.mul (cond (nat_eq s i) o.one o.zero) (rest s)) (λ s s_in.
          let d = cond (nat_eq s i) o.one o.zero in
          sum_of_congr o m (λ j. o.mul (o.mul (at o b s) (at o a j)) (constant o m cs s j k))
          (λ j. o.mul d (o.mul (at o a j) (constant o m cs s j k))) (λ j _.
          ap (λ x. o.mul (o.mul x (at o a j)) (constant o m cs s j k))
          (at-table o m (λ k. cond (nat_eq k i) o.one o.zero) s s_in)
          ∙ L.mul_assoc d (at o a j) (constant o m cs s j k) (unit-elem s i) (a_in j) (constant-elem s j k))
          ∙ sym (mul-sum_of o L m d (λ j. o.mul (at o a j) (constant o m cs s j k)) (unit-elem s i)
          (λ j. L.mul-elem (at o a j) (constant o m cs s j k) (a_in j) (constant-elem s j k))))
          ∙ sum_of-delta_mul o L m i rest
          (λ s. sum_of-elem o L m (λ j. o.mul (at o a j) (constant o m cs s j k))
          (λ j _. L.mul-elem (at o a j) (constant o m cs s j k) (a_in j) (constant-elem s j k))) i_in

-- a linear map that takes the vectors v into a span takes their span there
pub map_span : {K V W : Type 0} {R : RingOn K} (M : ModuleOn R V) (N : ModuleOn R W) (f : V → W) → IsLinear M N f
    → (n : ℕ) (v : ℕ → V) (x : V) → InSpan M n v x
    → (k : ℕ) (w : ℕ → W) → ((i : ℕ) → i < n → InSpan N k w (f (v i))) → InSpan N k w (f x)
map_span M N f h n v x s k w each =
    let P = InSpan N k w in
    subst P (sym (ap f s.combines ∙ map-comb M N f h n s.weights v)) (InSpan-comb N n k s.weights (λ i. f (v i)) w each)

-- the algebra of an associative table with an identity
module _ {E : Type 0} (o : Ops E) (L : FieldLaws o) (T : Structure E) (constants : All (IsElem o) T.constants)
    (assoc : IsAssociative o T)
    (one : List E) (is_one : IsIdentity o T one) where
  abbrev m : ℕ
  m = T.dim

  abbrev cs : List E
  cs = T.constants

  abbrev pub algebra : AlgebraOn (elements o L).ring (Tuple o m)
  algebra = tuple_algebra o L m cs constants one is_one assoc

  pub algebra_is : IsTableAlgebra o L m cs algebra
  algebra_is = tuple_algebra_is o L m cs constants one is_one assoc

  pub one-is : algebra.one.0 ≡ one
  unfolding tuple_algebra
  one-is = refl

  -- the basis elements, and the items of a tuple as its coordinates
  unfoldable pub table_basis : Basis (module_of algebra) m
  unfolding tuple_algebra
  table_basis = space_basis (tuples o L m) m (tuple_space o L m)

  pub vec-is : (j : ℕ) → (table_basis.vec j).0 ≡ basis o m j
  unfolding table_basis tuple_algebra
  vec-is j = unit-basis o L m j

  pub coord-is : (x : Tuple o m) (j : ℕ) → j < m → (table_basis.coord x j).0 ≡ at o x.0 j
  unfolding table_basis tuple_algebra tuple_space
  coord-is x j j_in = ap (λ (c : Elem o). c.0) (space_basis-coord (tuples o L m) m (tuple_space o L m) x j j_in)

  -- the trace by the basis
  pub trace-is : (x : Tuple o m) → (trace algebra m table_basis x).0 ≡ list_trace o T x.0
  trace-is x =
      sym (sum_of-elements o L m (λ j. table_basis.coord (algebra.◌⊗◌ x (table_basis.vec j)) j))
      ∙ sum_of_congr o m (λ j. (table_basis.coord (algebra.◌⊗◌ x (table_basis.vec j)) j).0)
      (λ j. at o (product o m cs x.0 (basis o m j)) j) (λ j j_in.
      coord-is (algebra.◌⊗◌ x (table_basis.vec j)) j j_in
      ∙ ap (λ xs. at o xs j) (algebra_is.product-is x (table_basis.vec j) ∙ ap (product o m cs x.0) (vec-is j)))

  -- rows that span an ideal
  module _ (rows : List (List E)) (ideal : SpansIdeal o T rows) where
    abbrev pub ideal_row : ℕ → Tuple o m
    ideal_row = row o L m rows ideal.shape

    row_span : (x : Tuple o m) (y : List E) → x.0 ≡ y → rows_of.InSpan o m rows y
        → InSpan (module_of algebra) (length rows) ideal_row x
    unfolding tuple_algebra
    row_span x y e h = to_span o L m rows ideal.shape x
        (let P : List E → Type 0 = rows_of.InSpan o m rows in subst P (sym e) h)

    pub to_ideal : IdealSpan algebra (length rows) ideal_row
    to_ideal = span_ideal algebra (length rows) ideal_row
        (λ i i_in x. row_span (algebra.◌⊗◌ x (ideal_row i)) (product o m cs x.0 (ideal_row i).0)
        (algebra_is.product-is x (ideal_row i))
        (ideal.ideal.left x.0 (ideal_row i).0 (IsTuple-of o L m x) (member i i_in)).1)
        (λ i i_in x. row_span (algebra.◌⊗◌ (ideal_row i) x) (product o m cs (ideal_row i).0 x.0)
        (algebra_is.product-is (ideal_row i) x)
        (ideal.ideal.right x.0 (ideal_row i).0 (IsTuple-of o L m x) (member i i_in)).1)
      where
        member : (i : ℕ) → i < length rows → Combinations o m rows (ideal_row i).0
        member i i_in =
            let P : List E → Type 0 = rows_of.InSpan o m rows in (
              IsTuple-of o L m (ideal_row i),
              subst P (sym (row-is o L m rows ideal.shape i i_in)) (InSpan-member o L m rows ideal.shape i i_in),
            )

    pub list_span : (x : Tuple o m) → InSpan (module_of algebra) (length rows) ideal_row x → rows_of.InSpan o m rows x.0
    unfolding tuple_algebra
    list_span x h = from_span o L m rows ideal.shape x h

  -- there is one identity
  one_unique : (e : List E) → IsIdentity o T e → e ≡ one
  one_unique e h = sym (one-product o L m cs constants one is_one e h.tuple)
      ∙ product-one o L m cs constants e h one is_one.tuple

  multiple-is : (c : Elem o) → (algebra.◌•◌ c algebra.one).0 ≡ tuple_scale o m c.0 one
  multiple-is c = algebra_is.scale-is c algebra.one ∙ ap (tuple_scale o m c.0) one-is

  -- the multiples of one and the central elements
  pub to_is_central : (x : Tuple o m) → ((y : Tuple o m) → algebra.◌⊗◌ x y ≡ algebra.◌⊗◌ y x) → IsCentral o T x.0
  to_is_central x comm = record {
    tuple = IsTuple-of o L m x;
    commutes = λ i _.
        let b = table_basis.vec i in
        sym (algebra_is.product-is x b ∙ ap (product o m cs x.0) (vec-is i)) ∙ ap (λ (z : Tuple o m). z.0) (comm b)
        ∙ algebra_is.product-is b x ∙ ap (λ xs. product o m cs xs x.0) (vec-is i);
  }

  pub to_central : HasSmallCentre o T → Central algebra
  to_central h = record {
    multiple = λ x comm.
        let q = h.multiple x.0 (to_is_central x comm) in
        let c : Elem o = (q.factor, q.of_field) in (
          c,
          Tuple-path o L m x (algebra.◌•◌ c algebra.one)
              (q.is_multiple ∙ ap (tuple_scale o m q.factor) (one_unique h.one h.is_one) ∙ sym (multiple-is c)),
        );
  }

  pub from_central : Central algebra → HasSmallCentre o T
  from_central h = record {
    one = one;
    is_one = is_one;
    multiple = λ a c.
        let x = as_tuple o L m a c.tuple in
        let q = h.multiple x (λ y. Tuple-path o L m (algebra.◌⊗◌ x y) (algebra.◌⊗◌ y x)
        (algebra_is.product-is x y
        ∙ product_comm_of_basis o L m cs constants a c.tuple c.commutes y.0 (IsTuple-of o L m y)
        ∙ sym (algebra_is.product-is y x))) in
        record {
          factor = q.0.0;
          of_field = q.0.1;
          is_multiple = ap (λ (z : Tuple o m). z.0) q.1 ∙ multiple-is q.0;
        };
  }

  -- the table of a central simple algebra is that of one
  pub from_central_simple : CentralSimple algebra → IsCentralSimple o T
  from_central_simple h = record {
    associative = assoc;
    centre = from_central h.central;
    simple = λ rows ideal. ⊎_elim
        (λ (z : (i : ℕ) → i < length rows → ideal_row rows ideal i ≡ algebra.zero). inl (λ i i_in.
        sym (row-is o L m rows ideal.shape i i_in) ∙ ap (λ (x : Tuple o m). x.0) (z i i_in) ∙ algebra_is.zero-is))
        (λ (s : (x : Tuple o m) → InSpan (module_of algebra) (length rows) (ideal_row rows ideal) x). inr (λ v tuple.
        list_span rows ideal (as_tuple o L m v tuple) (s (as_tuple o L m v tuple))))
        (h.simple (length rows) (ideal_row rows ideal) (to_ideal rows ideal));
  }
