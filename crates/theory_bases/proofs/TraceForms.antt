-- The trace form of an associative algebra by structure constants, which need not have an identity, as a bilinear form
-- on tuples.
use Rattle.std.specs.Prelude.{◌≡◌, ◌<◌, ℕ}
use Rattle.std.specs.List.{All}
use Rattle.std.proofs.Common.{sym, ◌∙◌, ap, ap₂}
use Rattle.theory_rings.specs.Ring.{FieldOn}
use Rattle.theory_rings.specs.Ops.{Ops, IsElem, FieldLaws}
use Rattle.theory_rings.specs.Elements.{Elem, elements}
use Rattle.theory_rings.specs.Sum.{at, sum}
use Rattle.theory_rings.proofs.Rings.Elements.{sum_of-elements, sum_of_congr}
use Rattle.theory_rings.proofs.Sums.Sums.{sum_congr, sum_comm, mul-sum, sum-mul}
use Rattle.theory_spaces.specs.Module.{ModuleOn}
use Rattle.theory_spaces.specs.Linear.{Basis, comb}
use Rattle.theory_spaces.specs.Algebra.{map_trace}
use Rattle.theory_spaces.specs.Form.{IsBilinear, IsNondegenerate}
use Rattle.theory_spaces.specs.Space.{ProductOn}
use Rattle.theory_spaces.specs.Tuples.{Tuple, basis, product}
use Rattle.theory_spaces.proofs.Forms.Forms.{form-comb_left, form-comb_right}
use Rattle.theory_spaces.proofs.Forms.ProductTraces.{product_trace, product_trace-add, product_trace-scale}
use Rattle.theory_spaces.proofs.Forms.ProductTraces.{product_trace_comm, by_left_linear}
use Rattle.theory_spaces.proofs.Linear.BasisChange.{map_trace_basis}
use Rattle.theory_spaces.proofs.Tuples.Tables.{space_basis, space_basis-coord}
use Rattle.theory_spaces.proofs.Tuples.Tuples.{Tuple-path, tuples, tuple_space, tuples-zero, unit-basis}
use Rattle.theory_spaces.proofs.Tuples.TupleProducts.{tuple_product, tuple_product-list, tuple_product_assoc}
use Rattle.theory_tables.specs.Matrix.{entry}
use Rattle.theory_tables.specs.Structure.{Structure, IsAssociative}
use Rattle.theory_tables.specs.Traces.{trace as list_trace, trace_matrix}
use Rattle.theory_tables.specs.Traces.{IsNondegenerate as IsNondegenerateTrace}
use Rattle.theory_tables.proofs.Algebras.Bridge.{as_tuple, IsTuple-of}
use Rattle.theory_tables.proofs.Rows.Sums.{entry_table}
use Rattle.theory_bases.specs.TupleLattices.{trace_of_product}

module _ {E : Type 0} (o : Ops E) (L : FieldLaws o) (A : Structure E) (constants : All (IsElem o) A.constants)
    (assoc : IsAssociative o A) where
  abbrev m : ℕ
  m = A.dim

  abbrev K : FieldOn (Elem o)
  K = elements o L

  abbrev M : ModuleOn K.ring (Tuple o m)
  M = tuples o L m

  P : ProductOn M
  P = tuple_product o L m A.constants constants

  abbrev pub units : Basis M m
  units = space_basis M m (tuple_space o L m)

  abbrev t : Tuple o m → Elem o
  t = product_trace K.cring M P m units

  pub unit-is : (j : ℕ) → (units.vec j).0 ≡ basis o m j
  unit-is j = unit-basis o L m j

  pub coord-is : (x : Tuple o m) (j : ℕ) → j < m → (units.coord x j).0 ≡ at o x.0 j
  unfolding tuple_space
  coord-is x j j_in = ap (λ (c : Elem o). c.0) (space_basis-coord M m (tuple_space o L m) x j j_in)

  product-is : (x y : Tuple o m) → (P.◌⊗◌ x y).0 ≡ product o m A.constants x.0 y.0
  unfolding P
  product-is = tuple_product-list o L m A.constants constants

  trace-is : (x : Tuple o m) → (t x).0 ≡ list_trace o A x.0
  trace-is x =
      sym (sum_of-elements o L m (λ j. units.coord (P.◌⊗◌ x (units.vec j)) j))
      ∙ sum_of_congr o m (λ j. (units.coord (P.◌⊗◌ x (units.vec j)) j).0)
      (λ j. at o (product o m A.constants x.0 (basis o m j)) j) (λ j j_in.
      coord-is (P.◌⊗◌ x (units.vec j)) j j_in ∙ ap (λ xs. at o xs j)
      (product-is x (units.vec j) ∙ ap (product o m A.constants x.0) (unit-is j)))

  -- the trace of the product
  pub form : Tuple o m → Tuple o m → Elem o
  form x y = t (P.◌⊗◌ x y)

  pub form-is : (x y : Tuple o m) → (form x y).0 ≡ trace_of_product o A x.0 y.0
  unfolding form
  form-is x y = trace-is (P.◌⊗◌ x y) ∙ ap (list_trace o A) (product-is x y)

  -- by any basis
  pub form_by_basis : (D : Basis M m) (x y : Tuple o m)
      → form x y ≡ map_trace M m D
      (λ z. (let T = tuple_product o L m A.constants constants in T.◌⊗◌ (T.◌⊗◌ x y) z))
  unfolding form P
  form_by_basis D x y = map_trace_basis K.cring M m m units D
      (λ z. (let T = tuple_product o L m A.constants constants in T.◌⊗◌ (T.◌⊗◌ x y) z))
      (by_left_linear K.cring M (tuple_product o L m A.constants constants) m units
      (let T = tuple_product o L m A.constants constants in T.◌⊗◌ x y))

  pub form_bilinear : IsBilinear M form
  unfolding form
  form_bilinear = record {
    add-left = λ x y z. ap t (P.add-mul x y z) ∙ product_trace-add K.cring M P m units (P.◌⊗◌ x z) (P.◌⊗◌ y z);
    add-right = λ x y z. ap t (P.mul-add x y z) ∙ product_trace-add K.cring M P m units (P.◌⊗◌ x y) (P.◌⊗◌ x z);
    scale-left = λ c x y. ap t (P.scale-left c x y) ∙ product_trace-scale K.cring M P m units c (P.◌⊗◌ x y);
    scale-right = λ c x y. ap t (P.scale-right c x y) ∙ product_trace-scale K.cring M P m units c (P.◌⊗◌ x y);
  }

  pub form_symmetric : (x y : Tuple o m) → form x y ≡ form y x
  unfolding form P
  form_symmetric x y =
      product_trace_comm K.cring M P m units (tuple_product_assoc o L m A.constants constants assoc) x y

  pub form_nondegenerate : IsNondegenerateTrace o A → IsNondegenerate M form
  form_nondegenerate h = record {
    only_zero = λ x r. Tuple-path o L m x M.zero (h x.0 (record {
      tuple = IsTuple-of o L m x;
      orthogonal = λ b hb.
          let y = as_tuple o L m b hb in
          sym (form-is x y) ∙ ap (λ (c : Elem o). c.0) (r y);
    }) ∙ sym (tuples-zero o L m));
  }

  -- ---- by the matrix of the form

  abbrev pub matrix : ℕ → ℕ → Elem o
  matrix k l = form (units.vec k) (units.vec l)

  pub matrix-is : (k l : ℕ) → k < m → l < m → (matrix k l).0 ≡ entry o (trace_matrix o A) k l
  matrix-is k l k_in l_in = form-is (units.vec k) (units.vec l)
      ∙ ap₂ (λ a b. list_trace o A (product o m A.constants a b)) (unit-is k) (unit-is l)
      ∙ sym (entry_table o L m m (λ i j. list_trace o A (product o m A.constants (basis o m i) (basis o m j))) k l k_in
      l_in)

  -- the sum over l of y_l times that over k of x_k times the entry at k and l
  pub form_by_matrix : (x y : Tuple o m) → form x y ≡ sum K.monoid m
      (λ l. K.◌⊗◌ (sum K.monoid m (λ k. K.◌⊗◌ (units.coord x k) (matrix k l))) (units.coord y l))
  form_by_matrix x y =
      let a = units.coord x in
      let b = units.coord y in
      ap₂ form (units.expand x) (units.expand y)
      ∙ form-comb_left K.cring M form form_bilinear m a units.vec (comb M m b units.vec)
      ∙ sum_congr K.monoid m (λ k. K.◌⊗◌ (a k) (form (units.vec k) (comb M m b units.vec)))
      (λ k. sum K.monoid m (λ l. K.◌⊗◌ (K.◌⊗◌ (a k) (matrix k l)) (b l)))
      (λ k _. ap (K.◌⊗◌ (a k)) (form-comb_right K.cring M form form_bilinear m b units.vec (units.vec k))
      ∙ mul-sum K.ring m (a k) (λ l. K.◌⊗◌ (b l) (matrix k l))
      ∙ sum_congr K.monoid m (λ l. K.◌⊗◌ (a k) (K.◌⊗◌ (b l) (matrix k l)))
      (λ l. K.◌⊗◌ (K.◌⊗◌ (a k) (matrix k l)) (b l))
      (λ l _. ap (K.◌⊗◌ (a k)) (K.mul_comm (b l) (matrix k l)) ∙ sym (K.mul_assoc (a k) (matrix k l) (b l))))
      ∙ sum_comm K.monoid m m (λ k l. K.◌⊗◌ (K.◌⊗◌ (a k) (matrix k l)) (b l))
      ∙ sum_congr K.monoid m (λ l. sum K.monoid m (λ k. K.◌⊗◌ (K.◌⊗◌ (a k) (matrix k l)) (b l)))
      (λ l. K.◌⊗◌ (sum K.monoid m (λ k. K.◌⊗◌ (a k) (matrix k l))) (b l))
      (λ l _. sym (sum-mul K.ring m (b l) (λ k. K.◌⊗◌ (a k) (matrix k l))))
