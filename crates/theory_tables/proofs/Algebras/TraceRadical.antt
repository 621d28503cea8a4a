-- The radical of the trace form of an algebra, which need not have an identity.
use Rattle.std.specs.Prelude.{◌≡◌, ◌<◌, ℕ, zero, suc, List}
use Rattle.std.specs.List.{All}
use Rattle.std.proofs.Common.{refl, sym, ◌∙◌, ap, ap₂, subst}
use Rattle.theory_rings.specs.Ring.{FieldOn}
use Rattle.theory_rings.specs.Ops.{Ops, IsElem, FieldLaws}
use Rattle.theory_rings.specs.Elements.{Elem, Elem-path, elements}
use Rattle.theory_rings.specs.Sum.{sum_of, at}
use Rattle.theory_rings.specs.Power.{times_of}
use Rattle.theory_rings.proofs.Sums.Sums.{sum_eq_zero}
use Rattle.theory_rings.proofs.Rings.RingLaws.{mul-zero}
use Rattle.theory_rings.proofs.Rings.Elements.{sum_of-elements, sum_of_congr}
use Rattle.theory_spaces.specs.Module.{ModuleOn}
use Rattle.theory_spaces.specs.Linear.{Basis}
use Rattle.theory_spaces.specs.Space.{ProductOn}
use Rattle.theory_spaces.specs.Tuples.{Tuple, tuple_zero, tuple_add, tuple_scale, basis, product}
use Rattle.theory_spaces.specs.Sets.{Power}
use Rattle.theory_spaces.proofs.Matrices.Matrices.{delta-same}
use Rattle.theory_spaces.proofs.Linear.Modules.{map-comb}
use Rattle.theory_spaces.proofs.Forms.ProductTraces.{by_left_linear, product_trace, product_trace-add}
use Rattle.theory_spaces.proofs.Forms.ProductTraces.{product_trace-scale, product_trace-zero, product_trace-comb}
use Rattle.theory_spaces.proofs.Forms.ProductTraces.{product_trace_comm, product_trace-nilpotent, zero_product}
use Rattle.theory_spaces.proofs.Forms.ProductTraces.{next_power}
use Rattle.theory_spaces.proofs.Tuples.Tables.{space_basis, space_basis-coord}
use Rattle.theory_spaces.proofs.Tuples.Tuples.{Tuple-path, tuples, tuple_space, tuples-zero, tuples-add, tuples-scale}
use Rattle.theory_spaces.proofs.Tuples.Tuples.{unit-basis}
use Rattle.theory_spaces.proofs.Tuples.TupleProducts.{tuple_product, tuple_product-list, tuple_product_assoc}
use Rattle.theory_spaces.proofs.Tuples.TupleProducts.{product-one}
use Rattle.theory_tables.specs.Matrix.{entry}
use Rattle.theory_tables.specs.Subspace.{Combinations}
use Rattle.theory_tables.specs.Structure.{Structure, IsAssociative, tuple_ops}
use Rattle.theory_tables.proofs.Rows.Sums.{entry_table}
use Rattle.theory_tables.specs.Algebras.{IsIdentity, SpansIdeal}
use Rattle.theory_tables.specs.Traces.{trace as list_trace, trace_matrix, InTraceRadical, PowerVanishes}
use Rattle.theory_tables.specs.Laws.{TraceRadicalLaw}
use Rattle.theory_tables.proofs.Algebras.Bridge.{as_tuple, IsTuple-of, basis-at}

-- the product of an associative table
module _ {E : Type 0} (o : Ops E) (L : FieldLaws o) (A : Structure E) (constants : All (IsElem o) A.constants)
    (assoc : IsAssociative o A) where
  infixl 65 ◌⊕◌
  infixl 70 ◌⊗◌
  infixl 70 ◌•◌
  abbrev m : ℕ
  m = A.dim

  abbrev cs : List E
  cs = A.constants

  abbrev K : FieldOn (Elem o)
  K = elements o L

  abbrev M : ModuleOn K.ring (Tuple o m)
  M = tuples o L m

  abbrev P : ProductOn M
  P = tuple_product o L m cs constants

  open M use {◌⊕◌, ◌•◌}
  open P use {◌⊗◌}

  abbrev B : Basis M m
  B = space_basis M m (tuple_space o L m)

  abbrev t : Tuple o m → Elem o
  t = product_trace K.cring M P m B

  product-is : (x y : Tuple o m) → (x ⊗ y).0 ≡ product o m cs x.0 y.0
  product-is = tuple_product-list o L m cs constants

  vec-is : (j : ℕ) → (B.vec j).0 ≡ basis o m j
  vec-is j = unit-basis o L m j

  coord-is : (x : Tuple o m) (j : ℕ) → j < m → (B.coord x j).0 ≡ at o x.0 j
  unfolding tuple_space
  coord-is x j j_in = ap (λ (c : Elem o). c.0) (space_basis-coord M m (tuple_space o L m) x j j_in)

  mul_assoc : (x y z : Tuple o m) → (x ⊗ y) ⊗ z ≡ x ⊗ (y ⊗ z)
  mul_assoc = tuple_product_assoc o L m cs constants assoc

  trace-is : (x : Tuple o m) → (t x).0 ≡ list_trace o A x.0
  trace-is x =
      sym (sum_of-elements o L m (λ j. B.coord (x ⊗ B.vec j) j))
      ∙ sum_of_congr o m (λ j. (B.coord (x ⊗ B.vec j) j).0) (λ j. at o (product o m cs x.0 (basis o m j)) j) (λ j j_in.
      coord-is (x ⊗ B.vec j) j j_in ∙ ap (λ xs. at o xs j)
      (product-is x (B.vec j) ∙ ap (product o m cs x.0) (vec-is j)))

  -- the trace of a product
  trace_product : (x y : Tuple o m) → (t (x ⊗ y)).0 ≡ list_trace o A (product o m cs x.0 y.0)
  trace_product x y = trace-is (x ⊗ y) ∙ ap (list_trace o A) (product-is x y)

  -- what is orthogonal to all tuples, as lists and as tuples
  to_radical : (x : Tuple o m) → InTraceRadical o A x.0 → (y : Tuple o m) → t (x ⊗ y) ≡ K.zero
  to_radical x h y = Elem-path o (t (x ⊗ y)) K.zero (trace_product x y ∙ h.orthogonal y.0 (IsTuple-of o L m y))

  from_radical : (x : Tuple o m) → ((y : Tuple o m) → t (x ⊗ y) ≡ K.zero) → InTraceRadical o A x.0
  from_radical x h = record {
    tuple = IsTuple-of o L m x;
    orthogonal = λ b tuple.
        let y = as_tuple o L m b tuple in
        sym (trace_product x y) ∙ ap (λ (c : Elem o). c.0) (h y);
  }

  -- the same of a list that the tuple is
  from_radical_at : (x : Tuple o m) (a : List E) → x.0 ≡ a → ((y : Tuple o m) → t (x ⊗ y) ≡ K.zero)
      → InTraceRadical o A a
  from_radical_at x a e h = subst (InTraceRadical o A) e (from_radical x h)

  -- row i of the form, times a tuple
  form_row : (x : Tuple o m) (i : ℕ) → i < m → sum_of o m
      (λ j. o.mul (entry o (trace_matrix o A) i j) (at o x.0 j)) ≡ (t (x ⊗ B.vec i)).0
  form_row x i i_in =
      let c = B.coord x in
      let v = B.vec i in
      sum_of_congr o m (λ j. o.mul (entry o (trace_matrix o A) i j) (at o x.0 j))
      (λ j. (K.◌⊗◌ (c j) (t (v ⊗ B.vec j))).0) (λ j j_in.
      ap₂ o.mul (entry_table o L m m (λ i j. list_trace o A
      (product o m cs (basis o m i) (basis o m j))) i j i_in j_in
      ∙ sym (trace_product v (B.vec j) ∙ ap₂ (λ a b. list_trace o A (product o m cs a b)) (vec-is i) (vec-is j)))
      (sym (coord-is x j j_in))
      ∙ ap (λ (a : Elem o). a.0) (K.mul_comm (t (v ⊗ B.vec j)) (c j)))
      ∙ sum_of-elements o L m (λ j. K.◌⊗◌ (c j) (t (v ⊗ B.vec j)))
      ∙ ap (λ (a : Elem o). a.0) (
      sym (product_trace-comb K.cring M P m B m c (λ j. v ⊗ B.vec j))
      ∙ ap t (sym (map-comb M M (λ y. v ⊗ y) (by_left_linear K.cring M P m B v) m c B.vec)
      ∙ ap (λ y. v ⊗ y) (sym (B.expand x)))
      ∙ product_trace_comm K.cring M P m B mul_assoc v x)

  -- what is orthogonal to the basis is orthogonal to all
  orthogonal_of_basis : (x : Tuple o m) → ((i : ℕ) → i < m → t (x ⊗ B.vec i) ≡ K.zero) → (y : Tuple o m)
      → t (x ⊗ y) ≡ K.zero
  orthogonal_of_basis x h y =
      let c = B.coord y in
      ap (λ z. t (x ⊗ z)) (B.expand y) ∙ ap t (map-comb M M (λ z. x ⊗ z) (by_left_linear K.cring M P m B x) m c B.vec)
      ∙ product_trace-comb K.cring M P m B m c (λ i. x ⊗ B.vec i)
      ∙ sum_eq_zero K.monoid m (λ i. K.◌⊗◌ (c i) (t (x ⊗ B.vec i)))
      (λ i i_in. ap (K.◌⊗◌ (c i)) (h i i_in) ∙ mul-zero K.ring (c i))

  -- an identity has trace m·1
  trace-one : (one : List E) → IsIdentity o A one → list_trace o A one ≡ times_of o m o.one
  trace-one one is_one = sum_of_congr o m (λ j. at o (product o m cs one (basis o m j)) j) (λ _. o.one) (λ j j_in.
      ap (λ xs. at o xs j) (is_one.one-mul j j_in) ∙ basis-at o L m j j j_in
      ∙ ap (λ (x : Elem o). x.0) (delta-same K.ring j))

  -- x to the power e + 1
  abbrev power : Tuple o m → ℕ → Tuple o m
  power x e = next_power K.cring M P m B mul_assoc x e

  -- a power commutes with its base
  power_comm : (x : Tuple o m) (e : ℕ) → power x e ⊗ x ≡ x ⊗ power x e
  power_comm x zero = refl
  power_comm x (suc e) = mul_assoc x (power x e) x ∙ ap (λ y. x ⊗ y) (power_comm x e)

  -- one term is a sum
  one_term : (x : Tuple o m) → x.0 ≡ tuple_add o m (tuple_zero o m) x.0
  one_term x = ap (λ (y : Tuple o m). y.0) (sym (M.zero-add x)) ∙ tuples-add o L m M.zero x
      ∙ ap (λ xs. tuple_add o m xs x.0) (tuples-zero o L m)

  -- the powers of a member of a set lie in the powers of the set
  power_in : (J : List E → Type 0) (x : Tuple o m) → J x.0 → (e : ℕ) → Power (tuple_ops o A) J e (power x e).0
  power_in J x x_in zero = x_in
  power_in J x x_in (suc e) = record {
    size = 1;
    term = λ _. (power x (suc e)).0;
    each = λ i _. (
      (power x e).0,
      x.0,
      power_in J x x_in e,
      x_in,
      ap (λ (y : Tuple o m). y.0) (sym (power_comm x e)) ∙ product-is (power x e) x,
    );
    gives = one_term (power x (suc e));
  }

  -- a nilpotent ideal lies in the radical
  nilpotent-in : (rows : List (List E)) → SpansIdeal o A rows → PowerVanishes o A rows → (a : List E)
      → Combinations o m rows a → InTraceRadical o A a
  nilpotent-in rows ideal p a a_in =
      let x = as_tuple o L m a a_in.0 in
      from_radical x (λ y.
      let z = x ⊗ y in
      let z_in = subst (Combinations o m rows) (sym (product-is x y))
      (ideal.ideal.right y.0 a (IsTuple-of o L m y) a_in) in
      product_trace-nilpotent K M P m B mul_assoc z p.exponent
      (Tuple-path o L m (power z p.exponent) M.zero
      (p.vanishes (power z p.exponent).0 (power_in (Combinations o m rows) z z_in p.exponent)
      ∙ sym (tuples-zero o L m))))

module _ {E : Type 0} (o : Ops E) (L : FieldLaws o) (T : Structure E) where
  -- the radical of the trace form is an ideal, which holds the nilpotent ones
  pub trace_radical : TraceRadicalLaw o T
  trace_radical h assoc =
      let m = T.dim in
      let cs = T.constants in
      let g = h.of_elements in
      let K = elements o L in
      let M = tuples o L m in
      let P = tuple_product o L m cs g in
      let B = space_basis M m (tuple_space o L m) in
      let A = mul_assoc o L T g assoc in
      let is = product-is o L T g assoc in
      let tr = product_trace K.cring M P m B in
      let to = to_radical o L T g assoc in
      let from = from_radical_at o L T g assoc in
      let tuple = as_tuple o L m in
      record {
        ideal = record {
          inside = λ a ha. ha.tuple;
          zero_in = from M.zero (tuple_zero o m) (tuples-zero o L m) (λ y.
              ap tr (zero_product K.cring M P m B y) ∙ product_trace-zero K.cring M P m B);
          add_in = λ a b ha hb.
              let x = tuple a ha.tuple in
              let y = tuple b hb.tuple in
              from (M.◌⊕◌ x y) (tuple_add o m a b) (tuples-add o L m x y) (λ z.
              ap tr (P.add-mul x y z) ∙ product_trace-add K.cring M P m B (P.◌⊗◌ x z) (P.◌⊗◌ y z)
              ∙ ap₂ K.◌⊕◌ (to x ha z) (to y hb z) ∙ K.zero-add K.zero);
          left = λ b a hb ha.
              let x = tuple a ha.tuple in
              let y = tuple b hb in
              from (P.◌⊗◌ y x) (product o m cs b a) (is y x) (λ z.
              ap tr (A y x z) ∙ product_trace_comm K.cring M P m B A y (P.◌⊗◌ x z) ∙ ap tr (A x z y)
              ∙ to x ha (P.◌⊗◌ z y));
          right = λ b a hb ha.
              let x = tuple a ha.tuple in
              let y = tuple b hb in
              from (P.◌⊗◌ x y) (product o m cs a b) (is x y) (λ z. ap tr (A x y z) ∙ to x ha (P.◌⊗◌ y z));
        };
        scale_in = λ c a c_in ha.
            let x = tuple a ha.tuple in
            from (M.◌•◌ (c, c_in) x) (tuple_scale o m c a) (tuples-scale o L m (c, c_in) x) (λ z.
            ap tr (P.scale-left (c, c_in) x z) ∙ product_trace-scale K.cring M P m B (c, c_in) (P.◌⊗◌ x z)
            ∙ ap (K.◌⊗◌ (c, c_in)) (to x ha z) ∙ mul-zero K.ring (c, c_in));
        not_everything = λ one is_one d k. d (sym (trace-one o L T g assoc one is_one)
            ∙ ap (list_trace o T) (sym (product-one o L m cs g one is_one one is_one.tuple))
            ∙ k.orthogonal one is_one.tuple);
        nilpotent = nilpotent-in o L T g assoc;
        kernel = λ a a_in.
            let x = tuple a a_in in
            let rows = form_row o L T g assoc x in (
              λ k i i_in. rows i i_in ∙ ap (λ (c : Elem o). c.0) (to x k (B.vec i)),
              λ k. from x a refl (orthogonal_of_basis o L T g assoc x (λ i i_in.
                  Elem-path o (tr (P.◌⊗◌ x (B.vec i))) K.zero (sym (rows i i_in) ∙ k i i_in))),
            );
      }
