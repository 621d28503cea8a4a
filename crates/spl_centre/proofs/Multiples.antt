-- The multiples of the identity among the central elements.
use Rattle.std.specs.Prelude.{◌≡◌, ◌≢◌, ◌↔◌, ℕ, ◌+◌, ◌*◌, ◌<◌, ◌≤◌, List, [], ◌∷◌, length, get_or, cond, nat_eq, All}
use Rattle.std.proofs.Common.{refl, sym, ◌∙◌, ap, arith, ⊎_elim}
use Rattle.std.proofs.lemmas.Bool.{cases_lt}
use Rattle.std.proofs.lemmas.List.Elements.{All-nil}
use Rattle.theory_rings.specs.Ops.{Ops, IsElem, FieldLaws}
use Rattle.theory_rings.specs.Elements.{elements}
use Rattle.theory_rings.specs.Sum.{at, sum_of}
use Rattle.theory_rings.proofs.Rings.Elements.{at-elem, sum_of_congr}
use Rattle.theory_spaces.specs.Module.{AlgebraOn, module_of}
use Rattle.theory_spaces.specs.Linear.{Basis}
use Rattle.theory_spaces.specs.Tuples.{IsTuple, Tuple, tuple_scale, basis, constant, product}
use Rattle.theory_spaces.specs.Tuples.{IsTableAlgebra}
use Rattle.theory_spaces.proofs.Linear.Modules.{linear_ext, left_linear}
use Rattle.theory_spaces.proofs.Tuples.Tuples.{at-table, IsTuple-table, IsTuple-ext, Tuple-path}
use Rattle.theory_spaces.proofs.Tuples.TupleProducts.{product-one, scale-product, IsTuple-basis}
use Rattle.theory_tables.specs.Matrix.{entry, IsMatrix}
use Rattle.theory_tables.specs.Subspace.{InSpan, IsReducedBasis}
use Rattle.theory_tables.proofs.Rows.Spans.{InSpan-by, InSpan-member}
use Rattle.theory_tables.proofs.Rows.Sums.{sum_of_zeros, entry-elem, All_step}
use Rattle.theory_tables.proofs.Rows.Terms.{zero-mul, mul-zero, mul-one}
use Rattle.theory_tables.specs.Structure.{Structure, IsAssociative}
use Rattle.theory_tables.specs.Algebras.{IsIdentity, IsCentral, IsMultiple, HasSmallCentre}
use Rattle.theory_tables.specs.Claims.{CentralClaim}
use Rattle.theory_tables.proofs.Algebras.Bridge.{as_tuple, algebra, algebra_is, one-is, table_basis, vec-is}
use Rattle.theory_tables.proofs.Algebras.Bridge.{product_basis-at}

module _ {E : Type 0} (o : Ops E) (L : FieldLaws o) (m : ℕ) where
  pub IsTuple-scale : (c : E) (a : List E) → IsElem o c → IsTuple o m a → IsTuple o m (tuple_scale o m c a)
  IsTuple-scale c a hc ha =
      IsTuple-table o m (λ k. o.mul c (at o a k)) (λ k _. L.mul-elem c (at o a k) hc (at-elem o L a ha.of_elements k))

  -- the items of a combination of one row
  pub one_row : (rows : List (List E)) (v : List E) (s : InSpan o m rows v) → IsMatrix o m rows → length rows ≡ 1
      → (j : ℕ) → j < m → at o v j ≡ o.mul (at o s.0 0) (entry o rows 0 j)
  one_row rows v s shape e j j_in =
      s.2 j j_in ∙ ap (λ n. sum_of o n (λ i. o.mul (at o s.0 i) (entry o rows i j))) e
      ∙ L.zero-add (o.mul (at o s.0 0) (entry o rows 0 j))
      (L.mul-elem (at o s.0 0) (entry o rows 0 j) (at-elem o L s.0 s.1.of_elements 0) (entry-elem o L m rows shape 0 j))

module _ {E : Type 0} (o : Ops E) (L : FieldLaws o) (A : Structure E) where
  multiple-at : (a v : List E) (q : IsMultiple o A a v) (j : ℕ) → j < A.dim → at o v j ≡ o.mul q.factor (at o a j)
  multiple-at a v q j j_in = ap (λ xs. at o xs j) q.is_multiple
      ∙ at-table o A.dim (λ k. o.mul q.factor (at o a k)) j j_in

  -- the span of one row is its multiples
  pub span_of_one : (a : List E) → IsTuple o A.dim a → (v : List E) → IsTuple o A.dim v
      → (InSpan o A.dim (a ∷ []) v ↔ IsMultiple o A a v)
  span_of_one a ha v hv = (to, from)
    where
      shape : IsMatrix o A.dim (a ∷ [])
      shape = All_step (IsTuple o A.dim) [] (a ∷ []) a (All-nil (IsTuple o A.dim)) ha refl

      to : InSpan o A.dim (a ∷ []) v → IsMultiple o A a v
      to s = record {
        factor = at o s.0 0;
        of_field = at-elem o L s.0 s.1.of_elements 0;
        is_multiple = IsTuple-ext o A.dim v (tuple_scale o A.dim (at o s.0 0) a) hv
            (IsTuple-scale o L A.dim (at o s.0 0) a (at-elem o L s.0 s.1.of_elements 0) ha) (λ j j_in.
            one_row o L A.dim (a ∷ []) v s shape refl j j_in
            ∙ sym (at-table o A.dim (λ k. o.mul (at o s.0 0) (at o a k)) j j_in));
      }

      from : IsMultiple o A a v → InSpan o A.dim (a ∷ []) v
      from q = InSpan-by o L A.dim (a ∷ []) v (λ _. q.factor) (λ _. q.of_field) (λ j j_in.
          multiple-at a v q j j_in
          ∙ sym (L.zero-add (o.mul q.factor (at o a j))
          (L.mul-elem q.factor (at o a j) q.of_field (at-elem o L a ha.of_elements j))))

  -- of two rows of a reduced basis one is no multiple of a
  pub not_both_multiples : (a : List E) (rows : List (List E)) → IsTuple o A.dim a → IsReducedBasis o A.dim rows
      → 2 ≤ length rows
      → IsMultiple o A a (get_or rows 0 []) → IsMultiple o A a (get_or rows 1 []) → ⊥
  not_both_multiples a rows ha x two p q =
      let r = x.reduced in
      let each = x.each in
      let first : 0 < length x.pivots = omega arith in
      let second : 1 < length x.pivots = omega arith in
      let low : 0 < length rows = omega arith in
      let i = get_or x.pivots 0 0 in
      let j = get_or x.pivots 1 0 in
      let c = p.factor in
      let d = q.factor in
      let y = at o a i in
      let z = at o a j in
      let y_in = at-elem o L a ha.of_elements i in
      let z_in = at-elem o L a ha.of_elements j in
      let unit : o.one ≡ o.mul c y = sym (r.unit 0 0 first low)
      ∙ multiple-at a (get_or rows 0 []) p i (r.below 0 first) in
      let none : o.zero ≡ o.mul d y = sym (r.unit 0 1 first two)
      ∙ multiple-at a (get_or rows 1 []) q i (r.below 0 first) in
      let other : o.one ≡ o.mul d z = sym (r.unit 1 1 second two)
      ∙ multiple-at a (get_or rows 1 []) q j (r.below 1 second) in
      let vanishes : d ≡ o.zero =
      sym (mul-one o L d q.of_field) ∙ ap (o.mul d) unit ∙ sym (L.mul_assoc d c y q.of_field p.of_field y_in)
      ∙ ap (λ t. o.mul t y) (L.mul_comm d c q.of_field p.of_field) ∙ L.mul_assoc c d y p.of_field q.of_field y_in
      ∙ ap (o.mul c) (sym none) ∙ mul-zero o L c p.of_field in
      L.one-nonzero (other ∙ ap (λ t. o.mul t z) vanishes ∙ zero-mul o L z z_in)

module _ {E : Type 0} (o : Ops E) (L : FieldLaws o) (A : Structure E) (constants : All (IsElem o) A.constants)
    (assoc : IsAssociative o A)
    (one : List E) (is_one : IsIdentity o A one) where
  abbrev m : ℕ
  m = A.dim

  abbrev cs : List E
  cs = A.constants

  abbrev V : AlgebraOn (elements o L).ring (Tuple o m)
  V = algebra o L A constants assoc one is_one

  abbrev T : IsTableAlgebra o L m cs V
  T = algebra_is o L A constants assoc one is_one

  abbrev B : Basis (module_of V) m
  B = table_basis o L A constants assoc one is_one

  -- what has the same products with the basis elements is the same
  eq_of_products : (a b : List E) → IsTuple o m a → IsTuple o m b
      → ((i : ℕ) → i < m → product o m cs a (basis o m i) ≡ product o m cs b (basis o m i)) → a ≡ b
  eq_of_products a b ha hb h =
      let x = as_tuple o L m a ha in
      let y = as_tuple o L m b hb in
      let M = module_of V in
      let is = one-is o L A constants assoc one is_one in
      let vec = vec-is o L A constants assoc one is_one in
      sym (product-one o L m cs constants one is_one a ha)
      ∙ sym (T.product-is x V.one ∙ ap (product o m cs a) is)
      ∙ ap (λ (z : Tuple o m). z.0)
      (linear_ext M M (λ z. V.◌⊗◌ x z) (λ z. V.◌⊗◌ y z) (left_linear V x) (left_linear V y) m B.vec (λ i i_in.
      Tuple-path o L m (V.◌⊗◌ x (B.vec i)) (V.◌⊗◌ y (B.vec i))
      (T.product-is x (B.vec i) ∙ ap (product o m cs a) (vec i) ∙ h i i_in
      ∙ sym (T.product-is y (B.vec i) ∙ ap (product o m cs b) (vec i))))
      V.one (record { weights = B.coord V.one; combines = B.expand V.one }))
      ∙ (T.product-is y V.one ∙ ap (product o m cs b) is)
      ∙ product-one o L m cs constants one is_one b hb

  -- a central element that is no multiple of the identity
  pub central_claim : (a : List E) → IsCentral o A a → (IsMultiple o A one a → ⊥) → CentralClaim o A a
  central_claim a h d = record {
    fits = h.tuple;
    commutes = h.commutes;
    no_multiple = λ c hc e. d (record {
      factor = c;
      of_field = hc;
      is_multiple = eq_of_products a (tuple_scale o m c one) h.tuple (IsTuple-scale o L m c one hc is_one.tuple)
          (λ i i_in.
          e i i_in
          ∙ sym (scale-product o L m cs constants c one (basis o m i) hc is_one.tuple
          (IsTuple-basis o L m cs constants i)
          ∙ ap (tuple_scale o m c) (is_one.one-mul i i_in)));
    });
  }

  pub one_central : IsCentral o A one
  one_central = record {
    tuple = is_one.tuple;
    commutes = λ i i_in. is_one.one-mul i i_in
        ∙ sym (is_one.mul-one i i_in);
  }

  -- the identity isn't 0
  pub one_nonzero : 1 ≤ m → ((j : ℕ) → j < m → at o one j ≡ o.zero) → ⊥
  one_nonzero some z = L.one-nonzero
      (sym (at-table o m (λ k. cond (nat_eq k 0) o.one o.zero) 0 some)
      ∙ ap (λ xs. at o xs 0) (sym (is_one.one-mul 0 some))
      ∙ product_basis-at o L m cs constants one is_one.tuple 0 0 some some
      ∙ sum_of_congr o m (λ i. o.mul (at o one i) (constant o m cs i 0 0)) (λ _. o.zero)
      (λ i i_in. ap (λ x. o.mul x (constant o m cs i 0 0)) (z i i_in)
      ∙ zero-mul o L (constant o m cs i 0 0) (at-elem o L cs constants ((i * m + 0) * m + 0)))
      ∙ sum_of_zeros o L m)

  -- a centre with a basis of fewer than two rows
  pub small_centre : (rows : List (List E)) → 1 ≤ m → IsReducedBasis o m rows
      → ((v : List E) → IsTuple o m v → (InSpan o m rows v ↔ IsCentral o A v))
      → length rows < 2 → HasSmallCentre o A
  small_centre rows some x spans small = ⊎_elim
      (λ (few : length rows < 1).
      let none : length rows ≡ 0 = omega arith in
      absurd (one_nonzero some
      (λ j j_in. expansion.2 j j_in
      ∙ ap (λ n. sum_of o n (λ i. o.mul (at o expansion.0 i) (entry o rows i j))) none)))
      (λ (many : 1 ≤ length rows). let single : length rows ≡ 1 = omega arith in of_one_row single)
      (cases_lt (length rows) 1)
    where
      expansion : InSpan o m rows one
      expansion = (spans one is_one.tuple).1 one_central

      d_in : IsElem o (at o expansion.0 0)
      d_in = at-elem o L expansion.0 expansion.1.of_elements 0

      r_in : (j : ℕ) → IsElem o (entry o rows 0 j)
      r_in j = entry-elem o L m rows x.shape 0 j

      nonzero : length rows ≡ 1 → (at o expansion.0 0) ≢ o.zero
      nonzero single z = one_nonzero some (λ j j_in.
          one_row o L m rows one expansion x.shape single j j_in ∙ ap (λ t. o.mul t (entry o rows 0 j)) z
          ∙ zero-mul o L (entry o rows 0 j) (r_in j))

      cancel : (c r : E) → IsElem o c → IsElem o r → (at o expansion.0 0) ≢ o.zero
          → o.mul (o.mul c (o.inv (at o expansion.0 0))) (o.mul (at o expansion.0 0) r) ≡ o.mul c r
      cancel c r c_in r_in n =
          let i_in = L.inv-elem (at o expansion.0 0) d_in in
          L.mul_assoc c (o.inv (at o expansion.0 0)) (o.mul (at o expansion.0 0) r) c_in i_in
          (L.mul-elem (at o expansion.0 0) r d_in r_in)
          ∙ ap (o.mul c) (sym (L.mul_assoc (o.inv (at o expansion.0 0)) (at o expansion.0 0) r i_in d_in r_in)
          ∙ ap (λ t. o.mul t r) (L.inv-mul (at o expansion.0 0) d_in n) ∙ L.one-mul r r_in)

      of_one_row : length rows ≡ 1 → HasSmallCentre o A
      of_one_row single = record {
        one = one;
        is_one = is_one;
        multiple = λ a h.
            let s = (spans a h.tuple).1 h in
            let c = at o s.0 0 in
            let c_in = at-elem o L s.0 s.1.of_elements 0 in
            let f_in = L.mul-elem c (o.inv (at o expansion.0 0)) c_in (L.inv-elem (at o expansion.0 0) d_in) in
            record {
              factor = o.mul c (o.inv (at o expansion.0 0));
              of_field = f_in;
              is_multiple = IsTuple-ext o m a (tuple_scale o m (o.mul c (o.inv (at o expansion.0 0))) one) h.tuple
                  (IsTuple-scale o L m (o.mul c (o.inv (at o expansion.0 0))) one f_in is_one.tuple) (λ j j_in.
                  one_row o L m rows a s x.shape single j j_in
                  ∙ sym (at-table o m (λ k. o.mul (o.mul c (o.inv (at o expansion.0 0))) (at o one k)) j j_in
                  ∙ ap (o.mul (o.mul c (o.inv (at o expansion.0 0))))
                  (one_row o L m rows one expansion x.shape single j j_in)
                  ∙ cancel c (entry o rows 0 j) c_in (r_in j) (nonzero single)));
            };
      }

  -- of the first two rows of a basis of the centre, one is no multiple of the identity
  module _ (centre multiples : List (List E)) (x : IsReducedBasis o m centre) (large : 2 ≤ length centre)
      (spans : (v : List E) → IsTuple o m v → (InSpan o m centre v ↔ IsCentral o A v))
      (are_multiples : (v : List E) → IsTuple o m v → (InSpan o m multiples v ↔ IsMultiple o A one v)) where
    row_central : (r : ℕ) → r < length centre → IsCentral o A (get_or centre r [])
    row_central r r_in = (spans (get_or centre r []) (x.shape r [] r_in)).0 (InSpan-member o L m centre x.shape r r_in)

    pub first_row_claim : (InSpan o m multiples (get_or centre 0 []) → ⊥) → CentralClaim o A (get_or centre 0 [])
    first_row_claim d =
        let low : 0 < length centre = omega arith in
        central_claim (get_or centre 0 []) (row_central 0 low)
        (λ q. d ((are_multiples (get_or centre 0 []) (x.shape 0 [] low)).1 q))

    pub second_row_claim : InSpan o m multiples (get_or centre 0 []) → CentralClaim o A (get_or centre 1 [])
    second_row_claim s =
        let low : 0 < length centre = omega arith in
        central_claim (get_or centre 1 []) (row_central 1 large) (λ q.
        not_both_multiples o L A one centre is_one.tuple x large
        ((are_multiples (get_or centre 0 []) (x.shape 0 [] low)).0 s) q)
