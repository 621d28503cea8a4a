-- The lattice of one and the multiples of the basis elements by the common denominator of the constants is an order.
use Rattle.std.specs.Prelude.{◌≡◌, ◌+◌, ◌*◌, ◌<◌, ◌≤◌, ℕ, suc, List, [], ◌∷◌, length, get_or, cond, nat_eq}
use Rattle.std.proofs.Common.{sym, ◌∙◌, ap, ap₂, subst, arith, length-append, ⊎_elim}
use Rattle.std.proofs.lemmas.Bool.{cases_lt}
use Rattle.std.proofs.lemmas.Nat.{mul-le}
use Rattle.std.proofs.lemmas.List.{get_or_push, get_or_default}
use Rattle.std.proofs.lemmas.List.Elements.{All-get_or}
use Rattle.std.proofs.Math.ListN.{get_or-append}
use Rattle.theory_rings.specs.Ring.{FieldOn}
use Rattle.theory_rings.specs.Ops.{Ops, IsElem, FieldLaws}
use Rattle.theory_rings.specs.Elements.{Elem, elements}
use Rattle.theory_rings.specs.Sum.{at, table}
use Rattle.theory_rings.proofs.Sums.Lists.{length-table, get_or-table}
use Rattle.theory_fractions.specs.Fraction.{Pair}
use Rattle.theory_fractions.specs.CommonDenominator.{as_fraction}
use Rattle.theory_fractions.proofs.PolynomialFractions.{as_fraction-elem}
use Rattle.theory_spaces.specs.Module.{AlgebraOn, module_of}
use Rattle.theory_spaces.specs.Linear.{Basis}
use Rattle.theory_spaces.specs.Lattice.{LatticeOver}
use Rattle.theory_spaces.specs.Sets.{ring_ops, IsOrder}
use Rattle.theory_spaces.specs.Tuples.{IsTuple, Tuple, tuple_scale, basis, constant, product}
use Rattle.theory_spaces.specs.Tuples.{IsTableAlgebra}
use Rattle.theory_spaces.proofs.Linear.Families.{push, push-below, push-at}
use Rattle.theory_spaces.proofs.Tuples.TupleProducts.{tuple_algebra}
use Rattle.theory_tables.specs.Structure.{Structure, IsOver, IsAssociative, basis_of}
use Rattle.theory_tables.specs.Algebras.{IsIdentity}
use Rattle.theory_tables.proofs.Algebras.Bridge.{algebra, algebra_is, one-is, table_basis, vec-is, coord-is}
use Rattle.theory_tables.proofs.Algebras.Bridge.{as_tuple}
use Rattle.theory_rings.proofs.Rings.Elements.{at-elem, sum_of_congr}
use Rattle.theory_spaces.proofs.Tuples.Tuples.{IsTuple-table, at-table}
use Rattle.theory_tables.proofs.Rows.Sums.{sum_of-delta_mul}
use Rattle.theory_tables.proofs.Rows.Terms.{cond_either}
use Rattle.theory_tables.proofs.Algebras.Bridge.{product_basis-at}
use Rattle.theory_pairs.proofs.FirstOrders.{first_order}
use Rattle.theory_bases.specs.TupleLattices.{TupleLattice, AreIndependentTuples, SpanOrder}
use Rattle.theory_bases.specs.Bases.{IsPolynomialFraction}
use Rattle.theory_bases.specs.StartOrders.{start_tuples, SpansStart, StartOrdersAreOrders}
use Rattle.theory_bases.proofs.FractionsOver.{K, M}
use Rattle.theory_bases.proofs.LatticeBridge.{to_lattice, from_lattice}
use Rattle.theory_bases.proofs.PolynomialWeights.{polynomials_are_subring}
use Rattle.theory_bases.proofs.Clearing.{polynomial_of_clears}

-- the place of a constant
place_within : (m i j t : ℕ) → i < m → j < m → t < m → (i * m + j) * m + t < m * m * m
place_within m i j t hi hj ht =
    let first : suc i * m ≤ m * m = mul-le (suc i) m m m hi (omega arith) in
    let row : i * m + j < m * m = omega (arith, first, hj) in
    let second : suc (i * m + j) * m ≤ m * m * m = mul-le (suc (i * m + j)) m (m * m) m row (omega arith) in
    omega (arith, second, ht)

module _ {E : Type 0} (o : Ops E) (L : FieldLaws o) (A : Structure (Pair E)) (over : IsOver (K o L) A)
    (assoc : IsAssociative (K o L) A) (one : List (Pair E)) (is_one : IsIdentity (K o L) A one)
    (tuples : List (List (Pair E))) (free : AreIndependentTuples (K o L) A.dim tuples)
    (S : SpansStart o L A one tuples) where
  abbrev k : Ops (Pair E)
  k = K o L

  abbrev laws : FieldLaws k
  laws = M o L

  abbrev F : FieldOn (Elem k)
  F = elements k laws

  abbrev m : ℕ
  m = A.dim

  abbrev IsP : Pair E → Type 0
  IsP = IsPolynomialFraction o

  abbrev alg : AlgebraOn F.ring (Tuple k m)
  alg = algebra k laws A over.of_elements assoc one is_one

  alg-is : IsTableAlgebra k laws m A.constants alg
  alg-is = algebra_is k laws A over.of_elements assoc one is_one

  abbrev B : Basis (module_of alg) m
  B = table_basis k laws A over.of_elements assoc one is_one

  abbrev c : Elem k
  c = (as_fraction o S.c, as_fraction-elem o L S.c S.polynomial)

  abbrev w : ℕ → Tuple k m
  w = push m alg.one (λ i. alg.◌•◌ c (B.vec i))

  basis-tuple : (i : ℕ) → IsTuple k m (basis k m i)
  basis-tuple i = IsTuple-table k m (λ s. cond (nat_eq s i) k.one k.zero)
      (λ s _. cond_either (IsElem k) (nat_eq s i) k.one k.zero laws.one-elem laws.zero-elem)

  -- c times each constant is a polynomial
  constants : (i j t : ℕ) → i < m → j < m → t < m
      → IsP (F.◌⊗◌ c (B.coord (alg.◌⊗◌ (B.vec i) (B.vec j)) t)).0
  constants i j t i_in j_in t_in =
      let x = B.vec i in
      let y = B.vec j in
      let place = (i * m + j) * m + t in
      let inside : place < length A.constants = omega (arith, over.right_length, place_within m i j t i_in j_in t_in) in
      let value : (B.coord (alg.◌⊗◌ x y) t).0 ≡ get_or A.constants place ([], []) =
      coord-is k laws A over.of_elements assoc one is_one (alg.◌⊗◌ x y) t t_in
      ∙ ap (λ xs. at k xs t) (alg-is.product-is x y
      ∙ ap₂ (product k m A.constants) (vec-is k laws A over.of_elements assoc one is_one i)
      (vec-is k laws A over.of_elements assoc one is_one j))
      ∙ product_basis-at k laws m A.constants over.of_elements (basis k m i)
      (basis-tuple i) j t j_in t_in
      ∙ sum_of_congr k m (λ s. k.mul (at k (basis k m i) s) (constant k m A.constants s j t))
      (λ s. k.mul (cond (nat_eq s i) k.one k.zero) (constant k m A.constants s j t)) (λ s s_in.
      ap (λ z. k.mul z (constant k m A.constants s j t)) (at-table k m (λ s. cond (nat_eq s i) k.one k.zero) s s_in))
      ∙ sum_of-delta_mul k laws m i (λ s. constant k m A.constants s j t)
      (λ s. at-elem k laws A.constants over.of_elements ((s * m + j) * m + t)) i_in
      ∙ get_or_default A.constants place k.zero ([], []) inside in
      subst (λ z. IsP (k.mul c.0 z)) (sym value)
      (polynomial_of_clears o L S.c (get_or A.constants place ([], [])) S.polynomial
      (All-get_or (IsElem k) A.constants place ([], []) inside over.of_elements) (S.common.clears place inside))

  abstract_order : IsOrder (ring_ops alg.ring) alg.one (LatticeOver (module_of alg) (λ x. IsP x.0) (suc m) w)
  abstract_order = first_order F alg m B.vec (λ i j. B.coord (alg.◌⊗◌ (B.vec i) (B.vec j)))
      (λ i j _ _. B.expand (alg.◌⊗◌ (B.vec i) (B.vec j))) (λ x. IsP x.0) (polynomials_are_subring o L) c constants

  abbrev rows : List (List (Pair E))
  rows = start_tuples o L A S.c one

  rows-length : length rows ≡ suc m
  rows-length = length-append (table m (λ i. tuple_scale k m c.0 (basis_of k A i))) (one ∷ [])
      ∙ omega (arith, length-table m (λ i. tuple_scale k m c.0 (basis_of k A i)))

  w-is : (i : ℕ) → i < length rows → (w i).0 ≡ get_or rows i []
  w-is i l = ⊎_elim
      (λ (low : i < m). ap (λ (x : Tuple k m). x.0) (push-below m alg.one (λ i. alg.◌•◌ c (B.vec i)) i low)
      ∙ alg-is.scale-is c (B.vec i)
      ∙ ap (tuple_scale k m c.0) (vec-is k laws A over.of_elements assoc one is_one i)
      ∙ sym (get_or-append (table m (λ i. tuple_scale k m c.0 (basis_of k A i))) (one ∷ []) [] i
      (omega (arith, low, length-table m (λ i. tuple_scale k m c.0 (basis_of k A i))))
      ∙ get_or-table m (λ i. tuple_scale k m c.0 (basis_of k A i)) i [] low))
      (λ (high : m ≤ i). let e : m ≡ i = omega (arith, l, high, rows-length) in
      subst (λ t. (w t).0 ≡ get_or rows t []) e
      (ap (λ (x : Tuple k m). x.0) (push-at m alg.one (λ i. alg.◌•◌ c (B.vec i)))
      ∙ one-is k laws A over.of_elements assoc one is_one
      ∙ sym (get_or_push (table m (λ i. tuple_scale k m c.0 (basis_of k A i))) one [] m
      (length-table m (λ i. tuple_scale k m c.0 (basis_of k A i))))))
      (cases_lt i m)

  -- a tuple of the lattice of the tuples, as a vector of the order, and back
  abbrev Lat : List (Pair E) → Type 0
  Lat = TupleLattice k IsP m tuples

  abbrev In : Tuple k m → Type 0
  In = LatticeOver (module_of alg) (λ x. IsP x.0) (suc m) w

  inside : (x : Tuple k m) → Lat x.0 → In x
  unfolding tuple_algebra
  inside x h = subst (λ n. LatticeOver (module_of alg) (λ x. IsP x.0) n w x) rows-length
      (to_lattice k laws IsP m rows w w-is x (S.same.1 x.0 h))

  outside : (x : Tuple k m) → In x → Lat x.0
  unfolding tuple_algebra
  outside x h = S.same.0 x.0 (from_lattice k laws IsP m rows w w-is x
      (subst (λ n. LatticeOver (module_of alg) (λ x. IsP x.0) n w x) (sym rows-length) h))

  abbrev up : (x : List (Pair E)) → Lat x → Tuple k m
  up x h = as_tuple k laws m x h.0

  span_order : SpanOrder k A IsP tuples
  span_order = record {
    basis = free;
    one = one;
    is_one = is_one;
    order = record {
      one_in = subst Lat (one-is k laws A over.of_elements assoc one is_one) (outside alg.one abstract_order.one_in);
      zero_in = subst Lat alg-is.zero-is (outside alg.zero abstract_order.zero_in);
      add_in = λ x y hx hy. subst Lat (alg-is.add-is (up x hx) (up y hy))
          (outside (alg.◌⊕◌ (up x hx) (up y hy))
          (abstract_order.add_in (up x hx) (up y hy) (inside (up x hx) hx) (inside (up y hy) hy)));
      neg_in = λ x hx. subst Lat (alg-is.neg-is (up x hx))
          (outside (alg.neg (up x hx)) (abstract_order.neg_in (up x hx) (inside (up x hx) hx)));
      mul_in = λ x y hx hy. subst Lat (alg-is.product-is (up x hx) (up y hy))
          (outside (alg.◌⊗◌ (up x hx) (up y hy))
          (abstract_order.mul_in (up x hx) (up y hy) (inside (up x hx) hx) (inside (up y hy) hy)));
    };
  }

pub start_orders : {E : Type 0} (o : Ops E) (L : FieldLaws o) → StartOrdersAreOrders o L
start_orders o L A over assoc one is_one tuples free S = span_order o L A over assoc one is_one tuples free S
