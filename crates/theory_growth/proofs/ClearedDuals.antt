-- A polynomial that carries a dual basis into its lattice, by the denominators of the dual basis and of the constants.
use Rattle.std.specs.Prelude.{◌≡◌, ◌+◌, ◌*◌, ◌<◌, ◌≤◌, ℕ, suc, Bool, true, false, cond, eqb, List, [], length, get_or}
use Rattle.std.specs.List.{All}
use Rattle.std.proofs.Common.{refl, sym, ◌∙◌, ap, ap₂, subst, arith, ⊎_elim}
use Rattle.std.proofs.lemmas.Bool.{cases_lt}
use Rattle.theory_rings.specs.Ring.{FieldOn}
use Rattle.theory_rings.proofs.Sums.Sums.{mul-sum}
use Rattle.theory_spaces.specs.Module.{ModuleOn, AlgebraOn, module_of}
use Rattle.theory_spaces.specs.Linear.{comb, Basis}
use Rattle.theory_spaces.specs.Lattice.{IsSubring, LatticeOver}
use Rattle.theory_spaces.specs.Algebra.{trace}
use Rattle.theory_spaces.specs.Sets.{IsOrder, ring_ops}
use Rattle.theory_spaces.specs.Form.{trace_form}
use Rattle.theory_spaces.proofs.Linear.Families.{push, push-below, push-at}
use Rattle.theory_residue.proofs.ResidueAlgebra.{coord-vec}
use Rattle.theory_spaces.proofs.Linear.LatticeSpans.{sum_in, delta_in, comb_in_closed, span-scale}
use Rattle.theory_spaces.proofs.Linear.Modules.{scale-zero}
use Rattle.theory_spaces.proofs.Forms.Traces.{trace-add, trace-scale, trace-zero}
use Rattle.std.specs.Prelude.{nat_eq}
use Rattle.std.proofs.lemmas.Nat.{mul-le}
use Rattle.std.proofs.lemmas.List.{get_or_default}
use Rattle.std.proofs.lemmas.List.Elements.{All-get_or}
use Rattle.theory_rings.specs.Ops.{Ops, IsElem, FieldLaws}
use Rattle.theory_rings.specs.Elements.{Elem, Elem-path}
use Rattle.theory_rings.specs.Sum.{at}
use Rattle.theory_rings.proofs.Rings.Elements.{at-elem, sum_of_congr}
use Rattle.theory_spaces.specs.Linear.{Independent}
use Rattle.theory_spaces.specs.Matrix.{delta}
use Rattle.theory_spaces.specs.Form.{IsBilinear, flip}
use Rattle.theory_spaces.specs.Tuples.{IsTuple, Tuple, IsTableAlgebra, tuple_scale, basis, constant, product}
use Rattle.theory_spaces.proofs.Forms.Forms.{flip_bilinear, expand-left_dual}
use Rattle.theory_spaces.proofs.Forms.TraceForms.{trace_form_bilinear}
use Rattle.theory_spaces.proofs.Linear.Modules.{comb-scale}
use Rattle.theory_spaces.proofs.Linear.Spaces.{basis_of}
use Rattle.theory_spaces.proofs.Matrices.Matrices.{delta_comm}
use Rattle.theory_spaces.proofs.Tuples.Tuples.{IsTuple-table, at-table}
use Rattle.theory_spaces.proofs.Tuples.TupleProducts.{tuple_algebra}
use Rattle.theory_orders.proofs.Splitting.Ramified.{spanning}
use Rattle.theory_tables.specs.Matrix.{IsMatrix}
use Rattle.theory_tables.specs.Structure.{Structure, IsOver, IsAssociative}
use Rattle.theory_tables.specs.Algebras.{IsIdentity}
use Rattle.theory_tables.specs.Traces.{trace as list_trace}
use Rattle.theory_tables.proofs.Algebras.Bridge.{algebra, algebra_is, row, row-is, table_basis, trace-is, coord-is, vec-is}
use Rattle.theory_tables.proofs.Algebras.Bridge.{product_basis-at}
use Rattle.theory_tables.proofs.Rows.Sums.{sum_of-delta_mul}
use Rattle.theory_tables.proofs.Rows.Terms.{cond_either}
use Rattle.theory_fractions.specs.Fraction.{Pair}
use Rattle.theory_fractions.specs.FractionOps.{fraction_ops}
use Rattle.theory_fractions.specs.PolynomialLists.{IsPolynomialList, IsProduct}
use Rattle.theory_fractions.specs.CommonDenominator.{as_fraction, Clears}
use Rattle.theory_fractions.proofs.FractionField.{fraction_laws}
use Rattle.theory_fractions.proofs.PolynomialFractions.{as_fraction-elem, as_fraction-mul}
use Rattle.theory_places.specs.FractionPlaces.{fractions}
use Rattle.theory_bases.specs.TupleLattices.{AreIndependentTuples, AreTraceDual, trace_of_product}
use Rattle.theory_bases.specs.Bases.{IsPolynomialFraction}
use Rattle.theory_bases.proofs.Clearing.{polynomial_of_clears}
use Rattle.theory_bases.proofs.PolynomialWeights.{polynomials_are_subring}
use Rattle.theory_left_orders.proofs.TupleLattices.{from_lattice, vectors}
use Rattle.theory_growth.specs.Growths.{PolynomialLattice, DualIsCarriedBySquare}
use Rattle.theory_growth.proofs.DualTuples.{dual_basis_is_carried}
use Rattle.theory_pairs.proofs.FirstOrders.{first_order, first_order-member}

-- a subring that has c times the constants by a basis
module _ {K V : Type 0} (F : FieldOn K) (A : AlgebraOn F.ring V) (n : ℕ) (B : Basis (module_of A) n) (P : K → Type 0)
    (sub : IsSubring F.ring P) (c : K)
    (integral : (i j t : ℕ) → i < n → j < n → t < n
    → P (F.◌⊗◌ c (B.coord (A.◌⊗◌ (B.vec i) (B.vec j)) t))) where
  infixl 70 ◌⊗◌
  infixl 70 ◌•◌
  open A use {◌⊗◌, ◌•◌}

  abbrev M : ModuleOn F.ring V
  M = module_of A

  abbrev γ : ℕ → ℕ → ℕ → K
  γ i j = B.coord (B.vec i ⊗ B.vec j)

  abbrev w : ℕ → V
  w = push n A.one (λ i. c • B.vec i)

  -- the lattice of one and c times the basis
  abbrev In : V → Type 0
  In = LatticeOver M P (suc n) w

  order : IsOrder (ring_ops A.ring) A.one In
  order = first_order F A n B.vec γ (λ i j _ _. B.expand (B.vec i ⊗ B.vec j)) P sub c integral

  member : (i : ℕ) → i < n → In (c • B.vec i)
  member = first_order-member F A n B.vec γ (λ i j _ _. B.expand (B.vec i ⊗ B.vec j)) P sub c integral

  abbrev tr : V → K
  tr = trace A n B

  traces : (i : ℕ) → i < suc n → P (tr (w i))
  traces i l = ⊎_elim
      (λ (a : i < n). subst (λ x. P (tr x)) (sym (push-below n A.one (λ i. c • B.vec i) i a))
      (subst P (sym (trace-scale F.cring A n B c (B.vec i) ∙ mul-sum F.ring n c (λ j. γ i j j)))
      (sum_in F P sub n (λ j. F.◌⊗◌ c (γ i j j)) (λ j h. integral i j j a h h))))
      (λ (a : n ≤ i). let e : n ≡ i = omega arith in
      subst (λ t. P (tr (w t))) e (subst (λ x. P (tr x)) (sym (push-at n A.one (λ i. c • B.vec i)))
      (sum_in F P sub n (λ j. B.coord (A.one ⊗ B.vec j) j) (λ j h.
      subst P (sym (ap (λ x. B.coord x j) (A.one-mul (B.vec j)) ∙ coord-vec M n B j j h h)) (delta_in F P sub j j)))))
      (cases_lt i n)

  -- its members have traces there
  trace_in : (x : V) → In x → P (tr x)
  trace_in x h = subst (λ x. P (tr x)) (sym h.combines) (comb_in_closed F P M (λ x. P (tr x))
      (subst P (sym (trace-zero F.cring A n B)) sub.zero_in)
      (λ a b ha hb. subst P (sym (trace-add F.cring A n B a b)) (sub.add_in (tr a) (tr b) ha hb))
      (λ a b ha hb. subst P (sym (trace-scale F.cring A n B a b)) (sub.mul_in a (tr b) ha hb))
      (suc n) h.weights w h.passes traces)

  -- c times what has its coordinates there
  scaled_in : (x : V) → ((i : ℕ) → i < n → P (B.coord x i)) → In (c • x)
  scaled_in x h = subst (λ x. In (c • x)) (sym (B.expand x)) (comb_in_closed F P M (λ x. In (c • x))
      (subst In (sym (scale-zero M c)) order.zero_in)
      (λ a b ha hb. subst In (sym (A.scale-add c a b)) (order.add_in (c • a) (c • b) ha hb))
      (λ a b ha hb. subst In (sym (A.mul-scale a c b) ∙ ap (λ u. u • b) (F.mul_comm a c) ∙ A.mul-scale c a b)
      (span-scale F P sub M (suc n) w a (c • b) ha hb))
      n (B.coord x) B.vec h member)

  -- so the form on two of these is there
  pub scaled_form : (x y : V) → ((i : ℕ) → i < n → P (B.coord x i)) → ((i : ℕ) → i < n → P (B.coord y i))
      → P (trace_form A n B (c • x) (c • y))
  scaled_form x y hx hy =
      trace_in ((c • x) ⊗ (c • y)) (order.mul_in (c • x) (c • y) (scaled_in x hx) (scaled_in y hy))

-- the place of a constant
place_within : (m i j t : ℕ) → i < m → j < m → t < m → (i * m + j) * m + t < m * m * m
place_within m i j t hi hj ht =
    let first : suc i * m ≤ m * m = mul-le (suc i) m m m hi (omega arith) in
    let row : i * m + j < m * m = omega (arith, first, hj) in
    let second : suc (i * m + j) * m ≤ m * m * m = mul-le (suc (i * m + j)) m (m * m) m row (omega arith) in
    omega (arith, second, ht)

module _ {E : Type 0} (o : Ops E) (L : FieldLaws o) (A : Structure (Pair E)) (over : IsOver (fraction_ops o L) A)
    (assoc : IsAssociative (fraction_ops o L) A) (one : List (Pair E)) (is_one : IsIdentity (fraction_ops o L) A one)
    (tuples duals : List (List (Pair E))) (ind : AreIndependentTuples (fraction_ops o L) A.dim tuples)
    (shape : IsMatrix (fraction_ops o L) A.dim duals) (dual : AreTraceDual (fraction_ops o L) A tuples duals)
    (long : length duals ≡ A.dim) (d e s c : List E) (hd : IsPolynomialList o d)
    (clears : All (All (Clears o d)) duals) (he : IsPolynomialList o e)
    (constants : (i : ℕ) → i < length A.constants → Clears o e (get_or A.constants i ([], [])))
    (hs : IsPolynomialList o s) (product_s : IsProduct o d e s) (hc : IsPolynomialList o c)
    (product_c : IsProduct o s s c) where
  abbrev k : Ops (Pair E)
  k = fraction_ops o L

  abbrev N : FieldLaws k
  N = fraction_laws o L

  abbrev K : FieldOn (Elem k)
  K = fractions o L N

  abbrev m : ℕ
  m = A.dim

  abbrev X : Type 0
  X = Tuple k m

  abbrev Al : AlgebraOn K.ring X
  Al = algebra k N A over.of_elements assoc one is_one

  is : IsTableAlgebra k N m A.constants Al
  is = algebra_is k N A over.of_elements assoc one is_one

  abbrev Mod : ModuleOn K.ring X
  Mod = module_of Al

  abbrev B0 : Basis Mod m
  B0 = table_basis k N A over.of_elements assoc one is_one

  abbrev form : X → X → Elem k
  form = trace_form Al m B0

  abbrev bil : IsBilinear Mod form
  bil = trace_form_bilinear K.cring Al m B0

  form_is : (x y : X) → (form x y).0 ≡ trace_of_product k A x.0 y.0
  form_is x y = trace-is k N A over.of_elements assoc one is_one (Al.◌⊗◌ x y) ∙ ap (list_trace k A) (is.product-is x y)

  abbrev IsP : Elem k → Type 0
  IsP a = IsPolynomialFraction o a.0

  sub : IsSubring K.ring IsP
  sub = polynomials_are_subring o L

  abbrev dd : Elem k
  dd = (as_fraction o d, as_fraction-elem o L d hd)

  abbrev ee : Elem k
  ee = (as_fraction o e, as_fraction-elem o L e he)

  abbrev cc : Elem k
  cc = (as_fraction o c, as_fraction-elem o L c hc)

  cc-is : cc ≡ K.◌⊗◌ (K.◌⊗◌ ee dd) (K.◌⊗◌ ee dd)
  cc-is =
      let se = as_fraction-mul o L d e s hd he hs product_s in
      Elem-path k cc (K.◌⊗◌ (K.◌⊗◌ ee dd) (K.◌⊗◌ ee dd))
      (as_fraction-mul o L s s c hs hs hc product_c ∙ ap₂ k.mul se se
      ∙ ap (λ (a : Elem k). k.mul a.0 a.0) (K.mul_comm dd ee))

  basis-tuple : (i : ℕ) → IsTuple k m (basis k m i)
  basis-tuple i = IsTuple-table k m (λ s. cond (nat_eq s i) k.one k.zero)
      (λ s _. cond_either (IsElem k) (nat_eq s i) k.one k.zero N.one-elem N.zero-elem)

  -- e times each constant is a polynomial
  integral : (i j t : ℕ) → i < m → j < m → t < m
      → IsP (K.◌⊗◌ ee (B0.coord (Al.◌⊗◌ (B0.vec i) (B0.vec j)) t))
  integral i j t i_in j_in t_in =
      let x = B0.vec i in
      let y = B0.vec j in
      let place = (i * m + j) * m + t in
      let inside : place < length A.constants = omega (arith, over.right_length, place_within m i j t i_in j_in t_in) in
      let value : (B0.coord (Al.◌⊗◌ x y) t).0 ≡ get_or A.constants place ([], []) =
      coord-is k N A over.of_elements assoc one is_one (Al.◌⊗◌ x y) t t_in
      ∙ ap (λ xs. at k xs t) (is.product-is x y
      ∙ ap₂ (product k m A.constants) (vec-is k N A over.of_elements assoc one is_one i)
      (vec-is k N A over.of_elements assoc one is_one j))
      ∙ product_basis-at k N m A.constants over.of_elements (basis k m i)
      (basis-tuple i) j t j_in t_in
      ∙ sum_of_congr k m (λ s. k.mul (at k (basis k m i) s) (constant k m A.constants s j t))
      (λ s. k.mul (cond (nat_eq s i) k.one k.zero) (constant k m A.constants s j t)) (λ s s_in.
      ap (λ z. k.mul z (constant k m A.constants s j t)) (at-table k m (λ s. cond (nat_eq s i) k.one k.zero) s s_in))
      ∙ sum_of-delta_mul k N m i (λ s. constant k m A.constants s j t)
      (λ s. at-elem k N A.constants over.of_elements ((s * m + j) * m + t)) i_in
      ∙ get_or_default A.constants place k.zero ([], []) inside in
      subst (λ z. IsPolynomialFraction o (k.mul ee.0 z)) (sym value)
      (polynomial_of_clears o L e (get_or A.constants place ([], [])) he
      (All-get_or (IsElem k) A.constants place ([], []) inside over.of_elements) (constants place inside))

  abbrev t : ℕ → X
  t = row k N m tuples ind.shape

  abbrev u : ℕ → X
  u = row k N m duals shape

  u-is : (i : ℕ) → i < m → (u i).0 ≡ get_or duals i []
  u-is i l = row-is k N m duals shape i (omega (arith, l, long))

  -- d times a tuple of the dual basis has coordinates that are polynomials
  cleared : (i : ℕ) → i < m → (j : ℕ) → j < m → IsP (B0.coord (Al.◌•◌ dd (u i)) j)
  cleared i l j h =
      let x = get_or duals i [] in
      let hx = All-get_or (IsTuple k m) duals i [] (omega (arith, l, long)) shape in
      let j_in : j < length x = let f = hx.right_length in omega (arith, h) in
      let e1 : (B0.coord (Al.◌•◌ dd (u i)) j).0 ≡ k.mul dd.0 (at k x j) =
      coord-is k N A over.of_elements assoc one is_one (Al.◌•◌ dd (u i)) j h
      ∙ ap (λ xs. at k xs j) (is.scale-is dd (u i) ∙ ap (tuple_scale k m dd.0) (u-is i l))
      ∙ at-table k m (λ r. k.mul dd.0 (at k x r)) j h in
      subst (IsPolynomialFraction o) (sym e1) (polynomial_of_clears o L d (at k x j) hd
      (All-get_or (IsElem k) x j k.zero j_in hx.of_elements)
      (All-get_or (Clears o d) x j k.zero j_in
      (All-get_or (All (Clears o d)) duals i [] (omega (arith, l, long)) clears)))

  -- so c times the form on two of them is a polynomial
  form_in : (i j : ℕ) → i < m → j < m → IsP (K.◌⊗◌ cc (form (u i) (u j)))
  form_in i j i_in j_in =
      let a = K.◌⊗◌ ee dd in
      let x = Al.◌•◌ dd (u i) in
      let y = Al.◌•◌ dd (u j) in
      let e1 : form (Al.◌•◌ ee x) (Al.◌•◌ ee y) ≡ K.◌⊗◌ cc (form (u i) (u j)) =
      ap₂ form (sym (Al.mul-scale ee dd (u i))) (sym (Al.mul-scale ee dd (u j)))
      ∙ bil.scale-left a (u i) (Al.◌•◌ a (u j)) ∙ ap (K.◌⊗◌ a) (bil.scale-right a (u i) (u j))
      ∙ sym (K.mul_assoc a a (form (u i) (u j))) ∙ ap (λ z. K.◌⊗◌ z (form (u i) (u j))) (sym cc-is) in
      subst IsP e1 (scaled_form K Al m B0 IsP sub ee integral x y (cleared i i_in) (cleared j j_in))

  t_free : Independent Mod m t
  unfolding tuple_algebra
  t_free = vectors k N m tuples ind

  abbrev tb : Basis Mod m
  tb = basis_of Mod m t t_free (spanning K Al m B0 t t_free)

  pairs : (i j : ℕ) → i < m → j < m → form (t i) (u j) ≡ delta K.ring i j
  pairs i j i_in j_in = Elem-path k (form (t i) (u j)) (delta K.ring i j)
      (form_is (t i) (u j)
      ∙ ap₂ (trace_of_product k A) (row-is k N m tuples ind.shape i (omega (arith, i_in, ind.count)))
      (u-is j j_in)
      ∙ dual.pairing i j i_in j_in ∙ sym (delta_is i j))
    where
      delta_is : (i j : ℕ) → (delta K.ring i j).0 ≡ cond (eqb i j) k.one k.zero
      delta_is i j = go (eqb i j)
        where
          go : (b : Bool) → (cond b K.one K.zero).0 ≡ cond b k.one k.zero
          go true = refl
          go false = refl

  -- a tuple of the dual basis by the basis
  expands : (x : X) → x ≡ comb Mod m (λ i. form x (u i)) t
  expands = expand-left_dual K Mod (flip form) (flip_bilinear K.cring Mod form bil) m tb u
      (λ i j i_in j_in. pairs j i j_in i_in ∙ delta_comm K.ring j i)

  carried : (i : ℕ) → i < m
      → PolynomialLattice o L A tuples (tuple_scale k m (as_fraction o c) (get_or duals i []))
  unfolding tuple_algebra
  carried i l = subst (PolynomialLattice o L A tuples)
      (is.scale-is cc (u i) ∙ ap (tuple_scale k m (as_fraction o c)) (u-is i l))
      (from_lattice k N m tuples ind.shape (IsPolynomialFraction o) (Al.◌•◌ cc (u i))
      (subst (λ n. LatticeOver Mod IsP n t (Al.◌•◌ cc (u i))) (sym ind.count) (record {
        weights = λ j. K.◌⊗◌ cc (form (u i) (u j));
        passes = λ j h. form_in i j l h;
        combines = ap (Al.◌•◌ cc) (expands (u i)) ∙ sym (comb-scale Mod m cc (λ j. form (u i) (u j)) t);
      })))

module _ {E : Type 0} (o : Ops E) (L : FieldLaws o) (A : Structure (Pair E)) where
  pub dual_is_carried_by_square : DualIsCarriedBySquare o L A
  dual_is_carried_by_square over assoc one is_one tuples duals ind shape dual long d e s c hd clears he constants hs ps hc pc =
      dual_basis_is_carried o L A over assoc one is_one tuples duals ind shape dual long c hc
      (carried o L A over assoc one is_one tuples duals ind shape dual long d e s c hd clears he constants hs ps hc pc)
