-- A basis of the kernel of rows over the polynomials is one over the fractions. Both are carried to the rational
-- functions, where sums of tuples are sums, and the polynomials are a ring whose fractions all elements are.
use Rattle.std.specs.Prelude.{◌≡◌, ℕ, zero, suc, ◌<◌, ◌≤◌, true, List, [], ◌∷◌, length, get_or}
use Rattle.std.proofs.Common.{refl, sym, ◌∙◌, ap, arith, ⊎_elim}
use Rattle.std.proofs.lemmas.Bool.{cases_lt}
use Rattle.std.proofs.lemmas.List.Elements.{All-get_or}
use Rattle.std.proofs.Math.Path.{fun_ext}
use Rattle.theory_rings.specs.Ring.{CommRingOn, FieldOn}
use Rattle.theory_rings.specs.Ops.{Ops, IsElem, FieldLaws}
use Rattle.theory_rings.specs.Elements.{Elem}
use Rattle.theory_rings.specs.Sum.{at, sum, sum_of, table}
use Rattle.theory_rings.specs.Polynomial.{Poly, IsTrimmed}
use Rattle.theory_rings.specs.Fraction.{IsFractionField}
use Rattle.theory_rings.proofs.Fractions.Fractions.{fraction_of_injective}
use Rattle.theory_rings.proofs.Fractions.Lowest.{Lowest, polynomial_reduction, rational_functions}
use Rattle.theory_rings.proofs.Fractions.Lowest.{is_rational_functions}
use Rattle.theory_rings.proofs.Sums.Lists.{length-table, get_or-table, All-table}
use Rattle.theory_rings.proofs.Sums.Sums.{sum_congr}
use Rattle.theory_fractions.specs.PolynomialLists.{IsOver}
use Rattle.theory_fractions.specs.Fraction.{Pair}
use Rattle.theory_fractions.specs.FractionOps.{polynomial_of, RationalFunction, rational_function, pair_of, is_fraction}
use Rattle.theory_fractions.specs.FractionOps.{fraction_ops}
use Rattle.theory_fractions.proofs.FractionField.{rational_function-pair_of, is_fraction-pair_of, rational_function_eq}
use Rattle.theory_fractions.proofs.FractionField.{is_fraction-one, is_fraction-parts, eq_zero_of_numerator}
use Rattle.theory_fractions.proofs.FractionField.{polynomial_of-nil, polynomial_of-one, rational_function_injective}
use Rattle.theory_fractions.proofs.Lifting.{has-lift, eq_of_coefficients}
use Rattle.theory_fractions.proofs.ListPolynomials.{is_polynomial-from, has_polynomial_of}
use Rattle.theory_spaces.specs.Tuples.{IsTuple}
use Rattle.theory_lattices.specs.Degree.{DegreeOn}
use Rattle.theory_lattices.specs.RationalFunctions.{of_polynomial}
use Rattle.theory_lattices.proofs.Degree.FractionDegrees.{polynomial_degree, rational_degree, rational_degree-is}
use Rattle.theory_lattices.proofs.Degree.FractionDegrees.{of_hom, of-zero, of-ne-zero, eq_of_value}
use Rattle.theory_lattices.proofs.Common.CommonBasisExists.{IsFractionsOf, denominator}
use Rattle.theory_lattices.proofs.Common.RationalBases.{fractions}
use Rattle.theory_tables.specs.Matrix.{entry}
use Rattle.theory_tables.specs.Subspace.{InSpan, IsKilled, AreIndependent}
use Rattle.theory_rows.specs.Rows.{IsPolynomialMatrix, IsLatticeBasis, InRowKernel}
use Rattle.theory_rows.specs.FractionKernels.{as_fraction, fraction_rows, fraction_columns, IsFractionKernel}
use Rattle.theory_rows.proofs.FractionWeights.{HasDenominators, free_over_field, spans_over_field}
use Rattle.theory_rows.proofs.FractionWeights.{killed_over_field}
use Rattle.theory_rows.proofs.LiftedRows.{G, Q, up, up_row, up_rows, comb_at, row_of, row_of-row, up-row_of}
use Rattle.theory_rows.proofs.LiftedRows.{up_row-nil, entry-over, matrix-over, matrix-trimmed, row_at, row-nil}
use Rattle.theory_rows.proofs.LiftedRows.{combination_of_up, up_combination, span_of_lattice, member_in, up_independent}
use Rattle.theory_rows.proofs.Splits.{comb_past}

module _ {E : Type 0} (o : Ops E) (L : FieldLaws o) where
  abbrev F : FieldOn (Elem o)
  F = G o L

  abbrev D : Type 0
  D = Poly F.cring

  abbrev P : CommRingOn D
  P = Q o L

  abbrev K : FieldOn (RationalFunction o L)
  K = rational_functions F

  abbrev H : IsFractionField P (Lowest F) K
  H = is_rational_functions F

  abbrev of : D → RationalFunction o L
  of u = of_polynomial F u

  -- ---- the polynomials among the rational functions

  injective : (u : D) → of u ≡ K.zero → u ≡ P.zero
  injective u e = fraction_of_injective P (Lowest F) (polynomial_reduction F) u P.zero
      (e ∙ sym (of-zero P (Lowest F) (polynomial_reduction F) K H))

  denominators : HasDenominators P K of
  denominators m c =
      let W : DegreeOn K.ring = rational_degree F K H in
      let I : IsFractionsOf (polynomial_degree F) K W of = fractions F K H W (rational_degree-is F K H) in
      let d = denominator (polynomial_degree F) K W of I m c in
      let t = d.1 in
      (d.0, of-ne-zero P (Lowest F) (polynomial_reduction F) K H d.0 t.nonzero, t.clears)

  -- ---- fractions as rational functions

  abbrev f : Ops (Pair E)
  f = fraction_ops o L

  abbrev φ : Pair E → RationalFunction o L
  φ = rational_function o L

  is_element : (a : Pair E) → IsElem f a → is_fraction o L a ≡ true
  unfolding fraction_ops
  is_element a h = h

  element_of : (x : RationalFunction o L) → IsElem f (pair_of o L x)
  unfolding fraction_ops
  element_of x = is_fraction-pair_of o L x

  zero_element : IsElem f f.zero
  unfolding fraction_ops
  zero_element = is_fraction-one o L [] refl

  φ-zero : φ f.zero ≡ K.zero
  unfolding fraction_ops
  φ-zero =
      let w : Pair E = ([], o.one ∷ []) in
      let h = is_fraction-one o L [] refl in
      rational_function_eq o L w h
      ∙ eq_zero_of_numerator o L ((polynomial_of o L w.0, polynomial_of o L w.1), (is_fraction-parts o L w h).2)
      (polynomial_of-nil o L)

  φ-add : (a b : Pair E) → φ (f.add a b) ≡ K.◌⊕◌ (φ a) (φ b)
  unfolding fraction_ops
  φ-add a b = rational_function-pair_of o L (K.◌⊕◌ (φ a) (φ b))

  φ-mul : (a b : Pair E) → φ (f.mul a b) ≡ K.◌⊗◌ (φ a) (φ b)
  unfolding fraction_ops
  φ-mul a b = rational_function-pair_of o L (K.◌⊗◌ (φ a) (φ b))

  sum_element : (n : ℕ) (g : ℕ → Pair E) → IsElem f (sum_of f n g)
  unfolding fraction_ops
  sum_element zero g = is_fraction-one o L [] refl
  sum_element (suc n) g = is_fraction-pair_of o L (K.◌⊕◌ (φ (sum_of f n g)) (φ (g n)))

  φ-sum : (n : ℕ) (g : ℕ → Pair E) → φ (sum_of f n g) ≡ sum K.monoid n (λ i. φ (g i))
  φ-sum zero g = φ-zero
  φ-sum (suc n) g = φ-add (sum_of f n g) (g n) ∙ ap (λ x. K.◌⊕◌ x (φ (g n))) (φ-sum n g)

  same : (a b : Pair E) → IsElem f a → IsElem f b → φ a ≡ φ b → a ≡ b
  same a b ha hb e = rational_function_injective o L a b (is_element a ha) (is_element b hb) e

  φ-polynomial : (u : List E) → IsOver o u → IsTrimmed o.zero u → φ (as_fraction o u) ≡ of (up o L u)
  φ-polynomial u hu tu =
      let w : Pair E = as_fraction o u in
      let h = is_fraction-one o L u (is_polynomial-from o L u (record { over = hu; trimmed = tu })) in
      let e = rational_function_eq o L w h in
      let lifted : polynomial_of o L u ≡ up o L u = eq_of_coefficients o L (polynomial_of o L u) (up o L u) (at o u)
      (at o u) (has_polynomial_of o L u hu) (has-lift o L u hu) (λ k. refl) in
      eq_of_value P (Lowest F) (polynomial_reduction F) K H (φ w) (polynomial_of o L u)
      (ap (λ x. P.◌⊗◌ x.0.0 P.one) e ∙ ap (λ x. P.◌⊗◌ (polynomial_of o L u) x) (sym (polynomial_of-one o L))
      ∙ sym (ap (λ x. P.◌⊗◌ (polynomial_of o L u) x.0.1) e))
      ∙ ap of lifted

  -- ---- over the polynomials

  module _ (w : ℕ) (rows basis : List (List (List E))) (hr : IsPolynomialMatrix o w rows)
      (B : IsLatticeBasis o (length rows) (InRowKernel o rows) basis) where
    abbrev n : ℕ
    n = length rows

    abbrev m : ℕ
    m = length basis

    abbrev a : ℕ → ℕ → D
    a = up_rows o L rows

    abbrev b : ℕ → ℕ → D
    b = up_rows o L basis

    hb : IsPolynomialMatrix o n basis
    hb = B.matrix

    free : (u : ℕ → D) → ((j : ℕ) → j < n → sum P.monoid m (λ i. P.◌⊗◌ (u i) (b i j)) ≡ P.zero) → (i : ℕ) → i < m
        → u i ≡ P.zero
    free u z = (let I = up_independent o L n basis hb B.independent in I.only_zero u (fun_ext (λ j. ⊎_elim
        (λ (l : j < n). comb_at o L m u b j ∙ z j l)
        (λ (l : n ≤ j). comb_past o L n basis hb u j l) (cases_lt j n))))

    spans : (u : ℕ → D) → ((j : ℕ) → j < w → sum P.monoid n (λ i. P.◌⊗◌ (u i) (a i j)) ≡ P.zero)
        → (e : ℕ → D) × ((j : ℕ) → j < n → u j ≡ sum P.monoid m (λ i. P.◌⊗◌ (e i) (b i j)))
    spans u z =
        let x : List (List E) = row_of o L n u in
        let hx = row_of-row o L n u in
        let killed : InRowKernel o rows x = combination_of_up o L x rows [] (entry-over o L n x hx)
        (matrix-over o L w rows hr) (entry-over o L 0 [] (row-nil o L)) (λ j. up_row-nil o L j ∙ sym (⊎_elim
        (λ (l : j < w). comb_at o L n (up_row o L x) a j
        ∙ sum_congr P.monoid n (λ i. P.◌⊗◌ (up_row o L x i) (a i j)) (λ i. P.◌⊗◌ (u i) (a i j))
        (λ i g. ap (λ t. P.◌⊗◌ t (a i j)) (up-row_of o L n u i g)) ∙ z j l)
        (λ (l : w ≤ j). comb_past o L w rows hr (up_row o L x) j l) (cases_lt j w))) in
        let s = span_of_lattice o L n basis hb x hx ((B.members x hx).0 killed) in (
          s.weights,
          λ j l. sym (up-row_of o L n u j l) ∙ ap (λ (g : ℕ → D). g j) s.combines ∙ comb_at o L m s.weights b j,
        )

    inside : (k : ℕ) → k < m → (j : ℕ) → j < w → sum P.monoid n (λ i. P.◌⊗◌ (b k i) (a i j)) ≡ P.zero
    inside k l j _ =
        let x : List (List E) = get_or basis k [] in
        let hx = row_at o L n basis hb k l in
        sym (comb_at o L n (up_row o L x) a j)
        ∙ sym (ap (λ (g : ℕ → D). g j) (up_combination o L x rows [] (entry-over o L n x hx) (matrix-over o L w rows hr)
        (entry-over o L 0 [] (row-nil o L)) ((B.members x hx).1 (member_in o L n basis hb k l))))
        ∙ up_row-nil o L j

    -- ---- over the fractions

    abbrev A : List (List (Pair E))
    A = fraction_columns o w rows

    abbrev S : List (List (Pair E))
    S = fraction_rows o n basis

    S-length : length S ≡ m
    S-length = length-table m (λ i. table n (λ j. as_fraction o (get_or (get_or basis i []) j [])))

    φ-basis : (i j : ℕ) → i < m → j < n → φ (entry f S i j) ≡ of (b i j)
    φ-basis i j l g =
        ap (λ r. φ (at f r j))
        (get_or-table m (λ i. table n (λ j. as_fraction o (get_or (get_or basis i []) j []))) i [] l)
        ∙ ap φ (get_or-table n (λ j. as_fraction o (get_or (get_or basis i []) j [])) j f.zero g)
        ∙ φ-polynomial (get_or (get_or basis i []) j []) (matrix-over o L n basis hb i j)
        (matrix-trimmed o L n basis hb i j)

    φ-rows : (i j : ℕ) → i < n → j < w → φ (entry f A j i) ≡ of (a i j)
    φ-rows i j l g =
        ap (λ r. φ (at f r i))
        (get_or-table w (λ j. table n (λ i. as_fraction o (get_or (get_or rows i []) j []))) j [] g)
        ∙ ap φ (get_or-table n (λ i. as_fraction o (get_or (get_or rows i []) j [])) i f.zero l)
        ∙ φ-polynomial (get_or (get_or rows i []) j []) (matrix-over o L w rows hr i j)
        (matrix-trimmed o L w rows hr i j)

    -- a combination of the basis with weights c
    φ-combination : (c : List (Pair E)) (j : ℕ) → j < n
        → φ (sum_of f (length S) (λ i. f.mul (at f c i) (entry f S i j)))
        ≡ sum K.monoid m (λ i. K.◌⊗◌ (φ (at f c i)) (of (b i j)))
    φ-combination c j g =
        ap (λ k. φ (sum_of f k (λ i. f.mul (at f c i) (entry f S i j)))) S-length
        ∙ φ-sum m (λ i. f.mul (at f c i) (entry f S i j))
        ∙ sum_congr K.monoid m (λ i. φ (f.mul (at f c i) (entry f S i j))) (λ i. K.◌⊗◌ (φ (at f c i)) (of (b i j)))
        (λ i l. φ-mul (at f c i) (entry f S i j) ∙ ap (K.◌⊗◌ (φ (at f c i))) (φ-basis i j l g))

    -- what the matrix makes of v
    φ-image : (v : List (Pair E)) (j : ℕ) → j < w
        → φ (sum_of f n (λ i. f.mul (entry f A j i) (at f v i)))
        ≡ sum K.monoid n (λ i. K.◌⊗◌ (φ (at f v i)) (of (a i j)))
    φ-image v j g = φ-sum n (λ i. f.mul (entry f A j i) (at f v i))
        ∙ sum_congr K.monoid n (λ i. φ (f.mul (entry f A j i) (at f v i))) (λ i. K.◌⊗◌ (φ (at f v i)) (of (a i j)))
        (λ i l. φ-mul (entry f A j i) (at f v i) ∙ K.mul_comm (φ (entry f A j i)) (φ (at f v i))
        ∙ ap (K.◌⊗◌ (φ (at f v i))) (φ-rows i j l g))

    item : (k : ℕ) (v : List (Pair E)) → IsTuple f k v → (j : ℕ) → j < k → IsElem f (at f v j)
    item k v h j l = All-get_or (IsElem f) v j f.zero (let e = h.right_length in omega (arith, l)) h.of_elements

    independent : AreIndependent f n S
    independent c hc z i l =
        same (at f c i) f.zero (item (length S) c hc i l) zero_element
        (free_over_field P K of (of_hom P (Lowest F) (polynomial_reduction F) K H) injective denominators m n b free
        (λ i. φ (at f c i)) (λ j g. sym (φ-combination c j g) ∙ ap φ (z j g) ∙ φ-zero) i (omega (arith, l, S-length))
        ∙ sym φ-zero)

    killed_of_span : (v : List (Pair E)) → IsTuple f n v → InSpan f n S v → IsKilled f w n A v
    killed_of_span v hv (c, _, e) j g =
        same (sum_of f n (λ i. f.mul (entry f A j i) (at f v i))) f.zero
        (sum_element n (λ i. f.mul (entry f A j i) (at f v i))) zero_element
        (φ-image v j g
        ∙ killed_over_field P K of (of_hom P (Lowest F) (polynomial_reduction F) K H) injective denominators m n w a b
        inside (λ i. φ (at f v i)) (λ k. φ (at f c k), λ i l. ap φ (e i l) ∙ φ-combination c i l) j g
        ∙ sym φ-zero)

    -- the list of these weights
    abbrev weight_list : (ℕ → RationalFunction o L) → List (Pair E)
    weight_list e = table m (λ k. pair_of o L (e k))

    weight_list-tuple : (e : ℕ → RationalFunction o L) → IsTuple f (length S) (weight_list e)
    weight_list-tuple e = record {
      right_length = length-table m (λ k. pair_of o L (e k)) ∙ sym S-length;
      of_elements = All-table (IsElem f) m (λ k. pair_of o L (e k)) (λ k _. element_of (e k));
    }

    span_of_killed : (v : List (Pair E)) → IsTuple f n v → IsKilled f w n A v → InSpan f n S v
    span_of_killed v hv z =
        let s = spans_over_field P K of (of_hom P (Lowest F) (polynomial_reduction F) K H) injective denominators m n w
        a b
        spans (λ i. φ (at f v i)) (λ j g. sym (φ-image v j g) ∙ ap φ (z j g) ∙ φ-zero) in
        let c : List (Pair E) = weight_list s.0 in (
          c,
          weight_list-tuple s.0,
          λ j l. same (at f v j) (sum_of f (length S) (λ i. f.mul (at f c i) (entry f S i j))) (item n v hv j l)
              (sum_element (length S) (λ i. f.mul (at f c i) (entry f S i j)))
              (s.1 j l ∙ sum_congr K.monoid m (λ i. K.◌⊗◌ (s.0 i) (of (b i j)))
              (λ i. K.◌⊗◌ (φ (at f c i)) (of (b i j)))
              (λ i g. ap (λ t. K.◌⊗◌ t (of (b i j))) (sym (rational_function-pair_of o L (s.0 i))
              ∙ ap φ (sym (get_or-table m (λ k. pair_of o L (s.0 k)) i f.zero g))))
              ∙ sym (φ-combination c j l)),
        )

    pub fraction_kernel : IsFractionKernel o L w rows basis
    fraction_kernel = record {
      spans = λ v hv. (killed_of_span v hv, span_of_killed v hv);
      independent = independent;
    }
