-- Rows over a denominator are independent exactly where their kernel over the polynomials is 0.
use Rattle.std.specs.Prelude.{◌≡◌, ◌≢◌, ◌<◌, ℕ, List, [], ◌∷◌, length, get_or, cond, nat_eq}
use Rattle.std.proofs.Common.{refl, sym, ◌∙◌, ap, subst, arith}
use Rattle.theory_rings.specs.Ops.{Ops, IsElem, FieldLaws}
use Rattle.theory_rings.specs.Sum.{at, sum_of, table}
use Rattle.theory_rings.proofs.Sums.Lists.{length-table, get_or-table}
use Rattle.theory_rings.proofs.Rings.Elements.{at-elem, sum_of_congr, sum_of-elem}
use Rattle.theory_fractions.specs.PolynomialLists.{IsPolynomialList}
use Rattle.theory_fractions.specs.Fraction.{Pair}
use Rattle.theory_fractions.specs.CommonDenominator.{as_fraction}
use Rattle.theory_fractions.proofs.PolynomialFractions.{as_fraction-elem}
use Rattle.theory_spaces.specs.Tuples.{IsTuple}
use Rattle.theory_spaces.proofs.Tuples.Tuples.{at-table, IsTuple-table}
use Rattle.theory_tables.specs.Matrix.{entry, IsMatrix}
use Rattle.theory_tables.specs.Subspace.{AreIndependent, IsKilled}
use Rattle.theory_tables.proofs.Rows.Sums.{sum_of-mul, sum_of-delta_mul, entry-elem, table_matrix}
use Rattle.theory_tables.proofs.Rows.Terms.{cond_either, zero-mul}
use Rattle.theory_tables.proofs.Rows.Spans.{InSpan-member}
use Rattle.theory_rows.specs.Rows.{IsPolynomialMatrix, IsLatticeBasis, InRowKernel}
use Rattle.theory_rows.specs.FractionKernels.{fraction_rows, fraction_columns, IsFractionKernel}
use Rattle.theory_rows.proofs.FractionKernels.{fraction_kernel}
use Rattle.theory_rows.proofs.LiftedRows.{matrix-over, matrix-trimmed}
use Rattle.theory_bases.specs.Bases.{BasisForm, tuples_of}
use Rattle.theory_bases.specs.BasisLaws.{KernelsTellIndependence}
use Rattle.theory_bases.proofs.FractionsOver.{K, M, inverse, inverse-elem, divided-mul, count-tuples, entry-tuples}

module _ {E : Type 0} (o : Ops E) (L : FieldLaws o) (w : ℕ) (c : List E) (rows : List (List (List E)))
    (hc : IsPolynomialList o c) (nonzero : c ≢ []) (hr : IsPolynomialMatrix o w rows) where
  abbrev k : Ops (Pair E)
  k = K o L

  abbrev laws : FieldLaws k
  laws = M o L

  abbrev n : ℕ
  n = length rows

  abbrev b : BasisForm E
  b = record { denominator = c; numerators = rows }

  abbrev T : List (List (Pair E))
  T = tuples_of o L b

  abbrev inv : Pair E
  inv = inverse o L c hc nonzero

  -- the entry at i and j, as a fraction
  abbrev u : ℕ → ℕ → Pair E
  u i j = as_fraction o (get_or (get_or rows i []) j [])

  u-elem : (i j : ℕ) → IsElem k (u i j)
  u-elem i j = as_fraction-elem o L (get_or (get_or rows i []) j [])
      (record { over = matrix-over o L w rows hr i j; trimmed = matrix-trimmed o L w rows hr i j })

  n-is : length T ≡ n
  n-is = count-tuples o L b

  -- the sum of the multiples of the rows is that of the tuples, times c
  module _ (v : List (Pair E)) (hv : IsTuple k n v) where
    v-elem : (i : ℕ) → IsElem k (at k v i)
    v-elem i = at-elem k laws v hv.of_elements i

    abbrev term : ℕ → ℕ → Pair E
    term j i = k.mul (at k v i) (u i j)

    term-elem : (j i : ℕ) → IsElem k (term j i)
    term-elem j i = laws.mul-elem (at k v i) (u i j) (v-elem i) (u-elem i j)

    pub combined : (j : ℕ) → j < w
        → sum_of k (length T) (λ i. k.mul (at k v i) (entry k T i j)) ≡ k.mul (sum_of k n (term j)) inv
    combined j j_in =
        ap (λ m. sum_of k m (λ i. k.mul (at k v i) (entry k T i j))) n-is
        ∙ sum_of_congr k n (λ i. k.mul (at k v i) (entry k T i j)) (λ i. k.mul (term j i) inv) (λ i i_in.
        ap (k.mul (at k v i)) (entry-tuples o L w b hr i j i_in j_in)
        ∙ sym (laws.mul_assoc (at k v i) (u i j) inv (v-elem i) (u-elem i j) (inverse-elem o L c hc nonzero)))
        ∙ sym (sum_of-mul k laws n inv (term j) (inverse-elem o L c hc nonzero) (term-elem j))

    -- what the columns of the rows make of v
    killed : (j : ℕ) → j < w
        → sum_of k n (λ i. k.mul (entry k (fraction_columns o w rows) j i) (at k v i)) ≡ sum_of k n (term j)
    killed j j_in = sum_of_congr k n (λ i. k.mul (entry k (fraction_columns o w rows) j i) (at k v i)) (term j)
        (λ i i_in. ap (λ x. k.mul x (at k v i))
        (ap (λ r. at k r i) (get_or-table w (λ j. table n (λ i. u i j)) j [] j_in)
        ∙ get_or-table n (λ i. u i j) i k.zero i_in)
        ∙ laws.mul_comm (u i j) (at k v i) (u-elem i j) (v-elem i))

    killed_of_combined : ((j : ℕ) → j < w → sum_of k (length T) (λ i. k.mul (at k v i) (entry k T i j)) ≡ k.zero)
        → IsKilled k w n (fraction_columns o w rows) v
    killed_of_combined z j j_in = killed j j_in
        ∙ sym (divided-mul o L c hc nonzero (sum_of k n (term j))
        (sum_of-elem k laws n (term j) (λ i _. term-elem j i)))
        ∙ ap (λ x. k.mul x (as_fraction o c)) (sym (combined j j_in) ∙ z j j_in)
        ∙ zero-mul k laws (as_fraction o c) (as_fraction-elem o L c hc)

    combined_of_killed : IsKilled k w n (fraction_columns o w rows) v → (j : ℕ) → j < w
        → sum_of k (length T) (λ i. k.mul (at k v i) (entry k T i j)) ≡ k.zero
    combined_of_killed z j j_in = combined j j_in ∙ ap (λ x. k.mul x inv) (sym (killed j j_in) ∙ z j j_in)
        ∙ zero-mul k laws inv (inverse-elem o L c hc nonzero)

  module _ (kernel : List (List (List E))) (B : IsLatticeBasis o n (InRowKernel o rows) kernel) where
    H : IsFractionKernel o L w rows kernel
    H = fraction_kernel o L w rows kernel hr B

    -- without a kernel the tuples are independent
    independent : kernel ≡ [] → AreIndependent k w T
    independent e v hv z i i_in =
        let hv' : IsTuple k n v = subst (λ m. IsTuple k m v) n-is hv in
        let s = (H.spans v hv').1 (killed_of_combined v hv' z) in
        let count : length (fraction_rows o n kernel) ≡ 0 =
        length-table (length kernel) (λ i. table n (λ j. as_fraction o (get_or (get_or kernel i []) j [])))
        ∙ ap length e in
        s.2 i (omega (arith, i_in, n-is))
        ∙ ap (λ m. sum_of k m (λ t. k.mul (at k s.0 t) (entry k (fraction_rows o n kernel) t i))) count

    -- the rows of the kernel as fractions
    abbrev S : List (List (Pair E))
    S = fraction_rows o n kernel

    S-length : length S ≡ length kernel
    S-length = length-table (length kernel) (λ i. table n (λ j. as_fraction o (get_or (get_or kernel i []) j [])))

    S-shape : IsMatrix k n S
    S-shape = table_matrix k laws (length kernel) n (λ i j. as_fraction o (get_or (get_or kernel i []) j []))
        (λ i j. as_fraction-elem o L (get_or (get_or kernel i []) j [])
        (record { over = matrix-over o L n kernel B.matrix i j; trimmed = matrix-trimmed o L n kernel B.matrix i j }))

    -- with a first row of the kernel they are not
    dependent : 0 < length kernel → AreIndependent k w T → ⊥
    dependent positive h = laws.one-nonzero (sym (at-first) ∙ H.independent first first-tuple (λ j j_in.
        sum_of_congr k (length S) (λ i. k.mul (at k first i) (entry k S i j))
        (λ i. k.mul (cond (nat_eq i 0) k.one k.zero) (entry k S i j)) (λ i i_in.
        ap (λ x. k.mul x (entry k S i j)) (at-table k (length S) (λ i. cond (nat_eq i 0) k.one k.zero) i i_in))
        ∙ sum_of-delta_mul k laws (length S) 0 (λ i. entry k S i j) (λ i. entry-elem k laws n S S-shape i j) positive-S
        ∙ h v (subst (λ m. IsTuple k m v) (sym n-is) v-tuple) (combined_of_killed v v-tuple v-killed) j
        (omega (arith, j_in, n-is))) 0 positive-S)
      where
        positive-S : 0 < length S
        positive-S = omega (arith, positive, S-length)

        first : List (Pair E)
        first = table (length S) (λ i. cond (nat_eq i 0) k.one k.zero)

        first-tuple : IsTuple k (length S) first
        first-tuple = IsTuple-table k (length S) (λ i. cond (nat_eq i 0) k.one k.zero) (λ i _.
            cond_either (IsElem k) (nat_eq i 0) k.one k.zero laws.one-elem laws.zero-elem)

        at-first : at k first 0 ≡ k.one
        at-first = at-table k (length S) (λ i. cond (nat_eq i 0) k.one k.zero) 0 positive-S

        v : List (Pair E)
        v = get_or S 0 []

        v-tuple : IsTuple k n v
        v-tuple = S-shape 0 [] positive-S

        v-killed : IsKilled k w n (fraction_columns o w rows) v
        v-killed = (H.spans v v-tuple).0 (InSpan-member k laws n S S-shape 0 positive-S)

    empty : AreIndependent k w T → kernel ≡ []
    empty h = go kernel refl
      where
        go : (q : List (List (List E))) → kernel ≡ q → kernel ≡ []
        go [] e = e
        go (x ∷ xs) e = absurd (dependent (omega (arith, ap length e)) h)

pub kernel_tells : {E : Type 0} (o : Ops E) (L : FieldLaws o) → KernelsTellIndependence o L
kernel_tells o L w c rows kernel hc n hr B =
    (independent o L w c rows hc n hr kernel B, empty o L w c rows hc n hr kernel B)
