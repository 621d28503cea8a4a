-- The combinations of the rows of a basis by weights, and multiples of these rows, over a denominator, as tuples, which
-- span everything.
use Rattle.std.specs.Prelude.{◌≡◌, ◌≢◌, ◌<◌, ◌+◌, ℕ, List, [], ◌∷◌, ◌++◌, length, get_or, map}
use Rattle.std.proofs.Common.{refl, sym, ◌∙◌, ap, ap₂, subst, arith, length-append}
use Rattle.std.proofs.lemmas.List.{get_or-append-add, map-append}
use Rattle.std.proofs.lemmas.List.Elements.{All-append, All-get_or}
use Rattle.theory_rings.specs.Ring.{FieldOn}
use Rattle.theory_rings.specs.Ops.{Ops, FieldLaws}
use Rattle.theory_rings.specs.Elements.{Elem}
use Rattle.theory_rings.specs.Sum.{at, table}
use Rattle.theory_rings.proofs.Rings.Fields.{mul-inv}
use Rattle.theory_rings.proofs.Rings.Solver.{◌⊠◌, v0, v1, v2, v3, v4, var, by_sorted}
use Rattle.theory_rings.proofs.Sums.Lists.{table_congr}
use Rattle.theory_fractions.specs.PolynomialLists.{IsPolynomialList}
use Rattle.theory_fractions.specs.Fraction.{Pair}
use Rattle.theory_fractions.specs.CommonDenominator.{as_fraction}
use Rattle.theory_fractions.proofs.CommonDenominators.{nonzero_of_monic}
use Rattle.theory_fractions.proofs.ElementClauses.{ne_zero}
use Rattle.theory_spaces.specs.Linear.{InSpan}
use Rattle.theory_spaces.specs.Module.{ModuleOn}
use Rattle.theory_spaces.specs.Tuples.{IsTuple, Tuple}
use Rattle.theory_spaces.proofs.Linear.Modules.{InSpan-scale, InSpan-member}
use Rattle.theory_spaces.proofs.Tuples.Tuples.{tuples, Tuple-path, IsTuple-ext, at-table, tuples-scale}
use Rattle.theory_tables.specs.Matrix.{entry, IsMatrix, width_of}
use Rattle.theory_tables.specs.Subspace as lists
use Rattle.theory_tables.proofs.Algebras.Bridge.{row, row-at, row-is, from_span, IsTuple-of}
use Rattle.theory_tables.proofs.Rows.Spans.{InSpan_trans}
use Rattle.theory_rows.specs.Rows.{IsPolynomialRow, IsPolynomialMatrix}
use Rattle.theory_rows.proofs.LiftedRows.{matrix-over, matrix-trimmed}
use Rattle.theory_bases.specs.Bases.{BasisForm, IsBasis, fraction_over, tuples_of}
use Rattle.theory_bases.proofs.FractionsOver.{K, M, inverse, count-tuples, entry-tuples, over_rows-matrix, map-table}
use Rattle.theory_bases.proofs.PolynomialDivisors.{fraction_field, up}
use Rattle.theory_bases.proofs.SpanningRows.{spans_of_count}
use Rattle.spl_order.specs.Values.{HasMatrix, fraction_entry, product_entry}
use Rattle.spl_order.specs.Lifts.{combined_tuples, multiple_tuples}
use Rattle.spl_order.proofs.Values.{matrix_is}

-- the width of rows of w entries, of which there are at least w
pub width-is : {E : Type 0} (o : Ops E) (w : ℕ) (rows : List (List (List E))) → IsPolynomialMatrix o w rows
    → (k : ℕ) → length rows ≡ k + w → width_of rows ≡ w
width-is o w [] h k e = omega (arith, e)
width-is o w (x ∷ xs) h k e =
    let first = All-get_or (IsPolynomialRow o w) (x ∷ xs) 0 [] (omega arith) h in first.width

-- products with, and multiples of, what is the n numerators of a basis
module _ {E : Type 0} (o : Ops E) (L : FieldLaws o) (n : ℕ) (b : BasisForm E) (basis : IsBasis o L n b)
    (R : List (List (List E))) (R-is : R ≡ b.numerators) where
  numerators-count : length b.numerators ≡ n
  numerators-count = sym (count-tuples o L b) ∙ (let i = basis.independent in i.count)

  pub weighted-matrix : (w W P : List (List (List E))) → w ≡ W
      → HasMatrix o (product_entry o L (length R) w R) (length w) n P
      → HasMatrix o (product_entry o L n W b.numerators) (length W) n P
  weighted-matrix w W P e h =
      subst (λ t. HasMatrix o (product_entry o L t W b.numerators) (length W) n P) numerators-count
      (subst (λ r. HasMatrix o (product_entry o L (length r) W r) (length W) n P) R-is
      (subst (λ v. HasMatrix o (product_entry o L (length R) v R) (length v) n P) e h))

  pub multiplied-matrix : (m : List E) (Q : List (List (List E)))
      → (let k : Ops (Pair E) = K o L in
      HasMatrix o (λ i j. k.mul (as_fraction o m) (fraction_entry o R i j)) (length R) n Q
      → HasMatrix o (λ i j. k.mul (as_fraction o m) (fraction_entry o b.numerators i j)) n n Q)
  multiplied-matrix m Q h =
      let k : Ops (Pair E) = K o L in
      subst (λ t. HasMatrix o (λ i j. k.mul (as_fraction o m) (fraction_entry o b.numerators i j)) t n Q) numerators-count
      (subst (λ r. HasMatrix o (λ i j. k.mul (as_fraction o m) (fraction_entry o r i j)) (length r) n Q) R-is h)

module _ {E : Type 0} (o : Ops E) (L : FieldLaws o) (n : ℕ) (c : List E) (hc : IsPolynomialList o c) (nc : c ≢ []) where
  abbrev k : Ops (Pair E)
  k = K o L

  abbrev F : FieldOn (Elem k)
  F = fraction_field o L

  abbrev ic : Pair E
  ic = inverse o L c hc nc

  abbrev over_c : List (List (List E)) → List (List (Pair E))
  over_c rows = tuples_of o L (record { denominator = c; numerators = rows })

  -- rows with given values over c
  pub values-tuples : (value : ℕ → ℕ → Pair E) (h : ℕ) (rows : List (List (List E))) → HasMatrix o value h n rows
      → over_c rows ≡ table h (λ i. table n (λ j. k.mul (value i j) ic))
  values-tuples value h rows H =
      let f = fraction_over o L c in
      map-table (map f) rows []
      ∙ ap (λ t. table t (λ i. map f (get_or rows i []))) H.count
      ∙ table_congr h (λ i. map f (get_or rows i [])) (λ i. table n (λ j. k.mul (value i j) ic)) (λ i i_in.
      let R = H.each i i_in in
      map-table f (get_or rows i []) []
      ∙ ap (λ t. table t (λ j. f (get_or (get_or rows i []) j []))) R.count
      ∙ table_congr n (λ j. f (get_or (get_or rows i []) j [])) (λ j. k.mul (value i j) ic)
      (λ j j_in. ap (λ x. k.mul x ic) (R.values j j_in)))

  module _ (m : List E) (hm : IsPolynomialList o m) (nm : m ≢ []) (b : BasisForm E) (basis : IsBasis o L n b)
      (weights : List (List (List E))) (P Q : List (List (List E)))
      (HP : HasMatrix o (product_entry o L n weights b.numerators) (length weights) n P)
      (HQ : HasMatrix o (λ i j. k.mul (as_fraction o m) (fraction_entry o b.numerators i j)) n n Q) where
    abbrev rows : List (List (List E))
    rows = b.numerators

    abbrev all : List (List (List E))
    all = P ++ Q

    P-matrix : IsPolynomialMatrix o n P
    P-matrix = matrix_is o (product_entry o L n weights rows) (length weights) n P HP

    Q-matrix : IsPolynomialMatrix o n Q
    Q-matrix = matrix_is o (λ i j. k.mul (as_fraction o m) (fraction_entry o rows i j)) n n Q HQ

    pub all-matrix : IsPolynomialMatrix o n all
    all-matrix = All-append (IsPolynomialRow o n) P Q P-matrix Q-matrix

    all-count : length all ≡ length P + n
    all-count = length-append P Q ∙ ap (λ t. length P + t) HQ.count

    pub all-width : width_of all ≡ n
    all-width = width-is o n all all-matrix (length P) all-count

    pub all-tuples : over_c all ≡ combined_tuples o L n c weights rows ++ multiple_tuples o L n c m rows
    all-tuples = map-append (map (fraction_over o L c)) P Q
        ∙ ap₂ (λ x y. x ++ y) (values-tuples (product_entry o L n weights rows) (length weights) P HP)
        (values-tuples (λ i j. k.mul (as_fraction o m) (fraction_entry o rows i j)) n Q HQ)

    abbrev d : List E
    d = b.denominator

    hd : IsPolynomialList o d
    hd = basis.polynomial

    nd : d ≢ []
    nd = nonzero_of_monic o L d (let l = basis.least in l.monic)

    abbrev fc : Elem k
    fc = up o L c hc

    abbrev fm : Elem k
    fm = up o L m hm

    abbrev fd : Elem k
    fd = up o L d hd

    not_zero : (u : List E) (hu : IsPolynomialList o u) → u ≢ [] → up o L u hu ≢ F.zero
    not_zero u hu nu z = ne_zero o L (as_fraction o u) nu (ap (λ (t : Elem k). t.0) z)

    t : Elem k
    t = F.◌⊗◌ (F.◌⊗◌ fc (F.inv fm)) (F.inv fd)

    -- t times (m·r)/c is r/d
    unscaled : (r : Elem k) → F.◌⊗◌ t (F.◌⊗◌ (F.◌⊗◌ fm r) (F.inv fc)) ≡ F.◌⊗◌ r (F.inv fd)
    unfolding t
    unscaled r =
        by_sorted F.cring (fc ∷ F.inv fm ∷ F.inv fd ∷ fm ∷ r ∷ F.inv fc ∷ [])
        (((v0 ⊠ v1) ⊠ v2) ⊠ ((v3 ⊠ v4) ⊠ var 5)) ((v0 ⊠ var 5) ⊠ ((v3 ⊠ v1) ⊠ (v4 ⊠ v2))) refl
        ∙ ap₂ (λ x y. F.◌⊗◌ x (F.◌⊗◌ y (F.◌⊗◌ r (F.inv fd)))) (mul-inv F fc (not_zero c hc nc))
        (mul-inv F fm (not_zero m hm nm))
        ∙ F.one-mul (F.◌⊗◌ F.one (F.◌⊗◌ r (F.inv fd))) ∙ F.one-mul (F.◌⊗◌ r (F.inv fd))

    abbrev T : List (List (Pair E))
    T = tuples_of o L b

    abbrev U : List (List (Pair E))
    U = over_c all

    T-matrix : IsMatrix k n T
    T-matrix = over_rows-matrix o L d hd nd n rows basis.rows

    T-count : length T ≡ n
    T-count = (let i = basis.independent in i.count)

    rows-count : length rows ≡ n
    rows-count = sym (count-tuples o L b) ∙ T-count

    U-matrix : IsMatrix k n U
    U-matrix = over_rows-matrix o L c hc nc n all all-matrix

    U-count : length U ≡ length P + n
    U-count = count-tuples o L (record { denominator = c; numerators = all }) ∙ all-count

    abbrev V : ModuleOn F.ring (Tuple k n)
    V = tuples k (M o L) n

    -- an entry of the multiples
    U-entry : (i j : ℕ) → i < n → j < n
        → entry k U (length P + i) j ≡ k.mul (k.mul (as_fraction o m) (fraction_entry o rows i j)) ic
    U-entry i j i_in j_in =
        let R = HQ.each i i_in in
        entry-tuples o L n (record { denominator = c; numerators = all }) all-matrix (length P + i) j
        (omega (arith, i_in, all-count)) j_in
        ∙ ap (λ (x : List (List E)). fraction_over o L c (get_or x j [])) (get_or-append-add P Q i [])
        ∙ ap (λ x. k.mul x ic) (R.values j j_in)

    T-entry : (i j : ℕ) → i < n → j < n
        → entry k T i j ≡ k.mul (fraction_entry o rows i j) (inverse o L d hd nd)
    T-entry i j i_in j_in = entry-tuples o L n b basis.rows i j (omega (arith, i_in, rows-count)) j_in

    item : ℕ → ℕ → Elem k
    item i j = up o L (get_or (get_or rows i []) j [])
        (record { over = matrix-over o L n rows basis.rows i j; trimmed = matrix-trimmed o L n rows basis.rows i j })

    -- a tuple of the basis is a multiple of one of the rows
    scaled-is : (i : ℕ) → i < n → V.◌•◌ t (row k (M o L) n U U-matrix (length P + i)) ≡ row k (M o L) n T T-matrix i
    unfolding item
    scaled-is i i_in =
        let u = row k (M o L) n U U-matrix (length P + i) in
        let x = V.◌•◌ t u in
        let y = row k (M o L) n T T-matrix i in
        Tuple-path k (M o L) n x y (IsTuple-ext k n x.0 y.0 (IsTuple-of k (M o L) n x) (IsTuple-of k (M o L) n y)
        (λ j j_in.
        ap (λ xs. at k xs j) (tuples-scale k (M o L) n t u)
        ∙ at-table k n (λ j. k.mul t.0 (at k u.0 j)) j j_in
        ∙ ap (k.mul t.0) (row-at k (M o L) n U U-matrix (length P + i) j j_in ∙ U-entry i j i_in j_in)
        ∙ ap (λ (z : Elem k). z.0) (unscaled (item i j))
        ∙ sym (T-entry i j i_in j_in) ∙ sym (row-at k (M o L) n T T-matrix i j j_in)))

    member : (i : ℕ) → i < length T → lists.InSpan k n U (get_or T i [])
    member i l =
        let i_in : i < n = omega (arith, l, T-count) in
        let y = row k (M o L) n T T-matrix i in
        subst (lists.InSpan k n U) (row-is k (M o L) n T T-matrix i l)
        (from_span k (M o L) n U U-matrix y
        (subst (InSpan V (length U) (row k (M o L) n U U-matrix)) (scaled-is i i_in)
        (InSpan-scale V (length U) (row k (M o L) n U U-matrix) t (row k (M o L) n U U-matrix (length P + i))
        (InSpan-member V (length U) (length P + i) (row k (M o L) n U U-matrix) (omega (arith, i_in, U-count))))))

    pub all_span : (v : List (Pair E)) → IsTuple k n v → lists.InSpan k n U v
    all_span v hv =
        let i = basis.independent in
        InSpan_trans k (M o L) n T U v U-matrix member (spans_of_count k (M o L) n T T-matrix i.independent i.count v hv)
