-- Polynomials over a denominator other than 0 as fractions, and the entries of the tuples of a basis.
use Rattle.std.specs.Prelude.{◌≡◌, ◌≢◌, ◌<◌, ℕ, List, [], length, get_or, map}
use Rattle.std.proofs.Common.{sym, ◌∙◌, ap, arith, ext_get_or}
use Rattle.std.proofs.lemmas.List.{length-map, get_or-map}
use Rattle.std.proofs.lemmas.List.Elements.{All-map, All-get_or}
use Rattle.theory_rings.specs.Ops.{Ops, IsElem, FieldLaws}
use Rattle.theory_rings.specs.Sum.{table}
use Rattle.theory_rings.proofs.Sums.Lists.{length-table, get_or-table}
use Rattle.theory_fractions.specs.PolynomialLists.{IsPolynomialList}
use Rattle.theory_rings.specs.Elements.{elements}
use Rattle.theory_rings.proofs.Polynomials.Bezout.{field_polynomials}
use Rattle.theory_fractions.specs.Fraction.{Pair, IsFraction}
use Rattle.theory_fractions.specs.FractionOps.{polynomial_of, fraction_ops}
use Rattle.theory_fractions.specs.CommonDenominator.{as_fraction}
use Rattle.theory_fractions.proofs.FractionField.{fraction_laws, polynomial_of-one}
use Rattle.theory_fractions.proofs.PolynomialFractions.{as_fraction-elem}
use Rattle.theory_fractions.proofs.ElementClauses.{ne_zero, lowest_of_elem, mul_is}
use Rattle.theory_fractions.proofs.PairEquations.{pair_over, product_of_eq}
use Rattle.theory_fractions.proofs.Reducing.{eq_of_fraction}
use Rattle.theory_spaces.specs.Tuples.{IsTuple}
use Rattle.theory_tables.specs.Matrix.{entry, IsMatrix}
use Rattle.theory_rows.specs.Rows.{IsPolynomialRow, IsPolynomialMatrix}
use Rattle.theory_bases.specs.Bases.{BasisForm, fraction_over, tuples_of}

module _ {E : Type 0} (o : Ops E) (L : FieldLaws o) where
  abbrev pub K : Ops (Pair E)
  K = fraction_ops o L

  abbrev pub M : FieldLaws K
  M = fraction_laws o L

  -- a denominator other than 0
  module _ (c : List E) (hc : IsPolynomialList o c) (n : c ≢ []) where
    abbrev d : Pair E
    d = as_fraction o c

    d-elem : IsElem K d
    d-elem = as_fraction-elem o L c hc

    d-nonzero : d ≡ K.zero → ⊥
    d-nonzero = ne_zero o L d n

    -- the inverse of the denominator
    abbrev pub inverse : Pair E
    inverse = K.inv d

    pub inverse-elem : IsElem K inverse
    inverse-elem = M.inv-elem d d-elem

    pub inverse-mul : K.mul inverse d ≡ K.one
    inverse-mul = M.inv-mul d d-elem d-nonzero

    pub over-elem : (u : List E) → IsPolynomialList o u → IsElem K (fraction_over o L c u)
    over-elem u hu = M.mul-elem (as_fraction o u) inverse (as_fraction-elem o L u hu) inverse-elem

    -- x / c times c is x
    pub divided-mul : (x : Pair E) → IsElem K x → K.mul (K.mul x inverse) d ≡ x
    divided-mul x hx = M.mul_assoc x inverse d hx inverse-elem d-elem ∙ ap (K.mul x) inverse-mul
        ∙ M.mul_comm x K.one hx M.one-elem ∙ M.one-mul x hx

    pub mul-divided : (x : Pair E) → IsElem K x → K.mul (K.mul x d) inverse ≡ x
    mul-divided x hx = M.mul_assoc x d inverse hx d-elem inverse-elem
        ∙ ap (K.mul x) (M.mul_comm d inverse d-elem inverse-elem ∙ inverse-mul)
        ∙ M.mul_comm x K.one hx M.one-elem ∙ M.one-mul x hx

    -- c times a fraction over c
    pub mul-over : (u : List E) → IsPolynomialList o u → K.mul d (fraction_over o L c u) ≡ as_fraction o u
    mul-over u hu = M.mul_comm d (fraction_over o L c u) d-elem (over-elem u hu)
        ∙ divided-mul (as_fraction o u) (as_fraction-elem o L u hu)

    -- the fraction of which u is c times
    pub over_of_multiple : (u : List E) (w : Pair E) → IsElem K w → as_fraction o u ≡ K.mul d w
        → fraction_over o L c u ≡ w
    over_of_multiple u w hw e = ap (λ x. K.mul x inverse) (e ∙ M.mul_comm d w d-elem hw) ∙ mul-divided w hw

    -- a fraction in lowest terms with the value u / c
    pub over_is : (u : List E) (w : Pair E) → IsPolynomialList o u → IsElem K w → IsFraction o w u c
        → w ≡ fraction_over o L c u
    over_is u w hu hw e =
        let low = lowest_of_elem o L w hw in
        let low_d = lowest_of_elem o L d d-elem in
        let u_elem = as_fraction-elem o L u hu in
        let low_u = lowest_of_elem o L (as_fraction o u) u_elem in
        let P = field_polynomials (elements o L) in
        let poly = polynomial_of o L in
        sym (over_of_multiple u w hw (mul_is o L d w (as_fraction o u) d-elem hw low_u
        (product_of_eq o L d w (as_fraction o u) (pair_over o L d low_d) (pair_over o L w low)
        (pair_over o L (as_fraction o u) low_u)
        (ap (λ x. P.◌⊗◌ (poly u) (P.◌⊗◌ x (poly w.1))) (polynomial_of-one o L)
        ∙ ap (P.◌⊗◌ (poly u)) (P.one-mul (poly w.1))
        ∙ sym (eq_of_fraction o L w u c low.numerator_over low.denominator_over hu.over hc.over e)
        ∙ P.mul_comm (poly w.0) (poly c)
        ∙ sym (P.mul_comm (P.◌⊗◌ (poly c) (poly w.0)) P.one ∙ P.one-mul (P.◌⊗◌ (poly c) (poly w.0)))
        ∙ ap (P.◌⊗◌ (P.◌⊗◌ (poly c) (poly w.0))) (sym (polynomial_of-one o L))))))

    -- ---- rows

    pub over_row-tuple : (w : ℕ) (row : List (List E)) → IsPolynomialRow o w row
        → IsTuple K w (map (fraction_over o L c) row)
    over_row-tuple w row h = record {
      right_length = length-map row (fraction_over o L c) ∙ h.width;
      of_elements = All-map (IsElem K) (fraction_over o L c) row
          (λ k x l. over-elem (get_or row k x) (record { over = h.over k x l; trimmed = h.trimmed k x l }));
    }

    pub over_rows-matrix : (w : ℕ) (rows : List (List (List E))) → IsPolynomialMatrix o w rows
        → IsMatrix K w (map (map (fraction_over o L c)) rows)
    over_rows-matrix w rows h = All-map (IsTuple K w) (map (fraction_over o L c)) rows
        (λ k x l. over_row-tuple w (get_or rows k x) (h k x l))

  pub count-tuples : (b : BasisForm E) → length (tuples_of o L b) ≡ length b.numerators
  count-tuples b = length-map b.numerators (map (fraction_over o L b.denominator))

  -- an entry of the tuples
  pub entry-tuples : (w : ℕ) (b : BasisForm E) → IsPolynomialMatrix o w b.numerators → (i j : ℕ)
      → i < length b.numerators → j < w
      → entry K (tuples_of o L b) i j ≡ fraction_over o L b.denominator (get_or (get_or b.numerators i []) j [])
  entry-tuples w b h i j i_in j_in =
      let rows = b.numerators in
      let f = fraction_over o L b.denominator in
      let row = All-get_or (IsPolynomialRow o w) rows i [] i_in h in
      ap (λ r. get_or r j K.zero) (get_or-map (map f) rows i [] [] i_in)
      ∙ get_or-map f (get_or rows i []) j [] K.zero (omega (arith, j_in, row.width))

-- a mapped list as a table
pub map-table : {X Y : Type 0} (f : X → Y) (xs : List X) (e : X) → map f xs ≡ table (length xs) (λ i. f (get_or xs i e))
map-table f xs e = ext_get_or (f e) (map f xs) (table (length xs) (λ i. f (get_or xs i e)))
    (length-map xs f ∙ sym (length-table (length xs) (λ i. f (get_or xs i e))))
    (λ i l. get_or-map f xs i e (f e) (omega (arith, l, length-map xs f))
    ∙ sym (get_or-table (length xs) (λ i. f (get_or xs i e)) i (f e) (omega (arith, l, length-map xs f))))
