-- Rows of polynomials that are multiples of tuples: the steps by which they grow, and the tuples that they are over the
-- multiplier.
use Rattle.std.specs.Prelude.{◌≡◌, ◌≢◌, ℕ, ◌+◌, ◌<◌, List, [], ◌∷◌, ◌++◌, length, get_or, map}
use Rattle.std.proofs.Common.{sym, ◌∙◌, ap, subst, arith, below_more, length-append, ext_get_or}
use Rattle.std.proofs.lemmas.List.{get_or_push, length-map, get_or-map}
use Rattle.std.proofs.lemmas.List.Elements.{All-from_get_or, All-get_or}
use Rattle.std.proofs.Math.ListN.{get_or-append}
use Rattle.theory_rings.specs.Ops.{Ops, IsElem, FieldLaws}
use Rattle.theory_rings.specs.Polynomial.{IsTrimmed}
use Rattle.theory_fractions.specs.PolynomialLists.{IsOver, IsPolynomialList}
use Rattle.theory_fractions.specs.Fraction.{Pair}
use Rattle.theory_fractions.specs.FractionOps.{fraction_ops}
use Rattle.theory_spaces.specs.Tuples.{IsTuple}
use Rattle.theory_tables.specs.Matrix.{IsMatrix}
use Rattle.theory_rows.specs.Rows.{IsPolynomialRow, IsPolynomialMatrix}
use Rattle.theory_bases.specs.Bases.{fraction_over, tuples_of}
use Rattle.theory_bases.proofs.FractionsOver.{over_of_multiple}
use Rattle.spl_numerators.specs.Numerators.{HasMultiples}
use Rattle.spl_order.specs.Rows.{AreNumeratorRows}

module _ {E : Type 0} (o : Ops E) (L : FieldLaws o) where
  abbrev K : Ops (Pair E)
  K = fraction_ops o L

  pub no_rows : (c : List E) (tuples : List (List (Pair E))) (rows : List (List (List E))) → rows ≡ []
      → AreNumeratorRows o L c tuples 0 rows
  no_rows c tuples rows e = record { count = ap length e; each = λ i l. absurd (omega arith) }

  -- one more
  pub more_rows : (c : List E) (tuples : List (List (Pair E))) (n : ℕ) (before after : List (List (List E)))
      (row : List (List E)) → AreNumeratorRows o L c tuples n before → after ≡ before ++ row ∷ []
      → HasMultiples o L c (get_or tuples n []) (length (get_or tuples n [])) row
      → AreNumeratorRows o L c tuples (n + 1) after
  more_rows c tuples n before after row h e r = record {
    count = ap length e ∙ length-append before (row ∷ []) ∙ omega (arith, h.count);
    each = below_more (λ i. Is i (get_or after i [])) n
        (λ i l. subst (Is i) (sym (ap (λ xs. get_or xs i []) e
        ∙ get_or-append before (row ∷ []) [] i (omega (arith, l, h.count)))) (h.each i l))
        (subst (Is n) (sym (ap (λ xs. get_or xs n []) e ∙ get_or_push before row [] n (omega (arith, h.count)))) r);
  }
    where
      Is : ℕ → List (List E) → Type 0
      Is i x = HasMultiples o L c (get_or tuples i []) (length (get_or tuples i [])) x

  -- the multiples of a tuple of w fractions
  module _ (c : List E) (hc : IsPolynomialList o c) (n : c ≢ []) (w : ℕ) (tuple : List (Pair E))
      (ht : IsTuple K w tuple) (row : List (List E)) (h : HasMultiples o L c tuple (length tuple) row) where
    row_width : length row ≡ w
    row_width = h.count ∙ ht.right_length

    pub multiples-row : IsPolynomialRow o w row
    multiples-row = record {
      width = row_width;
      over = All-from_get_or (IsOver o) row []
          (λ i l. let p = h.polynomials i (omega (arith, l, h.count)) in p.over);
      trimmed = All-from_get_or (IsTrimmed o.zero) row []
          (λ i l. let p = h.polynomials i (omega (arith, l, h.count)) in p.trimmed);
    }

    pub multiples-tuple : map (fraction_over o L c) row ≡ tuple
    multiples-tuple = ext_get_or K.zero (map (fraction_over o L c) row) tuple
        (length-map row (fraction_over o L c) ∙ h.count)
        (λ i l. let below : i < length row = omega (arith, l, length-map row (fraction_over o L c)) in
        let inside : i < length tuple = omega (arith, below, h.count) in
        get_or-map (fraction_over o L c) row i [] K.zero below
        ∙ over_of_multiple o L c hc n (get_or row i []) (get_or tuple i K.zero)
        (All-get_or (IsElem K) tuple i K.zero inside ht.of_elements) (h.multiple i inside))

  module _ (c : List E) (hc : IsPolynomialList o c) (n : c ≢ []) (w : ℕ) (tuples : List (List (Pair E)))
      (ht : IsMatrix K w tuples) (rows : List (List (List E)))
      (h : AreNumeratorRows o L c tuples (length tuples) rows) where
    pub numerators-matrix : IsPolynomialMatrix o w rows
    numerators-matrix = All-from_get_or (IsPolynomialRow o w) rows [] (λ i l.
        let inside : i < length tuples = omega (arith, l, h.count) in
        multiples-row c hc n w (get_or tuples i []) (ht i [] inside) (get_or rows i []) (h.each i inside))

    pub numerators-tuples : tuples_of o L (record { denominator = c; numerators = rows }) ≡ tuples
    numerators-tuples = ext_get_or [] (map (map (fraction_over o L c)) rows) tuples
        (length-map rows (map (fraction_over o L c)) ∙ h.count)
        (λ i l. let below : i < length rows = omega (arith, l, length-map rows (map (fraction_over o L c))) in
        let inside : i < length tuples = omega (arith, below, h.count) in
        get_or-map (map (fraction_over o L c)) rows i [] [] below
        ∙ multiples-tuple c hc n w (get_or tuples i []) (ht i [] inside) (get_or rows i []) (h.each i inside))
