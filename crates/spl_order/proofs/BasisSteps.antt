-- What the calls that make a basis of tuples give, put together.
use Rattle.std.specs.Prelude.{◌≡◌, ℕ, List, [], length, get_or, true, false, ◌==◌}
use Rattle.std.specs.List.{All}
use Rattle.std.proofs.Common.{sym, ◌∙◌, ap, subst}
use Rattle.std.proofs.Math.Bool.{true≢false}
use Rattle.std.proofs.lemmas.Bool.{eq-eqb, eqb-true}
use Rattle.std.proofs.lemmas.List.{nil_from_length}
use Rattle.theory_rings.specs.Ops.{Ops, FieldLaws, IsElem}
use Rattle.spl_field.specs.SmallField.{small_ops, small_laws}
use Rattle.spl_field.specs.declared.small.SmallField.{SmallField}
use Rattle.theory_fractions.specs.PolynomialLists.{IsPolynomialList}
use Rattle.theory_fractions.specs.Fraction.{Pair}
use Rattle.theory_fractions.specs.CommonDenominator.{Clears, IsCommonDenominator}
use Rattle.spl_fraction.specs.FractionsOver.{fractions_over}
use Rattle.theory_tables.specs.Matrix.{IsMatrix, width_of}
use Rattle.theory_tables.specs.Subspace.{AreIndependent}
use Rattle.theory_rows.specs.Rows.{IsPolynomialMatrix, IsLatticeBasis, InRowKernel}
use Rattle.theory_bases.specs.Bases.{IsBasis, tuples_of}
use Rattle.theory_bases.specs.Joined.{joined}
use Rattle.theory_bases.proofs.Denominators.{All-joined, denominator_of_tuples}
use Rattle.spl_order.specs.Rows.{AreNumeratorRows}
use Rattle.spl_order.proofs.BasisRows.{matrix-width, rows-matrix, rows-tuples, basis_of_rows, dependent_of_rows}

-- the fractions of all tuples
abbrev all_of : List (List (Pair ℕ)) → List (Pair ℕ)
all_of ts = joined (length ts) (λ i. get_or ts i [])

module _ (F : SmallField) (tuples : List (List (Pair ℕ)))
    (ht : IsMatrix (fractions_over F) (length tuples) tuples) where
  abbrev o : Ops ℕ
  o = small_ops F

  abbrev L : FieldLaws o
  L = small_laws F

  -- the same tuples and field, as calls hand them on
  module _ (ts : List (List (Pair ℕ))) (e : ts ≡ tuples) where
    pub tuples-elems : (G : SmallField) → G ≡ F → All (All (IsElem (fractions_over G))) ts
    tuples-elems G g = subst (λ q. All (All (IsElem (fractions_over q))) ts) (sym g)
        (subst (All (All (IsElem (fractions_over F)))) (sym e) (λ k d l. (ht k d l).of_elements))

    module _ (list items : List (Pair ℕ)) (l : list ≡ all_of ts) (i : items ≡ list) where
      items-are : items ≡ all_of tuples
      items-are = i ∙ l ∙ ap all_of e

      pub items-elems : All (IsElem (fractions_over F)) items
      items-elems = subst (All (IsElem (fractions_over F))) (sym items-are)
          (All-joined (IsElem (fractions_over F)) (length tuples) (λ k. get_or tuples k [])
          (λ k below. (ht k [] below).of_elements))

      pub common_of_items : (c : List ℕ) → IsCommonDenominator o items c → IsCommonDenominator o (all_of tuples) c
      common_of_items c h = subst (λ x. IsCommonDenominator o x c) items-are h

    pub tuples-cleared : (c : List ℕ) → IsCommonDenominator o (all_of tuples) c → (G : SmallField) → G ≡ F
        → All (All (Clears (small_ops G) c)) ts
    tuples-cleared c C G g = subst (λ q. All (All (Clears (small_ops q) c)) ts) (sym g)
        (subst (All (All (Clears o c))) (sym e) (let d = denominator_of_tuples o tuples c C in d.clears))

    pub rows_of_call : (c : List ℕ) (rows : List (List (List ℕ))) (G : SmallField) → G ≡ F
        → AreNumeratorRows (small_ops G) (small_laws G) c ts (length ts) rows
        → AreNumeratorRows o L c tuples (length tuples) rows
    rows_of_call c rows G g h = subst (λ t. AreNumeratorRows o L c t (length t) rows) e
        (subst (λ q. AreNumeratorRows (small_ops q) (small_laws q) c ts (length ts) rows) g h)

  module _ (c : List ℕ) (hc : IsPolynomialList o c) (C : IsCommonDenominator o (all_of tuples) c)
      (rows : List (List (List ℕ))) (R : AreNumeratorRows o L c tuples (length tuples) rows) (G : SmallField)
      (g : G ≡ F) where
    pub rows-wide : IsPolynomialMatrix (small_ops G) (width_of rows) rows
    rows-wide = subst (λ q. IsPolynomialMatrix (small_ops q) (width_of rows) rows) (sym g)
        (matrix-width o (length tuples) rows (rows-matrix o L tuples ht c hc C rows R))

    pub tuples-again : tuples_of o L (record { denominator = c; numerators = rows }) ≡ tuples
    tuples-again = rows-tuples o L tuples ht c hc C rows R

    module _ (kernel : List (List (List ℕ)))
        (B : IsLatticeBasis (small_ops G) (length rows) (InRowKernel (small_ops G) rows) kernel) where
      B' : IsLatticeBasis o (length rows) (InRowKernel o rows) kernel
      B' = subst (λ q. IsLatticeBasis (small_ops q) (length rows) (InRowKernel (small_ops q) rows) kernel) g B

      pub basis_of_empty : (length kernel == 0) ≡ true
          → IsBasis o L (length tuples) (record { denominator = c; numerators = rows })
      basis_of_empty z = basis_of_rows o L tuples ht c hc C rows R kernel B'
          (nil_from_length kernel (eqb-true (length kernel) 0 z))

      pub dependent_of_some : (length kernel == 0) ≡ false
          → AreIndependent (fractions_over F) (length tuples) tuples → ⊥
      dependent_of_some z f = true≢false (sym (eq-eqb (length kernel) 0
          (ap length (dependent_of_rows o L tuples ht c hc C rows R kernel B' f))) ∙ z)
