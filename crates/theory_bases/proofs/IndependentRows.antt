-- The rows of independent tuples over a denominator are independent.
use Rattle.std.specs.Prelude.{◌≡◌, ◌≢◌, ◌<◌, ◌≤◌, ℕ, List, [], length, get_or}
use Rattle.std.proofs.Common.{sym, ◌∙◌, ap, ap₂, arith, ⊎_elim}
use Rattle.std.proofs.lemmas.Bool.{cases_lt}
use Rattle.std.proofs.lemmas.List.{get_or_past}
use Rattle.std.proofs.lemmas.List.Elements.{All-nil}
use Rattle.theory_rings.specs.Ring.{FieldOn}
use Rattle.theory_rings.specs.Ops.{Ops, IsElem, FieldLaws}
use Rattle.theory_rings.specs.Elements.{Elem, Elem-path, elements}
use Rattle.theory_rings.specs.Sum.{at, sum, sum_of, table}
use Rattle.theory_rings.proofs.Rings.Elements.{sum_of-elements, sum_of_congr}
use Rattle.theory_rings.proofs.Rings.RingLaws.{zero-mul}
use Rattle.theory_rings.proofs.Sums.Sums.{sum-mul}
use Rattle.theory_fractions.specs.PolynomialLists.{IsPolynomialList}
use Rattle.theory_fractions.specs.Fraction.{Pair}
use Rattle.theory_fractions.specs.CommonDenominator.{as_fraction}
use Rattle.theory_fractions.proofs.ElementClauses.{zero_is}
use Rattle.theory_fractions.proofs.PolynomialFractions.{as_fraction-elem}
use Rattle.theory_spaces.proofs.Tuples.Tuples.{IsTuple-table, at-table}
use Rattle.theory_tables.specs.Matrix.{entry}
use Rattle.theory_tables.specs.Subspace.{AreIndependent}
use Rattle.theory_rows.specs.Rows.{IsPolynomialRow, IsPolynomialMatrix, IsRowCombination, RowsAreIndependent}
use Rattle.theory_rows.proofs.LiftedRows.{matrix-over, matrix-trimmed, entry-over, entry-trimmed}
use Rattle.theory_bases.specs.Bases.{BasisForm, tuples_of}
use Rattle.theory_bases.proofs.FractionsOver.{K, M, inverse, inverse-elem, entry-tuples, count-tuples}
use Rattle.theory_bases.proofs.PolynomialSums.{as_fraction-sum}

module _ {E : Type 0} (o : Ops E) (L : FieldLaws o) (w : ℕ) (b : BasisForm E) (hd : IsPolynomialList o b.denominator)
    (nonzero : b.denominator ≢ []) (hr : IsPolynomialMatrix o w b.numerators)
    (free : AreIndependent (K o L) w (tuples_of o L b)) where
  abbrev k : Ops (Pair E)
  k = K o L

  abbrev laws : FieldLaws k
  laws = M o L

  abbrev F : FieldOn (Elem k)
  F = elements k laws

  abbrev rows : List (List (List E))
  rows = b.numerators

  abbrev n : ℕ
  n = length rows

  abbrev T : List (List (Pair E))
  T = tuples_of o L b

  abbrev i-d : Elem k
  i-d = (inverse o L b.denominator hd nonzero, inverse-elem o L b.denominator hd nonzero)

  entry-is : (i j : ℕ) → IsPolynomialList o (get_or (get_or rows i []) j [])
  entry-is i j = record { over = matrix-over o L w rows hr i j; trimmed = matrix-trimmed o L w rows hr i j }

  abbrev a : ℕ → ℕ → Elem k
  a i j = (as_fraction o (get_or (get_or rows i []) j []), as_fraction-elem o L (get_or (get_or rows i []) j []) (entry-is i j))

  module _ (c : List (List E)) (hc : IsPolynomialRow o n c) (z : IsRowCombination o c rows []) where
    weight-is : (i : ℕ) → IsPolynomialList o (get_or c i [])
    weight-is i = record { over = entry-over o L n c hc i; trimmed = entry-trimmed o L n c hc i }

    abbrev u : ℕ → Elem k
    u i = (as_fraction o (get_or c i []), as_fraction-elem o L (get_or c i []) (weight-is i))

    abbrev value : ℕ → Pair E
    value i = as_fraction o (get_or c i [])

    combined : (j : ℕ) → sum F.monoid n (λ i. F.◌⊗◌ (u i) (a i j)) ≡ F.zero
    combined j = Elem-path k (sum F.monoid n (λ i. F.◌⊗◌ (u i) (a i j))) F.zero
        (sym (sum_of-elements k laws n (λ i. F.◌⊗◌ (u i) (a i j)))
        ∙ sym (as_fraction-sum o L n (λ i. get_or c i []) (λ i. get_or (get_or rows i []) j []) []
        (λ i _. weight-is i) (λ i _. entry-is i j) (record { over = All-nil (IsElem o); trimmed = tt }) (z j))
        ∙ sym (zero_is o L))

    kills : (j : ℕ) → j < w → sum_of k (length T) (λ i. k.mul (at k (table (length T) value) i) (entry k T i j)) ≡ k.zero
    kills j j_in =
        sum_of_congr k (length T) (λ i. k.mul (at k (table (length T) value) i) (entry k T i j))
        (λ i. (F.◌⊗◌ (F.◌⊗◌ (u i) (a i j)) i-d).0)
        (λ i i_in. ap₂ k.mul (at-table k (length T) value i i_in)
        (entry-tuples o L w b hr i j (omega (arith, i_in, count-tuples o L b)) j_in)
        ∙ ap (λ (x : Elem k). x.0) (sym (F.mul_assoc (u i) (a i j) i-d)))
        ∙ ap (λ t. sum_of k t (λ i. (F.◌⊗◌ (F.◌⊗◌ (u i) (a i j)) i-d).0)) (count-tuples o L b)
        ∙ sum_of-elements k laws n (λ i. F.◌⊗◌ (F.◌⊗◌ (u i) (a i j)) i-d)
        ∙ ap (λ (x : Elem k). x.0) (sym (sum-mul F.ring n i-d (λ i. F.◌⊗◌ (u i) (a i j)))
        ∙ ap (λ x. F.◌⊗◌ x i-d) (combined j) ∙ zero-mul F.ring i-d)

    zero_weight : (i : ℕ) → get_or c i [] ≡ []
    zero_weight i = ⊎_elim
        (λ (low : i < n).
        let within : i < length T = omega (arith, low, count-tuples o L b) in
        ap (λ (x : Pair E). x.0) (sym (at-table k (length T) value i within)
        ∙ free (table (length T) value) (IsTuple-table k (length T) value (λ l _. (u l).1)) kills i within
        ∙ zero_is o L))
        (λ (high : n ≤ i). get_or_past c i [] (omega (arith, high, hc.width)))
        (cases_lt i n)

  pub rows_independent : RowsAreIndependent o rows
  rows_independent c hc z = zero_weight c hc z
