-- The polynomials with the coefficients of another in the other order.
use Rattle.std.specs.Prelude.{◌≡◌, ◌≢◌, ◌<◌, ◌≤◌, ℕ, suc, ◌-◌, List, [], ◌∷◌, length}
use Rattle.std.proofs.Common.{refl, sym, ◌∙◌, ap, arith}
use Rattle.theory_rings.specs.Ops.{Ops, IsElem, FieldLaws}
use Rattle.theory_rings.specs.Sum.{at}
use Rattle.theory_rings.specs.Polynomial.{degree}
use Rattle.theory_rings.proofs.Sums.Lists.{All-table, get_or-table}
use Rattle.theory_rings.proofs.Rings.Elements.{at-elem}
use Rattle.theory_rings.proofs.Polynomials.PolynomialRing.{get_or-trim}
use Rattle.theory_fractions.specs.PolynomialLists.{IsOver}
use Rattle.theory_fractions.specs.Fraction.{Pair, IsFraction, IsLowestTerms}
use Rattle.theory_fractions.proofs.Coefficients.{convolution_of_congr}
use Rattle.spl_poly.specs.Operations.{without_zeros}
use Rattle.spl_poly.proofs.Trimming.{number_test}
use Rattle.spl_field.specs.SmallField.{small_ops, small_laws}
use Rattle.spl_field.specs.declared.small.SmallField.{SmallField}
use Rattle.spl_fraction.specs.Valuation.{reversed, IsSwapped}

length_degree : {E : Type 0} (xs : List E) → 0 < length xs → length xs ≡ suc (degree xs)
length_degree [] l = absurd (omega arith)
length_degree (x ∷ xs) l = refl

pub reversed-over : {E : Type 0} (o : Ops E) (L : FieldLaws o) (n : ℕ) (u : List E) → IsOver o u
    → IsOver o (reversed o n u)
reversed-over o L n u h = All-table (IsElem o) n (λ k. at o u (n - suc k)) (λ k _. at-elem o L u h (n - suc k))

module _ (f : SmallField) where
  abbrev o : Ops ℕ
  o = small_ops f

  -- the coefficients stay as they are where the zeros at the end are dropped
  kept : (xs : List ℕ) (k : ℕ) → at o (without_zeros xs) k ≡ at o xs k
  kept xs k = get_or-trim number_test xs k

  -- the reversed denominator is not 0
  pub reversed-nonzero : (w : Pair ℕ) (n : ℕ) (v : List ℕ) → IsLowestTerms o w.0 w.1 → length w.1 ≤ n
      → v ≡ without_zeros (reversed o n w.1) → v ≢ []
  reversed-nonzero w n v h l e z =
      let L = small_laws f in
      let d = degree w.1 in
      let same : length w.1 ≡ suc d = length_degree w.1 h.denominator_nonzero in
      let short : suc d ≤ n = omega (arith, l, same) in
      let back : d ≡ n - suc (n - suc d) = omega (arith, short) in
      L.one-nonzero (sym h.monic ∙ ap (at o w.1) back
      ∙ sym (get_or-table n (λ k. at o w.1 (n - suc k)) (n - suc d) 0 (omega (arith, short)))
      ∙ sym (kept (reversed o n w.1) (n - suc d)) ∙ ap (λ xs. at o xs (n - suc d)) (sym e ∙ z))

  pub swapped-value : (w c : Pair ℕ) (n : ℕ) (u v : List ℕ) → length w.0 ≤ n → length w.1 ≤ n
      → u ≡ without_zeros (reversed o n w.0) → v ≡ without_zeros (reversed o n w.1) → IsFraction o c u v
      → IsSwapped o w c
  swapped-value w c n u v lu lv eu ev h = record {
    size = n;
    numerator_within = lu;
    denominator_within = lv;
    value = record {
      products = λ k.
          convolution_of_congr o (small_laws f) (at o c.0) (at o (reversed o n w.1)) (at o c.0) (at o v) (λ i. refl)
          (λ i. sym (ap (λ xs. at o xs i) ev ∙ kept (reversed o n w.1) i)) k
          ∙ h.products k
          ∙ convolution_of_congr o (small_laws f) (at o u) (at o c.1) (at o (reversed o n w.0)) (at o c.1)
          (λ i. ap (λ xs. at o xs i) eu ∙ kept (reversed o n w.0) i) (λ i. refl) k;
    };
  }
