-- Rows of polynomials grow by one polynomial, and matrices by one row.
use Rattle.std.specs.Prelude.{◌≡◌, ◌<◌, ℕ, ◌+◌, List, [], ◌∷◌, ◌++◌, length, get_or, All}
use Rattle.std.proofs.Common.{sym, ◌∙◌, ap, subst, arith, length-append}
use Rattle.std.proofs.lemmas.List.{get_or_default}
use Rattle.std.proofs.lemmas.List.Elements.{All-push, All-nil}
use Rattle.theory_rings.specs.Ops.{Ops}
use Rattle.theory_rings.specs.Polynomial.{IsTrimmed}
use Rattle.theory_fractions.specs.PolynomialLists.{IsPolynomialList, IsOver}
use Rattle.theory_rows.specs.Rows.{IsPolynomialRow, IsPolynomialMatrix}

module _ {E : Type 0} (o : Ops E) where
  pub no_polynomials : (row : List (List E)) → row ≡ [] → IsPolynomialRow o 0 row
  no_polynomials row e = record {
    width = ap length e;
    over = subst (All (IsOver o)) (sym e) (All-nil (IsOver o));
    trimmed = subst (All (IsTrimmed o.zero)) (sym e) (All-nil (IsTrimmed o.zero));
  }

  pub more_polynomials : (n : ℕ) (row new : List (List E)) (p : List E) → IsPolynomialRow o n row
      → new ≡ row ++ p ∷ [] → IsPolynomialList o p → IsPolynomialRow o (n + 1) new
  more_polynomials n row new p h e hp = record {
    width = ap length e ∙ length-append row (p ∷ []) ∙ omega (arith, h.width);
    over = subst (All (IsOver o)) (sym e) (All-push (IsOver o) row p h.over hp.over);
    trimmed = subst (All (IsTrimmed o.zero)) (sym e) (All-push (IsTrimmed o.zero) row p h.trimmed hp.trimmed);
  }

  -- a polynomial of a row
  pub polynomial_of_row : (n : ℕ) (row : List (List E)) (l : ℕ) → IsPolynomialRow o n row → l < n
      → IsPolynomialList o (get_or row l [])
  polynomial_of_row n row l h l_in =
      let within : l < length row = omega (arith, l_in, h.width) in
      record { over = h.over l [] within; trimmed = h.trimmed l [] within }

  -- one that was read
  pub polynomial_read : (n : ℕ) (row : List (List E)) (l : ℕ) (p : List E) → IsPolynomialRow o n row → l < n
      → p ≡ get_or row l p → IsPolynomialList o p
  polynomial_read n row l p h l_in e =
      subst (IsPolynomialList o) (sym (e ∙ get_or_default row l p [] (omega (arith, l_in, h.width))))
      (polynomial_of_row n row l h l_in)

  pub no_rows : (w : ℕ) (rows : List (List (List E))) → rows ≡ [] → IsPolynomialMatrix o w rows
  no_rows w rows e = subst (IsPolynomialMatrix o w) (sym e) (All-nil (IsPolynomialRow o w))

  pub more_rows : (w : ℕ) (rows new : List (List (List E))) (row : List (List E)) → IsPolynomialMatrix o w rows
      → new ≡ rows ++ row ∷ [] → IsPolynomialRow o w row → IsPolynomialMatrix o w new
  more_rows w rows new row h e hr =
      subst (IsPolynomialMatrix o w) (sym e) (All-push (IsPolynomialRow o w) rows row h hr)
