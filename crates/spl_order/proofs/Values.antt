-- How rows and matrices of polynomials with given values grow.
use Rattle.std.specs.Prelude.{◌≡◌, ℕ, ◌+◌, ◌<◌, List, [], ◌∷◌, ◌++◌, length, get_or}
use Rattle.std.proofs.Common.{sym, ◌∙◌, ap, subst, arith, ext_get_or, length-append}
use Rattle.std.specs.List.{All}
use Rattle.std.proofs.lemmas.List.{get_or_default}
use Rattle.std.proofs.lemmas.List.Elements.{All-from_get_or}
use Rattle.theory_rings.specs.Ops.{Ops}
use Rattle.theory_rings.specs.Polynomial.{IsTrimmed}
use Rattle.theory_fractions.specs.PolynomialLists.{IsOver, IsPolynomialList}
use Rattle.theory_fractions.specs.Fraction.{Pair}
use Rattle.theory_fractions.specs.CommonDenominator.{as_fraction}
use Rattle.theory_tables.proofs.Rows.Spans.{grow_at}
use Rattle.theory_rows.specs.Rows.{IsPolynomialRow, IsPolynomialMatrix}
use Rattle.spl_order.specs.Values.{HasRow, HasMatrix}

pub longer : {X : Type 0} (n : ℕ) (before after : List X) (x : X) → length before ≡ n → after ≡ before ++ x ∷ []
    → length after ≡ n + 1
longer n before after x h e = ap length e ∙ length-append before (x ∷ []) ∙ omega (arith, h)

module _ {E : Type 0} (o : Ops E) where
  pub no_row : (value : ℕ → Pair E) (row : List (List E)) → row ≡ [] → HasRow o value 0 row
  no_row value row e = record {
    count = ap length e;
    polynomials = λ j l. absurd (omega arith);
    values = λ j l. absurd (omega arith);
  }

  pub more_row : (value : ℕ → Pair E) (n : ℕ) (before after : List (List E)) (x : List E) → HasRow o value n before
      → after ≡ before ++ x ∷ [] → IsPolynomialList o x → as_fraction o x ≡ value n → HasRow o value (n + 1) after
  more_row value n before after x h e hx v = record {
    count = longer n before after x h.count e;
    polynomials = grow_at (λ _. IsPolynomialList o) [] n before after x h.count h.polynomials hx e;
    values = grow_at (λ j u. as_fraction o u ≡ value j) [] n before after x h.count h.values v e;
  }

  pub no_rows : (value : ℕ → ℕ → Pair E) (w : ℕ) (rows : List (List (List E))) → rows ≡ [] → HasMatrix o value 0 w rows
  no_rows value w rows e = record { count = ap length e; each = λ j l. absurd (omega arith) }

  pub more_rows : (value : ℕ → ℕ → Pair E) (w n : ℕ) (before after : List (List (List E))) (x : List (List E))
      → HasMatrix o value n w before → after ≡ before ++ x ∷ [] → HasRow o (value n) w x
      → HasMatrix o value (n + 1) w after
  more_rows value w n before after x h e hx = record {
    count = longer n before after x h.count e;
    each = grow_at (λ i. HasRow o (value i) w) [] n before after x h.count h.each hx e;
  }

  pub row_is : (value : ℕ → Pair E) (w : ℕ) (row : List (List E)) → HasRow o value w row → IsPolynomialRow o w row
  row_is value w row h = record {
    width = h.count;
    over = All-from_get_or (IsOver o) row [] (λ j l. let p = h.polynomials j (omega (arith, l, h.count)) in p.over);
    trimmed = All-from_get_or (IsTrimmed o.zero) row []
        (λ j l. let p = h.polynomials j (omega (arith, l, h.count)) in p.trimmed);
  }

  -- the values say what the polynomials are
  pub row_unique : (value : ℕ → Pair E) (w : ℕ) (a b : List (List E)) → HasRow o value w a → HasRow o value w b → a ≡ b
  row_unique value w a b ha hb = ext_get_or [] a b (ha.count ∙ sym hb.count) (λ j l.
      let j_in : j < w = omega (arith, l, ha.count) in
      ap (λ (p : Pair E). p.0) (ha.values j j_in ∙ sym (hb.values j j_in)))

  pub matrix_is : (value : ℕ → ℕ → Pair E) (h w : ℕ) (rows : List (List (List E))) → HasMatrix o value h w rows
      → IsPolynomialMatrix o w rows
  matrix_is value h w rows m = All-from_get_or (IsPolynomialRow o w) rows []
      (λ i l. row_is (value i) w (get_or rows i []) (m.each i (omega (arith, l, m.count))))

-- an item that was read
pub read : {X : Type 0} (Q : X → Type 0) (list : List X) (i : ℕ) (x : X) → i < length list → x ≡ get_or list i x
    → All Q list → Q x
read Q list i x l e h = subst Q (sym e) (h i x l)

pub read_is : {X : Type 0} (list : List (List X)) (i : ℕ) (x : List X) → i < length list → x ≡ get_or list i x
    → x ≡ get_or list i []
read_is list i x l e = e ∙ get_or_default list i x [] l

-- the items of a row, and the rows of a matrix
pub items_of : {E : Type 0} (o : Ops E) (w : ℕ) (row : List (List E)) → IsPolynomialRow o w row
    → All (IsPolynomialList o) row
items_of o w row h i d l = record { over = h.over i d l; trimmed = h.trimmed i d l }
