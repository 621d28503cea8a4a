-- Rows that stand beside others, and the parts of rows.
use Rattle.std.specs.Prelude.{◌≡◌, ℕ, ◌+◌, ◌-◌, ◌<◌, List, [], ◌∷◌, ◌++◌, length, get_or, drop}
use Rattle.std.specs.List.{All}
use Rattle.std.proofs.Common.{sym, ◌∙◌, ap, ap₂, arith, length-append, length-drop}
use Rattle.std.proofs.lemmas.List.{get_or_append_left, get_or-append-add, get_or-drop, length_push}
use Rattle.std.proofs.lemmas.List.Elements.{All-append}
use Rattle.theory_rings.specs.Ops.{Ops, IsElem, FieldLaws}
use Rattle.theory_rings.specs.Sum.{table, at}
use Rattle.theory_rings.proofs.Sums.Lists.{length-table, table_congr, All-table}
use Rattle.theory_spaces.specs.Tuples.{IsTuple}
use Rattle.theory_spaces.proofs.Tuples.Tuples.{IsTuple-table}
use Rattle.theory_tables.specs.Matrix.{entry, IsMatrix, IsRectangular}
use Rattle.theory_tables.proofs.Rows.Sums.{All_step, entry-elem, table_matrix}
use Rattle.theory_tables.proofs.Rows.Terms.{cond_either}
use Rattle.spl_matrix.specs.Elimination.{identity_row, augmented, columns}
use Rattle.spl_matrix.specs.Spanning.{right_part}

-- rows of one length are rectangular
pub IsRectangular-by : {E : Type 0} (n : ℕ) (rows : List (List E)) → All (λ row. length row ≡ n) rows
    → IsRectangular rows
IsRectangular-by n rows long k d k_in =
    let some : 0 < length rows = omega arith in
    long k d k_in ∙ sym (long 0 [] some)

pub IsRectangular-table : {E : Type 0} (h n : ℕ) (f : ℕ → ℕ → E) → IsRectangular (table h (λ i. table n (f i)))
IsRectangular-table h n f =
    IsRectangular-by n (table h (λ i. table n (f i)))
    (All-table (λ row. length row ≡ n) h (λ i. table n (f i)) (λ i _. length-table n (f i)))

module _ {E : Type 0} (o : Ops E) where
  pub IsMatrix-rectangular : (n : ℕ) (rows : List (List E)) → IsMatrix o n rows → IsRectangular rows
  IsMatrix-rectangular n rows shape = IsRectangular-by n rows (λ k d k_in. (shape k d k_in).right_length)

  pub IsMatrix-elems : (n : ℕ) (rows : List (List E)) → IsMatrix o n rows → All (All (IsElem o)) rows
  IsMatrix-elems n rows shape = λ k d k_in. (shape k d k_in).of_elements

  pub IsTuple-append : (n m : ℕ) (xs ys : List E) → IsTuple o n xs → IsTuple o m ys → IsTuple o (n + m) (xs ++ ys)
  IsTuple-append n m xs ys hx hy = record {
    right_length = length-append xs ys ∙ ap₂ (λ a b. a + b) hx.right_length hy.right_length;
    of_elements = All-append (IsElem o) xs ys hx.of_elements hy.of_elements;
  }

  pub IsTuple-push : (n : ℕ) (xs ys : List E) (x : E) → IsTuple o n xs → IsElem o x → ys ≡ xs ++ x ∷ []
      → IsTuple o (n + 1) ys
  IsTuple-push n xs ys x h x_in e = record {
    right_length = ap length e ∙ length_push xs x ∙ ap (λ k. k + 1) h.right_length;
    of_elements = All_step (IsElem o) xs ys x h.of_elements x_in e;
  }

  -- an item of rows beside each other
  pub at-append_low : (n : ℕ) (xs ys : List E) (j : ℕ) → length xs ≡ n → j < n → at o (xs ++ ys) j ≡ at o xs j
  at-append_low n xs ys j long j_in = let j_in' : j < length xs = omega arith in get_or_append_left xs ys o.zero j j_in'

  pub at-append_high : (n : ℕ) (xs ys : List E) (j : ℕ) → length xs ≡ n → at o (xs ++ ys) (n + j) ≡ at o ys j
  at-append_high n xs ys j long = ap (λ (k : ℕ). at o (xs ++ ys) (k + j)) (sym long) ∙ get_or-append-add xs ys j o.zero

  -- the columns from w on of the rows from k on
  pub columns_drop : (w k : ℕ) (rows : List (List E))
      → columns o (length (drop k rows)) w w (drop k rows) ≡ right_part o w k rows
  columns_drop w k rows =
      ap (λ (h : ℕ). columns o h w w (drop k rows)) (length-drop k rows)
      ∙ table_congr (length rows - k) (λ i. table w (λ j. entry o (drop k rows) i (w + j)))
      (λ i. table w (λ j. entry o rows (k + i) (w + j)))
      (λ i _. ap (λ (row : List E). table w (λ j. at o row (w + j))) (get_or-drop k rows i []))

module _ {E : Type 0} (o : Ops E) (L : FieldLaws o) where
  pub identity_row-tuple : (n i : ℕ) → IsTuple o n (identity_row o n i)
  identity_row-tuple n i =
      IsTuple-table o n _ (λ l _. cond_either (IsElem o) _ o.one o.zero L.one-elem L.zero-elem)

  pub zeros-tuple : (n : ℕ) → IsTuple o n (table n (λ _. o.zero))
  zeros-tuple n = IsTuple-table o n (λ _. o.zero) (λ _ _. L.zero-elem)

  pub augmented-shape : (h w : ℕ) (a : List (List E)) → length a ≡ h → IsMatrix o w a
      → IsMatrix o (w + h) (augmented o h a)
  augmented-shape h w a long shape =
      All-table (IsTuple o (w + h)) h (λ i. get_or a i [] ++ identity_row o h i) (λ i i_in.
      let i_in' : i < length a = omega arith in
      IsTuple-append o w h (get_or a i []) (identity_row o h i) (shape i [] i_in') (identity_row-tuple h i))

  pub columns-shape : (h k n m : ℕ) (rows : List (List E)) → IsMatrix o m rows → IsMatrix o n (columns o h k n rows)
  columns-shape h k n m rows shape =
      table_matrix o L h n (λ i j. entry o rows i (k + j)) (λ i j. entry-elem o L m rows shape i (k + j))
