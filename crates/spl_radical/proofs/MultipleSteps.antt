-- Steps of the rows of products by all x^u·t^v.
use Rattle.std.specs.Prelude.{◌≡◌, ℕ, zero, suc, ◌+◌, ◌-◌, ◌*◌, ◌/◌, ◌%◌, ◌<◌, ◌≤◌, List, [], ◌∷◌, ◌++◌, length, get_or}
use Rattle.std.specs.Prelude.{cond, nat_eq, nat_lt}
use Rattle.std.proofs.Common.{sym, ◌∙◌, ap, ap₂, subst, arith, ⊎_elim}
use Rattle.std.proofs.Math.Nat as nat
use Rattle.std.proofs.Math.Nat.{mod-lt}
use Rattle.std.proofs.Math.ListN.{get_or-append}
use Rattle.std.proofs.Math.Seq.{get_or-append_seam}
use Rattle.std.proofs.lemmas.Bool.{cases_lt}
use Rattle.std.proofs.lemmas.List.{length_push}
use Rattle.theory_rings.specs.Sum.{sum, table}
use Rattle.theory_rings.specs.Naturals.{nat_monoid}
use Rattle.theory_rings.proofs.Sums.Lists.{length-table, All-table}
use Rattle.theory_spaces.proofs.Matrices.PairIndex.{row-lt}
use Rattle.theory_tables.proofs.Rows.Sums.{row_at}
use Rattle.theory_chains.specs.NumberRows.{shifted_number, turned_number, AreNumbers, AreRows}
use Rattle.spl_radical.specs.Multiples.{AreSteps, IsMultiple, AreMultiples}
use Rattle.spl_radical.proofs.RowSteps.{whole_part}

module _ (q w : ℕ) (back : List ℕ) (turns rows : List (List ℕ)) (digits : 1 ≤ length back) where
  abbrev n : ℕ
  n = length rows * w

  kept : (out : List (List ℕ)) (x : List ℕ) (i : ℕ) → i < length out
      → get_or out i [] ≡ get_or (out ++ x ∷ []) i []
  kept out x i h = sym (get_or-append out (x ∷ []) [] i h)

  -- rows behind it change nothing
  grown : (out : List (List ℕ)) (x : List ℕ) (r : ℕ) (row : List ℕ) → r ≤ length out
      → IsMultiple q w back turns rows out r row → IsMultiple q w back turns rows (out ++ x ∷ []) r row
  grown out x r row le h =
      let m = nat.mod-le r w in
      let g = digits in
      record {
        numbers = h.numbers;
        first = h.first;
        shifted = λ a b. h.shifted a b
            ∙ ap (λ y. table n (shifted_number q (length back) back y)) (kept out x (r - 1) (omega arith));
        turned = λ a. h.turned a
            ∙ ap (λ y. table n (turned_number q w (length back) turns y)) (kept out x (r - length back) (omega arith));
      }

  -- one more row
  pub next_row : (out out' : List (List ℕ)) (r : ℕ) (row : List ℕ) → AreMultiples q w back turns rows out r
      → IsMultiple q w back turns rows out r row → out' ≡ out ++ row ∷ []
      → AreMultiples q w back turns rows out' (r + 1)
  next_row out out' r row h g e = subst (λ o. AreMultiples q w back turns rows o (r + 1)) (sym e) (record {
    count = length_push out row ∙ ap (λ k. k + 1) h.count;
    each = λ i l. ⊎_elim
        (λ (a : i < r).
        subst (IsMultiple q w back turns rows (out ++ row ∷ []) i)
        (kept out row i (omega (arith, h.count)))
        (grown out row i (get_or out i []) (omega (arith, h.count)) (h.each i a)))
        (λ (a : r ≤ i).
        let k : r ≡ i = omega arith in
        let m : length out ≡ i = h.count ∙ k in
        subst (IsMultiple q w back turns rows (out ++ row ∷ []) i)
        (sym (get_or-append_seam out row [] []) ∙ ap (λ j. get_or (out ++ row ∷ []) j []) m)
        (subst (λ j. IsMultiple q w back turns rows (out ++ row ∷ []) j row) k
        (grown out row r row (omega (arith, h.count)) g)))
        (cases_lt i r);
  })

module _ (q w : ℕ) (back : List ℕ) (turns rows out : List (List ℕ)) (S : AreSteps q w back turns) where
  abbrev d : ℕ
  d = length back

  abbrev size : ℕ
  size = length rows * w

  abbrev Row : ℕ → List ℕ → Type 0
  Row = IsMultiple q w back turns rows out

  -- what was read of a row of them
  pub known_numbers : (r i : ℕ) (y : List ℕ) → AreMultiples q w back turns rows out r → i < r → y ≡ get_or out i []
      → AreNumbers q size y
  known_numbers r i y h l e = subst (AreNumbers q size) (sym e) ((h.each i l).numbers)

  pub known_row : (r i : ℕ) (x y : List ℕ) → AreMultiples q w back turns rows out r → i < r → x ≡ get_or out i x
      → y ≡ x → y ≡ get_or out i []
  known_row r i x y h l = row_at out i x y (let c = h.count in omega arith)

  -- where the row that it is made of stands
  pub not_first : (r : ℕ) → (r % w ≡ 0 → ⊥) → r - 1 < r
  not_first zero z = absurd (z (nat.zero-mod w))
  not_first (suc r) z = omega arith

  pub behind_digits : (r : ℕ) → (r % w ≡ 0 → ⊥) → d ≤ r % w → r - d < r
  behind_digits r z l =
      let h = not_first r z in
      let g = S.digits in
      omega arith

  -- each coefficient of a row is whole, and so is each element
  pub whole_coefficients : (y : List ℕ) → AreNumbers q size y → (k : ℕ) → k < length y
      → k - k % d + (d - 1) < length y
  whole_coefficients y h k l =
      whole_part (length rows * (w / d)) d (length y) k
      (h.count ∙ ap (λ w. length rows * w) S.width ∙ sym (nat.mul_assoc (length rows) (w / d) d)) S.digits l

  pub whole_elements : (y : List ℕ) → AreNumbers q size y → (k : ℕ) → k < length y → k - k % w + w ≤ length y
  whole_elements y h k l =
      let a : k / w * w + k % w ≡ k = nat.div-add-mod' k w in
      let c = h.count in
      let u : k / w < length rows = row-lt (length rows) w k (omega arith) in
      let m : suc (k / w) * w ≤ length rows * w = nat.mul-le-mul_right w (omega arith) in
      omega arith

  pub width_positive : 1 ≤ w
  width_positive =
      let a : 1 * 1 ≤ (w / d) * d = nat.mul-le-mul S.height S.digits in
      let e = S.width in
      omega arith

  pub digits_within : length turns ≤ w
  digits_within =
      let a : 1 * d ≤ (w / d) * d = nat.mul-le-mul_right d S.height in
      let e = S.width in
      let c = S.count in
      omega arith

  numbers_below : (f : ℕ → ℕ) → AreNumbers q size (table size (λ k. f k % q))
  numbers_below f = record {
    count = length-table size (λ k. f k % q);
    below = All-table (λ x. x < q) size (λ k. f k % q) (λ k _. mod-lt (f k) (let h = S.positive in omega arith));
  }

  -- the three kinds of rows
  pub of_first : (r : ℕ) (row y : List ℕ) → AreRows q size rows → r < size → r % w ≡ 0 → y ≡ get_or rows (r / w) []
      → row ≡ y → Row r row
  of_first r row y h l z e f = record {
    numbers = subst (AreNumbers q size) (sym (f ∙ e)) (h (r / w) (row-lt (length rows) w r l));
    first = λ _. f ∙ e;
    shifted = λ a _. absurd (omega arith);
    turned = λ a. let g = S.digits in absurd (omega arith);
  }

  pub of_shifted : (r : ℕ) (row y : List ℕ) → AreNumbers q size y → (r % w ≡ 0 → ⊥) → r % w < d
      → y ≡ get_or out (r - 1) [] → row ≡ table (length y) (shifted_number q d back y) → Row r row
  of_shifted r row y h z l e f =
      let g : row ≡ table size (shifted_number q d back y) = f
      ∙ ap (λ n. table n (shifted_number q d back y)) h.count in
      record {
        numbers = subst (AreNumbers q size) (sym g) (numbers_below (λ k. cond (nat_eq (k % d) 0) 0 (get_or y (k - 1) 0)
            + get_or y (k - k % d + (d - 1)) 0 * get_or back (k % d) 0));
        first = λ a. absurd (z a);
        shifted = λ _ _. g ∙ ap (λ y. table size (shifted_number q d back y)) e;
        turned = λ a. absurd (omega arith);
      }

  pub of_turned : (r : ℕ) (row y : List ℕ) → AreNumbers q size y → d ≤ r % w
      → y ≡ get_or out (r - d) [] → row ≡ table (length y) (turned_number q w (length turns) turns y) → Row r row
  of_turned r row y h l e f =
      let g : row ≡ table size (turned_number q w d turns y) =
      f ∙ ap₂ (λ n d. table n (turned_number q w d turns y)) h.count S.count in
      record {
        numbers = subst (AreNumbers q size) (sym g) (numbers_below (λ k. cond (nat_lt (k % w) d) 0 (get_or y (k - d) 0)
            + sum nat_monoid d
            (λ v. get_or y (k - k % w + (w - d) + v) 0 * get_or (get_or turns v []) (k % w) 0)));
        first = λ a. let g = S.digits in absurd (omega arith);
        shifted = λ _ a. absurd (omega arith);
        turned = λ _. g ∙ ap (λ y. table size (turned_number q w d turns y)) e;
      }
