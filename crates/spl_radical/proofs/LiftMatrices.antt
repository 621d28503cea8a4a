-- Matrices over the lift ring of a residue field, as rows of numbers: products, traces, and lifts of rows.
use Rattle.std.specs.Prelude.{◌≡◌, ℕ, zero, suc, ◌+◌, ◌-◌, ◌*◌, ◌/◌, ◌%◌, ◌<◌, ◌≤◌, List, [], ◌∷◌, ◌++◌, length, get_or}
use Rattle.std.proofs.Common.{refl, sym, ◌∙◌, ap, ap₂, subst, arith, ⊎_elim}
use Rattle.std.proofs.Math.ListN.{get_or-append}
use Rattle.std.proofs.Math.Nat.{div-add-mod', mod-lt}
use Rattle.std.proofs.Math.Seq.{get_or-append_seam}
use Rattle.std.proofs.lemmas.Bool.{cases_lt}
use Rattle.std.proofs.lemmas.List.{length_push, length-append, get_or-append_right}
use Rattle.theory_rings.specs.Sum.{sum, table, at}
use Rattle.theory_rings.specs.Naturals.{nat_monoid}
use Rattle.theory_rings.proofs.Sums.Sums.{sum_congr}
use Rattle.theory_rings.proofs.Sums.Lists.{length-table, get_or-table}
use Rattle.theory_spaces.specs.Matrix.{Matrix, mat_mul, mat_trace}
use Rattle.theory_radical.specs.Chain.{mat_power}
use Rattle.theory_spaces.proofs.Matrices.PairIndex.{pair-lt}
use Rattle.theory_lifts.proofs.ElementLists.{two_le_power}
use Rattle.theory_lifts.proofs.ListProducts.{ent-sum, ent-ext}
use Rattle.theory_chains.specs.NumberRows.{AreNumbers, AreRows}
use Rattle.theory_chains.proofs.NumberRows.{en-below}
use Rattle.spl_residue.specs.Residue.{field_of, residue_ops}
use Rattle.spl_residue.specs.declared.field.ResidueField.{ResidueField}
use Rattle.spl_radical.specs.LiftRing.{degree_positive, digits_positive, prime_of, degree_of, digits_of, width_of}
use Rattle.spl_radical.specs.LiftRing.{size_of, LiftNumbers, lift_ring, ring_of, by_numbers, element_of, lifted}
use Rattle.spl_radical.specs.LiftRing.{AreColumns}
use Rattle.spl_radical.specs.LiftMatrices.{IsLiftMatrix, matrix_of, HasEntries, IsLiftedRow, AreLiftedRows}
use Rattle.spl_radical.proofs.Elements.{table_is}
use Rattle.spl_radical.proofs.Columns.{combination_numbers}
use Rattle.spl_radical.proofs.PowerEntries.{first_entry, square_entry, next_entry}

module _ (k : ResidueField) (l : ℕ) where
  abbrev q : ℕ
  q = size_of k l

  abbrev w : ℕ
  w = width_of k

  abbrev Rows : Type 0
  Rows = List (List ℕ)

  -- ---- products

  row_is : (a b c r : Rows) → AreColumns k l b c
      → r ≡ table (length a) (λ i. table (length c) (λ t. sum nat_monoid (length c)
      (λ r. get_or (get_or a i []) r 0 * get_or (get_or c t []) r 0) % q))
      → (i : ℕ) → i < length a
      → get_or r i [] ≡ table (length b * w) (λ t. sum nat_monoid (length b * w)
      (λ r. get_or (get_or a i []) r 0 * get_or (get_or c t []) r 0) % q)
  row_is a b c r h e i il = ap (λ r. get_or r i []) e
      ∙ get_or-table (length a) (λ i. table (length c) (λ t. sum nat_monoid (length c)
      (λ r. get_or (get_or a i []) r 0 * get_or (get_or c t []) r 0) % q)) i [] il
      ∙ ap (λ n. table n (λ t. sum nat_monoid n
      (λ r. get_or (get_or a i []) r 0 * get_or (get_or c t []) r 0) % q)) h.count

  pub product_shape : (a b c r : Rows) → IsLiftMatrix k l (length b) a → AreColumns k l b c
      → r ≡ table (length a) (λ i. table (length c) (λ t. sum nat_monoid (length c)
      (λ r. get_or (get_or a i []) r 0 * get_or (get_or c t []) r 0) % q))
      → IsLiftMatrix k l (length b) r
  product_shape a b c r ha h e =
      let n : length r ≡ length a = ap length e
      ∙ length-table (length a) (λ i. table (length c) (λ t. sum nat_monoid (length c)
      (λ r. get_or (get_or a i []) r 0 * get_or (get_or c t []) r 0) % q)) in
      record {
        count = n ∙ ha.count;
        numbers = λ i il. combination_numbers k l (get_or a i []) (get_or r i []) b c
            (row_is a b c r h e i (omega arith));
      }

  pub product_value : (a b c r : Rows) → IsLiftMatrix k l (length b) a → AreColumns k l b c
      → r ≡ table (length a) (λ i. table (length c) (λ t. sum nat_monoid (length c)
      (λ r. get_or (get_or a i []) r 0 * get_or (get_or c t []) r 0) % q))
      → HasEntries k l (length b)
      (mat_mul (ring_of k l).ring (length b) (matrix_of k l a) (matrix_of k l b)) r
  product_value a b c r ha h e i j il jl =
      let il' : i < length a = omega (arith, ha.count) in
      ap (λ y. element_of k l y j) (row_is a b c r h e i il') ∙ h.product (get_or a i []) (ha.numbers i il') j jl

  -- what a product's requirements are, where a program read the columns
  pub rows_of_columns : (a b c c' : Rows) → IsLiftMatrix k l (length b) a → AreColumns k l b c → c' ≡ c
      → AreRows q (length c') a
  rows_of_columns a b c c' ha h e = subst (λ n. AreRows q n a) (sym (ap length e ∙ h.count)) ha.numbers

  pub columns_of_columns : (b c c' : Rows) → AreColumns k l b c → c' ≡ c → AreRows q (length c') c'
  columns_of_columns b c c' h e = subst (λ c. AreRows q (length c) c) (sym e)
      (subst (λ n. AreRows q n c) (sym h.count) h.numbers)

  -- ---- traces

  pub trace_is : (p v : ℕ) (rows : Rows) (r : List ℕ) → p ≡ q → v ≡ w → IsLiftMatrix k l (length rows) rows
      → r ≡ table v (λ t. sum nat_monoid (length rows) (λ i. get_or (get_or rows i []) (i * v + t) 0) % p)
      → r ≡ (mat_trace (ring_of k l).ring (length rows) (matrix_of k l rows)).0
  trace_is p v rows r ep ev h e = let f = field_of k in
      let two = two_le_power (prime_of k) l f.least in
      e ∙ ap₂ (λ p v. table v
      (λ t. sum nat_monoid (length rows) (λ i. get_or (get_or rows i []) (i * v + t) 0) % p)) ep ev
      ∙ table_is k l (mat_trace (ring_of k l).ring (length rows) (matrix_of k l rows))
      (λ t. sum nat_monoid (length rows) (λ i. get_or (get_or rows i []) (i * w + t) 0) % q) (λ t tl.
      sym (ent-sum q (degree_of k) (digits_of k) two (degree_of k - 1) (digits_of k - 1) (degree_positive k)
      (digits_positive k) (ring_of k l) (by_numbers k l).0 (length rows) (λ i. matrix_of k l rows i i) t tl
      ∙ ap (λ x. x % q) (sum_congr nat_monoid (length rows) (λ i. get_or (matrix_of k l rows i i).0 t 0)
      (λ i. get_or (get_or rows i []) (i * w + t) 0)
      (λ i il. en-below q (degree_of k) (digits_of k) two (degree_of k - 1) (digits_of k - 1) (degree_positive k)
      (digits_positive k) (ring_of k l) (by_numbers k l).0 (length rows) (get_or rows i []) (h.numbers i il) i t il
      tl))))

  -- ---- lifts of rows

  pub no_elements : (row : Rows) (r : List ℕ) → r ≡ [] → IsLiftedRow k l row 0 r
  no_elements row r e = subst (IsLiftedRow k l row 0) (sym e) (record {
    are_numbers = record {
      count = let z : 0 ≡ 0 * w = omega arith in z;
      below = λ i d il. absurd (omega arith);
    };
    elements = λ j jl. absurd (omega arith);
  })

  -- an element of a row of numbers, by its numbers
  element_is : (n : ℕ) (r : List ℕ) → AreNumbers q (n * w) r → (j : ℕ) → j < n → (x : LiftNumbers k l)
      → ((t : ℕ) → t < w → get_or r (j * w + t) 0 ≡ get_or x.0 t 0) → element_of k l r j ≡ x
  element_is n r h j jl x g = let f = field_of k in
      let two = two_le_power (prime_of k) l f.least in
      ent-ext q (degree_of k) (digits_of k) two (degree_of k - 1) (digits_of k - 1) (degree_positive k)
      (digits_positive k) (ring_of k l) (by_numbers k l).0 (element_of k l r j) x (λ t tl.
      en-below q (degree_of k) (digits_of k) two (degree_of k - 1) (digits_of k - 1) (degree_positive k)
      (digits_positive k) (ring_of k l) (by_numbers k l).0 n r h j t jl tl ∙ g t tl)

  same_element : (n n' : ℕ) (r r' : List ℕ) → AreNumbers q (n * w) r → AreNumbers q (n' * w) r' → (j : ℕ) → j < n
      → j < n' → ((t : ℕ) → t < w → get_or r' (j * w + t) 0 ≡ get_or r (j * w + t) 0)
      → element_of k l r' j ≡ element_of k l r j
  same_element n n' r r' h h' j jl jl' g = let f = field_of k in
      let two = two_le_power (prime_of k) l f.least in
      element_is n' r' h' j jl' (element_of k l r j) (λ t tl. g t tl
      ∙ sym (en-below q (degree_of k) (digits_of k) two (degree_of k - 1) (digits_of k - 1) (degree_positive k)
      (digits_positive k) (ring_of k l) (by_numbers k l).0 n r h j t jl tl))

  -- one more element
  pub next_element : (row : Rows) (n : ℕ) (r r' x : List ℕ) → IsLiftedRow k l row n r
      → AreNumbers q w x → x ≡ (lifted k l (at (residue_ops k) row n)).0 → r' ≡ r ++ x
      → IsLiftedRow k l row (n + 1) r'
  next_element row n r r' x h hx ex e = subst (IsLiftedRow k l row (n + 1)) (sym e) (record {
    are_numbers = joined;
    elements = λ j jl. ⊎_elim
        (λ (a : j < n). same_element n (n + 1) r (r ++ x) h.are_numbers joined j a jl (λ t tl.
        get_or-append r x 0 (j * w + t)
        (let c = h.are_numbers.count in let p = pair-lt n w j t a tl in omega arith))
        ∙ h.elements j a)
        (λ (a : n ≤ j).
        let s : n ≡ j = omega arith in
        element_is (n + 1) (r ++ x) joined j jl (lifted k l (at (residue_ops k) row j)) (λ t tl.
        let p : j * w + t - n * w ≡ t = (let b = ap (λ j. j * w) s in omega arith) in
        get_or-append_right r x (n * w) (j * w + t) 0 h.are_numbers.count
        (let b = ap (λ j. j * w) s in omega arith)
        ∙ ap (λ i. get_or x i 0) p
        ∙ ap (λ y. get_or y t 0) (ex ∙ ap (λ j. (lifted k l (at (residue_ops k) row j)).0) s)))
        (cases_lt j n);
  })
    where
      joined : AreNumbers q ((n + 1) * w) (r ++ x)
      joined = record {
        count = length-append r x ∙ ap₂ (λ a b. a + b) h.are_numbers.count hx.count
            ∙ (let z : n * w + w ≡ (n + 1) * w = omega arith in z);
        below = λ i d il. ⊎_elim
            (λ (a : i < length r). subst (λ y. y < q) (sym (get_or-append r x d i a)) (h.are_numbers.below i d a))
            (λ (a : length r ≤ i). subst (λ y. y < q) (sym (get_or-append_right r x (length r) i d refl a))
            (hx.below (i - length r) d (let s = length-append r x in omega arith)))
            (cases_lt i (length r));
      }

  -- ---- all rows

  pub no_rows : (left : List Rows) (r : Rows) → r ≡ [] → AreLiftedRows k l left 0 r
  no_rows left r e = record { count = ap length e; each = λ i il. absurd (omega arith) }

  pub next_lifted_row : (left : List Rows) (n : ℕ) (r r' : Rows) (x : List ℕ) (y : Rows) → AreLiftedRows k l left n r
      → IsLiftedRow k l y (length y) x → y ≡ get_or left n [] → r' ≡ r ++ x ∷ []
      → AreLiftedRows k l left (n + 1) r'
  next_lifted_row left n r r' x y h g ey e = subst (AreLiftedRows k l left (n + 1)) (sym e) (record {
    count = length_push r x ∙ ap (λ n. n + 1) h.count;
    each = λ i il. ⊎_elim
        (λ (a : i < n). subst (IsLiftedRow k l (get_or left i []) (length (get_or left i [])))
        (sym (get_or-append r (x ∷ []) [] i (let c = h.count in omega arith))) (h.each i a))
        (λ (a : n ≤ i).
        let s : n ≡ i = omega arith in
        subst (IsLiftedRow k l (get_or left i []) (length (get_or left i [])))
        (sym (get_or-append_seam r x [] []) ∙ ap (λ j. get_or (r ++ x ∷ []) j []) (h.count ∙ s))
        (subst (λ y. IsLiftedRow k l y (length y) x) (ey ∙ ap (λ i. get_or left i []) s) g))
        (cases_lt i n);
  })

  -- ---- powers, where a program read these rows

  abbrev power_of : (a : Rows) → ℕ → Matrix (LiftNumbers k l)
  power_of a e = mat_power (ring_of k l).ring (length a) (matrix_of k l a) e

  pub shape_read : (m : ℕ) (x y z : Rows) → IsLiftMatrix k l m x → y ≡ x → z ≡ x → IsLiftMatrix k l (length z) y
  shape_read m x y z h ey ez = subst (λ n. IsLiftMatrix k l n y) (sym (ap length ez ∙ h.count))
      (subst (IsLiftMatrix k l m) (sym ey) h)

  pub count_read : (m n : ℕ) (x z : Rows) → IsLiftMatrix k l m x → z ≡ x → n ≡ m * w → n ≡ length z * w
  count_read m n x z h ez e = e ∙ ap (λ m. m * w) (sym (ap length ez ∙ h.count))

  copied_row : (a r : Rows) → r ≡ table (length a) (λ i. get_or a i []) → (i : ℕ) → i < length a
      → get_or r i [] ≡ get_or a i []
  copied_row a r e i il = ap (λ r. get_or r i []) e ∙ get_or-table (length a) (λ i. get_or a i []) i [] il

  pub copy_shape : (m : ℕ) (a r : Rows) → r ≡ table (length a) (λ i. get_or a i []) → IsLiftMatrix k l m a
      → IsLiftMatrix k l m r
  copy_shape m a r e h =
      let n : length r ≡ length a = ap length e ∙ length-table (length a) (λ i. get_or a i []) in
      record {
        count = n ∙ h.count;
        numbers = λ i il. let il' : i < length a = omega arith in
            subst (AreNumbers q (m * w)) (sym (copied_row a r e i il')) (h.numbers i il');
      }

  pub first_power_value : (a r : Rows) (e : ℕ) → r ≡ table (length a) (λ i. get_or a i []) → 1 ≤ e → e < 2
      → HasEntries k l (length a) (power_of a e) r
  first_power_value a r e er one two i j il jl = let L = lift_ring k l in
      let s : 1 ≡ e = omega arith in
      ap (λ y. element_of k l y j) (copied_row a r er i il)
      ∙ first_entry (ring_of k l) L.set (length a) (matrix_of k l a) i j jl ∙ ap (λ e. power_of a e i j) s

  pub square_value : (a half x y square : Rows) (e : ℕ) → IsLiftMatrix k l (length a) half
      → HasEntries k l (length a) (power_of a (e / 2)) half → x ≡ half → y ≡ half
      → HasEntries k l (length y) (mat_mul (ring_of k l).ring (length y) (matrix_of k l x) (matrix_of k l y)) square
      → HasEntries k l (length a) (power_of a (e / 2 + e / 2)) square
  square_value a half x y square e h g ex ey H i j il jl = let L = lift_ring k l in
      let S = (ring_of k l).ring in
      let H' : HasEntries k l (length a) (mat_mul S (length a) (matrix_of k l half) (matrix_of k l half)) square =
      subst (λ n. HasEntries k l n (mat_mul S n (matrix_of k l half) (matrix_of k l half)) square) h.count
      (subst (λ y. HasEntries k l (length y) (mat_mul S (length y) (matrix_of k l half) (matrix_of k l y)) square) ey
      (subst (λ x. HasEntries k l (length y) (mat_mul S (length y) (matrix_of k l x) (matrix_of k l y)) square) ex
      H)) in
      H' i j il jl ∙ square_entry (ring_of k l) L.set (length a) (matrix_of k l a) (e / 2) (e / 2 + e / 2)
      (matrix_of k l half) refl g i j il jl

  pub even_value : (a square : Rows) (e : ℕ) → HasEntries k l (length a) (power_of a (e / 2 + e / 2)) square
      → e % 2 ≡ 0 → HasEntries k l (length a) (power_of a e) square
  even_value a square e h z =
      let d : e / 2 * 2 + e % 2 ≡ e = div-add-mod' e 2 in
      let s : e / 2 + e / 2 ≡ e = omega arith in
      subst (λ e. HasEntries k l (length a) (power_of a e) square) s h

  pub odd_value : (a square y r : Rows) (e : ℕ) → HasEntries k l (length a) (power_of a (e / 2 + e / 2)) square
      → length square ≡ length a → y ≡ square → (e % 2 ≡ 0 → ⊥)
      → HasEntries k l (length y) (mat_mul (ring_of k l).ring (length y) (matrix_of k l a) (matrix_of k l y)) r
      → HasEntries k l (length a) (power_of a e) r
  odd_value a square y r e h n ey z H i j il jl = let L = lift_ring k l in
      let S = (ring_of k l).ring in
      let d : e / 2 * 2 + e % 2 ≡ e = div-add-mod' e 2 in
      let b : e % 2 < 2 = mod-lt e (omega arith) in
      let s : e ≡ suc (e / 2 + e / 2) = odd (e % 2) z b d in
      let H' : HasEntries k l (length a) (mat_mul S (length a) (matrix_of k l a) (matrix_of k l square)) r =
      subst (λ n. HasEntries k l n (mat_mul S n (matrix_of k l a) (matrix_of k l square)) r) n
      (subst (λ y. HasEntries k l (length y) (mat_mul S (length y) (matrix_of k l a) (matrix_of k l y)) r) ey H) in
      H' i j il jl ∙ next_entry (ring_of k l) L.set (length a) (matrix_of k l a) (e / 2 + e / 2) e
      (matrix_of k l square) s h i j il jl
    where
      odd : (b : ℕ) → (b ≡ 0 → ⊥) → b < 2 → e / 2 * 2 + b ≡ e → e ≡ suc (e / 2 + e / 2)
      odd zero z l h = absurd (z refl)
      odd (suc zero) z l h = omega arith
      odd (suc (suc b)) z l h = absurd (omega arith)
