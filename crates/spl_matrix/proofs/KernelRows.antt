-- The vectors that a matrix in reduced row echelon form sends to 0, by one vector for each column.
use Rattle.std.specs.Prelude.{◌≡◌, ◌≢◌, ℕ, ◌+◌, ◌<◌, ◌≤◌, List, [], ◌∷◌, ◌++◌, length, get_or, cond, nat_eq}
use Rattle.std.proofs.Common.{refl, sym, ◌∙◌, ap, ap₂, subst, arith, ⊎_elim}
use Rattle.std.proofs.lemmas.Bool.{cases_eq, cases_lt}
use Rattle.std.proofs.lemmas.List.{get_or_past, get_or_append_left, get_or_push, get_or_default, length_push}
use Rattle.theory_rings.specs.Ops.{Ops, IsElem, FieldLaws}
use Rattle.theory_rings.specs.Elements.{elements}
use Rattle.theory_rings.specs.Sum.{sum_of, table, at}
use Rattle.theory_rings.proofs.Rings.Elements.{at-elem, sum_of-elem, sum_of_congr}
use Rattle.theory_rings.proofs.Rings.RingLaws as ring
use Rattle.theory_rings.proofs.Rings.Solver.{◌⊠◌, minus, unit, ring2}
use Rattle.theory_rings.proofs.Sums.Lists.{length-table, get_or-table}
use Rattle.theory_spaces.specs.Tuples.{IsTuple}
use Rattle.theory_spaces.proofs.Tuples.Tuples.{IsTuple-table}
use Rattle.theory_tables.specs.Matrix.{entry, IsMatrix}
use Rattle.theory_tables.specs.Echelon.{IsReducedEchelon}
use Rattle.theory_tables.specs.Subspace.{InSpan, SameSpan, IsKilled, SpansKernel}
use Rattle.spl_matrix.specs.Spanning.{IsPlace, kernel_item, AreKernelRows}
use Rattle.theory_tables.proofs.Rows.Terms.{add-zero, add-neg, mul-zero, zero-mul, cond_yes, cond_no, cond_either}
use Rattle.theory_tables.proofs.Rows.Sums.{sum_of-add, mul-sum_of, sum_of_zeros, sum_of-delta_mul, sums_assoc}
use Rattle.theory_tables.proofs.Rows.Sums.{entry-elem, table_matrix, entry_table}
use Rattle.theory_tables.proofs.Rows.Spans.{combined, InSpan-by, InSpan-zero, InSpan-member, SameSpan-by, rows_in}
use Rattle.theory_tables.proofs.Rows.Spans.{IsKilled_trans, SameSpan_sym}
use Rattle.spl_matrix.proofs.ReducedBases.{cond_flip}

module _ {E : Type 0} (o : Ops E) (L : FieldLaws o) where
  neg_zero : o.neg o.zero ≡ o.zero
  neg_zero = ap (λ x. x.0) (ring.neg_zero (elements o L).additive)

  -- where a column has no pivot, the item is that of the identity
  pub kernel_item-past : (rows : List (List E)) (places : List ℕ) (j l : ℕ) (u : E) → length rows ≤ get_or places l 0
      → IsElem o u
      → u ≡ cond (nat_eq l j) o.one o.zero → u ≡ kernel_item o rows places j l
  kernel_item-past rows places j l u past u_in e =
      sym (add-zero o L u u_in)
      ∙ ap₂ o.add e (sym (ap o.neg
      (ap (λ (row : List E). at o row j) (get_or_past rows (get_or places l 0) [] past)) ∙ neg_zero))

  -- no column yet, a column with a pivot, and one without
  pub AreKernelRows-none : (w : ℕ) (rows vectors : List (List E)) (places : List ℕ) → vectors ≡ []
      → AreKernelRows o w rows places 0 vectors
  AreKernelRows-none w rows vectors places e =
      let long = ap length e in
      record { sound = λ i i_in. absurd (omega arith); complete = λ j j_in _. absurd (omega arith) }

  pub AreKernelRows-pivot : (w : ℕ) (rows vectors : List (List E)) (places : List ℕ) (n : ℕ)
      → get_or places n 0 < length rows → AreKernelRows o w rows places n vectors
      → AreKernelRows o w rows places (n + 1) vectors
  AreKernelRows-pivot w rows vectors places n low are = record {
    sound = are.sound;
    complete = λ j j_in high. ⊎_elim
        (λ (before : j < n). are.complete j before high)
        (λ (after : n ≤ j). let e : j ≡ n = omega arith in let same = ap (λ (k : ℕ). get_or places k 0) e in
        absurd (omega arith))
        (cases_lt j n);
  }

  pub AreKernelRows-push : (w : ℕ) (rows vectors more : List (List E)) (places : List ℕ) (n : ℕ) (row : List E)
      → n < w → row ≡ table w (kernel_item o rows places n)
      → more ≡ vectors ++ row ∷ [] → AreKernelRows o w rows places n vectors
      → AreKernelRows o w rows places (n + 1) more
  AreKernelRows-push w rows vectors more places n row n_in row_is more_is are =
      let long : length more ≡ length vectors + 1 = ap length more_is ∙ length_push vectors row in
      let old : (i : ℕ) → i < length vectors → get_or more i [] ≡ get_or vectors i [] = λ i i_in.
      ap (λ m. get_or m i []) more_is ∙ get_or_append_left vectors (row ∷ []) [] i i_in in
      let last : get_or more (length vectors) [] ≡ table w (kernel_item o rows places n) =
      ap (λ m. get_or m (length vectors) []) more_is ∙ get_or_push vectors row [] (length vectors) refl ∙ row_is in
      let last_in : length vectors < length more = omega arith in
      record {
        sound = λ i i_in. ⊎_elim
            (λ (low : i < length vectors). let h = are.sound i low in (h.0, h.1, old i low ∙ h.2))
            (λ (high : length vectors ≤ i). let e : i ≡ length vectors = omega arith in
            (n, n_in, ap (λ k. get_or more k []) e ∙ last))
            (cases_lt i (length vectors));
        complete = λ j j_in past. ⊎_elim
            (λ (before : j < n).
            let h = are.complete j before past in
            let l = h.1 in
            let i_in : h.0 < length more = omega arith in
            (h.0, i_in, old h.0 h.1 ∙ h.2))
            (λ (after : n ≤ j). let e : n ≡ j = omega arith in
            (length vectors, last_in, last ∙ ap (λ k. table w (kernel_item o rows places k)) e))
            (cases_lt j n);
      }

  module _ (w : ℕ) (rows : List (List E)) (pivots : List ℕ) (shape : IsMatrix o w rows)
      (each : length pivots ≡ length rows) (form : IsReducedEchelon o (length rows) rows pivots w)
      (places : List ℕ) (place : (j : ℕ) → j < w → IsPlace pivots j (get_or places j 0)) where
    -- one such vector for each column
    abbrev vectors : List (List E)
    vectors = table w (λ j. table w (kernel_item o rows places j))

    -- item j of the row whose pivot is in column l
    abbrev row_item : ℕ → ℕ → E
    row_item l j = entry o rows (get_or places l 0) j

    abbrev one_at : ℕ → ℕ → E
    one_at l j = cond (nat_eq l j) o.one o.zero

    rows_elem : (i j : ℕ) → IsElem o (entry o rows i j)
    rows_elem = entry-elem o L w rows shape

    one_at-elem : (l j : ℕ) → IsElem o (one_at l j)
    one_at-elem l j = cond_either (IsElem o) (nat_eq l j) o.one o.zero L.one-elem L.zero-elem

    item-elem : (j l : ℕ) → IsElem o (kernel_item o rows places j l)
    item-elem j l = L.add-elem _ _ (one_at-elem l j) (L.neg-elem _ (rows_elem (get_or places l 0) j))

    vectors_shape : IsMatrix o w vectors
    vectors_shape = table_matrix o L w w (kernel_item o rows places) item-elem

    vectors_elem : (j l : ℕ) → IsElem o (entry o vectors j l)
    vectors_elem = entry-elem o L w vectors vectors_shape

    vectors_length : length vectors ≡ w
    vectors_length = length-table w (λ j. table w (kernel_item o rows places j))

    vectors_at : (j l : ℕ) → j < w → l < w → entry o vectors j l ≡ kernel_item o rows places j l
    vectors_at j l j_in l_in = entry_table o L w w (kernel_item o rows places) j l j_in l_in

    row_item-past : (l j : ℕ) → get_or places l 0 ≡ length pivots → row_item l j ≡ o.zero
    row_item-past l j e = let past : length rows ≤ get_or places l 0 = omega arith in
        ap (λ (row : List E). at o row j) (get_or_past rows (get_or places l 0) [] past)

    pivots_apart : (i s : ℕ) → i < length pivots → s < length pivots → i ≢ s → get_or pivots s 0 ≢ get_or pivots i 0
    pivots_apart i s i_in s_in d e = ⊎_elim
        (λ (low : i < s). let x = form.order i s low s_in in absurd (omega arith))
        (λ (high : s ≤ i). let low : s < i = omega arith in let x = form.order s i low i_in in absurd (omega arith))
        (cases_lt i s)

    -- both sides are 0 unless l is the pivot of row i
    term : (i j l : ℕ) → i < length rows → l < w
        → o.mul (entry o rows i l) (o.neg (row_item l j)) ≡ o.mul (one_at l (get_or pivots i 0))
        (o.neg (entry o rows i j))
    term i j l i_in l_in =
        let i_piv : i < length pivots = omega arith in
        let q = get_or pivots i 0 in
        let s = get_or places l 0 in
        let p = place l l_in in
        let neg_in = L.neg-elem _ (rows_elem s j) in
        let neg_in' = L.neg-elem _ (rows_elem i j) in
        let gone = λ (d : l ≢ q).
        sym (ap (λ x. o.mul x (o.neg (entry o rows i j))) (cond_no l q o.one o.zero d)
        ∙ zero-mul o L (o.neg (entry o rows i j)) neg_in') in
        ⊎_elim
        (λ (s_in : s < length pivots).
        let there = p.here s_in in
        ⊎_elim
        (λ (e : i ≡ s).
        let same : l ≡ q = sym there ∙ ap (λ (t : ℕ). get_or pivots t 0) (sym e) in
        ap₂ o.mul
        (ap (entry o rows i) (sym there) ∙ form.unit s i s_in i_in ∙ cond_yes i s o.one o.zero e
        ∙ sym (cond_yes l q o.one o.zero same))
        (ap (λ (t : ℕ). o.neg (entry o rows t j)) (sym e)))
        (λ (d : i ≢ s).
        let apart : l ≢ q = λ e. pivots_apart i s i_piv s_in d (there ∙ e) in
        ap (λ x. o.mul x (o.neg (row_item l j)))
        (ap (entry o rows i) (sym there) ∙ form.unit s i s_in i_in ∙ cond_no i s o.one o.zero d)
        ∙ zero-mul o L (o.neg (row_item l j)) neg_in ∙ gone apart)
        (cases_eq i s))
        (λ (e : s ≡ length pivots).
        let low : i < s = omega arith in
        let apart : l ≢ q = λ f. p.before i low (sym f) in
        ap (o.mul (entry o rows i l)) (ap o.neg (row_item-past l j e) ∙ neg_zero)
        ∙ mul-zero o L (entry o rows i l) (rows_elem i l) ∙ gone apart)
        p.past

    -- each of the vectors is sent to 0
    row_killed : (i j : ℕ) → i < length rows → j < w
        → sum_of o w (λ l. o.mul (entry o rows i l) (entry o vectors j l)) ≡ o.zero
    row_killed i j i_in j_in =
        let i_piv : i < length pivots = omega arith in
        let q = get_or pivots i 0 in
        let q_in = form.below i i_piv in
        let r = entry o rows i in
        let r_in = rows_elem i in
        let less : E = o.neg (r j) in
        let less_in = L.neg-elem _ (r_in j) in
        sum_of_congr o w (λ l. o.mul (r l) (entry o vectors j l))
        (λ l. o.add (o.mul (one_at l j) (r l)) (o.mul (one_at l q) less)) (λ l l_in.
        ap (o.mul (r l)) (vectors_at j l j_in l_in)
        ∙ L.mul-add (r l) (one_at l j) (o.neg (row_item l j)) (r_in l) (one_at-elem l j)
        (L.neg-elem _ (rows_elem (get_or places l 0) j))
        ∙ ap₂ o.add (L.mul_comm (r l) (one_at l j) (r_in l) (one_at-elem l j)) (term i j l i_in l_in))
        ∙ sum_of-add o L w (λ l. o.mul (one_at l j) (r l)) (λ l. o.mul (one_at l q) less)
        (λ l. L.mul-elem _ _ (one_at-elem l j) (r_in l)) (λ l. L.mul-elem _ _ (one_at-elem l q) less_in)
        ∙ ap₂ o.add (sum_of-delta_mul o L w j r r_in j_in) (sum_of-delta_mul o L w q (λ _. less) (λ _. less_in) q_in)
        ∙ add-neg o L (r j) (r_in j)

    killed : (v : List E) → InSpan o w vectors v → IsKilled o (length rows) w rows v
    killed v s i i_in =
        let r = entry o rows i in
        let r_in = rows_elem i in
        let c = at o s.0 in
        let c_in = at-elem o L s.0 s.1.of_elements in
        let comb_in = λ (l : ℕ).
        sum_of-elem o L (length vectors) (λ j. o.mul (c j) (entry o vectors j l))
        (λ j _. L.mul-elem _ _ (c_in j) (vectors_elem j l)) in
        let long = vectors_length in
        sum_of_congr o w (λ l. o.mul (r l) (at o v l)) (λ l. o.mul (combined o L vectors c l) (r l))
        (λ l l_in. ap (o.mul (r l)) (s.2 l l_in) ∙ L.mul_comm (r l) (combined o L vectors c l) (r_in l) (comb_in l))
        ∙ sums_assoc o L (length vectors) w c (entry o vectors) r c_in vectors_elem r_in
        ∙ sum_of_congr o (length vectors) (λ j. o.mul (c j) (sum_of o w (λ l. o.mul (entry o vectors j l) (r l))))
        (λ _. o.zero) (λ j j_in.
        let j_in' : j < w = omega arith in
        ap (o.mul (c j)) (sum_of_congr o w (λ l. o.mul (entry o vectors j l) (r l))
        (λ l. o.mul (r l) (entry o vectors j l))
        (λ l _. L.mul_comm (entry o vectors j l) (r l) (vectors_elem j l) (r_in l)) ∙ row_killed i j i_in j_in')
        ∙ mul-zero o L (c j) (c_in j))
        ∙ sum_of_zeros o L (length vectors)

    -- the row whose pivot is in column l sends v to 0
    row_item-killed : (v : List E) → ((j : ℕ) → IsElem o (at o v j)) → IsKilled o (length rows) w rows v → (l : ℕ)
        → l < w → sum_of o w (λ j. o.mul (row_item l j) (at o v j)) ≡ o.zero
    row_item-killed v v_in k l l_in =
        let s = get_or places l 0 in
        let p = place l l_in in
        ⊎_elim
        (λ (s_in : s < length pivots). let s_row : s < length rows = omega arith in k s s_row)
        (λ (e : s ≡ length pivots).
        sum_of_congr o w (λ j. o.mul (row_item l j) (at o v j)) (λ _. o.zero)
        (λ j _. ap (λ x. o.mul x (at o v j)) (row_item-past l j e) ∙ zero-mul o L (at o v j) (v_in j))
        ∙ sum_of_zeros o L w)
        p.past

    -- a vector that is sent to 0 is the combination by its own items
    in_kernel : (v : List E) → IsTuple o w v → IsKilled o (length rows) w rows v → InSpan o w vectors v
    in_kernel v tuple k =
        let v_in = at-elem o L v tuple.of_elements in
        let K = elements o L in
        let m : E = o.neg o.one in
        let m_in = L.neg-elem o.one L.one-elem in
        InSpan-by o L w vectors v (at o v) v_in (λ l l_in.
        let g : ℕ → E = λ j. o.mul (row_item l j) (at o v j) in
        let c_in = λ (j : ℕ). rows_elem (get_or places l 0) j in
        let g_in = λ (j : ℕ). L.mul-elem _ _ (c_in j) (v_in j) in
        sym (ap (λ (n : ℕ). sum_of o n (λ j. o.mul (at o v j) (entry o vectors j l))) vectors_length
        ∙ sum_of_congr o w (λ j. o.mul (at o v j) (entry o vectors j l))
        (λ j. o.add (o.mul (one_at j l) (at o v j)) (o.mul m (g j))) (λ j j_in.
        ap (o.mul (at o v j)) (vectors_at j l j_in l_in)
        ∙ L.mul-add (at o v j) (one_at l j) (o.neg (row_item l j)) (v_in j) (one_at-elem l j) (L.neg-elem _ (c_in j))
        ∙ ap₂ o.add
        (L.mul_comm (at o v j) (one_at l j) (v_in j) (one_at-elem l j)
        ∙ ap (λ x. o.mul x (at o v j)) (cond_flip l j o.one o.zero))
        (ap (λ x. x.0) (ring2 K.cring (λ v c. (v ⊠ minus c, minus unit ⊠ (c ⊠ v))) refl (at o v j, v_in j)
        (row_item l j, c_in j))))
        ∙ sum_of-add o L w (λ j. o.mul (one_at j l) (at o v j)) (λ j. o.mul m (g j))
        (λ j. L.mul-elem _ _ (one_at-elem j l) (v_in j)) (λ j. L.mul-elem _ _ m_in (g_in j))
        ∙ ap₂ o.add (sum_of-delta_mul o L w l (at o v) v_in l_in)
        (sym (mul-sum_of o L w m g m_in g_in) ∙ ap (o.mul m) (row_item-killed v v_in k l l_in) ∙ mul-zero o L m m_in)
        ∙ add-zero o L (at o v l) (v_in l)))

    -- the vector for a column with a pivot is 0
    kernel_item-pivot : (j l : ℕ) → j < w → l < w → get_or places j 0 < length rows
        → kernel_item o rows places j l ≡ o.zero
    kernel_item-pivot j l j_in l_in low =
        let t = get_or places j 0 in
        let t_in : t < length pivots = omega arith in
        let t_there = (place j j_in).here t_in in
        let s = get_or places l 0 in
        let p = place l l_in in
        let none = add-neg o L o.zero L.zero-elem in
        ⊎_elim
        (λ (s_in : s < length pivots).
        let there = p.here s_in in
        let s_row : s < length rows = omega arith in
        let item : row_item l j ≡ cond (nat_eq s t) o.one o.zero = ap (entry o rows s) (sym t_there)
        ∙ form.unit t s t_in s_row in
        ⊎_elim
        (λ (e : s ≡ t).
        let same : l ≡ j = sym there ∙ ap (λ (i : ℕ). get_or pivots i 0) e ∙ t_there in
        ap₂ (λ x y. o.add x (o.neg y)) (cond_yes l j o.one o.zero same) (item ∙ cond_yes s t o.one o.zero e)
        ∙ add-neg o L o.one L.one-elem)
        (λ (d : s ≢ t).
        let apart : l ≢ j = λ e. pivots_apart s t s_in t_in d (t_there ∙ sym e ∙ sym there) in
        ap₂ (λ x y. o.add x (o.neg y)) (cond_no l j o.one o.zero apart) (item ∙ cond_no s t o.one o.zero d) ∙ none)
        (cases_eq s t))
        (λ (e : s ≡ length pivots).
        let before : t < s = omega arith in
        let apart : l ≢ j = λ f. p.before t before (t_there ∙ sym f) in
        ap₂ (λ x y. o.add x (o.neg y)) (cond_no l j o.one o.zero apart) (row_item-past l j e) ∙ none)
        p.past

    -- so the vectors for the other columns span the same
    same_vectors : (some : List (List E)) → IsMatrix o w some → AreKernelRows o w rows places w some
        → SameSpan o w some vectors
    same_vectors some some_shape are =
        let P : List (List E) → List E → Type 0 = λ m row. InSpan o w m row in
        SameSpan-by o L w some vectors some_shape vectors_shape
        (λ i i_in.
        let h = are.sound i i_in in
        let j_row : h.0 < length vectors = (let e = vectors_length in let l = h.1 in omega arith) in
        subst (P vectors) (get_or-table w (λ j. table w (kernel_item o rows places j)) h.0 [] h.1 ∙ sym h.2)
        (InSpan-member o L w vectors vectors_shape h.0 j_row))
        (λ j j_row.
        let long = vectors_length in
        let j_in : j < w = omega arith in
        let row_is = get_or-table w (λ j. table w (kernel_item o rows places j)) j [] j_in in
        ⊎_elim
        (λ (low : get_or places j 0 < length rows). InSpan-zero o L w some (get_or vectors j []) some_shape
        (λ l l_in. vectors_at j l j_in l_in ∙ kernel_item-pivot j l j_in l_in low))
        (λ (high : length rows ≤ get_or places j 0).
        let h = are.complete j j_in high in
        subst (P some) (h.2 ∙ sym row_is) (InSpan-member o L w some some_shape h.0 h.1))
        (cases_lt (get_or places j 0) (length rows)))

    -- the vectors are a matrix, and span what the rows send to 0
    pub AreKernelRows-shape : (some : List (List E)) → AreKernelRows o w rows places w some → IsMatrix o w some
    AreKernelRows-shape some are = λ i d i_in.
        let h = are.sound i i_in in
        subst (IsTuple o w) (sym (get_or_default some i d [] i_in ∙ h.2))
        (IsTuple-table o w (kernel_item o rows places h.0) (λ l _. item-elem h.0 l))

    pub AreKernelRows-kernel : (some : List (List E)) → AreKernelRows o w rows places w some
        → SpansKernel o (length rows) w rows some
    AreKernelRows-kernel some are v tuple =
        let same = same_vectors some (AreKernelRows-shape some are) are v tuple in
        ((λ x. killed v (same.0 x)), (λ k. same.1 (in_kernel v tuple k)))

  -- what a matrix sends to 0 is what the basis of its rows' span sends to 0
  pub SpansKernel-same : (w : ℕ) (a rows made s : List (List E)) → IsMatrix o w a → IsMatrix o w rows
      → SameSpan o w a rows → SpansKernel o (length rows) w rows made → SameSpan o w s made
      → SpansKernel o (length a) w a s
  SpansKernel-same w a rows made s a_shape shape same kernel spans v tuple = (
    (λ x. IsKilled_trans o L w a rows v shape tuple.of_elements (rows_in o L w a rows a_shape same)
        ((kernel v tuple).0 ((spans v tuple).0 x))),
    (λ k. (spans v tuple).1
        ((kernel v tuple).1 (IsKilled_trans o L w rows a v a_shape tuple.of_elements
        (rows_in o L w rows a shape (SameSpan_sym o L w a rows same)) k))),
  )
