-- Lists of the items of a row that are not 0, item by item.
use Rattle.std.specs.Prelude.{◌≡◌, ◌≢◌, ◌+◌, ◌*◌, ◌^◌, ◌<◌, ◌≤◌, ℕ, List, [], ◌∷◌, ◌++◌, length, get_or}
use Rattle.std.proofs.Common.{refl, sym, ◌∙◌, ap, subst, arith, ⊎_elim}
use Rattle.std.proofs.Math.Nat.{mul-le-mul, mul-le-mul_left, mul-le-mul_right}
use Rattle.std.proofs.Math.Seq.{get_or-append_seam}
use Rattle.std.proofs.lemmas.Bool.{cases_lt}
use Rattle.std.proofs.lemmas.List.{get_or_append_left, get_or_default, length-append}
use Rattle.theory_rings.specs.Ops.{Ops}
use Rattle.theory_rings.specs.Sum.{at}
use Rattle.theory_spaces.specs.Tuples.{constant}
use Rattle.theory_spaces.proofs.Matrices.PairIndex.{pair-lt}
use Rattle.spl_algebra.specs.Entries.{ListsNonzero, AreRowEntries}

module _ {E : Type 0} (zero : E) (row : ℕ → E) where
  abbrev Item : Type 0
  Item = ℕ × E

  abbrev blank : Item
  blank = (0, zero)

  pub lists-skip : (n : ℕ) (list : List Item) → row n ≡ zero → ListsNonzero zero n row list
      → ListsNonzero zero (n + 1) row list
  lists-skip n list z h = record {
    of_row = λ s l. let from = h.of_row s l in (from.0, omega (arith, from.1), from.2, from.3);
    each = λ k l d. ⊎_elim
        (λ (g : k < n). h.each k g d)
        (λ (g : n ≤ k). let e : k ≡ n = omega arith in absurd (d (ap row e ∙ z)))
        (cases_lt k n);
    order = h.order;
  }

  more : (n : ℕ) (list : List Item) → row n ≢ zero → ListsNonzero zero n row list
      → ListsNonzero zero (n + 1) row (list ++ (n + 1, row n) ∷ [])
  more n list d h =
      let longer : length (list ++ (n + 1, row n) ∷ []) ≡ length list + 1 = simp length-append refl in
      let old : (s : ℕ) → s < length list → get_or (list ++ (n + 1, row n) ∷ []) s blank ≡ get_or list s blank =
      λ s l. get_or_append_left list ((n + 1, row n) ∷ []) blank s l in
      let seam : get_or (list ++ (n + 1, row n) ∷ []) (length list) blank ≡ (n + 1, row n) =
      get_or-append_seam list (n + 1, row n) [] blank in
      let last : (s : ℕ) → length list ≤ s → s < length (list ++ (n + 1, row n) ∷ [])
      → get_or (list ++ (n + 1, row n) ∷ []) s blank ≡ (n + 1, row n) =
      λ s k l. let e : s ≡ length list = omega arith in
      ap (λ s. get_or (list ++ (n + 1, row n) ∷ []) s blank) e ∙ seam in
      record {
        of_row = λ s l. ⊎_elim
            (λ (g : s < length list). let from = h.of_row s g in
            (from.0, omega (arith, from.1), from.2, old s g ∙ from.3))
            (λ (g : length list ≤ s). (n, omega arith, d, last s g l))
            (cases_lt s (length list));
        each = λ k l e. ⊎_elim
            (λ (g : k < n). let from = h.each k g e in (from.0, omega (arith, from.1), old from.0 from.1 ∙ from.2))
            (λ (g : n ≤ k). let same : k ≡ n = omega arith in
            (length list, omega arith, seam ∙ ap (λ k. (k + 1, row k)) (sym same)))
            (cases_lt k n);
        order = λ s t u l. ⊎_elim
            (λ (g : t < length list). rw (old s (omega arith), old t g) (h.order s t u g))
            (λ (g : length list ≤ t).
            let before : s < length list = omega arith in
            let from = h.of_row s before in
            rw (old s before, from.3, last t g l) (omega (arith, from.1)))
            (cases_lt t (length list));
      }

  pub lists-more : (n : ℕ) (list new : List Item) (item : E) → row n ≢ zero → item ≡ row n
      → new ≡ list ++ (n + 1, item) ∷ []
      → ListsNonzero zero n row list → ListsNonzero zero (n + 1) row new
  lists-more n list new item d e f h =
      subst (ListsNonzero zero (n + 1) row) (sym (f ∙ ap (λ x. list ++ (n + 1, x) ∷ []) e)) (more n list d h)

-- one more list
pub row_entries-more : {E : Type 0} (o : Ops E) (m : ℕ) (cs : List E) (n : ℕ) (lists new : List (List (ℕ × E)))
    (list : List (ℕ × E)) → ListsNonzero o.zero m (λ k. at o cs (n * m + k)) list → new ≡ lists ++ list ∷ []
    → AreRowEntries o m cs n lists → AreRowEntries o m cs (n + 1) new
row_entries-more {E = E} o m cs n lists new list h e before = subst (AreRowEntries o m cs (n + 1)) (sym e) record {
  count = omega (arith, length-append lists (list ∷ []), before.count);
  row = λ r l.
      let P : ℕ → List (ℕ × E) → Type 0 = λ r xs. ListsNonzero o.zero m (λ k. at o cs (r * m + k)) xs in
      ⊎_elim
      (λ (g : r < n). subst (P r)
      (sym (get_or_append_left lists (list ∷ []) [] r (omega (arith, before.count)))) (before.row r g))
      (λ (g : n ≤ r).
      let same : r ≡ n = omega arith in
      let seam : get_or (lists ++ list ∷ []) n [] ≡ list = ap (λ k. get_or (lists ++ list ∷ []) k []) (sym before.count)
      ∙ get_or-append_seam lists list [] [] in
      subst (λ r. P r (get_or (lists ++ list ∷ []) r [])) (sym same) (subst (P n) (sym seam) h))
      (cases_lt r n);
}

-- fields with the same zero
pub row_entries-same : {E : Type 0} (o other : Ops E) (m : ℕ) (cs : List E) (n : ℕ) (lists : List (List (ℕ × E)))
    → o.zero ≡ other.zero → AreRowEntries o m cs n lists → AreRowEntries other m cs n lists
row_entries-same o other m cs n lists e h = record {
  count = h.count;
  row = λ r l. subst (λ z. ListsNonzero z m (λ k. get_or cs (r * m + k) z) (get_or lists r [])) e (h.row r l);
}

-- the list of the row of the basis elements i and j, as it was read
pub entries_at : {E : Type 0} (o : Ops E) (m : ℕ) (cs : List E) (lists : List (List (ℕ × E))) (i j : ℕ)
    (list : List (ℕ × E)) → AreRowEntries o m cs (m * m) lists → i < m → j < m
    → list ≡ get_or lists (i * m + j) list → ListsNonzero o.zero m (constant o m cs i j) list
entries_at o m cs lists i j list h first second is =
    let within : i * m + j < m * m = pair-lt m m i j first second in
    subst (ListsNonzero o.zero m (constant o m cs i j))
    (sym (is ∙ get_or_default lists (i * m + j) list [] (omega (arith, h.count)))) (h.row (i * m + j) within)

-- a number below m² fits in memory as a place, where m³ does
pub place_fits : (size m r : ℕ) → size * size * size < 2 ^ 64 → r < m * m → m * m * m < 2 ^ 64 → r * size < 2 ^ 64
place_fits size m r low below high = ⊎_elim
    (λ (g : m < size).
    let smaller : m ≤ size = omega arith in
    let square : m * m ≤ size * size = mul-le-mul smaller smaller in
    let first : r ≤ size * size = omega (arith, below) in
    omega (arith, low, mul-le-mul_right size first))
    (λ (g : size ≤ m).
    let first : r ≤ m * m = omega (arith, below) in
    omega (arith, high, mul-le-mul_right size first, mul-le-mul_left (m * m) g))
    (cases_lt m size)
