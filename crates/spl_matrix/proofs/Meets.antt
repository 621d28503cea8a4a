-- What two spans have in common, by Zassenhaus: the rows of a twice beside each other and those of b beside 0, reduced.
use Rattle.std.specs.Prelude.{◌≡◌, ◌≢◌, ℕ, ◌+◌, ◌-◌, ◌<◌, ◌≤◌, Bool, true, false, List, [], ◌++◌, length, get_or}
use Rattle.std.specs.Prelude.{cond, nat_lt}
use Rattle.std.proofs.Common.{refl, sym, ◌∙◌, ap, ap₂, subst, arith, length-append, ⊎_elim}
use Rattle.std.proofs.lemmas.Bool.{cases_eq, cases_lt, lt-ltb, le-ltb}
use Rattle.std.proofs.lemmas.List.{nil_from_length}
use Rattle.std.proofs.lemmas.List.Elements.{All-nil, All-append}
use Rattle.theory_rings.specs.Ops.{Ops, IsElem, FieldLaws}
use Rattle.theory_rings.specs.Elements.{Elem-path, elements}
use Rattle.theory_rings.specs.Sum.{sum_of, table, at}
use Rattle.theory_rings.proofs.Rings.Elements.{at-elem, sum_of-elem, sum_of_congr}
use Rattle.theory_rings.proofs.Rings.RingLaws as ring
use Rattle.theory_rings.proofs.Rings.Solver.{◌⊠◌, minus, unit, ring2}
use Rattle.theory_rings.proofs.Sums.Lists.{length-table, get_or-table, All-table}
use Rattle.theory_spaces.specs.Tuples.{IsTuple}
use Rattle.theory_spaces.proofs.Linear.Families.{join, join-below, join-above}
use Rattle.theory_spaces.proofs.Tuples.Tuples.{at-table, IsTuple-table}
use Rattle.theory_tables.specs.Matrix.{entry, IsMatrix}
use Rattle.theory_tables.specs.Echelon.{IsReducedEchelon}
use Rattle.theory_tables.specs.Subspace.{InSpan, SameSpan, IsReducedBasis, SpansMeet}
use Rattle.spl_matrix.specs.Spanning.{doubled, right_part, IsRightPart}
use Rattle.spl_matrix.proofs.Beside.{IsTuple-append, at-append_low, at-append_high, zeros-tuple}
use Rattle.theory_tables.proofs.Rows.Terms.{add-zero, add-neg, mul-zero, zero-mul, cond_yes, cond_no, cond_either}
use Rattle.theory_tables.proofs.Rows.Sums.{sum_of_zeros, mul-sum_of, entry-elem, table_matrix, entry_table}
use Rattle.theory_tables.proofs.Rows.Spans.{combined, combined_congr, InSpan-by, InSpan-member, InSpan_trans}
use Rattle.theory_tables.proofs.Rows.Spans.{sum_of-split}
use Rattle.theory_tables.proofs.Rows.Stacks.{entry-left, combined-stacked, combined-elem, join-elem}
use Rattle.spl_matrix.proofs.ReducedBases.{weights-pivot}

module _ {E : Type 0} (o : Ops E) (L : FieldLaws o) where
  -- the opposite of a combination
  pub combined-neg : (w : ℕ) (rows : List (List E)) → IsMatrix o w rows → (c : ℕ → E) → ((i : ℕ) → IsElem o (c i))
      → (j : ℕ)
      → combined o L rows (λ i. o.neg (c i)) j ≡ o.neg (combined o L rows c j)
  combined-neg w rows shape c c_in j =
      let K = elements o L in
      let e_in = λ (i : ℕ). entry-elem o L w rows shape i j in
      let m : E = o.neg o.one in
      let m_in = L.neg-elem o.one L.one-elem in
      let f : ℕ → E = λ i. o.mul (c i) (entry o rows i j) in
      let f_in = λ (i : ℕ). L.mul-elem _ _ (c_in i) (e_in i) in
      sum_of_congr o (length rows) (λ i. o.mul (o.neg (c i)) (entry o rows i j)) (λ i. o.mul m (f i))
      (λ i _. ap (λ x. x.0)
      (ring2 K.cring (λ c e. (minus c ⊠ e, minus unit ⊠ (c ⊠ e))) refl (c i, c_in i) (entry o rows i j, e_in i)))
      ∙ sym (mul-sum_of o L (length rows) m f m_in f_in)
      ∙ (let s_in = sum_of-elem o L (length rows) f (λ i _. f_in i) in
      ap (λ x. x.0) (ring2 K.cring (λ s z. (minus unit ⊠ s, minus s)) refl (sum_of o (length rows) f, s_in) K.zero))

  pub at-cond : (t : Bool) (xs ys : List E) (j : ℕ) → at o (cond t xs ys) j ≡ cond t (at o xs j) (at o ys j)
  at-cond true xs ys j = refl
  at-cond false xs ys j = refl

  -- where x + y = 0, x = −y
  opposite : (x y : E) → IsElem o x → IsElem o y → o.add x y ≡ o.zero → x ≡ o.neg y
  opposite x y x_in y_in e =
      let K = elements o L in
      ap (λ z. z.0) (ring.neg_unique K.additive (y, y_in) (x, x_in)
      (Elem-path o (K.◌⊕◌ (y, y_in) (x, x_in)) K.zero (L.add_comm y x y_in x_in ∙ e)))

module _ {E : Type 0} (o : Ops E) (L : FieldLaws o) (w : ℕ) (a b : List (List E)) (sa : IsMatrix o w a)
    (sb : IsMatrix o w b) where
  abbrev both : List (List E)
  both = a ++ b

  both_shape : IsMatrix o w both
  both_shape = All-append (IsTuple o w) a b sa sb

  abbrev zeros : List E
  zeros = table w (λ _. o.zero)

  abbrev pub twice : List (List E)
  twice = doubled zeros (length a) (a ++ b)

  abbrev half : ℕ → List E
  half m = cond (nat_lt m (length a)) (get_or both m []) zeros

  twice_length : length twice ≡ length a + length b
  twice_length = length-table (length both) (λ i. get_or both i [] ++ half i) ∙ length-append a b

  pub twice_shape : IsMatrix o (w + w) twice
  twice_shape =
      All-table (IsTuple o (w + w)) (length both) (λ i. get_or both i [] ++ half i) (λ i i_in.
      let row = both_shape i [] i_in in
      IsTuple-append o w w (get_or both i []) (half i) row
      (cond_either (IsTuple o w) (nat_lt i (length a)) (get_or both i []) zeros row (zeros-tuple o L w)))

  twice_row : (m : ℕ) → m < length a + length b → get_or twice m [] ≡ get_or both m [] ++ half m
  twice_row m m_in =
      let long = length-append a b in
      let m_in' : m < length both = omega arith in
      get_or-table (length both) (λ i. get_or both i [] ++ half i) m [] m_in'

  row_length : (m : ℕ) → m < length a + length b → length (get_or both m []) ≡ w
  row_length m m_in =
      let long = length-append a b in
      let m_in' : m < length both = omega arith in
      (both_shape m [] m_in').right_length

  twice_low : (m j : ℕ) → m < length a + length b → j < w → entry o twice m j ≡ entry o both m j
  twice_low m j m_in j_in =
      ap (λ (row : List E). at o row j) (twice_row m m_in)
      ∙ at-append_low o w (get_or both m []) (half m) j (row_length m m_in) j_in

  twice_high : (m j : ℕ) → m < length a + length b → j < w
      → entry o twice m (w + j) ≡ cond (nat_lt m (length a)) (entry o both m j) o.zero
  twice_high m j m_in j_in =
      let t = nat_lt m (length a) in
      ap (λ (row : List E). at o row (w + j)) (twice_row m m_in)
      ∙ at-append_high o w (get_or both m []) (half m) j (row_length m m_in)
      ∙ at-cond o L t (get_or both m []) zeros j
      ∙ ap (cond t (entry o both m j)) (at-table o w (λ _. o.zero) j j_in)

  both_in : (i j : ℕ) → IsElem o (entry o both i j)
  both_in = entry-elem o L w both both_shape

  twice_in : (i j : ℕ) → IsElem o (entry o twice i j)
  twice_in = entry-elem o L (w + w) twice twice_shape

  -- the left half of a combination
  combined-low : (y : ℕ → E) → ((i : ℕ) → IsElem o (y i)) → (j : ℕ) → j < w
      → combined o L twice y j ≡ o.add (combined o L a y j) (combined o L b (λ i. y (length a + i)) j)
  combined-low y y_in j j_in =
      ap (λ (n : ℕ). sum_of o n (λ m. o.mul (y m) (entry o twice m j))) twice_length
      ∙ sum_of_congr o (length a + length b) (λ m. o.mul (y m) (entry o twice m j))
      (λ m. o.mul (y m) (entry o both m j)) (λ m m_in. ap (o.mul (y m)) (twice_low m j m_in j_in))
      ∙ ap (λ (n : ℕ). sum_of o n (λ m. o.mul (y m) (entry o both m j))) (sym (length-append a b))
      ∙ combined-stacked o L w a b sa sb y y_in both_in j

  -- the right half of a combination
  combined-high : (y : ℕ → E) → ((i : ℕ) → IsElem o (y i)) → (j : ℕ) → j < w
      → combined o L twice y (w + j) ≡ combined o L a y j
  combined-high y y_in j j_in =
      let f : ℕ → E = λ m. o.mul (y m) (entry o twice m (w + j)) in
      ap (λ (n : ℕ). sum_of o n f) twice_length
      ∙ sum_of-split o L (length a) (length b) f (λ m. L.mul-elem _ _ (y_in m) (twice_in m (w + j)))
      ∙ ap₂ o.add
      (sum_of_congr o (length a) f (λ m. o.mul (y m) (entry o a m j)) (λ m m_in.
      let m_in' : m < length a + length b = omega arith in
      ap (o.mul (y m)) (twice_high m j m_in' j_in
      ∙ ap (λ t. cond t (entry o both m j) o.zero) (lt-ltb m (length a) m_in)
      ∙ entry-left o L w a b sa sb m j m_in)))
      (sum_of_congr o (length b) (λ m. f (length a + m)) (λ _. o.zero) (λ m m_in.
      let m_in' : length a + m < length a + length b = omega arith in
      let high : length a ≤ length a + m = omega arith in
      ap (o.mul (y (length a + m)))
      (twice_high (length a + m) j m_in' j_in
      ∙ ap (λ t. cond t (entry o both (length a + m) j) o.zero) (le-ltb (length a + m) (length a) high))
      ∙ mul-zero o L (y (length a + m)) (y_in (length a + m)))
      ∙ sum_of_zeros o L (length b))
      ∙ add-zero o L (combined o L a y j) (combined-elem o L w a b sa sb a sa y y_in j)

  module _ (rows : List (List E)) (pivots : List ℕ) (shape : IsMatrix o (w + w) rows)
      (each : length pivots ≡ length rows) (form : IsReducedEchelon o (length rows) rows pivots (w + w))
      (same : SameSpan o (w + w) twice rows) (k : ℕ) (k_in : k ≤ length pivots)
      (below : (s : ℕ) → s < k → get_or pivots s 0 < w) (above : k < length pivots → w ≤ get_or pivots k 0) where
    abbrev common : List (List E)
    common = right_part o w k rows

    rows_elem : (i j : ℕ) → IsElem o (entry o rows i j)
    rows_elem = entry-elem o L (w + w) rows shape

    common_length : length common ≡ length rows - k
    common_length = length-table (length rows - k) (λ i. table w (λ j. entry o rows (k + i) (w + j)))

    common_at : (i j : ℕ) → i < length rows - k → j < w → entry o common i j ≡ entry o rows (k + i) (w + j)
    common_at i j i_in j_in = entry_table o L (length rows - k) w (λ i j. entry o rows (k + i) (w + j)) i j i_in j_in

    common_shape : IsMatrix o w common
    common_shape = table_matrix o L (length rows - k) w (λ i j. entry o rows (k + i) (w + j))
        (λ i j. rows_elem (k + i) (w + j))

    high_pivot : (s : ℕ) → k ≤ s → s < length pivots → w ≤ get_or pivots s 0
    high_pivot s high s_in = ⊎_elim
        (λ (e : s ≡ k). let first : k < length pivots = omega arith in let x = above first in let q =
        ap (λ (t : ℕ). get_or pivots t 0) e in omega arith)
        (λ (d : s ≢ k). let first : k < length pivots = omega arith in let x = above first in let less : k < s =
        omega arith in let y = form.order k s less s_in in omega arith)
        (cases_eq s k)

    abbrev shifted : List ℕ
    shifted = table (length rows - k) (λ s. get_or pivots (k + s) 0 - w)

    shifted_length : length shifted ≡ length rows - k
    shifted_length = length-table (length rows - k) (λ s. get_or pivots (k + s) 0 - w)

    shifted_at : (s : ℕ) → s < length rows - k → get_or shifted s 0 ≡ get_or pivots (k + s) 0 - w
    shifted_at s s_in = get_or-table (length rows - k) (λ s. get_or pivots (k + s) 0 - w) s 0 s_in

    -- they are a basis in reduced row echelon form
    common_form : IsReducedEchelon o (length common) common shifted w
    common_form =
        let lc = common_length in
        let ls = shifted_length in
        record {
          count = omega arith;
          below = λ s s_in.
              let s_in' : s < length rows - k = omega arith in
              let s_piv : k + s < length pivots = omega arith in
              let from : k ≤ k + s = omega arith in
              let e = shifted_at s s_in' in
              let x = form.below (k + s) s_piv in
              let y = high_pivot (k + s) from s_piv in
              omega arith;
          order = λ s t s_lt t_in.
              let s_in' : s < length rows - k = omega arith in
              let t_in' : t < length rows - k = omega arith in
              let s_piv : k + s < length pivots = omega arith in
              let t_piv : k + t < length pivots = omega arith in
              let less : k + s < k + t = omega arith in
              let from : k ≤ k + s = omega arith in
              let e = shifted_at s s_in' in
              let f = shifted_at t t_in' in
              let x = form.order (k + s) (k + t) less t_piv in
              let y = high_pivot (k + s) from s_piv in
              omega arith;
          unit = λ s i s_in i_in.
              let s_in' : s < length rows - k = omega arith in
              let i_in' : i < length rows - k = omega arith in
              let s_piv : k + s < length pivots = omega arith in
              let i_row : k + i < length rows = omega arith in
              let from : k ≤ k + s = omega arith in
              let x = form.below (k + s) s_piv in
              let y = high_pivot (k + s) from s_piv in
              let q_in : get_or pivots (k + s) 0 - w < w = omega arith in
              let back : w + (get_or pivots (k + s) 0 - w) ≡ get_or pivots (k + s) 0 = omega arith in
              ap (entry o common i) (shifted_at s s_in') ∙ common_at i (get_or pivots (k + s) 0 - w) i_in' q_in
              ∙ ap (entry o rows (k + i)) back ∙ form.unit (k + s) (k + i) s_piv i_row
              ∙ ⊎_elim
              (λ (e : i ≡ s). cond_yes (k + i) (k + s) o.one o.zero (ap (λ t. k + t) e)
              ∙ sym (cond_yes i s o.one o.zero e))
              (λ (d : i ≢ s). let d' : k + i ≢ k + s = omega arith in cond_no (k + i) (k + s) o.one o.zero d'
              ∙ sym (cond_no i s o.one o.zero d))
              (cases_eq i s);
          left = λ s j s_in j_low.
              let s_in' : s < length rows - k = omega arith in
              let s_piv : k + s < length pivots = omega arith in
              let from : k ≤ k + s = omega arith in
              let e = shifted_at s s_in' in
              let x = form.below (k + s) s_piv in
              let y = high_pivot (k + s) from s_piv in
              let j_in : j < w = omega arith in
              let j_left : w + j < get_or pivots (k + s) 0 = omega arith in
              common_at s j s_in' j_in ∙ form.left (k + s) (w + j) s_piv j_left;
          rest = λ i j high i_in j_in. absurd (omega arith);
        }

    pub common_basis : IsReducedBasis o w common
    common_basis = record {
      shape = common_shape;
      pivots = shifted;
      each = shifted_length
          ∙ sym common_length;
      reduced = common_form;
    }

    -- each of the rows is in both spans
    row_weights : (i : ℕ) → i < length rows - k → InSpan o (w + w) twice (get_or rows (k + i) [])
    row_weights i i_in =
        let i_row : k + i < length rows = omega arith in
        (same (get_or rows (k + i) []) (shape (k + i) [] i_row)).1 (InSpan-member o L (w + w) rows shape (k + i) i_row)

    in_left : (i : ℕ) → i < length rows - k → InSpan o w a (get_or common i [])
    in_left i i_in =
        let h = row_weights i i_in in
        let x = at o h.0 in
        let x_in = at-elem o L h.0 h.1.of_elements in
        InSpan-by o L w a (get_or common i []) x x_in (λ j j_in.
        let j_in' : w + j < w + w = omega arith in
        common_at i j i_in j_in ∙ h.2 (w + j) j_in' ∙ combined-high x x_in j j_in)

    in_right : (i : ℕ) → i < length rows - k → InSpan o w b (get_or common i [])
    in_right i i_in =
        let h = row_weights i i_in in
        let x = at o h.0 in
        let x_in = at-elem o L h.0 h.1.of_elements in
        let y : ℕ → E = λ m. x (length a + m) in
        let y_in = λ (m : ℕ). x_in (length a + m) in
        let i_piv : k + i < length pivots = omega arith in
        let from : k ≤ k + i = omega arith in
        let high = high_pivot (k + i) from i_piv in
        InSpan-by o L w b (get_or common i []) (λ m. o.neg (y m)) (λ m. L.neg-elem (y m) (y_in m)) (λ j j_in.
        let j_in' : w + j < w + w = omega arith in
        let j_low : j < w + w = omega arith in
        let j_left : j < get_or pivots (k + i) 0 = omega arith in
        common_at i j i_in j_in ∙ h.2 (w + j) j_in' ∙ combined-high x x_in j j_in
        ∙ opposite o L (combined o L a x j) (combined o L b y j) (combined-elem o L w a b sa sb a sa x x_in j)
        (combined-elem o L w a b sa sb b sb y y_in j)
        (sym (combined-low x x_in j j_in) ∙ sym (h.2 j j_low) ∙ form.left (k + i) j i_piv j_left)
        ∙ sym (combined-neg o L w b sb y y_in j))

    -- a vector of both is a combination of them
    beside_zero : List E → ℕ → E
    beside_zero v j = cond (nat_lt j w) o.zero (at o v (j - w))

    in_common : (v : List E) → IsTuple o w v → InSpan o w a v → InSpan o w b v → InSpan o w common v
    unfolding beside_zero
    in_common v tuple ha hb =
        let v_in = at-elem o L v tuple.of_elements in
        let c = at o ha.0 in
        let c_in = at-elem o L ha.0 ha.1.of_elements in
        let d = at o hb.0 in
        let d_in = at-elem o L hb.0 hb.1.of_elements in
        let e : ℕ → E = λ m. o.neg (d m) in
        let e_in = λ (m : ℕ). L.neg-elem (d m) (d_in m) in
        let y = join (length a) c e in
        let y_in = join-elem o L w a b sa sb c e c_in e_in in
        let u = table (w + w) (beside_zero v) in
        let u_in : (j : ℕ) → IsElem o (beside_zero v j) = λ j.
        cond_either (IsElem o) (nat_lt j w) o.zero (at o v (j - w)) L.zero-elem (v_in (j - w)) in
        let u_tuple : IsTuple o (w + w) u = IsTuple-table o (w + w) (beside_zero v) (λ j _. u_in j) in
        let u_low : (j : ℕ) → j < w → at o u j ≡ o.zero = λ j j_in.
        let j_in' : j < w + w = omega arith in
        at-table o (w + w) (beside_zero v) j j_in' ∙ ap (λ t. cond t o.zero (at o v (j - w))) (lt-ltb j w j_in) in
        let u_high : (j : ℕ) → j < w → at o u (w + j) ≡ at o v j = λ j j_in.
        let j_in' : w + j < w + w = omega arith in
        let high : w ≤ w + j = omega arith in
        let back : w + j - w ≡ j = omega arith in
        at-table o (w + w) (beside_zero v) (w + j) j_in'
        ∙ ap (λ t. cond t o.zero (at o v (w + j - w))) (le-ltb (w + j) w high) ∙ ap (at o v) back in
        let left_is : (j : ℕ) → j < w
        → combined o L a y j ≡ at o v j = λ j j_in. combined_congr o L a y c j (join-below (length a) c e)
        ∙ sym (ha.2 j j_in) in
        let right_is : (j : ℕ) → j < w → combined o L b (λ m. y (length a + m)) j ≡ o.neg (at o v j) = λ j j_in.
        combined_congr o L b (λ m. y (length a + m)) e j (λ m _. join-above (length a) c e m)
        ∙ combined-neg o L w b sb d d_in j ∙ ap o.neg (sym (hb.2 j j_in)) in
        let in_twice : InSpan o (w + w) twice u = InSpan-by o L (w + w) twice u y y_in (λ j j_in. ⊎_elim
        (λ (low : j < w). u_low j low
        ∙ sym (combined-low y y_in j low ∙ ap₂ o.add (left_is j low) (right_is j low)
        ∙ add-neg o L (at o v j) (v_in j)))
        (λ (high : w ≤ j).
        let there : w + (j - w) ≡ j = omega arith in
        let i_in : j - w < w = omega arith in
        ap (at o u) (sym there) ∙ u_high (j - w) i_in ∙ sym (left_is (j - w) i_in)
        ∙ sym (combined-high y y_in (j - w) i_in) ∙ ap (combined o L twice y) there)
        (cases_lt j w)) in
        let z = (same u u_tuple).0 in_twice in
        let x = at o z.0 in
        let x_in = at-elem o L z.0 z.1.of_elements in
        let lc = common_length in
        let k_row : k ≤ length rows = omega arith in
        let cut : length rows ≡ k + (length rows - k) = omega arith in
        InSpan-by o L w common v (λ i. x (k + i)) (λ i. x_in (k + i)) (λ j j_in.
        let j_in' : w + j < w + w = omega arith in
        let f : ℕ → E = λ m. o.mul (x m) (entry o rows m (w + j)) in
        let f_in = λ (m : ℕ). L.mul-elem _ _ (x_in m) (rows_elem m (w + j)) in
        let tail : ℕ → E = λ m. f (k + m) in
        sym (u_high j j_in) ∙ z.2 (w + j) j_in'
        ∙ ap (λ (n : ℕ). sum_of o n f) cut
        ∙ sum_of-split o L k (length rows - k) f f_in
        ∙ ap₂ o.add
        (sum_of_congr o k f (λ _. o.zero) (λ m m_in.
        let m_row : m < length rows = omega arith in
        let low = below m m_in in
        ap (λ t. o.mul t (entry o rows m (w + j)))
        (weights-pivot o L (w + w) rows shape pivots each form u z m m_row ∙ u_low (get_or pivots m 0) low)
        ∙ zero-mul o L (entry o rows m (w + j)) (rows_elem m (w + j)))
        ∙ sum_of_zeros o L k)
        (sum_of_congr o (length rows - k) tail (λ i. o.mul (x (k + i)) (entry o common i j))
        (λ i i_in. ap (o.mul (x (k + i))) (sym (common_at i j i_in j_in)))
        ∙ ap (λ (n : ℕ). sum_of o n (λ i. o.mul (x (k + i)) (entry o common i j))) (sym lc))
        ∙ L.zero-add (combined o L common (λ i. x (k + i)) j)
        (combined-elem o L w a b sa sb common common_shape (λ i. x (k + i)) (λ i. x_in (k + i)) j))

    pub common_meet : SpansMeet o w common a b
    common_meet v tuple =
        let lc = common_length in (
          (λ (s : InSpan o w common v). (
            InSpan_trans o L w common a v sa
                (λ i i_in. let i_in' : i < length rows - k = omega arith in in_left i i_in') s,
            InSpan_trans o L w common b v sb
                (λ i i_in. let i_in' : i < length rows - k = omega arith in in_right i i_in') s,
          )),
          (λ (h : InSpan o w a v × InSpan o w b v). in_common v tuple h.0 h.1),
        )

-- no rows are a basis
IsReducedBasis-nil : {E : Type 0} (o : Ops E) (w : ℕ) → IsReducedBasis o w []
IsReducedBasis-nil o w = record {
  shape = All-nil (IsTuple o w);
  pivots = [];
  each = refl;
  reduced = record {
    count = omega arith;
    below = λ s s_in. absurd (omega arith);
    order = λ s t s_lt t_in. absurd (omega arith);
    unit = λ s i s_in i_in. absurd (omega arith);
    left = λ s j s_in j_low. absurd (omega arith);
    rest = λ i j i_high i_in j_low. absurd (omega arith);
  };
}

module _ {E : Type 0} (o : Ops E) (L : FieldLaws o) (w : ℕ) (a b : List (List E)) (sa : IsMatrix o w a)
    (sb : IsMatrix o w b) where
  -- the right part of the basis of the rows beside each other
  pub meet_of : (rows part : List (List E)) → IsMatrix o (w + w) rows → SameSpan o (w + w) (twice o L w a b sa sb) rows
      → IsRightPart o w rows part → IsReducedBasis o w part × SpansMeet o w part a b
  meet_of rows part shape same p =
      let P : List (List E) → Type 0 = λ m. IsReducedBasis o w m × SpansMeet o w m a b in
      subst P (sym p.part_is) (
        common_basis o L w a b sa sb rows p.pivots shape p.each p.reduced same p.k p.within p.below p.above,
        common_meet o L w a b sa sb rows p.pivots shape p.each p.reduced same p.k p.within p.below p.above,
      )

  -- no rows
  pub meet_none : (part : List (List E)) → part ≡ [] → length (twice o L w a b sa sb) ≡ 0
      → IsReducedBasis o w part × SpansMeet o w part a b
  meet_none part none e =
      let both_none : length (a ++ b) ≡ 0 = sym (length-table (length (a ++ b)) _) ∙ e in
      let long = length-append a b in
      let a_none : length a ≡ 0 = omega arith in
      let b_none : length b ≡ 0 = omega arith in
      let a_is : a ≡ [] = nil_from_length a a_none in
      let b_is : b ≡ [] = nil_from_length b b_none in
      let B : List (List E) → Type 0 = λ m. IsReducedBasis o w m in
      let P : List (List E) → Type 0 = λ m. SpansMeet o w m a b in
      let Q : List (List E) → Type 0 = λ m. SpansMeet o w [] m b in
      let R : List (List E) → Type 0 = λ m. SpansMeet o w [] [] m in (
        subst B (sym none) (IsReducedBasis-nil o w),
        subst P (sym none) (subst Q (sym a_is) (subst R (sym b_is) (λ v tuple. ((λ h. (h, h)), (λ h. h.0))))),
      )
