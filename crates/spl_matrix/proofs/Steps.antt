-- The steps of the elimination, and what it leaves.
use Rattle.std.proofs.Common.{◌≡◌, inl, inr, ℕ, ◌+◌, ◌<◌, List, [], ◌∷◌, ◌++◌, length, get_or, take, cond, nat_eq}
use Rattle.std.proofs.Common.{refl, sym, ap, ap₂, subst, ◌∙◌, arith}
use Rattle.theory_rings.specs.Ops.{Ops, FieldLaws}
use Rattle.theory_rings.specs.Sum.{sum_of, table, at}
use Rattle.theory_rings.proofs.Rings.Elements.{at-elem, sum_of_congr}
use Rattle.theory_rings.proofs.Sums.Lists.{get_or-table, length-table, All-table, table_congr}
use Rattle.theory_spaces.specs.Tuples.{IsTuple}
use Rattle.theory_spaces.proofs.Tuples.Tuples.{IsTuple-table}
use Rattle.theory_tables.specs.Matrix.{entry, product, IsMatrix}
use Rattle.spl_matrix.specs.Elimination.{lead_of, reduced_by, pivoted_row, pivoted, IsStep, Combines, IsEliminated}
use Rattle.spl_matrix.specs.Elimination.{identity_row, augmented, columns}
use Rattle.spl_matrix.proofs.Beside.{at-append_low, at-append_high, columns-shape}
use Rattle.theory_tables.specs.Echelon.{IsReducedEchelon, IsEchelon, IsInvertible}
use Rattle.theory_tables.specs.Subspace.{SameSpan, IsReducedBasis}
use Rattle.spl_matrix.proofs.Combinations.{sum_of-mul_delta, Combines-refl, Combines-trans, pivoted_forth, pivoted_back}
use Rattle.spl_matrix.proofs.Forms.{form_after, form_skipped}
use Rattle.theory_tables.proofs.Rows.Inverses.{IsInverse-left}
use Rattle.spl_matrix.proofs.Pivots.{lead_of-tuple}
use Rattle.theory_tables.proofs.Rows.Spans.{InSpan-by, SameSpan-by, SameSpan_trans}
use Rattle.theory_tables.proofs.Rows.PivotRows.{kept_shape, kept_length, kept_form, kept_same}
use Rattle.theory_tables.proofs.Rows.Terms.{cond_either}
use Rattle.theory_tables.proofs.Rows.Sums.{entry-elem, table_matrix, entry_table}

module _ {E : Type 0} (o : Ops E) (L : FieldLaws o) where
  pivoted-shape : (h n : ℕ) (rows : List (List E)) (p r col : ℕ) → IsMatrix o n rows
      → IsMatrix o n (pivoted o h n rows p r col)
  pivoted-shape h n rows p r col shape =
      let rows_in = entry-elem o L n rows shape in
      let lead = lead_of o n rows p col in
      let lead_tuple = lead_of-tuple o L n rows p col shape in
      All-table (IsTuple o n) h (pivoted_row o n rows p r col) (λ i _.
      let source = cond (nat_eq i p) r i in
      cond_either (IsTuple o n) (nat_eq i r) lead (reduced_by o n (get_or rows source []) col lead) lead_tuple
      (IsTuple-table o n (λ j. o.add (entry o rows source j) (o.mul (o.neg (entry o rows source col)) (at o lead j)))
      (λ j _. L.add-elem _ _ (rows_in source j)
      (L.mul-elem _ _ (L.neg-elem _ (rows_in source col)) (at-elem o L lead lead_tuple.of_elements j)))))

  start_form : (h : ℕ) (rows : List (List E)) → IsReducedEchelon o h rows [] 0
  start_form h rows = record {
    count = omega arith;
    below = λ s s_in. absurd (omega arith);
    order = λ s t s_lt t_in. absurd (omega arith);
    unit = λ s i s_in i_in. absurd (omega arith);
    left = λ s j s_in j_low. absurd (omega arith);
    rest = λ i j i_high i_in j_low. absurd (omega arith);
  }

  pub start_eliminated : (h n : ℕ) (rows : List (List E)) → IsMatrix o n rows → length rows ≡ h
      → IsEliminated o h n 0 rows rows []
  start_eliminated h n rows shape long = record {
    shape = shape;
    height = long;
    reduced = start_form h rows;
    forth = Combines-refl o L h n rows (entry-elem o L n rows shape);
    back = Combines-refl o L h n rows (entry-elem o L n rows shape);
  }

  pub step_eliminated : (h n col : ℕ) (origin rows rows' : List (List E)) (pivots pivots' : List ℕ)
      → IsMatrix o n origin → col < n
      → IsStep o h n col rows rows' pivots pivots' → IsEliminated o h n col origin rows pivots
      → IsEliminated o h n (col + 1) origin rows' pivots'
  step_eliminated h n col origin rows rows' pivots pivots' origin_shape col_in step before = elim step [
    | inl s ↦
        let Q = λ (m : List (List E)). IsEliminated o h n (col + 1) origin m pivots' in
        let R = λ (ps : List ℕ). IsEliminated o h n (col + 1) origin rows ps in
        let after : IsEliminated o h n (col + 1) origin rows pivots = record {
          shape = before.shape;
          height = before.height;
          reduced = form_skipped o h rows pivots col s.none before.reduced;
          forth = before.forth;
          back = before.back;
        } in
        subst Q (sym s.same_rows) (subst R (sym s.same_pivots) after)
    | inr s ↦
        let r = length pivots in
        let new = pivoted o h n rows s.p r col in
        let Q = λ (m : List (List E)). IsEliminated o h n (col + 1) origin m pivots' in
        let R = λ (ps : List ℕ). IsEliminated o h n (col + 1) origin new ps in
        let rows_in = entry-elem o L n rows before.shape in
        let new_shape = pivoted-shape h n rows s.p r col before.shape in
        let new_in = entry-elem o L n new new_shape in
        let after : IsEliminated o h n (col + 1) origin new (pivots ++ col ∷ []) = record {
          shape = new_shape;
          height = length-table h (pivoted_row o n rows s.p r col);
          reduced = form_after o L h n rows rows_in s.p r col col_in s.within s.from s.nonzero pivots refl
              before.reduced;
          forth = Combines-trans o L h n origin rows new (entry-elem o L n origin origin_shape) before.forth
              (pivoted_forth o L h n rows rows_in s.p r col col_in s.within s.from s.nonzero new_in);
          back = Combines-trans o L h n new rows origin new_in
              (pivoted_back o L h n rows rows_in s.p r col col_in s.within s.from s.nonzero new_in) before.back;
        } in
        subst Q (sym s.new_rows) (subst R (sym s.new_pivots) after)
  ]

  -- the rows before and after have the same combinations
  same_span : (n w : ℕ) (a b : List (List E)) (pivots : List ℕ) → IsMatrix o n a
      → IsEliminated o (length a) n w a b pivots → SameSpan o n a b
  same_span n w a b pivots shape e =
      let P : ℕ → Type 0 = λ h. Combines o h n b a in
      let back : Combines o (length b) n b a = subst P (sym e.height) e.back in
      SameSpan-by o L n a b shape e.shape
      (λ i i_in. let i_in' : i < length b = omega (arith, e.height) in
      InSpan-by o L n b (get_or a i []) (back.weight i) (back.weight-elem i)
      (λ j j_in. sym (back.combines i j i_in' j_in)))
      (λ i i_in. let i_in' : i < length a = omega (arith, e.height) in
      InSpan-by o L n a (get_or b i []) (e.forth.weight i) (e.forth.weight-elem i)
      (λ j j_in. sym (e.forth.combines i j i_in' j_in)))

  -- the transform stands after the first w columns
  unit_after : (h w : ℕ) (a : List (List E)) (m k : ℕ) → length a ≡ h → IsMatrix o w a → m < h → k < h
      → entry o (augmented o h a) m (w + k) ≡ cond (nat_eq k m) o.one o.zero
  unit_after h w a m k long shape m_in k_in =
      let m_in' : m < length a = omega arith in
      let row = get_or a m [] in
      ap (λ xs. at o xs (w + k)) (get_or-table h (λ i. get_or a i [] ++ identity_row o h i) m [] m_in)
      ∙ at-append_high o w row (identity_row o h m) k (shape m [] m_in').right_length
      ∙ get_or-table h (λ l. cond (nat_eq l m) o.one o.zero) k o.zero k_in

  same_before : (h w : ℕ) (a : List (List E)) (m j : ℕ) → length a ≡ h → IsMatrix o w a → m < h → j < w
      → entry o (augmented o h a) m j ≡ entry o a m j
  same_before h w a m j long shape m_in j_in =
      let m_in' : m < length a = omega arith in
      let row = get_or a m [] in
      ap (λ xs. at o xs j) (get_or-table h (λ i. get_or a i [] ++ identity_row o h i) m [] m_in)
      ∙ at-append_low o w row (identity_row o h m) j (shape m [] m_in').right_length j_in

  -- the rows with a pivot are a basis of the span
  pub basis_after : (w : ℕ) (rows new : List (List E)) (pivots : List ℕ) → IsMatrix o w rows
      → IsEliminated o (length rows) w w rows new pivots
      → IsReducedBasis o w (take (length pivots) new) × SameSpan o w rows (take (length pivots) new)
  basis_after w rows new pivots shape e =
      let P : ℕ → Type 0 = λ h. IsReducedEchelon o h new pivots w in
      let form : IsReducedEchelon o (length new) new pivots w = subst P (sym e.height) e.reduced in (
        record {
          shape = kept_shape o L w new pivots e.shape form;
          pivots = pivots;
          each = sym (kept_length o L w new pivots e.shape form);
          reduced = kept_form o L w new pivots e.shape form;
        },
        SameSpan_trans o L w rows new (take (length pivots) new) (same_span w w rows new pivots shape e)
            (kept_same o L w new pivots e.shape form),
      )

  entry_columns : (h k n : ℕ) (rows : List (List E)) (i j : ℕ) → i < h → j < n
      → entry o (columns o h k n rows) i j ≡ entry o rows i (k + j)
  entry_columns h k n rows i j i_in j_in =
      ap (λ row. at o row j) (get_or-table h (λ i. table n (λ j. entry o rows i (k + j))) i [] i_in)
      ∙ get_or-table n (λ j. entry o rows i (k + j)) j o.zero j_in

  entry_left : (h n : ℕ) (rows : List (List E)) (i j : ℕ) → i < h → j < n
      → entry o (columns o h 0 n rows) i j ≡ entry o rows i j
  entry_left h n rows i j i_in j_in =
      let e : 0 + j ≡ j = omega arith in
      entry_columns h 0 n rows i j i_in j_in ∙ ap (entry o rows i) e

  form_left : (h w : ℕ) (rows : List (List E)) (pivots : List ℕ) → IsReducedEchelon o h rows pivots w
      → IsReducedEchelon o h (columns o h 0 w rows) pivots w
  form_left h w rows pivots form = record {
    count = form.count;
    below = form.below;
    order = form.order;
    unit = λ s i s_in i_in. entry_left h w rows i (get_or pivots s 0) i_in (form.below s s_in)
        ∙ form.unit s i s_in i_in;
    left = λ s j s_in j_low.
        let q_low = form.below s s_in in
        let j_in : j < w = omega arith in
        let s_low : s < h = omega (arith, form.count) in
        entry_left h w rows s j s_low j_in ∙ form.left s j s_in j_low;
    rest = λ i j i_high i_in j_low. entry_left h w rows i j i_in j_low ∙ form.rest i j i_high i_in j_low;
  }

  invertible : (h w : ℕ) (a rows transform : List (List E)) → length a ≡ h → IsMatrix o w a → IsMatrix o h transform
      → Combines o h (w + h) rows (augmented o h a) → transform ≡ columns o h w h rows → IsInvertible o h transform
  invertible h w a rows transform long shape transform_shape undo e =
      let u : List (List E) = table h (λ i. table h (undo.weight i)) in
      let u_shape : IsMatrix o h u = table_matrix o L h h undo.weight undo.weight-elem in
      let left : (i j : ℕ) → i < h → j < h
      → sum_of o h (λ k. o.mul (entry o u i k) (entry o transform k j)) ≡ cond (nat_eq j i) o.one o.zero =
      λ i j i_in j_in.
      let j_all : w + j < w + h = omega arith in
      sum_of_congr o h _ _ (λ k k_in.
      ap₂ o.mul (entry_table o L h h undo.weight i k i_in k_in)
      (ap (λ m. entry o m k j) e ∙ entry_columns h w h rows k j k_in j_in))
      ∙ undo.combines i (w + j) i_in j_all
      ∙ unit_after h w a i j long shape i_in j_in in
      record {
        inverse = u;
        is_inverse =
            IsInverse-left o L h u transform u_shape
            (length-table h (λ i. table h (undo.weight i))) transform_shape left;
      }

  transform_at : (h w : ℕ) (a rows : List (List E)) → length a ≡ h → IsMatrix o w a
      → (e : Combines o h (w + h) (augmented o h a) rows) (i k : ℕ)
      → i < h → k < h → entry o rows i (w + k) ≡ e.weight i k
  transform_at h w a rows long shape e i k i_in k_in =
      let k_all : w + k < w + h = omega arith in
      sym (e.combines i (w + k) i_in k_all)
      ∙ sum_of_congr o h _ _ (λ m m_in. ap (o.mul (e.weight i m)) (unit_after h w a m k long shape m_in k_in))
      ∙ sum_of-mul_delta o L h k (e.weight i) (e.weight-elem i) k_in

  transforms : (h w : ℕ) (a rows : List (List E)) → length a ≡ h → IsMatrix o w a
      → Combines o h (w + h) (augmented o h a) rows → (i j : ℕ) → i < h → j < w
      → sum_of o h (λ k. o.mul (entry o rows i (w + k)) (entry o a k j)) ≡ entry o rows i j
  transforms h w a rows long shape e i j i_in j_in =
      let j_all : j < w + h = omega arith in
      sum_of_congr o h _ _ (λ k k_in.
      ap₂ o.mul (transform_at h w a rows long shape e i k i_in k_in) (sym (same_before h w a k j long shape k_in j_in)))
      ∙ e.combines i j i_in j_all

  pub finish : (h w : ℕ) (a rows left : List (List E)) (pivots : List ℕ) (transform : List (List E))
      → length a ≡ h → IsMatrix o w a → IsEliminated o h (w + h) w (augmented o h a) rows pivots
      → left ≡ columns o h 0 w rows → transform ≡ columns o h w h rows
      → IsEchelon o h w a left pivots transform
  finish h w a rows left pivots transform long shape e left_is transform_is =
      let S = λ (n : ℕ) (m : List (List E)). IsMatrix o n m in
      let transform_shape = subst (S h) (sym transform_is) (columns-shape o L h w h (w + h) rows e.shape) in record {
        rows_shape = subst (S w) (sym left_is) (columns-shape o L h 0 w (w + h) rows e.shape);
        rows_height = ap length left_is ∙ length-table h _;
        transform_shape = transform_shape;
        transform_height = ap length transform_is ∙ length-table h _;
        reduced = let Q = λ (m : List (List E)). IsReducedEchelon o h m pivots w in
            subst Q (sym left_is) (form_left h w rows pivots e.reduced);
        makes =
            ap (λ t. product o h h w t a) transform_is
            ∙ table_congr h _ _ (λ i i_in. table_congr w _ _ (λ j j_in.
            let f : j ≡ 0 + j = omega arith in
            sum_of_congr o h _ _ (λ k k_in. ap (λ x. o.mul x (entry o a k j)) (entry_columns h w h rows i k i_in k_in))
            ∙ transforms h w a rows long shape e.forth i j i_in j_in
            ∙ ap (entry o rows i) f))
            ∙ sym left_is;
        invertible = invertible h w a rows transform long shape transform_shape e.back transform_is;
      }
