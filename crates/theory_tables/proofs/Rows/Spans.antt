-- Combinations of the rows of a matrix: by weights, of rows that are combinations themselves, and of two matrices
-- together.
use Rattle.std.specs.Prelude.{◌≡◌, ℕ, ◌+◌, ◌<◌, ◌≤◌, List, [], ◌∷◌, ◌++◌, length, get_or, cond, nat_eq}
use Rattle.std.specs.List.{All}
use Rattle.std.proofs.Common.{sym, ◌∙◌, ap, ap₂, subst, arith, ⊎_elim}
use Rattle.std.proofs.lemmas.Bool.{cases_lt}
use Rattle.std.proofs.lemmas.List.{get_or_append_left, get_or_push}
use Rattle.std.proofs.lemmas.List.Elements.{All-nil}
use Rattle.theory_rings.specs.Ops.{Ops, IsElem, FieldLaws}
use Rattle.theory_rings.specs.Elements.{Elem, elements}
use Rattle.theory_rings.specs.Sum.{sum_of, table, at}
use Rattle.theory_rings.proofs.Rings.Elements.{at-elem, sum_of-elem, sum_of-elements, sum_of_congr}
use Rattle.theory_rings.proofs.Sums.Sums as sums
use Rattle.theory_spaces.proofs.Linear.Families.{choose_each}
use Rattle.theory_spaces.proofs.Tuples.Tuples.{at-table, IsTuple-table}
use Rattle.theory_tables.specs.Matrix.{entry, IsMatrix}
use Rattle.theory_tables.specs.Subspace.{InSpan, SameSpan, IsKilled}
use Rattle.theory_tables.proofs.Rows.Terms.{add-zero, mul-zero, zero-mul, cond_either}
use Rattle.theory_tables.proofs.Rows.Sums.{sum_of_zeros, sum_of-delta_mul, sums_assoc, entry-elem}

module _ {E : Type 0} (o : Ops E) (L : FieldLaws o) where
  -- the sum of the rows with w columns by the weights c, in column j
  abbrev pub combined : List (List E) → (ℕ → E) → ℕ → E
  combined rows c j = sum_of o (length rows) (λ i. o.mul (c i) (entry o rows i j))

  pub combined_congr : (rows : List (List E)) (c d : ℕ → E) (j : ℕ) → ((i : ℕ) → i < length rows → c i ≡ d i)
      → combined rows c j ≡ combined rows d j
  combined_congr rows c d j h =
      sum_of_congr o (length rows) (λ i. o.mul (c i) (entry o rows i j)) (λ i. o.mul (d i) (entry o rows i j))
      (λ i i_in. ap (λ x. o.mul x (entry o rows i j)) (h i i_in))

  pub InSpan-by : (w : ℕ) (rows : List (List E)) (v : List E) (c : ℕ → E) → ((i : ℕ) → IsElem o (c i))
      → ((j : ℕ) → j < w → at o v j ≡ combined rows c j) → InSpan o w rows v
  InSpan-by w rows v c c_in e = (
    table (length rows) c,
    IsTuple-table o (length rows) c (λ k _. c_in k),
    λ j j_in.
        e j j_in ∙ combined_congr rows c (at o (table (length rows) c)) j
        (λ i i_in. sym (at-table o (length rows) c i i_in)),
  )

  pub InSpan_congr : (w : ℕ) (rows : List (List E)) (u v : List E) → ((j : ℕ) → j < w → at o u j ≡ at o v j)
      → InSpan o w rows u → InSpan o w rows v
  InSpan_congr w rows u v e s = (s.0, s.1, λ j j_in. sym (e j j_in) ∙ s.2 j j_in)

  weights-elem : (w : ℕ) (rows : List (List E)) (v : List E) (s : InSpan o w rows v) (i : ℕ) → IsElem o (at o s.0 i)
  weights-elem w rows v s i = at-elem o L s.0 s.1.of_elements i

  pub InSpan-zero : (w : ℕ) (rows : List (List E)) (v : List E) → IsMatrix o w rows
      → ((j : ℕ) → j < w → at o v j ≡ o.zero) → InSpan o w rows v
  InSpan-zero w rows v shape z = InSpan-by w rows v (λ _. o.zero) (λ _. L.zero-elem) (λ j j_in.
      z j j_in ∙ sym (sum_of_congr o (length rows) (λ i. o.mul o.zero (entry o rows i j)) (λ _. o.zero)
      (λ i _. zero-mul o L (entry o rows i j) (entry-elem o L w rows shape i j))
      ∙ sum_of_zeros o L (length rows)))

  pub InSpan-member : (w : ℕ) (rows : List (List E)) → IsMatrix o w rows → (i : ℕ) → i < length rows
      → InSpan o w rows (get_or rows i [])
  InSpan-member w rows shape i i_in = InSpan-by w rows (get_or rows i []) (λ k. cond (nat_eq k i) o.one o.zero)
      (λ k. cond_either (IsElem o) (nat_eq k i) o.one o.zero L.one-elem L.zero-elem)
      (λ j _. sym (sum_of-delta_mul o L (length rows) i (λ k. entry o rows k j)
      (λ k. entry-elem o L w rows shape k j) i_in))

  -- combinations of combinations
  pub InSpan_trans : (w : ℕ) (a b : List (List E)) (v : List E) → IsMatrix o w b
      → ((i : ℕ) → i < length a → InSpan o w b (get_or a i [])) → InSpan o w a v → InSpan o w b v
  InSpan_trans w a b v shape each s =
      let W : Type 0 = (x : List E) × All (IsElem o) x in
      let fits : ℕ → W → Type 0 = λ i x. (j : ℕ) → j < w → entry o a i j ≡ combined b (at o x.0) j in
      let none : W = ([], All-nil (IsElem o)) in
      let m = choose_each (length a) fits none (λ i i_in. let h = each i i_in in ((h.0, h.1.of_elements), h.2)) in
      let m_in = λ (i k : ℕ). at-elem o L (m.0 i).0 (m.0 i).1 k in
      let s_in = weights-elem w a v s in
      InSpan-by w b v (λ k. sum_of o (length a) (λ i. o.mul (at o s.0 i) (at o (m.0 i).0 k)))
      (λ k. sum_of-elem o L (length a) (λ i. o.mul (at o s.0 i) (at o (m.0 i).0 k))
      (λ i _. L.mul-elem _ _ (s_in i) (m_in i k)))
      (λ j j_in. s.2 j j_in
      ∙ sum_of_congr o (length a) (λ i. o.mul (at o s.0 i) (entry o a i j))
      (λ i. o.mul (at o s.0 i) (combined b (at o (m.0 i).0) j))
      (λ i i_in. ap (o.mul (at o s.0 i)) (m.1 i i_in j j_in))
      ∙ sym (sums_assoc o L (length a) (length b) (at o s.0) (λ i k. at o (m.0 i).0 k) (λ k. entry o b k j) s_in m_in
      (λ k. entry-elem o L w b shape k j)))

  pub SameSpan-by : (w : ℕ) (a b : List (List E)) → IsMatrix o w a → IsMatrix o w b
      → ((i : ℕ) → i < length a → InSpan o w b (get_or a i []))
      → ((i : ℕ) → i < length b → InSpan o w a (get_or b i [])) → SameSpan o w a b
  SameSpan-by w a b sa sb ab ba v _ = (InSpan_trans w a b v sb ab, InSpan_trans w b a v sa ba)

  pub SameSpan_sym : (w : ℕ) (a b : List (List E)) → SameSpan o w a b → SameSpan o w b a
  SameSpan_sym w a b s v t = ((s v t).1, (s v t).0)

  pub SameSpan_trans : (w : ℕ) (a b c : List (List E)) → SameSpan o w a b → SameSpan o w b c → SameSpan o w a c
  SameSpan_trans w a b c s r v t = (λ x. (r v t).0 ((s v t).0 x), λ x. (s v t).1 ((r v t).1 x))

  -- the rows of one are combinations of the rows of the other
  pub rows_in : (w : ℕ) (a b : List (List E)) → IsMatrix o w a → SameSpan o w a b → (i : ℕ) → i < length a
      → InSpan o w b (get_or a i [])
  rows_in w a b shape s i i_in = (s (get_or a i []) (shape i [] i_in)).0 (InSpan-member w a shape i i_in)

  -- what a matrix sends to 0, the combinations of its rows do too
  pub IsKilled_trans : (w : ℕ) (a b : List (List E)) (v : List E) → IsMatrix o w b → All (IsElem o) v
      → ((i : ℕ) → i < length a → InSpan o w b (get_or a i []))
      → IsKilled o (length b) w b v → IsKilled o (length a) w a v
  IsKilled_trans w a b v shape v_elems each killed i i_in =
      let h = each i i_in in
      let v_in = at-elem o L v v_elems in
      let h_in = weights-elem w b (get_or a i []) h in
      sum_of_congr o w (λ j. o.mul (entry o a i j) (at o v j)) (λ j. o.mul (combined b (at o h.0) j) (at o v j))
      (λ j j_in. ap (λ x. o.mul x (at o v j)) (h.2 j j_in))
      ∙ sums_assoc o L (length b) w (at o h.0) (entry o b) (at o v) h_in (entry-elem o L w b shape) v_in
      ∙ sum_of_congr o (length b) (λ k. o.mul (at o h.0 k) (sum_of o w (λ j. o.mul (entry o b k j) (at o v j))))
      (λ _. o.zero)
      (λ k k_in. ap (o.mul (at o h.0 k)) (killed k k_in) ∙ mul-zero o L (at o h.0 k) (h_in k))
      ∙ sum_of_zeros o L (length b)

  pub sum_of-split : (n m : ℕ) (f : ℕ → E) → ((k : ℕ) → IsElem o (f k))
      → sum_of o (n + m) f ≡ o.add (sum_of o n f) (sum_of o m (λ i. f (n + i)))
  sum_of-split n m f f_in =
      let M = (elements o L).monoid in
      let F : ℕ → Elem o = λ k. (f k, f_in k) in
      sum_of-elements o L (n + m) F ∙ ap (λ x. x.0) (sums.sum-split M n m F)
      ∙ ap₂ o.add (sym (sum_of-elements o L n F)) (sym (sum_of-elements o L m (λ i. F (n + i))))

  -- a product with a factor 0 adds nothing
  pub add_zero_left : (s a b : E) → IsElem o s → IsElem o b → a ≡ o.zero → s ≡ o.add s (o.mul a b)
  add_zero_left s a b hs hb e = sym (ap (o.add s) (ap (λ x. o.mul x b) e ∙ zero-mul o L b hb) ∙ add-zero o L s hs)

  pub add_zero_right : (s a b : E) → IsElem o s → IsElem o a → b ≡ o.zero → s ≡ o.add s (o.mul a b)
  add_zero_right s a b hs ha e = sym (ap (o.add s) (ap (o.mul a) e ∙ mul-zero o L a ha) ∙ add-zero o L s hs)

-- a fact of each item, after one more
pub grow_at : {X : Type 0} (Q : ℕ → X → Type 0) (d : X) (j : ℕ) (before after : List X) (item : X) → length before ≡ j
    → ((k : ℕ) → k < j → Q k (get_or before k d)) → Q j item
    → after ≡ before ++ item ∷ [] → (k : ℕ) → k < j + 1 → Q k (get_or after k d)
grow_at Q d j before after item long h q e k k_in = ⊎_elim
    (λ (low : k < j). let low' : k < length before = omega arith in
    subst (Q k) (sym (ap (λ xs. get_or xs k d) e ∙ get_or_append_left before (item ∷ []) d k low')) (h k low))
    (λ (high : j ≤ k).
    let is : j ≡ k = omega arith in
    let P = λ (k : ℕ). Q k (get_or after k d) in
    subst P is (subst (Q j) (sym (ap (λ xs. get_or xs j d) e ∙ get_or_push before item d j long)) q))
    (cases_lt k j)
