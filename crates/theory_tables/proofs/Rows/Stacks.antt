-- The rows of two matrices together span the sum of their spans.
use Rattle.std.specs.Prelude.{◌≡◌, ℕ, ◌+◌, ◌-◌, ◌<◌, List, [], ◌∷◌, ◌++◌, length, get_or, take, nat_lt}
use Rattle.std.proofs.Common.{sym, ◌∙◌, ap, ap₂, length-append, append_assoc}
use Rattle.std.proofs.lemmas.List.{get_or_append_left, get_or-append-add, take_more}
use Rattle.theory_rings.specs.Ops.{Ops, IsElem, FieldLaws}
use Rattle.theory_rings.specs.Sum.{sum_of, table, at}
use Rattle.theory_rings.proofs.Rings.Elements.{at-elem, sum_of-elem, sum_of_congr}
use Rattle.theory_spaces.proofs.Linear.Families.{join, join-below, join-above}
use Rattle.theory_spaces.proofs.Tuples.Tuples.{at-table, IsTuple-table}
use Rattle.theory_tables.specs.Matrix.{entry, IsMatrix}
use Rattle.theory_tables.specs.Subspace.{InSpan, IsSum, SpansSum}
use Rattle.theory_tables.proofs.Rows.Terms.{cond_either}
use Rattle.theory_tables.proofs.Rows.Sums.{entry-elem}
use Rattle.theory_tables.proofs.Rows.Spans.{combined, combined_congr, InSpan-by, sum_of-split}

-- one more row of b
pub stacked_step : {X : Type 0} (a b : List X) (i : ℕ) (before after : List X) (item d : X) → i < length b
    → before ≡ a ++ take i b → item ≡ get_or b i d
    → after ≡ before ++ item ∷ [] → after ≡ a ++ take (i + 1) b
stacked_step a b i before after item d i_in e f g =
    g ∙ ap₂ (λ xs x. xs ++ x ∷ []) e f ∙ append_assoc a (take i b) (get_or b i d ∷ [])
    ∙ ap (λ xs. a ++ xs) (sym (take_more b i d i_in))

module _ {E : Type 0} (o : Ops E) (L : FieldLaws o) (w : ℕ) (a b : List (List E)) (sa : IsMatrix o w a)
    (sb : IsMatrix o w b) where
  pub entry-left : (i j : ℕ) → i < length a → entry o (a ++ b) i j ≡ entry o a i j
  entry-left i j i_in = ap (λ (row : List E). at o row j) (get_or_append_left a b [] i i_in)

  pub entry-right : (i j : ℕ) → entry o (a ++ b) (length a + i) j ≡ entry o b i j
  entry-right i j = ap (λ (row : List E). at o row j) (get_or-append-add a b i [])

  -- the sum of both by weights
  pub combined-stacked : (c : ℕ → E) → ((i : ℕ) → IsElem o (c i)) → ((i j : ℕ) → IsElem o (entry o (a ++ b) i j))
      → (j : ℕ)
      → combined o L (a ++ b) c j ≡ o.add (combined o L a c j) (combined o L b (λ i. c (length a + i)) j)
  combined-stacked c c_in e_in j =
      let f : ℕ → E = λ i. o.mul (c i) (entry o (a ++ b) i j) in
      ap (λ (n : ℕ). sum_of o n f) (length-append a b)
      ∙ sum_of-split o L (length a) (length b) f (λ i. L.mul-elem _ _ (c_in i) (e_in i j))
      ∙ ap₂ o.add
      (sum_of_congr o (length a) f (λ i. o.mul (c i) (entry o a i j))
      (λ i i_in. ap (o.mul (c i)) (entry-left i j i_in)))
      (sum_of_congr o (length b) (λ i. f (length a + i)) (λ i. o.mul (c (length a + i)) (entry o b i j))
      (λ i _. ap (o.mul (c (length a + i))) (entry-right i j)))

  pub combined-elem : (rows : List (List E)) → IsMatrix o w rows → (c : ℕ → E) → ((i : ℕ) → IsElem o (c i)) → (j : ℕ)
      → IsElem o (combined o L rows c j)
  combined-elem rows shape c c_in j =
      sum_of-elem o L (length rows) (λ i. o.mul (c i) (entry o rows i j))
      (λ i _. L.mul-elem _ _ (c_in i) (entry-elem o L w rows shape i j))

  pub join-elem : (c d : ℕ → E) → ((i : ℕ) → IsElem o (c i)) → ((i : ℕ) → IsElem o (d i)) → (i : ℕ)
      → IsElem o (join (length a) c d i)
  join-elem c d c_in d_in i =
      cond_either (IsElem o) (nat_lt i (length a)) (c i) (d (i - length a)) (c_in i) (d_in (i - length a))

  pub spans_sum : IsMatrix o w (a ++ b) → SpansSum o w (a ++ b) a b
  spans_sum shape v _ =
      let e_in = entry-elem o L w (a ++ b) shape in (
        (λ (s : InSpan o w (a ++ b) v).
            let c = at o s.0 in
            let c_in = at-elem o L s.0 s.1.of_elements in
            let d : ℕ → E = λ i. c (length a + i) in
            let d_in = λ (i : ℕ). c_in (length a + i) in
            record {
              left = table w (combined o L a c);
              right = table w (combined o L b d);
              left_tuple = IsTuple-table o w (combined o L a c) (λ j _. combined-elem a sa c c_in j);
              right_tuple = IsTuple-table o w (combined o L b d) (λ j _. combined-elem b sb d d_in j);
              in_left = InSpan-by o L w a (table w (combined o L a c)) c c_in
                  (λ j j_in. at-table o w (combined o L a c) j j_in);
              in_right = InSpan-by o L w b (table w (combined o L b d)) d d_in
                  (λ j j_in. at-table o w (combined o L b d) j j_in);
              adds = λ j j_in. s.2 j j_in ∙ combined-stacked c c_in e_in j
                  ∙ sym (ap₂ o.add (at-table o w (combined o L a c) j j_in) (at-table o w (combined o L b d) j j_in));
            }),
        (λ (x : IsSum o w a b v).
            let c = at o x.in_left.0 in
            let d = at o x.in_right.0 in
            let y = join (length a) c d in
            let y_in = join-elem c d (at-elem o L x.in_left.0 x.in_left.1.of_elements)
            (at-elem o L x.in_right.0 x.in_right.1.of_elements) in
            InSpan-by o L w (a ++ b) v y y_in (λ j j_in.
            x.adds j j_in ∙ ap₂ o.add (x.in_left.2 j j_in) (x.in_right.2 j j_in)
            ∙ sym (combined-stacked y y_in e_in j
            ∙ ap₂ o.add (combined_congr o L a y c j (join-below (length a) c d))
            (combined_congr o L b (λ i. y (length a + i)) d j (λ i _. join-above (length a) c d i))))),
      )
