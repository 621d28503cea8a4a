-- Linear systems over a field contained in another.
use Rattle.std.specs.Prelude.{◌≡◌, ◌<◌, ℕ, List}
use Rattle.std.proofs.Common.{sym, ◌∙◌, ap, ap₂}
use Rattle.theory_rings.specs.Ops.{Ops, IsElem, FieldLaws}
use Rattle.theory_rings.specs.Sum.{sum_of, at}
use Rattle.theory_rings.proofs.Rings.Elements.{at-elem, sum_of-elem, sum_of_congr}
use Rattle.theory_spaces.specs.Tuples.{IsTuple}
use Rattle.theory_tables.specs.Matrix.{entry, IsMatrix}
use Rattle.theory_tables.specs.Solve.{IsRefuted}
use Rattle.theory_tables.proofs.Rows.Sums.{entry-elem, table_matrix, entry_table}
use Rattle.theory_tables.proofs.Rows.Refutations.{not_both}
use Rattle.theory_constants.specs.Subfield.{IsFieldMap, images}
use Rattle.theory_constants.specs.Systems.{matrix_images, KeepsSystems, SystemLaw}
use Rattle.theory_constants.proofs.Subfield.{map-sum_of, map-injective, images-tuple, images-at}

module _ {E R : Type 0} (o : Ops E) (L : FieldLaws o) (r : Ops R) (N : FieldLaws r) (f : E → R)
    (m : IsFieldMap o r f) (h w : ℕ) (a : List (List E)) (shape : IsMatrix o w a) where
  abbrev b : List (List R)
  b = matrix_images o r f h w a

  entry_in : (i j : ℕ) → IsElem o (entry o a i j)
  entry_in = entry-elem o L w a shape

  entry-image : (i j : ℕ) → i < h → j < w → entry r b i j ≡ f (entry o a i j)
  entry-image i j hi hj = entry_table r N h w (λ i j. f (entry o a i j)) i j hi hj

  image_at : (n : ℕ) (v : List E) (k : ℕ) → k < n → at r (images o r f n v) k ≡ f (at o v k)
  image_at n v k l = images-at o L r N f m n v k l

  row_sum : (v : List E) → IsTuple o w v → (i : ℕ) → i < h
      → sum_of r w (λ j. r.mul (entry r b i j) (at r (images o r f w v) j))
      ≡ f (sum_of o w (λ j. o.mul (entry o a i j) (at o v j)))
  row_sum v hv i hi =
      let v_in = at-elem o L v hv.of_elements in
      sum_of_congr r w (λ j. r.mul (entry r b i j) (at r (images o r f w v) j))
      (λ j. f (o.mul (entry o a i j) (at o v j)))
      (λ j hj. ap₂ r.mul (entry-image i j hi hj) (image_at w v j hj)
      ∙ sym (m.map-mul (entry o a i j) (at o v j) (entry_in i j) (v_in j)))
      ∙ sym (map-sum_of o L r N f m w (λ j. o.mul (entry o a i j) (at o v j))
      (λ j. L.mul-elem (entry o a i j) (at o v j) (entry_in i j) (v_in j)))

  column_sum : (c : List E) → IsTuple o h c → (j : ℕ) → j < w
      → sum_of r h (λ i. r.mul (at r (images o r f h c) i) (entry r b i j))
      ≡ f (sum_of o h (λ i. o.mul (at o c i) (entry o a i j)))
  column_sum c hc j hj =
      let c_in = at-elem o L c hc.of_elements in
      sum_of_congr r h (λ i. r.mul (at r (images o r f h c) i) (entry r b i j))
      (λ i. f (o.mul (at o c i) (entry o a i j)))
      (λ i hi. ap₂ r.mul (image_at h c i hi) (entry-image i j hi hj)
      ∙ sym (m.map-mul (at o c i) (entry o a i j) (c_in i) (entry_in i j)))
      ∙ sym (map-sum_of o L r N f m h (λ i. o.mul (at o c i) (entry o a i j))
      (λ i. L.mul-elem (at o c i) (entry o a i j) (c_in i) (entry_in i j)))

  right_sum : (c right : List E) → IsTuple o h c → IsTuple o h right
      → sum_of r h (λ i. r.mul (at r (images o r f h c) i) (at r (images o r f h right) i))
      ≡ f (sum_of o h (λ i. o.mul (at o c i) (at o right i)))
  right_sum c right hc hr =
      let c_in = at-elem o L c hc.of_elements in
      let r_in = at-elem o L right hr.of_elements in
      sum_of_congr r h (λ i. r.mul (at r (images o r f h c) i) (at r (images o r f h right) i))
      (λ i. f (o.mul (at o c i) (at o right i)))
      (λ i hi. ap₂ r.mul (image_at h c i hi) (image_at h right i hi)
      ∙ sym (m.map-mul (at o c i) (at o right i) (c_in i) (r_in i)))
      ∙ sym (map-sum_of o L r N f m h (λ i. o.mul (at o c i) (at o right i))
      (λ i. L.mul-elem (at o c i) (at o right i) (c_in i) (r_in i)))

  row_elem : (v : List E) → IsTuple o w v → (i : ℕ) → IsElem o (sum_of o w (λ j. o.mul (entry o a i j) (at o v j)))
  row_elem v hv i = sum_of-elem o L w (λ j. o.mul (entry o a i j) (at o v j))
      (λ j _. L.mul-elem (entry o a i j) (at o v j) (entry_in i j) (at-elem o L v hv.of_elements j))

  refuted : (right c : List E) → IsTuple o h right → IsRefuted o h w a right c
      → IsRefuted r h w b (images o r f h right) (images o r f h c)
  refuted right c hr s = record {
    tuple = images-tuple o L r N f m h c s.tuple;
    kills = λ j hj. column_sum c s.tuple j hj ∙ ap f (s.kills j hj) ∙ m.map-zero;
    refutes = right_sum c right s.tuple hr ∙ ap f s.refutes ∙ m.map-one;
  }

  keeps : KeepsSystems o r f h w a
  keeps = record {
    kernel = λ v hv. (
      (λ e i hi. row_sum v hv i hi ∙ ap f (e i hi) ∙ m.map-zero),
      (λ e i hi. map-injective o L r N f m (sum_of o w (λ j. o.mul (entry o a i j) (at o v j))) o.zero
          (row_elem v hv i) L.zero-elem (sym (row_sum v hv i hi) ∙ e i hi ∙ sym m.map-zero)),
    );
    solved = λ right v hr s. record {
      tuple = images-tuple o L r N f m w v s.tuple;
      solves = λ i hi. row_sum v s.tuple i hi ∙ ap f (s.solves i hi) ∙ sym (image_at h right i hi);
    };
    refuted = refuted;
    no_solution = λ right c v hr s t. not_both r N h w b (images o r f h right) v (images o r f h c)
        (table_matrix r N h w (λ i j. f (entry o a i j)) (λ i j. m.map-elem (entry o a i j) (entry_in i j))) t
        (refuted right c hr s);
  }

module _ {E R : Type 0} (o : Ops E) (L : FieldLaws o) (r : Ops R) (N : FieldLaws r) (f : E → R) where
  pub system_law : SystemLaw o r f
  system_law m h w a shape = keeps o L r N f m h w a shape
