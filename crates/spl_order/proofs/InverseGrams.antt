-- The Gram matrix of the dual basis for the trace form is the inverse of that of the basis. (Reiner, Maximal Orders,
-- section 4.)
use Rattle.std.specs.Prelude.{◌≡◌, ℕ, ◌<◌, List, [], length, get_or}
use Rattle.std.proofs.Common.{sym, ◌∙◌, ap, ap₂, arith}
use Rattle.theory_rings.specs.Ring.{FieldOn}
use Rattle.theory_rings.specs.Ops.{Ops, FieldLaws}
use Rattle.theory_rings.specs.Elements.{Elem, Elem-path, elements}
use Rattle.theory_rings.specs.Sum.{sum}
use Rattle.theory_rings.proofs.Rings.Elements.{sum_of-elements, sum_of_congr}
use Rattle.theory_spaces.specs.Matrix.{delta}
use Rattle.theory_spaces.specs.Module.{ModuleOn}
use Rattle.theory_spaces.specs.Linear.{Basis}
use Rattle.theory_spaces.specs.Form.{IsBilinear}
use Rattle.theory_spaces.specs.Tuples.{Tuple}
use Rattle.theory_spaces.proofs.Forms.Forms.{form-comb_left, expand-left_dual}
use Rattle.theory_spaces.proofs.Matrices.Matrices.{delta_comm}
use Rattle.theory_spaces.proofs.Tuples.Tuples.{tuples}
use Rattle.theory_tables.specs.Matrix.{entry, IsMatrix}
use Rattle.theory_tables.specs.Structure.{Structure, IsOver, IsAssociative}
use Rattle.theory_tables.proofs.Algebras.Bridge.{row, row-is}
use Rattle.theory_bases.specs.TupleLattices.{AreIndependentTuples, AreTraceDual, trace_of_product}
use Rattle.theory_bases.specs.Grams.{gram_entry, IsInverseGram}
use Rattle.theory_bases.proofs.DualRows.{delta-value}
use Rattle.theory_bases.proofs.TraceForms.{form, form-is, form_bilinear, form_symmetric}
use Rattle.theory_left_orders.proofs.TupleLattices.{rows_basis}

module _ {E : Type 0} (o : Ops E) (L : FieldLaws o) (A : Structure E) (over : IsOver o A) (assoc : IsAssociative o A)
    (rows duals : List (List E)) (free : AreIndependentTuples o A.dim rows)
    (dual_free : AreIndependentTuples o A.dim duals) (D : AreTraceDual o A rows duals) where
  abbrev K : FieldOn (Elem o)
  K = elements o L

  abbrev m : ℕ
  m = A.dim

  abbrev N : ModuleOn K.ring (Tuple o m)
  N = tuples o L m

  abbrev B : Basis N m
  B = rows_basis o L m rows free

  abbrev v : ℕ → Tuple o m
  v = row o L m rows free.shape

  abbrev w : ℕ → Tuple o m
  w = row o L m duals dual_free.shape

  abbrev f : Tuple o m → Tuple o m → Elem o
  f = form o L A over.of_elements assoc

  bilinear : IsBilinear N f
  bilinear = form_bilinear o L A over.of_elements assoc

  symmetric : (x y : Tuple o m) → f x y ≡ f y x
  symmetric = form_symmetric o L A over.of_elements assoc

  v-is : (i : ℕ) → i < m → (v i).0 ≡ get_or rows i []
  v-is i i_in = row-is o L m rows free.shape i (let e = free.count in omega (arith, i_in, e))

  w-is : (i : ℕ) → i < m → (w i).0 ≡ get_or duals i []
  w-is i i_in = row-is o L m duals dual_free.shape i (let e = dual_free.count in omega (arith, i_in, e))

  pairs : (i j : ℕ) → i < m → j < m → f (w i) (v j) ≡ delta K.ring i j
  pairs i j i_in j_in =
      symmetric (w i) (v j)
      ∙ Elem-path o (f (v j) (w i)) (delta K.ring j i)
      (form-is o L A over.of_elements assoc (v j) (w i)
      ∙ ap₂ (trace_of_product o A) (v-is j j_in) (w-is i i_in)
      ∙ D.pairing j i j_in i_in ∙ sym (delta-value o L j i))
      ∙ delta_comm K.ring j i

  product : (i j : ℕ) → i < m → j < m
      → sum K.monoid m (λ k. K.◌⊗◌ (f (w k) (w i)) (f (v k) (v j))) ≡ delta K.ring i j
  product i j i_in j_in =
      sym (form-comb_left K.cring N f bilinear m (λ k. f (w k) (w i)) v (v j))
      ∙ ap (λ x. f x (v j)) (sym (expand-left_dual K N f bilinear m B w pairs (w i)))
      ∙ pairs i j i_in j_in

  module _ (inverse : List (List E)) (count : length inverse ≡ m) (shape : IsMatrix o m inverse)
      (entries : (i j : ℕ) → i < m → j < m → entry o inverse i j ≡ gram_entry o A duals i j) where
    pub inverse_of_dual : IsInverseGram o A rows inverse
    inverse_of_dual = record {
      count = count;
      shape = shape;
      inverts = λ i j i_in j_in.
          sum_of_congr o m (λ k. o.mul (entry o inverse i k) (gram_entry o A rows k j))
          (λ k. (K.◌⊗◌ (f (w k) (w i)) (f (v k) (v j))).0)
          (λ k k_in. ap₂ o.mul
          (entries i k i_in k_in
          ∙ ap₂ (trace_of_product o A) (sym (w-is i i_in)) (sym (w-is k k_in))
          ∙ sym (form-is o L A over.of_elements assoc (w i) (w k))
          ∙ ap (λ (c : Elem o). c.0) (symmetric (w i) (w k)))
          (ap₂ (trace_of_product o A) (sym (v-is k k_in)) (sym (v-is j j_in))
          ∙ sym (form-is o L A over.of_elements assoc (v k) (v j))))
          ∙ sum_of-elements o L m (λ k. K.◌⊗◌ (f (w k) (w i)) (f (v k) (v j)))
          ∙ ap (λ (c : Elem o). c.0) (product i j i_in j_in ∙ delta_comm K.ring i j)
          ∙ delta-value o L j i;
    }
