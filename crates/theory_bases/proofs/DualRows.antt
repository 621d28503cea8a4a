-- Dual tuples for the trace form by matrices over denominators.
use Rattle.std.specs.Prelude.{◌≡◌, ◌≢◌, ◌<◌, ℕ, List, Bool, true, false, cond, eqb, length, get_or}
use Rattle.std.specs.List.{All}
use Rattle.std.proofs.Common.{refl, sym, ◌∙◌, ap, ap₂, subst, arith}
use Rattle.theory_rings.specs.Ring.{FieldOn}
use Rattle.theory_rings.specs.Ops.{Ops, IsElem, FieldLaws}
use Rattle.theory_rings.specs.Elements.{Elem, Elem-path, elements}
use Rattle.theory_rings.specs.Sum.{sum}
use Rattle.theory_rings.proofs.Rings.Fields.{mul_left_cancel, field_mul-ne-zero}
use Rattle.theory_rings.proofs.Rings.Solver.{◌⊠◌, ring3, ring4}
use Rattle.theory_rings.proofs.Sums.Sums.{sum_congr, mul-sum}
use Rattle.theory_spaces.specs.Matrix.{delta}
use Rattle.theory_spaces.specs.Module.{ModuleOn}
use Rattle.theory_spaces.specs.Linear.{Independent, comb}
use Rattle.theory_spaces.specs.Tuples.{Tuple}
use Rattle.theory_spaces.proofs.Forms.Forms.{form-comb_right, form-zero_right}
use Rattle.theory_spaces.proofs.Matrices.Matrices.{delta_comm, sum-mul_delta}
use Rattle.theory_spaces.proofs.Tuples.Tuples.{tuples}
use Rattle.theory_tables.specs.Matrix.{IsMatrix}
use Rattle.theory_tables.specs.Subspace.{AreIndependent}
use Rattle.theory_tables.specs.Structure.{Structure, IsAssociative}
use Rattle.theory_tables.proofs.Algebras.Bridge.{row, row-is, from_independent}
use Rattle.theory_bases.specs.TupleLattices.{AreTraceDual, trace_of_product}
use Rattle.theory_bases.proofs.TraceForms.{units, form, form-is, form_bilinear, form_by_matrix, matrix}

module _ {E : Type 0} (o : Ops E) (L : FieldLaws o) where
  pub delta-value : (i j : ℕ) → (delta (let K = elements o L in K.ring) i j).0 ≡ cond (eqb i j) o.one o.zero
  delta-value i j = go (eqb i j)
    where
      go : (b : Bool) → (cond b (let K = elements o L in K.one) (let K = elements o L in K.zero)).0
          ≡ cond b o.one o.zero
      go true = refl
      go false = refl

module _ {E : Type 0} (o : Ops E) (L : FieldLaws o) (A : Structure E) (constants : All (IsElem o) A.constants)
    (assoc : IsAssociative o A) where
  abbrev m : ℕ
  m = A.dim

  abbrev K : FieldOn (Elem o)
  K = elements o L

  abbrev M : ModuleOn K.ring (Tuple o m)
  M = tuples o L m

  abbrev f : Tuple o m → Tuple o m → Elem o
  f = form o L A constants assoc

  abbrev coord : Tuple o m → ℕ → Elem o
  coord x k = (let B = units o L A constants assoc in B.coord) x k

  abbrev τ : ℕ → ℕ → Elem o
  τ = matrix o L A constants assoc

  -- the form at a row a over d, by b, which is e times the matrix of the form
  pub scaled_form : (x y : Tuple o m) (a : ℕ → Elem o) (b : ℕ → ℕ → Elem o) (d e : Elem o)
      → ((k : ℕ) → k < m → K.◌⊗◌ d (coord x k) ≡ a k) → ((k l : ℕ) → k < m → l < m → b k l ≡ K.◌⊗◌ e (τ k l))
      → K.◌⊗◌ (K.◌⊗◌ d e) (f x y) ≡ sum K.monoid m
      (λ l. K.◌⊗◌ (sum K.monoid m (λ k. K.◌⊗◌ (a k) (b k l))) (coord y l))
  scaled_form x y a b d e x-is b-is =
      let inner : ℕ → Elem o = λ l. sum K.monoid m (λ k. K.◌⊗◌ (coord x k) (τ k l)) in
      ap (K.◌⊗◌ (K.◌⊗◌ d e)) (form_by_matrix o L A constants assoc x y)
      ∙ mul-sum K.ring m (K.◌⊗◌ d e) (λ l. K.◌⊗◌ (inner l) (coord y l))
      ∙ sum_congr K.monoid m (λ l. K.◌⊗◌ (K.◌⊗◌ d e) (K.◌⊗◌ (inner l) (coord y l)))
      (λ l. K.◌⊗◌ (sum K.monoid m (λ k. K.◌⊗◌ (a k) (b k l))) (coord y l)) (λ l l_in.
      sym (K.mul_assoc (K.◌⊗◌ d e) (inner l) (coord y l))
      ∙ ap (λ z. K.◌⊗◌ z (coord y l)) (mul-sum K.ring m (K.◌⊗◌ d e) (λ k. K.◌⊗◌ (coord x k) (τ k l))
      ∙ sum_congr K.monoid m (λ k. K.◌⊗◌ (K.◌⊗◌ d e) (K.◌⊗◌ (coord x k) (τ k l))) (λ k. K.◌⊗◌ (a k) (b k l))
      (λ k k_in. ring4 K.cring (λ d e x t. ((d ⊠ e) ⊠ (x ⊠ t), (d ⊠ x) ⊠ (e ⊠ t))) refl d e (coord x k) (τ k l)
      ∙ ap₂ K.◌⊗◌ (x-is k k_in) (sym (b-is k l k_in l_in)))))

  -- X is a over d, b is e times the matrix of the form, and Y is d·e·r over s, where r times the transposed of a·b is s
  module _ (X Y : ℕ → Tuple o m) (a b r : ℕ → ℕ → Elem o) (d e s : Elem o) (s_nonzero : s ≢ K.zero)
      (de_nonzero : K.◌⊗◌ d e ≢ K.zero)
      (X-is : (i k : ℕ) → i < m → k < m → K.◌⊗◌ d (coord (X i) k) ≡ a i k)
      (b-is : (k l : ℕ) → k < m → l < m → b k l ≡ K.◌⊗◌ e (τ k l))
      (Y-is : (j l : ℕ) → j < m → l < m → K.◌⊗◌ s (coord (Y j) l) ≡ K.◌⊗◌ (K.◌⊗◌ d e) (r j l))
      (inverse : (i j : ℕ) → i < m → j < m → sum K.monoid m
      (λ l. K.◌⊗◌ (r j l) (sum K.monoid m (λ k. K.◌⊗◌ (a i k) (b k l)))) ≡ K.◌⊗◌ s (delta K.ring i j)) where
    pub dual_pairing : (i j : ℕ) → i < m → j < m → f (X i) (Y j) ≡ delta K.ring i j
    dual_pairing i j i_in j_in =
        let y = coord (Y j) in
        let z : ℕ → Elem o = λ l. sum K.monoid m (λ k. K.◌⊗◌ (a i k) (b k l)) in
        let de = K.◌⊗◌ d e in
        mul_left_cancel K (K.◌⊗◌ de s) (f (X i) (Y j)) (delta K.ring i j) (field_mul-ne-zero K de s de_nonzero s_nonzero)
        (ring3 K.cring (λ c s t. ((c ⊠ s) ⊠ t, s ⊠ (c ⊠ t))) refl de s (f (X i) (Y j))
        ∙ ap (K.◌⊗◌ s) (scaled_form (X i) (Y j) (a i) b d e (λ k. X-is i k i_in) b-is)
        ∙ mul-sum K.ring m s (λ l. K.◌⊗◌ (z l) (y l))
        ∙ sum_congr K.monoid m (λ l. K.◌⊗◌ s (K.◌⊗◌ (z l) (y l))) (λ l. K.◌⊗◌ de (K.◌⊗◌ (r j l) (z l))) (λ l l_in.
        ring3 K.cring (λ s t y. (s ⊠ (t ⊠ y), t ⊠ (s ⊠ y))) refl s (z l) (y l)
        ∙ ap (K.◌⊗◌ (z l)) (Y-is j l j_in l_in)
        ∙ ring3 K.cring (λ t c r. (t ⊠ (c ⊠ r), c ⊠ (r ⊠ t))) refl (z l) de (r j l))
        ∙ sym (mul-sum K.ring m de (λ l. K.◌⊗◌ (r j l) (z l)))
        ∙ ap (K.◌⊗◌ de) (inverse i j i_in j_in)
        ∙ sym (K.mul_assoc de s (delta K.ring i j)))

  -- what pairs with others to the unit matrix is independent
  pub independent_of_pairing : (X Y : ℕ → Tuple o m)
      → ((i j : ℕ) → i < m → j < m → f (X i) (Y j) ≡ delta K.ring i j) → Independent M m Y
  independent_of_pairing X Y p = record {
    only_zero = λ c z i i_in.
        let B = form_bilinear o L A constants assoc in
        sym (sum-mul_delta K.ring m c i i_in)
        ∙ sum_congr K.monoid m (λ j. K.◌⊗◌ (c j) (delta K.ring j i)) (λ j. K.◌⊗◌ (c j) (f (X i) (Y j)))
        (λ j j_in. ap (K.◌⊗◌ (c j)) (delta_comm K.ring j i ∙ sym (p i j i_in j_in)))
        ∙ sym (form-comb_right K.cring M f B m c Y (X i)) ∙ ap (f (X i)) z
        ∙ form-zero_right K.cring M f B (X i);
  }

  module _ (xs ys : List (List E)) (hx : IsMatrix o m xs) (hy : IsMatrix o m ys) (cx : length xs ≡ m)
      (cy : length ys ≡ m)
      (p : (i j : ℕ) → i < m → j < m → f (row o L m xs hx i) (row o L m ys hy j) ≡ delta K.ring i j) where
    pub trace_dual : AreTraceDual o A xs ys
    trace_dual = record {
      pairing = λ i j i_in j_in.
          sym (form-is o L A constants assoc (row o L m xs hx i) (row o L m ys hy j)
          ∙ ap₂ (trace_of_product o A)
          (row-is o L m xs hx i (omega (arith, i_in, cx))) (row-is o L m ys hy j (omega (arith, j_in, cy))))
          ∙ ap (λ (c : Elem o). c.0) (p i j i_in j_in) ∙ delta-value o L i j;
    }

    pub dual_independent : AreIndependent o m ys
    dual_independent = from_independent o L m ys hy
        (subst (λ n. Independent M n (row o L m ys hy)) (sym cy)
        (independent_of_pairing (row o L m xs hx) (row o L m ys hy) p))
