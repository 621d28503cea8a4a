-- Bilinear forms on a space with a basis: a nondegenerate form has dual bases, and the dimensions of a subspace and of
-- what is orthogonal to it sum to that of the space.
use Rattle.std.specs.Prelude.{◌≡◌, ℕ, zero, suc, ◌+◌, ◌-◌, ◌<◌, ◌≤◌}
use Rattle.std.proofs.Common.{sym, ◌∙◌, ap, ap₂, arith, inl, inr}
use Rattle.theory_rings.specs.Ring.{CommRingOn, FieldOn}
use Rattle.theory_rings.specs.Sum.{sum}
use Rattle.theory_rings.proofs.Rings.RingLaws.{mul-zero, zero-mul, neg_unique, add-neg}
use Rattle.theory_rings.proofs.Sums.Sums.{sum_congr, sum_eq_zero, sum_eq_single, sum-split, map-sum}
use Rattle.theory_rings.proofs.Rings.ZeroTests.{eq_of_sub_eq_zero}
use Rattle.theory_spaces.specs.Module.{ModuleOn}
use Rattle.theory_spaces.specs.Linear.{comb, InSpan, Independent, IsSubmodule, IsLinear, Basis, BasisOf}
use Rattle.theory_spaces.specs.Subspaces.{Whole, Kernel}
use Rattle.theory_spaces.specs.Matrix.{delta, mat_mul}
use Rattle.theory_spaces.specs.Form.{IsBilinear, IsNondegenerate, flip, InRadical, Orthogonal, gram, transpose}
use Rattle.theory_spaces.specs.Form.{DualBasis, OrthogonalBasis, NondegenerateOrNot}
use Rattle.theory_spaces.proofs.Linear.Modules.{zero-scale, comb_zero, comb_congr, comb_congr_right, comb-add}
use Rattle.theory_spaces.proofs.Linear.Modules.{comb-scale}
use Rattle.theory_spaces.proofs.Matrices.Matrices.{delta-same, delta-other, delta_comm, sum-mul_delta}
use Rattle.theory_spaces.proofs.Linear.Decide.{Free}
use Rattle.theory_spaces.proofs.Linear.IndependentVectors.{comb-delta, Independent-ne-zero, Independent-at_most}
use Rattle.theory_spaces.proofs.Linear.Spaces.{basis_of, coords_of, extend_basis, BasisOf-size}
use Rattle.theory_spaces.proofs.Linear.Kernels.{rank_nullity}
use Rattle.theory_spaces.proofs.Linear.Subspaces.{BasisOf-iff, whole_submodule, whole_basis}
use Rattle.theory_spaces.proofs.Algebras.Simple.{Solution, solve_free}

module _ {K V : Type 0} (C : CommRingOn K) (M : ModuleOn C.ring V) (f : V → V → K) (h : IsBilinear M f) where
  infixl 65 ◌⊕◌
  infixl 70 ◌•◌
  open M use {◌⊕◌, ◌•◌, neg}

  pub flip_bilinear : IsBilinear M (flip f)
  flip_bilinear = record {
    add-left = λ x y z. h.add-right z x y;
    add-right = λ x y z. h.add-left y z x;
    scale-left = λ a x y. h.scale-right a y x;
    scale-right = λ a x y. h.scale-left a y x;
  }

  pub form-zero_left : (y : V) → f M.zero y ≡ C.zero
  form-zero_left y = ap (λ x. f x y) (sym (zero-scale M M.zero)) ∙ h.scale-left C.zero M.zero y
      ∙ zero-mul C.ring (f M.zero y)

  pub form-zero_right : (x : V) → f x M.zero ≡ C.zero
  form-zero_right x = ap (f x) (sym (zero-scale M M.zero)) ∙ h.scale-right C.zero x M.zero
      ∙ zero-mul C.ring (f x M.zero)

  pub form-neg_left : (x y : V) → f (neg x) y ≡ C.neg (f x y)
  form-neg_left x y = neg_unique C.additive (f x y) (f (neg x) y)
      (sym (h.add-left x (neg x) y) ∙ ap (λ z. f z y) (add-neg M.additive x) ∙ form-zero_left y)

  pub form-comb_left : (n : ℕ) (c : ℕ → K) (v : ℕ → V) (y : V)
      → f (comb M n c v) y ≡ sum C.monoid n (λ i. C.◌⊗◌ (c i) (f (v i) y))
  form-comb_left n c v y =
      map-sum M.monoid C.monoid (λ x. f x y) (form-zero_left y) (λ a b. h.add-left a b y) n (λ i. c i • v i)
      ∙ sum_congr C.monoid n (λ i. f (c i • v i) y) (λ i. C.◌⊗◌ (c i) (f (v i) y)) (λ i _. h.scale-left (c i) (v i) y)

  pub form-comb_right : (n : ℕ) (c : ℕ → K) (v : ℕ → V) (x : V)
      → f x (comb M n c v) ≡ sum C.monoid n (λ i. C.◌⊗◌ (c i) (f x (v i)))
  form-comb_right n c v x = map-sum M.monoid C.monoid (f x) (form-zero_right x) (h.add-right x) n (λ i. c i • v i)
      ∙ sum_congr C.monoid n (λ i. f x (c i • v i)) (λ i. C.◌⊗◌ (c i) (f x (v i))) (λ i _. h.scale-right (c i) x (v i))

  -- what is orthogonal to vectors is orthogonal to their combinations
  pub orthogonal_comb : (n : ℕ) (c : ℕ → K) (v : ℕ → V) (x : V) → ((j : ℕ) → j < n → f x (v j) ≡ C.zero)
      → f x (comb M n c v) ≡ C.zero
  orthogonal_comb n c v x o = form-comb_right n c v x
      ∙ sum_eq_zero C.monoid n (λ i. C.◌⊗◌ (c i) (f x (v i))) (λ i l. ap (C.◌⊗◌ (c i)) (o i l) ∙ mul-zero C.ring (c i))

  pub orthogonal_submodule : (S : V → Type 0) → IsSubmodule M (Orthogonal M f S)
  orthogonal_submodule S = record {
    zero-in = λ y s. form-zero_left y;
    add-in = λ x z o p y s. h.add-left x z y ∙ ap₂ C.◌⊕◌ (o y s) (p y s) ∙ C.zero-add C.zero;
    scale-in = λ a x o y s. h.scale-left a x y ∙ ap (C.◌⊗◌ a) (o y s) ∙ mul-zero C.ring a;
  }

module _ {K V : Type 0} (F : FieldOn K) (M : ModuleOn F.ring V) (f : V → V → K) (h : IsBilinear M f) (n : ℕ)
    (B : Basis M n) where
  infixl 65 ◌⊕◌
  infixl 70 ◌⊗◌
  open F use {ring, monoid, ◌⊕◌, ◌⊗◌}

  -- what is orthogonal to a basis is orthogonal to everything
  pub orthogonal_basis : (x : V) → ((j : ℕ) → j < n → f x (B.vec j) ≡ F.zero) → InRadical M f x
  orthogonal_basis x o y = ap (f x) (B.expand y) ∙ orthogonal_comb F.cring M f h n (B.coord y) B.vec x o

  -- the rows of the Gram matrix of a nondegenerate form are free, and of no other
  pub gram_free : IsNondegenerate M f → Free F n n (gram M f B.vec)
  gram_free non = record {
    only_zero = λ c e. B.independent.only_zero c
        (non.only_zero (comb M n c B.vec)
        (orthogonal_basis (comb M n c B.vec) (λ j l. form-comb_left F.cring M f h n c B.vec (B.vec j) ∙ e j l)));
  }

  pub nondegenerate_of_gram : Free F n n (gram M f B.vec) → IsNondegenerate M f
  nondegenerate_of_gram free = record {
    only_zero = λ x o. B.expand x ∙ comb_zero M n (B.coord x) B.vec
        (free.only_zero (B.coord x)
        (λ j l. sym (form-comb_left F.cring M f h n (B.coord x) B.vec (B.vec j))
        ∙ ap (λ z. f z (B.vec j)) (sym (B.expand x)) ∙ o (B.vec j)));
  }

  -- vectors d with f (d i) (b j) = 1 for i = j and else 0
  abbrev pub IsLeftDual : (ℕ → V) → Type 0
  IsLeftDual d = (i j : ℕ) → i < n → j < n → f (d i) (B.vec j) ≡ delta ring i j

  -- a nondegenerate form has them
  pub left_dual : IsNondegenerate M f → (d : ℕ → V) × IsLeftDual d
  left_dual non =
      let s : (i : ℕ) → Solution F n (gram M f B.vec) (delta ring i) = λ i.
      solve_free F n (gram M f B.vec) (gram_free non) (delta ring i) in (
        λ i. comb M n (s i).weights B.vec,
        λ i j _ l. form-comb_left F.cring M f h n (s i).weights B.vec (B.vec j)
            ∙ (s i).solves j l,
      )

  module _ (d : ℕ → V) (dual : IsLeftDual d) where
    -- the coordinates by b are the values at the d
    pub coord-left_dual : (y : V) (i : ℕ) → i < n → f (d i) y ≡ B.coord y i
    coord-left_dual y i l =
        ap (f (d i)) (B.expand y) ∙ form-comb_right F.cring M f h n (B.coord y) B.vec (d i)
        ∙ sum_congr monoid n (λ j. B.coord y j ⊗ f (d i) (B.vec j)) (λ j. B.coord y j ⊗ delta ring j i)
        (λ j g. ap (λ a. B.coord y j ⊗ a) (dual i j l g ∙ delta_comm ring i j))
        ∙ sum-mul_delta ring n (B.coord y) i l

    pub expand-left_dual : (y : V) → y ≡ comb M n (λ i. f (d i) y) B.vec
    expand-left_dual y = B.expand y
        ∙ comb_congr M n (B.coord y) (λ i. f (d i) y) B.vec (λ i l. sym (coord-left_dual y i l))

    -- a combination of the d has its weights as values at the b
    pub form-comb_left_dual : (c : ℕ → K) (j : ℕ) → j < n → f (comb M n c d) (B.vec j) ≡ c j
    form-comb_left_dual c j l =
        form-comb_left F.cring M f h n c d (B.vec j)
        ∙ sum_congr monoid n (λ i. c i ⊗ f (d i) (B.vec j)) (λ i. c i ⊗ delta ring i j)
        (λ i g. ap (λ a. c i ⊗ a) (dual i j g l))
        ∙ sum-mul_delta ring n c j l

    pub left_dual-independent : Independent M n d
    left_dual-independent = record {
      only_zero = λ c e j l. sym (form-comb_left_dual c j l) ∙ ap (λ x. f x (B.vec j)) e
          ∙ form-zero_left F.cring M f h (B.vec j);
    }

    -- only 0 is orthogonal to everything from the right too
    pub flip_nondegenerate_of_dual : IsNondegenerate M (flip f)
    flip_nondegenerate_of_dual =
        record { only_zero = λ y o. expand-left_dual y ∙ comb_zero M n (λ i. f (d i) y) B.vec (λ i l. o (d i)) }

    -- the values at the b are the weights by which x is a combination of the d
    pub left_dual-expand : IsNondegenerate M f → (x : V) → x ≡ comb M n (λ i. f x (B.vec i)) d
    left_dual-expand non x =
        let c : ℕ → K = λ i. f x (B.vec i) in
        let y = comb M n c d in
        eq_of_sub_eq_zero M.additive x y
        (non.only_zero (M.◌⊕◌ x (M.neg y)) (orthogonal_basis (M.◌⊕◌ x (M.neg y)) (λ j l.
        h.add-left x (M.neg y) (B.vec j)
        ∙ ap (λ a. f x (B.vec j) ⊕ a)
        (form-neg_left F.cring M f h y (B.vec j) ∙ ap F.neg (form-comb_left_dual c j l))
        ∙ add-neg F.additive (f x (B.vec j)))))

    abbrev pub left_dual_basis : IsNondegenerate M f → Basis M n
    left_dual_basis non =
        basis_of M n d left_dual-independent
        (λ x. record { weights = λ i. f x (B.vec i); combines = left_dual-expand non x })

  -- nondegenerate from the left is nondegenerate from the right
  pub flip_nondegenerate : IsNondegenerate M f → IsNondegenerate M (flip f)
  flip_nondegenerate non = let d = left_dual non in flip_nondegenerate_of_dual d.0 d.1

  -- the dual vectors of a basis of vectors u that begins b are a basis of what is orthogonal to u
  module _ (non : IsNondegenerate M f) (S : V → Type 0) (k : ℕ) (U : BasisOf M k S) (within : k ≤ n)
      (starts : (i : ℕ) → i < k → B.vec i ≡ U.vec i) where
    abbrev D : (d : ℕ → V) × IsLeftDual d
    D = left_dual non

    abbrev rest : ℕ → V
    rest j = D.0 (k + j)

    rest-orthogonal : (j : ℕ) → j < n - k → Orthogonal M f S (rest j)
    rest-orthogonal j l y s =
        let t = U.spans y s in
        ap (f (rest j)) t.combines
        ∙ orthogonal_comb F.cring M f h k t.weights U.vec (rest j) (λ i g.
        ap (f (rest j)) (sym (starts i g)) ∙ D.1 (k + j) i (omega arith) (omega arith)
        ∙ delta-other ring (k + j) i (λ e. omega arith))

    rest-independent : Independent M (n - k) rest
    rest-independent = record {
      only_zero = λ c e j l.
          let y = B.vec (k + j) in
          sym (form-comb_left F.cring M f h (n - k) c rest y
          ∙ sum_eq_single monoid (n - k) j (λ i. c i ⊗ f (rest i) y) l
          (λ i g ne. ap (λ a. c i ⊗ a)
          (D.1 (k + i) (k + j) (omega arith) (omega arith)
          ∙ delta-other ring (k + i) (k + j) (λ q. ne (omega arith))) ∙ mul-zero ring (c i))
          ∙ ap (λ a. c j ⊗ a) (D.1 (k + j) (k + j) (omega arith) (omega arith) ∙ delta-same ring (k + j))
          ∙ F.mul-one (c j))
          ∙ ap (λ x. f x y) e ∙ form-zero_left F.cring M f h y;
    }

    rest-spans : (x : V) → Orthogonal M f S x → InSpan M (n - k) rest x
    rest-spans x o = record {
      weights = λ j. f x (B.vec (k + j));
      combines =
          let c : ℕ → K = λ i. f x (B.vec i) in
          let e : n ≡ k + (n - k) = omega arith in
          left_dual-expand D.0 D.1 non x ∙ ap (λ t. comb M t c D.0) e
          ∙ sum-split M.monoid k (n - k) (λ i. M.◌•◌ (c i) (D.0 i))
          ∙ ap (λ z. M.◌⊕◌ z (comb M (n - k) (λ j. c (k + j)) rest))
          (comb_zero M k c D.0 (λ i l. ap (f x) (starts i l) ∙ o (U.vec i) (U.inside i l)))
          ∙ M.zero-add (comb M (n - k) (λ j. c (k + j)) rest);
    }

    rest_basis : OrthogonalBasis M f S k n
    rest_basis = record {
      size = n - k;
      total = omega arith;
      basis = record { vec = rest; independent = rest-independent; inside = rest-orthogonal; spans = rest-spans };
    }

    -- what is orthogonal to these lies in the span of u
    rest-closed : (y : V) → ((x : V) → Orthogonal M f S x → f x y ≡ F.zero) → InSpan M k U.vec y
    rest-closed y o = record {
      weights = λ i. f (D.0 i) y;
      combines =
          let c : ℕ → K = λ i. f (D.0 i) y in
          let e : n ≡ k + (n - k) = omega arith in
          expand-left_dual D.0 D.1 y ∙ ap (λ t. comb M t c B.vec) e
          ∙ sum-split M.monoid k (n - k) (λ i. M.◌•◌ (c i) (B.vec i))
          ∙ ap₂ M.◌⊕◌ (comb_congr_right M k c B.vec U.vec starts)
          (comb_zero M (n - k) (λ j. c (k + j)) (λ j. B.vec (k + j)) (λ j l. o (rest j) (rest-orthogonal j l)))
          ∙ M.add_comm (comb M k c U.vec) M.zero ∙ M.zero-add (comb M k c U.vec);
    }

-- dual bases, and what is orthogonal to a subspace
module _ {K V : Type 0} (F : FieldOn K) (M : ModuleOn F.ring V) (f : V → V → K) (h : IsBilinear M f) (n : ℕ)
    (B : Basis M n) where
  infixl 65 ◌⊕◌
  infixl 70 ◌⊗◌
  open F use {ring, monoid, ◌⊕◌, ◌⊗◌}

  abbrev flipped : IsBilinear M (flip f)
  flipped = flip_bilinear F.cring M f h

  -- the vectors of a dual basis, by the form with its arguments in the other order
  dual_left : (d : ℕ → V) → ((i j : ℕ) → i < n → j < n → f (B.vec i) (d j) ≡ delta ring i j)
      → IsLeftDual F M (flip f) flipped n B d
  dual_left d p i j l g = p j i g l ∙ delta_comm ring j i

  -- a nondegenerate form has dual bases
  pub dual_basis : IsNondegenerate M f → DualBasis M f n B
  dual_basis non =
      let back = flip_nondegenerate F M f h n B non in
      let d = left_dual F M (flip f) flipped n B back in
      record {
        basis = left_dual_basis F M (flip f) flipped n B d.0 d.1 back;
        dual = record { pairing = λ i j l g. d.1 j i g l ∙ delta_comm ring j i };
      }

  module _ (D : DualBasis M f n B) where
    -- the coordinates are the values at the dual basis
    pub coord-dual : (x : V) (i : ℕ) → i < n → f x (D.basis.vec i) ≡ B.coord x i
    coord-dual x i l = coord-left_dual F M (flip f) flipped n B D.basis.vec (dual_left D.basis.vec D.pairing) x i l

    pub expand-dual : (x : V) → x ≡ comb M n (λ i. f x (D.basis.vec i)) B.vec
    expand-dual x = expand-left_dual F M (flip f) flipped n B D.basis.vec (dual_left D.basis.vec D.pairing) x

    -- a form with a dual basis is nondegenerate
    pub nondegenerate_of_dual : IsNondegenerate M f
    nondegenerate_of_dual =
        flip_nondegenerate_of_dual F M (flip f) flipped n B D.basis.vec (dual_left D.basis.vec D.pairing)

    -- by the dual basis the coordinates are the values at the basis
    pub dual-expand : (y : V) → y ≡ comb M n (λ i. f (B.vec i) y) D.basis.vec
    dual-expand y = left_dual-expand F M (flip f) flipped n B D.basis.vec (dual_left D.basis.vec D.pairing)
        (flip_nondegenerate F M f h n B nondegenerate_of_dual) y

    -- vectors with this pairing are the dual basis
    pub dual_unique : (d : ℕ → V) → ((i j : ℕ) → i < n → j < n → f (B.vec i) (d j) ≡ delta ring i j) → (j : ℕ) → j < n
        → d j ≡ D.basis.vec j
    dual_unique d p j l =
        dual-expand (d j) ∙ comb_congr M n (λ i. f (B.vec i) (d j)) (λ i. delta ring j i) D.basis.vec
        (λ i g. p i j g l ∙ delta_comm ring i j)
        ∙ comb-delta M n j D.basis.vec l

    -- the Gram matrices of a basis and of its dual basis, one of them transposed, are inverse to each other
    pub gram_mul-gram_dual : (i j : ℕ) → i < n → j < n
        → mat_mul ring n (gram M f B.vec) (transpose (gram M f D.basis.vec)) i j ≡ delta ring i j
    gram_mul-gram_dual i j l g =
        let y = D.basis.vec j in
        sum_congr monoid n (λ t. f (B.vec i) (B.vec t) ⊗ f y (D.basis.vec t)) (λ t. B.coord y t ⊗ f (B.vec i) (B.vec t))
        (λ t q. ap (λ a. f (B.vec i) (B.vec t) ⊗ a) (coord-dual y t q)
        ∙ F.mul_comm (f (B.vec i) (B.vec t)) (B.coord y t))
        ∙ sym (form-comb_right F.cring M f h n (B.coord y) B.vec (B.vec i)) ∙ ap (f (B.vec i)) (sym (B.expand y))
        ∙ D.pairing i j l g

  -- the dimensions of a subspace and of what is orthogonal to it sum to n
  pub orthogonal_dimension : IsNondegenerate M f → (S : V → Type 0) (k : ℕ) → BasisOf M k S → OrthogonalBasis M f S k n
  orthogonal_dimension non S k U =
      let E = extend_basis F M n B k U.vec U.independent in
      rest_basis F M f h n E.basis non S k U (Independent-at_most F M n B k U.vec U.independent) E.starts

  -- whatever the bases are
  pub add_orthogonal : IsNondegenerate M f → (S : V → Type 0) (k l : ℕ) → BasisOf M k S
      → BasisOf M l (Orthogonal M f S) → k + l ≡ n
  add_orthogonal non S k l U W =
      let o = orthogonal_dimension non S k U in
      let total = o.total in
      let e : l ≡ o.size = BasisOf-size F M l o.size (Orthogonal M f S) W o.basis in
      omega arith

  -- what is orthogonal to all that is orthogonal to a subspace lies in it
  pub orthogonal_orthogonal : IsNondegenerate M f → (S : V → Type 0) (k : ℕ) (U : BasisOf M k S) → (y : V)
      → Orthogonal M (flip f) (Orthogonal M f S) y → InSpan M k U.vec y
  orthogonal_orthogonal non S k U y o =
      let E = extend_basis F M n B k U.vec U.independent in
      rest-closed F M f h n E.basis non S k U (Independent-at_most F M n B k U.vec U.independent) E.starts y o

  -- the map whose kernel is the radical
  abbrev values : V → V
  values x = comb M n (λ j. f x (B.vec j)) B.vec

  values_linear : IsLinear M M values
  values_linear = record {
    map-add = λ x y. comb_congr M n (λ j. f (M.◌⊕◌ x y) (B.vec j)) (λ j. f x (B.vec j) ⊕ f y (B.vec j)) B.vec
        (λ j _. h.add-left x y (B.vec j))
        ∙ comb-add M n (λ j. f x (B.vec j)) (λ j. f y (B.vec j)) B.vec;
    map-scale = λ a x. comb_congr M n (λ j. f (M.◌•◌ a x) (B.vec j)) (λ j. a ⊗ f x (B.vec j)) B.vec
        (λ j _. h.scale-left a x (B.vec j))
        ∙ comb-scale M n a (λ j. f x (B.vec j)) B.vec;
  }

  -- the radical has a basis
  pub radical_basis : (r : ℕ) × BasisOf M r (InRadical M f)
  radical_basis =
      let g = rank_nullity F M M n (coords_of M n B) values values_linear Whole (whole_submodule M) n
      (whole_basis M n B) in (
        g.nullity,
        BasisOf-iff M g.nullity (Kernel M M values Whole) (InRadical M f)
            (λ x k. orthogonal_basis F M f h n B x (B.independent.only_zero (λ j. f x (B.vec j)) k.1))
            (λ x o. (tt, comb_zero M n (λ j. f x (B.vec j)) B.vec (λ j _. o (B.vec j))))
            g.kernel,
      )

  -- a form is nondegenerate, or some vector other than 0 is orthogonal to everything
  pub nondegenerate_or_not : NondegenerateOrNot M f
  nondegenerate_or_not = decided radical_basis.0 radical_basis.1
    where
      decided : (r : ℕ) → BasisOf M r (InRadical M f) → NondegenerateOrNot M f
      decided zero R = inl (record { only_zero = λ x o. (R.spans x o).combines })
      decided (suc r) R = inr (
        R.vec r,
        Independent-ne-zero M F.one-nonzero (suc r) R.vec R.independent r (omega arith),
        R.inside r (omega arith),
      )
