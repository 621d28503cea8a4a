-- The rank of the two-sided maps is that of the rows of their coordinates; it exists.
use Rattle.std.specs.Prelude.{◌≡◌, ℕ, ◌+◌, ◌*◌, ◌/◌, ◌%◌, ◌<◌, Bool, true, false, cond, ltb}
use Rattle.std.proofs.Common.{refl, sym, ◌∙◌, ap, ap₂}
use Rattle.std.proofs.Math.Path.{fun_ext}
use Rattle.std.proofs.lemmas.Nat.{div-mul-add, mod-mul-add}
use Rattle.theory_rings.specs.Ring.{RingOn, FieldOn}
use Rattle.theory_rings.proofs.Rings.RingLaws.{mul-zero, add-neg}
use Rattle.theory_rings.proofs.Rings.Fields.{field_set}
use Rattle.theory_rings.proofs.Rings.ZeroTests.{eq_of_sub_eq_zero}
use Rattle.theory_spaces.specs.Module.{ModuleOn, AlgebraOn, module_of}
use Rattle.theory_spaces.specs.Linear.{comb, InSpan, Basis, BasisOf, IsLinear}
use Rattle.theory_spaces.specs.Matrix.{Mat}
use Rattle.theory_spaces.specs.Functions.{functions}
use Rattle.theory_spaces.proofs.Linear.Families.{push-below}
use Rattle.theory_spaces.proofs.Linear.Modules.{comb_congr_right, InSpan-comb, InSpan-add, InSpan-neg, span_in}
use Rattle.theory_spaces.proofs.Linear.Modules.{linear_comp, left_linear, right_linear, map-zero, map-neg, map-comb}
use Rattle.theory_spaces.proofs.Linear.Modules.{rows_of}
use Rattle.theory_spaces.proofs.Matrices.Matrices.{Mat-ext, mat, mat-entry}
use Rattle.theory_spaces.proofs.Matrices.MatrixAlgebra.{matrix_algebra, matrix_algebra_is, matrix_basis}
use Rattle.theory_spaces.proofs.Linear.Spaces.{coords_of, span_basis}
use Rattle.theory_spaces.proofs.Matrices.PairIndex.{pair-lt}
use Rattle.theory_spaces.specs.Functions.{maps}
use Rattle.theory_blocks.specs.TwoSidedRank.{two_sided, TwoSidedRank, map_row, RankByRows}
use Rattle.theory_blocks.proofs.Families.Spans.{linear_submodule, linear_eq_zero}
use Rattle.theory_blocks.proofs.TwoSided.TwoSidedRank.{rank_unique}

-- a linear map that sends 0 alone of a span to 0 makes of its bases those of the span of the images
module _ {K V W : Type 0} {R : RingOn K} (M : ModuleOn R V) (N : ModuleOn R W) (f : V → W) (linear : IsLinear M N f)
    (n : ℕ) (v : ℕ → V)
    (faithful : (x : V) → InSpan M n v x → f x ≡ N.zero → x ≡ M.zero) (r : ℕ) where
  abbrev image : ℕ → W
  image i = f (v i)

  image_in : (x : V) → InSpan M n v x → InSpan N n image (f x)
  image_in x s = record { weights = s.weights; combines = ap f s.combines ∙ map-comb M N f linear n s.weights v }

  pub image_basis : BasisOf M r (InSpan M n v) → BasisOf N r (InSpan N n image)
  image_basis B = record {
    vec = λ j. f (B.vec j);
    independent = record {
      only_zero = λ c e. B.independent.only_zero c
          (faithful (comb M r c B.vec) (InSpan-comb M r n c B.vec v B.inside) (map-comb M N f linear r c B.vec ∙ e));
    };
    inside = λ j l. image_in (B.vec j) (B.inside j l);
    spans = λ y s.
        let t = B.spans (comb M n s.weights v) (record { weights = s.weights; combines = refl }) in
        record {
          weights = t.weights;
          combines = s.combines ∙ sym (map-comb M N f linear n s.weights v) ∙ ap f t.combines
              ∙ map-comb M N f linear r t.weights B.vec;
        };
  }

  pub basis_of_image : BasisOf N r (InSpan N n image) → BasisOf M r (InSpan M n v)
  basis_of_image B =
      let a = rows_of N r n B.vec image B.inside in
      let u : ℕ → V = λ i. comb M n (a.0 i) v in
      let sent : (c : ℕ → K) → f (comb M r c u) ≡ comb N r c B.vec = λ c.
      map-comb M N f linear r c u
      ∙ comb_congr_right N r c (λ i. f (u i)) B.vec (λ i l. map-comb M N f linear n (a.0 i) v ∙ sym (a.1 i l)) in
      let inside : (i : ℕ) → InSpan M n v (u i) = λ i. record { weights = a.0 i; combines = refl } in
      record {
        vec = u;
        independent = record {
          only_zero = λ c e.
              B.independent.only_zero c (sym (sent c) ∙ ap f e ∙ map-zero M N f linear);
        };
        inside = λ i _. inside i;
        spans = λ x s.
            let t = B.spans (f x) (image_in x s) in
            let y = comb M r t.weights u in
            record {
              weights = t.weights;
              combines = eq_of_sub_eq_zero M.additive x y (faithful (M.◌⊕◌ x (M.neg y))
                  (InSpan-add M n v x (M.neg y) s
                  (InSpan-neg M n v y (InSpan-comb M r n t.weights u v (λ i _. inside i))))
                  (linear.map-add x (M.neg y)
                  ∙ ap₂ N.◌⊕◌ t.combines (map-neg M N f linear y ∙ ap N.neg (sent t.weights))
                  ∙ add-neg N.additive (comb N r t.weights B.vec)));
            };
      }

module _ {K V : Type 0} (F : FieldOn K) (A : AlgebraOn F.ring V) (m : ℕ) (B : Basis (module_of A) m) where
  abbrev M : ModuleOn F.ring V
  M = module_of A

  abbrev N : ModuleOn F.ring (V → V)
  N = maps V M

  -- y → b i·y·b j, and what these maps span
  abbrev both : ℕ → V → V
  both = two_sided F A m B

  abbrev InBoth : (V → V) → Type 0
  InBoth = InSpan N (m * m) both

  both_linear : (t : ℕ) → IsLinear M M (both t)
  both_linear t =
      let x = B.vec (t / m) in
      let w = B.vec (t % m) in
      linear_comp M M M (λ y. A.◌⊗◌ y w) (λ y. A.◌⊗◌ x y) (right_linear A w) (left_linear A x)

  -- such a map is 0 if the coordinates of what it makes of the basis are
  both-ext : (f : V → V) → InBoth f → ((k l : ℕ) → k < m → l < m → B.coord (f (B.vec k)) l ≡ F.zero) → f ≡ N.zero
  both-ext f s h = fun_ext
      (λ x. linear_eq_zero M M f
      (span_in N (IsLinear M M) (linear_submodule F M) (m * m) both (λ t _. both_linear t) f s)
      m B.vec (λ k l. (coords_of M m B).faithful (f (B.vec k)) (λ j g. h k j l g)) x
      (record { weights = B.coord x; combines = B.expand x }))

  -- place s of a row, by whether it counts
  row_add : (c : Bool) (x y : K) → cond c (F.◌⊕◌ x y) F.zero ≡ F.◌⊕◌ (cond c x F.zero) (cond c y F.zero)
  row_add true x y = refl
  row_add false x y = sym (F.zero-add F.zero)

  row_scale : (c : Bool) (a x : K) → cond c (F.◌⊗◌ a x) F.zero ≡ F.◌⊗◌ a (cond c x F.zero)
  row_scale true a x = refl
  row_scale false a x = sym (mul-zero F.ring a)

  row_linear : IsLinear N (functions F.ring) (map_row F A m B)
  row_linear = record {
    map-add = λ f g. fun_ext (λ s. let x = f (B.vec (s / m)) in let y = g (B.vec (s / m)) in
        ap (λ t. cond (ltb s (m * m)) t F.zero) (B.coord-add x y (s % m))
        ∙ row_add (ltb s (m * m)) (B.coord x (s % m)) (B.coord y (s % m)));
    map-scale = λ a f. fun_ext (λ s. let x = f (B.vec (s / m)) in
        ap (λ t. cond (ltb s (m * m)) t F.zero) (B.coord-scale a x (s % m))
        ∙ row_scale (ltb s (m * m)) a (B.coord x (s % m)));
  }

  row_faithful : (f : V → V) → InBoth f → map_row F A m B f ≡ (λ _. F.zero) → f ≡ N.zero
  row_faithful f s e = both-ext f s (λ k l a b.
      sym (push-below (m * m) F.zero (λ s. B.coord (f (B.vec (s / m))) (s % m)) (k * m + l) (pair-lt m m k l a b)
      ∙ ap₂ (λ p q. B.coord (f (B.vec p)) q) (div-mul-add k m l b) (mod-mul-add k m l b))
      ∙ ap (λ (h : ℕ → K). h (k * m + l)) e)

  -- the matrix of a map
  abbrev L : AlgebraOn F.ring (Mat F.ring m)
  L = matrix_algebra F.cring (field_set F) m

  abbrev matrix : (V → V) → Mat F.ring m
  matrix f = mat F.ring (field_set F) m (λ k l. B.coord (f (B.vec k)) l)

  entry : (f : V → V) (k l : ℕ) → k < m → l < m → (matrix f).0 k l ≡ B.coord (f (B.vec k)) l
  entry f k l a b = mat-entry F.ring (field_set F) m (λ k l. B.coord (f (B.vec k)) l) k l a b

  matrix_linear : IsLinear N (module_of L) matrix
  matrix_linear = record {
    map-add = λ f g. Mat-ext F.ring (field_set F) m (matrix (N.◌⊕◌ f g)) (L.◌⊕◌ (matrix f) (matrix g)) (λ k l a b.
        entry (N.◌⊕◌ f g) k l a b ∙ B.coord-add (f (B.vec k)) (g (B.vec k)) l
        ∙ sym (ap₂ F.◌⊕◌ (entry f k l a b) (entry g k l a b)));
    map-scale = λ c f. Mat-ext F.ring (field_set F) m (matrix (N.◌•◌ c f)) (L.◌•◌ c (matrix f)) (λ k l a b.
        entry (N.◌•◌ c f) k l a b ∙ B.coord-scale c (f (B.vec k)) l ∙ sym (ap (F.◌⊗◌ c) (entry f k l a b)));
  }

  matrix_faithful : (f : V → V) → InBoth f → matrix f ≡ L.zero → f ≡ N.zero
  matrix_faithful f s e = both-ext f s (λ k l a b.
      sym (entry f k l a b) ∙ ap (λ (x : Mat F.ring m). x.0 k l) e)

  rank_exists : (r : ℕ) × TwoSidedRank F A m B r
  rank_exists =
      let T = matrix_basis F.cring (field_set F) m L (matrix_algebra_is F.cring (field_set F) m) in
      let s = span_basis F (module_of L) (m * m) (coords_of (module_of L) (m * m) T) (m * m) (λ t. matrix (both t)) in
      (s.0, basis_of_image N (module_of L) matrix matrix_linear (m * m) both matrix_faithful s.0 s.1)

  pub rank_by_rows : RankByRows F A m B
  rank_by_rows =
      let s = rank_exists in
      let row = map_row F A m B in
      record {
        rank = s.0;
        is_rank = s.1;
        unique = λ r T. rank_unique F A m B r s.0 T s.1;
        rows = image_basis N (functions F.ring) row row_linear (m * m) both row_faithful s.0 s.1;
        unique_rows = λ r U. rank_unique F A m B r s.0
            (basis_of_image N (functions F.ring) row row_linear (m * m) both row_faithful r U) s.1;
      }
