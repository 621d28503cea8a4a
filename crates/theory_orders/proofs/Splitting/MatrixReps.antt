-- Matrices that represent an algebra: it is the algebra of all linear maps of a space. They come from an isomorphism to
-- the algebra of all matrices, or from matrices that split a table.
use Rattle.std.specs.Prelude.{◌≡◌, ℕ, ◌<◌}
use Rattle.std.proofs.Common.{sym, ◌∙◌, ap, ap₂}
use Rattle.theory_rings.specs.Ring.{FieldOn}
use Rattle.theory_rings.specs.Sum.{sum}
use Rattle.theory_rings.proofs.Rings.Semirings.{semiring, mul_left_comm}
use Rattle.theory_rings.proofs.Sums.Sums.{sum_congr, sum-add, map-sum, mul-sum}
use Rattle.theory_spaces.specs.Module.{ModuleOn, AlgebraOn}
use Rattle.theory_spaces.specs.Matrix.{Matrix, Mat, delta, mat_mul}
use Rattle.theory_spaces.specs.Space.{SpaceOn}
use Rattle.theory_spaces.specs.AlgebraMap.{IsAlgebraIso}
use Rattle.theory_spaces.specs.MatrixAlgebra.{IsMatrixAlgebra}
use Rattle.theory_spaces.proofs.Linear.Modules.{zero-scale}
use Rattle.theory_spaces.proofs.Matrices.Matrices.{mat_mul_assoc, sum-mul_delta, sum-delta_mul, mat, mat-entry, Mat-ext}
use Rattle.theory_spaces.proofs.Tuples.Tables.{unit, coord-unit, coord-sum, space_expand}
use Rattle.theory_orders.proofs.Splitting.LinearMaps.{ActionOn}

-- each element has a matrix of size n, sums, multiples and products have those of the matrices, and each matrix is that
-- of one element
pub record IsMatrixRep {K V : Type 0} (F : FieldOn K) (A : AlgebraOn F.ring V) (n : ℕ)
    (rep : V → Matrix K) : Type 0 where
  pub rep-add : (a b : V) (r s : ℕ) → r < n → s < n → rep (A.◌⊕◌ a b) r s ≡ F.◌⊕◌ (rep a r s) (rep b r s)
  pub rep-scale : (c : K) (a : V) (r s : ℕ) → r < n → s < n → rep (A.◌•◌ c a) r s ≡ F.◌⊗◌ c (rep a r s)
  pub rep-mul : (a b : V) (r s : ℕ) → r < n → s < n → rep (A.◌⊗◌ a b) r s ≡ mat_mul F.ring n (rep a) (rep b) r s
  pub onto : (m : Matrix K) → (a : V) × ((r s : ℕ) → r < n → s < n → rep a r s ≡ m r s)
  pub faithful : (a b : V) → ((r s : ℕ) → r < n → s < n → rep a r s ≡ rep b r s) → a ≡ b

module _ {K V : Type 0} (F : FieldOn K) (A : AlgebraOn F.ring V) (n : ℕ) (rep : V → Matrix K)
    (P : IsMatrixRep F A n rep) {W : Type 0} (U : ModuleOn F.ring W) (D : SpaceOn U n) where
  infixl 65 ◌⊕◌
  infixl 70 ◌⊗◌
  infixl 70 ◌•◌
  open A use {◌⊕◌, ◌•◌}
  open F use {◌⊗◌}

  apply : V → W → W
  apply a x = D.make (λ r. sum F.monoid n (λ s. rep a r s ⊗ D.coord x s))

  apply-at : (a : V) (x : W) (r : ℕ) → r < n → D.coord (apply a x) r ≡ sum F.monoid n (λ s. rep a r s ⊗ D.coord x s)
  unfolding apply
  apply-at a x r l = D.coord-make (λ r. sum F.monoid n (λ s. rep a r s ⊗ D.coord x s)) r l

  -- equal where the rows are
  by_rows : (a : V) (x y : W) → ((r : ℕ) → r < n → sum F.monoid n (λ s. rep a r s ⊗ D.coord x s) ≡ D.coord y r)
      → apply a x ≡ y
  by_rows a x y h = D.ext (apply a x) y (λ r l. apply-at a x r l ∙ h r l)

  apply-add : (a b : V) (x : W) → apply (a ⊕ b) x ≡ U.◌⊕◌ (apply a x) (apply b x)
  apply-add a b x = by_rows (a ⊕ b) x (U.◌⊕◌ (apply a x) (apply b x)) (λ r l.
      sum_congr F.monoid n (λ s. rep (a ⊕ b) r s ⊗ D.coord x s)
      (λ s. F.◌⊕◌ (rep a r s ⊗ D.coord x s) (rep b r s ⊗ D.coord x s))
      (λ s h. ap (λ c. c ⊗ D.coord x s) (P.rep-add a b r s l h) ∙ F.add-mul (rep a r s) (rep b r s) (D.coord x s))
      ∙ sum-add F.monoid n (λ s. rep a r s ⊗ D.coord x s) (λ s. rep b r s ⊗ D.coord x s)
      ∙ sym (D.coord-add (apply a x) (apply b x) r l ∙ ap₂ F.◌⊕◌ (apply-at a x r l) (apply-at b x r l)))

  apply-scale : (c : K) (a : V) (x : W) → apply (c • a) x ≡ U.◌•◌ c (apply a x)
  apply-scale c a x = by_rows (c • a) x (U.◌•◌ c (apply a x)) (λ r l.
      sum_congr F.monoid n (λ s. rep (c • a) r s ⊗ D.coord x s) (λ s. c ⊗ (rep a r s ⊗ D.coord x s))
      (λ s h. ap (λ d. d ⊗ D.coord x s) (P.rep-scale c a r s l h) ∙ F.mul_assoc c (rep a r s) (D.coord x s))
      ∙ sym (mul-sum F.ring n c (λ s. rep a r s ⊗ D.coord x s))
      ∙ sym (D.coord-scale c (apply a x) r l ∙ ap (λ d. c ⊗ d) (apply-at a x r l)))

  apply-on-add : (a : V) (x y : W) → apply a (U.◌⊕◌ x y) ≡ U.◌⊕◌ (apply a x) (apply a y)
  apply-on-add a x y = by_rows a (U.◌⊕◌ x y) (U.◌⊕◌ (apply a x) (apply a y)) (λ r l.
      sum_congr F.monoid n (λ s. rep a r s ⊗ D.coord (U.◌⊕◌ x y) s)
      (λ s. F.◌⊕◌ (rep a r s ⊗ D.coord x s) (rep a r s ⊗ D.coord y s))
      (λ s h. ap (λ c. rep a r s ⊗ c) (D.coord-add x y s h) ∙ F.mul-add (rep a r s) (D.coord x s) (D.coord y s))
      ∙ sum-add F.monoid n (λ s. rep a r s ⊗ D.coord x s) (λ s. rep a r s ⊗ D.coord y s)
      ∙ sym (D.coord-add (apply a x) (apply a y) r l ∙ ap₂ F.◌⊕◌ (apply-at a x r l) (apply-at a y r l)))

  apply-on-scale : (a : V) (c : K) (x : W) → apply a (U.◌•◌ c x) ≡ U.◌•◌ c (apply a x)
  apply-on-scale a c x = by_rows a (U.◌•◌ c x) (U.◌•◌ c (apply a x)) (λ r l.
      sum_congr F.monoid n (λ s. rep a r s ⊗ D.coord (U.◌•◌ c x) s) (λ s. c ⊗ (rep a r s ⊗ D.coord x s))
      (λ s h. ap (λ d. rep a r s ⊗ d) (D.coord-scale c x s h)
      ∙ mul_left_comm (semiring F.cring) (rep a r s) c (D.coord x s))
      ∙ sym (mul-sum F.ring n c (λ s. rep a r s ⊗ D.coord x s))
      ∙ sym (D.coord-scale c (apply a x) r l ∙ ap (λ d. c ⊗ d) (apply-at a x r l)))

  apply-mul : (a b : V) (x : W) → apply (A.◌⊗◌ a b) x ≡ apply a (apply b x)
  apply-mul a b x = by_rows (A.◌⊗◌ a b) x (apply a (apply b x)) (λ r l.
      sum_congr F.monoid n (λ s. rep (A.◌⊗◌ a b) r s ⊗ D.coord x s)
      (λ s. mat_mul F.ring n (rep a) (rep b) r s ⊗ D.coord x s)
      (λ s h. ap (λ c. c ⊗ D.coord x s) (P.rep-mul a b r s l h))
      ∙ ap (λ (m : ℕ → ℕ → K). m r 0) (mat_mul_assoc F.ring n n (rep a) (rep b) (λ s _. D.coord x s))
      ∙ sum_congr F.monoid n (λ t. rep a r t ⊗ sum F.monoid n (λ s. rep b t s ⊗ D.coord x s))
      (λ t. rep a r t ⊗ D.coord (apply b x) t) (λ t h. ap (λ c. rep a r t ⊗ c) (sym (apply-at b x t h)))
      ∙ sym (apply-at a (apply b x) r l))

  of_matrix : Matrix K → V
  of_matrix m = (P.onto m).0

  apply-of : (m : Matrix K) (x y : W) → ((r : ℕ) → r < n → sum F.monoid n (λ s. m r s ⊗ D.coord x s) ≡ D.coord y r)
      → apply (of_matrix m) x ≡ y
  unfolding of_matrix
  apply-of m x y h = by_rows (of_matrix m) x y (λ r l.
      sum_congr F.monoid n (λ s. rep (of_matrix m) r s ⊗ D.coord x s) (λ s. m r s ⊗ D.coord x s)
      (λ s k. ap (λ c. c ⊗ D.coord x s) ((P.onto m).1 r s l k)) ∙ h r l)

  apply-one : (x : W) → apply A.one x ≡ x
  apply-one x =
      let e = of_matrix (λ r s. delta F.ring r s) in
      let fixes : apply e x ≡ x = apply-of (λ r s. delta F.ring r s) x x (λ r l.
      sum-delta_mul F.ring n (D.coord x) r l) in
      sym (ap (apply A.one) fixes) ∙ sym (apply-mul A.one e x) ∙ ap (λ a. apply a x) (A.one-mul e) ∙ fixes

  rep-apply : (a : V) (r s : ℕ) → r < n → s < n → rep a r s ≡ D.coord (apply a (unit U n D s)) r
  rep-apply a r s hr hs = sym (apply-at a (unit U n D s) r hr
      ∙ sum_congr F.monoid n (λ t. rep a r t ⊗ D.coord (unit U n D s) t) (λ t. rep a r t ⊗ delta F.ring t s)
      (λ t h. ap (λ c. rep a r t ⊗ c) (coord-unit U n D s t h))
      ∙ sum-mul_delta F.ring n (rep a r) s hs)

  apply-same : (a b : V) → ((x : W) → apply a x ≡ apply b x) → a ≡ b
  apply-same a b h = P.faithful a b (λ r s hr hs.
      rep-apply a r s hr hs ∙ ap (λ x. D.coord x r) (h (unit U n D s)) ∙ sym (rep-apply b r s hr hs))

  each_linear : (f : W → W) → ((x y : W) → f (U.◌⊕◌ x y) ≡ U.◌⊕◌ (f x) (f y))
      → ((c : K) (x : W) → f (U.◌•◌ c x) ≡ U.◌•◌ c (f x)) → (a : V) × ((x : W) → apply a x ≡ f x)
  each_linear f fa fs =
      let e : ℕ → W = unit U n D in
      let m : ℕ → ℕ → K = λ r s. D.coord (f (e s)) r in
      let f-zero : f U.zero ≡ U.zero = ap f (sym (zero-scale U U.zero)) ∙ fs F.zero U.zero
      ∙ zero-scale U (f U.zero) in (
        of_matrix m,
        λ x. apply-of m x (f x) (λ r l. sym (
            ap (λ y. D.coord (f y) r) (space_expand U n D x)
            ∙ ap (λ y. D.coord y r) (map-sum U.monoid U.monoid f f-zero fa n (λ s. U.◌•◌ (D.coord x s) (e s)))
            ∙ coord-sum U n D n (λ s. f (U.◌•◌ (D.coord x s) (e s))) r l
            ∙ sum_congr F.monoid n (λ s. D.coord (f (U.◌•◌ (D.coord x s) (e s))) r) (λ s. m r s ⊗ D.coord x s)
            (λ s h. ap (λ y. D.coord y r) (fs (D.coord x s) (e s)) ∙ D.coord-scale (D.coord x s) (f (e s)) r l
            ∙ F.mul_comm (D.coord x s) (m r s)))),
      )

  pub matrix_action : ActionOn F A U
  matrix_action = record {
    act = apply;
    act-add = apply-add;
    act-scale = apply-scale;
    act-mul = apply-mul;
    act-one = apply-one;
    on-add = apply-on-add;
    on-scale = apply-on-scale;
    same = apply-same;
    each_map = each_linear;
  }

-- an isomorphism to the algebra of all matrices
module _ {K V : Type 0} (F : FieldOn K) (set : IsSet K) (A : AlgebraOn F.ring V) (n : ℕ)
    (B : AlgebraOn F.ring (Mat F.ring n)) (H : IsMatrixAlgebra F.ring n B)
    (f : V → Mat F.ring n) (iso : IsAlgebraIso A B f) where
  pub rep_of_iso : IsMatrixRep F A n (λ a. (f a).0)
  rep_of_iso = record {
    rep-add = λ a b r s _ _. ap (λ (m : Mat F.ring n). m.0 r s) (iso.hom.map-add a b) ∙ H.add-is (f a) (f b) r s;
    rep-scale = λ c a r s _ _. ap (λ (m : Mat F.ring n). m.0 r s) (iso.hom.map-scale c a) ∙ H.scale-is c (f a) r s;
    rep-mul = λ a b r s _ _. ap (λ (m : Mat F.ring n). m.0 r s) (iso.hom.map-mul a b) ∙ H.mul-is (f a) (f b) r s;
    onto = λ m. let a = iso.surjective (mat F.ring set n m) in
        (a.0, λ r s hr hs. ap (λ (x : Mat F.ring n). x.0 r s) a.1 ∙ mat-entry F.ring set n m r s hr hs);
    faithful = λ a b h. iso.injective a b (Mat-ext F.ring set n (f a) (f b) h);
  }
