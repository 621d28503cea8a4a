-- The corner of an idempotent as an algebra by constants, on any space of coordinates.
use Rattle.std.specs.Prelude.{◌≡◌, ℕ, ◌<◌, ◌≤◌, ◌⊎◌}
use Rattle.std.proofs.Common.{refl, sym, ◌∙◌, ap, ap₂, subst, arith, inl, inr}
use Rattle.std.proofs.lemmas.Bool.{cases_lt}
use Rattle.theory_rings.specs.Ring.{FieldOn}
use Rattle.theory_spaces.specs.Module.{ModuleOn, AlgebraOn, module_of}
use Rattle.theory_spaces.specs.Linear.{comb, InSpan, Basis, BasisOf, IsLinear}
use Rattle.theory_spaces.specs.Space.{SpaceOn, ProductOn}
use Rattle.theory_spaces.specs.Algebra.{InCorner}
use Rattle.theory_spaces.proofs.Linear.Modules.{comb_congr, comb_congr_right, comb-add, comb-scale, comb_injective}
use Rattle.theory_spaces.proofs.Linear.Modules.{map-comb}
use Rattle.theory_spaces.specs.Matrix.{delta}
use Rattle.theory_spaces.proofs.Matrices.Matrices.{delta_comm}
use Rattle.theory_spaces.proofs.Linear.Modules.{left_linear, right_linear, linear_comp, linear_ext}
use Rattle.theory_spaces.proofs.Linear.Spaces.{coords_of, span_basis}
use Rattle.theory_spaces.proofs.Tuples.Tables.{unit, space_expand, table_on, coord-table_mul, coord-unit_mul}
use Rattle.theory_spaces.proofs.Tuples.Tables.{product_left}
use Rattle.theory_spaces.proofs.Tuples.Tables.{product_right}
use Rattle.theory_spaces.proofs.Tuples.Tables.{algebra_of, coord-unit}
use Rattle.theory_spaces.proofs.Linear.IndependentVectors.{comb-delta}
use Rattle.theory_pairs.specs.Corner.{CornerConstants, CornerTable}
use Rattle.theory_pairs.proofs.CornerAlgebras.{between, between_corner}

module _ {K V : Type 0} (F : FieldOn K) (A : AlgebraOn F.ring V) (e : V) (idem : A.◌⊗◌ e e ≡ e) where
  infixl 65 ◌⊕◌
  infixl 70 ◌⊗◌
  infixl 70 ◌•◌
  open A use {◌⊕◌, ◌⊗◌, ◌•◌}

  abbrev M : ModuleOn F.ring V
  M = module_of A

  -- y ↦ e·y·e
  abbrev cut : V → V
  cut y = (e ⊗ y) ⊗ e

  cut_linear : IsLinear M M cut
  cut_linear = record {
    map-add = λ x y. ap (λ t. t ⊗ e) (A.mul-add e x y) ∙ A.add-mul (e ⊗ x) (e ⊗ y) e;
    map-scale = λ a x. ap (λ t. t ⊗ e) (A.scale-right a e x) ∙ A.scale-left a (e ⊗ x) e;
  }

  -- a product of two members of the corner is one
  corner-mul : (x y : V) → InCorner A e x → InCorner A e y → InCorner A e (x ⊗ y)
  corner-mul x y c d =
      (sym (A.mul_assoc e x y) ∙ ap (λ t. t ⊗ y) c.0, A.mul_assoc x y e ∙ ap (λ t. x ⊗ t) d.1)

  corner-comb : (k : ℕ) (c : ℕ → K) (u : ℕ → V) → ((i : ℕ) → i < k → InCorner A e (u i)) → InCorner A e (comb M k c u)
  corner-comb k c u h = (
    map-comb M M (λ y. e ⊗ y) (left_linear A e) k c u ∙ comb_congr_right M k c (λ i. e ⊗ u i) u (λ i l. (h i l).0),
    map-comb M M (λ y. y ⊗ e) (right_linear A e) k c u ∙ comb_congr_right M k c (λ i. u i ⊗ e) u (λ i l. (h i l).1),
  )

  module _ (k : ℕ) (U : BasisOf M k (InCorner A e)) where
    product-in : (i j : ℕ) → i < k → j < k → InSpan M k U.vec (U.vec i ⊗ U.vec j)
    product-in i j l g = U.spans (U.vec i ⊗ U.vec j) (corner-mul (U.vec i) (U.vec j) (U.inside i l) (U.inside j g))

    coordinates : (i j : ℕ) → (i < k) ⊎ (k ≤ i) → (j < k) ⊎ (k ≤ j) → ℕ → K
    coordinates i j (inl l) (inl g) = let s = product-in i j l g in s.weights
    coordinates i j (inl l) (inr g) = λ _. F.zero
    coordinates i j (inr l) d = λ _. F.zero

    gives : (i j : ℕ) (c : (i < k) ⊎ (k ≤ i)) (d : (j < k) ⊎ (k ≤ j)) → i < k → j < k
        → U.vec i ⊗ U.vec j ≡ comb M k (coordinates i j c d) U.vec
    unfolding coordinates
    gives i j (inl l) (inl g) _ _ = let s = product-in i j l g in s.combines
    gives i j (inl l) (inr g) _ b = absurd (omega arith)
    gives i j (inr l) d a _ = absurd (omega arith)

    pub corner_constants : CornerConstants A e k U.vec
    corner_constants = record {
      constant = λ i j. coordinates i j (cases_lt i k) (cases_lt j k);
      products = λ i j l g. gives i j (cases_lt i k) (cases_lt j k) l g;
      one = let s = U.spans e (idem, idem) in s.weights;
      one-is = let s = U.spans e (idem, idem) in s.combines;
    }

  module _ (n : ℕ) (B : Basis M n) where
    found : (k : ℕ) × BasisOf M k (InSpan M n (λ i. cut (B.vec i)))
    found = span_basis F M n (coords_of M n B) n (λ i. cut (B.vec i))

    spanned : (x : V) → InCorner A e x → InSpan M n (λ i. cut (B.vec i)) x
    spanned x c = record {
      weights = B.coord x;
      combines = sym (between_corner A e idem x c) ∙ ap cut (B.expand x)
          ∙ map-comb M M cut cut_linear n (B.coord x) B.vec;
    }

    pub corner_basis_of : (k : ℕ) × BasisOf M k (InCorner A e)
    corner_basis_of =
        let U = found.1 in
        let In : V → Type 0 = InCorner A e in (
          found.0,
          record {
            vec = U.vec;
            independent = U.independent;
            inside = λ j l.
                let s = U.inside j l in
                subst In (sym s.combines)
                (corner-comb n s.weights (λ i. cut (B.vec i)) (λ i _. between A e idem (B.vec i)));
            spans = λ x c. U.spans x (spanned x c);
          },
        )

  -- the algebra by the constants
  module _ (k : ℕ) (U : BasisOf M k (InCorner A e)) (D : CornerConstants A e k U.vec)
      {W : Type 0} (N : ModuleOn F.ring W) (S : SpaceOn N k) where
    abbrev u : ℕ → V
    u = U.vec

    abbrev T : ProductOn N
    T = table_on F.cring N k S D.constant

    abbrev times : W → W → W
    times = T.◌⊗◌

    abbrev ι : W → V
    ι x = comb M k (S.coord x) u

    ι_linear : IsLinear N M ι
    ι_linear = record {
      map-add = λ x y. comb_congr M k (S.coord (N.◌⊕◌ x y)) (λ i. F.◌⊕◌ (S.coord x i) (S.coord y i)) u
          (λ i l. S.coord-add x y i l)
          ∙ comb-add M k (S.coord x) (S.coord y) u;
      map-scale = λ a x. comb_congr M k (S.coord (N.◌•◌ a x)) (λ i. F.◌⊗◌ a (S.coord x i)) u
          (λ i l. S.coord-scale a x i l)
          ∙ comb-scale M k a (S.coord x) u;
    }

    ι-injective : (x y : W) → ι x ≡ ι y → x ≡ y
    ι-injective x y h = S.ext x y (comb_injective M k u U.independent (S.coord x) (S.coord y) h)

    abbrev v : ℕ → W
    v = unit N k S

    ι-unit : (i : ℕ) → i < k → ι (v i) ≡ u i
    ι-unit i l = comb_congr M k (S.coord (v i)) (delta F.ring i) u
        (λ j g. coord-unit N k S i j g ∙ delta_comm F.ring j i)
        ∙ comb-delta M k i u l

    ι-units : (i j : ℕ) → i < k → j < k → ι (times (v i) (v j)) ≡ u i ⊗ u j
    ι-units i j l g = comb_congr M k (S.coord (times (v i) (v j))) (D.constant i j) u
        (λ t h. coord-unit_mul F.cring N k S D.constant i j t l g h) ∙ sym (D.products i j l g)

    -- products go to products
    ι-mul : (x y : W) → ι (times x y) ≡ ι x ⊗ ι y
    ι-mul x y = linear_ext N M (λ a. ι (times a y)) (λ a. ι a ⊗ ι y)
        (linear_comp N N M ι (λ a. times a y) ι_linear (product_right N T y))
        (linear_comp N M M (λ b. b ⊗ ι y) ι (right_linear A (ι y)) ι_linear) k v
        (λ i l. linear_ext N M (λ b. ι (times (v i) b)) (λ b. ι (v i) ⊗ ι b)
        (linear_comp N N M ι (λ b. times (v i) b) ι_linear (product_left N T (v i)))
        (linear_comp N M M (λ b. ι (v i) ⊗ b) ι (left_linear A (ι (v i))) ι_linear) k v
        (λ j g. ι-units i j l g ∙ sym (ap₂ (λ s t. s ⊗ t) (ι-unit i l) (ι-unit j g)))
        y (record { weights = S.coord y; combines = space_expand N k S y }))
        x (record { weights = S.coord x; combines = space_expand N k S x })

    abbrev one : W
    one = S.make D.one

    ι-one : ι one ≡ e
    ι-one = comb_congr M k (S.coord one) D.one u (λ i l. S.coord-make D.one i l) ∙ sym D.one-is

    inside : (x : W) → InCorner A e (ι x)
    inside x = corner-comb k (S.coord x) u U.inside

    assoc : (x y z : W) → times (times x y) z ≡ times x (times y z)
    assoc x y z = ι-injective (times (times x y) z) (times x (times y z))
        (ι-mul (times x y) z ∙ ap (λ t. t ⊗ ι z) (ι-mul x y) ∙ A.mul_assoc (ι x) (ι y) (ι z)
        ∙ sym (ι-mul x (times y z) ∙ ap (λ t. ι x ⊗ t) (ι-mul y z)))

    one-left : (x : W) → times one x ≡ x
    one-left x = ι-injective (times one x) x (ι-mul one x ∙ ap (λ t. t ⊗ ι x) ι-one ∙ (inside x).0)

    one-right : (x : W) → times x one ≡ x
    one-right x = ι-injective (times x one) x (ι-mul x one ∙ ap (λ t. ι x ⊗ t) ι-one ∙ (inside x).1)

    pub corner_table : CornerTable F A e k u D N S
    corner_table = record {
      algebra = algebra_of N T assoc one one-left one-right;
      module-is = refl;
      product-is = λ x y t l. coord-table_mul F.cring N k S D.constant x y t l;
      one-is = λ t l. S.coord-make D.one t l;
      corner = record {
        map-one = ι-one;
        map-add = ι_linear.map-add;
        map-mul = ι-mul;
        map-scale = ι_linear.map-scale;
        injective = ι-injective;
        inside = inside;
        onto = λ y c.
            let s = U.spans y c in (
              S.make s.weights,
              comb_congr M k (S.coord (S.make s.weights)) s.weights u (λ i l. S.coord-make s.weights i l)
                  ∙ sym s.combines,
            );
      };
    }
