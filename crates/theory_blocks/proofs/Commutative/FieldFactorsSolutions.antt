-- The solutions of z^q = z in a commutative subalgebra that is a direct product of fields are the combinations of its
-- idempotents: on the unit e of one of the fields the product of the z − c over the q scalars c is 0, so one of the
-- factors is.
use Rattle.std.specs.Prelude.{◌≡◌, ℕ, zero, suc, ◌<◌, ◌⊎◌}
use Rattle.std.proofs.Common.{sym, ◌∙◌, ap, ⊎_elim}
use Rattle.theory_rings.specs.Ring.{FieldOn}
use Rattle.theory_rings.specs.Power.{power}
use Rattle.theory_rings.specs.Enumerated.{Enumerated}
use Rattle.theory_rings.proofs.Rings.RingLaws.{mul-zero, zero-mul}
use Rattle.theory_rings.proofs.Rings.ZeroTests.{eq_zero_or, eq_of_sub_eq_zero}
use Rattle.theory_rings.proofs.Sums.Sums.{sum_congr, sum_eq_single, mul-sum}
use Rattle.theory_rings.proofs.FiniteFields.FiniteFields.{power_size}
use Rattle.theory_spaces.specs.Module.{ModuleOn, AlgebraOn, module_of}
use Rattle.theory_spaces.specs.Linear.{comb, InSpan, Independent, Basis}
use Rattle.theory_spaces.specs.Subspaces.{Whole}
use Rattle.theory_spaces.proofs.Linear.Families.{choose_each}
use Rattle.theory_spaces.proofs.Linear.Modules.{scale-zero, comb_congr, span_in, map-comb, left_linear, right_linear}
use Rattle.theory_spaces.proofs.Linear.Subspaces.{whole_basis}
use Rattle.theory_radical.specs.Ideal.{product}
use Rattle.theory_blocks.specs.FixedPoints.{IsSubalgebra}
use Rattle.theory_blocks.specs.Splitting.{less_scalar}
use Rattle.theory_blocks.specs.FieldFactors.{IsCommutativeIn, FieldFactors}
use Rattle.theory_blocks.specs.FactorLaws.{SolutionsArePower, FixedPointsByFactors, SolutionsArePowerOfField}
use Rattle.theory_blocks.proofs.Commutative.FixedPoints.{whole_subalgebra}
use Rattle.theory_blocks.proofs.Commutative.Newton.{less_scalar-mul}
use Rattle.theory_blocks.proofs.Ideals.Annihilation.{scalar_factors}
use Rattle.theory_blocks.proofs.Families.Decisions.{vector_eq_zero_or}
use Rattle.theory_blocks.proofs.Commutative.FieldFactorsFamilies.{less_scalar_in, factors_in}
use Rattle.theory_blocks.proofs.Commutative.FieldFactors.{field_factors}

module _ {K V : Type 0} (F : FieldOn K) (A : AlgebraOn F.ring V) (S : V → Type 0) where
  infixl 70 ◌⊗◌
  infixl 70 ◌•◌
  open A use {ring, one, ◌⊗◌, ◌•◌}

  abbrev M : ModuleOn F.ring V
  M = module_of A

  module _ (D : FieldFactors F A S) where
    abbrev n : ℕ
    n = D.count

    abbrev e : ℕ → V
    e = D.idempotent

    -- the product of an idempotent with a combination of them
    mul-comb : (c : ℕ → K) (i : ℕ) → i < n → e i ⊗ comb M n c e ≡ c i • e i
    mul-comb c i l =
        map-comb M M (λ x. e i ⊗ x) (left_linear A (e i)) n c e
        ∙ sum_eq_single A.monoid n i (λ j. c j • (e i ⊗ e j)) l
        (λ j g d. ap (λ y. c j • y) (D.orthogonal i j l g (λ q. d (sym q))) ∙ scale-zero M (c j))
        ∙ ap (λ y. c i • y) (D.idempotents i l)

    pub factors_independent : Independent M n e
    factors_independent = record {
      only_zero = λ c z i l. ⊎_elim
          (λ (w : c i ≡ F.zero). w)
          (λ (d : c i ≡ F.zero → ⊥). absurd (D.nonzero i l (
          let b = F.inv (c i) in
          sym (A.one-scale (e i)) ∙ ap (λ a. a • e i) (sym (F.inv-mul (c i) d)) ∙ A.mul-scale b (c i) (e i)
          ∙ ap (λ y. b • y) (sym (mul-comb c i l) ∙ ap (λ y. e i ⊗ y) z ∙ mul-zero ring (e i)) ∙ scale-zero M b)))
          (eq_zero_or F.zero_test (c i));
    }

    pub factors_map-mul : (c d : ℕ → K) → comb M n (λ i. F.◌⊗◌ (c i) (d i)) e ≡ comb M n c e ⊗ comb M n d e
    factors_map-mul c d =
        let y = comb M n d e in
        sum_congr A.monoid n (λ i. (F.◌⊗◌ (c i) (d i)) • e i) (λ i. c i • (e i ⊗ y))
        (λ i l. A.mul-scale (c i) (d i) (e i) ∙ ap (λ x. c i • x) (sym (mul-comb d i l)))
        ∙ sym (map-comb M M (λ x. x ⊗ y) (right_linear A y) n c e)

    pub factors_map-one : comb M n (λ i. F.one) e ≡ one
    factors_map-one = sum_congr A.monoid n (λ i. F.one • e i) e (λ i _. A.one-scale (e i)) ∙ D.sum_to_one

    factors_map-power : (c : ℕ → K) (t : ℕ) → power ring (comb M n c e) t ≡ comb M n (λ i. power F.ring (c i) t) e
    factors_map-power c zero = sym factors_map-one
    factors_map-power c (suc t) = ap (λ x. comb M n c e ⊗ x) (factors_map-power c t)
        ∙ sym (factors_map-mul c (λ i. power F.ring (c i) t))

    -- a combination of all, where each product with one of them is a multiple of it
    sum_of_parts : (z : V) → ((i : ℕ) → i < n → (c : K) × (z ⊗ e i ≡ c • e i)) → InSpan M n e z
    sum_of_parts z g =
        let c = choose_each n (λ i a. z ⊗ e i ≡ a • e i) F.zero g in
        record {
          weights = c.0;
          combines = sym (A.mul-one z) ∙ ap (λ y. z ⊗ y) (sym D.sum_to_one) ∙ mul-sum ring n z e
              ∙ sum_congr A.monoid n (λ i. z ⊗ e i) (λ i. c.0 i • e i) c.1;
        }

  module _ (h : IsSubalgebra A S) (comm : IsCommutativeIn F A S) (dec : (x : V) → (x ≡ A.zero) ⊎ (x ≡ A.zero → ⊥))
      (E : Enumerated K)
      (D : FieldFactors F A S) where
    -- a factor z − c of a product that is 0 on one of the fields is 0 there
    scalar_of_product : (z : V) → S z → (i : ℕ) → i < D.count → (t : ℕ)
        → D.idempotent i ⊗ product ring (λ j. less_scalar A z (E.member j)) t ≡ A.zero → (c : K)
        × (z ⊗ D.idempotent i ≡ c • D.idempotent i)
    scalar_of_product z s i l zero g = absurd (D.nonzero i l (sym (A.mul-one (D.idempotent i)) ∙ g))
    scalar_of_product z s i l (suc t) g =
        let a = D.idempotent i in
        let c = E.member t in
        let f = less_scalar A z c in
        let p = product ring (λ j. less_scalar A z (E.member j)) t in
        let x = a ⊗ p in
        let sa = D.inside i l in
        let sp : S p = factors_in F E A S h E.member z s t in
        ⊎_elim
        (λ (w : x ≡ A.zero). scalar_of_product z s i l t w)
        (λ (d : x ≡ A.zero → ⊥).
        let y = D.field i l x (h.mul-in a p sa sp) (sym (A.mul_assoc a a p) ∙ ap (λ w. w ⊗ p) (D.idempotents i l)) d in
        let none : f ⊗ x ≡ A.zero =
        sym (A.mul_assoc f a p) ∙ ap (λ w. w ⊗ p) (sym (comm a f sa (less_scalar_in F E A S h z s c)))
        ∙ A.mul_assoc a f p ∙ g in
        let gone : f ⊗ a ≡ A.zero = ap (λ w. f ⊗ w) (sym y.3) ∙ sym (A.mul_assoc f x y.0) ∙ ap (λ w. w ⊗ y.0) none
        ∙ zero-mul ring y.0 in
        (c, eq_of_sub_eq_zero A.additive (z ⊗ a) (c • a) (sym (less_scalar-mul A z c a) ∙ gone)))
        (dec x)

    solutions_are_power : SolutionsArePower F E A S D.count D.idempotent
    solutions_are_power = record {
      independent = factors_independent D;
      solutions = λ z. (
        λ t. sum_of_parts D z (λ i l. scalar_of_product z t.0 i l E.size
            (ap (λ y. D.idempotent i ⊗ y) (scalar_factors F E A z t.1) ∙ mul-zero ring (D.idempotent i))),
        λ t. let c = t.weights in (
          span_in M S h.subspace D.count D.idempotent D.inside z t,
          ap (λ y. power ring y E.size) t.combines ∙ factors_map-power D c E.size
              ∙ comb_congr M D.count (λ i. power F.ring (c i) E.size) c D.idempotent (λ i _. power_size F E (c i))
              ∙ sym t.combines,
        ),
      );
      map-mul = factors_map-mul D;
      map-one = factors_map-one D;
    }

module _ {K V : Type 0} (F : FieldOn K) (E : Enumerated K) (A : AlgebraOn F.ring V) (m : ℕ)
    (B : Basis (module_of A) m) where
  pub fixed_points_by_factors : (S : V → Type 0) → FixedPointsByFactors F E A S
  fixed_points_by_factors S h comm = solutions_are_power F A S h comm (vector_eq_zero_or F (module_of A) m B) E

  pub solutions_power_of_field : SolutionsArePowerOfField F E A
  solutions_power_of_field p i prime char size comm reduced =
      let all : IsCommutativeIn F A Whole = λ x y s t. comm x y in
      let D = field_factors F E A m B Whole p i prime char size (whole_subalgebra A) all (λ x s. reduced x) m
      (whole_basis (module_of A) m B) in
      record { factors = D; solutions = fixed_points_by_factors Whole (whole_subalgebra A) all D }
