-- A commutative subalgebra is a direct product of fields in one way: the product of an idempotent of one such product
-- and one of another is an idempotent of both fields, so that it is 0 or both of them.
use Rattle.std.specs.Prelude.{◌≡◌, ℕ, ◌<◌, ◌≤◌, ◌⊎◌}
use Rattle.std.proofs.Common.{sym, ◌∙◌, ap, ap₂, subst, arith, ⊎_elim}
use Rattle.theory_rings.specs.Ring.{FieldOn}
use Rattle.theory_rings.proofs.Sums.Sums.{sum_eq_zero, mul-sum}
use Rattle.theory_spaces.specs.Module.{ModuleOn, AlgebraOn, module_of}
use Rattle.theory_spaces.specs.Linear.{InSpan, Basis}
use Rattle.theory_spaces.proofs.Linear.Modules.{InSpan-member}
use Rattle.theory_spaces.proofs.Linear.Dimension.{exchange}
use Rattle.theory_blocks.specs.FixedPoints.{IsSubalgebra}
use Rattle.theory_blocks.specs.FieldFactors.{IsCommutativeIn, FieldFactors}
use Rattle.theory_blocks.specs.FactorLaws.{SameFactors, FactorsAreUnique}
use Rattle.theory_blocks.proofs.Families.Decisions.{other_or_all, vector_eq_zero_or}
use Rattle.theory_blocks.proofs.Commutative.FieldFactorsFamilies.{mul_mul_mul_comm}
use Rattle.theory_blocks.proofs.Commutative.FieldFactorsSolutions.{factors_independent}

module _ {K V : Type 0} (F : FieldOn K) (A : AlgebraOn F.ring V) (S : V → Type 0) (h : IsSubalgebra A S)
    (comm : IsCommutativeIn F A S) where
  infixl 70 ◌⊗◌
  open A use {ring, ◌⊗◌}

  abbrev M : ModuleOn F.ring V
  M = module_of A

  -- an idempotent other than 0 on one of the fields is that of the field
  pub factor_unit : (D : FieldFactors F A S) (i : ℕ) → i < D.count → (x : V) → S x → D.idempotent i ⊗ x ≡ x
      → x ⊗ x ≡ x → (x ≡ A.zero → ⊥) → x ≡ D.idempotent i
  factor_unit D i l x s keeps square d =
      let y = D.field i l x s keeps d in
      sym keeps ∙ comm (D.idempotent i) x (D.inside i l) s ∙ ap (λ w. x ⊗ w) (sym y.3) ∙ sym (A.mul_assoc x x y.0)
      ∙ ap (λ w. w ⊗ y.0) square ∙ y.3

  -- the product of two idempotents that is not 0 is both
  both : (D G : FieldFactors F A S) (i j : ℕ) → i < D.count → j < G.count
      → (D.idempotent i ⊗ G.idempotent j ≡ A.zero → ⊥) → D.idempotent i ≡ G.idempotent j
  both D G i j li lj d =
      let a = D.idempotent i in
      let b = G.idempotent j in
      let sa = D.inside i li in
      let sb = G.inside j lj in
      let x = a ⊗ b in
      let sx : S x = h.mul-in a b sa sb in
      let left : a ⊗ x ≡ x = sym (A.mul_assoc a a b) ∙ ap (λ w. w ⊗ b) (D.idempotents i li) in
      let right : b ⊗ x ≡ x = comm b x sb sx ∙ A.mul_assoc a b b ∙ ap (λ w. a ⊗ w) (G.idempotents j lj) in
      let square : x ⊗ x ≡ x =
      mul_mul_mul_comm ring a b a b (comm b a sb sa) ∙ ap₂ (λ u v. u ⊗ v) (D.idempotents i li) (G.idempotents j lj) in
      sym (factor_unit D i li x sx left square d) ∙ factor_unit G j lj x sx right square d

  module _ (dec : (x : V) → (x ≡ A.zero) ⊎ (x ≡ A.zero → ⊥)) where
    same_idempotent : (D G : FieldFactors F A S) (i : ℕ) → i < D.count → (j : ℕ) × (j < G.count)
        × (D.idempotent i ≡ G.idempotent j)
    same_idempotent D G i l =
        let a = D.idempotent i in
        ⊎_elim
        (λ (p : (j : ℕ) × (j < G.count) × (a ⊗ G.idempotent j ≡ A.zero → ⊥)). (p.0, p.1, both D G i p.0 l p.1 p.2))
        (λ (z : (j : ℕ) → j < G.count → a ⊗ G.idempotent j ≡ A.zero). absurd (D.nonzero i l (
        sym (A.mul-one a) ∙ ap (λ y. a ⊗ y) (sym G.sum_to_one) ∙ mul-sum ring G.count a G.idempotent
        ∙ sum_eq_zero A.monoid G.count (λ j. a ⊗ G.idempotent j) z)))
        (other_or_all A.zero dec G.count (λ j. a ⊗ G.idempotent j))

    count_le : (D G : FieldFactors F A S) → D.count ≤ G.count
    count_le D G = exchange F M D.count G.count D.idempotent G.idempotent (factors_independent F A S D)
        (λ i l. let t = same_idempotent D G i l in
        let In : V → Type 0 = InSpan M G.count G.idempotent in
        subst In (sym t.2) (InSpan-member M G.count t.0 G.idempotent t.1))

    same_factors : (D G : FieldFactors F A S) → SameFactors F A S D G
    same_factors D G = record {
      count = let a = count_le D G in let b = count_le G D in omega arith;
      left = same_idempotent D G;
      right = same_idempotent G D;
    }

module _ {K V : Type 0} (F : FieldOn K) (A : AlgebraOn F.ring V) (m : ℕ) (B : Basis (module_of A) m)
    (S : V → Type 0) where
  pub factors_are_unique : FactorsAreUnique F A S
  factors_are_unique h comm = same_factors F A S h comm (vector_eq_zero_or F (module_of A) m B)
