-- Ideals with a central unit, maximal ideals and simple blocks. An ideal is given by vectors that span it.
-- (Pierce, Associative Algebras, chapters 3 and 6.)
use Rattle.std.specs.Prelude.{◌≡◌, ℕ, ◌<◌, ◌^◌, ◌⊎◌, ◌↔◌}
use Rattle.theory_rings.specs.Ring.{RingOn, FieldOn}
use Rattle.theory_rings.specs.Prime.{IsPrime}
use Rattle.theory_rings.specs.Power.{times}
use Rattle.theory_rings.specs.Enumerated.{Enumerated}
use Rattle.theory_spaces.specs.Module.{AlgebraOn, module_of}
use Rattle.theory_spaces.specs.Linear.{InSpan, BasisOf}
use Rattle.theory_spaces.specs.Algebra.{IdealSpan, IsNilpotent}
use Rattle.theory_spaces.specs.AlgebraMap.{IsSimple}
use Rattle.theory_spaces.specs.Sets as sets
use Rattle.theory_spaces.specs.Sets.{Whole, ring_ops}
use Rattle.theory_radical.specs.Ideal.{IsNilpotentIdeal}
use Rattle.theory_blocks.specs.FixedPoints.{IsFixed}
use Rattle.theory_blocks.specs.Centre.{Centre}
use Rattle.theory_blocks.specs.FieldFactors.{FieldFactors}
use Rattle.theory_blocks.specs.FactorLaws.{SolutionsArePower}

module _ {K V : Type 0} {R : RingOn K} (A : AlgebraOn R V) where
  infixl 70 ◌⊗◌
  open A use {◌⊗◌}

  -- no ideal but 0 is nilpotent
  abbrev pub HasNoNilpotentIdeal : Type 0
  HasNoNilpotentIdeal = (n : ℕ) (g : ℕ → V) → IsNilpotentIdeal A.ring (InSpan (module_of A) n g) → (i : ℕ) → i < n
      → g i ≡ A.zero

  -- an idempotent of the centre and of the span of g 0, .., g (n − 1), which fixes the members of the span and no
  -- others
  pub record CentralUnit (n : ℕ) (g : ℕ → V) : Type 0 where
    pub unit : V
    pub inside : InSpan (module_of A) n g unit
    pub central : Centre A unit
    pub idempotent : unit ⊗ unit ≡ unit
    pub fixes : (x : V) → InSpan (module_of A) n g x ↔ (unit ⊗ x ≡ x)

  -- each ideal is what a central idempotent of it fixes
  abbrev pub IdealsHaveCentralUnits : Type 0
  IdealsHaveCentralUnits = HasNoNilpotentIdeal → (n : ℕ) (g : ℕ → V) → IdealSpan A n g → CentralUnit n g

  -- 0 alone is central and nilpotent
  abbrev pub CentreIsReduced : Type 0
  CentreIsReduced = HasNoNilpotentIdeal → (x : V) → Centre A x → IsNilpotent A.ring x → x ≡ A.zero

  -- a maximal two-sided ideal of the algebra
  abbrev pub IsMaximalIdeal : (V → Type 0) → Type 0
  IsMaximalIdeal J = sets.IsMaximalIdeal (ring_ops A.ring) Whole J

  -- the elements that e sends to 0
  abbrev pub Annihilated : V → V → Type 0
  Annihilated e x = e ⊗ x ≡ A.zero

  -- each ideal all of whose members e fixes is 0, or all that e fixes
  abbrev pub IsSimpleBlock : V → Type 0
  IsSimpleBlock e = (n : ℕ) (g : ℕ → V) → IdealSpan A n g → ((j : ℕ) → j < n → e ⊗ g j ≡ g j)
      → ((j : ℕ) → j < n → g j ≡ A.zero) ⊎ ((x : V) → e ⊗ x ≡ x → InSpan (module_of A) n g x)

module _ {K V : Type 0} (F : FieldOn K) (A : AlgebraOn F.ring V) where
  -- the maximal ideals are the sets of elements that one of the idempotents of the centre sends to 0; what it fixes is
  -- simple
  pub record MaximalIdealsByFactors (D : FieldFactors F A (Centre A)) : Type 0 where
    pub maximal : (i : ℕ) → i < D.count → IsMaximalIdeal A (Annihilated A (D.idempotent i))
    pub distinct : (i j : ℕ) → i < D.count → j < D.count
        → ((x : V) → Annihilated A (D.idempotent i) x → Annihilated A (D.idempotent j) x) → i ≡ j
    pub complete : (n : ℕ) (g : ℕ → V) → IdealSpan A n g → IsMaximalIdeal A (InSpan (module_of A) n g)
        → (i : ℕ) × (i < D.count) × ((x : V) → InSpan (module_of A) n g x ↔ Annihilated A (D.idempotent i) x)
    pub blocks : (i : ℕ) → i < D.count → IsSimpleBlock A (D.idempotent i)
    pub simple : (IsSimple A × (A.one ≡ A.zero → ⊥)) ↔ (D.count ≡ 1)

  -- so it is wherever the centre is a product of fields
  abbrev pub MaximalIdealsLaw : Type 0
  MaximalIdealsLaw = HasNoNilpotentIdeal A → (D : FieldFactors F A (Centre A)) → MaximalIdealsByFactors D

module _ {K V : Type 0} (F : FieldOn K) (E : Enumerated K) (A : AlgebraOn F.ring V) where
  -- the centre is a product of fields, with one maximal ideal for each; the solutions of z^q = z in the centre are the
  -- combinations of the idempotents, so that their dimension is the number of the maximal ideals
  pub record MaximalIdealsBySolutions : Type 0 where
    pub factors : FieldFactors F A (Centre A)
    pub ideals : MaximalIdealsByFactors F A factors
    pub solutions : SolutionsArePower F E A (Centre A) factors.count factors.idempotent
    pub dimension : BasisOf (module_of A) factors.count (λ z. Centre A z × IsFixed A.ring E.size z)

  -- so it is over a field of q = p^i elements, p prime and p·1 = 0, in an algebra of finite dimension without nilpotent
  -- ideals but 0
  abbrev pub MaximalIdealsAreFinitelyMany : Type 0
  MaximalIdealsAreFinitelyMany = (p i : ℕ) → IsPrime p → times F.monoid p F.one ≡ F.zero → E.size ≡ p ^ i
      → HasNoNilpotentIdeal A → MaximalIdealsBySolutions
