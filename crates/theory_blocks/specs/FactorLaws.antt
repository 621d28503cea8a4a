-- What the field factors of a commutative subalgebra say: they exist, they are unique, and over a field of q elements
-- the solutions of z^q = z are the combinations of their idempotents, an algebra with the operations of the tuples of
-- scalars. (Berlekamp, Factoring polynomials over finite fields, 1967; Rónyai, Computing the structure of finite
-- algebras, 1990.)
use Rattle.std.specs.Prelude.{◌≡◌, ℕ, ◌<◌, ◌^◌, ◌↔◌}
use Rattle.theory_rings.specs.Ring.{FieldOn}
use Rattle.theory_rings.specs.Prime.{IsPrime}
use Rattle.theory_rings.specs.Power.{times}
use Rattle.theory_rings.specs.Enumerated.{Enumerated}
use Rattle.theory_spaces.specs.Module.{AlgebraOn, module_of}
use Rattle.theory_spaces.specs.Linear.{comb, InSpan, Independent, BasisOf}
use Rattle.theory_spaces.specs.Subspaces.{Whole}
use Rattle.theory_blocks.specs.FixedPoints.{IsCommutative, IsReduced, IsFixed, IsSubalgebra}
use Rattle.theory_blocks.specs.FieldFactors.{IsCommutativeIn, IsReducedIn, FieldFactors}

module _ {K V : Type 0} (F : FieldOn K) (A : AlgebraOn F.ring V) (S : V → Type 0) where
  -- D and G have the same idempotents, in some order
  pub record SameFactors (D G : FieldFactors F A S) : Type 0 where
    pub count : D.count ≡ G.count
    pub left : (i : ℕ) → i < D.count → (j : ℕ) × (j < G.count) × (D.idempotent i ≡ G.idempotent j)
    pub right : (j : ℕ) → j < G.count → (i : ℕ) × (i < D.count) × (G.idempotent j ≡ D.idempotent i)

  -- any two direct products of fields that S is are one
  abbrev pub FactorsAreUnique : Type 0
  FactorsAreUnique = IsSubalgebra A S → IsCommutativeIn F A S → (D G : FieldFactors F A S) → SameFactors D G

module _ {K V : Type 0} (F : FieldOn K) (E : Enumerated K) (A : AlgebraOn F.ring V) (S : V → Type 0) where
  -- weights c 0, .., c (s − 1) are sent to their combination of e 0, .., e (s − 1) one to one, onto the solutions of
  -- z^q = z in S, and products and ones to products and one: so the solutions are the algebra of the s-tuples of
  -- scalars
  pub record SolutionsArePower (s : ℕ) (e : ℕ → V) : Type 0 where
    pub independent : Independent (module_of A) s e
    pub solutions : (z : V) → (S z × IsFixed A.ring E.size z) ↔ InSpan (module_of A) s e z
    pub map-mul : (c d : ℕ → K)
        → comb (module_of A) s (λ i. F.◌⊗◌ (c i) (d i)) e ≡ A.◌⊗◌ (comb (module_of A) s c e) (comb (module_of A) s d e)
    pub map-one : comb (module_of A) s (λ i. F.one) e ≡ A.one

  -- so it is for the idempotents of each direct product of fields that S is
  abbrev pub FixedPointsByFactors : Type 0
  FixedPointsByFactors = IsSubalgebra A S → IsCommutativeIn F A S → (D : FieldFactors F A S)
      → SolutionsArePower D.count D.idempotent

  -- over a field of q = p^i elements, p prime and p·1 = 0, a commutative subalgebra of finite dimension in which 0
  -- alone is nilpotent is such a product
  abbrev pub FieldFactorsExist : Type 0
  FieldFactorsExist = (p i : ℕ) → IsPrime p → times F.monoid p F.one ≡ F.zero → E.size ≡ p ^ i
      → IsSubalgebra A S → IsCommutativeIn F A S → IsReducedIn F A S → (k : ℕ) → BasisOf (module_of A) k S
      → FieldFactors F A S

module _ {K V : Type 0} (F : FieldOn K) (E : Enumerated K) (A : AlgebraOn F.ring V) where
  -- the factors of a commutative algebra, and the solutions by them
  pub record WholeByFactors : Type 0 where
    pub factors : FieldFactors F A Whole
    pub solutions : SolutionsArePower F E A Whole factors.count factors.idempotent

  -- in a commutative algebra in which 0 alone is nilpotent the solutions are a power of the field, with one place for
  -- each factor
  abbrev pub SolutionsArePowerOfField : Type 0
  SolutionsArePowerOfField = (p i : ℕ) → IsPrime p → times F.monoid p F.one ≡ F.zero → E.size ≡ p ^ i
      → IsCommutative A.ring → IsReduced A.ring → WholeByFactors
