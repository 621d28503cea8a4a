-- A commutative algebra without nilpotent elements but 0 in which multiples of one alone solve z^q = z has inverses: it
-- is the one field of the product that it is.
use Rattle.std.specs.Prelude.{ℕ}
use Rattle.std.proofs.Common.{◌∙◌}
use Rattle.theory_rings.specs.Ring.{FieldOn}
use Rattle.theory_rings.specs.Enumerated.{Enumerated}
use Rattle.theory_spaces.specs.Module.{ModuleOn, AlgebraOn, module_of}
use Rattle.theory_spaces.specs.Linear.{Basis}
use Rattle.theory_spaces.specs.Subspaces.{Whole}
use Rattle.theory_spaces.proofs.Linear.Spaces.{coords_of}
use Rattle.theory_spaces.proofs.Linear.Subspaces.{whole_basis}
use Rattle.theory_blocks.specs.FixedPoints.{FieldCriterion}
use Rattle.theory_blocks.specs.FieldFactors.{IsCommutativeIn}
use Rattle.theory_blocks.proofs.Commutative.FixedPoints.{whole_subalgebra}
use Rattle.theory_blocks.proofs.Commutative.FieldFactorsInverses.{regular, inverse_on}

module _ {K V : Type 0} (F : FieldOn K) (E : Enumerated K) (A : AlgebraOn F.ring V) where
  abbrev M : ModuleOn F.ring V
  M = module_of A

  pub inverses : (m : ℕ) → Basis M m → FieldCriterion F E A
  inverses m B comm reduced only x d =
      let all : IsCommutativeIn F A Whole = λ x y s t. comm x y in
      let g = regular F A Whole (whole_subalgebra A) all m (coords_of M m B) (λ y s. reduced y) m
      (whole_basis M m B) x tt in
      let y = inverse_on F A Whole (whole_subalgebra A) all E A.one tt (A.one-mul A.one)
      (λ z s fixed. let t = only z fixed in (t.scalar, A.mul-one z ∙ t.is_multiple)) x g.0 tt g.1 g.2 (A.one-mul x) d in
      (y.0, y.3)
