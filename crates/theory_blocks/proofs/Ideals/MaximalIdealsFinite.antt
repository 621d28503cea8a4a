-- Over a field of q elements the centre of an algebra of finite dimension without nilpotent ideals but 0 is a product
-- of fields, as it is a commutative subalgebra with a basis in which 0 alone is nilpotent. So the maximal ideals are as
-- many as its fields.
use Rattle.std.specs.Prelude.{ℕ}
use Rattle.theory_rings.specs.Ring.{FieldOn}
use Rattle.theory_rings.specs.Enumerated.{Enumerated}
use Rattle.theory_spaces.specs.Module.{ModuleOn, AlgebraOn, module_of}
use Rattle.theory_spaces.specs.Linear.{Basis, BasisOf}
use Rattle.theory_spaces.proofs.Linear.Modules.{InSpan-member}
use Rattle.theory_blocks.specs.FixedPoints.{IsFixed}
use Rattle.theory_blocks.specs.FieldFactors.{IsCommutativeIn}
use Rattle.theory_blocks.specs.FactorLaws.{SolutionsArePower}
use Rattle.theory_blocks.specs.Centre.{Centre}
use Rattle.theory_blocks.specs.MaximalIdeals.{MaximalIdealsAreFinitelyMany}
use Rattle.theory_blocks.proofs.Ideals.Centres.{centre_subalgebra, centre_basis}
use Rattle.theory_blocks.proofs.Commutative.FieldFactors.{field_factors}
use Rattle.theory_blocks.proofs.Commutative.FieldFactorsSolutions.{fixed_points_by_factors}
use Rattle.theory_blocks.proofs.Ideals.Semiprime.{centre_is_reduced}
use Rattle.theory_blocks.proofs.Ideals.MaximalIdeals.{maximal_ideals_by_factors}

module _ {K V : Type 0} (F : FieldOn K) (E : Enumerated K) (A : AlgebraOn F.ring V) where
  abbrev M : ModuleOn F.ring V
  M = module_of A

  -- the idempotents are a basis of the solutions
  basis_of_solutions : (S : V → Type 0) (s : ℕ) (e : ℕ → V) → SolutionsArePower F E A S s e
      → BasisOf M s (λ z. S z × IsFixed A.ring E.size z)
  basis_of_solutions S s e h = record {
    vec = e;
    independent = h.independent;
    inside = λ j l. (h.solutions (e j)).1 (InSpan-member M s j e l);
    spans = λ z t. (h.solutions z).0 t;
  }

  pub maximal_ideals_are_finitely_many : (m : ℕ) → Basis M m → MaximalIdealsAreFinitelyMany F E A
  maximal_ideals_are_finitely_many m B p i prime char size none =
      let S = Centre A in
      let comm : IsCommutativeIn F A S = λ x y s t. s y in
      let basis = centre_basis F A m B in
      let D = field_factors F E A m B S p i prime char size (centre_subalgebra A) comm
      (centre_is_reduced F A m B none) basis.0 basis.1 in
      let solutions = fixed_points_by_factors F E A m B S (centre_subalgebra A) comm D in
      record {
        factors = D;
        ideals = maximal_ideals_by_factors F A m B none D;
        solutions = solutions;
        dimension = basis_of_solutions S D.count D.idempotent solutions;
      }
