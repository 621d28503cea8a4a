-- The n by n matrices over a field as an example: the matrix units are a basis of two self-dual orders, over a subring
-- and over the elements of degree at most 0. (Reiner, Maximal Orders, section 17.)
use Rattle.std.specs.Prelude.{ℕ, ◌*◌, ◌<◌}
use Rattle.theory_rings.specs.Ring.{FieldOn}
use Rattle.theory_spaces.specs.Module.{AlgebraOn, module_of}
use Rattle.theory_spaces.specs.Matrix.{Mat, mat_trace}
use Rattle.theory_spaces.specs.Algebra.{Central}
use Rattle.theory_spaces.specs.MatrixAlgebra.{MatrixUnits}
use Rattle.theory_spaces.specs.MinimalIdempotent.{IsMinimalIdempotent}
use Rattle.theory_spaces.specs.Lattice.{LatticeOver}
use Rattle.theory_lattices.specs.Degree.{DegreeOn}
use Rattle.theory_lattices.specs.CommonBasis.{InInfinite}
use Rattle.theory_lattices.specs.SelfDual.{SelfDualPair, IntegralTrace}
use Rattle.theory_pairs.specs.OwnDual.{UnimodularGram}

module _ {K : Type 0} (F : FieldOn K) (W : DegreeOn F.ring) (P : K → Type 0) (n : ℕ)
    (A : AlgebraOn F.ring (Mat F.ring n)) where
  abbrev pub matrix_trace : Mat F.ring n → K
  matrix_trace x = mat_trace F.ring n x.0

  -- of the basis of matrix units, n·n in number, the Gram matrix and its inverse by the trace have entries in P; their
  -- lattices are a self-dual pair, whose trace is integral; the first unit is a minimal idempotent, and the centre is
  -- the multiples of one
  pub record MatrixPair : Type 0 where
    pub units : MatrixUnits F.ring n A
    pub unimodular : UnimodularGram (module_of A) (λ x y. matrix_trace (A.◌⊗◌ x y)) P (n * n) units.basis.vec
    pub pair : SelfDualPair F W A P (LatticeOver (module_of A) P (n * n) units.basis.vec)
        (InInfinite F W (module_of A) P (n * n) units.basis.vec) matrix_trace
    pub integral : IntegralTrace F W A P (LatticeOver (module_of A) P (n * n) units.basis.vec)
        (InInfinite F W (module_of A) P (n * n) units.basis.vec) matrix_trace
    pub idempotent : 0 < n → IsMinimalIdempotent A (units.unit 0 0)
    pub central : Central A
