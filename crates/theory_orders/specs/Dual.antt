-- The dual of a lattice by the trace form. (Reiner, Maximal Orders, sections 10 and 25.)
use Rattle.std.specs.Prelude.{◌≡◌, ℕ, ◌<◌}
use Rattle.theory_rings.specs.Ring.{FieldOn}
use Rattle.theory_spaces.specs.Module.{AlgebraOn, module_of}
use Rattle.theory_spaces.specs.Linear.{Basis}
use Rattle.theory_spaces.specs.Matrix.{Matrix, delta, mat_mul}
use Rattle.theory_spaces.specs.Form.{gram, trace_form}
use Rattle.theory_spaces.specs.Lattice.{DualOf, IsOwnDual}
use Rattle.theory_spaces.specs.Valuation.{ValuationOn, IsIntegral}

module _ {K V : Type 0} (F : FieldOn K) (Z : ValuationOn F) (A : AlgebraOn F.ring V) (n : ℕ)
    (B : Basis (module_of A) n) where
  -- the elements whose products with L have integral traces
  abbrev pub Dual : (V → Type 0) → V → Type 0
  Dual = DualOf (trace_form A n B) (IsIntegral F Z)

  abbrev pub IsSelfDual : (V → Type 0) → Type 0
  IsSelfDual = IsOwnDual (trace_form A n B) (IsIntegral F Z)

  -- the traces of the products of n vectors are a matrix with an integral inverse
  pub record IsUnimodular (v : ℕ → V) : Type 0 where
    pub inverse : Matrix K
    pub integral : (i j : ℕ) → i < n → j < n → IsIntegral F Z (inverse i j)
    pub inverts : (i j : ℕ) → i < n → j < n
        → mat_mul F.ring n (gram (module_of A) (trace_form A n B) v) inverse i j ≡ delta F.ring i j
