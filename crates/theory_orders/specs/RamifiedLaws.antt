-- Statements on ramified places.
use Rattle.std.specs.Prelude.{ℕ, ◌<◌}
use Rattle.theory_rings.specs.Ring.{FieldOn}
use Rattle.theory_spaces.specs.Module.{AlgebraOn}
use Rattle.theory_spaces.specs.Matrix.{Mat}
use Rattle.theory_spaces.specs.AlgebraMap.{IsAlgebraIso}
use Rattle.theory_spaces.specs.MatrixAlgebra.{IsMatrixAlgebra}
use Rattle.theory_spaces.specs.Valuation.{ValuationOn}
use Rattle.theory_orders.specs.Orders.{IsOrder, OnlyMaximalIdeal, Within}
use Rattle.theory_orders.specs.Lattices.{Lattice}
use Rattle.theory_orders.specs.Ramified.{IsRamified}

module _ {K V : Type 0} (F : FieldOn K) (Z : ValuationOn F) (p : K) (A : AlgebraOn F.ring V) (n : ℕ) where
  -- an algebra with a ramified place is isomorphic to no algebra of all matrices of a size from 1 on
  abbrev pub RamifiedExcludesIsomorphism : Type 0
  RamifiedExcludesIsomorphism = (v w : ℕ → V) → IsRamified F Z p A n v w
      → (m : ℕ) → 0 < m → (B : AlgebraOn F.ring (Mat F.ring m)) → IsMatrixAlgebra F.ring m B
      → (f : V → Mat F.ring m) → IsAlgebraIso A B f → ⊥

  -- an order that is a lattice and holds that of a ramified place lies in it
  abbrev pub RamifiedOrderIsMaximal : Type 0
  RamifiedOrderIsMaximal = (v w : ℕ → V) → IsRamified F Z p A n v w
      → (m : ℕ) (u : ℕ → V) → IsOrder A (Lattice F Z A m u)
      → Within (Lattice F Z A n v) (Lattice F Z A m u) → Within (Lattice F Z A m u) (Lattice F Z A n v)

  -- the radical of a ramified place is the only maximal ideal
  abbrev pub RamifiedRadicalIsOnly : Type 0
  RamifiedRadicalIsOnly = (v w : ℕ → V) → IsRamified F Z p A n v w
      → OnlyMaximalIdeal A p (Lattice F Z A n v) (Lattice F Z A n w)
