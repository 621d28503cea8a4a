-- Statements on the dual of an order by the trace form.
use Rattle.std.specs.Prelude.{ℕ, suc, ◌≤◌, ◌⊎◌}
use Rattle.theory_rings.specs.Ring.{FieldOn}
use Rattle.theory_rings.specs.Power.{times}
use Rattle.theory_spaces.specs.Module.{AlgebraOn, module_of}
use Rattle.theory_spaces.specs.Linear.{Basis, Independent}
use Rattle.theory_spaces.specs.Valuation.{ValuationOn}
use Rattle.theory_orders.specs.Uniformizer.{IsUnit}
use Rattle.theory_orders.specs.Orders.{Multiple, Within, Same, ProperlyWithin, Radical, SimpleQuotient}
use Rattle.theory_orders.specs.Lattices.{Lattice, IsOrderAt, LatticeChain, NothingGrows}
use Rattle.theory_orders.specs.Dual.{Dual, IsSelfDual, IsUnimodular}
use Rattle.theory_orders.specs.Ramified.{IsRamified}

module _ {K V : Type 0} (F : FieldOn K) (Z : ValuationOn F) (A : AlgebraOn F.ring V) (n : ℕ)
    (B : Basis (module_of A) n) where
  -- the number n as a scalar is a unit of the valuation ring
  abbrev pub DimensionIsUnit : Type 0
  DimensionIsUnit = IsUnit F Z (times F.monoid n F.one)

  -- an order lies in its dual
  abbrev pub OrderInDual : Type 0
  OrderInDual = (v : ℕ → V) → IsOrderAt F Z A n v → Within (Lattice F Z A n v) (Dual F Z A n B (Lattice F Z A n v))

  -- the dual of the dual of a lattice of full rank is the lattice
  abbrev pub DoubleDual : Type 0
  DoubleDual = (v : ℕ → V) → Independent (module_of A) n v
      → Same (Dual F Z A n B (Dual F Z A n B (Lattice F Z A n v))) (Lattice F Z A n v)

  -- a larger lattice has a smaller dual
  abbrev pub DualShrinks : Type 0
  DualShrinks = (v w : ℕ → V) → Independent (module_of A) n v → Independent (module_of A) n w
      → ProperlyWithin (Lattice F Z A n v) (Lattice F Z A n w)
      → ProperlyWithin (Dual F Z A n B (Lattice F Z A n w)) (Dual F Z A n B (Lattice F Z A n v))

  -- the length of the dual over the order is less by at least two for a larger order
  abbrev pub GrowthByTwo : Type 0
  GrowthByTwo = (v w : ℕ → V) → IsOrderAt F Z A n v → IsOrderAt F Z A n w
      → ProperlyWithin (Lattice F Z A n v) (Lattice F Z A n w)
      → (k : ℕ) → LatticeChain F Z A k (Lattice F Z A n w) (Dual F Z A n B (Lattice F Z A n w))
      → LatticeChain F Z A (suc (suc k)) (Lattice F Z A n v) (Dual F Z A n B (Lattice F Z A n v))

  -- the length of the dual over a lattice of full rank is bounded
  abbrev pub LengthBounded : Type 0
  LengthBounded = (v : ℕ → V) → Independent (module_of A) n v
      → (b : ℕ) × ((k : ℕ) → LatticeChain F Z A k (Lattice F Z A n v) (Dual F Z A n B (Lattice F Z A n v)) → k ≤ b)

  -- an order with a unimodular trace form is its dual
  abbrev pub UnimodularSelfDual : Type 0
  UnimodularSelfDual = (v : ℕ → V) → IsOrderAt F Z A n v → IsUnimodular F Z A n B v
      → IsSelfDual F Z A n B (Lattice F Z A n v)

  -- an order L for which L/p·L is simple is its dual
  abbrev pub SimpleSelfDual : K → Type 0
  SimpleSelfDual p = (v : ℕ → V) → IsOrderAt F Z A n v
      → SimpleQuotient A (Lattice F Z A n v) (Multiple A p (Lattice F Z A n v))
      → IsSelfDual F Z A n B (Lattice F Z A n v)

  -- where no left order is larger, an order is its dual, or it is ramified with its radical
  abbrev pub SelfDualOrRamified : K → Type 0
  SelfDualOrRamified p = (v : ℕ → V) → IsOrderAt F Z A n v → NothingGrows F Z A p (Lattice F Z A n v)
      → (w : ℕ → V) → Independent (module_of A) n w → Radical A p (Lattice F Z A n v) (Lattice F Z A n w)
      → (Lattice F Z A n w A.one → ⊥)
      → IsSelfDual F Z A n B (Lattice F Z A n v) ⊎ IsRamified F Z p A n v w
