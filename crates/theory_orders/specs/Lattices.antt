-- Lattices and orders at a place, by vectors that span them. (Reiner, Maximal Orders, sections 4 and 8.)
use Rattle.std.specs.Prelude.{ℕ, suc, ◌<◌}
use Rattle.theory_rings.specs.Ring.{FieldOn}
use Rattle.theory_spaces.specs.Module.{AlgebraOn, module_of}
use Rattle.theory_spaces.specs.Linear.{Independent}
use Rattle.theory_spaces.specs.Lattice.{LatticeOver}
use Rattle.theory_spaces.specs.Valuation.{ValuationOn, IsIntegral}
use Rattle.theory_orders.specs.Orders.{IsOrder, Within, Same, ProperlyWithin, IsMaximalIdeal, LeftOrder}

module _ {K V : Type 0} (F : FieldOn K) (Z : ValuationOn F) (A : AlgebraOn F.ring V) where
  -- the combinations of v 0, .., v (n − 1) with integral weights
  abbrev pub Lattice : ℕ → (ℕ → V) → V → Type 0
  Lattice = LatticeOver (module_of A) (IsIntegral F Z)

  -- n independent vectors span an order
  pub record IsOrderAt (n : ℕ) (v : ℕ → V) : Type 0 where
    pub independent : Independent (module_of A) n v
    pub order : IsOrder A (Lattice n v)

  -- no maximal ideal over p·L has a left order that is larger than L
  abbrev pub NothingGrows : K → (V → Type 0) → Type 0
  NothingGrows p L = (n : ℕ) (g : ℕ → V) → IsMaximalIdeal A p L (Lattice n g) → Within (LeftOrder A (Lattice n g)) L

  -- lattices from I to J, each properly in the next, in k steps; the length of J over I is the greatest such k
  pub record LatticeChain (k : ℕ) (I J : V → Type 0) : Type 0 where
    pub size : ℕ → ℕ
    pub vec : ℕ → ℕ → V
    pub starts : Same (Lattice (size 0) (vec 0)) I
    pub ends : Same (Lattice (size k) (vec k)) J
    pub rises : (i : ℕ) → i < k → ProperlyWithin (Lattice (size i) (vec i)) (Lattice (size (suc i)) (vec (suc i)))
