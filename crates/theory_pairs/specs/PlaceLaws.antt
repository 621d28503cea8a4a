-- Lattices at places: an order there with a given lattice, and a lattice that is its own dual at each place at which
-- one element is a unit. (Reiner, Maximal Orders, sections 4, 8 and 25.)
use Rattle.std.specs.Prelude.{◌≡◌, ℕ}
use Rattle.theory_rings.specs.Ring.{FieldOn}
use Rattle.theory_spaces.specs.Module.{AlgebraOn, module_of}
use Rattle.theory_spaces.specs.Linear.{Basis}
use Rattle.theory_spaces.specs.Valuation.{ValuationOn}
use Rattle.theory_orders.specs.Uniformizer.{IsIntegral, IsUnit}
use Rattle.theory_orders.specs.Orders.{Same, Within}
use Rattle.theory_orders.specs.Lattices.{Lattice, IsOrderAt}
use Rattle.theory_orders.specs.Dual.{IsSelfDual}

-- n independent vectors whose lattice is an order, and that of the m vectors w
pub record OrderOnLattice {K V : Type 0} (F : FieldOn K) (Z : ValuationOn F) (A : AlgebraOn F.ring V) (n m : ℕ)
    (w : ℕ → V) : Type 0 where
  pub vec : ℕ → V
  pub is_order : IsOrderAt F Z A n vec
  pub same : Same (Lattice F Z A n vec) (Lattice F Z A m w)

-- d is in the subring and not 0, and at each valuation ring that holds the subring and in which d is a unit the lattice
-- of v is its own dual by the trace form
pub record SelfDualOutside {K V : Type 0} (F : FieldOn K) (P : K → Type 0) (A : AlgebraOn F.ring V) (n : ℕ)
    (B : Basis (module_of A) n) (v : ℕ → V) (d : K) : Type 0 where
  pub inside : P d
  pub nonzero : d ≡ F.zero → ⊥
  pub self_dual : (Z : ValuationOn F) → Within P (IsIntegral F Z) → IsUnit F Z d
      → IsSelfDual F Z A n B (Lattice F Z A n v)
