-- The radical of an order at a place, and its maximal ideals, as lattices. (Reiner, Maximal Orders, section 6.)
use Rattle.std.specs.Prelude.{ℕ}
use Rattle.theory_rings.specs.Ring.{FieldOn}
use Rattle.theory_rings.specs.Enumerated.{Enumerated}
use Rattle.theory_spaces.specs.Module.{ModuleOn, AlgebraOn}
use Rattle.theory_spaces.specs.Space.{SpaceOn}
use Rattle.theory_spaces.specs.Valuation.{ValuationOn}
use Rattle.theory_orders.specs.Orders.{Radical}
use Rattle.theory_orders.specs.Lattices.{Lattice, IsOrderAt}
use Rattle.theory_residue.specs.Residue.{ResidueOn}
use Rattle.theory_residue.specs.Semisimple.{RadicalQuotient, MaximalIdealsCounted}

-- vectors whose lattice is the radical of the order
pub record RadicalLattice {K V : Type 0} (F : FieldOn K) (Z : ValuationOn F) (p : K) (A : AlgebraOn F.ring V) (n : ℕ)
    (v : ℕ → V) : Type 0 where
  pub size : ℕ
  pub vec : ℕ → V
  pub radical : Radical A p (Lattice F Z A n v) (Lattice F Z A size vec)

-- each order has a radical, the lattice of finitely many vectors
abbrev pub OrdersHaveRadicals : {K V : Type 0} (F : FieldOn K) (Z : ValuationOn F) (p : K)
    → AlgebraOn F.ring V → ℕ → Type 0
OrdersHaveRadicals F Z p A n = (v : ℕ → _) → IsOrderAt F Z A n v → RadicalLattice F Z p A n v

-- each order has finitely many maximal ideals over p·Λ, as lattices; they are counted in the order modulo its radical,
-- an algebra over the residue field on one of the types W
abbrev pub OrdersHaveMaximalIdeals : {K E V : Type 0} (F : FieldOn K) (Z : ValuationOn F) (p : K) {q : K}
    (k : FieldOn E) (D : ResidueOn F Z q k) (A : AlgebraOn F.ring V) (n : ℕ) → Enumerated E → (ℕ → Type 0) → Type 0
OrdersHaveMaximalIdeals F Z p k D A n N W = (v : ℕ → _) → IsOrderAt F Z A n v
    → (M : (s : ℕ) → ModuleOn k.ring (W s)) → ((s : ℕ) → SpaceOn (M s) s)
    → (J : RadicalLattice F Z p A n v) × (Q : RadicalQuotient F Z p k D A n v J.size J.vec W)
    × MaximalIdealsCounted F Z p k D A n N v Q.algebra
