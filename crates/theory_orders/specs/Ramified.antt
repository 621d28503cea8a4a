-- Ramified places: an order with a simple quotient by its radical, whose left order it is, and which is not p times it.
-- (Reiner, Maximal Orders, section 39.)
use Rattle.std.specs.Prelude.{ℕ}
use Rattle.theory_rings.specs.Ring.{FieldOn}
use Rattle.theory_spaces.specs.Module.{AlgebraOn, module_of}
use Rattle.theory_spaces.specs.Linear.{Independent}
use Rattle.theory_spaces.specs.Valuation.{ValuationOn}
use Rattle.theory_orders.specs.Orders.{Within, Same, Multiple, Radical, LeftOrder, SimpleQuotient}
use Rattle.theory_orders.specs.Lattices.{Lattice, IsOrderAt}

module _ {K V : Type 0} (F : FieldOn K) (Z : ValuationOn F) (p : K) (A : AlgebraOn F.ring V) (n : ℕ) where
  -- n vectors each for the order and its radical
  pub record IsRamified (os js : ℕ → V) : Type 0 where
    pub order : IsOrderAt F Z A n os
    pub independent : Independent (module_of A) n js
    pub radical : Radical A p (Lattice F Z A n os) (Lattice F Z A n js)
    pub simple : SimpleQuotient A (Lattice F Z A n os) (Lattice F Z A n js)
    pub left_order : Same (LeftOrder A (Lattice F Z A n js)) (Lattice F Z A n os)
    pub not_multiple : Within (Lattice F Z A n js) (Multiple A p (Lattice F Z A n os)) → ⊥
