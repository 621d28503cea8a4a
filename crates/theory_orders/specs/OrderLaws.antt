-- Statements on the quotient of an order by an ideal.
use Rattle.std.specs.Prelude.{ℕ}
use Rattle.theory_rings.specs.Ring.{FieldOn}
use Rattle.theory_spaces.specs.Module.{AlgebraOn, module_of}
use Rattle.theory_spaces.specs.Linear.{Independent}
use Rattle.theory_spaces.specs.Valuation.{ValuationOn}
use Rattle.theory_orders.specs.Orders.{IsOrder, IsIdeal, Power, Multiple, LeftOrder, Within, Same, Radical}
use Rattle.theory_orders.specs.Orders.{SimpleQuotient, SimpleByElements}
use Rattle.theory_orders.specs.Lattices.{Lattice, IsOrderAt}

module _ {K V : Type 0} (F : FieldOn K) (Z : ValuationOn F) (A : AlgebraOn F.ring V) where
  -- of an order and an ideal that are lattices, a quotient that is simple by tests is simple by elements
  abbrev pub SimpleToElements : Type 0
  SimpleToElements = (n : ℕ) (v : ℕ → V) → IsOrder A (Lattice F Z A n v)
      → (m : ℕ) (w : ℕ → V) → IsIdeal A (Lattice F Z A n v) (Lattice F Z A m w)
      → SimpleQuotient A (Lattice F Z A n v) (Lattice F Z A m w)
      → SimpleByElements A (Lattice F Z A n v) (Lattice F Z A m w)

  -- and the other way
  abbrev pub SimpleToTests : Type 0
  SimpleToTests = (n : ℕ) (v : ℕ → V) → IsOrder A (Lattice F Z A n v) → (m : ℕ) (w : ℕ → V)
      → SimpleByElements A (Lattice F Z A n v) (Lattice F Z A m w)
      → SimpleQuotient A (Lattice F Z A n v) (Lattice F Z A m w)

  -- an ideal over p·L with a power in p·L and a simple quotient is the radical
  abbrev pub RadicalOfSimple : K → Type 0
  RadicalOfSimple p = (n : ℕ) (v : ℕ → V) → IsOrder A (Lattice F Z A n v)
      → (m : ℕ) (w : ℕ → V) → IsIdeal A (Lattice F Z A n v) (Lattice F Z A m w)
      → Within (Multiple A p (Lattice F Z A n v)) (Lattice F Z A m w)
      → (e : ℕ) → Within (Power A (Lattice F Z A m w) e) (Multiple A p (Lattice F Z A n v))
      → SimpleByElements A (Lattice F Z A n v) (Lattice F Z A m w) → Radical A p (Lattice F Z A n v) (Lattice F Z A m w)

  -- the left order of an ideal over p·L, a lattice, is an order at the place
  abbrev pub LeftOrderOver : K → ℕ → Type 0
  LeftOrderOver p n = (v : ℕ → V) → IsOrderAt F Z A n v → (m : ℕ) (w : ℕ → V)
      → IsIdeal A (Lattice F Z A n v) (Lattice F Z A m w)
      → Within (Multiple A p (Lattice F Z A n v)) (Lattice F Z A m w)
      → (u : ℕ → V) × IsOrderAt F Z A n u × Same (LeftOrder A (Lattice F Z A m w)) (Lattice F Z A n u)

  -- the left order of an ideal that n independent vectors span is an order at the place
  abbrev pub LeftOrderAt : ℕ → Type 0
  LeftOrderAt n = (v w : ℕ → V) → IsOrderAt F Z A n v → Independent (module_of A) n w
      → IsIdeal A (Lattice F Z A n v) (Lattice F Z A n w)
      → (u : ℕ → V) × IsOrderAt F Z A n u × Same (LeftOrder A (Lattice F Z A n w)) (Lattice F Z A n u)
