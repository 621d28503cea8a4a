-- The order of a ramified place is a maximal order.
use Rattle.std.specs.Prelude.{ℕ}
use Rattle.std.proofs.Common.{◌∙◌, ⊎_elim}
use Rattle.theory_rings.specs.Ring.{FieldOn}
use Rattle.theory_spaces.specs.Module.{ModuleOn, AlgebraOn, module_of}
use Rattle.theory_spaces.specs.Linear.{Basis}
use Rattle.theory_spaces.specs.Valuation.{ValuationOn}
use Rattle.theory_spaces.proofs.Linear.Spaces.{coords_of}
use Rattle.theory_orders.specs.Uniformizer.{UniformizerOn}
use Rattle.theory_orders.specs.Orders.{IsOrder, Within}
use Rattle.theory_orders.specs.Lattices.{Lattice}
use Rattle.theory_orders.specs.Ramified.{IsRamified}
use Rattle.theory_orders.proofs.Lattices.Multiples.{uniform, up}
use Rattle.theory_spaces.proofs.Linear.LatticeTests.{lattice_within}
use Rattle.theory_orders.proofs.LeftOrder.HereditaryOrders.{maximal}
use Rattle.theory_orders.proofs.Splitting.Ramified.{spanning, hereditary}
use Rattle.theory_orders.proofs.Lattices.Scaling.{Low, Low_sub, Low_more, lowered}
use Rattle.theory_spaces.proofs.Linear.LatticeSpans.{lattice_in}

module _ {K V : Type 0} (F : FieldOn K) (Z : ValuationOn F) (p q : K) (U : UniformizerOn F Z p q)
    (A : AlgebraOn F.ring V) (n : ℕ) (B : Basis (module_of A) n) (os js : ℕ → V) (R : IsRamified F Z p A n os js) where
  infixl 70 ◌•◌
  open A use {◌•◌}

  abbrev L : V → Type 0
  L = Lattice F Z A n os

  abbrev O : IsOrder A L
  O = R.order.order

  pub maximal_order : (m : ℕ) (v : ℕ → V) → IsOrder A (Lattice F Z A m v) → Within L (Lattice F Z A m v)
      → Within (Lattice F Z A m v) L
  maximal_order m v G over =
      let M : ModuleOn F.ring V = module_of A in
      let Lo : ℕ → V → Type 0 = Low F Z p q U A n os in
      let u = uniform (λ s i. Lo s (v i)) (λ s t i. Low_more F Z p q U A n os s t (v i)) m
      (λ i l. lowered F Z p q U A n os (spanning F A n B os R.order.independent) (v i)) in
      let bounded : (x : V) → Lattice F Z A m v x → L (up A p u.0 x) = λ x.
      lattice_in F Z M (Lo u.0) (Low_sub F Z p q U A n os u.0) m v u.1 x in
      ⊎_elim (λ h. h)
      (λ (out : Within (Lattice F Z A m v) L → ⊥). absurd
      (maximal A p q U.pq (F.mul_comm q p ∙ U.pq) L (Lattice F Z A n js)
      (hereditary F A n B Z p os js R) (Lattice F Z A m v) G over u.0 bounded out))
      (lattice_within F Z M n (coords_of M n B) m v n os)
