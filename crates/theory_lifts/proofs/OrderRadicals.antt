-- The radical of an order at a place is a lattice, where each algebra over the residue field has a radical that is a
-- span; and where that field is finite, the maximal ideals over p·Λ are finitely many lattices.
use Rattle.std.specs.Prelude.{◌≡◌, ℕ, ◌^◌}
use Rattle.theory_rings.specs.Ring.{FieldOn}
use Rattle.theory_rings.specs.Prime.{IsPrime}
use Rattle.theory_rings.specs.Power.{times}
use Rattle.theory_rings.specs.Enumerated.{Enumerated}
use Rattle.theory_spaces.specs.Module.{AlgebraOn, module_of}
use Rattle.theory_spaces.specs.Linear.{Basis}
use Rattle.theory_spaces.specs.Valuation.{ValuationOn}
use Rattle.theory_orders.specs.Uniformizer.{UniformizerOn}
use Rattle.theory_orders.proofs.Lattices.Columns.{Column, columns, column_space}
use Rattle.theory_residue.specs.Residue.{ResidueOn, ResidueAlgebra}
use Rattle.theory_residue.proofs.Laws.{residue_algebra_exists, ideals_correspond}
use Rattle.theory_residue.proofs.RadicalLaws.{radical_quotient_exists}
use Rattle.theory_residue.proofs.Counted.{maximal_ideals_are_counted}
use Rattle.theory_lifts.specs.RadicalSpan.{RadicalBasis}
use Rattle.theory_lifts.specs.OrderRadical.{OrdersHaveRadicals, OrdersHaveMaximalIdeals}
use Rattle.theory_orders.specs.Lattices.{IsOrderAt}

module _ {K E V : Type 0} (F : FieldOn K) (Z : ValuationOn F) (p q : K) (U : UniformizerOn F Z p q) (k : FieldOn E)
    (D : ResidueOn F Z q k)
    (A : AlgebraOn F.ring V) (n : ℕ) (b : Basis (module_of A) n)
    (radical : (B : AlgebraOn k.ring (Column k n)) → Basis (module_of B) n → RadicalBasis B) where
  residue_algebra_of : (v : ℕ → V) → IsOrderAt F Z A n v → ResidueAlgebra F Z p k D A n v (Column k n)
  residue_algebra_of v o = residue_algebra_exists F Z p q U k D A n b (Column k n) v o (columns k n) (column_space k n)

  pub orders_have_radicals : OrdersHaveRadicals F Z p A n
  orders_have_radicals v o =
      let X = residue_algebra_of v o in
      let R = radical X.algebra X.basis in
      let C = ideals_correspond F Z p q U k D A n b (Column k n) v o X.algebra X.basis X.reduction in
      let s = C.spans R.size R.vec R.radical.nilpotent.ideal in
      record { size = s.size; vec = s.vec; radical = s.radical.0 R.radical }

  pub orders_have_maximal_ideals : (N : Enumerated E) (c i : ℕ)
      → IsPrime c → times k.monoid c k.one ≡ k.zero → N.size ≡ c ^ i
      → (W : ℕ → Type 0) → OrdersHaveMaximalIdeals F Z p k D A n N W
  orders_have_maximal_ideals N c i prime char size W = λ v o M S.
      let X = residue_algebra_of v o in
      let r = orders_have_radicals v o in
      let Q = radical_quotient_exists F Z p q U k D A n b (Column k n) W v o X.algebra X.basis X.reduction
      r.size r.vec r.radical M S in
      (r, Q, maximal_ideals_are_counted F Z p q k D A n W N c i prime char size v o r.size r.vec r.radical Q)
