-- A ramified place excludes an isomorphism to the algebra of all matrices.
use Rattle.std.specs.Prelude.{◌≡◌, ℕ, suc, ◌<◌}
use Rattle.std.proofs.Common.{refl, sym, ◌∙◌}
use Rattle.theory_rings.specs.Ring.{FieldOn}
use Rattle.theory_rings.proofs.Rings.Fields.{field_set}
use Rattle.theory_spaces.specs.Module.{ModuleOn, AlgebraOn, module_of}
use Rattle.theory_spaces.specs.Linear.{InSpan, Independent, Basis}
use Rattle.theory_spaces.specs.Space.{SpaceOn}
use Rattle.theory_spaces.specs.Matrix.{Matrix, Mat}
use Rattle.theory_spaces.specs.Valuation.{ValuationOn}
use Rattle.theory_spaces.specs.AlgebraMap.{IsAlgebraIso}
use Rattle.theory_spaces.specs.MatrixAlgebra.{IsMatrixAlgebra}
use Rattle.theory_spaces.proofs.Linear.Spaces.{coords_of, full_span}
use Rattle.theory_spaces.proofs.Matrices.Matrices.{delta-same}
use Rattle.theory_spaces.proofs.Tuples.Tables.{unit, coord-unit, space_basis, space_basis-coord}
use Rattle.theory_orders.specs.Uniformizer.{UniformizerOn}
use Rattle.theory_orders.specs.Lattices.{Lattice}
use Rattle.theory_orders.specs.Ramified.{IsRamified}
use Rattle.theory_orders.proofs.Splitting.Chains.{chain_in_power}
use Rattle.theory_orders.proofs.LeftOrder.HereditaryOrders.{Hereditary}
use Rattle.theory_orders.proofs.Ideals.SimpleQuotients.{simple_by_elements}
use Rattle.theory_orders.proofs.Splitting.LinearMaps.{not_split}
use Rattle.theory_orders.proofs.Lattices.Columns.{Column, columns, column_space}
use Rattle.theory_orders.proofs.Splitting.MatrixReps.{IsMatrixRep, matrix_action, rep_of_iso}

module _ {K V : Type 0} (F : FieldOn K) (A : AlgebraOn F.ring V) (N : ℕ) (B : Basis (module_of A) N) where
  infixl 70 ◌•◌
  open A use {◌•◌}

  -- as many independent vectors as a basis has span
  pub spanning : (v : ℕ → V) → Independent (module_of A) N v → (x : V) → InSpan (module_of A) N v x
  spanning v h x = full_span F (module_of A) N (coords_of (module_of A) N B) N B.vec v
      (λ y. record { weights = B.coord y; combines = B.expand y }) h x

  module _ (Z : ValuationOn F) (p : K) (os js : ℕ → V) (D : IsRamified F Z p A N os js) where
    abbrev L : V → Type 0
    L = Lattice F Z A N os

    abbrev J : V → Type 0
    J = Lattice F Z A N js

    pub hereditary : Hereditary A p L J
    hereditary = record {
      order = D.order.order;
      ideal = D.radical.ideal;
      over = λ x l. D.radical.over (p • x) (x, l, refl);
      exponent = suc D.radical.exponent;
      falls = λ x c. D.radical.falls x (chain_in_power A L D.order.order J D.radical.ideal D.radical.exponent x c);
      simple = simple_by_elements F Z A N
          (coords_of (module_of A) N B) N os N js D.order.order D.radical.ideal D.simple;
      left_order = λ a h. D.left_order.0 a h;
    }

    module _ (q : K) (U : UniformizerOn F Z p q) (n : ℕ) (positive : 0 < n) where
      pub not_represented : (rep : V → Matrix K) → IsMatrixRep F A n rep → ⊥
      not_represented rep P =
          let M : ModuleOn F.ring (Column F n) = columns F n in
          let S : SpaceOn M n = column_space F n in
          let e : Column F n = unit M n S 0 in
          let one_there : (space_basis M n S).coord e 0 ≡ F.one = space_basis-coord M n S e 0 positive
          ∙ coord-unit M n S 0 0 positive ∙ delta-same F.ring 0 in
          not_split F Z p q U A M (matrix_action F A n rep P M S) n (coords_of M n (space_basis M n S)) e 0
          (λ z. F.one-nonzero (sym one_there ∙ z))
          N os (spanning os D.order.independent) J hereditary D.not_multiple

      pub not_isomorphic : (B : AlgebraOn F.ring (Mat F.ring n)) → IsMatrixAlgebra F.ring n B → (f : V → Mat F.ring n)
          → IsAlgebraIso A B f → ⊥
      not_isomorphic B H f iso = not_represented (λ a. (f a).0) (rep_of_iso F (field_set F) A n B H f iso)
