-- One step of growth: the left order of the preimage of an ideal of the order modulo a place, by what the calls answer.
use Rattle.std.specs.Prelude.{ℕ, List}
use Rattle.std.proofs.Common.{sym, subst}
use Rattle.theory_rings.specs.Ops.{Ops, FieldLaws}
use Rattle.theory_rings.specs.Elements.{Elem}
use Rattle.theory_spaces.specs.Sets.{Within, Multiple}
use Rattle.theory_spaces.specs.Tuples.{tuple_scale}
use Rattle.theory_spaces.proofs.Algebras.SetLemmas.{ideal_same}
use Rattle.theory_tables.specs.Matrix.{IsMatrix}
use Rattle.theory_tables.specs.Structure.{Structure, IsOver, IsAssociative, tuple_ops}
use Rattle.theory_tables.specs.Algebras.{SpansIdeal}
use Rattle.theory_fractions.specs.Fraction.{Pair}
use Rattle.theory_fractions.specs.FractionOps.{fraction_ops}
use Rattle.theory_places.specs.Places.{Finite}
use Rattle.theory_places.specs.FractionPlaces.{IsIntegralAt, IsMonicIrreducible, fractions}
use Rattle.theory_bases.specs.TupleLattices.{TupleLattice, AreIndependentTuples, SpanOrder}
use Rattle.theory_bases.specs.Bases.{BasisForm, IsPolynomialFraction}
use Rattle.theory_left_orders.specs.FractionResidues.{ResidueRingsBy}
use Rattle.theory_left_orders.specs.TupleIdeals.{Preimage}
use Rattle.theory_growth.specs.Steps.{DoesNotGrow}
use Rattle.theory_growth.specs.Settled.{residues, IsOrderModulo}
use Rattle.theory_growth.specs.Growths.{PolynomialLattice, IsStep}
use Rattle.theory_growth.proofs.Localized.{order_of}
use Rattle.theory_growth.proofs.FractionPlaces.{localizes, residues_agree}
use Rattle.theory_growth.proofs.Elsewhere.{left_orders_are_steps}
use Rattle.spl_field.specs.declared.small.SmallField.{SmallField}
use Rattle.spl_field.specs.SmallField.{small_ops, small_laws}
use Rattle.spl_residue.specs.declared.field.ResidueField.{ResidueField}
use Rattle.spl_residue.specs.Residue.{residue_ops}
use Rattle.spl_fraction.specs.FractionsOver.{fractions_over}
use Rattle.spl_order.specs.LeftOrders.{SpansIdealOver, SpansLeftOrder}
use Rattle.spl_order.specs.Residues.{AreProductResidues, ArePreimages, IsResidueAlgebra, LiftsIdeal}
use Rattle.spl_order.proofs.ProductCoordinates.{table_of_polynomials}
use Rattle.spl_order.proofs.ResidueOperations.{over_remainders}
use Rattle.spl_local.specs.Growth.{small_tuples}

module _ {E : Type 0} (o : Ops E) (L : FieldLaws o) (m : List E) (s : IsMonicIrreducible o m)
    (M : FieldLaws (fraction_ops o L)) (N : FieldLaws (residues o L M m s))
    (R : ResidueRingsBy o L M m (residues o L M m s) N)
    (A : Structure (Pair E)) (over : IsOver (fraction_ops o L) A) (assoc : IsAssociative (fraction_ops o L) A)
    (tuples : List (List (Pair E))) (O : SpanOrder (fraction_ops o L) A (IsPolynomialFraction o) tuples) where
  abbrev k : Ops (Pair E)
  k = fraction_ops o L

  abbrev r : Ops (List E)
  r = residues o L M m s

  abbrev q : Elem k
  q = let K = fractions o L M in K.inv R.p

  -- the tuples span an order at the place too
  pub order_at_place : SpanOrder k A (IsIntegralAt o (Finite m)) tuples
  order_at_place = record {
    basis = O.basis;
    one = O.one;
    is_one = O.is_one;
    order = order_of k M (IsPolynomialFraction o) (IsIntegralAt o (Finite m)) R.p q r N R.polynomials R.at_place
        (localizes o L M m s) (residues_agree o L M m s N R) A over assoc O.one O.is_one tuples
        (let b = O.basis in b.shape) O.order;
  }

  module _ (cs : List (List E)) (rows : List (List (List E))) (ideal : List (List (Pair E)))
      (H : ArePreimages o L m s A tuples cs rows ideal) where
    -- the preimage is an ideal over the multiples by m, at the place and over the polynomials
    pub ideal_at_place : SpansIdealOver o L (IsIntegralAt o (Finite m)) A m tuples ideal
    ideal_at_place =
        let P : Pair E → Type 0 = IsIntegralAt o (Finite m) in
        let T : List (List (Pair E)) → List (Pair E) → Type 0 = TupleLattice k P A.dim in
        let pre = H.at_place M N R order_at_place in
        record {
          is_order = order_at_place;
          is_ideal = ideal_same (tuple_ops k A) (T tuples) (Preimage k M P R.p q r N R.at_place A tuples rows) (T ideal)
              pre.lattice pre.ideal;
          over = subst (λ c. Within (Multiple (tuple_ops k A) (tuple_scale k A.dim) c (T tuples)) (T ideal)) R.p_is
              (λ x w. pre.lattice.0 x (pre.over x w));
        }

    pub ideal_over_polynomials : SpansIdealOver o L (IsPolynomialFraction o) A m tuples ideal
    ideal_over_polynomials =
        let P : Pair E → Type 0 = IsPolynomialFraction o in
        let T : List (List (Pair E)) → List (Pair E) → Type 0 = TupleLattice k P A.dim in
        let pre = H.polynomials M N R O in
        record {
          is_order = O;
          is_ideal = ideal_same (tuple_ops k A) (T tuples) (Preimage k M P R.p q r N R.polynomials A tuples rows)
              (T ideal) pre.lattice pre.ideal;
          over = subst (λ c. Within (Multiple (tuple_ops k A) (tuple_scale k A.dim) c (T tuples)) (T ideal)) R.p_is
              (λ x w. pre.lattice.0 x (pre.over x w));
        }

    module _ (independent : AreIndependentTuples k A.dim ideal) (out : List (List (Pair E)))
        (left : SpansIdealOver o L (IsPolynomialFraction o) A m tuples ideal
        → SpansLeftOrder o L (IsPolynomialFraction o) A ideal out) where
      -- its left order is a step
      pub is_step : AreProductResidues o L m r A tuples cs → AreIndependentTuples k A.dim out
          → IsStep o L A m tuples out
      is_step products out-independent =
          let D : IsOrderModulo o L M m s N R A tuples cs = record {
            order = O;
            table = table_of_polynomials o L M m s N R A tuples cs products O;
          } in
          left_orders_are_steps o L M m s N R A over assoc tuples cs D rows ideal out independent
          (H.polynomials M N R O) out-independent (left ideal_over_polynomials)

      -- where it lies in the order, nothing grows by the rows
      pub does_not_grow : IsMatrix r A.dim rows → Within (PolynomialLattice o L A out) (PolynomialLattice o L A tuples)
          → DoesNotGrow k M (IsPolynomialFraction o) R.p q r N R.polynomials A tuples rows
      does_not_grow shape w =
          let pre = H.polynomials M N R O in
          record {
            matrix = shape;
            ideal = ideal;
            shape = independent.shape;
            preimage = pre.lattice;
            left_order = λ x h. w x ((left ideal_over_polynomials).0 x h);
          }

-- what is said of the algebra B over the residue field k, over the remainders by m
module _ (f : SmallField) (m : List ℕ) (s : IsMonicIrreducible (small_ops f) m) (M : FieldLaws (fractions_over f))
    (A : Structure (Pair ℕ)) (order : BasisForm ℕ) (k : ResidueField) (B : Structure (List ℕ))
    (C : IsResidueAlgebra f A (small_tuples f order) m k B) where
  pub products_are : AreProductResidues (small_ops f) (small_laws f) m (residues (small_ops f) (small_laws f) M m s) A
      (small_tuples f order) B.constants
  products_are = over_remainders f A (small_tuples f order) m s k B C
      (λ r D. AreProductResidues (small_ops f) (small_laws f) m r A (small_tuples f order) D.constants) C.products

  pub shape_is : (rows : List (List (List ℕ))) → SpansIdeal (residue_ops k) B rows
      → IsMatrix (residues (small_ops f) (small_laws f) M m s) A.dim rows
  shape_is rows h =
      let i : SpansIdeal (residues (small_ops f) (small_laws f) M m s) (record { dim = A.dim; constants = B.constants })
      rows = over_remainders f A (small_tuples f order) m s k B C (λ r D. SpansIdeal r D rows) h in i.shape

  pub preimages_are : IsOver (fractions_over f) A → IsAssociative (fractions_over f) A → (rows : List (List (List ℕ)))
      (out : BasisForm ℕ) → LiftsIdeal f order k B rows out
      → ArePreimages (small_ops f) (small_laws f) m s A (small_tuples f order) B.constants rows (small_tuples f out)
  preimages_are over assoc rows out h =
      let F = C.field in
      let T = small_tuples f order in
      subst (λ p. (t : IsMonicIrreducible (small_ops f) p)
      → ArePreimages (small_ops f) (small_laws f) p t A T B.constants rows (small_tuples f out)) F.polynomial
      (h A over assoc (subst (λ p. IsResidueAlgebra f A T p k B) (sym F.polynomial) C)) s
