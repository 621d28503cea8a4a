-- The conditions on an ideal of an order at a finite place, by its image in the order modulo the place as the calls
-- answer it.
use Rattle.std.specs.Prelude.{ℕ, List}
use Rattle.std.proofs.Common.{sym, subst}
use Rattle.theory_rings.specs.Ops.{Ops, FieldLaws}
use Rattle.theory_remainders.proofs.RemainderField.{remainder_laws}
use Rattle.theory_tables.specs.Matrix.{IsMatrix}
use Rattle.theory_tables.specs.Structure.{Structure, IsOver, IsAssociative}
use Rattle.theory_fractions.specs.Fraction.{Pair}
use Rattle.theory_places.specs.Places.{Finite}
use Rattle.theory_places.specs.FractionPlaces.{IsIntegralAt, IsMonicIrreducible}
use Rattle.theory_bases.specs.TupleLattices.{AreIndependentTuples, SpanOrder}
use Rattle.theory_left_orders.specs.FractionResidues.{ResidueRingsBy}
use Rattle.theory_left_orders.proofs.FractionResidues.{residue_rings}
use Rattle.theory_growth.specs.Settled.{residues}
use Rattle.theory_ramified.specs.Conditions.{IsInside, AbsorbsProducts, HoldsMultiple}
use Rattle.theory_ramified.specs.RowConditions.{ConditionsAreOnRows, IsOrderAtPlace, IsPreimageAtPlace}
use Rattle.theory_ramified.proofs.RowConditions.{conditions_by_rows, residues_are_rows}
use Rattle.spl_field.specs.declared.small.SmallField.{SmallField}
use Rattle.spl_field.specs.SmallField.{small_ops, small_laws}
use Rattle.spl_residue.specs.declared.field.ResidueField.{ResidueField}
use Rattle.spl_residue.specs.Residue.{residue_ops}
use Rattle.spl_fraction.specs.FractionsOver.{fractions_over, fractions_laws}
use Rattle.spl_order.specs.Residues.{IsResidueAlgebra, AreProductResidues}
use Rattle.spl_order.specs.Images.{AreCoordinateResidues, IsImageOf}
use Rattle.spl_order.proofs.ProductCoordinates.{table_at_place}
use Rattle.spl_order.proofs.ImageRows.{coordinates, combinations, residue_rows, same_preimage}
use Rattle.spl_order.proofs.ResidueOperations.{over_remainders, from_remainders}

module _ (f : SmallField) (A : Structure (Pair ℕ)) (over : IsOver (fractions_over f) A)
    (assoc : IsAssociative (fractions_over f) A) (m : List ℕ) (s : IsMonicIrreducible (small_ops f) m)
    (os : List (List (Pair ℕ))) (O : SpanOrder (fractions_over f) A (IsIntegralAt (small_ops f) (Finite m)) os)
    (js : List (List (Pair ℕ))) (free : AreIndependentTuples (fractions_over f) A.dim js)
    (inside : IsInside (small_ops f) (small_laws f) A (Finite m) os js)
    (absorbs : AbsorbsProducts (small_ops f) (small_laws f) A (Finite m) os js)
    (multiple : HoldsMultiple (small_ops f) (small_laws f) A (Finite m) os js)
    (k : ResidueField) (B : Structure (List ℕ)) (C : IsResidueAlgebra f A os m k B) where
  abbrev o : Ops ℕ
  o = small_ops f

  abbrev L : FieldLaws o
  L = small_laws f

  abbrev M : FieldLaws (fractions_over f)
  M = fractions_laws f

  abbrev r : Ops (List ℕ)
  r = residues o L M m s

  abbrev N : FieldLaws r
  N = remainder_laws o L m s.irreducible

  R : ResidueRingsBy o L M m r N
  R = residue_rings o L M m s N

  -- by rows with the residues of the coordinates of js
  at_place : IsOrderAtPlace o L M m s N R A os B.constants
  at_place = record {
    order = O;
    table = table_at_place o L M m s N R A os B.constants
        (over_remainders f A os m s k B C (λ r D. AreProductResidues o L m r A os D.constants) C.products) O;
  }

  preimage_of_residues : (rows : List (List (List ℕ))) → AreCoordinateResidues o L m r A.dim os js rows
      → IsPreimageAtPlace o L M m s N R A os rows js
  preimage_of_residues rows H =
      residues_are_rows o L M m s N R A over assoc os B.constants at_place js multiple rows H.shape (record {
        coordinates = coordinates o L M m s N R A os js free.count free.shape O.basis inside rows H;
        combinations = combinations o L M m s N R A os js free.count free.shape O.basis inside rows H;
        each = residue_rows o L M m s N R A os js free.count free.shape O.basis inside rows H;
      })

  on_remainders : (rows : List (List (List ℕ))) → IsMatrix r A.dim rows → IsImageOf o L m r A.dim os js rows
      → ConditionsAreOnRows o L A m os js r (record { dim = A.dim; constants = B.constants }) rows
  on_remainders rows shape I =
      let p = preimage_of_residues I.rows I.residues in
      conditions_by_rows o L M m s N R A over assoc os B.constants at_place js
      (record { shape = free.shape; inside = inside; absorbs = absorbs; over = multiple }) rows shape (
        λ x h. p.0 x (same_preimage o L M m s N R A os rows I.rows I.spans x h),
        λ x h. same_preimage o L M m s N R A os I.rows rows
            (λ v t. let e = I.spans v t in (e.1, e.0)) x (p.1 x h),
      )

  -- by the rows of the image
  pub on_image : (rows : List (List (List ℕ))) → IsMatrix (residue_ops k) B.dim rows
      → IsImageOf o L m (residue_ops k) A.dim os js rows → ConditionsAreOnRows o L A m os js (residue_ops k) B rows
  on_image rows shape I =
      from_remainders f A os m s k B C (λ r D. ConditionsAreOnRows o L A m os js r D rows)
      (on_remainders rows (over_remainders f A os m s k B C (λ r D. IsMatrix r D.dim rows) shape)
      (over_remainders f A os m s k B C (λ r D. IsImageOf o L m r D.dim os js rows)
      (subst (λ n. IsImageOf o L m (residue_ops k) n os js rows) (sym C.dim) I)))
