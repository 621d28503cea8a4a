-- What an order is at a place where no ideal of the order modulo the place grows, by what the calls answer.
use Rattle.std.specs.Prelude.{◌≡◌, ◌≢◌, ◌%◌, ℕ, List, [], length}
use Rattle.std.specs.List.{All}
use Rattle.std.proofs.Common.{sym, ap, subst, arith}
use Rattle.std.proofs.lemmas.List.Elements.{All-from_get_or}
use Rattle.std.proofs.lemmas.Nat.Gcd.{mod-eq-zero_of_dvd}
use Rattle.theory_rings.specs.Ops.{Ops, FieldLaws}
use Rattle.theory_remainders.proofs.RemainderField.{remainder_laws}
use Rattle.theory_chains.specs.Radical.{SpansRadical}
use Rattle.theory_tables.specs.Subspace.{Rows, IsReducedBasis, IsSubspace}
use Rattle.theory_tables.specs.Structure.{Structure, IsOver, IsAssociative}
use Rattle.theory_tables.specs.Algebras.{HasSmallCentre, SpansIdeal, AreZero}
use Rattle.theory_fractions.specs.Fraction.{Pair}
use Rattle.theory_places.specs.Places.{Finite}
use Rattle.theory_places.specs.FractionPlaces.{IsMonicIrreducible, RamifiedAtPlace}
use Rattle.theory_bases.specs.TupleLattices.{SpanOrder}
use Rattle.theory_bases.specs.Bases.{BasisForm, IsBasis, IsPolynomialFraction}
use Rattle.theory_left_orders.specs.FractionResidues.{ResidueRingsBy}
use Rattle.theory_left_orders.proofs.FractionResidues.{residue_rings}
use Rattle.theory_growth.specs.Settled.{residues, IsOrderModulo, IsRadicalBy, NothingGrowsBy, IsSettled}
use Rattle.theory_growth.proofs.Settled.{settled_where_nothing_grows}
use Rattle.spl_field.specs.declared.small.SmallField.{SmallField}
use Rattle.spl_field.specs.SmallField.{small_ops, small_laws, characteristic}
use Rattle.spl_residue.specs.declared.field.ResidueField.{ResidueField}
use Rattle.spl_residue.specs.Residue.{residue_ops}
use Rattle.spl_fraction.specs.FractionsOver.{fractions_over, fractions_laws}
use Rattle.spl_blocks.specs.Blocks.{AreMaximalIdeals, rows_at}
use Rattle.spl_blocks.proofs.Residues.{small_prime, small_char}
use Rattle.spl_order.specs.Residues.{ArePreimages, IsResidueAlgebra, LiftsIdeal}
use Rattle.spl_order.proofs.ImageRows.{no_rows}
use Rattle.spl_order.proofs.ProductCoordinates.{table_of_polynomials}
use Rattle.spl_order.proofs.ResidueOperations.{over_remainders}
use Rattle.spl_local.specs.declared.settle.State.{State}
use Rattle.spl_local.specs.declared.settle.State.TheVariants.{Unimodular, Ramified}
use Rattle.spl_local.specs.Growth.{small_tuples, DoesNotGrowBy, IsState, IsStateBy}
use Rattle.spl_local.proofs.Growth.{products_are, preimages_are}

-- the maximal ideals are ideals
pub ideals_are : {E : Type 0} (o : Ops E) (B : Structure E) (items : List (Rows E)) → AreMaximalIdeals o B items
    → All (λ (s : Rows E). SpansIdeal o B s.rows) items
ideals_are o B items G =
    All-from_get_or (λ (s : Rows _). SpansIdeal o B s.rows) items (record { width = B.dim; rows = [] })
    (λ i l. let h = G.maximal i l in record { shape = h.shape; ideal = (let x = h.maximal in x.ideal) })

module _ (f : SmallField) (A : Structure (Pair ℕ)) (over : IsOver (fractions_over f) A)
    (assoc : IsAssociative (fractions_over f) A) (centre : HasSmallCentre (fractions_over f) A)
    (apart : A.dim % characteristic f ≢ 0) (m : List ℕ) (s : IsMonicIrreducible (small_ops f) m)
    (order : BasisForm ℕ)
    (O : SpanOrder (fractions_over f) A (IsPolynomialFraction (small_ops f)) (small_tuples f order))
    (k : ResidueField) (B : Structure (List ℕ)) (C : IsResidueAlgebra f A (small_tuples f order) m k B)
    (radical : Rows (List ℕ)) (sub : IsSubspace (residue_ops k) radical) (width : radical.width ≡ B.dim)
    (J : SpansRadical (residue_ops k) B radical.rows)
    (items : List (Rows (List ℕ))) (G : AreMaximalIdeals (residue_ops k) B items)
    (none : All (λ (s : Rows (List ℕ)). DoesNotGrowBy f A m order s.rows) items)
    (preimage : BasisForm ℕ) (basis : IsBasis (small_ops f) (small_laws f) B.dim preimage)
    (lifts : LiftsIdeal f order k B radical.rows preimage) where
  abbrev o : Ops ℕ
  o = small_ops f

  abbrev L : FieldLaws o
  L = small_laws f

  abbrev M : FieldLaws (fractions_over f)
  M = fractions_laws f

  abbrev r : Ops (List ℕ)
  r = residues o L M m s

  abbrev N : FieldLaws r
  N = remainder_laws o L m s.irreducible

  abbrev R : ResidueRingsBy o L M m r N
  R = residue_rings o L M m s N

  abbrev T : List (List (Pair ℕ))
  T = small_tuples f order

  abbrev D : Structure (List ℕ)
  D = record { dim = A.dim; constants = B.constants }

  basis_here : IsBasis o L A.dim preimage
  basis_here = subst (λ n. IsBasis o L n preimage) C.dim basis

  reduced_here : IsReducedBasis r A.dim radical.rows
  reduced_here = over_remainders f A T m s k B C (λ r D. IsReducedBasis r D.dim radical.rows)
      (subst (λ n. IsReducedBasis (residue_ops k) n radical.rows) width sub)

  modulo : IsOrderModulo o L M m s N R A T B.constants
  modulo = record {
    order = O;
    table = table_of_polynomials o L M m s N R A T B.constants (products_are f m s M A order k B C) O;
  }

  nothing_grows : NothingGrowsBy o L M m s N R A T B.constants (length items) (rows_at r D items)
  nothing_grows =
      let G' = over_remainders f A T m s k B C (λ r D. AreMaximalIdeals r D items) G in
      record {
        complete = λ a shape maximal. G'.complete a (record { shape = shape; maximal = maximal });
        each = λ i l. none i (record { width = A.dim; rows = [] }) l M s N R;
      }

  radical_by : IsRadicalBy o L M m s N R A T B.constants radical.rows (small_tuples f preimage)
  radical_by =
      let h : ArePreimages o L m s A T B.constants radical.rows (small_tuples f preimage) =
      preimages_are f m s M A order k B C over assoc radical.rows preimage lifts in
      let p = h.polynomials M N R O in
      record {
        radical = over_remainders f A T m s k B C (λ r D. SpansRadical r D radical.rows) J;
        independent = basis_here.independent;
        preimage = p.lattice;
      }

  settled : IsSettled o L M m s N R A T B.constants radical.rows (small_tuples f preimage)
  settled = settled_where_nothing_grows o L M m s N R A over assoc centre (characteristic f) (small_prime f)
      (small_char f) (λ d. apart (mod-eq-zero_of_dvd (characteristic f) d)) T B.constants modulo (length items)
      (rows_at r D items) nothing_grows radical.rows (small_tuples f preimage) radical_by

  nil_of_zero : AreZero r D radical.rows → radical.rows ≡ []
  nil_of_zero = no_rows r N A.dim radical.rows reduced_here

  zero_of_nil : radical.rows ≡ [] → AreZero r D radical.rows
  zero_of_nil e i l = let n : length radical.rows ≡ 0 = ap length e in absurd (omega (arith, l, n))

  pub is_state : (state : State) → IsStateBy radical.rows preimage state → IsState f A m order state
  is_state Unimodular e = settled.unimodular (zero_of_nil e)
  is_state (Ramified j) h = record {
    not_dual = λ d. h.0 (nil_of_zero (settled.only d));
    basis = subst (IsBasis o L A.dim) (sym h.1) basis_here;
    ramified = subst (λ (b : BasisForm ℕ). RamifiedAtPlace o L M A (Finite m) T (small_tuples f b)) (sym h.1)
        (settled.ramified (λ z. h.0 (nil_of_zero z)));
  }
