-- Growth of an order over the polynomials at one finite place until nothing grows. (Reiner, Maximal Orders, sections 25
-- and 39.)
use Rattle.std.specs.Prelude.{◌≡◌, ◌≢◌, ℕ, List, []}
use Rattle.theory_rings.specs.Ops.{FieldLaws}
use Rattle.theory_spaces.specs.Sets.{Within}
use Rattle.theory_tables.specs.Structure.{Structure}
use Rattle.theory_fractions.specs.Fraction.{Pair}
use Rattle.theory_places.specs.Places.{Finite}
use Rattle.theory_places.specs.FractionPlaces.{IsIntegralAt, IsMonicIrreducible, RamifiedAtPlace, fractions}
use Rattle.theory_bases.specs.TupleLattices.{SpanOrder, IsTraceDualOfItself}
use Rattle.theory_bases.specs.Bases.{BasisForm, IsBasis, IsPolynomialFraction, tuples_of}
use Rattle.theory_left_orders.specs.FractionResidues.{ResidueRingsBy}
use Rattle.theory_growth.specs.Steps.{DoesNotGrow}
use Rattle.theory_growth.specs.Settled.{residues}
use Rattle.theory_growth.specs.Growths.{PolynomialLattice, IsGrowth, AreSameElsewhere}
use Rattle.spl_field.specs.declared.small.SmallField.{SmallField}
use Rattle.spl_field.specs.SmallField.{small_ops, small_laws}
use Rattle.spl_fraction.specs.FractionsOver.{fractions_over, fractions_laws}
use Rattle.spl_local.specs.declared.settle.State.{State}
use Rattle.spl_local.specs.declared.settle.State.TheVariants.{Unimodular, Ramified}
use Rattle.spl_local.specs.declared.settle.Step.{Step}
use Rattle.spl_local.specs.declared.settle.Step.TheVariants.{Grown, Still}

-- the tuples of a basis
abbrev pub small_tuples : SmallField → BasisForm ℕ → List (List (Pair ℕ))
small_tuples f = tuples_of (small_ops f) (small_laws f)

module _ (f : SmallField) (A : Structure (Pair ℕ)) (m : List ℕ) where
  -- the second is a basis of an order over the polynomials that holds that of the first, and has the same lattice at
  -- each other monic irreducible polynomial
  pub record IsOverorder (first larger : BasisForm ℕ) : Type 0 where
    pub basis : IsBasis (small_ops f) (small_laws f) A.dim larger
    pub order : SpanOrder (fractions_over f) A (IsPolynomialFraction (small_ops f)) (small_tuples f larger)
    pub within : Within (PolynomialLattice (small_ops f) (small_laws f) A (small_tuples f first))
        (PolynomialLattice (small_ops f) (small_laws f) A (small_tuples f larger))
    pub elsewhere : AreSameElsewhere (small_ops f) (small_laws f) A m (small_tuples f first) (small_tuples f larger)

  -- the second is a basis of a larger order that m carries into that of the first
  pub record IsGrown (order next : BasisForm ℕ) : Type 0 where
    pub basis : IsBasis (small_ops f) (small_laws f) A.dim next
    pub growth : IsGrowth (small_ops f) (small_laws f) A m (small_tuples f order) (small_tuples f next)

  -- the left order of the preimage of what the rows span lies in the order
  abbrev pub DoesNotGrowBy : BasisForm ℕ → List (List (List ℕ)) → Type 0
  DoesNotGrowBy order rows =
      let o = small_ops f in
      let L = small_laws f in
      (M : FieldLaws (fractions_over f)) (s : IsMonicIrreducible o m) (N : FieldLaws (residues o L M m s))
      (R : ResidueRingsBy o L M m (residues o L M m s) N)
      → DoesNotGrow (fractions_over f) M (IsPolynomialFraction o) R.p (let K = fractions o L M in K.inv R.p)
      (residues o L M m s) N R.polynomials A (small_tuples f order) rows

  -- the lattice of the order at m is its own dual for the trace
  abbrev pub IsUnimodular : BasisForm ℕ → Type 0
  IsUnimodular order = IsTraceDualOfItself (fractions_over f) A (IsIntegralAt (small_ops f) (Finite m))
      (small_tuples f order)

  -- it is not, and the order is ramified there with the radical that has the other basis
  pub record IsRamifiedBy (order radical : BasisForm ℕ) : Type 0 where
    pub not_dual : IsUnimodular order → ⊥
    pub basis : IsBasis (small_ops f) (small_laws f) A.dim radical
    pub ramified : RamifiedAtPlace (small_ops f) (small_laws f) (fractions_laws f) A (Finite m) (small_tuples f order)
        (small_tuples f radical)

  -- what the order is at m
  abbrev pub IsState : BasisForm ℕ → State → Type 0
  IsState order Unimodular = IsUnimodular order
  IsState order (Ramified radical) = IsRamifiedBy order radical

  -- a larger order, or what the order is at m
  abbrev pub IsNextStep : BasisForm ℕ → Step → Type 0
  IsNextStep order (Grown next) = IsGrown order next
  IsNextStep order (Still state) = IsState order state

-- unimodular where there are no rows of a radical, and else ramified with the basis
abbrev pub IsStateBy : List (List (List ℕ)) → BasisForm ℕ → State → Type 0
IsStateBy rows preimage Unimodular = rows ≡ []
IsStateBy rows preimage (Ramified radical) = (rows ≢ []) × (radical ≡ preimage)
