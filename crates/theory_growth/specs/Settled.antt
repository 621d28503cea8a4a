-- What holds of an order over the polynomials at a monic irreducible polynomial where none of its maximal ideals grows:
-- it is its own dual for the trace there, or the place is ramified. (Reiner, Maximal Orders, sections 25 and 39.)
--
-- The hypotheses are what the steps of a program answer of lists over the polynomials: the order and its residue
-- table, rows that span the radical, rows for each maximal ideal, the lattices of their preimages, and that the left
-- orders of these lie in the order. The conclusions are at the place.
use Rattle.std.specs.Prelude.{◌≡◌, ℕ, List}
use Rattle.std.specs.Int.{◌∣◌}
use Rattle.theory_rings.specs.Ops.{Ops, FieldLaws}
use Rattle.theory_rings.specs.Elements.{Elem}
use Rattle.theory_rings.specs.Power.{times_of}
use Rattle.theory_rings.specs.Prime.{IsPrime}
use Rattle.theory_spaces.specs.Sets.{Same}
use Rattle.theory_tables.specs.Structure.{Structure, IsOver, IsAssociative}
use Rattle.theory_tables.specs.Algebras.{HasSmallCentre, AreZero}
use Rattle.theory_fractions.specs.Fraction.{Pair}
use Rattle.theory_fractions.specs.FractionOps.{fraction_ops}
use Rattle.theory_remainders.specs.RemainderOps.{remainder_ops}
use Rattle.theory_remainders.proofs.RemainderField.{monic}
use Rattle.theory_places.specs.Places.{Finite}
use Rattle.theory_places.specs.FractionPlaces.{IsIntegralAt, IsMonicIrreducible, RamifiedAtPlace, fractions}
use Rattle.theory_bases.specs.TupleLattices.{TupleLattice, AreIndependentTuples, SpanOrder, IsTraceDualOfItself}
use Rattle.theory_bases.specs.Bases.{IsPolynomialFraction}
use Rattle.theory_chains.specs.Radical.{SpansRadical}
use Rattle.theory_left_orders.specs.FractionResidues.{ResidueRingsBy}
use Rattle.theory_left_orders.specs.TupleIdeals.{IsResidueTable, Preimage}
use Rattle.theory_growth.specs.Steps.{NoneGrows}

module _ {E : Type 0} (o : Ops E) (L : FieldLaws o) (M : FieldLaws (fraction_ops o L)) (m : List E)
    (s : IsMonicIrreducible o m) where
  -- the remainders by m
  abbrev pub residues : Ops (List E)
  residues = remainder_ops o L m (monic o L m s.irreducible)

  module _ (N : FieldLaws residues) (R : ResidueRingsBy o L M m residues N) (A : Structure (Pair E))
      (tuples : List (List (Pair E))) where
    -- the inverse of m
    abbrev q : Elem (fraction_ops o L)
    q = let K = fractions o L M in K.inv R.p

    -- the tuples span an order over the polynomials, and the constants are the residues of its own
    pub record IsOrderModulo (constants : List (List E)) : Type 0 where
      pub order : SpanOrder (fraction_ops o L) A (IsPolynomialFraction o) tuples
      pub table : IsResidueTable (fraction_ops o L) M (IsPolynomialFraction o) R.p q residues N R.polynomials A tuples
          constants

    -- what these constants make of the space of residues
    abbrev pub residue_algebra : List (List E) → Structure (List E)
    residue_algebra constants = record { dim = A.dim; constants = constants }

    -- the preimage of what the rows span is the lattice of the tuples out
    abbrev pub IsPreimageLattice : List (List (List E)) → List (List (Pair E)) → Type 0
    IsPreimageLattice rows out = Same
        (Preimage (fraction_ops o L) M (IsPolynomialFraction o) R.p q residues N R.polynomials A tuples rows)
        (TupleLattice (fraction_ops o L) (IsPolynomialFraction o) A.dim out)

    -- the rows span the radical of the residue algebra, and its preimage is the lattice of js
    pub record IsRadicalBy (constants : List (List E)) (rows : List (List (List E)))
        (js : List (List (Pair E))) : Type 0 where
      pub radical : SpansRadical residues (residue_algebra constants) rows
      pub independent : AreIndependentTuples (fraction_ops o L) A.dim js
      pub preimage : IsPreimageLattice rows js

    -- rows for all maximal ideals of the residue algebra, none of which grows
    abbrev pub NothingGrowsBy : List (List E) → ℕ → (ℕ → List (List (List E))) → Type 0
    NothingGrowsBy constants count rows = NoneGrows (fraction_ops o L) M (IsPolynomialFraction o) R.p q residues N
        R.polynomials A tuples (residue_algebra constants) count rows

    -- the order is its own dual for the trace at m just where the radical is 0, and else ramified with the radical js
    pub record IsSettled (constants : List (List E)) (rows : List (List (List E)))
        (js : List (List (Pair E))) : Type 0 where
      pub unimodular : AreZero residues (residue_algebra constants) rows
          → IsTraceDualOfItself (fraction_ops o L) A (IsIntegralAt o (Finite m)) tuples
      pub only : IsTraceDualOfItself (fraction_ops o L) A (IsIntegralAt o (Finite m)) tuples
          → AreZero residues (residue_algebra constants) rows
      pub ramified : (AreZero residues (residue_algebra constants) rows → ⊥)
          → RamifiedAtPlace o L M A (Finite m) tuples js

-- an order of a table whose centre is the multiples of one, in a characteristic that does not divide the dimension, is
-- settled at each monic irreducible polynomial where nothing grows
abbrev pub SettledWhereNothingGrows : {E : Type 0} (o : Ops E) (L : FieldLaws o) → FieldLaws (fraction_ops o L)
    → Type 0
SettledWhereNothingGrows o L M = (m : List _) (s : IsMonicIrreducible o m) (N : FieldLaws (residues o L M m s))
    (R : ResidueRingsBy o L M m (residues o L M m s) N)
    (A : Structure (Pair _)) → IsOver (fraction_ops o L) A → IsAssociative (fraction_ops o L) A
    → HasSmallCentre (fraction_ops o L) A
    → (c : ℕ) → IsPrime c → times_of o c o.one ≡ o.zero → (c ∣ A.dim → ⊥)
    → (tuples : List (List (Pair _))) (constants : List (List _)) → IsOrderModulo o L M m s N R A tuples constants
    → (count : ℕ) (ideals : ℕ → List (List (List _)))
    → NothingGrowsBy o L M m s N R A tuples constants count ideals
    → (rows : List (List (List _))) (js : List (List (Pair _)))
    → IsRadicalBy o L M m s N R A tuples constants rows js
    → IsSettled o L M m s N R A tuples constants rows js
