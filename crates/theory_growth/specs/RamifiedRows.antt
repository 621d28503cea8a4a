-- A ramified place by rows over the residue field: what a checker tests of the radical. (Reiner, Maximal Orders,
-- section 39.)
use Rattle.std.specs.Prelude.{◌↔◌, List}
use Rattle.theory_rings.specs.Ops.{Ops, FieldLaws}
use Rattle.theory_spaces.specs.Sets.{Within, IsMaximalIdeal}
use Rattle.theory_spaces.specs.Tuples.{IsTuple}
use Rattle.theory_tables.specs.Subspace.{Combinations}
use Rattle.theory_tables.specs.Structure.{Structure, IsOver, IsAssociative, tuple_ops}
use Rattle.theory_tables.specs.Algebras.{SpansIdeal, AreZero}
use Rattle.theory_tables.specs.Traces.{PowerVanishes}
use Rattle.theory_fractions.specs.Fraction.{Pair}
use Rattle.theory_fractions.specs.FractionOps.{fraction_ops}
use Rattle.theory_places.specs.Places.{Finite}
use Rattle.theory_places.specs.FractionPlaces.{IsMonicIrreducible, RamifiedAtPlace, fractions}
use Rattle.theory_bases.specs.TupleLattices.{AreIndependentTuples}
use Rattle.theory_bases.specs.Bases.{IsPolynomialFraction}
use Rattle.theory_left_orders.specs.FractionResidues.{ResidueRingsBy}
use Rattle.theory_left_orders.specs.TupleResidues.{LeftOrderOf}
use Rattle.theory_growth.specs.Settled.{residues, residue_algebra, IsOrderModulo, IsPreimageLattice}
use Rattle.theory_growth.specs.Growths.{PolynomialLattice}

module _ {E : Type 0} (o : Ops E) (L : FieldLaws o) (M : FieldLaws (fraction_ops o L)) (m : List E)
    (s : IsMonicIrreducible o m) (N : FieldLaws (residues o L M m s))
    (R : ResidueRingsBy o L M m (residues o L M m s) N)
    (A : Structure (Pair E)) (tuples : List (List (Pair E))) where
  -- of rows that span an ideal of the residue algebra, and the tuples js of its preimage: the ideal is nilpotent and
  -- maximal, so that the quotient by it is simple, and not 0; the left order of the lattice of js lies in the order
  pub record IsRamifiedByRows (constants : List (List E)) (rows : List (List (List E)))
      (js : List (List (Pair E))) : Type 0 where
    pub vanishes : PowerVanishes (residues o L M m s) (residue_algebra o L M m s N R A tuples constants) rows
    pub maximal : (let r = residues o L M m s in let C = residue_algebra o L M m s N R A tuples constants in
        IsMaximalIdeal (tuple_ops r C) (IsTuple r C.dim) (Combinations r C.dim rows))
    pub not_zero : AreZero (residues o L M m s) (residue_algebra o L M m s N R A tuples constants) rows → ⊥
    pub left_order : Within
        (LeftOrderOf (fraction_ops o L) M (IsPolynomialFraction o) R.p (let K = fractions o L M in K.inv R.p)
        (residues o L M m s) N R.polynomials A js) (PolynomialLattice o L A tuples)

-- a place is ramified with an order over the polynomials, and the preimage of an ideal of its residue algebra, just
-- where the rows of the ideal say so
abbrev pub RamifiedByRows : {E : Type 0} (o : Ops E) (L : FieldLaws o) → FieldLaws (fraction_ops o L) → Type 0
RamifiedByRows o L M = (m : List _) (s : IsMonicIrreducible o m) (N : FieldLaws (residues o L M m s))
    (R : ResidueRingsBy o L M m (residues o L M m s) N)
    (A : Structure (Pair _)) → IsOver (fraction_ops o L) A → IsAssociative (fraction_ops o L) A
    → (tuples : List (List (Pair _))) (constants : List (List _)) → IsOrderModulo o L M m s N R A tuples constants
    → (rows : List (List (List _)))
    → SpansIdeal (residues o L M m s) (residue_algebra o L M m s N R A tuples constants) rows
    → (js : List (List (Pair _))) → AreIndependentTuples (fraction_ops o L) A.dim js
    → IsPreimageLattice o L M m s N R A tuples rows js
    → RamifiedAtPlace o L M A (Finite m) tuples js ↔ IsRamifiedByRows o L M m s N R A tuples constants rows js
