-- A step of growth at a place: the maximal ideals of the residue algebra of an order, as rows, their preimages in the
-- order, as lattices of tuples, and the left orders of these. (Reiner, Maximal Orders, section 39; Cohen, A Course in
-- Computational Algebraic Number Theory, section 6.1.)
use Rattle.std.specs.Prelude.{ℕ, ◌<◌, List}
use Rattle.theory_rings.specs.Ops.{Ops, FieldLaws}
use Rattle.theory_rings.specs.Elements.{Elem, elements}
use Rattle.theory_spaces.specs.Sets.{Within, Same, IsMaximalIdeal}
use Rattle.theory_spaces.specs.Tuples.{IsTuple}
use Rattle.theory_tables.specs.Matrix.{IsMatrix}
use Rattle.theory_tables.specs.Subspace.{Combinations, SameSpan}
use Rattle.theory_tables.specs.Structure.{Structure, tuple_ops}
use Rattle.theory_bases.specs.TupleLattices.{TupleLattice}
use Rattle.theory_left_orders.specs.ResidueRings.{ResidueRingOn}
use Rattle.theory_left_orders.specs.TupleResidues.{LeftOrderOf}
use Rattle.theory_left_orders.specs.TupleIdeals.{Preimage}

-- each maximal two-sided ideal of the algebra is the span of one of `count` families of rows
abbrev pub HoldMaximalIdeals : {R : Type 0} → Ops R → Structure R → ℕ → (ℕ → List (List R)) → Type 0
HoldMaximalIdeals r C count rows = (a : List (List _)) → IsMatrix r C.dim a
    → IsMaximalIdeal (tuple_ops r C) (IsTuple r C.dim) (Combinations r C.dim a)
    → (i : ℕ) × (i < count) × SameSpan r C.dim a (rows i)

module _ {E R : Type 0} (o : Ops E) (L : FieldLaws o) (P : E → Type 0) (p q : Elem o) (r : Ops R) (N : FieldLaws r)
    (D : ResidueRingOn (elements o L) (λ x. P x.0) p q (elements r N)) (A : Structure E) (tuples : List (List E)) where
  -- the preimage in the order of what the rows span is a lattice, and its left order lies in the order
  pub record DoesNotGrow (rows : List (List R)) : Type 0 where
    pub matrix : IsMatrix r A.dim rows
    pub ideal : List (List E)
    pub shape : IsMatrix o A.dim ideal
    pub preimage : Same (Preimage o L P p q r N D A tuples rows) (TupleLattice o P A.dim ideal)
    pub left_order : Within (LeftOrderOf o L P p q r N D A ideal) (TupleLattice o P A.dim tuples)

  -- families of rows that have all maximal ideals of the residue algebra, none of which grows
  pub record NoneGrows (C : Structure R) (count : ℕ) (rows : ℕ → List (List R)) : Type 0 where
    pub complete : HoldMaximalIdeals r C count rows
    pub each : (i : ℕ) → i < count → DoesNotGrow (rows i)
