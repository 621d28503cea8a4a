-- The maximal ideals of an algebra by its structure constants are those of its quotient by the radical, as rows.
-- (Pierce, Associative Algebras, chapters 3 and 4.)
use Rattle.std.specs.Prelude.{◌≡◌, ◌↔◌, ◌⊎◌, ◌<◌, ◌≤◌, ◌++◌, ℕ, List, length}
use Rattle.theory_rings.specs.Ops.{Ops}
use Rattle.theory_rings.specs.Sum.{sum_of}
use Rattle.theory_spaces.specs.Sets.{IsMaximalIdeal, IsNilpotentIdeal}
use Rattle.theory_spaces.specs.Tuples.{IsTuple}
use Rattle.theory_tables.specs.Matrix.{entry, IsMatrix, image}
use Rattle.theory_tables.specs.Subspace.{InSpan, Combinations}
use Rattle.theory_tables.specs.Structure.{Structure, IsOver, IsAssociative, tuple_ops}
use Rattle.theory_tables.specs.Algebras.{IsIdentity, SpansIdeal, AreZero, SpansAll}
use Rattle.theory_tables.specs.Quotient.{IsQuotient}
use Rattle.theory_chains.specs.Radical.{SpansRadical}
use Rattle.theory_growth.specs.Steps.{HoldMaximalIdeals}

module _ {E : Type 0} (o : Ops E) (A B : Structure E) where
  -- the combinations of the rows above are the elements whose classes are combinations of the rows below
  abbrev pub ArePulledBack : List (List E) → List (List E) → List (List E) → Type 0
  ArePulledBack project below above = (v : List E) → IsTuple o A.dim v
      → InSpan o A.dim above v ↔ InSpan o B.dim below (image o B.dim A.dim project v)

  -- row i is the combination of the lifts of the basis by row i below
  pub record AreLifted (lifts below rows : List (List E)) : Type 0 where
    pub count : length rows ≡ length below
    pub shape : IsMatrix o A.dim rows
    pub combines : (i c : ℕ) → i < length below → c < A.dim
        → entry o rows i c ≡ sum_of o B.dim (λ l. o.mul (entry o below i l) (entry o lifts l c))

module _ {E : Type 0} (o : Ops E) (A : Structure E) where
  -- rows below, lifted, and followed by those of the ideal, are the rows above
  abbrev pub LiftedRowsArePulledBack : Type 0
  LiftedRowsArePulledBack = IsOver o A → (ideal : List (List E)) → SpansIdeal o A ideal
      → (B : Structure E) (project lifts : List (List E)) → IsQuotient o A ideal B project lifts
      → (below rows : List (List E)) → IsMatrix o B.dim below → AreLifted o A B lifts below rows
      → ArePulledBack o A B project below (rows ++ ideal)

  -- what an ideal of the quotient comes from is an ideal
  abbrev pub PulledBackIdeals : Type 0
  PulledBackIdeals = IsOver o A → (ideal : List (List E)) (B : Structure E) (project lifts : List (List E))
      → IsQuotient o A ideal B project lifts
      → (below above : List (List E)) → SpansIdeal o B below → IsMatrix o A.dim above
      → ArePulledBack o A B project below above → SpansIdeal o A above

  -- what a maximal ideal of the quotient comes from is maximal
  abbrev pub PulledBackMaximalIdeals : Type 0
  PulledBackMaximalIdeals = IsOver o A → IsAssociative o A → (one : List E) → IsIdentity o A one
      → (ideal : List (List E)) → SpansIdeal o A ideal → (B : Structure E) (project lifts : List (List E))
      → IsQuotient o A ideal B project lifts → (below above : List (List E)) → IsMatrix o B.dim below
      → IsMatrix o A.dim above → ArePulledBack o A B project below above
      → IsMaximalIdeal (tuple_ops o B) (IsTuple o B.dim) (Combinations o B.dim below)
      → IsMaximalIdeal (tuple_ops o A) (IsTuple o A.dim) (Combinations o A.dim above)

  -- each maximal ideal comes from one of the quotient by the radical
  abbrev pub MaximalIdealsOverRadical : Type 0
  MaximalIdealsOverRadical = IsOver o A → IsAssociative o A → (one : List E) → IsIdentity o A one
      → (radical : List (List E)) → SpansRadical o A radical
      → (B : Structure E) (project lifts : List (List E)) → IsQuotient o A radical B project lifts
      → (count : ℕ) (below above : ℕ → List (List E))
      → ((i : ℕ) → i < count → ArePulledBack o A B project (below i) (above i))
      → HoldMaximalIdeals o B count below → HoldMaximalIdeals o A count above

  -- an ideal is maximal just where the quotient by it has no ideals but 0 and itself, and is not 0
  abbrev pub MaximalByQuotient : Type 0
  MaximalByQuotient = IsOver o A → IsAssociative o A → (one : List E) → IsIdentity o A one
      → (ideal : List (List E)) → SpansIdeal o A ideal
      → (B : Structure E) (project lifts : List (List E)) → IsQuotient o A ideal B project lifts
      → IsMaximalIdeal (tuple_ops o A) (IsTuple o A.dim) (Combinations o A.dim ideal)
      ↔ (((rows : List (List E)) → SpansIdeal o B rows → AreZero o B rows ⊎ SpansAll o B rows) × (1 ≤ B.dim))

  -- the quotient by the radical has no nilpotent ideal but 0
  abbrev pub NothingNilpotentOverRadical : Type 0
  NothingNilpotentOverRadical = IsOver o A → IsAssociative o A → (one : List E) → IsIdentity o A one
      → (radical : List (List E)) → SpansRadical o A radical
      → (B : Structure E) (project lifts : List (List E)) → IsQuotient o A radical B project lifts
      → (e : List E) → IsIdentity o B e → (rows : List (List E)) → IsMatrix o B.dim rows
      → IsNilpotentIdeal (tuple_ops o B) e (IsTuple o B.dim) (Combinations o B.dim rows) → AreZero o B rows

  -- the radical of an algebra that is not 0 is not everything
  abbrev pub RadicalIsProper : Type 0
  RadicalIsProper = IsOver o A → IsAssociative o A → (one : List E) → IsIdentity o A one → 1 ≤ A.dim
      → (radical : List (List E)) → SpansRadical o A radical → SpansAll o A radical → ⊥
