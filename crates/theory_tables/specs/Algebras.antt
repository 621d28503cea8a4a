-- Algebras by their structure constants over a program's field: identity, centre, ideals and central simple algebras,
-- in terms of tuples. (Reiner, Maximal Orders, sections 1 and 7.)
use Rattle.std.specs.Prelude.{◌≡◌, ◌⊎◌, ◌<◌, ℕ, List, [], length, get_or}
use Rattle.theory_rings.specs.Ops.{Ops, IsElem}
use Rattle.theory_spaces.specs.Sets.{IsIdeal}
use Rattle.theory_spaces.specs.Tuples.{IsTuple, tuple_zero, tuple_scale, IsTableOne}
use Rattle.theory_tables.specs.Matrix.{IsMatrix}
use Rattle.theory_tables.specs.Subspace.{InSpan, Combinations}
use Rattle.theory_tables.specs.Structure.{Structure, tuple_ops, IsAssociative}
use Rattle.theory_tables.specs.Conditions.{CommutesWithBasis}

module _ {E : Type 0} (o : Ops E) (A : Structure E) where
  -- the tuple e is an identity: e·b_i = b_i = b_i·e for each basis element b_i
  abbrev pub IsIdentity : List E → Type 0
  IsIdentity e = IsTableOne o A.dim A.constants e

  -- some tuple is
  pub record HasIdentity : Type 0 where
    pub one : List E
    pub is_one : IsIdentity one

  -- the tuple commutes with each basis element
  pub record IsCentral (a : List E) : Type 0 where
    pub tuple : IsTuple o A.dim a
    pub commutes : CommutesWithBasis o A a

  -- a is c·e for an element c of the field
  pub record IsMultiple (e a : List E) : Type 0 where
    pub factor : E
    pub of_field : IsElem o factor
    pub is_multiple : a ≡ tuple_scale o A.dim factor e

  -- the centre is no more than the multiples of an identity
  pub record HasSmallCentre : Type 0 where
    pub one : List E
    pub is_one : IsIdentity one
    pub multiple : (a : List E) → IsCentral a → IsMultiple one a

  -- the combinations of the rows are a two-sided ideal
  pub record SpansIdeal (rows : List (List E)) : Type 0 where
    pub shape : IsMatrix o A.dim rows
    pub ideal : IsIdeal (tuple_ops o A) (IsTuple o A.dim) (Combinations o A.dim rows)

  -- each row is 0
  abbrev pub AreZero : List (List E) → Type 0
  AreZero rows = (r : ℕ) → r < length rows → get_or rows r [] ≡ tuple_zero o A.dim

  -- each tuple is a combination of the rows
  abbrev pub SpansAll : List (List E) → Type 0
  SpansAll rows = (v : List E) → IsTuple o A.dim v → InSpan o A.dim rows v

  -- an associative algebra with identity, whose centre is the multiples of the identity, and in which each ideal is 0
  -- or everything
  pub record IsCentralSimple : Type 0 where
    pub associative : IsAssociative o A
    pub centre : HasSmallCentre
    pub simple : (rows : List (List E)) → SpansIdeal rows → AreZero rows ⊎ SpansAll rows
