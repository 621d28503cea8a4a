-- Ramified places of an algebra by its structure constants over a program's field, by lists of tuples.
use Rattle.std.specs.Prelude.{◌≡◌, ℕ, ◌<◌, List, [], length, get_or}
use Rattle.theory_rings.specs.Ops.{Ops, FieldLaws}
use Rattle.theory_rings.specs.Elements.{Elem, elements}
use Rattle.theory_spaces.specs.Module.{AlgebraOn}
use Rattle.theory_spaces.specs.Tuples.{Tuple, IsTableAlgebra}
use Rattle.theory_spaces.specs.Valuation.{ValuationOn}
use Rattle.theory_orders.specs.Ramified.{IsRamified}
use Rattle.theory_tables.specs.Structure.{Structure}

module _ {E : Type 0} (o : Ops E) (L : FieldLaws o) (A : Structure E) where
  -- the m tuples of a list
  pub record AreTuples (vs : List (List E)) (v : ℕ → Tuple o A.dim) : Type 0 where
    pub count : length vs ≡ A.dim
    pub item : (i : ℕ) → i < A.dim → (v i).0 ≡ get_or vs i []

  -- an associative algebra with one, in which the tuples os span an order and js its radical
  pub record RamifiedTable (Z : ValuationOn (elements o L)) (p : Elem o) (os js : List (List E)) : Type 0 where
    pub algebra : AlgebraOn (elements o L).ring (Tuple o A.dim)
    pub is_table : IsTableAlgebra o L A.dim A.constants algebra
    pub order : ℕ → Tuple o A.dim
    pub is_order : AreTuples os order
    pub radical : ℕ → Tuple o A.dim
    pub is_radical : AreTuples js radical
    pub ramified : IsRamified (elements o L) Z p algebra A.dim order radical
