-- The radical of an algebra by its structure constants. (Pierce, Associative Algebras, chapter 4.)
use Rattle.std.specs.Prelude.{List}
use Rattle.theory_rings.specs.Ops.{Ops}
use Rattle.theory_spaces.specs.Sets.{Within, Same}
use Rattle.theory_tables.specs.Subspace.{Combinations}
use Rattle.theory_tables.specs.Structure.{Structure}
use Rattle.theory_tables.specs.Algebras.{SpansIdeal}
use Rattle.theory_tables.specs.Traces.{PowerVanishes}

module _ {E : Type 0} (o : Ops E) (A : Structure E) where
  -- the combinations of the rows are the largest nilpotent two-sided ideal: some power of it is 0, and it holds each
  -- two-sided ideal of which some power is 0
  pub record SpansRadical (rows : List (List E)) : Type 0 where
    pub ideal : SpansIdeal o A rows
    pub nilpotent : PowerVanishes o A rows
    pub largest : (other : List (List E)) → SpansIdeal o A other → PowerVanishes o A other
        → Within (Combinations o A.dim other) (Combinations o A.dim rows)

  -- rows that span the radical have the same combinations
  abbrev pub RadicalIsUnique : Type 0
  RadicalIsUnique = (a b : List (List E)) → SpansRadical a → SpansRadical b
      → Same (Combinations o A.dim a) (Combinations o A.dim b)
