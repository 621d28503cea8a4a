-- Products and powers of the sets of tuples that rows span, and nilpotent ideals by their powers.
-- (Pierce, Associative Algebras, chapter 4.)
use Rattle.std.specs.Prelude.{◌↔◌, ℕ, suc, List}
use Rattle.theory_rings.specs.Ops.{Ops}
use Rattle.theory_spaces.specs.Sets.{Within, Same, Zero, Products, Power, ProductsVanish, IsNilpotentIdeal}
use Rattle.theory_spaces.specs.Tuples.{IsTuple}
use Rattle.theory_tables.specs.Subspace.{Combinations}
use Rattle.theory_tables.specs.Structure.{Structure, IsOver, IsAssociative, tuple_ops}
use Rattle.theory_tables.specs.Algebras.{IsIdentity, SpansIdeal}
use Rattle.theory_tables.specs.Traces.{PowerVanishes}

module _ {E : Type 0} (o : Ops E) (A : Structure E) where
  -- the combinations of the rows are the sums of products of one of a and one of b
  abbrev pub SpansProducts : List (List E) → List (List E) → List (List E) → Type 0
  SpansProducts a b rows = Same (Combinations o A.dim rows)
      (Products (tuple_ops o A) (Combinations o A.dim a) (Combinations o A.dim b))

  -- the combinations of the rows are the power e + 1 of those of `by`
  abbrev pub SpansPower : List (List E) → ℕ → List (List E) → Type 0
  SpansPower by e rows = Same (Combinations o A.dim rows) (Power (tuple_ops o A) (Combinations o A.dim by) e)

  -- the power e + 1 of the combinations of the rows is 0 just where products of e + 1 of them are; and they are a
  -- nilpotent ideal just where some power is 0
  pub record NilpotentByPowers (one : List E) (rows : List (List E)) : Type 0 where
    pub each : (e : ℕ) → Within (Power (tuple_ops o A) (Combinations o A.dim rows) e) (Zero (tuple_ops o A))
        ↔ ProductsVanish (tuple_ops o A) one (Combinations o A.dim rows) (suc e)
    pub nilpotent : IsNilpotentIdeal (tuple_ops o A) one (IsTuple o A.dim) (Combinations o A.dim rows)
        ↔ PowerVanishes o A rows

  abbrev pub NilpotentByPowersLaw : Type 0
  NilpotentByPowersLaw = IsOver o A → IsAssociative o A → (one : List E) → IsIdentity o A one → (rows : List (List E))
      → SpansIdeal o A rows → NilpotentByPowers one rows
