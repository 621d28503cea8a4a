-- What evidence shows of an algebra of degree n over the fractions, where its claim holds: that n by n matrices split
-- it, that it isn't central simple, or that no matrices split it.
use Rattle.std.specs.Prelude.{◌≤◌, ℕ}
use Rattle.theory_rings.specs.Ops.{Ops}
use Rattle.theory_fractions.specs.Fraction.{Pair}
use Rattle.theory_tables.specs.Structure.{Structure}
use Rattle.theory_tables.specs.Algebras.{IsCentralSimple}
use Rattle.theory_tables.specs.Split.{IsSplitBy, IsSplit}
use Rattle.spl_evidence.specs.declared.evidence.Evidence.{Evidence}
use Rattle.spl_evidence.specs.declared.evidence.Evidence.TheVariants.{Triple, NoIdentity, Central, Ideal, Split, Ramified}

module _ {E : Type 0} (o : Ops E) (A : Structure E) where
  -- no matrices of any size ≥ 1 split the algebra
  abbrev pub IsNotSplit : Type 0
  IsNotSplit = (size : ℕ) → 1 ≤ size → IsSplit o A size → ⊥

  -- nor is it central simple
  pub record IsNoMatrixAlgebra : Type 0 where
    pub not_central_simple : IsCentralSimple o A → ⊥
    pub not_split : IsNotSplit

abbrev pub Shows : Ops (Pair ℕ) → Structure (Pair ℕ) → ℕ → Evidence → Type 0
Shows o A n (Triple i j k) = IsNoMatrixAlgebra o A
Shows o A n (NoIdentity left right) = IsNoMatrixAlgebra o A
Shows o A n (Central tuple) = IsNoMatrixAlgebra o A
Shows o A n (Ideal tuples) = IsNoMatrixAlgebra o A
Shows o A n (Split maps units) = IsSplitBy o A n maps
Shows o A n (Ramified place order radical) = IsNotSplit o A
