-- Which kind of evidence a table has: the first that fits of a failed triple, no identity, a large centre, a degenerate
-- trace form, and a ramified place.
use Rattle.std.specs.Prelude.{◌↔◌, ℕ, List}
use Rattle.theory_rings.specs.Ops.{Ops}
use Rattle.theory_spaces.specs.Tuples.{IsTuple}
use Rattle.theory_tables.specs.Subspace.{InSpan}
use Rattle.theory_tables.specs.Structure.{Structure, IsAssociative}
use Rattle.theory_fractions.specs.Fraction.{Pair}
use Rattle.theory_tables.specs.Algebras.{HasIdentity, HasSmallCentre, IsCentralSimple}
use Rattle.theory_tables.specs.Traces.{InTraceRadical, IsNondegenerate}
use Rattle.theory_bases.specs.Bases.{BasisForm}
use Rattle.spl_field.specs.declared.small.SmallField.{SmallField}
use Rattle.spl_fraction.specs.FractionsOver.{fractions_over}
use Rattle.spl_evidence.specs.declared.evidence.Evidence.{Evidence}
use Rattle.spl_evidence.specs.declared.evidence.Evidence.TheVariants.{Triple, NoIdentity, Central, Ideal, Split, Ramified}
use Rattle.spl_evidence.specs.Claim.{Claim}
use Rattle.spl_evidence.specs.Shown.{Shows}
use Rattle.spl_algebra.specs.Triple.{IsFirstFailed}
use Rattle.spl_local.specs.Everywhere.{IsFirstRamified, IsUnimodularEverywhere}

module _ (o : Ops (Pair ℕ)) (A : Structure (Pair ℕ)) where
  -- an associative algebra with identity whose centre is larger than the multiples of it
  pub record HasLargeCentre : Type 0 where
    pub associative : IsAssociative o A
    pub identity : HasIdentity o A
    pub large : HasSmallCentre o A → ⊥

  -- an associative algebra with identity and a small centre, whose trace form has the combinations of the tuples as its
  -- radical, and not 0 alone
  pub record HasDegenerateForm (tuples : List (List (Pair ℕ))) : Type 0 where
    pub associative : IsAssociative o A
    pub centre : HasSmallCentre o A
    pub degenerate : IsNondegenerate o A → ⊥
    pub radical : (a : List (Pair ℕ)) → IsTuple o A.dim a
        → (InSpan o A.dim tuples a ↔ InTraceRadical o A a)

  -- none of the laws fails, so that the algebra is central simple
  pub record HasNoFault : Type 0 where
    pub associative : IsAssociative o A
    pub centre : HasSmallCentre o A
    pub nondegenerate : IsNondegenerate o A
    pub central_simple : IsCentralSimple o A

module _ (f : SmallField) (A : Structure (Pair ℕ)) where
  -- the evidence is of the kind that the algebra has, and a ramified place is the first in the order of places, as some
  -- order is its own dual for the trace at each one before it; that the algebra is split is not decided yet
  abbrev pub IsOfKind : Evidence → Type 0
  IsOfKind (Triple i j k) = IsFirstFailed (fractions_over f) A (record { i = i; j = j; k = k })
  IsOfKind (NoIdentity left right) = IsAssociative (fractions_over f) A × (HasIdentity (fractions_over f) A → ⊥)
  IsOfKind (Central tuple) = HasLargeCentre (fractions_over f) A
  IsOfKind (Ideal tuples) = HasDegenerateForm (fractions_over f) A tuples
  IsOfKind (Split maps units) = ⊥
  IsOfKind (Ramified place order radical) = HasNoFault (fractions_over f) A × IsFirstRamified f A place

  -- evidence of the right kind, whose claim on an algebra of degree n holds, so that no matrices of any size ≥ 1 split
  -- the algebra, and unless a ramified place is shown it isn't central simple either
  pub record IsEvidence (n : ℕ) (e : Evidence) : Type 0 where
    pub kind : IsOfKind e
    pub claim : Claim f A n e
    pub shows : Shows (fractions_over f) A n e

  -- no kind fits: the algebra is central simple, and an order over the polynomials and one at infinity are their own
  -- duals for the trace at all places
  pub record HasUnimodularOrders : Type 0 where
    pub no_fault : HasNoFault (fractions_over f) A
    pub finite : BasisForm ℕ
    pub infinite : BasisForm ℕ
    pub unimodular : IsUnimodularEverywhere f A finite infinite
