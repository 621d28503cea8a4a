-- Statements on algebras by their structure constants: spans that are ideals, the radical of the trace form, what makes
-- an algebra central simple, what claims exclude.
use Rattle.std.specs.Prelude.{◌≡◌, ◌≢◌, ◌↔◌, ◌<◌, ◌≤◌, ℕ, List}
use Rattle.theory_rings.specs.Ops.{Ops, IsElem}
use Rattle.theory_rings.specs.Sum.{sum_of, at}
use Rattle.theory_rings.specs.Power.{times_of}
use Rattle.theory_spaces.specs.Sets.{Within, IsIdeal}
use Rattle.theory_spaces.specs.Tuples.{IsTuple, tuple_scale}
use Rattle.theory_tables.specs.Matrix.{entry, IsMatrix}
use Rattle.theory_tables.specs.Subspace.{Combinations}
use Rattle.theory_tables.specs.Structure.{Structure, IsOver, IsAssociative, tuple_ops}
use Rattle.theory_tables.specs.Conditions.{IsClosedFromLeft, IsClosedFromRight}
use Rattle.theory_tables.specs.Algebras.{IsIdentity, HasIdentity, HasSmallCentre, SpansIdeal, IsCentralSimple}
use Rattle.theory_tables.specs.Traces.{trace_matrix, InTraceRadical, IsNondegenerate, PowerVanishes}
use Rattle.theory_tables.specs.Split.{IsSplit}
use Rattle.theory_tables.specs.Claims.{TripleClaim, NoIdentityClaim, CentralClaim, IdealClaim}

module _ {E : Type 0} (o : Ops E) (A : Structure E) where
  -- tuples span an ideal exactly where their products with the basis elements from both sides are combinations of them
  abbrev pub IdealByBasis : Type 0
  IdealByBasis = IsOver o A → (rows : List (List E)) → IsMatrix o A.dim rows
      → (SpansIdeal o A rows ↔ (IsClosedFromLeft o A rows × IsClosedFromRight o A rows))

  -- the radical of the trace form is a two-sided ideal and a subspace, and holds each nilpotent ideal; where m·1 is not
  -- 0 it doesn't hold an identity, so it isn't everything
  pub record TraceRadical : Type 0 where
    pub ideal : IsIdeal (tuple_ops o A) (IsTuple o A.dim) (InTraceRadical o A)
    pub scale_in : (c : E) (a : List E) → IsElem o c → InTraceRadical o A a
        → InTraceRadical o A (tuple_scale o A.dim c a)
    pub not_everything : (one : List E) → IsIdentity o A one → times_of o A.dim o.one ≢ o.zero
        → InTraceRadical o A one → ⊥
    pub nilpotent : (rows : List (List E)) → SpansIdeal o A rows → PowerVanishes o A rows
        → Within (Combinations o A.dim rows) (InTraceRadical o A)
    -- its elements are those that the matrix of the form sends to 0
    pub kernel : (a : List E) → IsTuple o A.dim a
        → (InTraceRadical o A a ↔
        ((i : ℕ) → i < A.dim → sum_of o A.dim (λ j. o.mul (entry o (trace_matrix o A) i j) (at o a j)) ≡ o.zero))

  abbrev pub TraceRadicalLaw : Type 0
  TraceRadicalLaw = IsOver o A → IsAssociative o A → TraceRadical

  -- an associative algebra whose centre is the multiples of an identity, and whose trace form is nondegenerate, is
  -- central simple
  abbrev pub CentralSimpleByTraceForm : Type 0
  CentralSimpleByTraceForm = IsOver o A → IsAssociative o A → HasSmallCentre o A → IsNondegenerate o A
      → IsCentralSimple o A

  -- an algebra that n by n matrices split is central simple, for every n ≥ 1
  abbrev pub SplitIsCentralSimple : Type 0
  SplitIsCentralSimple = IsOver o A → (n : ℕ) → 1 ≤ n → IsSplit o A n → IsCentralSimple o A

  -- each claim excludes that the algebra is central simple
  pub record ClaimsExclude : Type 0 where
    pub triple : (i j k : ℕ) → TripleClaim o A i j k → IsAssociative o A → ⊥
    pub no_identity : (left right : List (ℕ × ℕ × E)) → NoIdentityClaim o A left right → HasIdentity o A → ⊥
    pub central : (a : List E) → CentralClaim o A a → HasSmallCentre o A → ⊥
    pub ideal : (tuples : List (List E)) → IdealClaim o A tuples → IsCentralSimple o A → ⊥

  abbrev pub ClaimsExcludeCentralSimple : Type 0
  ClaimsExcludeCentralSimple = IsOver o A → ClaimsExclude
