-- Lists of proper ideals of an algebra of which each maximal ideal holds just one, and elements that are scalars modulo
-- them. (Rónyai, Computing the structure of finite algebras, 1990.)
use Rattle.std.specs.Prelude.{◌≡◌, ◌↔◌, ◌⊎◌, ◌<◌, ◌≤◌, ◌/◌, ◌%◌, ◌^◌, ℕ, List, [], length, get_or}
use Rattle.theory_rings.specs.Ops.{Ops, IsElem}
use Rattle.theory_rings.specs.Power.{power_of}
use Rattle.theory_rings.specs.Sum.{sum_of, table, at}
use Rattle.theory_spaces.specs.Sets.{total}
use Rattle.theory_spaces.specs.Tuples.{IsTuple, tuple_scale}
use Rattle.theory_tables.specs.Matrix.{entry}
use Rattle.theory_tables.specs.Subspace.{Rows, InSpan, IsSubspace, SpansSum}
use Rattle.theory_tables.specs.Structure.{Structure, IsElement, product_of, tuple_ops}
use Rattle.theory_tables.specs.Algebras.{IsCentral, SpansIdeal, SpansAll}
use Rattle.spl_blocks.specs.Blocks.{SpansMaximalIdeal, rows_at}
use Rattle.spl_blocks.specs.Fixed.{difference_of, power_in}

module _ {E : Type 0} (o : Ops E) (A : Structure E) where
  -- the combinations of the rows of a are some of b
  abbrev pub SpanWithin : List (List E) → List (List E) → Type 0
  SpanWithin a b = (v : List E) → IsTuple o A.dim v → InSpan o A.dim a v → InSpan o A.dim b v

  -- a two-sided ideal other than everything, as a subspace
  pub record IsProperIdeal (s : Rows E) : Type 0 where
    pub basis : IsSubspace o s
    pub width : s.width ≡ A.dim
    pub ideal : SpansIdeal o A s.rows
    pub proper : SpansAll o A s.rows → ⊥

  abbrev pub item : List (Rows E) → ℕ → Rows E
  item items i = get_or items i (record { width = A.dim; rows = [] })

  -- proper ideals, of which each maximal ideal holds just one
  pub record AreSplit (items : List (Rows E)) : Type 0 where
    pub each : (i : ℕ) → i < length items → IsProperIdeal (item items i)
    pub cover : (rows : List (List E)) → SpansMaximalIdeal o A rows
        → (i : ℕ) × (i < length items) × SpanWithin (rows_at o A items i) rows
    pub unique : (rows : List (List E)) → SpansMaximalIdeal o A rows → (i j : ℕ) → i < length items → j < length items
        → SpanWithin (rows_at o A items i) rows → SpanWithin (rows_at o A items j) rows → i ≡ j

  -- each of the fine subspaces holds one of the coarse ones
  abbrev pub Refines : List (Rows E) → List (Rows E) → Type 0
  Refines fine coarse = (i : ℕ) → i < length fine
      → (j : ℕ) × (j < length coarse) × SpanWithin (rows_at o A coarse j) (rows_at o A fine i)

  -- t − c·1
  abbrev pub less_multiple : List E → List E → E → List E
  less_multiple one t c = difference_of o A t (tuple_scale o A.dim c one)

  -- t is the scalar c modulo the combinations of the rows, for some element c
  abbrev pub IsScalarModulo : List E → List E → List (List E) → Type 0
  IsScalarModulo one t rows = (c : E) × IsElem o c × InSpan o A.dim rows (less_multiple one t c)

  -- modulo each of the subspaces
  abbrev pub AreScalars : List E → List E → List (Rows E) → Type 0
  AreScalars one t items = (i : ℕ) → i < length items → IsScalarModulo one t (rows_at o A items i)

  -- the combinations of the rows are the multiples y·w
  abbrev pub SpansMultiples : List E → List (List E) → Type 0
  SpansMultiples y rows = (v : List E) → IsTuple o A.dim v
      → (InSpan o A.dim rows v ↔ ((w : List E) × IsElement o A w × (v ≡ product_of o A y w)))

  -- z + z^q + .., d terms
  abbrev pub trace_in : ℕ → ℕ → List E → List E
  trace_in q d z = total (tuple_ops o A) d (λ j. power_in o A z (q ^ j))

  -- the subspaces among n candidates that are not everything, in order: those whose bases have fewer than m rows
  pub record AreKept (n : ℕ) (Is : ℕ → Rows E → Type 0) (kept : List (Rows E)) : Type 0 where
    pub origin : ℕ → ℕ
    pub within : (k : ℕ) → k < length kept → origin k < n
    pub ordered : (k l : ℕ) → k < l → l < length kept → origin k < origin l
    pub candidate : (k : ℕ) → k < length kept → Is (origin k) (item kept k)
    pub smaller : (k : ℕ) → k < length kept → length (rows_at o A kept k) < A.dim
    pub others : (r : ℕ) → r < n → ((k : ℕ) × (k < length kept) × (origin k ≡ r))
        ⊎ ((s : Rows E) × Is r s × (A.dim ≤ length s.rows))

  -- the multiples of t − c·1, where c is item r of the list
  pub record IsMultiples (one t : List E) (constants : List E) (r : ℕ) (s : Rows E) : Type 0 where
    pub basis : IsSubspace o s
    pub width : s.width ≡ A.dim
    pub members : SpansMultiples (less_multiple one t (at o constants r)) s.rows

  -- the sum of subspace r / n of a and subspace r % n of b, where n is the number of those of b
  pub record IsSumOf (a b : List (Rows E)) (r : ℕ) (s : Rows E) : Type 0 where
    pub basis : IsSubspace o s
    pub width : s.width ≡ A.dim
    pub members : SpansSum o A.dim s.rows (rows_at o A a (r / length b)) (rows_at o A b (r % length b))

  -- different elements such that each maximal ideal holds t − c·1 for one of them, c
  pub record AreValues (one t : List E) (constants : List E) : Type 0 where
    pub elements : (r : ℕ) → r < length constants → IsElem o (at o constants r)
    pub different : (r s : ℕ) → r < length constants → s < length constants → at o constants r ≡ at o constants s
        → r ≡ s
    pub cover : (rows : List (List E)) → SpansMaximalIdeal o A rows
        → (r : ℕ) × (r < length constants) × InSpan o A.dim rows (less_multiple one t (at o constants r))

  -- the trace of x^i·z
  abbrev pub trace_of_multiple : E → ℕ → ℕ → List E → ℕ → List E
  trace_of_multiple x q d z i = trace_in q d (tuple_scale o A.dim (power_of o x i) z)

  -- the traces of z, x·z, .., x^(d − 1)·z are central, and each maximal ideal holds just one t − c·1 of them
  pub record HasValuedTraces (one constants : List E) (x : E) (q d : ℕ) (z : List E) : Type 0 where
    pub central : (i : ℕ) → i < d → IsCentral o A (trace_of_multiple x q d z i)
    pub values : (i : ℕ) → i < d → AreValues one (trace_of_multiple x q d z i) constants

  -- these are scalars modulo the items
  abbrev pub AreTracesScalars : List E → E → ℕ → ℕ → List E → ℕ → List (Rows E) → Type 0
  AreTracesScalars one x q d z n items = (i : ℕ) → i < n → AreScalars one (trace_of_multiple x q d z i) items

  -- the combination of the rows with these weights
  abbrev pub combination_of : List E → List (List E) → List E
  combination_of c rows = table A.dim (λ j. sum_of o (length rows) (λ i. o.mul (at o c i) (entry o rows i j)))
