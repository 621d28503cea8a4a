-- The first triple of basis elements at which an algebra fails to be associative.
use Rattle.std.specs.Prelude.{ℕ, ◌+◌, ◌-◌, ◌<◌, ◌≤◌}
use Rattle.theory_rings.specs.Ops.{Ops}
use Rattle.theory_rings.specs.Triples.{ComesBefore}
use Rattle.theory_tables.specs.Structure.{Structure, AssociatesAt}
use Rattle.spl_algebra.specs.declared.triple.Triple.{Triple}

module _ {E : Type 0} (o : Ops E) (A : Structure E) where
  -- k is the first, counted from 0, at which (b_i·b_j)·b_k and b_i·(b_j·b_k) differ
  pub record FailsFirstAt (i j k : ℕ) : Type 0 where
    pub within : k < A.dim
    pub fails : AssociatesAt o A i j k → ⊥
    pub before : (l : ℕ) → l < k → AssociatesAt o A i j l

  -- at i and j all triples associate
  abbrev pub AssociatesAtPair : ℕ → ℕ → Type 0
  AssociatesAtPair i j = (k : ℕ) → k < A.dim → AssociatesAt o A i j k

  -- j and k are the first after i, counted from 0, at which the products differ
  pub record FailsFirstAtPair (i j k : ℕ) : Type 0 where
    pub within : j < A.dim
    pub third : FailsFirstAt i j k
    pub before : (l : ℕ) → l < j → AssociatesAtPair i l

  -- the first triple, counted from 1 and in lexicographic order, at which the products differ
  pub record IsFirstFailed (t : Triple) : Type 0 where
    pub i_low : 1 ≤ t.i
    pub i_high : t.i ≤ A.dim
    pub j_low : 1 ≤ t.j
    pub j_high : t.j ≤ A.dim
    pub k_low : 1 ≤ t.k
    pub k_high : t.k ≤ A.dim
    pub fails : AssociatesAt o A (t.i - 1) (t.j - 1) (t.k - 1) → ⊥
    pub first : (i j k : ℕ) → i < A.dim → j < A.dim → k < A.dim → ComesBefore (i + 1) (j + 1) (k + 1) t.i t.j t.k
        → AssociatesAt o A i j k
