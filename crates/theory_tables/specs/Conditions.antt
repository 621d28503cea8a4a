-- The conditions by which evidence on an algebra is checked, each by itself: on three basis elements, on multipliers of
-- the equations of an identity, on a central element, on tuples that span an ideal, on matrices that split the algebra.
-- That tuples are independent is `AreIndependent` of specs/Subspace. Basis elements of triples and of multipliers are
-- counted from 1.
use Rattle.std.specs.Prelude.{◌≡◌, ◌+◌, ◌*◌, ◌-◌, ◌<◌, ◌==◌, ◌&&◌, ℕ, List, [], ◌∷◌, length, get_or, cond}
use Rattle.theory_rings.specs.Ops.{Ops, IsElem}
use Rattle.theory_rings.specs.Sum.{sum_of, at}
use Rattle.theory_spaces.specs.Tuples.{tuple_scale, constant}
use Rattle.theory_tables.specs.Matrix.{entry}
use Rattle.theory_tables.specs.Subspace.{InSpan}
use Rattle.theory_tables.specs.Structure.{Structure, AssociatesAt, product_of, basis_of}

module _ {E : Type 0} (o : Ops E) where
  -- the multiplier at the pair (j, k), and 0 where the list has none
  abbrev pub multiplier_at : List (ℕ × ℕ × E) → ℕ → ℕ → E
  multiplier_at [] j k = o.zero
  multiplier_at ((a, b, x) ∷ rest) j k = cond ((a == j) && (b == k)) x (multiplier_at rest j k)

  -- the entry at row r and column s of map number k, counted from 0
  abbrev pub map_entry : List (List (List E)) → ℕ → ℕ → ℕ → E
  map_entry maps k r s = entry o (get_or maps k []) r s

module _ {E : Type 0} (o : Ops E) (A : Structure E) where
  -- (b_i·b_j)·b_k and b_i·(b_j·b_k) differ
  abbrev pub ProductsDiffer : ℕ → ℕ → ℕ → Type 0
  ProductsDiffer i j k = AssociatesAt o A (i - 1) (j - 1) (k - 1) → ⊥

  -- for each i the sum over j and k of left(j, k)·γ_ijk + right(j, k)·γ_jik is 0: so the left sides of the equations
  -- Σ_i e_i·γ_ijk = δ_jk of a left identity e, and Σ_i e_i·γ_jik = δ_jk of a right one, sum to 0
  abbrev pub MultipliersAnnihilate : List (ℕ × ℕ × E) → List (ℕ × ℕ × E) → Type 0
  MultipliersAnnihilate left right = (i : ℕ) → i < A.dim → sum_of o A.dim (λ j. sum_of o A.dim (λ k. o.add
      (o.mul (multiplier_at o left (j + 1) (k + 1)) (constant o A.dim A.constants i j k))
      (o.mul (multiplier_at o right (j + 1) (k + 1)) (constant o A.dim A.constants j i k)))) ≡ o.zero

  -- the sum over j of left(j, j) + right(j, j) is 1: the right sides of these equations sum to 1
  abbrev pub MultipliersRefute : List (ℕ × ℕ × E) → List (ℕ × ℕ × E) → Type 0
  MultipliersRefute left right = sum_of o A.dim
      (λ j. o.add (multiplier_at o left (j + 1) (j + 1)) (multiplier_at o right (j + 1) (j + 1))) ≡ o.one

  -- a·b_i = b_i·a for each basis element b_i
  abbrev pub CommutesWithBasis : List E → Type 0
  CommutesWithBasis a = (i : ℕ) → i < A.dim → product_of o A a (basis_of o A i) ≡ product_of o A (basis_of o A i) a

  -- no c of the field has a·b_i = c·b_i for every basis element b_i: a is no multiple of an identity
  abbrev pub IsNoMultiple : List E → Type 0
  IsNoMultiple a = (c : E) → IsElem o c
      → ((i : ℕ) → i < A.dim → product_of o A a (basis_of o A i) ≡ tuple_scale o A.dim c (basis_of o A i)) → ⊥

  -- b_i·v is a combination of the tuples, for each basis element b_i and each tuple v
  abbrev pub IsClosedFromLeft : List (List E) → Type 0
  IsClosedFromLeft tuples = (i r : ℕ) → i < A.dim → r < length tuples
      → InSpan o A.dim tuples (product_of o A (basis_of o A i) (get_or tuples r []))

  -- v·b_i is a combination of the tuples, for each basis element b_i and each tuple v
  abbrev pub IsClosedFromRight : List (List E) → Type 0
  IsClosedFromRight tuples = (i r : ℕ) → i < A.dim → r < length tuples
      → InSpan o A.dim tuples (product_of o A (get_or tuples r []) (basis_of o A i))

  -- the maps, n by n matrices, multiply as the basis elements do: map i times map j is the sum over k of γ_ijk times
  -- map k
  abbrev pub MapsMultiply : ℕ → List (List (List E)) → Type 0
  MapsMultiply n maps = (i j r s : ℕ) → i < A.dim → j < A.dim → r < n → s < n
      → sum_of o n (λ t. o.mul (map_entry o maps i r t) (map_entry o maps j t s)) ≡ sum_of o A.dim
      (λ k. o.mul (constant o A.dim A.constants i j k) (map_entry o maps k r s))

  -- the combinations of the maps by the unit tuples, n² of them row by row, are the matrices with one entry 1 and else
  -- 0
  abbrev pub GiveMatrixUnits : ℕ → List (List (List E)) → List (List E) → Type 0
  GiveMatrixUnits n maps units = (r s r' s' : ℕ) → r < n → s < n → r' < n → s' < n
      → sum_of o A.dim (λ k. o.mul (at o (get_or units (r * n + s) []) k) (map_entry o maps k r' s')) ≡ cond
      ((r' == r) && (s' == s)) o.one o.zero
