-- What evidence claims of an algebra: that it fits, in its numbers, lengths and sizes, and that each condition of its
-- kind holds. Basis elements are counted from 1.
use Rattle.std.specs.Prelude.{◌≡◌, ◌≢◌, ◌⊎◌, ◌*◌, ◌<◌, ◌≤◌, ℕ, List, [], length, get_or}
use Rattle.theory_rings.specs.Ops.{Ops, IsElem}
use Rattle.theory_spaces.specs.Tuples.{IsTuple}
use Rattle.theory_tables.specs.Matrix.{IsMatrix}
use Rattle.theory_tables.specs.Subspace.{AreIndependent}
use Rattle.theory_tables.specs.Structure.{Structure}
use Rattle.theory_tables.specs.Conditions.{ProductsDiffer, MultipliersAnnihilate, MultipliersRefute, CommutesWithBasis}
use Rattle.theory_tables.specs.Conditions.{IsNoMultiple, IsClosedFromLeft, IsClosedFromRight, MapsMultiply}
use Rattle.theory_tables.specs.Conditions.{GiveMatrixUnits}
use Rattle.theory_tables.specs.Split.{IsSquare}

-- the number of a basis element, from 1 to m
abbrev pub IsBasisNumber : ℕ → ℕ → Type 0
IsBasisNumber m i = (1 ≤ i) × (i ≤ m)

-- the pair (j, k) comes before (j', k') in lexicographic order
abbrev pub PairBefore : ℕ → ℕ → ℕ → ℕ → Type 0
PairBefore j k j' k' = (j < j') ⊎ ((j ≡ j') × (k < k'))

-- three numbers of basis elements
abbrev pub TripleFits : ℕ → ℕ → ℕ → ℕ → Type 0
TripleFits m i j k = IsBasisNumber m i × IsBasisNumber m j × IsBasisNumber m k

module _ {E : Type 0} (o : Ops E) (m : ℕ) where
  -- multipliers other than 0 at pairs of numbers from 1 to m, which go up in lexicographic order
  pub record AreMultipliers (list : List (ℕ × ℕ × E)) : Type 0 where
    pub first_low : (s : ℕ) → s < length list → 1 ≤ (get_or list s (0, 0, o.zero)).0
    pub first_high : (s : ℕ) → s < length list → (get_or list s (0, 0, o.zero)).0 ≤ m
    pub second_low : (s : ℕ) → s < length list → 1 ≤ (get_or list s (0, 0, o.zero)).1
    pub second_high : (s : ℕ) → s < length list → (get_or list s (0, 0, o.zero)).1 ≤ m
    pub of_field : (s : ℕ) → s < length list → IsElem o (get_or list s (0, 0, o.zero)).2
    pub nonzero : (s : ℕ) → s < length list → (get_or list s (0, 0, o.zero)).2 ≢ o.zero
    pub order : (s t : ℕ) → s < t → t < length list
        → PairBefore (get_or list s (0, 0, o.zero)).0 (get_or list s (0, 0, o.zero)).1
        (get_or list t (0, 0, o.zero)).0 (get_or list t (0, 0, o.zero)).1

  -- both lists are such multipliers
  abbrev pub NoIdentityFits : List (ℕ × ℕ × E) → List (ℕ × ℕ × E) → Type 0
  NoIdentityFits left right = AreMultipliers left × AreMultipliers right

  -- a tuple of m elements
  abbrev pub CentralFits : List E → Type 0
  CentralFits a = IsTuple o m a

  -- tuples of m elements, at least one and fewer than m
  abbrev pub IdealFits : List (List E) → Type 0
  IdealFits tuples = (1 ≤ length tuples) × (length tuples < m) × IsMatrix o m tuples

  -- m matrices of size n, and n² tuples of m elements
  pub record SplitFits (n : ℕ) (maps : List (List (List E))) (units : List (List E)) : Type 0 where
    pub map_count : length maps ≡ m
    pub square : (k : ℕ) → k < m → IsSquare o n (get_or maps k [])
    pub unit_count : length units ≡ n * n
    pub tuples : IsMatrix o m units

module _ {E : Type 0} (o : Ops E) (A : Structure E) where
  -- the two products of b_i, b_j and b_k differ
  pub record TripleClaim (i j k : ℕ) : Type 0 where
    pub fits : TripleFits A.dim i j k
    pub differ : ProductsDiffer o A i j k

  -- the multipliers turn the equations of an identity into 0 = 1
  pub record NoIdentityClaim (left right : List (ℕ × ℕ × E)) : Type 0 where
    pub fits : NoIdentityFits o A.dim left right
    pub annihilate : MultipliersAnnihilate o A left right
    pub refute : MultipliersRefute o A left right

  -- the tuple commutes with each basis element, and is no multiple of an identity
  pub record CentralClaim (a : List E) : Type 0 where
    pub fits : CentralFits o A.dim a
    pub commutes : CommutesWithBasis o A a
    pub no_multiple : IsNoMultiple o A a

  -- the tuples, at least one and fewer than m, are independent and span an ideal
  pub record IdealClaim (tuples : List (List E)) : Type 0 where
    pub fits : IdealFits o A.dim tuples
    pub independent : AreIndependent o A.dim tuples
    pub left : IsClosedFromLeft o A tuples
    pub right : IsClosedFromRight o A tuples

  -- the maps, of size n, multiply as the basis elements do, and the unit tuples give the matrices with one entry 1 and
  -- else 0
  pub record SplitClaim (n : ℕ) (maps : List (List (List E))) (units : List (List E)) : Type 0 where
    pub fits : SplitFits o A.dim n maps units
    pub multiplies : MapsMultiply o A n maps
    pub gives_units : GiveMatrixUnits o A n maps units
