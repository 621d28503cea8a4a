-- Independence and bases over the centre of an algebra, the maps y → x·y·w with the dimension of their span, and the
-- test of simple algebras by these. (Jacobson, Basic Algebra II, section 4.6; Pierce, Associative Algebras, chapter
-- 12.)
use Rattle.std.specs.Prelude.{◌≡◌, ℕ, ◌*◌, ◌/◌, ◌%◌, ◌<◌, ◌≤◌}
use Rattle.theory_rings.specs.Ring.{RingOn, FieldOn}
use Rattle.theory_rings.specs.Sum.{sum}
use Rattle.theory_spaces.specs.Module.{AlgebraOn, module_of}
use Rattle.theory_spaces.specs.Linear.{InSpan, Basis, BasisOf}
use Rattle.theory_spaces.specs.AlgebraMap.{IsSimple}
use Rattle.theory_spaces.specs.Functions.{functions}
use Rattle.theory_spaces.specs.Families.{push}
use Rattle.theory_blocks.specs.Centre.{Centre, CentreIsField}
use Rattle.theory_spaces.specs.Functions.{maps}

module _ {K V : Type 0} {R : RingOn K} (A : AlgebraOn R V) where
  -- 0 is a combination of v 0, .., v (n − 1) with weights in the centre in one way only
  pub record IndependentOverCentre (n : ℕ) (v : ℕ → V) : Type 0 where
    pub only_zero : (c : ℕ → V) → ((i : ℕ) → i < n → Centre A (c i)) → sum A.monoid n (λ i. A.◌⊗◌ (c i) (v i)) ≡ A.zero
        → (i : ℕ) → i < n → c i ≡ A.zero

  -- x is a combination of v 0, .., v (n − 1) with weights in the centre
  pub record InSpanOverCentre (n : ℕ) (v : ℕ → V) (x : V) : Type 0 where
    pub weights : ℕ → V
    pub central : (i : ℕ) → i < n → Centre A (weights i)
    pub combines : x ≡ sum A.monoid n (λ i. A.◌⊗◌ (weights i) (v i))

  -- vectors that are independent over the centre, and of which each is such a combination
  pub record BasisOverCentre (n : ℕ) : Type 0 where
    pub vec : ℕ → V
    pub independent : IndependentOverCentre n vec
    pub spans : (x : V) → InSpanOverCentre n vec x

  -- where a 0, .., a (n − 1) are independent over the centre, the map y → a 0·y·x 0 + .. + a (n − 1)·y·x (n − 1) is 0
  -- only where all the x are
  abbrev pub TwoSidedMapsVanish : Type 0
  TwoSidedMapsVanish = (n : ℕ) (a x : ℕ → V) → IndependentOverCentre n a
      → ((y : V) → sum A.monoid n (λ i. A.◌⊗◌ (A.◌⊗◌ (a i) y) (x i)) ≡ A.zero)
      → (i : ℕ) → i < n → x i ≡ A.zero

module _ {K V : Type 0} (F : FieldOn K) (A : AlgebraOn F.ring V) (m : ℕ) (B : Basis (module_of A) m) where
  -- where the centre is a field and has dimension z there is a basis over it, and m is z times its size
  abbrev pub BasisOverCentreExists : ℕ → Type 0
  BasisOverCentreExists z = CentreIsField A → (d : ℕ) × BasisOverCentre A d × (d * z ≡ m)

  -- the map y → b i·y·b j of the vectors i and j of the basis has the number i·m + j
  abbrev pub two_sided : ℕ → V → V
  two_sided t y = A.◌⊗◌ (A.◌⊗◌ (B.vec (t / m)) y) (B.vec (t % m))

  -- these maps span a space of dimension r
  abbrev pub TwoSidedRank : ℕ → Type 0
  TwoSidedRank r = BasisOf (maps V (module_of A)) r (InSpan (maps V (module_of A)) (m * m) two_sided)

  -- where the centre has dimension z: the algebra is simple exactly where the centre is a field and the maps span a
  -- space of the dimension m²/z, and where the centre is a field the dimension is no more than this
  pub record SimpleByRank (z : ℕ) : Type 0 where
    pub to_field : IsSimple A → CentreIsField A
    pub to_rank : IsSimple A → (r : ℕ) → TwoSidedRank r → r * z ≡ m * m
    pub of_rank : CentreIsField A → (r : ℕ) → TwoSidedRank r → r * z ≡ m * m → IsSimple A
    pub at_most : CentreIsField A → (r : ℕ) → TwoSidedRank r → r * z ≤ m * m

  -- the m² coordinates of what a map makes of the vectors of the basis, vector by vector, and then 0
  abbrev pub map_row : (V → V) → ℕ → K
  map_row f = push (m * m) F.zero (λ s. B.coord (f (B.vec (s / m))) (s % m))

  -- the maps have one rank, which is that of the m² rows of their coordinates
  pub record RankByRows : Type 0 where
    pub rank : ℕ
    pub is_rank : TwoSidedRank rank
    pub unique : (r : ℕ) → TwoSidedRank r → r ≡ rank
    pub rows : BasisOf (functions F.ring) rank (InSpan (functions F.ring) (m * m) (λ t. map_row (two_sided t)))
    pub unique_rows : (r : ℕ)
        → BasisOf (functions F.ring) r (InSpan (functions F.ring) (m * m) (λ t. map_row (two_sided t))) → r ≡ rank
