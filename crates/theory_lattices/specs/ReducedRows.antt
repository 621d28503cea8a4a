-- Rows over a ring with a degree: leading positions, reduced rows, weak Popov form.
-- (Mulders and Storjohann, On lattice reduction for polynomial matrices; Kailath, Linear Systems, section 6.3.)
use Rattle.std.specs.Prelude.{◌≡◌, ℕ, ◌<◌, ℤ, pos, ◌+ℤ◌, ◌-ℤ◌, ◌≤ℤ◌, ◌<ℤ◌, ◌⊎◌}
use Rattle.theory_rings.specs.Ring.{RingOn}
use Rattle.theory_rings.specs.Sum.{sum}
use Rattle.theory_spaces.specs.Linear.{InSpan}
use Rattle.theory_spaces.specs.Functions.{functions}
use Rattle.theory_lattices.specs.Degree.{DegreeOn, DegreeBelow, HasDegree}

module _ {K : Type 0} (R : RingOn K) where
  -- the combination of n rows with weights c
  abbrev pub row_sum : ℕ → (ℕ → K) → (ℕ → ℕ → K) → ℕ → K
  row_sum n c rows j = sum R.monoid n (λ i. R.◌⊗◌ (c i) (rows i j))

  -- a row is, in its first w places, a combination of n rows
  pub record InRows (n w : ℕ) (rows : ℕ → ℕ → K) (row : ℕ → K) : Type 0 where
    pub weights : ℕ → K
    pub combines : (j : ℕ) → j < w → row j ≡ row_sum n weights rows j

  -- n rows and m rows have, in the first w places, the same combinations
  pub record SameRows (w n m : ℕ) (rows new : ℕ → ℕ → K) : Type 0 where
    pub into : (i : ℕ) → i < m → InRows n w rows (new i)
    pub back : (i : ℕ) → i < n → InRows m w new (rows i)

  -- n rows and n others have, in all places, the same combinations
  pub record SameSpan (n : ℕ) (rows new : ℕ → ℕ → K) : Type 0 where
    pub into : (i : ℕ) → i < n → InSpan (functions R) n rows (new i)
    pub back : (i : ℕ) → i < n → InSpan (functions R) n new (rows i)

  -- the row less m times another
  abbrev pub less_multiple : (ℕ → K) → K → (ℕ → K) → ℕ → K
  less_multiple row m other j = R.◌⊕◌ (row j) (R.neg (R.◌⊗◌ m (other j)))

module _ {K : Type 0} {R : RingOn K} (W : DegreeOn R) where
  -- d is the greatest degree in the row of width w, and p the last place that reaches it
  pub record LeadsAt (w : ℕ) (row : ℕ → K) (d : ℤ) (p : ℕ) : Type 0 where
    pub inside : p < w
    pub reaches : HasDegree W d (row p)
    pub within : (j : ℕ) → j < w → DegreeBelow W (d +ℤ pos 1) (row j)
    pub after : (j : ℕ) → j < w → p < j → DegreeBelow W d (row j)

  -- the degree and the leading position of a row that is not 0
  pub record Lead (w : ℕ) (row : ℕ → K) : Type 0 where
    pub degree : ℤ
    pub place : ℕ
    pub leads : LeadsAt w row degree place

  -- n rows that are not 0 and whose leading positions differ
  pub record Reduced (n w : ℕ) (rows : ℕ → ℕ → K) : Type 0 where
    pub degree : ℕ → ℤ
    pub lead : ℕ → ℕ
    pub leads : (i : ℕ) → i < n → LeadsAt w (rows i) (degree i) (lead i)
    pub differ : (i k : ℕ) → i < n → k < n → lead i ≡ lead k → i ≡ k

  -- n rows of which some may be 0, and the leading positions of the others differ
  pub record WeakPopov (n w : ℕ) (rows : ℕ → ℕ → K) : Type 0 where
    pub differ : (i k : ℕ) → i < n → k < n → (i ≡ k → ⊥) → (a : Lead w (rows i)) (b : Lead w (rows k))
        → a.place ≡ b.place → ⊥

  -- the combination leads where the row at `place` does; its degree is the sum of those of the weight and the row
  -- there, and no other such sum is greater
  pub record Predicted (n w : ℕ) (rows : ℕ → ℕ → K) (red : Reduced n w rows) (c : ℕ → K) : Type 0 where
    pub place : ℕ
    pub within : place < n
    pub nonzero : c place ≡ R.zero → ⊥
    pub top : ℤ
    pub top-is : top ≡ W.deg (c place) +ℤ red.degree place
    pub bounds : (i : ℕ) → i < n → DegreeBelow W ((top -ℤ red.degree i) +ℤ pos 1) (c i)
    pub leads : LeadsAt w (row_sum R n c rows) top (red.lead place)

  -- of smaller degree than d, or of no greater degree and with its leading position before p
  abbrev pub LeadsLower : (w : ℕ) (row : ℕ → K) → Lead w row → ℤ → ℕ → Type 0
  LeadsLower w row h d p = (h.degree <ℤ d) ⊎ ((h.degree ≤ℤ d) × (h.place < p))

  -- some reduced row leads where x does, and is of no greater degree
  pub record LeadsAmong (n w : ℕ) (rows : ℕ → ℕ → K) (red : Reduced n w rows) (x : ℕ → K) (h : Lead w x) : Type 0 where
    pub row : ℕ
    pub within : row < n
    pub place : red.lead row ≡ h.place
    pub degree : red.degree row ≤ℤ h.degree

-- a map that takes 0 alone to 0, and adds s to each degree
pub record Shifts {K L : Type 0} {R : RingOn K} {S : RingOn L} (W : DegreeOn R) (X : DegreeOn S) (s : ℤ)
    (φ : K → L) : Type 0 where
  pub map-zero : φ R.zero ≡ S.zero
  pub map-ne-zero : (a : K) → (a ≡ R.zero → ⊥) → φ a ≡ S.zero → ⊥
  pub map-degree : (a : K) → (a ≡ R.zero → ⊥) → X.deg (φ a) ≡ W.deg a +ℤ s
