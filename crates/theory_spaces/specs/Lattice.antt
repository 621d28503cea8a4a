-- Lattices: the combinations of vectors with weights in a subring, as a valuation ring, the polynomials among rational
-- functions, or the elements of degree at most 0; and what a form pairs with a lattice into the subring. (Reiner,
-- Maximal Orders, sections 4, 10 and 25.)
use Rattle.std.specs.Prelude.{◌≡◌, ℕ, ◌<◌}
use Rattle.theory_rings.specs.Ring.{RingOn}
use Rattle.theory_spaces.specs.Module.{ModuleOn}
use Rattle.theory_spaces.specs.Linear.{comb}
use Rattle.theory_spaces.specs.Sets.{Same, ring_ops, IsOrder}

-- P holds of the elements of a subring
abbrev pub IsSubring : {K : Type 0} → RingOn K → (K → Type 0) → Type 0
IsSubring R P = IsOrder (ring_ops R) R.one P

module _ {K V : Type 0} {R : RingOn K} (M : ModuleOn R V) where
  -- x is a combination of v 0, .., v (n − 1) whose i-th weight is allowed at i
  pub record InSpanWith (n : ℕ) (allowed : ℕ → K → Type 0) (v : ℕ → V) (x : V) : Type 0 where
    pub weights : ℕ → K
    pub passes : (i : ℕ) → i < n → allowed i (weights i)
    pub combines : x ≡ comb M n weights v

  -- x is a combination of v 0, .., v (n − 1) with weights in P
  abbrev pub LatticeOver : (K → Type 0) → ℕ → (ℕ → V) → V → Type 0
  LatticeOver P n v = InSpanWith n (λ _. P) v

module _ {K V : Type 0} (form : V → V → K) (P : K → Type 0) where
  -- what all of L pairs with into P
  abbrev pub DualOf : (V → Type 0) → V → Type 0
  DualOf L x = (y : V) → L y → P (form y x)

  abbrev pub IsOwnDual : (V → Type 0) → Type 0
  IsOwnDual L = Same (DualOf L) L
