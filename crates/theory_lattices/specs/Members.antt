-- The members of the intersection of a finite and an infinite lattice, by powers of an element of degree 1.
use Rattle.std.specs.Prelude.{◌≡◌, ℕ, zero, suc, ◌<◌, ℤ, pos, negsuc, ◌⊎◌}
use Rattle.theory_rings.specs.Ring.{RingOn, FieldOn}
use Rattle.theory_rings.specs.Sum.{sum}
use Rattle.theory_spaces.specs.Module.{ModuleOn}
use Rattle.theory_lattices.specs.Degree.{DegreeOn, DegreeBelow, HasDegree}

-- how many powers have a degree from 0 to a
abbrev pub power_count : ℤ → ℕ
power_count (pos a) = suc a
power_count (negsuc a) = zero

module _ {K k : Type 0} (F : FieldOn K) (ι : k → K) (T : ℕ → K) where
  -- s 0 · T 0 + .. + s (m − 1) · T (m − 1)
  abbrev pub polynomial_of : ℕ → (ℕ → k) → K
  polynomial_of m s = sum F.monoid m (λ j. F.◌⊗◌ (ι (s j)) (T j))

  -- the sum over i, and over j from 0 to a i, of s i j • (T j • b i)
  abbrev pub members_sum : {V : Type 0} (M : ModuleOn F.ring V) (n : ℕ) → (ℕ → V) → (ℕ → ℤ) → (ℕ → ℕ → k) → V
  members_sum M n b a s =
      sum M.monoid n (λ i. sum M.monoid (power_count (a i)) (λ j. M.◌•◌ (ι (s i j)) (M.◌•◌ (T j) (b i))))

module _ {K k : Type 0} (F : FieldOn K) (W : DegreeOn F.ring) (P : K → Type 0) (κ : RingOn k) (ι : k → K)
    (T : ℕ → K) where
  -- P holds just of the polynomials with coefficients of degree 0 in powers T j of degree j
  pub record PolynomialsOf : Type 0 where
    pub ι-zero : ι κ.zero ≡ F.zero
    pub ι-degree : (c : k) → (ι c ≡ F.zero) ⊎ HasDegree W (pos 0) (ι c)
    pub ι-injective : (c : k) → ι c ≡ F.zero → c ≡ κ.zero
    pub T-degree : (j : ℕ) → HasDegree W (pos j) (T j)
    pub expand : (c : K) → P c → (m : ℕ) → DegreeBelow W (pos m) c → (s : ℕ → k) × (c ≡ polynomial_of F ι T m s)
    pub back : (m : ℕ) (s : ℕ → k) → P (polynomial_of F ι T m s)

  -- the T j • b i with j from 0 to a i are a basis over k of what is in both lattices
  pub record IntersectionBasis {V : Type 0} (M : ModuleOn F.ring V) (n : ℕ) (b : ℕ → V) (a : ℕ → ℤ)
      (finite infinite : V → Type 0) : Type 0 where
    pub spans : (x : V) → finite x → infinite x → (s : ℕ → ℕ → k) × (x ≡ members_sum F ι T M n b a s)
    pub inside : (s : ℕ → ℕ → k) → finite (members_sum F ι T M n b a s) × infinite (members_sum F ι T M n b a s)
    pub free : (s : ℕ → ℕ → k) → members_sum F ι T M n b a s ≡ M.zero → (i j : ℕ) → i < n → j < power_count (a i)
        → s i j ≡ κ.zero
