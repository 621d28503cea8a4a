-- Lattices in a space over a field with a degree: a common basis of a lattice over a subring of the field (the finite
-- one) and one over the elements of degree at most 0 (the infinite one).
use Rattle.std.specs.Prelude.{ℕ, ℤ, pos, ◌+ℤ◌}
use Rattle.theory_rings.specs.Ring.{FieldOn}
use Rattle.theory_spaces.specs.Module.{ModuleOn}
use Rattle.theory_spaces.specs.Linear.{Independent}
use Rattle.theory_spaces.specs.Lattice.{InSpanWith, LatticeOver}
use Rattle.theory_lattices.specs.Degree.{DegreeOn, DegreeBelow}

module _ {K V : Type 0} (F : FieldOn K) (W : DegreeOn F.ring) (M : ModuleOn F.ring V) (P : K → Type 0) (n : ℕ) where
  -- the span with weights of degree at most 0
  abbrev pub InInfinite : (ℕ → V) → V → Type 0
  InInfinite v = LatticeOver M (DegreeBelow W (pos 1)) n v

  -- the span with weights in P of degree at most a i at i
  abbrev pub InBoth : (ℕ → V) → (ℕ → ℤ) → V → Type 0
  InBoth v a = InSpanWith M n (λ i c. P c × DegreeBelow W (a i +ℤ pos 1) c) v

  -- independent vectors b that span the finite lattice with weights in P, and the infinite one with weights of degree
  -- at most a i at i
  pub record CommonBasis (finite infinite : V → Type 0) (b : ℕ → V) (a : ℕ → ℤ) : Type 0 where
    pub free : Independent M n b
    pub finite_in : (x : V) → finite x → LatticeOver M P n b x
    pub finite_back : (x : V) → LatticeOver M P n b x → finite x
    pub infinite_in : (x : V) → infinite x → InSpanWith M n (λ i c. DegreeBelow W (a i +ℤ pos 1) c) b x
    pub infinite_back : (x : V) → InSpanWith M n (λ i c. DegreeBelow W (a i +ℤ pos 1) c) b x → infinite x
