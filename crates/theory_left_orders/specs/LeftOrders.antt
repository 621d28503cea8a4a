-- Left orders by linear equations over a residue field: of a lattice M that is closed under products and holds p, as
-- an ideal of an order Λ that holds p·Λ. (Cohen, A Course in Computational Algebraic Number Theory, section 6.1, for
-- commutative orders; Reiner, Maximal Orders, section 39.)
use Rattle.std.specs.Prelude.{◌≡◌, ℕ, ◌+◌, ◌<◌}
use Rattle.theory_rings.specs.Ring.{FieldOn}
use Rattle.theory_rings.specs.Sum.{sum}
use Rattle.theory_spaces.specs.Module.{AlgebraOn, module_of}
use Rattle.theory_spaces.specs.Linear.{comb, Basis}
use Rattle.theory_spaces.specs.Lattice.{LatticeOver}
use Rattle.theory_spaces.proofs.Linear.Families.{join}
use Rattle.theory_spaces.specs.Sets.{ring_ops, Same, LeftOrder}
use Rattle.theory_left_orders.specs.ResidueRings.{ResidueRingOn}

module _ {K V E : Type 0} (F : FieldOn K) (P : K → Type 0) (p q : K) (k : FieldOn E) (D : ResidueRingOn F P p q k)
    (A : AlgebraOn F.ring V) (n : ℕ) (B : Basis (module_of A) n) where
  -- the lattice of the basis
  abbrev pub BasisLattice : V → Type 0
  BasisLattice = LatticeOver (module_of A) P n B.vec

  -- it holds p, and is closed under products
  pub record IsClosedOver : Type 0 where
    pub holds : BasisLattice (A.◌•◌ p A.one)
    pub products : (x y : V) → BasisLattice x → BasisLattice y → BasisLattice (A.◌⊗◌ x y)

  -- c is in the kernel of the residues of the coordinates of the products of the basis
  abbrev pub InProductKernel : (ℕ → E) → Type 0
  InProductKernel c = (j l : ℕ) → j < n → l < n
      → sum k.monoid n (λ i. k.◌⊗◌ (D.res (B.coord (A.◌⊗◌ (B.vec i) (B.vec j)) l)) (c i)) ≡ k.zero

  -- the rows span that kernel
  pub record SpansProductKernel (s : ℕ) (rows : ℕ → ℕ → E) : Type 0 where
    pub inside : (r : ℕ) → r < s → InProductKernel (rows r)
    pub spans : (c : ℕ → E) → InProductKernel c
        → (d : ℕ → E) × ((i : ℕ) → i < n → c i ≡ sum k.monoid s (λ r. k.◌⊗◌ (d r) (rows r i)))

  -- the left order of the lattice is the lattice of q times the lifts of the rows, and of its basis
  abbrev pub LeftOrderByKernel : Type 0
  LeftOrderByKernel = IsClosedOver → (s : ℕ) (rows : ℕ → ℕ → E) → SpansProductKernel s rows
      → (lifts : ℕ → ℕ → K) → ((r i : ℕ) → r < s → i < n → P (lifts r i))
      → ((r i : ℕ) → r < s → i < n → D.res (lifts r i) ≡ rows r i)
      → Same (LeftOrder (ring_ops A.ring) BasisLattice) (LatticeOver (module_of A) P (s + n)
      (join s (λ r. A.◌•◌ q (comb (module_of A) n (lifts r) B.vec)) B.vec))
