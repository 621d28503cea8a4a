-- Orders modulo p over a subring with a residue field, and the preimages of ideals. (Reiner, Maximal Orders, sections 6
-- and 39.)
use Rattle.std.specs.Prelude.{◌≡◌, ℕ, ◌+◌, ◌<◌}
use Rattle.theory_rings.specs.Ring.{FieldOn}
use Rattle.theory_spaces.specs.Module.{ModuleOn, AlgebraOn, module_of}
use Rattle.theory_spaces.specs.Linear.{InSpan, Basis}
use Rattle.theory_spaces.specs.Lattice.{LatticeOver}
use Rattle.theory_spaces.specs.Space.{ProductOn}
use Rattle.theory_spaces.specs.Sets.{Within, Same, ring_ops, Multiple, IsOrder, IsIdeal}
use Rattle.theory_spaces.proofs.Linear.Families.{join}
use Rattle.theory_residue.specs.Residue.{ReductionOn, Lifted}
use Rattle.theory_left_orders.specs.ResidueRings.{ResidueRingOn}
use Rattle.theory_left_orders.specs.LeftOrders.{BasisLattice}

module _ {K V E : Type 0} (F : FieldOn K) (P : K → Type 0) (p q : K) (k : FieldOn E) (D : ResidueRingOn F P p q k)
    (A : AlgebraOn F.ring V) (n : ℕ) (B : Basis (module_of A) n) where
  abbrev pub Order : V → Type 0
  Order = BasisLattice F P p q k D A n B

  -- p times the order
  abbrev pub Over : V → Type 0
  Over = Multiple (ring_ops A.ring) A.◌•◌ p Order

  -- a product on vectors over the residue field whose constants, by the basis w, are the residues of those of the order
  abbrev pub ResidueProduct : {W : Type 0} (M : ModuleOn k.ring W) → ProductOn M → Basis M n → Type 0
  ResidueProduct M G w = (i j l : ℕ) → i < n → j < n → l < n
      → w.coord (G.◌⊗◌ (w.vec i) (w.vec j)) l ≡ D.res (B.coord (A.◌⊗◌ (B.vec i) (B.vec j)) l)

  -- it has the laws of an algebra with one
  pub record HasAlgebraLaws {W : Type 0} (M : ModuleOn k.ring W) (G : ProductOn M) : Type 0 where
    pub one : W
    pub mul_assoc : (x y z : W) → G.◌⊗◌ (G.◌⊗◌ x y) z ≡ G.◌⊗◌ x (G.◌⊗◌ y z)
    pub one-mul : (x : W) → G.◌⊗◌ one x ≡ x
    pub mul-one : (x : W) → G.◌⊗◌ x one ≡ x

  abbrev pub ResidueProductIsAlgebra : Type 0 → Type 0
  ResidueProductIsAlgebra W = IsOrder (ring_ops A.ring) A.one Order → (M : ModuleOn k.ring W) (G : ProductOn M)
      (w : Basis M n) → ResidueProduct M G w → HasAlgebraLaws M G

  module _ {W : Type 0} (C : AlgebraOn k.ring W) (w : Basis (module_of C) n) where
    -- the order is mapped onto the algebra, with kernel p·Λ, by the residues of the coordinates
    pub record ReducesByCoordinates : Type 0 where
      pub reduction : ReductionOn A Order Over C
      pub values : (x : V) (i : ℕ) → i < n → w.coord (reduction.red x) i ≡ D.res (B.coord x i)

    -- the preimage of the span of s rows: the lattice of lifts of the rows and of p times the basis, an ideal of the
    -- order over p·Λ, and everything only where the rows span everything
    pub record PreimageOf (r : ReductionOn A Order Over C) (s : ℕ) (rows : ℕ → W) (lifts : ℕ → V) : Type 0 where
      pub lattice : Same (Lifted A Order Over C r (InSpan (module_of C) s rows))
          (LatticeOver (module_of A) P (s + n) (join s lifts (λ i. A.◌•◌ p (B.vec i))))
      pub ideal : IsIdeal (ring_ops A.ring) Order (Lifted A Order Over C r (InSpan (module_of C) s rows))
      pub over : Within Over (Lifted A Order Over C r (InSpan (module_of C) s rows))
      pub whole : Within Order (Lifted A Order Over C r (InSpan (module_of C) s rows)) → (y : W)
          → InSpan (module_of C) s rows y

    -- lifts of the rows: members of the order that become the rows
    pub record AreLifts (r : ReductionOn A Order Over C) (s : ℕ) (rows : ℕ → W) (lifts : ℕ → V) : Type 0 where
      pub inside : (i : ℕ) → i < s → Order (lifts i)
      pub becomes : (i : ℕ) → i < s → r.red (lifts i) ≡ rows i
