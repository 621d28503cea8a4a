-- The quotient of an algebra of finite dimension by an ideal, and that of an order by its radical: an algebra over the
-- residue field without nilpotent ideals but 0, whose maximal ideals are those of the order.
use Rattle.std.specs.Prelude.{◌≡◌, ℕ, ◌<◌, ◌^◌, ◌↔◌}
use Rattle.theory_rings.specs.Ring.{RingOn, FieldOn}
use Rattle.theory_rings.specs.Prime.{IsPrime}
use Rattle.theory_rings.specs.Power.{times}
use Rattle.theory_rings.specs.Enumerated.{Enumerated}
use Rattle.theory_spaces.specs.Module.{ModuleOn, AlgebraOn, module_of}
use Rattle.theory_spaces.specs.Linear.{InSpan, Basis, BasisOf}
use Rattle.theory_spaces.specs.Space.{SpaceOn}
use Rattle.theory_spaces.specs.Subspaces.{Whole}
use Rattle.theory_spaces.specs.Algebra.{IdealSpan}
use Rattle.theory_spaces.specs.AlgebraMap.{IsSimple}
use Rattle.theory_spaces.specs.Valuation.{ValuationOn}
use Rattle.theory_orders.specs.Orders.{IsIdeal, Multiple, Radical, SimpleQuotient, IsMaximalIdeal, Within, Same}
use Rattle.theory_orders.specs.Lattices.{Lattice, IsOrderAt}
use Rattle.theory_blocks.specs.FixedPoints.{IsFixed}
use Rattle.theory_blocks.specs.Centre.{Centre}
use Rattle.theory_blocks.specs.MaximalIdeals.{HasNoNilpotentIdeal, IsMaximalIdeal as IsMaximalRingIdeal}
use Rattle.theory_residue.specs.Residue.{ResidueOn, ReductionOn, Reduced, Lifted, ResidueReduction}

-- an algebra with a basis, on one of the types W, onto which A is mapped with kernel J
pub record QuotientAlgebra {K V : Type 0} {R : RingOn K} (A : AlgebraOn R V) (J : V → Type 0)
    (W : ℕ → Type 0) : Type 0 where
  pub size : ℕ
  pub algebra : AlgebraOn R (W size)
  pub basis : Basis (module_of algebra) size
  pub reduction : ReductionOn A Whole J algebra
  pub map-scale : (a : K) (x : V) → reduction.red (A.◌•◌ a x) ≡ algebra.◌•◌ a (reduction.red x)

module _ {K E V : Type 0} (F : FieldOn K) (Z : ValuationOn F) (p : K) {q : K} (k : FieldOn E) (D : ResidueOn F Z q k)
    (A : AlgebraOn F.ring V) (n : ℕ) where
  -- an order modulo its radical, the lattice of u. Each maximal ideal over p·Λ holds the radical; the maximal ideals of
  -- the algebra are what these become, and each of its ideals comes from a lattice
  pub record RadicalQuotient (v : ℕ → V) (m : ℕ) (u : ℕ → V) (W : ℕ → Type 0) : Type 0 where
    pub size : ℕ
    pub algebra : AlgebraOn k.ring (W size)
    pub basis : Basis (module_of algebra) size
    pub none : HasNoNilpotentIdeal algebra
    pub reduction : ReductionOn A (Lattice F Z A n v) (Lattice F Z A m u) algebra
    pub holds : (a : ℕ) (x : ℕ → V) → IsMaximalIdeal A p (Lattice F Z A n v) (Lattice F Z A a x)
        → Within (Lattice F Z A m u) (Lattice F Z A a x)
    pub maximal : (a : ℕ) (x : ℕ → V) → IsIdeal A (Lattice F Z A n v) (Lattice F Z A a x)
        → Within (Lattice F Z A m u) (Lattice F Z A a x)
        → IsMaximalIdeal A p (Lattice F Z A n v) (Lattice F Z A a x)
        ↔ IsMaximalRingIdeal algebra (InSpan (module_of algebra) a (λ i. reduction.red (x i)))
    pub span : (a : ℕ) (x : ℕ → V) → IsIdeal A (Lattice F Z A n v) (Lattice F Z A a x)
        → Within (Lattice F Z A m u) (Lattice F Z A a x)
        → Same (Reduced A (Lattice F Z A n v) (Lattice F Z A m u) algebra reduction (Lattice F Z A a x))
        (InSpan (module_of algebra) a (λ i. reduction.red (x i)))
    pub lattice : (a : ℕ) (g : ℕ → W size)
        → (s : ℕ) × (x : ℕ → V)
        × Same (Lifted A (Lattice F Z A n v) (Lattice F Z A m u) algebra reduction (InSpan (module_of algebra) a g))
        (Lattice F Z A s x)

  -- it exists, on each family of spaces of coordinates
  abbrev pub RadicalQuotientExists : Type 0 → (ℕ → Type 0) → Type 0
  RadicalQuotientExists U W = (v : ℕ → V) → IsOrderAt F Z A n v → (B : AlgebraOn k.ring U) (w : Basis (module_of B) n)
      → ResidueReduction F Z p k D A B n v w.vec
      → (m : ℕ) (u : ℕ → V) → Radical A p (Lattice F Z A n v) (Lattice F Z A m u)
      → (M : (s : ℕ) → ModuleOn k.ring (W s)) → ((s : ℕ) → SpaceOn (M s) s) → RadicalQuotient v m u W

  -- the quotient of an order by an ideal over p·Λ is simple just where that of the algebra by what the ideal becomes is
  -- a simple algebra other than 0
  abbrev pub SimpleByQuotient : Type 0 → (ℕ → Type 0) → Type 0
  SimpleByQuotient U W = (v : ℕ → V) → IsOrderAt F Z A n v
      → (B : AlgebraOn k.ring U) (w : Basis (module_of B) n) (r : ResidueReduction F Z p k D A B n v w.vec)
      → (m : ℕ) (u : ℕ → V) → IsIdeal A (Lattice F Z A n v) (Lattice F Z A m u)
      → Within (Multiple A p (Lattice F Z A n v)) (Lattice F Z A m u)
      → (T : QuotientAlgebra B (InSpan (module_of B) m (λ i. r.reduction.red (u i))) W)
      → SimpleQuotient A (Lattice F Z A n v) (Lattice F Z A m u)
      ↔ (IsSimple T.algebra × (T.algebra.one ≡ T.algebra.zero → ⊥))

  -- each ideal of an algebra with a basis has a quotient algebra, on each family of spaces of coordinates
  abbrev pub QuotientAlgebraExists : Type 0 → (ℕ → Type 0) → Type 0
  QuotientAlgebraExists U W = (B : AlgebraOn k.ring U) → Basis (module_of B) n → (M : (s : ℕ) → ModuleOn k.ring (W s))
      → ((s : ℕ) → SpaceOn (M s) s)
      → (m : ℕ) (g : ℕ → U) → IdealSpan B m g → QuotientAlgebra B (InSpan (module_of B) m g) W

  -- the maximal ideals over p·Λ, each once, as lattices. They are as many as the solutions of z^q = z in the centre of
  -- the order modulo its radical have dimensions
  pub record MaximalIdealsCounted {W : Type 0} (N : Enumerated E) (v : ℕ → V) (C : AlgebraOn k.ring W) : Type 0 where
    pub count : ℕ
    pub size : ℕ → ℕ
    pub vec : ℕ → ℕ → V
    pub maximal : (i : ℕ) → i < count → IsMaximalIdeal A p (Lattice F Z A n v) (Lattice F Z A (size i) (vec i))
    pub distinct : (i j : ℕ) → i < count → j < count
        → Within (Lattice F Z A (size i) (vec i)) (Lattice F Z A (size j) (vec j)) → i ≡ j
    pub complete : (a : ℕ) (x : ℕ → V) → IsMaximalIdeal A p (Lattice F Z A n v) (Lattice F Z A a x)
        → (i : ℕ) × (i < count) × Same (Lattice F Z A a x) (Lattice F Z A (size i) (vec i))
    pub solutions : BasisOf (module_of C) count (λ z. Centre C z × IsFixed C.ring N.size z)

  -- so it is where the residue field has finitely many elements
  abbrev pub MaximalIdealsAreCounted : (ℕ → Type 0) → Type 0
  MaximalIdealsAreCounted W = (N : Enumerated E) (c i : ℕ) → IsPrime c → times k.monoid c k.one ≡ k.zero
      → N.size ≡ c ^ i
      → (v : ℕ → V) → IsOrderAt F Z A n v → (m : ℕ) (u : ℕ → V) → Radical A p (Lattice F Z A n v) (Lattice F Z A m u)
      → (Q : RadicalQuotient v m u W) → MaximalIdealsCounted N v Q.algebra
