-- Statements on the residue algebra of an order at a place. An ideal of the order is given by vectors that span it as a
-- lattice, one of the algebra by vectors that span it. (Reiner, Maximal Orders, sections 6 and 39.)
use Rattle.std.specs.Prelude.{ℕ, ◌↔◌}
use Rattle.theory_rings.specs.Ring.{FieldOn}
use Rattle.theory_spaces.specs.Module.{ModuleOn, AlgebraOn, module_of}
use Rattle.theory_spaces.specs.Linear.{InSpan, Basis}
use Rattle.theory_spaces.specs.Space.{SpaceOn}
use Rattle.theory_spaces.specs.Algebra.{IdealSpan}
use Rattle.theory_spaces.specs.Valuation.{ValuationOn}
use Rattle.theory_orders.specs.Orders.{IsIdeal, Multiple, Radical, IsMaximalIdeal, SimpleQuotient, Within, Same}
use Rattle.theory_orders.specs.Lattices.{Lattice, IsOrderAt}
use Rattle.theory_radical.specs.Ideal.{IsLargestNilpotentIdeal}
use Rattle.theory_blocks.specs.MaximalIdeals.{IsMaximalIdeal as IsMaximalRingIdeal}
use Rattle.theory_residue.specs.Residue.{ResidueOn, ReductionOn, Reduced, Lifted, ReducedIdeal, LiftedIdeal}
use Rattle.theory_residue.specs.Residue.{EndsCorrespond, ResidueConstants, ResidueReduction, ResidueAlgebra}

module _ {K E V : Type 0} (F : FieldOn K) (Z : ValuationOn F) (p : K) {q : K} (k : FieldOn E) (D : ResidueOn F Z q k)
    (A : AlgebraOn F.ring V) (n : ℕ) where
  -- on each space of coordinates over the residue field there is an algebra by the residues of the constants of an
  -- order
  abbrev pub ResidueAlgebraExists : Type 0 → Type 0
  ResidueAlgebraExists W = (v : ℕ → V) → IsOrderAt F Z A n v → (M : ModuleOn k.ring W) → SpaceOn M n
      → ResidueAlgebra F Z p k D A n v W

  -- the order is mapped onto each algebra with these constants
  abbrev pub OrderReduces : Type 0 → Type 0
  OrderReduces W = (v : ℕ → V) → IsOrderAt F Z A n v → (B : AlgebraOn k.ring W) (w : Basis (module_of B) n)
      → ResidueConstants F Z k D A B n v w.vec → ResidueReduction F Z p k D A B n v w.vec

  module _ {W : Type 0} (B : AlgebraOn k.ring W) (v : ℕ → V)
      (r : ReductionOn A (Lattice F Z A n v) (Multiple A p (Lattice F Z A n v)) B) where
    abbrev L : V → Type 0
    L = Lattice F Z A n v

    abbrev N : V → Type 0
    N = Multiple A p L

    -- the span of what the vectors u become
    abbrev RedSpan : ℕ → (ℕ → V) → W → Type 0
    RedSpan m u = InSpan (module_of B) m (λ i. r.red (u i))

    -- what comes from the span of g
    abbrev From : ℕ → (ℕ → W) → V → Type 0
    From m g = Lifted A L N B r (InSpan (module_of B) m g)

    -- what the lattice of u becomes, an ideal over p·Λ: the span of what the vectors become. The two are maximal
    -- together, and one is the radical where the other is
    pub record LatticeReduces (m : ℕ) (u : ℕ → V) : Type 0 where
      pub ideal : ReducedIdeal A L N B r (Lattice F Z A m u)
      pub span : Same (Reduced A L N B r (Lattice F Z A m u)) (RedSpan m u)
      pub radical : Radical A p L (Lattice F Z A m u) ↔ IsLargestNilpotentIdeal B (RedSpan m u)
      pub simple : SimpleQuotient A L (Lattice F Z A m u) ↔ IsMaximalRingIdeal B (RedSpan m u)
      pub maximal : IsMaximalIdeal A p L (Lattice F Z A m u) ↔ IsMaximalRingIdeal B (RedSpan m u)

    -- what the span of g comes from, an ideal of B: a lattice, that is an ideal over p·Λ
    pub record SpanLifts (m : ℕ) (g : ℕ → W) : Type 0 where
      pub ideal : LiftedIdeal A L N B r (InSpan (module_of B) m g)
      pub size : ℕ
      pub vec : ℕ → V
      pub lattice : Same (From m g) (Lattice F Z A size vec)
      pub radical : IsLargestNilpotentIdeal B (InSpan (module_of B) m g) ↔ Radical A p L (Lattice F Z A size vec)
      pub maximal : IsMaximalRingIdeal B (InSpan (module_of B) m g) ↔ IsMaximalIdeal A p L (Lattice F Z A size vec)

    -- the ideals of an order over p·Λ are the ideals of the algebra, with the same order among them
    pub record IdealsCorrespond : Type 0 where
      pub lattices : (m : ℕ) (u : ℕ → V) → IsIdeal A L (Lattice F Z A m u) → Within N (Lattice F Z A m u)
          → LatticeReduces m u
      pub spans : (m : ℕ) (g : ℕ → W) → IdealSpan B m g → SpanLifts m g
      pub lattices_within : (a : ℕ) (x : ℕ → V) (m : ℕ) (u : ℕ → V)
          → IsIdeal A L (Lattice F Z A a x) → IsIdeal A L (Lattice F Z A m u) → Within N (Lattice F Z A m u)
          → Within (Lattice F Z A a x) (Lattice F Z A m u)
          ↔ Within (Reduced A L N B r (Lattice F Z A a x)) (Reduced A L N B r (Lattice F Z A m u))
      pub spans_within : (a : ℕ) (g : ℕ → W) (m : ℕ) (h : ℕ → W)
          → Within (InSpan (module_of B) a g) (InSpan (module_of B) m h) ↔ Within (From a g) (From m h)
      pub ends : EndsCorrespond A L N B r

  abbrev pub IdealsCorrespondAlways : Type 0 → Type 0
  IdealsCorrespondAlways W = (v : ℕ → V) → IsOrderAt F Z A n v → (B : AlgebraOn k.ring W) (w : Basis (module_of B) n)
      (r : ResidueReduction F Z p k D A B n v w.vec) → IdealsCorrespond B v r.reduction
