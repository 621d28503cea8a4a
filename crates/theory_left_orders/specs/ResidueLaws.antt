-- Statements on orders modulo p over a subring with a residue field.
use Rattle.std.specs.Prelude.{ℕ}
use Rattle.theory_rings.specs.Ring.{FieldOn}
use Rattle.theory_spaces.specs.Module.{AlgebraOn, module_of}
use Rattle.theory_spaces.specs.Linear.{Basis}
use Rattle.theory_spaces.specs.Space.{product_on}
use Rattle.theory_spaces.specs.Algebra.{IdealSpan}
use Rattle.theory_spaces.specs.Sets.{ring_ops, IsOrder}
use Rattle.theory_left_orders.specs.ResidueRings.{ResidueRingOn}
use Rattle.theory_left_orders.specs.LeftOrders.{BasisLattice}
use Rattle.theory_left_orders.specs.ResidueAlgebras.{ResidueProduct, ReducesByCoordinates, PreimageOf, AreLifts}

module _ {K V E : Type 0} (F : FieldOn K) (P : K → Type 0) (p q : K) (k : FieldOn E) (D : ResidueRingOn F P p q k)
    (A : AlgebraOn F.ring V) (n : ℕ) (B : Basis (module_of A) n) where
  -- an order is mapped onto each algebra with the residues of its constants
  abbrev pub OrderReducesOver : Type 0 → Type 0
  OrderReducesOver W = IsOrder (ring_ops A.ring) A.one (BasisLattice F P p q k D A n B)
      → (C : AlgebraOn k.ring W) (w : Basis (module_of C) n)
      → ResidueProduct F P p q k D A n B (module_of C) (product_on C) w → ReducesByCoordinates F P p q k D A n B C w

  -- and the preimage of an ideal of the algebra is the lattice of lifts of what spans it, and of p·Λ
  abbrev pub PreimagesOfIdeals : Type 0 → Type 0
  PreimagesOfIdeals W = IsOrder (ring_ops A.ring) A.one (BasisLattice F P p q k D A n B)
      → (C : AlgebraOn k.ring W) (w : Basis (module_of C) n) (r : ReducesByCoordinates F P p q k D A n B C w)
      (s : ℕ) (rows : ℕ → W) → IdealSpan C s rows → (lifts : ℕ → V)
      → AreLifts F P p q k D A n B C w r.reduction s rows lifts
      → PreimageOf F P p q k D A n B C w r.reduction s rows lifts
