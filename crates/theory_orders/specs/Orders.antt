-- The notions on sets at the operations of an algebra.
use Rattle.std.specs.Prelude.{ℕ, List}
use Rattle.theory_rings.specs.Ring.{RingOn}
use Rattle.theory_spaces.specs.Module.{AlgebraOn}
use Rattle.theory_spaces.specs.Sets as sets
pub use Rattle.theory_spaces.specs.Sets.{ring_ops, Within, Same, ProperlyWithin, Test}

module _ {K V : Type 0} {R : RingOn K} (A : AlgebraOn R V) where
  abbrev pub IsOrder : (V → Type 0) → Type 0
  IsOrder = sets.IsOrder (ring_ops A.ring) A.one

  abbrev pub IsIdeal : (V → Type 0) → (V → Type 0) → Type 0
  IsIdeal = sets.IsIdeal (ring_ops A.ring)

  abbrev pub SumOf : (V → Type 0) → V → Type 0
  SumOf = sets.SumOf (ring_ops A.ring)

  abbrev pub Product : (V → Type 0) → (V → Type 0) → V → Type 0
  Product = sets.Product (ring_ops A.ring)

  abbrev pub Products : (V → Type 0) → (V → Type 0) → V → Type 0
  Products = sets.Products (ring_ops A.ring)

  abbrev pub Power : (V → Type 0) → ℕ → V → Type 0
  Power = sets.Power (ring_ops A.ring)

  abbrev pub Multiple : K → (V → Type 0) → V → Type 0
  Multiple = sets.Multiple (ring_ops A.ring) A.◌•◌

  abbrev pub Radical : K → (V → Type 0) → (V → Type 0) → Type 0
  Radical = sets.Radical (ring_ops A.ring) A.◌•◌

  abbrev pub LeftOrder : (V → Type 0) → V → Type 0
  LeftOrder = sets.LeftOrder (ring_ops A.ring)

  abbrev pub SimpleQuotient : (V → Type 0) → (V → Type 0) → Type 0
  SimpleQuotient = sets.SimpleQuotient (ring_ops A.ring)

  abbrev pub Around : (V → Type 0) → V → V → Type 0
  Around = sets.Around (ring_ops A.ring)

  abbrev pub Generated : (V → Type 0) → (V → Type 0) → V → V → Type 0
  Generated = sets.Generated (ring_ops A.ring)

  abbrev pub SimpleByElements : (V → Type 0) → (V → Type 0) → Type 0
  SimpleByElements = sets.SimpleByElements (ring_ops A.ring) A.one

  abbrev pub IsMaximalIdeal : K → (V → Type 0) → (V → Type 0) → Type 0
  IsMaximalIdeal = sets.IsMaximalIdealOver (ring_ops A.ring) A.◌•◌

  abbrev pub Inverse : (V → Type 0) → (V → Type 0) → V → Type 0
  Inverse = sets.Inverse (ring_ops A.ring)

  abbrev pub IsInvertibleIdeal : (V → Type 0) → (V → Type 0) → Type 0
  IsInvertibleIdeal = sets.IsInvertibleIdeal (ring_ops A.ring)

  abbrev pub OnlyMaximalIdeal : K → (V → Type 0) → (V → Type 0) → Type 0
  OnlyMaximalIdeal = sets.OnlyMaximalIdeal (ring_ops A.ring) A.◌•◌

  abbrev pub WordProduct : {X : Type 0} → (V → Type 0) → (X → V → Type 0) → List X → V → Type 0
  WordProduct = sets.WordProduct (ring_ops A.ring)
