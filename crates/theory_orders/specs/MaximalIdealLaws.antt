-- Statements on the maximal ideals of an order over p times it.
use Rattle.std.specs.Prelude.{ℕ, ◌<◌, List, ◌⊎◌}
use Rattle.theory_rings.specs.Ring.{FieldOn}
use Rattle.theory_spaces.specs.Module.{AlgebraOn}
use Rattle.theory_spaces.specs.Valuation.{ValuationOn}
use Rattle.theory_orders.specs.Orders.{IsIdeal, IsMaximalIdeal, OnlyMaximalIdeal, SimpleQuotient, SimpleByElements}
use Rattle.theory_orders.specs.Orders.{LeftOrder, Multiple, Power, Radical, Within, Same, WordProduct}
use Rattle.theory_orders.specs.Lattices.{Lattice, IsOrderAt, NothingGrows}

module _ {K V : Type 0} (F : FieldOn K) (Z : ValuationOn F) (p : K) (A : AlgebraOn F.ring V) (n : ℕ) where
  -- where no left order is larger, each maximal ideal is the only one
  abbrev pub MaximalIsOnly : Type 0
  MaximalIsOnly = (v : ℕ → V) → IsOrderAt F Z A n v → NothingGrows F Z A p (Lattice F Z A n v)
      → (m : ℕ) (w : ℕ → V) → IsMaximalIdeal A p (Lattice F Z A n v) (Lattice F Z A m w)
      → OnlyMaximalIdeal A p (Lattice F Z A n v) (Lattice F Z A m w)

  -- and the radical is it, unless it is the order
  abbrev pub RadicalIsOnly : Type 0
  RadicalIsOnly = (v : ℕ → V) → IsOrderAt F Z A n v → NothingGrows F Z A p (Lattice F Z A n v)
      → (m : ℕ) (w : ℕ → V) → Radical A p (Lattice F Z A n v) (Lattice F Z A m w) → (Lattice F Z A m w A.one → ⊥)
      → OnlyMaximalIdeal A p (Lattice F Z A n v) (Lattice F Z A m w)

  -- where no left order is larger, it is absurd that none is the only one
  abbrev pub SomeIsOnly : Type 0
  SomeIsOnly = (v : ℕ → V) → IsOrderAt F Z A n v → NothingGrows F Z A p (Lattice F Z A n v)
      → ((m : ℕ) (w : ℕ → V) → OnlyMaximalIdeal A p (Lattice F Z A n v) (Lattice F Z A m w) → ⊥) → ⊥

  -- and the radical, where it is a lattice, is the only one
  abbrev pub RadicalIsTheOnly : Type 0
  RadicalIsTheOnly = (v : ℕ → V) → IsOrderAt F Z A n v → NothingGrows F Z A p (Lattice F Z A n v)
      → (m : ℕ) (w : ℕ → V) → Radical A p (Lattice F Z A n v) (Lattice F Z A m w)
      → OnlyMaximalIdeal A p (Lattice F Z A n v) (Lattice F Z A m w)

  -- nothing grows where a finite list has all maximal ideals, and none of these has a larger left order
  abbrev pub NothingGrowsByList : Type 0
  NothingGrowsByList = (v : ℕ → V) (count : ℕ) (size : ℕ → ℕ) (vec : ℕ → ℕ → V)
      → ((m : ℕ) (w : ℕ → V) → IsMaximalIdeal A p (Lattice F Z A n v) (Lattice F Z A m w)
      → (i : ℕ) × (i < count) × Same (Lattice F Z A m w) (Lattice F Z A (size i) (vec i)))
      → ((i : ℕ) → i < count → Within (LeftOrder A (Lattice F Z A (size i) (vec i))) (Lattice F Z A n v))
      → NothingGrows F Z A p (Lattice F Z A n v)

  -- maximal ideals in a family of which some product lies in p·L, where their left orders are not larger
  abbrev pub FamilyIsOnly : Type 0
  FamilyIsOnly = (v : ℕ → V) → IsOrderAt F Z A n v → (m : ℕ → ℕ) (w : ℕ → ℕ → V)
      → ((i : ℕ) → IsMaximalIdeal A p (Lattice F Z A n v) (Lattice F Z A (m i) (w i)))
      → ((i : ℕ) → Within (LeftOrder A (Lattice F Z A (m i) (w i))) (Lattice F Z A n v))
      → (word : List ℕ) → Within (WordProduct A (Lattice F Z A n v) (λ i. Lattice F Z A (m i) (w i)) word)
      (Multiple A p (Lattice F Z A n v))
      → (i : ℕ) → OnlyMaximalIdeal A p (Lattice F Z A n v) (Lattice F Z A (m i) (w i))

  -- the radical, a lattice, holds each of the sets that is an ideal over p·L with a power in p·L
  abbrev pub RadicalHolds : {X : Type 0} → (X → V → Type 0) → Type 0
  RadicalHolds {X} T = (v : ℕ → V) → IsOrderAt F Z A n v → (m : ℕ) (w : ℕ → V)
      → Radical A p (Lattice F Z A n v) (Lattice F Z A m w)
      → (i : X) (e : ℕ) → IsIdeal A (Lattice F Z A n v) (T i) → Within (Multiple A p (Lattice F Z A n v)) (T i)
      → Within (Power A (T i) e) (Multiple A p (Lattice F Z A n v)) → Within (T i) (Lattice F Z A m w)

  -- where the quotient by an ideal, a lattice, is simple, each of the sets that is an ideal over it with a further
  -- member is everything
  abbrev pub SimpleHolds : {X : Type 0} → (X → V → Type 0) → Type 0
  SimpleHolds {X} T = (v : ℕ → V) → IsOrderAt F Z A n v → (m : ℕ) (w : ℕ → V)
      → IsIdeal A (Lattice F Z A n v) (Lattice F Z A m w) → SimpleQuotient A (Lattice F Z A n v) (Lattice F Z A m w)
      → (i : X) → IsIdeal A (Lattice F Z A n v) (T i) → Within (Lattice F Z A m w) (T i)
      → (x : V) → T i x → Lattice F Z A m w x ⊎ Within (Lattice F Z A n v) (T i)

  -- each of the sets that is a maximal ideal over p·L is the only one, where a lattice is the only one
  abbrev pub OnlyHolds : {X : Type 0} → (X → V → Type 0) → Type 0
  OnlyHolds {X} T = (v : ℕ → V) → IsOrderAt F Z A n v → (m : ℕ) (w : ℕ → V)
      → OnlyMaximalIdeal A p (Lattice F Z A n v) (Lattice F Z A m w)
      → (i : X) → IsMaximalIdeal A p (Lattice F Z A n v) (T i) → Same (T i) (Lattice F Z A m w)

  -- the same of sets of whatever form, each with a quotient that is simple by elements: they are one
  abbrev pub FamilyIsOne : {X : Type 0} → (X → V → Type 0) → Type 0
  FamilyIsOne {X} M = (v : ℕ → V) → IsOrderAt F Z A n v
      → ((i : X) → IsIdeal A (Lattice F Z A n v) (M i))
      → ((i : X) → Within (Multiple A p (Lattice F Z A n v)) (M i))
      → ((i : X) → SimpleByElements A (Lattice F Z A n v) (M i))
      → ((i : X) → Within (LeftOrder A (M i)) (Lattice F Z A n v))
      → (word : List X) → Within (WordProduct A (Lattice F Z A n v) M word) (Multiple A p (Lattice F Z A n v))
      → (i k : X) → Same (M i) (M k)
