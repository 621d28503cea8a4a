-- Residue fields of a valuation ring, and maps of an order onto an algebra, by which ideals correspond. (Reiner,
-- Maximal Orders, sections 5, 6 and 39.)
use Rattle.std.specs.Prelude.{◌≡◌, ℕ, suc, ◌<◌, ◌↔◌}
use Rattle.theory_rings.specs.Ring.{RingOn, FieldOn}
use Rattle.theory_spaces.specs.Module.{AlgebraOn, module_of}
use Rattle.theory_spaces.specs.Linear.{comb, Basis}
use Rattle.theory_spaces.specs.Valuation.{ValuationOn}
use Rattle.theory_orders.specs.Uniformizer.{IsIntegral}
use Rattle.theory_orders.specs.Orders.{IsIdeal, Power, Multiple, Within, Same}
use Rattle.theory_orders.specs.Lattices.{Lattice}
use Rattle.theory_radical.specs.Ideal.{ProductsVanish, IsIdeal as IsRingIdeal}

module _ {K E : Type 0} (F : FieldOn K) (Z : ValuationOn F) (q : K) (k : FieldOn E) where
  -- k is the residue field: the integral elements are mapped onto it by sums and products; those that q makes integral
  -- become 0, and no others. Here q is the inverse of a uniformizer. What the map does elsewhere is not said
  pub record ResidueOn : Type 0 where
    pub res : K → E
    pub lift : E → K
    pub lift_in : (a : E) → IsIntegral F Z (lift a)
    pub res-lift : (a : E) → res (lift a) ≡ a
    pub map-one : res F.one ≡ k.one
    pub map-add : (a b : K) → IsIntegral F Z a → IsIntegral F Z b → res (F.◌⊕◌ a b) ≡ k.◌⊕◌ (res a) (res b)
    pub map-mul : (a b : K) → IsIntegral F Z a → IsIntegral F Z b → res (F.◌⊗◌ a b) ≡ k.◌⊗◌ (res a) (res b)
    pub kernel : (a : K) → IsIntegral F Z a → (res a ≡ k.zero) ↔ IsIntegral F Z (F.◌⊗◌ q a)

module _ {K E V W : Type 0} {R : RingOn K} {S : RingOn E} (A : AlgebraOn R V) (L N : V → Type 0)
    (B : AlgebraOn S W) where
  -- L is mapped onto the algebra B by sums and products; the members of N become 0, and no others
  pub record ReductionOn : Type 0 where
    pub red : V → W
    pub lift : W → V
    pub lift_in : (w : W) → L (lift w)
    pub red-lift : (w : W) → red (lift w) ≡ w
    pub map-one : red A.one ≡ B.one
    pub map-add : (x y : V) → L x → L y → red (A.◌⊕◌ x y) ≡ B.◌⊕◌ (red x) (red y)
    pub map-mul : (x y : V) → L x → L y → red (A.◌⊗◌ x y) ≡ B.◌⊗◌ (red x) (red y)
    pub kernel : (x : V) → L x → (red x ≡ B.zero) ↔ N x
    pub kernel_in : Within N L

  module _ (r : ReductionOn) where
    -- what the members of J become
    abbrev pub Reduced : (V → Type 0) → W → Type 0
    Reduced J w = (x : V) × J x × (r.red x ≡ w)

    -- the members of L that become members of I
    abbrev pub Lifted : (W → Type 0) → V → Type 0
    Lifted I x = L x × I (r.red x)

    -- what an ideal J of L over N becomes is an ideal of B, from which J comes back; a power of J lies in N just where
    -- the products of as many members of that are 0
    pub record ReducedIdeal (J : V → Type 0) : Type 0 where
      pub ideal : IsRingIdeal B.ring (Reduced J)
      pub lifted : Same (Lifted (Reduced J)) J
      pub powers : (e : ℕ) → Within (Power A J e) N ↔ ProductsVanish B.ring (Reduced J) (suc e)

    -- what an ideal I of B comes from is an ideal of L over N, which becomes I
    pub record LiftedIdeal (I : W → Type 0) : Type 0 where
      pub ideal : IsIdeal A L (Lifted I)
      pub over : Within N (Lifted I)
      pub reduced : Same (Reduced (Lifted I)) I

    -- L becomes B, and N becomes 0
    pub record EndsCorrespond : Type 0 where
      pub whole : (w : W) → Reduced L w
      pub kernel : Same (Reduced N) (λ w. w ≡ B.zero)

module _ {K E V W : Type 0} (F : FieldOn K) (Z : ValuationOn F) {q : K} (k : FieldOn E) (D : ResidueOn F Z q k)
    (A : AlgebraOn F.ring V) (B : AlgebraOn k.ring W) (n : ℕ) (v : ℕ → V) (w : ℕ → W) where
  -- the vectors w multiply by the residues of the constants by which the vectors v do
  abbrev pub ResidueConstants : Type 0
  ResidueConstants = (i j : ℕ) → i < n → j < n → (c : ℕ → K) → A.◌⊗◌ (v i) (v j) ≡ comb (module_of A) n c v
      → B.◌⊗◌ (w i) (w j) ≡ comb (module_of B) n (λ l. D.res (c l)) w

module _ {K E V : Type 0} (F : FieldOn K) (Z : ValuationOn F) (p : K) {q : K} (k : FieldOn E) (D : ResidueOn F Z q k)
    (A : AlgebraOn F.ring V) where
  -- the lattice of v is mapped onto B with kernel p·Λ: the residues of the weights at v are the weights at w
  pub record ResidueReduction {W : Type 0} (B : AlgebraOn k.ring W) (n : ℕ) (v : ℕ → V) (w : ℕ → W) : Type 0 where
    pub reduction : ReductionOn A (Lattice F Z A n v) (Multiple A p (Lattice F Z A n v)) B
    pub values : (c : ℕ → K) → ((i : ℕ) → i < n → IsIntegral F Z (c i))
        → reduction.red (comb (module_of A) n c v) ≡ comb (module_of B) n (λ i. D.res (c i)) w
    pub map-scale : (a : K) (x : V) → IsIntegral F Z a → Lattice F Z A n v x
        → reduction.red (A.◌•◌ a x) ≡ B.◌•◌ (D.res a) (reduction.red x)

  -- an algebra on the type W whose constants are the residues of those of v, and the map onto it
  pub record ResidueAlgebra (n : ℕ) (v : ℕ → V) (W : Type 0) : Type 0 where
    pub algebra : AlgebraOn k.ring W
    pub basis : Basis (module_of algebra) n
    pub constants : ResidueConstants F Z k D A algebra n v basis.vec
    pub reduction : ResidueReduction algebra n v basis.vec
