-- Subrings of a field with a residue field: the integral elements at a place, modulo a uniformizer, and the polynomials
-- among the rational functions, modulo an irreducible one. (Reiner, Maximal Orders, sections 5 and 8.)
use Rattle.std.specs.Prelude.{◌≡◌, ◌↔◌}
use Rattle.theory_rings.specs.Ring.{FieldOn}
use Rattle.theory_spaces.specs.Lattice.{IsSubring}

module _ {K E : Type 0} (F : FieldOn K) (P : K → Type 0) (p q : K) (k : FieldOn E) where
  -- P is a subring and p, with the inverse q in the field, a member of it; the members of P are mapped onto k by sums
  -- and products; those that q makes members become 0, and no others. What the map does elsewhere is not said
  pub record ResidueRingOn : Type 0 where
    pub subring : IsSubring F.ring P
    pub p_in : P p
    pub pq : F.◌⊗◌ p q ≡ F.one
    pub res : K → E
    pub lift : E → K
    pub lift_in : (a : E) → P (lift a)
    pub res-lift : (a : E) → res (lift a) ≡ a
    pub map-one : res F.one ≡ k.one
    pub map-add : (a b : K) → P a → P b → res (F.◌⊕◌ a b) ≡ k.◌⊕◌ (res a) (res b)
    pub map-mul : (a b : K) → P a → P b → res (F.◌⊗◌ a b) ≡ k.◌⊗◌ (res a) (res b)
    pub kernel : (a : K) → P a → (res a ≡ k.zero) ↔ P (F.◌⊗◌ q a)
