-- Homomorphisms of rings.
use Rattle.std.specs.Prelude.{◌≡◌}
use Rattle.theory_rings.specs.Ring.{RingOn}

-- h keeps 1, sums and products
pub record IsRingHom {K L : Type 0} (R : RingOn K) (S : RingOn L) (h : K → L) : Type 0 where
  pub map-one : h R.one ≡ S.one
  pub map-add : (a b : K) → h (R.◌⊕◌ a b) ≡ S.◌⊕◌ (h a) (h b)
  pub map-mul : (a b : K) → h (R.◌⊗◌ a b) ≡ S.◌⊗◌ (h a) (h b)
