-- A homomorphism of rings keeps 0 and opposites too; composites are homomorphisms.
use Rattle.std.specs.Prelude.{◌≡◌}
use Rattle.std.proofs.Common.{refl, ◌∙◌, ap}
use Rattle.theory_rings.specs.Ring.{RingOn}
use Rattle.theory_rings.specs.Homomorphism.{IsRingHom}
use Rattle.theory_rings.proofs.Rings.RingLaws.{additive-zero, additive-neg}

module _ {K L : Type 0} (R : RingOn K) (S : RingOn L) (h : K → L) (H : IsRingHom R S h) where
  pub map-zero : h R.zero ≡ S.zero
  map-zero = additive-zero R.additive S.additive h H.map-add

  pub map-neg : (a : K) → h (R.neg a) ≡ S.neg (h a)
  map-neg a = additive-neg R.additive S.additive h H.map-add a

pub id_hom : {K : Type 0} (R : RingOn K) → IsRingHom R R (λ a. a)
id_hom R = record { map-one = refl; map-add = λ a b. refl; map-mul = λ a b. refl }

pub comp_hom : {K L M : Type 0} (R : RingOn K) (S : RingOn L) (T : RingOn M) (h : K → L) (g : L → M)
    → IsRingHom R S h → IsRingHom S T g → IsRingHom R T (λ a. g (h a))
comp_hom R S T h g H G = record {
  map-one = ap g H.map-one ∙ G.map-one;
  map-add = λ a b. ap g (H.map-add a b) ∙ G.map-add (h a) (h b);
  map-mul = λ a b. ap g (H.map-mul a b) ∙ G.map-mul (h a) (h b);
}
