-- Homomorphisms and isomorphisms of algebras.
use Rattle.std.specs.Prelude.{◌≡◌}
use Rattle.theory_rings.specs.Ring.{RingOn}
use Rattle.theory_spaces.specs.Module.{AlgebraOn}
pub use Rattle.theory_spaces.specs.Algebra.{IsSimple}

module _ {K V W : Type 0} {R : RingOn K} (A : AlgebraOn R V) (B : AlgebraOn R W) (f : V → W) where
  -- f keeps one, sums, products and multiples
  pub record IsAlgebraHom : Type 0 where
    pub map-one : f A.one ≡ B.one
    pub map-add : (x y : V) → f (A.◌⊕◌ x y) ≡ B.◌⊕◌ (f x) (f y)
    pub map-mul : (x y : V) → f (A.◌⊗◌ x y) ≡ B.◌⊗◌ (f x) (f y)
    pub map-scale : (a : K) (x : V) → f (A.◌•◌ a x) ≡ B.◌•◌ a (f x)

  -- a bijective homomorphism
  pub record IsAlgebraIso : Type 0 where
    pub hom : IsAlgebraHom
    pub injective : (x y : V) → f x ≡ f y → x ≡ y
    pub surjective : (y : W) → (x : V) × (f x ≡ y)
