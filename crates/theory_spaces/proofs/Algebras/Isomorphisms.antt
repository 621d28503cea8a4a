-- Isomorphisms of algebras: inverses and composites, and what they carry over: bases, and that an algebra is simple or
-- central.
use Rattle.std.specs.Prelude.{◌≡◌, ℕ, ◌<◌}
use Rattle.std.proofs.Common.{sym, ◌∙◌, ap, ap₂, inl, inr, subst, ⊎_elim}
use Rattle.theory_rings.specs.Ring.{RingOn}
use Rattle.theory_rings.specs.Homomorphism.{IsRingHom}
use Rattle.theory_spaces.specs.Module.{AlgebraOn, module_of}
use Rattle.theory_spaces.specs.Linear.{comb, InSpan, Basis, IsLinear}
use Rattle.theory_spaces.specs.Algebra.{IdealSpan, Central, CentralSimple}
use Rattle.theory_spaces.specs.AlgebraMap.{IsAlgebraHom, IsAlgebraIso, IsSimple}
use Rattle.theory_spaces.proofs.Algebras.Ideals.{span_ideal}
use Rattle.theory_spaces.proofs.Linear.Modules.{map-zero, map-comb, comb_congr_right, InSpan-member}

pub hom_linear : {K V W : Type 0} {R : RingOn K} (A : AlgebraOn R V) (B : AlgebraOn R W) (f : V → W)
    → IsAlgebraHom A B f → IsLinear (module_of A) (module_of B) f
hom_linear A B f h = record { map-add = h.map-add; map-scale = h.map-scale }

pub hom_ring : {K V W : Type 0} {R : RingOn K} (A : AlgebraOn R V) (B : AlgebraOn R W) (f : V → W)
    → IsAlgebraHom A B f → IsRingHom A.ring B.ring f
hom_ring A B f h = record { map-one = h.map-one; map-add = h.map-add; map-mul = h.map-mul }

pub hom-comb : {K V W : Type 0} {R : RingOn K} (A : AlgebraOn R V) (B : AlgebraOn R W) (f : V → W) → IsAlgebraHom A B f
    → (n : ℕ) (c : ℕ → K) (v : ℕ → V) → f (comb (module_of A) n c v) ≡ comb (module_of B) n c (λ i. f (v i))
hom-comb A B f h = map-comb (module_of A) (module_of B) f (hom_linear A B f h)

-- a map onto an algebra that keeps products keeps one
pub map-one_of_surjective : {K V W : Type 0} {R : RingOn K} (A : AlgebraOn R V) (B : AlgebraOn R W) (f : V → W)
    → ((x y : V) → f (A.◌⊗◌ x y) ≡ B.◌⊗◌ (f x) (f y)) → ((y : W) → (x : V) × (f x ≡ y)) → f A.one ≡ B.one
map-one_of_surjective A B f mul onto =
    let u = onto B.one in
    sym (B.mul-one (f A.one)) ∙ ap (B.◌⊗◌ (f A.one)) (sym u.1) ∙ sym (mul A.one u.0) ∙ ap f (A.one-mul u.0) ∙ u.1

pub iso_comp : {K U V W : Type 0} {R : RingOn K} (A : AlgebraOn R U) (B : AlgebraOn R V) (C : AlgebraOn R W)
    (f : U → V) (g : V → W)
    → IsAlgebraIso A B f → IsAlgebraIso B C g → IsAlgebraIso A C (λ x. g (f x))
iso_comp A B C f g hf hg = record {
  hom = record {
    map-one = ap g hf.hom.map-one ∙ hg.hom.map-one;
    map-add = λ x y. ap g (hf.hom.map-add x y) ∙ hg.hom.map-add (f x) (f y);
    map-mul = λ x y. ap g (hf.hom.map-mul x y) ∙ hg.hom.map-mul (f x) (f y);
    map-scale = λ a x. ap g (hf.hom.map-scale a x) ∙ hg.hom.map-scale a (f x);
  };
  injective = λ x y e. hf.injective x y (hg.injective (f x) (f y) e);
  surjective = λ z. let y = hg.surjective z in let x = hf.surjective y.0 in (x.0, ap g x.1 ∙ y.1);
}

module _ {K V W : Type 0} {R : RingOn K} (A : AlgebraOn R V) (B : AlgebraOn R W) (f : V → W)
    (h : IsAlgebraIso A B f) where
  abbrev linear : IsLinear (module_of A) (module_of B) f
  linear = hom_linear A B f h.hom

  -- what f sends to y
  abbrev pub inverse : W → V
  inverse y = (h.surjective y).0

  pub map-inverse : (y : W) → f (inverse y) ≡ y
  map-inverse y = (h.surjective y).1

  pub inverse-map : (x : V) → inverse (f x) ≡ x
  inverse-map x = h.injective (inverse (f x)) x (map-inverse (f x))

  pub iso_inverse : IsAlgebraIso B A inverse
  iso_inverse = record {
    hom = record {
      map-one = h.injective (inverse B.one) A.one (map-inverse B.one ∙ sym h.hom.map-one);
      map-add = λ x y. h.injective (inverse (B.◌⊕◌ x y)) (A.◌⊕◌ (inverse x) (inverse y))
          (map-inverse (B.◌⊕◌ x y)
          ∙ sym (h.hom.map-add (inverse x) (inverse y) ∙ ap₂ B.◌⊕◌ (map-inverse x) (map-inverse y)));
      map-mul = λ x y. h.injective (inverse (B.◌⊗◌ x y)) (A.◌⊗◌ (inverse x) (inverse y))
          (map-inverse (B.◌⊗◌ x y)
          ∙ sym (h.hom.map-mul (inverse x) (inverse y) ∙ ap₂ B.◌⊗◌ (map-inverse x) (map-inverse y)));
      map-scale = λ a x. h.injective (inverse (B.◌•◌ a x)) (A.◌•◌ a (inverse x))
          (map-inverse (B.◌•◌ a x) ∙ sym (h.hom.map-scale a (inverse x) ∙ ap (B.◌•◌ a) (map-inverse x)));
    };
    injective = λ x y e. sym (map-inverse x) ∙ ap f e ∙ map-inverse y;
    surjective = λ x. (f x, inverse-map x);
  }

  -- a basis, carried back
  abbrev pub iso_basis : (n : ℕ) → Basis (module_of B) n → Basis (module_of A) n
  iso_basis n D = record {
    vec = λ i. inverse (D.vec i);
    independent = record {
      only_zero = λ c e. D.independent.only_zero c
          (comb_congr_right (module_of B) n c D.vec (λ i. f (inverse (D.vec i))) (λ i _. sym (map-inverse (D.vec i)))
          ∙ sym (hom-comb A B f h.hom n c (λ i. inverse (D.vec i))) ∙ ap f e
          ∙ map-zero (module_of A) (module_of B) f linear);
    };
    coord = λ x. D.coord (f x);
    coord-zero = λ j. ap (λ y. D.coord y j) (map-zero (module_of A) (module_of B) f linear) ∙ D.coord-zero j;
    coord-add = λ x y j. ap (λ z. D.coord z j) (h.hom.map-add x y) ∙ D.coord-add (f x) (f y) j;
    coord-scale = λ a x j. ap (λ z. D.coord z j) (h.hom.map-scale a x) ∙ D.coord-scale a (f x) j;
    expand = λ x. h.injective x (comb (module_of A) n (D.coord (f x)) (λ i. inverse (D.vec i)))
        (D.expand (f x) ∙ sym (hom-comb A B f h.hom n (D.coord (f x)) (λ i. inverse (D.vec i))
        ∙ comb_congr_right (module_of B) n (D.coord (f x)) (λ i. f (inverse (D.vec i))) D.vec
        (λ i _. map-inverse (D.vec i))));
  }

  pub iso_central : Central B → Central A
  iso_central c = record {
    multiple = λ x commutes.
        let m = c.multiple (f x) (λ y.
        ap (B.◌⊗◌ (f x)) (sym (map-inverse y)) ∙ sym (h.hom.map-mul x (inverse y)) ∙ ap f (commutes (inverse y))
        ∙ h.hom.map-mul (inverse y) x ∙ ap (λ z. B.◌⊗◌ z (f x)) (map-inverse y)) in
        (m.0, h.injective x (A.◌•◌ m.0 A.one) (m.1 ∙ sym (h.hom.map-scale m.0 A.one ∙ ap (B.◌•◌ m.0) h.hom.map-one)));
  }

  -- the image of a span
  map_span : (n : ℕ) (g : ℕ → V) (x : V) → InSpan (module_of A) n g x → InSpan (module_of B) n (λ i. f (g i)) (f x)
  map_span n g x s = record { weights = s.weights; combines = ap f s.combines ∙ hom-comb A B f h.hom n s.weights g }

  span_of_map : (n : ℕ) (g : ℕ → V) (x : V) → InSpan (module_of B) n (λ i. f (g i)) (f x) → InSpan (module_of A) n g x
  span_of_map n g x s =
      record {
        weights = s.weights;
        combines =
            h.injective x (comb (module_of A) n s.weights g) (s.combines ∙ sym (hom-comb A B f h.hom n s.weights g));
      }

  map_ideal : (n : ℕ) (g : ℕ → V) → IdealSpan A n g → IdealSpan B n (λ i. f (g i))
  map_ideal n g ideal =
      let In : W → Type 0 = InSpan (module_of B) n (λ i. f (g i)) in
      span_ideal B n (λ i. f (g i))
      (λ i l y. subst In (h.hom.map-mul (inverse y) (g i) ∙ ap (λ z. B.◌⊗◌ z (f (g i))) (map-inverse y))
      (map_span n g (A.◌⊗◌ (inverse y) (g i)) (ideal.left (inverse y) (g i) tt (InSpan-member (module_of A) n i g l))))
      (λ i l y. subst In (h.hom.map-mul (g i) (inverse y) ∙ ap (B.◌⊗◌ (f (g i))) (map-inverse y))
      (map_span n g (A.◌⊗◌ (g i) (inverse y)) (ideal.right (inverse y) (g i) tt (InSpan-member (module_of A) n i g l))))

  pub iso_simple : IsSimple B → IsSimple A
  iso_simple simple n g ideal = ⊎_elim
      (λ (z : (i : ℕ) → i < n → f (g i) ≡ B.zero). inl
      (λ i l. h.injective (g i) A.zero (z i l ∙ sym (map-zero (module_of A) (module_of B) f linear))))
      (λ (s : (y : W) → InSpan (module_of B) n (λ i. f (g i)) y). inr (λ x. span_of_map n g x (s (f x))))
      (simple n (λ i. f (g i)) (map_ideal n g ideal))

  -- what is isomorphic to a central simple algebra is central simple
  pub iso_central_simple : CentralSimple B → CentralSimple A
  iso_central_simple c = record { central = iso_central c.central; simple = iso_simple c.simple }
