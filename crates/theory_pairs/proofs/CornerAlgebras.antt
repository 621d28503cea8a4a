-- The corner of an idempotent as an algebra, and a basis of it.
use Rattle.std.specs.Prelude.{◌≡◌, ℕ}
use Rattle.std.proofs.Common.{refl, sym, ◌∙◌, ap, ap₂}
use mathlib.Core.HLevel.{Σ_prop_path}
use Rattle.theory_rings.specs.Ring.{RingOn, FieldOn}
use Rattle.theory_rings.proofs.Rings.RingLaws.{mul-zero, zero-mul, mul-neg, neg-mul, additive-zero}
use Rattle.theory_spaces.specs.Module.{ModuleOn, AlgebraOn, module_of}
use Rattle.theory_spaces.specs.Linear.{InSpan, IsLinear, Basis, Coords}
use Rattle.theory_spaces.specs.Algebra.{InCorner}
use Rattle.theory_spaces.proofs.Linear.Modules.{comb_zero, map-comb}
use Rattle.theory_spaces.proofs.Linear.Spaces.{basis_of, span_basis}
use Rattle.theory_pairs.specs.Corner.{Corner, IsCorner}

-- what stands between e is in the corner
module _ {K V : Type 0} {R : RingOn K} (A : AlgebraOn R V) (e : V) (idem : A.◌⊗◌ e e ≡ e) where
  infixl 65 ◌⊕◌
  infixl 70 ◌⊗◌
  infixl 70 ◌•◌
  open A use {◌⊕◌, ◌⊗◌, ◌•◌, neg}

  pub between : (y : V) → InCorner A e ((e ⊗ y) ⊗ e)
  between y = (
    sym (A.mul_assoc e (e ⊗ y) e) ∙ ap (λ t. t ⊗ e) (sym (A.mul_assoc e e y) ∙ ap (λ t. t ⊗ y) idem),
    A.mul_assoc (e ⊗ y) e e ∙ ap (λ t. (e ⊗ y) ⊗ t) idem,
  )

  pub between_corner : (x : V) → InCorner A e x → (e ⊗ x) ⊗ e ≡ x
  between_corner x c = ap (λ t. t ⊗ e) c.0 ∙ c.1

  module _ (set : IsSet V) where
    pub corner_prop : (x : V) → IsProp (InCorner A e x)
    corner_prop x = λ p q i. (set (e ⊗ x) x p.0 q.0 i, set (x ⊗ e) x p.1 q.1 i)

    pub Corner-path : (a b : Corner A e) → a.0 ≡ b.0 → a ≡ b
    Corner-path a b p = Σ_prop_path corner_prop {u = a} {v = b} p

    abbrev pub corner_algebra : AlgebraOn R (Corner A e)
    corner_algebra =
        let C : Type 0 = Corner A e in
        let nought : C = (A.zero, (mul-zero A.ring e, zero-mul A.ring e)) in
        let unit : C = (e, (idem, idem)) in
        let plus : C → C → C =
        λ a b. (
          a.0 ⊕ b.0,
          (
            A.mul-add e a.0 b.0 ∙ ap₂ (λ s t. s ⊕ t) a.1.0 b.1.0,
            A.add-mul a.0 b.0 e
                ∙ ap₂ (λ s t. s ⊕ t) a.1.1 b.1.1,
          ),
        ) in
        let minus : C → C =
        λ a. (neg a.0, (mul-neg A.ring e a.0 ∙ ap neg a.1.0, neg-mul A.ring a.0 e ∙ ap neg a.1.1)) in
        let times : C → C → C =
        λ a b. (
          a.0 ⊗ b.0,
          (
            sym (A.mul_assoc e a.0 b.0) ∙ ap (λ t. t ⊗ b.0) a.1.0,
            A.mul_assoc a.0 b.0 e
                ∙ ap (λ t. a.0 ⊗ t) b.1.1,
          ),
        ) in
        let scale : K → C → C =
        λ k a. (k • a.0, (A.scale-right k e a.0 ∙ ap (A.◌•◌ k) a.1.0, A.scale-left k a.0 e ∙ ap (A.◌•◌ k) a.1.1)) in
        record {
          ring = record {
            additive = record {
              monoid = record {
                zero = nought;
                ◌⊕◌ = plus;
                add_assoc = λ a b c. Corner-path (plus (plus a b) c) (plus a (plus b c)) (A.add_assoc a.0 b.0 c.0);
                add_comm = λ a b. Corner-path (plus a b) (plus b a) (A.add_comm a.0 b.0);
                zero-add = λ a. Corner-path (plus nought a) a (A.zero-add a.0);
              };
              neg = minus;
              neg-add = λ a. Corner-path (plus (minus a) a) nought (A.neg-add a.0);
            };
            one = unit;
            ◌⊗◌ = times;
            mul_assoc = λ a b c. Corner-path (times (times a b) c) (times a (times b c)) (A.mul_assoc a.0 b.0 c.0);
            one-mul = λ a. Corner-path (times unit a) a a.1.0;
            mul-one = λ a. Corner-path (times a unit) a a.1.1;
            mul-add = λ a b c. Corner-path (times a (plus b c)) (plus (times a b) (times a c)) (A.mul-add a.0 b.0 c.0);
            add-mul = λ a b c. Corner-path (times (plus a b) c) (plus (times a c) (times b c)) (A.add-mul a.0 b.0 c.0);
          };
          scalars = record {
            ◌•◌ = scale;
            scale-add = λ k a b. Corner-path (scale k (plus a b)) (plus (scale k a) (scale k b))
                (A.scale-add k a.0 b.0);
            add-scale = λ k l a. Corner-path (scale (R.◌⊕◌ k l) a) (plus (scale k a) (scale l a)) (A.add-scale k l a.0);
            mul-scale = λ k l a. Corner-path (scale (R.◌⊗◌ k l) a) (scale k (scale l a)) (A.mul-scale k l a.0);
            one-scale = λ a. Corner-path (scale R.one a) a (A.one-scale a.0);
          };
          scale-left = λ k a b. Corner-path (times (scale k a) b) (scale k (times a b)) (A.scale-left k a.0 b.0);
          scale-right = λ k a b. Corner-path (times a (scale k b)) (scale k (times a b)) (A.scale-right k a.0 b.0);
        }

    pub corner_algebra-corner : IsCorner A e corner_algebra (λ x. x.0)
    corner_algebra-corner = record {
      map-one = refl;
      map-add = λ x y. refl;
      map-mul = λ x y. refl;
      map-scale = λ a x. refl;
      injective = Corner-path;
      inside = λ x. x.1;
      onto = λ y c. ((y, c), refl);
    }

-- a corner as an algebra, however it is written
module _ {K V W : Type 0} {R : RingOn K} (A : AlgebraOn R V) (e : V) (idem : A.◌⊗◌ e e ≡ e) (C : AlgebraOn R W)
    (ι : W → V) (H : IsCorner A e C ι) where
  infixl 70 ◌⊗◌
  open A use {◌⊗◌}

  pub ι-zero : ι C.zero ≡ A.zero
  ι-zero = additive-zero C.additive A.additive ι H.map-add

  -- what e·y·e is in C
  abbrev pub pull : V → W
  pull y = (H.onto ((e ⊗ y) ⊗ e) (between A e idem y)).0

  pub ι-pull : (y : V) → ι (pull y) ≡ (e ⊗ y) ⊗ e
  ι-pull y = (H.onto ((e ⊗ y) ⊗ e) (between A e idem y)).1

  pub pull-ι : (x : W) → pull (ι x) ≡ x
  pull-ι x = H.injective (pull (ι x)) x (ι-pull (ι x) ∙ between_corner A e idem (ι x) (H.inside x))

  pub pull_linear : IsLinear (module_of A) (module_of C) pull
  pull_linear = record {
    map-add = λ x y. H.injective (pull (A.◌⊕◌ x y)) (C.◌⊕◌ (pull x) (pull y))
        (ι-pull (A.◌⊕◌ x y) ∙ ap (λ t. t ⊗ e) (A.mul-add e x y) ∙ A.add-mul (e ⊗ x) (e ⊗ y) e
        ∙ sym (H.map-add (pull x) (pull y) ∙ ap₂ A.◌⊕◌ (ι-pull x) (ι-pull y)));
    map-scale = λ a x. H.injective (pull (A.◌•◌ a x)) (C.◌•◌ a (pull x))
        (ι-pull (A.◌•◌ a x) ∙ ap (λ t. t ⊗ e) (A.scale-right a e x) ∙ A.scale-left a (e ⊗ x) e
        ∙ sym (H.map-scale a (pull x) ∙ ap (A.◌•◌ a) (ι-pull x)));
  }

module _ {K V W : Type 0} (F : FieldOn K) (A : AlgebraOn F.ring V) (n : ℕ) (B : Basis (module_of A) n) (e : V)
    (idem : A.◌⊗◌ e e ≡ e)
    (C : AlgebraOn F.ring W) (ι : W → V) (H : IsCorner A e C ι) where
  abbrev N : ModuleOn F.ring W
  N = module_of C

  abbrev coords : Coords N n
  coords = record {
    coord = λ x. B.coord (ι x);
    coord-zero = λ j. ap (λ z. B.coord z j) (ι-zero A e idem C ι H) ∙ B.coord-zero j;
    coord-add = λ x y j. ap (λ z. B.coord z j) (H.map-add x y) ∙ B.coord-add (ι x) (ι y) j;
    coord-scale = λ a x j. ap (λ z. B.coord z j) (H.map-scale a x) ∙ B.coord-scale a (ι x) j;
    faithful = λ x h. H.injective x C.zero (B.expand (ι x) ∙ comb_zero (module_of A) n (B.coord (ι x)) B.vec h
        ∙ sym (ι-zero A e idem C ι H));
  }

  abbrev p : V → W
  p = pull A e idem C ι H

  spans : (x : W) → InSpan N n (λ i. p (B.vec i)) x
  spans x = record {
    weights = B.coord (ι x);
    combines = sym (pull-ι A e idem C ι H x) ∙ ap p (B.expand (ι x))
        ∙ map-comb (module_of A) N p (pull_linear A e idem C ι H) n (B.coord (ι x)) B.vec;
  }

  pub corner_basis : (k : ℕ) × Basis N k
  corner_basis =
      let r = span_basis F N n coords n (λ i. p (B.vec i)) in
      let U = r.1 in
      (r.0, basis_of N r.0 U.vec U.independent (λ x. U.spans x (spans x)))
