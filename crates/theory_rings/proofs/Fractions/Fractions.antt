-- The field of fractions of a commutative ring in which each fraction has exactly one pair in lowest terms.
use Rattle.std.specs.Prelude.{◌≡◌, ◌≢◌, Bool, true, false, [], ◌∷◌}
use Rattle.std.proofs.Common.{refl, sym, ◌∙◌, ap, ap₂}
use mathlib.Core.HLevel.{Σ_prop_path}
use Rattle.theory_rings.specs.Ring.{CommRingOn, FieldOn, ZeroTest}
use Rattle.theory_rings.specs.Homomorphism.{IsRingHom}
use Rattle.theory_rings.specs.Fraction.{SameFraction, Fraction, IsValue, IsFractionField}
use Rattle.theory_rings.proofs.Rings.RingLaws.{mul-zero, zero-mul, neg-mul}
use Rattle.theory_rings.proofs.Rings.ZeroTests.{is_zero-complete}
use Rattle.theory_rings.proofs.Rings.Solver.{◌⊞◌, ◌⊠◌, minus, unit, nil, var, v0, v1, v2, v3, v4, ring2, ring3, ring4}
use Rattle.theory_rings.proofs.Rings.Solver.{by_sorted}

-- products cancel, and each fraction with a denominator that is not 0 has exactly one pair in lowest terms
pub record IsReduction {D : Type 0} (C : CommRingOn D) (Lowest : D → D → Type 0) : Type 0 where
  pub one-nonzero : C.one ≢ C.zero
  pub mul_cancel_left : (a b c : D) → a ≢ C.zero → C.◌⊗◌ a b ≡ C.◌⊗◌ a c → b ≡ c
  pub lowest_prop : (u v : D) → IsProp (Lowest u v)
  pub lowest-ne-zero : (u v : D) → Lowest u v → v ≢ C.zero
  pub reduced : (u v : D) → v ≢ C.zero → (w : D × D) × Lowest w.0 w.1 × SameFraction C w.0 w.1 u v
  pub unique : (u v u' v' : D) → Lowest u v → Lowest u' v' → SameFraction C u v u' v' → (u ≡ u') × (v ≡ v')

module _ {D : Type 0} (C : CommRingOn D) (Lowest : D → D → Type 0) (I : IsReduction C Lowest) where
  infixl 65 ◌⊕◌
  infixl 70 ◌⊗◌
  open C use {zero, one, ◌⊕◌, ◌⊗◌, neg}

  abbrev Frac : Type 0
  Frac = Fraction Lowest

  -- fractions that are the same are one
  pub Fraction-path : (x y : Frac) → SameFraction C x.0.0 x.0.1 y.0.0 y.0.1 → x ≡ y
  Fraction-path x y e =
      let s = I.unique x.0.0 x.0.1 y.0.0 y.0.1 x.1 y.1 e in
      Σ_prop_path (λ w. I.lowest_prop w.0 w.1) {u = x} {v = y} (ap₂ (λ u v. (u, v)) s.0 s.1)

  pub denominator-ne-zero : (x : Frac) → x.0.1 ≢ zero
  denominator-ne-zero x = I.lowest-ne-zero x.0.0 x.0.1 x.1

  pub product-ne-zero : (a b : D) → a ≢ zero → b ≢ zero → a ⊗ b ≢ zero
  product-ne-zero a b ha hb e = hb (I.mul_cancel_left a b zero ha (e ∙ sym (mul-zero C.ring a)))

  abbrev Is : Frac → D → D → Type 0
  Is = IsValue C Lowest

  -- u / v in lowest terms
  pub reduce : (u v : D) → v ≢ zero → Frac
  reduce u v h = let r = I.reduced u v h in (r.0, r.1)

  pub reduce_value : (u v : D) (h : v ≢ zero) → Is (reduce u v h) u v
  unfolding reduce
  reduce_value u v h = let r = I.reduced u v h in r.2

  -- the fraction with a given value is unique
  pub value_unique : (x y : Frac) (u v u' v' : D) → v ≢ zero → v' ≢ zero → Is x u v → Is y u' v'
      → SameFraction C u v u' v' → x ≡ y
  value_unique x y u v u' v' h h' ex ey e =
      Fraction-path x y (I.mul_cancel_left (v ⊗ v') (x.0.0 ⊗ y.0.1) (y.0.0 ⊗ x.0.1) (product-ne-zero v v' h h')
      (ring4 C (λ a b v w. (v ⊠ w ⊠ (a ⊠ b), a ⊠ v ⊠ (b ⊠ w))) refl x.0.0 y.0.1 v v'
      ∙ ap (λ z. z ⊗ (y.0.1 ⊗ v')) ex
      ∙ ring4 C (λ u a b w. (u ⊠ a ⊠ (b ⊠ w), u ⊠ w ⊠ (a ⊠ b))) refl u x.0.1 y.0.1 v'
      ∙ ap (λ z. z ⊗ (x.0.1 ⊗ y.0.1)) e
      ∙ ring4 C (λ u v a b. (u ⊠ v ⊠ (a ⊠ b), u ⊠ b ⊠ (a ⊠ v))) refl u' v x.0.1 y.0.1
      ∙ ap (λ z. z ⊗ (x.0.1 ⊗ v)) (sym ey)
      ∙ ring4 C (λ a w b v. (a ⊠ w ⊠ (b ⊠ v), v ⊠ w ⊠ (a ⊠ b))) refl y.0.0 v' x.0.1 v))

  -- a value may be written with other terms
  pub value_same : (x : Frac) (u v u' v' : D) → v ≢ zero → Is x u v → SameFraction C u v u' v' → Is x u' v'
  value_same x u v u' v' h e s =
      I.mul_cancel_left v (x.0.0 ⊗ v') (u' ⊗ x.0.1) h
      (ring3 C (λ v a w. (v ⊠ (a ⊠ w), a ⊠ v ⊠ w)) refl v x.0.0 v' ∙ ap (λ z. z ⊗ v') e
      ∙ ring3 C (λ u b w. (u ⊠ b ⊠ w, u ⊠ w ⊠ b)) refl u x.0.1 v' ∙ ap (λ z. z ⊗ x.0.1) s
      ∙ ring3 C (λ u v b. (u ⊠ v ⊠ b, v ⊠ (u ⊠ b))) refl u' v x.0.1)

  denominators : (x y : Frac) → x.0.1 ⊗ y.0.1 ≢ zero
  denominators x y = product-ne-zero x.0.1 y.0.1 (denominator-ne-zero x) (denominator-ne-zero y)

  pub fraction_zero : Frac
  fraction_zero = reduce zero one I.one-nonzero

  pub fraction_one : Frac
  fraction_one = reduce one one I.one-nonzero

  pub fraction_add : Frac → Frac → Frac
  fraction_add x y = reduce (x.0.0 ⊗ y.0.1 ⊕ y.0.0 ⊗ x.0.1) (x.0.1 ⊗ y.0.1) (denominators x y)

  pub fraction_neg : Frac → Frac
  fraction_neg x = reduce (neg x.0.0) x.0.1 (denominator-ne-zero x)

  pub fraction_mul : Frac → Frac → Frac
  fraction_mul x y = reduce (x.0.0 ⊗ y.0.0) (x.0.1 ⊗ y.0.1) (denominators x y)

  pub zero_value : Is fraction_zero zero one
  unfolding fraction_zero
  zero_value = reduce_value zero one I.one-nonzero

  pub one_value : Is fraction_one one one
  unfolding fraction_one
  one_value = reduce_value one one I.one-nonzero

  pub add_value : (x y : Frac) (u v u' v' : D) → Is x u v → Is y u' v'
      → Is (fraction_add x y) (u ⊗ v' ⊕ u' ⊗ v) (v ⊗ v')
  unfolding fraction_add
  add_value x y u v u' v' ex ey =
      value_same (fraction_add x y) (x.0.0 ⊗ y.0.1 ⊕ y.0.0 ⊗ x.0.1) (x.0.1 ⊗ y.0.1) (u ⊗ v' ⊕ u' ⊗ v) (v ⊗ v')
      (denominators x y) (reduce_value (x.0.0 ⊗ y.0.1 ⊕ y.0.0 ⊗ x.0.1) (x.0.1 ⊗ y.0.1) (denominators x y))
      (by_sorted C (x.0.0 ∷ y.0.1 ∷ y.0.0 ∷ x.0.1 ∷ v ∷ v' ∷ [])
      ((v0 ⊠ v1 ⊞ v2 ⊠ v3) ⊠ (v4 ⊠ var 5)) (v0 ⊠ v4 ⊠ (v1 ⊠ var 5) ⊞ v2 ⊠ var 5 ⊠ (v3 ⊠ v4)) refl
      ∙ ap₂ (λ s t. s ⊗ (y.0.1 ⊗ v') ⊕ t ⊗ (x.0.1 ⊗ v)) ex ey
      ∙ by_sorted C (u ∷ x.0.1 ∷ y.0.1 ∷ v' ∷ u' ∷ v ∷ [])
      (v0 ⊠ v1 ⊠ (v2 ⊠ v3) ⊞ v4 ⊠ v2 ⊠ (v1 ⊠ var 5)) ((v0 ⊠ v3 ⊞ v4 ⊠ var 5) ⊠ (v1 ⊠ v2)) refl)

  pub mul_value : (x y : Frac) (u v u' v' : D) → Is x u v → Is y u' v' → Is (fraction_mul x y) (u ⊗ u') (v ⊗ v')
  unfolding fraction_mul
  mul_value x y u v u' v' ex ey =
      value_same (fraction_mul x y) (x.0.0 ⊗ y.0.0) (x.0.1 ⊗ y.0.1) (u ⊗ u') (v ⊗ v')
      (denominators x y) (reduce_value (x.0.0 ⊗ y.0.0) (x.0.1 ⊗ y.0.1) (denominators x y))
      (ring4 C (λ a c v w. (a ⊠ c ⊠ (v ⊠ w), a ⊠ v ⊠ (c ⊠ w))) refl x.0.0 y.0.0 v v'
      ∙ ap₂ (λ s t. s ⊗ t) ex ey
      ∙ ring4 C (λ u b w e. (u ⊠ b ⊠ (w ⊠ e), u ⊠ w ⊠ (b ⊠ e))) refl u x.0.1 u' y.0.1)

  pub neg_value : (x : Frac) (u v : D) → Is x u v → Is (fraction_neg x) (neg u) v
  unfolding fraction_neg
  neg_value x u v e =
      value_same (fraction_neg x) (neg x.0.0) x.0.1 (neg u) v (denominator-ne-zero x)
      (reduce_value (neg x.0.0) x.0.1 (denominator-ne-zero x))
      (neg-mul C.ring x.0.0 v ∙ ap neg e ∙ sym (neg-mul C.ring u x.0.1))

  own : (x : Frac) → Is x x.0.0 x.0.1
  own x = refl

  fraction-add_assoc : (x y z : Frac) → fraction_add (fraction_add x y) z ≡ fraction_add x (fraction_add y z)
  fraction-add_assoc x y z =
      value_unique (fraction_add (fraction_add x y) z) (fraction_add x (fraction_add y z))
      ((x.0.0 ⊗ y.0.1 ⊕ y.0.0 ⊗ x.0.1) ⊗ z.0.1 ⊕ z.0.0 ⊗ (x.0.1 ⊗ y.0.1)) (x.0.1 ⊗ y.0.1 ⊗ z.0.1)
      (x.0.0 ⊗ (y.0.1 ⊗ z.0.1) ⊕ (y.0.0 ⊗ z.0.1 ⊕ z.0.0 ⊗ y.0.1) ⊗ x.0.1) (x.0.1 ⊗ (y.0.1 ⊗ z.0.1))
      (product-ne-zero (x.0.1 ⊗ y.0.1) z.0.1 (denominators x y) (denominator-ne-zero z))
      (product-ne-zero x.0.1 (y.0.1 ⊗ z.0.1) (denominator-ne-zero x) (denominators y z))
      (add_value (fraction_add x y) z (x.0.0 ⊗ y.0.1 ⊕ y.0.0 ⊗ x.0.1) (x.0.1 ⊗ y.0.1) z.0.0 z.0.1
      (add_value x y x.0.0 x.0.1 y.0.0 y.0.1 (own x) (own y)) (own z))
      (add_value x (fraction_add y z) x.0.0 x.0.1 (y.0.0 ⊗ z.0.1 ⊕ z.0.0 ⊗ y.0.1) (y.0.1 ⊗ z.0.1)
      (own x) (add_value y z y.0.0 y.0.1 z.0.0 z.0.1 (own y) (own z)))
      (by_sorted C (x.0.0 ∷ x.0.1 ∷ y.0.0 ∷ y.0.1 ∷ z.0.0 ∷ z.0.1 ∷ [])
      (((v0 ⊠ v3 ⊞ v2 ⊠ v1) ⊠ var 5 ⊞ v4 ⊠ (v1 ⊠ v3)) ⊠ (v1 ⊠ (v3 ⊠ var 5)))
      ((v0 ⊠ (v3 ⊠ var 5) ⊞ (v2 ⊠ var 5 ⊞ v4 ⊠ v3) ⊠ v1) ⊠ (v1 ⊠ v3 ⊠ var 5)) refl)

  fraction-add_comm : (x y : Frac) → fraction_add x y ≡ fraction_add y x
  fraction-add_comm x y =
      value_unique (fraction_add x y) (fraction_add y x)
      (x.0.0 ⊗ y.0.1 ⊕ y.0.0 ⊗ x.0.1) (x.0.1 ⊗ y.0.1) (y.0.0 ⊗ x.0.1 ⊕ x.0.0 ⊗ y.0.1) (y.0.1 ⊗ x.0.1)
      (denominators x y) (denominators y x)
      (add_value x y x.0.0 x.0.1 y.0.0 y.0.1 (own x) (own y)) (add_value y x y.0.0 y.0.1 x.0.0 x.0.1 (own y) (own x))
      (ring4 C (λ a b c e. ((a ⊠ e ⊞ c ⊠ b) ⊠ (e ⊠ b), (c ⊠ b ⊞ a ⊠ e) ⊠ (b ⊠ e))) refl x.0.0 x.0.1 y.0.0 y.0.1)

  fraction-zero-add : (x : Frac) → fraction_add fraction_zero x ≡ x
  fraction-zero-add x =
      value_unique (fraction_add fraction_zero x) x (zero ⊗ x.0.1 ⊕ x.0.0 ⊗ one) (one ⊗ x.0.1) x.0.0 x.0.1
      (product-ne-zero one x.0.1 I.one-nonzero (denominator-ne-zero x)) (denominator-ne-zero x)
      (add_value fraction_zero x zero one x.0.0 x.0.1 zero_value (own x)) (own x)
      (ring2 C (λ a b. ((nil ⊠ b ⊞ a ⊠ unit) ⊠ b, a ⊠ (unit ⊠ b))) refl x.0.0 x.0.1)

  fraction-neg-add : (x : Frac) → fraction_add (fraction_neg x) x ≡ fraction_zero
  fraction-neg-add x =
      value_unique (fraction_add (fraction_neg x) x) fraction_zero (neg x.0.0 ⊗ x.0.1 ⊕ x.0.0 ⊗ x.0.1)
      (x.0.1 ⊗ x.0.1) zero one
      (denominators x x) I.one-nonzero
      (add_value (fraction_neg x) x (neg x.0.0) x.0.1 x.0.0 x.0.1 (neg_value x x.0.0 x.0.1 (own x)) (own x)) zero_value
      (ring2 C (λ a b. ((minus a ⊠ b ⊞ a ⊠ b) ⊠ unit, nil ⊠ (b ⊠ b))) refl x.0.0 x.0.1)

  fraction-mul_assoc : (x y z : Frac) → fraction_mul (fraction_mul x y) z ≡ fraction_mul x (fraction_mul y z)
  fraction-mul_assoc x y z =
      value_unique (fraction_mul (fraction_mul x y) z) (fraction_mul x (fraction_mul y z))
      (x.0.0 ⊗ y.0.0 ⊗ z.0.0) (x.0.1 ⊗ y.0.1 ⊗ z.0.1) (x.0.0 ⊗ (y.0.0 ⊗ z.0.0)) (x.0.1 ⊗ (y.0.1 ⊗ z.0.1))
      (product-ne-zero (x.0.1 ⊗ y.0.1) z.0.1 (denominators x y) (denominator-ne-zero z))
      (product-ne-zero x.0.1 (y.0.1 ⊗ z.0.1) (denominator-ne-zero x) (denominators y z))
      (mul_value (fraction_mul x y) z (x.0.0 ⊗ y.0.0) (x.0.1 ⊗ y.0.1) z.0.0 z.0.1
      (mul_value x y x.0.0 x.0.1 y.0.0 y.0.1 (own x) (own y)) (own z))
      (mul_value x (fraction_mul y z) x.0.0 x.0.1 (y.0.0 ⊗ z.0.0) (y.0.1 ⊗ z.0.1) (own x)
      (mul_value y z y.0.0 y.0.1 z.0.0 z.0.1 (own y) (own z)))
      (ap₂ (λ s t. s ⊗ t) (C.mul_assoc x.0.0 y.0.0 z.0.0) (sym (C.mul_assoc x.0.1 y.0.1 z.0.1)))

  fraction-mul_comm : (x y : Frac) → fraction_mul x y ≡ fraction_mul y x
  fraction-mul_comm x y =
      value_unique (fraction_mul x y) (fraction_mul y x) (x.0.0 ⊗ y.0.0) (x.0.1 ⊗ y.0.1) (y.0.0 ⊗ x.0.0) (y.0.1 ⊗ x.0.1)
      (denominators x y) (denominators y x)
      (mul_value x y x.0.0 x.0.1 y.0.0 y.0.1 (own x) (own y)) (mul_value y x y.0.0 y.0.1 x.0.0 x.0.1 (own y) (own x))
      (ap₂ (λ s t. s ⊗ t) (C.mul_comm x.0.0 y.0.0) (C.mul_comm y.0.1 x.0.1))

  fraction-one-mul : (x : Frac) → fraction_mul fraction_one x ≡ x
  fraction-one-mul x =
      value_unique (fraction_mul fraction_one x) x (one ⊗ x.0.0) (one ⊗ x.0.1) x.0.0 x.0.1
      (product-ne-zero one x.0.1 I.one-nonzero (denominator-ne-zero x)) (denominator-ne-zero x)
      (mul_value fraction_one x one one x.0.0 x.0.1 one_value (own x)) (own x)
      (ring2 C (λ a b. (unit ⊠ a ⊠ b, a ⊠ (unit ⊠ b))) refl x.0.0 x.0.1)

  fraction-mul-add : (x y z : Frac)
      → fraction_mul x (fraction_add y z) ≡ fraction_add (fraction_mul x y) (fraction_mul x z)
  fraction-mul-add x y z =
      value_unique (fraction_mul x (fraction_add y z)) (fraction_add (fraction_mul x y) (fraction_mul x z))
      (x.0.0 ⊗ (y.0.0 ⊗ z.0.1 ⊕ z.0.0 ⊗ y.0.1)) (x.0.1 ⊗ (y.0.1 ⊗ z.0.1))
      (x.0.0 ⊗ y.0.0 ⊗ (x.0.1 ⊗ z.0.1) ⊕ x.0.0 ⊗ z.0.0 ⊗ (x.0.1 ⊗ y.0.1)) (x.0.1 ⊗ y.0.1 ⊗ (x.0.1 ⊗ z.0.1))
      (product-ne-zero x.0.1 (y.0.1 ⊗ z.0.1) (denominator-ne-zero x) (denominators y z))
      (product-ne-zero (x.0.1 ⊗ y.0.1) (x.0.1 ⊗ z.0.1) (denominators x y) (denominators x z))
      (mul_value x (fraction_add y z) x.0.0 x.0.1 (y.0.0 ⊗ z.0.1 ⊕ z.0.0 ⊗ y.0.1) (y.0.1 ⊗ z.0.1)
      (own x) (add_value y z y.0.0 y.0.1 z.0.0 z.0.1 (own y) (own z)))
      (add_value (fraction_mul x y) (fraction_mul x z) (x.0.0 ⊗ y.0.0) (x.0.1 ⊗ y.0.1) (x.0.0 ⊗ z.0.0) (x.0.1 ⊗ z.0.1)
      (mul_value x y x.0.0 x.0.1 y.0.0 y.0.1 (own x) (own y)) (mul_value x z x.0.0 x.0.1 z.0.0 z.0.1 (own x) (own z)))
      (by_sorted C (x.0.0 ∷ x.0.1 ∷ y.0.0 ∷ y.0.1 ∷ z.0.0 ∷ z.0.1 ∷ [])
      (v0 ⊠ (v2 ⊠ var 5 ⊞ v4 ⊠ v3) ⊠ (v1 ⊠ v3 ⊠ (v1 ⊠ var 5)))
      ((v0 ⊠ v2 ⊠ (v1 ⊠ var 5) ⊞ v0 ⊠ v4 ⊠ (v1 ⊠ v3)) ⊠ (v1 ⊠ (v3 ⊠ var 5))) refl)

  -- the fractions are a commutative ring
  pub fraction_ring : CommRingOn Frac
  fraction_ring = record {
    ring = record {
      additive = record {
        monoid = record {
          zero = fraction_zero;
          ◌⊕◌ = fraction_add;
          add_assoc = fraction-add_assoc;
          add_comm = fraction-add_comm;
          zero-add = fraction-zero-add;
        };
        neg = fraction_neg;
        neg-add = fraction-neg-add;
      };
      one = fraction_one;
      ◌⊗◌ = fraction_mul;
      mul_assoc = fraction-mul_assoc;
      one-mul = fraction-one-mul;
      mul-one = λ x. fraction-mul_comm x fraction_one ∙ fraction-one-mul x;
      mul-add = fraction-mul-add;
      add-mul = λ x y z. fraction-mul_comm (fraction_add x y) z ∙ fraction-mul-add z x y
          ∙ ap₂ fraction_add (fraction-mul_comm z x) (fraction-mul_comm z y);
    };
    mul_comm = fraction-mul_comm;
  }

  -- a / 1
  pub fraction_of : D → Frac
  fraction_of a = reduce a one I.one-nonzero

  pub fraction_of_value : (a : D) → Is (fraction_of a) a one
  unfolding fraction_of
  fraction_of_value a = reduce_value a one I.one-nonzero

  one-one : one ⊗ one ≢ zero
  one-one = product-ne-zero one one I.one-nonzero I.one-nonzero

  -- the ring is a part of its field of fractions
  pub fraction_of_hom : IsRingHom C.ring fraction_ring.ring fraction_of
  unfolding fraction_ring
  fraction_of_hom = record {
    map-one = value_unique (fraction_of one) fraction_one one one one one I.one-nonzero I.one-nonzero
        (fraction_of_value one) one_value refl;
    map-add = λ a b. value_unique (fraction_of (a ⊕ b)) (fraction_add (fraction_of a) (fraction_of b)) (a ⊕ b) one
        (a ⊗ one ⊕ b ⊗ one) (one ⊗ one)
        I.one-nonzero one-one (fraction_of_value (a ⊕ b))
        (add_value (fraction_of a) (fraction_of b) a one b one (fraction_of_value a) (fraction_of_value b))
        (ring2 C (λ a b. ((a ⊞ b) ⊠ (unit ⊠ unit), (a ⊠ unit ⊞ b ⊠ unit) ⊠ unit)) refl a b);
    map-mul = λ a b. value_unique (fraction_of (a ⊗ b)) (fraction_mul (fraction_of a) (fraction_of b)) (a ⊗ b) one
        (a ⊗ b) (one ⊗ one)
        I.one-nonzero one-one (fraction_of_value (a ⊗ b))
        (mul_value (fraction_of a) (fraction_of b) a one b one (fraction_of_value a) (fraction_of_value b))
        (ring2 C (λ a b. (a ⊠ b ⊠ (unit ⊠ unit), a ⊠ b ⊠ unit)) refl a b);
  }

  pub fraction_of_injective : (a b : D) → fraction_of a ≡ fraction_of b → a ≡ b
  fraction_of_injective a b e =
      let d : D = (fraction_of a).0.1 in
      I.mul_cancel_left d a b (denominator-ne-zero (fraction_of a))
      (C.mul_comm d a ∙ sym (fraction_of_value a) ∙ ap (λ x. x.0.0 ⊗ one) e ∙ fraction_of_value b
      ∙ ap (λ x. b ⊗ x.0.1) (sym e) ∙ C.mul_comm b d)

  fraction_zero-eq : (x : Frac) → x.0.0 ≡ zero → x ≡ fraction_zero
  fraction_zero-eq x e =
      value_unique x fraction_zero x.0.0 x.0.1 zero one (denominator-ne-zero x) I.one-nonzero (own x) zero_value
      (C.mul-one x.0.0 ∙ e ∙ sym (zero-mul C.ring x.0.1))

  numerator-zero : fraction_zero.0.0 ≡ zero
  numerator-zero = sym (C.mul-one fraction_zero.0.0) ∙ zero_value ∙ zero-mul C.ring fraction_zero.0.1

  module _ (is_zero : D → Bool) (Z : ZeroTest zero is_zero) where
    invert : (x : Frac) (b : Bool) → is_zero x.0.0 ≡ b → Frac
    invert x true e = x
    invert x false e = reduce x.0.1 x.0.0 (is_zero-complete Z x.0.0 e)

    pub fraction_inv : Frac → Frac
    fraction_inv x = invert x (is_zero x.0.0) refl

    invert-mul : (x : Frac) (b : Bool) (e : is_zero x.0.0 ≡ b) → x.0.0 ≢ zero
        → fraction_mul (invert x b e) x ≡ fraction_one
    unfolding invert
    invert-mul x true e h = absurd (h (Z.is_zero-sound x.0.0 e))
    invert-mul x false e h =
        let n : x.0.0 ≢ zero = is_zero-complete Z x.0.0 e in
        value_unique (fraction_mul (reduce x.0.1 x.0.0 n) x) fraction_one (x.0.1 ⊗ x.0.0) (x.0.0 ⊗ x.0.1) one one
        (product-ne-zero x.0.0 x.0.1 h (denominator-ne-zero x)) I.one-nonzero
        (mul_value (reduce x.0.1 x.0.0 n) x x.0.1 x.0.0 x.0.0 x.0.1 (reduce_value x.0.1 x.0.0 n) (own x)) one_value
        (ring2 C (λ a b. (b ⊠ a ⊠ unit, unit ⊠ (a ⊠ b))) refl x.0.0 x.0.1)

    fraction-inv-mul : (x : Frac) → (x ≡ fraction_zero → ⊥) → fraction_mul (fraction_inv x) x ≡ fraction_one
    unfolding fraction_inv
    fraction-inv-mul x h = invert-mul x (is_zero x.0.0) refl (λ e. h (fraction_zero-eq x e))

    fraction_one-ne-zero : fraction_one ≡ fraction_zero → ⊥
    fraction_one-ne-zero e =
        denominator-ne-zero fraction_one
        (sym (C.one-mul fraction_one.0.1) ∙ sym one_value ∙ C.mul-one fraction_one.0.0 ∙ ap (λ x. x.0.0) e
        ∙ numerator-zero)

    -- the field of fractions
    pub fraction_field : FieldOn Frac
    unfolding fraction_ring
    fraction_field = record {
      cring = fraction_ring;
      inv = fraction_inv;
      is_zero = λ x. is_zero x.0.0;
      zero_test = record {
        is_zero-sound = λ x e. fraction_zero-eq x (Z.is_zero-sound x.0.0 e);
        is_zero-zero = ap is_zero numerator-zero ∙ Z.is_zero-zero;
      };
      one-nonzero = fraction_one-ne-zero;
      inv-mul = fraction-inv-mul;
    }

    pub is_fraction_field : IsFractionField C Lowest fraction_field
    unfolding fraction_ring fraction_field
    is_fraction_field = record {
      zero_value = zero_value;
      one_value = one_value;
      add_value = add_value;
      neg_value = neg_value;
      mul_value = mul_value;
    }
