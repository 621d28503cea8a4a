-- The algebra of quaternions with i² = p and j² = b over a field, by coordinates: its products are associative. (Lam,
-- Introduction to Quadratic Forms over Fields, chapter III.)
use Rattle.std.specs.Prelude.{◌≡◌, ℕ, zero, suc, List, [], ◌∷◌}
use Rattle.std.proofs.Common.{refl}
use Rattle.theory_rings.specs.Ring.{FieldOn}
use Rattle.theory_rings.proofs.Rings.Solver.{Ex, var, v0, v1, v2, v3, v4, nil, unit, ◌⊞◌, ◌⊠◌, minus, by_sorted}
use Rattle.theory_spaces.specs.Module.{AlgebraOn}

-- equal parts
pub ap₄ : {A B : Type 0} (f : A → A → A → A → B) {a a' b b' c c' d d' : A} → a ≡ a' → b ≡ b' → c ≡ c' → d ≡ d'
    → f a b c d ≡ f a' b' c' d'
ap₄ f ea eb ec ed = λ i. f (ea i) (eb i) (ec i) (ed i)

-- expressions for elements, with p and b as the variables 12 and 13, and a scalar as variable 14
abbrev pub E : Type 0
E = Ex × Ex × Ex × Ex

abbrev pub times_ex : E → E → E
times_ex x y = (
  x.0 ⊠ y.0 ⊞ var 12 ⊠ (x.1 ⊠ y.1) ⊞ var 13 ⊠ (x.2 ⊠ y.2) ⊞ minus (var 12 ⊠ (var 13 ⊠ (x.3 ⊠ y.3))),
  x.0 ⊠ y.1 ⊞ x.1 ⊠ y.0 ⊞ var 13 ⊠ (x.3 ⊠ y.2) ⊞ minus (var 13 ⊠ (x.2 ⊠ y.3)),
  x.0 ⊠ y.2 ⊞ x.2 ⊠ y.0 ⊞ var 12 ⊠ (x.1 ⊠ y.3) ⊞ minus (var 12 ⊠ (x.3 ⊠ y.1)),
  x.0 ⊠ y.3 ⊞ x.3 ⊠ y.0 ⊞ x.1 ⊠ y.2 ⊞ minus (x.2 ⊠ y.1),
)

abbrev pub add_ex : E → E → E
add_ex x y = (x.0 ⊞ y.0, x.1 ⊞ y.1, x.2 ⊞ y.2, x.3 ⊞ y.3)

abbrev pub by_ex : Ex → E → E
by_ex c x = (c ⊠ x.0, c ⊠ x.1, c ⊠ x.2, c ⊠ x.3)

abbrev pub one_ex : E
one_ex = (unit, nil, nil, nil)

abbrev pub x_ex : E
x_ex = (v0, v1, v2, v3)

abbrev pub y_ex : E
y_ex = (v4, var 5, var 6, var 7)

abbrev pub z_ex : E
z_ex = (var 8, var 9, var 10, var 11)

module _ {K : Type 0} (F : FieldOn K) (p b : K) where
  infixl 65 ◌⊕◌
  infixl 70 ◌⊗◌
  open F use {◌⊕◌, ◌⊗◌, neg}

  abbrev pub Quaternion : Type 0
  Quaternion = K × K × K × K

  abbrev V : Type 0
  V = Quaternion

  abbrev pub four : K → K → K → K → V
  four a b c d = (a, b, c, d)

  -- the product, with i² = p, j² = b and k = i·j = −j·i
  abbrev pub times : V → V → V
  times x y = (
    x.0 ⊗ y.0 ⊕ p ⊗ (x.1 ⊗ y.1) ⊕ b ⊗ (x.2 ⊗ y.2) ⊕ neg (p ⊗ (b ⊗ (x.3 ⊗ y.3))),
    x.0 ⊗ y.1 ⊕ x.1 ⊗ y.0 ⊕ b ⊗ (x.3 ⊗ y.2) ⊕ neg (b ⊗ (x.2 ⊗ y.3)),
    x.0 ⊗ y.2 ⊕ x.2 ⊗ y.0 ⊕ p ⊗ (x.1 ⊗ y.3) ⊕ neg (p ⊗ (x.3 ⊗ y.1)),
    x.0 ⊗ y.3 ⊕ x.3 ⊗ y.0 ⊕ x.1 ⊗ y.2 ⊕ neg (x.2 ⊗ y.1),
  )

  abbrev env : V → V → V → K → List K
  env x y z c = x.0 ∷ x.1 ∷ x.2 ∷ x.3 ∷ y.0 ∷ y.1 ∷ y.2 ∷ y.3 ∷ z.0 ∷ z.1 ∷ z.2 ∷ z.3 ∷ p ∷ b ∷ c ∷ []

  pub times_assoc : (x y z : V) → times (times x y) z ≡ times x (times y z)
  times_assoc x y z =
      let l = times_ex (times_ex x_ex y_ex) z_ex in
      let r = times_ex x_ex (times_ex y_ex z_ex) in
      let e = env x y z p in
      ap₄ four (by_sorted F.cring e l.0 r.0 refl) (by_sorted F.cring e l.1 r.1 refl)
      (by_sorted F.cring e l.2 r.2 refl) (by_sorted F.cring e l.3 r.3 refl)

  abbrev plus : V → V → V
  plus x y = (x.0 ⊕ y.0, x.1 ⊕ y.1, x.2 ⊕ y.2, x.3 ⊕ y.3)

  abbrev scale : K → V → V
  scale c x = (c ⊗ x.0, c ⊗ x.1, c ⊗ x.2, c ⊗ x.3)

  abbrev one : V
  one = (F.one, F.zero, F.zero, F.zero)

  pub one_times : (x : V) → times one x ≡ x
  one_times x =
      let l = times_ex one_ex x_ex in
      let e = env x x x p in
      ap₄ four (by_sorted F.cring e l.0 v0 refl) (by_sorted F.cring e l.1 v1 refl)
      (by_sorted F.cring e l.2 v2 refl) (by_sorted F.cring e l.3 v3 refl)

  pub times_one : (x : V) → times x one ≡ x
  times_one x =
      let l = times_ex x_ex one_ex in
      let e = env x x x p in
      ap₄ four (by_sorted F.cring e l.0 v0 refl) (by_sorted F.cring e l.1 v1 refl)
      (by_sorted F.cring e l.2 v2 refl) (by_sorted F.cring e l.3 v3 refl)

  pub times_plus : (x y z : V) → times x (plus y z) ≡ plus (times x y) (times x z)
  times_plus x y z =
      let l = times_ex x_ex (add_ex y_ex z_ex) in
      let r = add_ex (times_ex x_ex y_ex) (times_ex x_ex z_ex) in
      let e = env x y z p in
      ap₄ four (by_sorted F.cring e l.0 r.0 refl) (by_sorted F.cring e l.1 r.1 refl)
      (by_sorted F.cring e l.2 r.2 refl) (by_sorted F.cring e l.3 r.3 refl)

  pub plus_times : (x y z : V) → times (plus x y) z ≡ plus (times x z) (times y z)
  plus_times x y z =
      let l = times_ex (add_ex x_ex y_ex) z_ex in
      let r = add_ex (times_ex x_ex z_ex) (times_ex y_ex z_ex) in
      let e = env x y z p in
      ap₄ four (by_sorted F.cring e l.0 r.0 refl) (by_sorted F.cring e l.1 r.1 refl)
      (by_sorted F.cring e l.2 r.2 refl) (by_sorted F.cring e l.3 r.3 refl)

  pub scale_left : (c : K) (x y : V) → times (scale c x) y ≡ scale c (times x y)
  scale_left c x y =
      let l = times_ex (by_ex (var 14) x_ex) y_ex in
      let r = by_ex (var 14) (times_ex x_ex y_ex) in
      let e = env x y x c in
      ap₄ four (by_sorted F.cring e l.0 r.0 refl) (by_sorted F.cring e l.1 r.1 refl)
      (by_sorted F.cring e l.2 r.2 refl) (by_sorted F.cring e l.3 r.3 refl)

  pub scale_right : (c : K) (x y : V) → times x (scale c y) ≡ scale c (times x y)
  scale_right c x y =
      let l = times_ex x_ex (by_ex (var 14) y_ex) in
      let r = by_ex (var 14) (times_ex x_ex y_ex) in
      let e = env x y x c in
      ap₄ four (by_sorted F.cring e l.0 r.0 refl) (by_sorted F.cring e l.1 r.1 refl)
      (by_sorted F.cring e l.2 r.2 refl) (by_sorted F.cring e l.3 r.3 refl)

  abbrev pub quaternions : AlgebraOn F.ring V
  quaternions = record {
    ring = record {
      additive = record {
        monoid = record {
          zero = (F.zero, F.zero, F.zero, F.zero);
          ◌⊕◌ = plus;
          add_assoc = λ x y z. ap₄ four (F.add_assoc x.0 y.0 z.0) (F.add_assoc x.1 y.1 z.1) (F.add_assoc x.2 y.2 z.2)
              (F.add_assoc x.3 y.3 z.3);
          add_comm = λ x y. ap₄ four (F.add_comm x.0 y.0) (F.add_comm x.1 y.1) (F.add_comm x.2 y.2)
              (F.add_comm x.3 y.3);
          zero-add = λ x. ap₄ four (F.zero-add x.0) (F.zero-add x.1) (F.zero-add x.2) (F.zero-add x.3);
        };
        neg = λ x. (neg x.0, neg x.1, neg x.2, neg x.3);
        neg-add = λ x. ap₄ four (F.neg-add x.0) (F.neg-add x.1) (F.neg-add x.2) (F.neg-add x.3);
      };
      one = one;
      ◌⊗◌ = times;
      mul_assoc = times_assoc;
      one-mul = one_times;
      mul-one = times_one;
      mul-add = times_plus;
      add-mul = plus_times;
    };
    scalars = record {
      ◌•◌ = scale;
      scale-add = λ c x y. ap₄ four (F.mul-add c x.0 y.0) (F.mul-add c x.1 y.1) (F.mul-add c x.2 y.2)
          (F.mul-add c x.3 y.3);
      add-scale = λ c d x. ap₄ four (F.add-mul c d x.0) (F.add-mul c d x.1) (F.add-mul c d x.2) (F.add-mul c d x.3);
      mul-scale = λ c d x. ap₄ four (F.mul_assoc c d x.0) (F.mul_assoc c d x.1) (F.mul_assoc c d x.2)
          (F.mul_assoc c d x.3);
      one-scale = λ x. ap₄ four (F.one-mul x.0) (F.one-mul x.1) (F.one-mul x.2) (F.one-mul x.3);
    };
    scale-left = scale_left;
    scale-right = scale_right;
  }

  -- 1, i, j, k, and p, i, p·j, k
  abbrev pub order_vectors : ℕ → V
  order_vectors zero = (F.one, F.zero, F.zero, F.zero)
  order_vectors (suc zero) = (F.zero, F.one, F.zero, F.zero)
  order_vectors (suc (suc zero)) = (F.zero, F.zero, F.one, F.zero)
  order_vectors (suc (suc (suc i))) = (F.zero, F.zero, F.zero, F.one)

  abbrev pub radical_vectors : ℕ → V
  radical_vectors zero = (p, F.zero, F.zero, F.zero)
  radical_vectors (suc zero) = (F.zero, F.one, F.zero, F.zero)
  radical_vectors (suc (suc zero)) = (F.zero, F.zero, p, F.zero)
  radical_vectors (suc (suc (suc i))) = (F.zero, F.zero, F.zero, F.one)

-- a family of four
abbrev pub fourth : {X : Type 0} → X → X → X → X → ℕ → X
fourth a b c d zero = a
fourth a b c d (suc zero) = b
fourth a b c d (suc (suc zero)) = c
fourth a b c d (suc (suc (suc i))) = d

pub fourth_in : {X : Type 0} (P : X → Type 0) (a b c d : X) → P a → P b → P c → P d → (i : ℕ) → P (fourth a b c d i)
fourth_in P a b c d ha hb hc hd zero = ha
fourth_in P a b c d ha hb hc hd (suc zero) = hb
fourth_in P a b c d ha hb hc hd (suc (suc zero)) = hc
fourth_in P a b c d ha hb hc hd (suc (suc (suc i))) = hd
