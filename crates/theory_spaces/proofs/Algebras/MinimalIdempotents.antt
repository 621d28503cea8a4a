-- An idempotent e of a simple algebra A with eAe = Ke: one is a sum of products x·e·y, and so each linear map of Ae
-- is the multiplication by one element of A from the left.
use Rattle.std.specs.Prelude.{◌≡◌, ℕ, zero, suc, ◌*◌, ◌/◌, ◌%◌, ◌<◌}
use Rattle.std.proofs.Common.{sym, ◌∙◌, ap, ap₂, ⊎_elim}
use Rattle.theory_rings.specs.Ring.{RingOn, FieldOn}
use Rattle.theory_rings.specs.Sum.{sum}
use Rattle.theory_rings.proofs.Rings.RingLaws.{zero-mul}
use Rattle.theory_rings.proofs.Sums.Sums.{sum_congr, sum_eq_zero, mul-sum, sum-mul}
use Rattle.theory_spaces.specs.Module.{ModuleOn, AlgebraOn, module_of}
use Rattle.theory_spaces.specs.Linear.{InSpan, IsSubmodule, Basis, BasisOf}
use Rattle.theory_spaces.specs.AlgebraMap.{IsSimple}
use Rattle.theory_spaces.specs.MinimalIdempotent.{InLeftIdeal, OneThrough, IsEndomorphism, multiplier}
use Rattle.theory_spaces.proofs.Algebras.GeneratedIdeals.{around, Around, around-in, around_ideal}
use Rattle.theory_spaces.proofs.Linear.Modules.{scale-zero, zero-scale, comb_congr_right, right_linear, map-comb}
use Rattle.theory_spaces.proofs.Linear.Modules.{span_in}
use Rattle.theory_spaces.proofs.Linear.Spaces.{coords_of, span_basis}
use Rattle.theory_spaces.proofs.Linear.Subspaces.{BasisOf-iff}

module _ {K V : Type 0} {R : RingOn K} (A : AlgebraOn R V) (n : ℕ) (B : Basis (module_of A) n) (e : V) where
  infixl 65 ◌⊕◌
  infixl 70 ◌⊗◌
  infixl 70 ◌•◌
  open A use {◌⊕◌, ◌⊗◌, ◌•◌}

  abbrev M : ModuleOn R V
  M = module_of A

  abbrev products : ℕ → V
  products = around A n B e

  abbrev In : V → Type 0
  In = Around A n B e

  -- in a simple algebra one lies in the ideal of each element other than 0
  pub one_through : IsSimple A → (e ≡ A.zero → ⊥) → OneThrough A e
  one_through simple nonzero = ⊎_elim
      (λ (z : (t : ℕ) → t < n * n → products t ≡ A.zero).
      let s = around-in A n B e A.one A.one in
      absurd (nonzero (sym (A.mul-one (A.one ⊗ e) ∙ A.one-mul e) ∙ s.combines
      ∙ comb_congr_right M (n * n) s.weights products (λ _. A.zero) z
      ∙ sum_eq_zero A.monoid (n * n) (λ t. s.weights t • A.zero) (λ t _. scale-zero M (s.weights t)))))
      (λ (all : (x : V) → In x).
      let s = all A.one in
      record {
        size = n * n;
        left = λ t. s.weights t • B.vec (t / n);
        right = λ t. B.vec (t % n);
        sums = s.combines ∙ sum_congr A.monoid (n * n) (λ t. s.weights t • products t)
            (λ t. ((s.weights t • B.vec (t / n)) ⊗ e) ⊗ B.vec (t % n))
            (λ t _. sym (ap (λ z. z ⊗ B.vec (t % n)) (A.scale-left (s.weights t) (B.vec (t / n)) e)
            ∙ A.scale-left (s.weights t) (B.vec (t / n) ⊗ e) (B.vec (t % n))));
      })
      (simple (n * n) products (around_ideal A n B e))

-- the left ideal of an idempotent
module _ {K V : Type 0} {R : RingOn K} (A : AlgebraOn R V) (e : V) (idem : A.◌⊗◌ e e ≡ e) where
  infixl 65 ◌⊕◌
  infixl 70 ◌⊗◌
  infixl 70 ◌•◌
  open A use {◌⊕◌, ◌⊗◌, ◌•◌}

  pub left_ideal_submodule : IsSubmodule (module_of A) (InLeftIdeal A e)
  left_ideal_submodule = record {
    zero-in = zero-mul A.ring e;
    add-in = λ x y p q. A.add-mul x y e ∙ ap₂ (λ a b. a ⊕ b) p q;
    scale-in = λ a x p. A.scale-left a x e ∙ ap (A.◌•◌ a) p;
  }

  pub mul_idempotent-in : (x : V) → InLeftIdeal A e (x ⊗ e)
  mul_idempotent-in x = A.mul_assoc x e e ∙ ap (λ z. x ⊗ z) idem

  pub mul-in : (x y : V) → InLeftIdeal A e y → InLeftIdeal A e (x ⊗ y)
  mul-in x y p = A.mul_assoc x y e ∙ ap (λ z. x ⊗ z) p

  -- where one is a sum of products x·e·y, an element is known by what it multiplies Ae to
  pub faithful : OneThrough A e → (a b : V) → ((x : V) → InLeftIdeal A e x → a ⊗ x ≡ b ⊗ x) → a ≡ b
  faithful o a b h = spread a
      ∙ sum_congr A.monoid o.size (λ i. (a ⊗ (o.left i ⊗ e)) ⊗ o.right i) (λ i. (b ⊗ (o.left i ⊗ e)) ⊗ o.right i)
      (λ i _. ap (λ z. z ⊗ o.right i) (h (o.left i ⊗ e) (mul_idempotent-in (o.left i)))) ∙ sym (spread b)
    where
      spread : (a : V) → a ≡ sum A.monoid o.size (λ i. (a ⊗ (o.left i ⊗ e)) ⊗ o.right i)
      spread a =
          sym (A.mul-one a) ∙ ap (λ z. a ⊗ z) o.sums ∙ mul-sum A.ring o.size a (λ i. (o.left i ⊗ e) ⊗ o.right i)
          ∙ sum_congr A.monoid o.size (λ i. a ⊗ ((o.left i ⊗ e) ⊗ o.right i)) (λ i. (a ⊗ (o.left i ⊗ e)) ⊗ o.right i)
          (λ i _. sym (A.mul_assoc a (o.left i ⊗ e) (o.right i)))

  module _ (s : V → V) (h : IsEndomorphism A e s) where
    endomorphism-zero : s A.zero ≡ A.zero
    endomorphism-zero = ap s (sym (zero-scale (module_of A) A.zero))
        ∙ h.map-scale R.zero A.zero left_ideal_submodule.zero-in ∙ zero-scale (module_of A) (s A.zero)

    sum-in : (m : ℕ) (w : ℕ → V) → ((i : ℕ) → InLeftIdeal A e (w i)) → InLeftIdeal A e (sum A.monoid m w)
    sum-in zero w p = left_ideal_submodule.zero-in
    sum-in (suc m) w p = left_ideal_submodule.add-in (sum A.monoid m w) (w m) (sum-in m w p) (p m)

    endomorphism-sum : (m : ℕ) (w : ℕ → V) → ((i : ℕ) → InLeftIdeal A e (w i))
        → s (sum A.monoid m w) ≡ sum A.monoid m (λ i. s (w i))
    endomorphism-sum zero w p = endomorphism-zero
    endomorphism-sum (suc m) w p = h.map-add (sum A.monoid m w) (w m) (sum-in m w p) (p m)
        ∙ ap (λ z. z ⊕ s (w m)) (endomorphism-sum m w p)

    -- where eAe = Ke, the image of x · e times y · z is that of the product
    through : ((x : V) → (a : K) × ((e ⊗ x) ⊗ e ≡ a • e)) → (x y z : V) → InLeftIdeal A e z
        → (s (x ⊗ e) ⊗ y) ⊗ z ≡ s (((x ⊗ e) ⊗ y) ⊗ z)
    through corner x y z p =
        let c = corner (y ⊗ z) in
        let inner : (u : V) → InLeftIdeal A e u → (u ⊗ y) ⊗ z ≡ c.0 • u = λ u q.
        ap (λ t. (t ⊗ y) ⊗ z) (sym q) ∙ ap (λ t. ((u ⊗ e) ⊗ y) ⊗ t) (sym p) ∙ regroup u ∙ ap (λ t. u ⊗ t) c.1
        ∙ A.scale-right c.0 u e ∙ ap (A.◌•◌ c.0) q in
        inner (s (x ⊗ e)) (h.inside (x ⊗ e) (mul_idempotent-in x))
        ∙ sym (h.map-scale c.0 (x ⊗ e) (mul_idempotent-in x)) ∙ ap s (sym (inner (x ⊗ e) (mul_idempotent-in x)))
      where
        regroup : (u : V) → ((u ⊗ e) ⊗ y) ⊗ (z ⊗ e) ≡ u ⊗ ((e ⊗ (y ⊗ z)) ⊗ e)
        regroup u = simp A.mul_assoc

    -- a linear map of Ae is the multiplication by its multiplier
    pub multiplier-mul : ((x : V) → (a : K) × ((e ⊗ x) ⊗ e ≡ a • e)) → (o : OneThrough A e) (x : V)
        → InLeftIdeal A e x → multiplier A e o s ⊗ x ≡ s x
    multiplier-mul corner o x p =
        sum-mul A.ring o.size x (λ i. s (o.left i ⊗ e) ⊗ o.right i)
        ∙ sum_congr A.monoid o.size (λ i. (s (o.left i ⊗ e) ⊗ o.right i) ⊗ x)
        (λ i. s (((o.left i ⊗ e) ⊗ o.right i) ⊗ x)) (λ i _. through corner (o.left i) (o.right i) x p)
        ∙ sym (endomorphism-sum o.size (λ i. ((o.left i ⊗ e) ⊗ o.right i) ⊗ x)
        (λ i. mul-in ((o.left i ⊗ e) ⊗ o.right i) x p))
        ∙ ap s (sym (sum-mul A.ring o.size x (λ i. (o.left i ⊗ e) ⊗ o.right i)) ∙ ap (λ z. z ⊗ x) (sym o.sums)
        ∙ A.one-mul x)

-- the left ideal has a basis
pub left_ideal_basis : {K V : Type 0} (F : FieldOn K) (A : AlgebraOn F.ring V) (n : ℕ) → Basis (module_of A) n
    → (e : V) → A.◌⊗◌ e e ≡ e
    → (k : ℕ) × BasisOf (module_of A) k (InLeftIdeal A e)
left_ideal_basis F A n B e idem =
    let M = module_of A in
    let g : ℕ → _ = λ i. A.◌⊗◌ (B.vec i) e in
    let r = span_basis F M n (coords_of M n B) n g in (
      r.0,
      BasisOf-iff M r.0 (InSpan M n g) (InLeftIdeal A e)
          (λ x s. span_in M (InLeftIdeal A e) (left_ideal_submodule A e idem) n g
          (λ i _. mul_idempotent-in A e idem (B.vec i)) x s)
          (λ x p. record {
            weights = B.coord x;
            combines = sym p ∙ ap (λ z. A.◌⊗◌ z e) (B.expand x)
                ∙ map-comb M M (λ z. A.◌⊗◌ z e) (right_linear A e) n (B.coord x) B.vec;
          })
          r.1,
    )
