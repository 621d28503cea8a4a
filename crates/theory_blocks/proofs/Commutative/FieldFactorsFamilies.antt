-- Orthogonal idempotents of a commutative subalgebra with the sum one, on each of which given solutions of z^q = z are
-- scalars: each solution refines them by its Lagrange idempotents.
use Rattle.std.specs.Prelude.{◌≡◌, ℕ, zero, suc, ◌+◌, ◌*◌, ◌/◌, ◌%◌, ◌<◌, Bool, true, false, cond, eqb}
use Rattle.std.proofs.Common.{sym, ◌∙◌, ap, ap₂, arith, ⊎_elim}
use Rattle.std.proofs.Math.Nat.{div-add-mod}
use Rattle.std.proofs.lemmas.Nat.{div-mul-add, mod-mul-add}
use Rattle.std.proofs.lemmas.Bool.{cases_eq}
use Rattle.theory_rings.specs.Ring.{RingOn, FieldOn}
use Rattle.theory_rings.specs.Sum.{sum}
use Rattle.theory_rings.specs.Enumerated.{Enumerated}
use Rattle.theory_rings.proofs.Rings.RingLaws.{mul-zero, zero-mul}
use Rattle.theory_rings.proofs.Sums.Sums.{sum_congr, mul-sum}
use Rattle.theory_spaces.specs.Module.{AlgebraOn, module_of}
use Rattle.theory_spaces.proofs.Linear.Families.{below_suc}
use Rattle.theory_spaces.proofs.Matrices.PairIndex.{row-lt, column-lt}
use Rattle.theory_spaces.proofs.Linear.Subspaces.{neg_in}
use Rattle.theory_radical.specs.Ideal.{product}
use Rattle.theory_blocks.specs.FixedPoints.{IsFixed, IsSubalgebra}
use Rattle.theory_blocks.specs.Splitting.{less_scalar}
use Rattle.theory_blocks.specs.Lagrange.{lagrange_factor, lagrange, LagrangeSplits}
use Rattle.theory_blocks.specs.FieldFactors.{IsCommutativeIn}
use Rattle.theory_blocks.proofs.Families.Pairs.{sum_pairs}
use Rattle.theory_blocks.proofs.Commutative.Lagrange.{lagrange_idempotents}

-- the inner factors of a product of two change places, where they commute
pub mul_mul_mul_comm : {V : Type 0} (R : RingOn V) (x y z w : V) → R.◌⊗◌ y z ≡ R.◌⊗◌ z y
    → R.◌⊗◌ (R.◌⊗◌ x y) (R.◌⊗◌ z w) ≡ R.◌⊗◌ (R.◌⊗◌ x z) (R.◌⊗◌ y w)
mul_mul_mul_comm R x y z w e =
    R.mul_assoc x y (R.◌⊗◌ z w)
    ∙ ap (R.◌⊗◌ x) (sym (R.mul_assoc y z w) ∙ ap (λ t. R.◌⊗◌ t w) e ∙ R.mul_assoc z y w)
    ∙ sym (R.mul_assoc x z (R.◌⊗◌ y w))

module _ {K V : Type 0} (F : FieldOn K) (E : Enumerated K) (A : AlgebraOn F.ring V) (S : V → Type 0)
    (h : IsSubalgebra A S) where
  infixl 70 ◌⊗◌
  infixl 70 ◌•◌
  open A use {ring, one, ◌⊗◌, ◌•◌, neg}

  -- what is made of members of S lies in S
  product_in : (f : ℕ → V) → ((j : ℕ) → S (f j)) → (n : ℕ) → S (product ring f n)
  product_in f g zero = h.one-in
  product_in f g (suc n) = h.mul-in (f n) (product ring f n) (g n) (product_in f g n)

  pub less_scalar_in : (z : V) → S z → (c : K) → S (less_scalar A z c)
  less_scalar_in z s c =
      h.subspace.add-in z (neg (c • one)) s
      (neg_in (module_of A) S h.subspace (c • one) (h.subspace.scale-in c one h.one-in))

  pub factors_in : (c : ℕ → K) (z : V) → S z → (n : ℕ) → S (product ring (λ j. less_scalar A z (c j)) n)
  factors_in c z s n = product_in (λ j. less_scalar A z (c j)) (λ j. less_scalar_in z s (c j)) n

  choice_in : (b : Bool) (x y : V) → S x → S y → S (cond b x y)
  choice_in true x y p q = p
  choice_in false x y p q = q

  lagrange_in : (z : V) → S z → (k : ℕ) → S (lagrange F E A z k)
  lagrange_in z s k = product_in (lagrange_factor F E A z k)
      (λ j. let a = F.inv (F.◌⊕◌ (E.member k) (F.neg (E.member j))) in let x = less_scalar A z (E.member j) in
      choice_in (eqb j k) one (a • x) h.one-in (h.subspace.scale-in a x (less_scalar_in z s (E.member j)))) E.size

  -- orthogonal idempotents of S with the sum one, on each of which b 0, .., b (t − 1) are scalars
  pub record ScalarFamily (b : ℕ → V) (t : ℕ) : Type 0 where
    pub count : ℕ
    pub idempotent : ℕ → V
    pub inside : (i : ℕ) → i < count → S (idempotent i)
    pub idempotents : (i : ℕ) → i < count → idempotent i ⊗ idempotent i ≡ idempotent i
    pub orthogonal : (i j : ℕ) → i < count → j < count → (i ≡ j → ⊥) → idempotent i ⊗ idempotent j ≡ A.zero
    pub sum_to_one : sum A.monoid count idempotent ≡ one
    pub scalars : (i : ℕ) → i < count → (j : ℕ) → j < t → (c : K) × (b j ⊗ idempotent i ≡ c • idempotent i)

  one_alone : (b : ℕ → V) → ScalarFamily b zero
  one_alone b = record {
    count = 1;
    idempotent = λ i. one;
    inside = λ i l. h.one-in;
    idempotents = λ i l. A.one-mul one;
    orthogonal = λ i j li lj d. absurd (d (let e : i ≡ j = omega arith in e));
    sum_to_one = A.zero-add one;
    scalars = λ i l j g. absurd (omega arith);
  }

  module _ (comm : IsCommutativeIn F A S) (b : ℕ → V) (t : ℕ) (b_in : S (b t)) (fixed : IsFixed ring E.size (b t))
      (P : ScalarFamily b t) where
    abbrev q : ℕ
    q = E.size

    abbrev e : ℕ → V
    e = P.idempotent

    abbrev l : ℕ → V
    l = lagrange F E A (b t)

    splits : LagrangeSplits F E A (b t)
    splits = lagrange_idempotents F E A (b t) fixed

    products : (i j k m : ℕ) → j < P.count → (e i ⊗ l k) ⊗ (e j ⊗ l m) ≡ (e i ⊗ e j) ⊗ (l k ⊗ l m)
    products i j k m g = mul_mul_mul_comm ring (e i) (l k) (e j) (l m)
        (comm (l k) (e j) (lagrange_in (b t) b_in k) (P.inside j g))

    products_orthogonal : (u v : ℕ) → u < P.count * q → v < P.count * q → (u ≡ v → ⊥)
        → (e (u / q) ⊗ l (u % q)) ⊗ (e (v / q) ⊗ l (v % q)) ≡ A.zero
    products_orthogonal u v hu hv d =
        let lu = row-lt P.count q u hu in
        let lv = row-lt P.count q v hv in
        products (u / q) (v / q) (u % q) (v % q) lv ∙ ⊎_elim
        (λ (same : u / q ≡ v / q). ap (λ w. (e (u / q) ⊗ e (v / q)) ⊗ w)
        (splits.orthogonal (u % q) (v % q) (column-lt P.count q u hu) (column-lt P.count q v hv)
        (λ r. d (sym (div-add-mod u q) ∙ ap₂ (λ x y. q * x + y) same r ∙ div-add-mod v q)))
        ∙ mul-zero ring (e (u / q) ⊗ e (v / q)))
        (λ (other : u / q ≡ v / q → ⊥). ap (λ w. w ⊗ (l (u % q) ⊗ l (v % q))) (P.orthogonal (u / q) (v / q) lu lv other)
        ∙ zero-mul ring (l (u % q) ⊗ l (v % q)))
        (cases_eq (u / q) (v / q))

    -- the products of the idempotents and those of b t
    refine : ScalarFamily b (suc t)
    refine = record {
      count = P.count * q;
      idempotent = λ u. e (u / q) ⊗ l (u % q);
      inside = λ u g. h.mul-in (e (u / q)) (l (u % q)) (P.inside (u / q) (row-lt P.count q u g))
          (lagrange_in (b t) b_in (u % q));
      idempotents = λ u g. let r = row-lt P.count q u g in
          products (u / q) (u / q) (u % q) (u % q) r
          ∙ ap₂ (λ x y. x ⊗ y) (P.idempotents (u / q) r) (splits.idempotent (u % q) (column-lt P.count q u g));
      orthogonal = products_orthogonal;
      sum_to_one = sum_pairs A.monoid P.count q (λ u. e (u / q) ⊗ l (u % q))
          ∙ sum_congr A.monoid P.count (λ i. sum A.monoid q (λ k. e ((i * q + k) / q) ⊗ l ((i * q + k) % q))) e
          (λ i g. sum_congr A.monoid q (λ k. e ((i * q + k) / q) ⊗ l ((i * q + k) % q)) (λ k. e i ⊗ l k)
          (λ k f. ap₂ (λ x y. e x ⊗ l y) (div-mul-add i q k f) (mod-mul-add i q k f))
          ∙ sym (mul-sum ring q (e i) l) ∙ ap (λ w. e i ⊗ w) splits.sum_to_one ∙ A.mul-one (e i)) ∙ P.sum_to_one;
      scalars = λ u g. let i = u / q in let k = u % q in let r = row-lt P.count q u g in
          below_suc t (λ j. (c : K) × (b j ⊗ (e i ⊗ l k) ≡ c • (e i ⊗ l k)))
          (λ j f. let s = P.scalars i r j f in
          (s.0, sym (A.mul_assoc (b j) (e i) (l k)) ∙ ap (λ w. w ⊗ l k) s.1 ∙ A.scale-left s.0 (e i) (l k))) (
            E.member k,
            sym (A.mul_assoc (b t) (e i) (l k)) ∙ ap (λ w. w ⊗ l k) (comm (b t) (e i) b_in (P.inside i r))
                ∙ A.mul_assoc (e i) (b t) (l k)
                ∙ ap (λ w. e i ⊗ w) (splits.scalar_on k (column-lt P.count q u g))
                ∙ A.scale-right (E.member k) (e i) (l k),
          );
    }

  pub scalar_family : IsCommutativeIn F A S → (b : ℕ → V) (t : ℕ)
      → ((j : ℕ) → j < t → S (b j) × IsFixed ring E.size (b j)) → ScalarFamily b t
  scalar_family comm b zero g = one_alone b
  scalar_family comm b (suc t) g =
      let last = g t (omega arith) in
      refine comm b t last.0 last.1 (scalar_family comm b t (λ j l. g j (omega arith)))
