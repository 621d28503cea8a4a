-- A polynomial that is 0 at the q elements of a field is 0 where z^q = z, and the product of z − c over them is 0
-- there.
use Rattle.std.specs.Prelude.{◌≡◌, ℕ, zero, suc, ◌<◌, ◌≤◌}
use Rattle.std.proofs.Common.{sym, ◌∙◌, ap, ap₂, arith, ⊎_elim}
use Rattle.std.proofs.lemmas.Bool.{cases_lt}
use Rattle.theory_rings.specs.Ring.{FieldOn}
use Rattle.theory_rings.specs.Enumerated.{Enumerated}
use Rattle.theory_rings.proofs.Rings.RingLaws.{add-zero, add-neg, zero-mul, mul-zero, add_cancel_left}
use Rattle.theory_rings.proofs.Rings.Fields.{field_mul-ne-zero, eq-zero_of_mul-eq-zero}
use Rattle.theory_rings.proofs.Rings.ZeroTests.{eq_of_sub_eq_zero}
use Rattle.theory_rings.proofs.Sums.Sums.{sum_eq_single}
use Rattle.theory_rings.proofs.FiniteFields.FiniteFields.{power_size}
use Rattle.theory_spaces.specs.Module.{AlgebraOn, module_of}
use Rattle.theory_spaces.specs.Functions.{regular}
use Rattle.theory_spaces.specs.Linear.{comb}
use Rattle.theory_spaces.proofs.Linear.Modules.{neg_one-scale, comb_zero}
use Rattle.theory_blocks.specs.FixedPoints.{IsFixed}
use Rattle.theory_blocks.specs.Splitting.{less_scalar, ScalarFactorsVanish}
use Rattle.theory_blocks.proofs.Families.Decisions.{lt_or_gt}
use Rattle.theory_blocks.proofs.Commutative.Newton.{newton, newton_vanishes, Newton, Newton_congr, Newton-one}
use Rattle.theory_blocks.proofs.Commutative.Newton.{Newton-widen, Newton-add, Newton-scale, Newton-mul, power_form}

-- a field as an algebra over itself
module _ {K : Type 0} (F : FieldOn K) where
  abbrev pub self : AlgebraOn F.ring K
  self = record {
    ring = F.ring;
    scalars = let R = regular F.ring in R.scalars;
    scale-left = F.mul_assoc;
    scale-right = λ a x y. sym (F.mul_assoc x a y) ∙ ap (λ t. F.◌⊗◌ t y) (F.mul_comm x a) ∙ F.mul_assoc a x y;
  }

  pub less_scalar-self : (x c : K) → less_scalar self x c ≡ F.◌⊕◌ x (F.neg c)
  less_scalar-self x c = ap (λ t. F.◌⊕◌ x (F.neg t)) (F.mul-one c)

module _ {K : Type 0} (F : FieldOn K) (E : Enumerated K) where
  abbrev c : ℕ → K
  c = E.member

  apart : (j k : ℕ) → j < k → k < E.size → less_scalar (self F) (c k) (c j) ≡ F.zero → ⊥
  apart j k l g e =
      let q : c k ≡ c j = eq_of_sub_eq_zero F.additive (c k) (c j) (sym (less_scalar-self F (c k) (c j)) ∙ e) in
      let r : k ≡ j = sym (E.number-member k g) ∙ ap E.number q ∙ E.number-member j (omega arith) in
      omega arith

  newton_ne_zero : (k n : ℕ) → n ≤ k → k < E.size → newton (self F) c (c k) n ≡ F.zero → ⊥
  newton_ne_zero k zero l g = F.one-nonzero
  newton_ne_zero k (suc n) l g =
      field_mul-ne-zero F (less_scalar (self F) (c k) (c n)) (newton (self F) c (c k) n) (apart n k (omega arith) g)
      (newton_ne_zero k n (omega arith) g)

  -- the products from the (k + 1)-th on are 0 at c k
  pub newton-root : (k n : ℕ) → k < n → newton (self F) c (c k) n ≡ F.zero
  newton-root k n l = newton_vanishes (self F) c (c k) (suc k) n l
      (ap (λ t. F.◌⊗◌ t (newton (self F) c (c k) k)) (less_scalar-self F (c k) (c k) ∙ add-neg F.additive (c k))
      ∙ zero-mul F.ring (newton (self F) c (c k) k))

  -- a combination that is 0 at each element of the field has no weights below q but 0
  module _ (n : ℕ) (d : ℕ → K)
      (root : (k : ℕ) → k < E.size → comb (module_of (self F)) n d (newton (self F) c (c k)) ≡ F.zero) where
    next_weight : (m : ℕ) → m < n → m < E.size → ((j : ℕ) → j < m → d j ≡ F.zero) → d m ≡ F.zero
    next_weight m l g before = ⊎_elim (λ (z : d m ≡ F.zero). z)
        (λ (z : newton (self F) c (c m) m ≡ F.zero). absurd (newton_ne_zero m m (omega arith) g z))
        (eq-zero_of_mul-eq-zero F (d m) (newton (self F) c (c m) m)
        (sym (sum_eq_single F.monoid n m (λ i. F.◌⊗◌ (d i) (newton (self F) c (c m) i)) l others) ∙ root m g))
      where
        others : (i : ℕ) → i < n → (i ≡ m → ⊥) → F.◌⊗◌ (d i) (newton (self F) c (c m) i) ≡ F.zero
        others i p q = ⊎_elim
            (λ (b : i < m). ap (λ t. F.◌⊗◌ t (newton (self F) c (c m) i)) (before i b)
            ∙ zero-mul F.ring (newton (self F) c (c m) i))
            (λ (b : m < i). ap (λ t. F.◌⊗◌ (d i) t) (newton-root m i b) ∙ mul-zero F.ring (d i))
            (lt_or_gt i m q)

    pub weights_below : (m : ℕ) → m ≤ n → m ≤ E.size → (j : ℕ) → j < m → d j ≡ F.zero
    weights_below zero l g j h = absurd (omega arith)
    weights_below (suc m) l g j h =
        let before = λ (i : ℕ) (b : i < m). weights_below m (omega arith) (omega arith) i b in
        ⊎_elim
        (λ (b : j < m). before j b)
        (λ (b : m ≤ j). let e : j ≡ m = omega arith in ap d e ∙ next_weight m (omega arith) (omega arith) before)
        (cases_lt j m)

-- the elements of a field, and one point z of an algebra
pub data Point (K : Type 0) : Type 0 where
  element : K → Point K
  other : Point K

module _ {K V : Type 0} (F : FieldOn K) (E : Enumerated K) (A : AlgebraOn F.ring V) (z : V) where
  abbrev pub Carrier : Point K → Type 0
  Carrier (element x) = K
  Carrier other = V

  abbrev pub algebra_at : (i : Point K) → AlgebraOn F.ring (Carrier i)
  algebra_at (element x) = self F
  algebra_at other = A

  abbrev pub value_at : (i : Point K) → Carrier i
  value_at (element x) = x
  value_at other = z

  -- a polynomial function, in Newton's form at the elements of the field
  abbrev pub Polynomial : ℕ → ((i : Point K) → Carrier i) → Type 0
  Polynomial n f = Newton Carrier algebra_at value_at E.member n f

  -- of at most q terms: 0 at the field is 0 at z
  pub vanishes_of_small : (n : ℕ) (f : (i : Point K) → Carrier i) → n ≤ E.size → Polynomial n f
      → ((x : K) → f (element x) ≡ F.zero) → f other ≡ A.zero
  vanishes_of_small n f l p h =
      p.combines other
      ∙ comb_zero (module_of A) n p.weights (newton A E.member z)
      (weights_below F E n p.weights (λ k g. sym (p.combines (element (E.member k))) ∙ h (E.member k)) n
      (omega arith) l)

  two_le_size : 2 ≤ E.size
  two_le_size = ⊎_elim
      (λ (h : E.size < 2).
      let a = E.number-lt F.zero in
      let b = E.number-lt F.one in
      let e : E.number F.one ≡ E.number F.zero = omega arith in
      absurd (F.one-nonzero (sym (E.member-number F.one) ∙ ap E.member e ∙ E.member-number F.zero)))
      (λ (h : 2 ≤ E.size). h)
      (cases_lt E.size 2)

  -- z itself
  pub variable_form : Polynomial 2 value_at
  variable_form = Newton_congr Carrier algebra_at value_at E.member 2
      (λ i. (algebra_at i).◌⊗◌ (value_at i) (algebra_at i).one) value_at
      (λ i. sym ((algebra_at i).mul-one (value_at i)))
      (Newton-mul Carrier algebra_at value_at E.member 1 (λ i. (algebra_at i).one)
      (Newton-one Carrier algebra_at value_at E.member))

  -- z^q − z is the product of the z − c
  pub factors_vanish : IsFixed A.ring E.size z → newton A E.member z E.size ≡ A.zero
  factors_vanish fixed =
      let p = power_form Carrier algebra_at value_at E.member E.size in
      let minus = λ (i : Point K). (algebra_at i).◌•◌ (F.neg F.one) (value_at i) in
      let f = λ (i : Point K). (algebra_at i).◌⊕◌ (p.lower i) (minus i) in
      let form : Polynomial E.size f = Newton-add Carrier algebra_at value_at E.member E.size p.lower minus p.form
      (Newton-scale Carrier algebra_at value_at E.member E.size (F.neg F.one) value_at
      (Newton-widen Carrier algebra_at value_at E.member 2 E.size value_at two_le_size variable_form)) in
      let root : (x : K) → f (element x) ≡ F.zero = λ x.
      let k = E.number x in
      let none : newton (self F) E.member x E.size ≡ F.zero =
      ap (λ y. newton (self F) E.member y E.size) (sym (E.member-number x))
      ∙ newton-root F E k E.size (E.number-lt x) in
      let low : p.lower (element x) ≡ x =
      sym (p.splits (element x) ∙ ap (λ y. F.◌⊕◌ y (p.lower (element x))) none ∙ F.zero-add (p.lower (element x)))
      ∙ power_size F E x in
      ap₂ (λ a b. F.◌⊕◌ a b) low (neg_one-scale (module_of (self F)) x) ∙ add-neg F.additive x in
      let low : p.lower other ≡ z = eq_of_sub_eq_zero A.additive (p.lower other) z
      (ap (λ y. A.◌⊕◌ (p.lower other) y) (sym (neg_one-scale (module_of A) z))
      ∙ vanishes_of_small E.size f (omega arith) form root) in
      add_cancel_left A.additive z (newton A E.member z E.size) A.zero
      (A.add_comm z (newton A E.member z E.size) ∙ ap (λ y. A.◌⊕◌ (newton A E.member z E.size) y) (sym low)
      ∙ sym (p.splits other)
      ∙ fixed ∙ sym (add-zero A.monoid z))

module _ {K V : Type 0} (F : FieldOn K) (E : Enumerated K) (A : AlgebraOn F.ring V) where
  pub scalar_factors : ScalarFactorsVanish F E A
  scalar_factors z fixed = factors_vanish F E A z fixed
