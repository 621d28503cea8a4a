-- Lagrange's idempotents: two polynomials that agree at the q elements of a field agree where z^q = z, so what holds of
-- the idempotents at the elements, where they are 1 and 0, holds there.
use Rattle.std.specs.Prelude.{◌≡◌, ℕ, zero, suc, ◌+◌, ◌<◌, ◌≤◌, Bool, true, false, cond, eqb}
use Rattle.std.proofs.Common.{refl, sym, ◌∙◌, ap, ap₂, arith, ⊎_elim}
use Rattle.std.proofs.lemmas.Bool.{cases_lt, cases_eq, eq-eqb, ne_eqb}
use Rattle.theory_rings.specs.Ring.{RingOn, FieldOn}
use Rattle.theory_rings.specs.Enumerated.{Enumerated}
use Rattle.theory_rings.proofs.Rings.RingLaws.{add-neg, zero-mul, mul-zero}
use Rattle.theory_rings.proofs.Rings.ZeroTests.{eq_of_sub_eq_zero}
use Rattle.theory_rings.proofs.Sums.Sums.{sum_congr, sum_eq_zero, sum_eq_single}
use Rattle.theory_spaces.specs.Module.{AlgebraOn, module_of}
use Rattle.theory_spaces.specs.Linear.{comb}
use Rattle.theory_spaces.proofs.Linear.Modules.{zero-scale, scale-zero, neg-scale, neg_one-scale}
use Rattle.theory_radical.specs.Ideal.{product}
use Rattle.theory_blocks.specs.FixedPoints.{IsFixed}
use Rattle.theory_blocks.specs.Splitting.{less_scalar}
use Rattle.theory_blocks.specs.Lagrange.{lagrange_factor, lagrange, LagrangeSplits, LagrangeIdempotents}
use Rattle.theory_blocks.proofs.Commutative.Newton.{newton, newton_vanishes, less_scalar-mul, Newton, Newton_congr}
use Rattle.theory_blocks.proofs.Commutative.Newton.{Newton-zero, Newton-one, Newton-widen, Newton-add, Newton-scale}
use Rattle.theory_blocks.proofs.Commutative.Newton.{Newton-mul}
use Rattle.theory_blocks.proofs.Ideals.Annihilation.{self, less_scalar-self, Point, element, other, Carrier, algebra_at}
use Rattle.theory_blocks.proofs.Ideals.Annihilation.{value_at, weights_below, factors_vanish, variable_form}

module _ {V : Type 0} (R : RingOn V) where
  pub product_eq_one : (f : ℕ → V) (n : ℕ) → ((j : ℕ) → j < n → f j ≡ R.one) → product R f n ≡ R.one
  product_eq_one f zero h = refl
  product_eq_one f (suc n) h =
      ap₂ (λ x y. R.◌⊗◌ x y) (h n (omega arith)) (product_eq_one f n (λ j l. h j (omega arith))) ∙ R.one-mul R.one

  pub product_eq_zero : (f : ℕ → V) (n k : ℕ) → k < n → f k ≡ R.zero → product R f n ≡ R.zero
  product_eq_zero f zero k l e = absurd (omega arith)
  product_eq_zero f (suc n) k l e = ⊎_elim
      (λ (h : k < n). ap (λ y. R.◌⊗◌ (f n) y) (product_eq_zero f n k h e) ∙ mul-zero R (f n))
      (λ (h : n ≤ k). let q : n ≡ k = omega arith in ap (λ y. R.◌⊗◌ y (product R f n)) (ap f q ∙ e)
      ∙ zero-mul R (product R f n))
      (cases_lt k n)

module _ {K V : Type 0} (F : FieldOn K) (E : Enumerated K) (A : AlgebraOn F.ring V) (z : V) where
  abbrev Function : Type 0
  Function = (i : Point K) → Carrier F E A z i

  abbrev P : (i : Point K) → AlgebraOn F.ring (Carrier F E A z i)
  P = algebra_at F E A z

  abbrev x : (i : Point K) → Carrier F E A z i
  x = value_at F E A z

  abbrev Terms : ℕ → Function → Type 0
  Terms n f = Newton (Carrier F E A z) P x E.member n f

  -- a polynomial of some number of terms
  record IsPolynomial (f : Function) : Type 0 where
    pub size : ℕ
    pub form : Terms size f

  poly_congr : (f g : Function) → ((i : Point K) → g i ≡ f i) → IsPolynomial f → IsPolynomial g
  poly_congr f g h p = record { size = p.size; form = Newton_congr (Carrier F E A z) P x E.member p.size f g h p.form }

  poly_one : IsPolynomial (λ i. (P i).one)
  poly_one = record { size = 1; form = Newton-one (Carrier F E A z) P x E.member }

  poly_zero : IsPolynomial (λ i. (P i).zero)
  poly_zero = record { size = 0; form = Newton-zero (Carrier F E A z) P x E.member 0 }

  poly_variable : IsPolynomial x
  poly_variable = record { size = 2; form = variable_form F E A z }

  poly_add : (f g : Function) → IsPolynomial f → IsPolynomial g → IsPolynomial (λ i. (P i).◌⊕◌ (f i) (g i))
  poly_add f g p q = record {
    size = p.size + q.size;
    form = Newton-add (Carrier F E A z) P x E.member (p.size + q.size) f g
        (Newton-widen (Carrier F E A z) P x E.member p.size (p.size + q.size) f (omega arith) p.form)
        (Newton-widen (Carrier F E A z) P x E.member q.size (p.size + q.size) g (omega arith) q.form);
  }

  poly_scale : (a : K) (f : Function) → IsPolynomial f → IsPolynomial (λ i. (P i).◌•◌ a (f i))
  poly_scale a f p = record { size = p.size; form = Newton-scale (Carrier F E A z) P x E.member p.size a f p.form }

  poly_mul : (f : Function) → IsPolynomial f → IsPolynomial (λ i. (P i).◌⊗◌ (x i) (f i))
  poly_mul f p = record { size = suc p.size; form = Newton-mul (Carrier F E A z) P x E.member p.size f p.form }

  poly_less : (a : K) (f : Function) → IsPolynomial f → IsPolynomial (λ i. (P i).◌⊗◌ (less_scalar (P i) (x i) a) (f i))
  poly_less a f p =
      let g = λ (i : Point K). (P i).◌⊗◌ (x i) (f i) in
      let h = λ (i : Point K). (P i).◌•◌ (F.neg a) (f i) in
      poly_congr (λ i. (P i).◌⊕◌ (g i) (h i)) (λ i. (P i).◌⊗◌ (less_scalar (P i) (x i) a) (f i))
      (λ i. less_scalar-mul (P i) (x i) a (f i)
      ∙ ap (λ y. (P i).◌⊕◌ (g i) y) (sym (neg-scale (module_of (P i)) a (f i))))
      (poly_add g h (poly_mul f p) (poly_scale (F.neg a) f p))

  poly_choice : (b : Bool) (s a : K) (f : Function) → IsPolynomial f
      → IsPolynomial (λ i. (P i).◌⊗◌ (cond b (P i).one ((P i).◌•◌ s (less_scalar (P i) (x i) a))) (f i))
  poly_choice true s a f p = poly_congr f (λ i. (P i).◌⊗◌ (P i).one (f i)) (λ i. (P i).one-mul (f i)) p
  poly_choice false s a f p =
      let g = λ (i : Point K). (P i).◌⊗◌ (less_scalar (P i) (x i) a) (f i) in
      poly_congr (λ i. (P i).◌•◌ s (g i)) (λ i. (P i).◌⊗◌ ((P i).◌•◌ s (less_scalar (P i) (x i) a)) (f i))
      (λ i. (P i).scale-left s (less_scalar (P i) (x i) a) (f i))
      (poly_scale s g (poly_less a f p))

  abbrev factor : ℕ → ℕ → Function
  factor k j i = lagrange_factor F E (P i) (x i) k j

  poly_factors : (k m : ℕ) (f : Function) → IsPolynomial f
      → IsPolynomial (λ i. (P i).◌⊗◌ (product (P i).ring (λ j. factor k j i) m) (f i))
  poly_factors k zero f p = poly_congr f (λ i. (P i).◌⊗◌ (P i).one (f i)) (λ i. (P i).one-mul (f i)) p
  poly_factors k (suc m) f p =
      let g = λ (i : Point K). (P i).◌⊗◌ (product (P i).ring (λ j. factor k j i) m) (f i) in
      poly_congr (λ i. (P i).◌⊗◌ (factor k m i) (g i))
      (λ i. (P i).◌⊗◌ (product (P i).ring (λ j. factor k j i) (suc m)) (f i))
      (λ i. (P i).mul_assoc (factor k m i) (product (P i).ring (λ j. factor k j i) m) (f i))
      (poly_choice (eqb m k) (F.inv (F.◌⊕◌ (E.member k) (F.neg (E.member m)))) (E.member m) g (poly_factors k m f p))

  abbrev e : ℕ → Function
  e k i = lagrange F E (P i) (x i) k

  poly_lagrange : (k : ℕ) → IsPolynomial (e k)
  poly_lagrange k = poly_congr (λ i. (P i).◌⊗◌ (e k i) (P i).one) (e k) (λ i. sym ((P i).mul-one (e k i)))
      (poly_factors k E.size (λ i. (P i).one) poly_one)

  poly_comb : (n : ℕ) (d : ℕ → K) → IsPolynomial (λ i. comb (module_of (P i)) n d (λ k. e k i))
  poly_comb zero d = poly_zero
  poly_comb (suc n) d =
      poly_add (λ i. comb (module_of (P i)) n d (λ k. e k i)) (λ i. (P i).◌•◌ (d n) (e n i)) (poly_comb n d)
      (poly_scale (d n) (e n) (poly_lagrange n))

  -- the values at the elements of the field
  distinct : (j k : ℕ) → j < E.size → k < E.size → (j ≡ k → ⊥) → F.◌⊕◌ (E.member k) (F.neg (E.member j)) ≡ F.zero → ⊥
  distinct j k l g n h =
      n (sym (E.number-member j l) ∙ ap E.number (sym (eq_of_sub_eq_zero F.additive (E.member k) (E.member j) h))
      ∙ E.number-member k g)

  apart : (k j m : ℕ) → (j ≡ k → ⊥)
      → factor k j (element (E.member m)) ≡ F.◌⊗◌ (F.inv (F.◌⊕◌ (E.member k) (F.neg (E.member j))))
      (F.◌⊕◌ (E.member m) (F.neg (E.member j)))
  apart k j m n =
      let s = F.inv (F.◌⊕◌ (E.member k) (F.neg (E.member j))) in
      ap (λ b. cond b F.one (F.◌⊗◌ s (less_scalar (self F) (E.member m) (E.member j)))) (ne_eqb j k n)
      ∙ ap (λ y. F.◌⊗◌ s y) (less_scalar-self F (E.member m) (E.member j))

  lagrange_one : (k : ℕ) → k < E.size → e k (element (E.member k)) ≡ F.one
  lagrange_one k l = product_eq_one F.ring (λ j. factor k j (element (E.member k))) E.size
      (λ j g. ⊎_elim
      (λ (q : j ≡ k).
      ap (λ b. cond b F.one
      (F.◌⊗◌ (F.inv (F.◌⊕◌ (E.member k) (F.neg (E.member j)))) (less_scalar (self F) (E.member k) (E.member j))))
      (eq-eqb j k q))
      (λ (n : j ≡ k → ⊥). apart k j k n ∙ F.inv-mul (F.◌⊕◌ (E.member k) (F.neg (E.member j))) (distinct j k g l n))
      (cases_eq j k))

  lagrange_zero : (k m : ℕ) → m < E.size → (m ≡ k → ⊥) → e k (element (E.member m)) ≡ F.zero
  lagrange_zero k m l n =
      let s = F.inv (F.◌⊕◌ (E.member k) (F.neg (E.member m))) in
      product_eq_zero F.ring (λ j. factor k j (element (E.member m))) E.size m l
      (apart k m m n ∙ ap (λ y. F.◌⊗◌ s y) (add-neg F.additive (E.member m)) ∙ mul-zero F.ring s)

  module _ (fixed : IsFixed A.ring E.size z) where
    -- what is 0 at the field is 0 at z
    vanishes : (f : Function) → IsPolynomial f → ((k : ℕ) → k < E.size → f (element (E.member k)) ≡ F.zero)
        → f other ≡ A.zero
    vanishes f p h =
        let d = p.form.weights in
        p.form.combines other
        ∙ sum_eq_zero A.monoid p.size (λ j. A.◌•◌ (d j) (newton A E.member z j))
        (λ j g. ⊎_elim
        (λ (b : j < E.size).
        ap (λ a. A.◌•◌ a (newton A E.member z j))
        (weights_below F E p.size d (λ k l. sym (p.form.combines (element (E.member k))) ∙ h k l) (suc j)
        (omega arith) (omega arith) j (omega arith))
        ∙ zero-scale (module_of A) (newton A E.member z j))
        (λ (b : E.size ≤ j).
        ap (λ y. A.◌•◌ (d j) y) (newton_vanishes A E.member z E.size j b (factors_vanish F E A z fixed))
        ∙ scale-zero (module_of A) (d j))
        (cases_lt j E.size))

    agree : (f g : Function) → IsPolynomial f → IsPolynomial g
        → ((k : ℕ) → k < E.size → f (element (E.member k)) ≡ g (element (E.member k))) → f other ≡ g other
    agree f g p q h =
        let m = λ (i : Point K). (P i).◌•◌ (F.neg F.one) (g i) in
        eq_of_sub_eq_zero A.additive (f other) (g other)
        (ap (λ y. A.◌⊕◌ (f other) y) (sym (neg_one-scale (module_of A) (g other)))
        ∙ vanishes (λ i. (P i).◌⊕◌ (f i) (m i)) (poly_add f m p (poly_scale (F.neg F.one) g q))
        (λ k l. let y = g (element (E.member k)) in
        ap₂ (λ u v. F.◌⊕◌ u v) (h k l) (neg_one-scale (module_of (self F)) y) ∙ add-neg F.additive y))

    -- interpolation
    interpolates : (d : ℕ → K) (g : Function) → IsPolynomial g → ((k : ℕ) → k < E.size → g (element (E.member k)) ≡ d k)
        → comb (module_of A) E.size d (lagrange F E A z) ≡ g other
    interpolates d g p h = agree (λ i. comb (module_of (P i)) E.size d (λ k. e k i)) g (poly_comb E.size d) p
        (λ k l.
        sum_eq_single F.monoid E.size k (λ m. F.◌⊗◌ (d m) (e m (element (E.member k)))) l
        (λ i _ n. ap (λ y. F.◌⊗◌ (d i) y) (lagrange_zero i k l (λ q. n (sym q))) ∙ mul-zero F.ring (d i))
        ∙ ap (λ y. F.◌⊗◌ (d k) y) (lagrange_one k l) ∙ F.mul-one (d k) ∙ sym (h k l))

    lagrange_splits : LagrangeSplits F E A z
    lagrange_splits = record {
      idempotent = λ k l. agree (λ i. (P i).◌⊗◌ (e k i) (e k i)) (e k) (poly_factors k E.size (e k) (poly_lagrange k))
          (poly_lagrange k)
          (λ m g. let y = e k (element (E.member m)) in ⊎_elim
          (λ (q : m ≡ k). ap (λ t. F.◌⊗◌ t y) (ap (λ t. e k (element (E.member t))) q ∙ lagrange_one k l) ∙ F.one-mul y)
          (λ (n : m ≡ k → ⊥). let zero = lagrange_zero k m g n in ap (λ t. F.◌⊗◌ t y) zero ∙ zero-mul F.ring y
          ∙ sym zero)
          (cases_eq m k));
      orthogonal = λ k l hk hl d.
          vanishes (λ i. (P i).◌⊗◌ (e k i) (e l i)) (poly_factors k E.size (e l) (poly_lagrange l))
          (λ m g. let u = e k (element (E.member m)) in let v = e l (element (E.member m)) in ⊎_elim
          (λ (q : m ≡ k). ap (λ t. F.◌⊗◌ u t) (lagrange_zero l m g (λ r. d (sym q ∙ r))) ∙ mul-zero F.ring u)
          (λ (n : m ≡ k → ⊥). ap (λ t. F.◌⊗◌ t v) (lagrange_zero k m g n) ∙ zero-mul F.ring v)
          (cases_eq m k));
      sum_to_one = sum_congr A.monoid E.size (lagrange F E A z) (λ k. A.◌•◌ F.one (lagrange F E A z k))
          (λ k _. sym (A.one-scale (lagrange F E A z k)))
          ∙ interpolates (λ _. F.one) (λ i. (P i).one) poly_one (λ k l. refl);
      scalar_on = λ k l. agree (λ i. (P i).◌⊗◌ (x i) (e k i)) (λ i. (P i).◌•◌ (E.member k) (e k i))
          (poly_mul (e k) (poly_lagrange k)) (poly_scale (E.member k) (e k) (poly_lagrange k))
          (λ m g. let y = e k (element (E.member m)) in ⊎_elim
          (λ (q : m ≡ k). ap (λ t. F.◌⊗◌ (E.member t) y) q)
          (λ (n : m ≡ k → ⊥). let none = lagrange_zero k m g n in
          ap (λ t. F.◌⊗◌ (E.member m) t) none ∙ mul-zero F.ring (E.member m)
          ∙ sym (ap (λ t. F.◌⊗◌ (E.member k) t) none ∙ mul-zero F.ring (E.member k)))
          (cases_eq m k));
      combines = sym (interpolates E.member x poly_variable (λ k l. refl));
    }

module _ {K V : Type 0} (F : FieldOn K) (E : Enumerated K) (A : AlgebraOn F.ring V) where
  pub lagrange_idempotents : LagrangeIdempotents F E A
  lagrange_idempotents z fixed = lagrange_splits F E A z fixed
