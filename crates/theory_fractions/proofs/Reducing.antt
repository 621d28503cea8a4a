-- Steps to lowest terms, on lists over a program's field: constants, divisors, and the leading coefficient of the
-- denominator.
use Rattle.std.specs.Prelude.{◌≡◌, ◌≢◌, ℕ, zero, suc, ◌<◌, List, [], ◌∷◌, length}
use Rattle.std.proofs.Common.{refl, sym, ◌∙◌, ap, ap₂, arith, subst}
use Rattle.std.proofs.lemmas.List.Elements.{All-nil, All-cons}
use Rattle.theory_rings.specs.Ring.{FieldOn, CommRingOn}
use Rattle.theory_rings.specs.Ops.{Ops, IsElem, FieldLaws}
use Rattle.theory_rings.specs.Elements.{Elem, Elem-path, elements}
use Rattle.theory_rings.specs.Sum.{at}
use Rattle.theory_rings.specs.Polynomial.{Poly, convolution_of, lead, degree, constant_coefficients, IsMonic}
use Rattle.theory_rings.specs.Division.{Divides as DividesIn, IsCoprime as IsCoprimeIn, IsDivision as IsDivisionIn}
use Rattle.theory_rings.specs.Division.{IsGcd}
use Rattle.theory_rings.proofs.Rings.RingLaws.{left_ne_zero_of_mul, right_ne_zero_of_mul, zero-mul, mul-zero, add-zero}
use Rattle.theory_rings.proofs.Rings.Solver.{◌⊞◌, ◌⊠◌, ring3, ring5}
use Rattle.theory_rings.proofs.Rings.Fields.{mul-inv}
use Rattle.theory_rings.proofs.Polynomials.PolynomialRing.{constant, coefficient-constant, zero-list}
use Rattle.theory_rings.proofs.Polynomials.Degrees.{length_pos, lead-ne-zero, lead-constant, zero-length}
use Rattle.theory_rings.proofs.Polynomials.Degrees.{ne_zero_of_length, length_le_suc-degree, length-degree_of_ne_zero}
use Rattle.theory_rings.proofs.Polynomials.Constants.{constant_hom}
use Rattle.theory_rings.proofs.Polynomials.Division.{division_unique}
use Rattle.theory_rings.proofs.Polynomials.Bezout.{field_polynomials, field_degree-mul, field_lead-mul}
use Rattle.theory_rings.proofs.Polynomials.Bezout.{poly_mul-ne-zero, poly_mul_cancel_left, poly_one-ne-zero}
use Rattle.theory_rings.proofs.Polynomials.Bezout.{combination_one, coprime_of_bezout}
use Rattle.theory_rings.proofs.Polynomials.ElementLists.{values}
use Rattle.theory_fractions.specs.PolynomialLists.{IsOver, IsSum, IsProduct, IsDivision, Divides, IsPolynomialList}
use Rattle.theory_fractions.proofs.Lifting.{HasCoefficients}
use Rattle.theory_fractions.proofs.Lifting.{eq_of_coefficients, coefficients_of_eq, has-add, has-mul}
use Rattle.theory_fractions.specs.Fraction.{Pair, IsCoprime, IsLowestTerms, IsFraction}
use Rattle.theory_fractions.specs.FractionOps.{polynomial_of}
use Rattle.theory_fractions.proofs.FractionField.{polynomial_of-nil, is_fraction-one}
use Rattle.theory_fractions.specs.CommonDivisor.{IsCommonDivisor}
use Rattle.theory_fractions.proofs.ListPolynomials.{is_polynomial-from, values_back, has_polynomial_of}
use Rattle.theory_fractions.proofs.ListPolynomials.{length-polynomial_of, divides_polynomial_of}
use Rattle.theory_fractions.proofs.LowestTerms.{lead_value, lowest_of_fraction, coprime_lists, coprime_polynomials}
use Rattle.theory_fractions.proofs.LowestTerms.{lowest_of_polynomials}
use Rattle.theory_fractions.proofs.Coprime.{coprime-mul_unit}

-- a list that is not empty has an item
length_pos_of_ne-nil : {X : Type 0} (xs : List X) → xs ≢ [] → 0 < length xs
length_pos_of_ne-nil [] n = absurd (n refl)
length_pos_of_ne-nil (x ∷ xs) n = omega arith

module _ {E : Type 0} (o : Ops E) (L : FieldLaws o) where
  abbrev F : FieldOn (Elem o)
  F = elements o L

  abbrev P : CommRingOn (Poly F.cring)
  P = field_polynomials F

  abbrev Is : List E → Type 0
  Is = IsPolynomialList o

  abbrev poly : List E → Poly F.cring
  poly = polynomial_of o L

  abbrev Coprime : Poly F.cring → Poly F.cring → Type 0
  Coprime = IsCoprimeIn F.cring P

  -- ---- equations of polynomials

  pub poly-mul : (a b c : List E) → IsOver o a → IsOver o b → IsOver o c → IsProduct o a b c
      → poly c ≡ P.◌⊗◌ (poly a) (poly b)
  poly-mul a b c ha hb hc e =
      eq_of_coefficients o L (poly c) (P.◌⊗◌ (poly a) (poly b)) (at o c) (convolution_of o (at o a) (at o b))
      (has_polynomial_of o L c hc)
      (has-mul o L (poly a) (poly b) (at o a) (at o b) (has_polynomial_of o L a ha) (has_polynomial_of o L b hb)) e

  pub poly-add : (a b c : List E) → IsOver o a → IsOver o b → IsOver o c → IsSum o a b c
      → poly c ≡ P.◌⊕◌ (poly a) (poly b)
  poly-add a b c ha hb hc e =
      eq_of_coefficients o L (poly c) (P.◌⊕◌ (poly a) (poly b)) (at o c) (λ k. o.add (at o a k) (at o b k))
      (has_polynomial_of o L c hc)
      (has-add o L (poly a) (poly b) (at o a) (at o b) (has_polynomial_of o L a ha) (has_polynomial_of o L b hb)) e

  pub fraction_of_eq : (w : Pair E) (u v : List E) → IsOver o w.0 → IsOver o w.1 → IsOver o u → IsOver o v
      → P.◌⊗◌ (poly w.0) (poly v) ≡ P.◌⊗◌ (poly u) (poly w.1) → IsFraction o w u v
  fraction_of_eq w u v h0 h1 hu hv e = record {
    products = coefficients_of_eq o L (P.◌⊗◌ (poly w.0) (poly v)) (P.◌⊗◌ (poly u) (poly w.1))
        (convolution_of o (at o w.0) (at o v)) (convolution_of o (at o u) (at o w.1))
        (has-mul o L (poly w.0) (poly v) (at o w.0) (at o v) (has_polynomial_of o L w.0 h0)
        (has_polynomial_of o L v hv))
        (has-mul o L (poly u) (poly w.1) (at o u) (at o w.1) (has_polynomial_of o L u hu)
        (has_polynomial_of o L w.1 h1)) e;
  }

  pub eq_of_fraction : (w : Pair E) (u v : List E) → IsOver o w.0 → IsOver o w.1 → IsOver o u → IsOver o v
      → IsFraction o w u v → P.◌⊗◌ (poly w.0) (poly v) ≡ P.◌⊗◌ (poly u) (poly w.1)
  eq_of_fraction w u v h0 h1 hu hv e =
      eq_of_coefficients o L (P.◌⊗◌ (poly w.0) (poly v)) (P.◌⊗◌ (poly u) (poly w.1))
      (convolution_of o (at o w.0) (at o v)) (convolution_of o (at o u) (at o w.1))
      (has-mul o L (poly w.0) (poly v) (at o w.0) (at o v) (has_polynomial_of o L w.0 h0) (has_polynomial_of o L v hv))
      (has-mul o L (poly u) (poly w.1) (at o u) (at o w.1) (has_polynomial_of o L u hu)
      (has_polynomial_of o L w.1 h1)) e.products

  pub poly-ne-zero : (v : List E) → Is v → v ≢ [] → poly v ≢ P.zero
  poly-ne-zero v h n e =
      n (sym (values_back o L v h) ∙ ap (λ (x : Poly F.cring). values o L x.0) e
      ∙ ap (values o L) (zero-list F.cring F.zero_test))

  -- ---- lowest terms

  pub lowest_of_monic : (u v : List E) → Is u → Is v → v ≢ [] → at o v (degree v) ≡ o.one → IsCoprime o u v
      → IsLowestTerms o u v
  lowest_of_monic u v hu hv n monic coprime = record {
    numerator_over = hu.over;
    numerator_trimmed = hu.trimmed;
    denominator_over = hv.over;
    denominator_trimmed = hv.trimmed;
    denominator_nonzero = length_pos_of_ne-nil v n;
    monic = monic;
    coprime = coprime;
  }

  pub lowest_over_one : (u : List E) → Is u → IsLowestTerms o u (o.one ∷ [])
  lowest_over_one u hu = lowest_of_fraction o L u (o.one ∷ []) (is_fraction-one o L u (is_polynomial-from o L u hu))

  pub zero_value : (v : List E) → IsOver o v → IsFraction o ([], o.one ∷ []) [] v
  zero_value v hv = fraction_of_eq ([], o.one ∷ []) [] v none one none hv
      (ap (λ x. P.◌⊗◌ x (poly v)) (polynomial_of-nil o L) ∙ zero-mul P.ring (poly v)
      ∙ sym (ap (λ x. P.◌⊗◌ x (poly (o.one ∷ []))) (polynomial_of-nil o L) ∙ zero-mul P.ring (poly (o.one ∷ []))))
    where
      none : IsOver o []
      none = All-nil (IsElem o)

      one : IsOver o (o.one ∷ [])
      one = All-cons (IsElem o) o.one [] L.one-elem (All-nil (IsElem o))

  -- a pair that is 0
  pub zero_lowest_pair : (w : Pair E) (u v : List E) → u ≡ [] → v ≡ o.one ∷ [] → w ≡ (u, v) → IsLowestTerms o w.0 w.1
  zero_lowest_pair w u v eu ev e =
      subst (λ x. IsLowestTerms o x.0 x.1) (sym (e ∙ ap₂ (λ x y. (x, y)) eu ev))
      (lowest_over_one [] record { over = All-nil (IsElem o); trimmed = tt })

  pub zero_value_pair : (w : Pair E) (u v : List E) → u ≡ [] → v ≡ o.one ∷ [] → w ≡ (u, v) → (d : List E) → IsOver o d
      → IsFraction o w u d
  zero_value_pair w u v eu ev e d hd =
      subst (λ x. IsFraction o x u d) (sym (e ∙ ap₂ (λ x y. (x, y)) eu ev))
      (subst (λ y. IsFraction o ([], o.one ∷ []) y d) (sym eu) (zero_value d hd))

  -- ---- the leading coefficient of the denominator

  -- the constant c
  module _ (c : E) (hc : IsElem o c) where
    abbrev pub constant_poly : Poly F.cring
    constant_poly = constant F.cring F.zero_test (c, hc)

    has_constant : HasCoefficients o L constant_poly (at o (c ∷ []))
    has_constant k = each k ∙ ap (λ x. x.0) (sym (coefficient-constant F.cring F.zero_test (c, hc) k))
      where
        each : (k : ℕ) → at o (c ∷ []) k ≡ (constant_coefficients F.zero (c, hc) k).0
        each zero = refl
        each (suc k) = refl

    pub poly-constant_mul : (x y : List E) → IsOver o x → IsOver o y → IsProduct o (c ∷ []) x y
        → poly y ≡ P.◌⊗◌ constant_poly (poly x)
    poly-constant_mul x y hx hy e =
        eq_of_coefficients o L (poly y) (P.◌⊗◌ constant_poly (poly x)) (at o y)
        (convolution_of o (at o (c ∷ [])) (at o x))
        (has_polynomial_of o L y hy)
        (has-mul o L constant_poly (poly x) (at o (c ∷ [])) (at o x) has_constant (has_polynomial_of o L x hx)) e

    -- it has an inverse
    pub constant_unit : (b : Elem o) → o.mul c b.0 ≡ o.one
        → P.◌⊗◌ constant_poly (constant F.cring F.zero_test b) ≡ P.one
    constant_unit b e =
        let H = constant_hom F.cring F.zero_test in
        sym (H.map-mul (c, hc) b) ∙ ap (constant F.cring F.zero_test) (Elem-path o (F.◌⊗◌ (c, hc) b) F.one e)
        ∙ H.map-one

  module _ (u v u' v' : List E) (hu : Is u) (hv : Is v) (hu' : Is u') (hv' : Is v') (n : v ≢ []) (c : E)
      (hc : IsElem o c)
      (inverse : o.mul c (at o v (degree v)) ≡ o.one) (eu : IsProduct o (c ∷ []) u u')
      (ev : IsProduct o (c ∷ []) v v') where
    abbrev k : Poly F.cring
    k = constant_poly c hc

    abbrev l : Poly F.cring
    l = constant F.cring F.zero_test (lead F.cring (poly v))

    lead_unit : F.◌⊗◌ (c, hc) (lead F.cring (poly v)) ≡ F.one
    lead_unit = Elem-path o (F.◌⊗◌ (c, hc) (lead F.cring (poly v))) F.one
        (ap (o.mul c) (sym (lead_value o L v hv)) ∙ inverse)

    unit : P.◌⊗◌ k l ≡ P.one
    unit = constant_unit c hc (lead F.cring (poly v)) (ap (λ x. x.0) lead_unit)

    k-ne-zero : k ≢ P.zero
    k-ne-zero = left_ne_zero_of_mul P.ring k l (λ e. poly_one-ne-zero F (sym unit ∙ e))

    same_u : poly u' ≡ P.◌⊗◌ k (poly u)
    same_u = poly-constant_mul c hc u u' hu.over hu'.over eu

    same_v : poly v' ≡ P.◌⊗◌ k (poly v)
    same_v = poly-constant_mul c hc v v' hv.over hv'.over ev

    is_monic : IsMonic F.cring (P.◌⊗◌ k (poly v))
    is_monic =
        let nv : poly v ≢ P.zero = poly-ne-zero v hv n in
        record {
          nonzero = length_pos F.cring F.zero_test (P.◌⊗◌ k (poly v)) (poly_mul-ne-zero F k (poly v) k-ne-zero nv);
          leading = field_lead-mul F k (poly v) k-ne-zero nv
              ∙ ap (λ x. F.◌⊗◌ x (lead F.cring (poly v))) (lead-constant F.cring F.zero_test (c, hc)) ∙ lead_unit;
        }

    pub monic_lowest : IsCoprime o u v → IsLowestTerms o u' v'
    monic_lowest coprime = lowest_of_polynomials o L u' v' hu' hv' record {
      monic = subst (IsMonic F.cring) (sym same_v) is_monic;
      coprime = subst (λ x. Coprime x (poly v')) (sym same_u) (subst (Coprime (P.◌⊗◌ k (poly u))) (sym same_v)
          (coprime-mul_unit F (poly u) (poly v) k l unit (coprime_polynomials o L u v hu hv coprime)));
    }

    pub monic_value : IsFraction o (u', v') u v
    monic_value = fraction_of_eq (u', v') u v hu'.over hv'.over hu.over hv.over
        (ap (λ x. P.◌⊗◌ x (poly v)) same_u ∙ ring3 P (λ k u v. (k ⊠ u ⊠ v, u ⊠ (k ⊠ v))) refl k (poly u) (poly v)
        ∙ ap (P.◌⊗◌ (poly u)) (sym same_v))

  -- ---- common divisors

  -- what divides a constant is one
  pub coprime_of_constant_left : (u v : List E) → Is u → length u ≡ 1 → IsCoprime o u v
  coprime_of_constant_left u v hu l g og tg du dv = omega (
    arith,
    length-polynomial_of o L g hg,
    length_le_suc-degree F.cring (poly g),
    field_degree-mul F d.0 (poly g) (left_ne_zero_of_mul P.ring d.0 (poly g) product)
        (right_ne_zero_of_mul P.ring d.0 (poly g) product),
    ap (λ x. degree x.0) d.1,
    length-polynomial_of o L u hu,
    length-degree_of_ne_zero F.cring F.zero_test (poly u) u-ne-zero,
  )
    where
      hg : Is g
      hg = record { over = og; trimmed = tg }

      d : DividesIn P (poly g) (poly u)
      d = divides_polynomial_of o L g u hg hu du

      u-ne-zero : poly u ≢ P.zero
      u-ne-zero = ne_zero_of_length F.cring F.zero_test (poly u) (omega (arith, length-polynomial_of o L u hu))

      product : P.◌⊗◌ d.0 (poly g) ≢ P.zero
      product e = u-ne-zero (d.1 ∙ e)

  pub coprime_of_constant_right : (u v : List E) → Is v → length v ≡ 1 → IsCoprime o u v
  coprime_of_constant_right u v hv l g og tg du dv = coprime_of_constant_left v u hv l g og tg dv du

  gcd_of_common_divisor : (a b g : List E) → Is a → Is b → Is g → IsCommonDivisor o a b g
      → IsGcd P (poly a) (poly b) (poly g)
  gcd_of_common_divisor a b g ha hb hg d = record {
    left = divides_polynomial_of o L g a hg ha d.left;
    right = divides_polynomial_of o L g b hg hb d.right;
    s = poly d.s;
    t = poly d.t;
    combined = eq_of_coefficients o L (poly g) (P.◌⊕◌ (P.◌⊗◌ (poly d.s) (poly a)) (P.◌⊗◌ (poly d.t) (poly b))) (at o g)
        (λ k. o.add (convolution_of o (at o d.s) (at o a) k) (convolution_of o (at o d.t) (at o b) k))
        (has_polynomial_of o L g hg.over)
        (has-add o L (P.◌⊗◌ (poly d.s) (poly a)) (P.◌⊗◌ (poly d.t) (poly b)) (convolution_of o (at o d.s) (at o a))
        (convolution_of o (at o d.t) (at o b))
        (has-mul o L (poly d.s) (poly a) (at o d.s) (at o a) (has_polynomial_of o L d.s d.s_over)
        (has_polynomial_of o L a ha.over))
        (has-mul o L (poly d.t) (poly b) (at o d.t) (at o b) (has_polynomial_of o L d.t d.t_over)
        (has_polynomial_of o L b hb.over)))
        d.combination;
  }

  -- where a common divisor that is a combination is a constant
  pub coprime_of_constant_divisor : (a b g : List E) → Is a → Is b → Is g → IsCommonDivisor o a b g → length g ≡ 1
      → IsCoprime o a b
  coprime_of_constant_divisor a b g ha hb hg d l = coprime_lists o L a b ha hb
      (coprime_of_bezout F (poly a) (poly b) (P.◌⊗◌ c e.s) (P.◌⊗◌ c e.t)
      (combination_one F (poly a) (poly b) (poly g) e g-ne-zero flat))
    where
      e : IsGcd P (poly a) (poly b) (poly g)
      e = gcd_of_common_divisor a b g ha hb hg d

      g-ne-zero : poly g ≢ P.zero
      g-ne-zero = ne_zero_of_length F.cring F.zero_test (poly g) (omega (arith, length-polynomial_of o L g hg))

      flat : degree (poly g).0 ≡ 0
      flat = omega (
        arith,
        length-polynomial_of o L g hg,
        length-degree_of_ne_zero F.cring F.zero_test (poly g) g-ne-zero,
      )

      c : Poly F.cring
      c = constant F.cring F.zero_test (F.inv (lead F.cring (poly g)))

  -- the quotient by a divisor that is not 0 leaves no remainder
  pub exact_quotient : (a g q r : List E) → Is a → Is g → Is q → Is r → g ≢ [] → Divides o g a → IsDivision o a g q r
      → poly a ≡ P.◌⊗◌ (poly q) (poly g)
  exact_quotient a g q r ha hg hq hr n d e = c.1 ∙ ap (λ x. P.◌⊗◌ x (poly g)) (sym same.0)
    where
      g-ne-zero : poly g ≢ P.zero
      g-ne-zero = poly-ne-zero g hg n

      c : DividesIn P (poly g) (poly a)
      c = divides_polynomial_of o L g a hg ha d

      division : IsDivisionIn F.cring P (poly a) (poly g) (poly q) (poly r)
      division = record {
        whole = eq_of_coefficients o L (poly a) (P.◌⊕◌ (P.◌⊗◌ (poly q) (poly g)) (poly r)) (at o a)
            (λ k. o.add (convolution_of o (at o q) (at o g) k) (at o r k)) (has_polynomial_of o L a ha.over)
            (has-add o L (P.◌⊗◌ (poly q) (poly g)) (poly r) (convolution_of o (at o q) (at o g)) (at o r)
            (has-mul o L (poly q) (poly g) (at o q) (at o g) (has_polynomial_of o L q hq.over)
            (has_polynomial_of o L g hg.over))
            (has_polynomial_of o L r hr.over)) e.whole;
        smaller = omega (arith, e.smaller, length-polynomial_of o L r hr, length-polynomial_of o L g hg);
      }

      exact : IsDivisionIn F.cring P (poly a) (poly g) c.0 P.zero
      exact = record {
        whole = c.1 ∙ sym (add-zero P.monoid (P.◌⊗◌ c.0 (poly g)));
        smaller = omega (arith, zero-length F.cring F.zero_test, length_pos F.cring F.zero_test (poly g) g-ne-zero);
      }

      same : (poly q ≡ c.0) × (poly r ≡ P.zero)
      same = division_unique F.cring F.zero_test (poly g) (F.inv (lead F.cring (poly g)))
          (mul-inv F (lead F.cring (poly g)) (lead-ne-zero F.cring F.zero_test (poly g) g-ne-zero))
          (length_pos F.cring F.zero_test (poly g) g-ne-zero)
          (poly a) (poly q) (poly r) c.0 P.zero division exact

  -- 0 divides 0 alone
  pub divisor_nonzero : (a b g : List E) → Is b → b ≢ [] → IsCommonDivisor o a b g → g ≢ []
  divisor_nonzero a b g hb n d e =
      let none : Is [] = record { over = All-nil (IsElem o); trimmed = tt } in
      let c = divides_polynomial_of o L [] b none hb (subst (λ x. Divides o x b) e d.right) in
      poly-ne-zero b hb n (c.1 ∙ ap (P.◌⊗◌ c.0) (polynomial_of-nil o L) ∙ mul-zero P.ring c.0)

  -- a common divisor of coprime polynomials is a constant
  pub constant_of_coprime : (a b g : List E) → Is b → Is g → b ≢ [] → IsCommonDivisor o a b g → IsCoprime o a b
      → length g ≡ 1
  constant_of_coprime a b g hb hg n d c =
      let low = c g hg.over hg.trimmed d.left d.right in
      let pos : 0 < length g = length_pos_of_ne-nil g (divisor_nonzero a b g hb n d) in
      omega (arith, low, pos)

  -- quotients by a common divisor
  module _ (a b g p q r s : List E) (ha : Is a) (hb : Is b) (hg : Is g) (hp : Is p) (hq : Is q) (hr : Is r)
      (hs : Is s) (n : b ≢ [])
      (d : IsCommonDivisor o a b g) (ep : IsDivision o a g p r) (eq : IsDivision o b g q s) where
    g-ne-nil : g ≢ []
    g-ne-nil = divisor_nonzero a b g hb n d

    whole_a : poly a ≡ P.◌⊗◌ (poly p) (poly g)
    whole_a = exact_quotient a g p r ha hg hp hr g-ne-nil d.left ep

    whole_b : poly b ≡ P.◌⊗◌ (poly q) (poly g)
    whole_b = exact_quotient b g q s hb hg hq hs g-ne-nil d.right eq

    e : IsGcd P (poly a) (poly b) (poly g)
    e = gcd_of_common_divisor a b g ha hb hg d

    combined : P.◌⊕◌ (P.◌⊗◌ e.s (poly p)) (P.◌⊗◌ e.t (poly q)) ≡ P.one
    combined =
        poly_mul_cancel_left F (poly g) (P.◌⊕◌ (P.◌⊗◌ e.s (poly p)) (P.◌⊗◌ e.t (poly q))) P.one
        (poly-ne-zero g hg g-ne-nil)
        (ring5 P (λ g s p t q. (g ⊠ (s ⊠ p ⊞ t ⊠ q), s ⊠ (p ⊠ g) ⊞ t ⊠ (q ⊠ g))) refl (poly g) e.s (poly p) e.t (poly q)
        ∙ ap₂ (λ x y. P.◌⊕◌ (P.◌⊗◌ e.s x) (P.◌⊗◌ e.t y)) (sym whole_a) (sym whole_b)
        ∙ sym e.combined ∙ sym (P.mul-one (poly g)))

    pub quotients_coprime : IsCoprime o p q
    quotients_coprime = coprime_lists o L p q hp hq (coprime_of_bezout F (poly p) (poly q) e.s e.t combined)

    pub quotient_nonzero : q ≢ []
    quotient_nonzero z = poly-ne-zero b hb n
        (whole_b ∙ ap (λ x. P.◌⊗◌ (poly x) (poly g)) z ∙ ap (λ x. P.◌⊗◌ x (poly g)) (polynomial_of-nil o L)
        ∙ zero-mul P.ring (poly g))

    pub quotients_value : (w : Pair E) → IsOver o w.0 → IsOver o w.1 → IsFraction o w p q → IsFraction o w a b
    quotients_value w h0 h1 v = fraction_of_eq w a b h0 h1 ha.over hb.over
        (ap (P.◌⊗◌ (poly w.0)) whole_b ∙ sym (P.mul_assoc (poly w.0) (poly q) (poly g))
        ∙ ap (λ x. P.◌⊗◌ x (poly g)) (eq_of_fraction w p q h0 h1 hp.over hq.over v)
        ∙ ring3 P (λ p w g. (p ⊠ w ⊠ g, p ⊠ g ⊠ w)) refl (poly p) (poly w.1) (poly g)
        ∙ ap (λ x. P.◌⊗◌ x (poly w.1)) (sym whole_a))
