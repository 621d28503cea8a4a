-- The multiples of 1 in the field of fractions over a small field are 0 only at multiples of the characteristic.
use Rattle.std.specs.Prelude.{◌≡◌, ◌≢◌, ℕ, zero, suc, ◌%◌}
use Rattle.std.proofs.Common.{sym, ◌∙◌, ap, ap₂, subst}
use Rattle.std.proofs.lemmas.Nat.Gcd.{mod-eq-zero_of_dvd}
use Rattle.theory_rings.specs.Ring.{FieldOn, CommRingOn}
use Rattle.theory_rings.specs.Ops.{Ops, FieldLaws}
use Rattle.theory_rings.specs.Elements.{Elem, Elem-path, elements}
use Rattle.theory_rings.specs.FieldByDigits.{IsFieldByDigits}
use Rattle.theory_rings.specs.Prime.{IsPrime}
use Rattle.theory_rings.specs.Power.{times, times_of}
use Rattle.theory_rings.specs.Polynomial.{Poly}
use Rattle.theory_rings.specs.Fraction.{IsValue, IsFractionField}
use Rattle.theory_rings.proofs.Rings.RingLaws.{additive-zero, zero-mul}
use Rattle.theory_rings.proofs.Rings.Elements.{times_of-elements}
use Rattle.theory_rings.proofs.Numbers.Primes.{IsPrime-one_mem}
use Rattle.theory_rings.proofs.Numbers.ClosedSets.{IsClosed}
use Rattle.theory_rings.proofs.Powers.Times.{one-times, add-times, map-times, times-eq-mul}
use Rattle.theory_rings.proofs.Polynomials.PolynomialRing.{constant}
use Rattle.theory_rings.proofs.Polynomials.Constants.{constant-zero, constant-one, constant_hom}
use Rattle.theory_rings.proofs.Polynomials.Bezout.{field_polynomials}
use Rattle.theory_rings.proofs.Fractions.Lowest.{Lowest, rational_functions, is_rational_functions}
use Rattle.theory_rings.proofs.FiniteFields.ElementsByDigits.{prime_by_digits, characteristic_by_digits}
use Rattle.spl_field.specs.SmallField.{characteristic, small_ops, small_laws}
use Rattle.spl_field.specs.TableField.{is_field_by_digits}
use Rattle.spl_field.specs.declared.small.SmallField.{SmallField}
use Rattle.theory_fractions.specs.FractionOps.{RationalFunction, rational_function, fraction_ops}
use Rattle.theory_fractions.proofs.FractionField.{rational_function-pair_of, rational_function_injective}
use Rattle.theory_fractions.proofs.FractionField.{eq_zero_of_numerator}
use Rattle.spl_fraction.specs.FractionsOver.{fractions_over, fractions_laws}

-- where a prime p is 0, a number that p does not divide isn't
pub times_one-nonzero : {K : Type 0} (F : FieldOn K) (p : ℕ) → IsPrime p → times F.monoid p F.one ≡ F.zero
    → (n : ℕ) → n % p ≢ 0 → times F.monoid n F.one ≢ F.zero
times_one-nonzero F p prime char n d z =
    F.one-nonzero (sym (one-times F.monoid F.one)
    ∙ IsPrime-one_mem p prime (λ k. times F.monoid k F.one ≡ F.zero) closed char n z
    (λ h. d (mod-eq-zero_of_dvd p h)))
  where
    closed : IsClosed (λ k. times F.monoid k F.one ≡ F.zero)
    closed = record {
      sums = λ a b sa sb. add-times F.monoid a b F.one ∙ ap₂ F.◌⊕◌ sa sb ∙ F.zero-add F.zero;
      differences = λ a b sa sb.
          sym (F.zero-add (times F.monoid b F.one)) ∙ ap (λ x. F.◌⊕◌ x (times F.monoid b F.one)) (sym sa)
          ∙ sym (add-times F.monoid a b F.one) ∙ sb;
    }

module _ {E : Type 0} (o : Ops E) (L : FieldLaws o) where
  abbrev F : FieldOn (Elem o)
  F = elements o L

  abbrev P : CommRingOn (Poly F.cring)
  P = field_polynomials F

  abbrev K : FieldOn (RationalFunction o L)
  K = rational_functions F

  abbrev I : IsFractionField P (Lowest F) K
  I = is_rational_functions F

  -- n·1 is n·1 over 1
  times-value : (n : ℕ) → IsValue P (Lowest F) (times K.monoid n K.one) (times P.monoid n P.one) P.one
  times-value zero = I.zero_value
  times-value (suc n) =
      let x = times K.monoid n K.one in
      let a = times P.monoid n P.one in
      let sum = K.◌⊕◌ x K.one in
      subst (λ u. IsValue P (Lowest F) sum u P.one) (ap₂ P.◌⊕◌ (P.mul-one a) (P.mul-one P.one))
      (subst (λ v. IsValue P (Lowest F) sum (P.◌⊕◌ (P.◌⊗◌ a P.one) (P.◌⊗◌ P.one P.one)) v) (P.mul-one P.one)
      (I.add_value x K.one a P.one P.one P.one (times-value n) I.one_value))

  -- a number that is 0 among the coefficients is 0 among the fractions
  rational_characteristic : (p : ℕ) → times F.monoid p F.one ≡ F.zero → times K.monoid p K.one ≡ K.zero
  rational_characteristic p h =
      let x = times K.monoid p K.one in
      let c = constant F.cring F.zero_test in
      let none = constant-zero F.cring F.zero_test in
      let vanishes : times P.monoid p P.one ≡ P.zero =
      ap (times P.monoid p) (sym (constant-one F.cring F.zero_test))
      ∙ sym (map-times F.monoid P.monoid c none (constant_hom F.cring F.zero_test).map-add p F.one) ∙ ap c h ∙ none in
      eq_zero_of_numerator o L x
      (sym (P.mul-one x.0.0) ∙ times-value p ∙ ap (λ u. P.◌⊗◌ u x.0.1) vanishes ∙ zero-mul P.ring x.0.1)

  pub fraction_characteristic : (Q : FieldLaws (fraction_ops o L)) (p : ℕ) → times F.monoid p F.one ≡ F.zero
      → times (elements (fraction_ops o L) Q).monoid p (elements (fraction_ops o L) Q).one ≡
      (elements (fraction_ops o L) Q).zero
  unfolding fraction_ops
  fraction_characteristic laws p h =
      let Q = elements (fraction_ops o L) laws in
      let f : Elem (fraction_ops o L) → RationalFunction o L = λ a. rational_function o L a.0 in
      let f-add : (a b : Elem (fraction_ops o L)) → f (Q.◌⊕◌ a b) ≡ K.◌⊕◌ (f a) (f b) =
      λ a b. rational_function-pair_of o L (K.◌⊕◌ (rational_function o L a.0) (rational_function o L b.0)) in
      let f-zero : f Q.zero ≡ K.zero = additive-zero Q.additive K.additive f f-add in
      let x = times Q.monoid p Q.one in
      Elem-path (fraction_ops o L) x Q.zero (rational_function_injective o L x.0 Q.zero.0 x.1 Q.zero.1
      (map-times Q.monoid K.monoid f f-zero f-add p Q.one ∙ times-eq-mul K.ring p (f Q.one)
      ∙ ap (λ z. K.◌⊗◌ z (f Q.one)) (rational_characteristic p h) ∙ zero-mul K.ring (f Q.one) ∙ sym f-zero))

-- a small field is the field of numbers by their digits
by_digits : (f : SmallField) → IsFieldByDigits f.p f.modulus.items (small_ops f)
by_digits f = is_field_by_digits f.p f.least f.modulus.items f.some_number f.size f.power f.sums.items f.negatives.items
    f.products.items f.inverses.items
    f.sums_are f.negatives_below f.negatives_are f.products_are f.inverses_below f.inverses_are

-- the characteristic of a small field is prime
pub IsPrime-characteristic : (f : SmallField) → IsPrime (characteristic f)
IsPrime-characteristic f = prime_by_digits f.p f.least f.modulus.items f.some_number (small_ops f) (by_digits f)

pub times_one-nonzero_over : (f : SmallField) (n : ℕ) → n % characteristic f ≢ 0
    → times_of (fractions_over f) n (fractions_over f).one ≢ (fractions_over f).zero
times_one-nonzero_over f n d z =
    let p = f.p in
    let o = small_ops f in
    let F = elements o (small_laws f) in
    let Q = elements (fractions_over f) (fractions_laws f) in
    let char = characteristic_by_digits p f.least f.modulus.items f.some_number o (by_digits f) in
    times_one-nonzero Q p (IsPrime-characteristic f)
    (fraction_characteristic o (small_laws f) (fractions_laws f) p
    (Elem-path o (times F.monoid p F.one) F.zero (sym (times_of-elements o (small_laws f) p F.one) ∙ char)))
    n d (Elem-path (fractions_over f) (times Q.monoid n Q.one) Q.zero
    (sym (times_of-elements (fractions_over f) (fractions_laws f) n Q.one) ∙ z))
