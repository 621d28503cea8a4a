-- The numbers below p ^ d by their digits are the ring of the remainders by the modulus, whatever the modulus; where
-- each but 0 has an inverse they are a field.
use Rattle.std.specs.Prelude.{◌≡◌, ◌≢◌, ℕ, suc, ◌+◌, ◌%◌, ◌<◌, ◌≤◌, List, length}
use Rattle.std.proofs.Common.{refl, sym, ◌∙◌, ap, subst, arith}
use Rattle.std.proofs.Math.Bridge.{le_prop}
use Rattle.std.proofs.lemmas.Bool.{ltb-true, lt-ltb, eqb-true, eq-eqb}
use mathlib.Core.HLevel.{Σ_prop_path}
use Rattle.theory_rings.specs.Ring.{CommRingOn, ZeroTest}
use Rattle.theory_rings.specs.Ops.{Ops, IsElem, FieldLaws}
use Rattle.theory_rings.specs.Elements.{Elem}
use Rattle.theory_rings.specs.Homomorphism.{IsRingHom}
use Rattle.theory_rings.specs.IntegersMod.{integers_mod, Fin, Fin-path, value-lt, residue, residue_is_zero}
use Rattle.theory_rings.specs.Digits.{digit, of_digits}
use Rattle.theory_rings.specs.Polynomial.{coefficient}
use Rattle.theory_rings.specs.Remainder.{Remainder}
use Rattle.theory_rings.specs.FieldByDigits.{size_by_digits, IsSumByDigits, IsProductByDigits, IsRingByDigits}
use Rattle.theory_rings.specs.FieldByDigits.{IsFieldByDigits, DigitsAreRemainders, DigitsAreRemaindersLaw}
use Rattle.theory_rings.proofs.Rings.RingLaws.{neg_unique}
use Rattle.theory_rings.proofs.Numbers.IntegersMod.{residue_zero_test}
use Rattle.theory_rings.proofs.Numbers.Digits.{le_pow_self}
use Rattle.theory_rings.proofs.Rings.Embedding.{RingEmbedding, embedded_comm_ring, FieldEmbedding, embedded_field}
use Rattle.theory_rings.proofs.Polynomials.PolynomialRing.{is_polynomial_ring}
use Rattle.theory_rings.proofs.Polynomials.Remainders.{remainders, remainder_eq, remainder_of_small}
use Rattle.theory_rings.proofs.Polynomials.Remainders.{remainders-zero_poly, remainders-one_poly, remainders-add_poly}
use Rattle.theory_rings.proofs.Polynomials.Remainders.{remainders-mul, is_remainder_ring}
use Rattle.theory_rings.proofs.FiniteFields.DigitPolynomials.{DigitPoly, digit_polynomials, polynomial_of}
use Rattle.theory_rings.proofs.FiniteFields.DigitPolynomials.{coefficient-polynomial_of, number_of, number_of_lt}
use Rattle.theory_rings.proofs.FiniteFields.DigitPolynomials.{polynomial_of-number_of, polynomial_of-injective}
use Rattle.theory_rings.proofs.FiniteFields.DigitPolynomials.{length-polynomial_of, polynomial_of-zero}
use Rattle.theory_rings.proofs.FiniteFields.DigitPolynomials.{polynomial_of-one}
use Rattle.theory_rings.proofs.FiniteFields.FieldByDigits.{modulus, coefficient-modulus, length-modulus, degree-modulus}
use Rattle.theory_rings.proofs.FiniteFields.FieldByDigits.{modulus_monic, polynomial_of-sum, polynomial_of-product}
use Rattle.theory_rings.proofs.FiniteFields.FieldByDigits.{sum_by_digits, sum_unique, product_exists, product_unique}

module _ (p : ℕ) (two_le : 2 ≤ p) (m : List ℕ) where
  abbrev R : CommRingOn (Fin p)
  R = integers_mod p two_le

  abbrev Z : ZeroTest R.zero (residue_is_zero p two_le)
  Z = residue_zero_test p two_le

  abbrev P : CommRingOn (DigitPoly p two_le)
  P = digit_polynomials p two_le

  abbrev M : DigitPoly p two_le
  M = modulus p two_le m

  abbrev q : ℕ
  q = size_by_digits p m

  abbrev pub RemainderByDigits : Type 0
  RemainderByDigits = Remainder R M

  abbrev pub Q : CommRingOn RemainderByDigits
  Q = remainders R Z M (modulus_monic p two_le m)

  -- the remainder whose coefficients are the digits of a
  pub remainder_of : (a : ℕ) → a < q → RemainderByDigits
  remainder_of a l = (
    polynomial_of p two_le a,
    omega (arith, length-modulus p two_le m, length-polynomial_of p two_le (length m) a l),
  )

  pub remainder_of-polynomial : (a : ℕ) (l : a < q) → (remainder_of a l).0 ≡ polynomial_of p two_le a
  unfolding remainder_of
  remainder_of-polynomial a l = refl

  -- remainders with the same polynomial are one
  same_remainder : (f g : RemainderByDigits) → f.0 ≡ g.0 → f ≡ g
  same_remainder f g e = Σ_prop_path (λ x. le_prop) {u = f} {v = g} e

  pub remainder_of-injective : (a b : ℕ) (la : a < q) (lb : b < q) → remainder_of a la ≡ remainder_of b lb → a ≡ b
  unfolding remainder_of
  remainder_of-injective a b la lb e = polynomial_of-injective p two_le a b (ap (λ f. f.0) e)

  -- the number whose digits are the coefficients of a remainder
  pub number_of_remainder : RemainderByDigits → ℕ
  number_of_remainder f = number_of p two_le f.0

  pub number_of_remainder_lt : (f : RemainderByDigits) → number_of_remainder f < q
  unfolding number_of_remainder
  number_of_remainder_lt f = number_of_lt p two_le (length m) f.0 (omega (arith, length-modulus p two_le m, f.1))

  pub remainder_of-number : (f : RemainderByDigits)
      → remainder_of (number_of_remainder f) (number_of_remainder_lt f) ≡ f
  unfolding number_of_remainder remainder_of
  remainder_of-number f =
      same_remainder (remainder_of (number_of_remainder f) (number_of_remainder_lt f)) f
      (polynomial_of-number_of p two_le f.0)

  -- sums and products go to those of remainders
  pub remainder_of-sum : (a b c : ℕ) (la : a < q) (lb : b < q) (lc : c < q) → IsSumByDigits p m a b c
      → remainder_of c lc ≡ Q.◌⊕◌ (remainder_of a la) (remainder_of b lb)
  unfolding remainder_of
  remainder_of-sum a b c la lb lc s = same_remainder (remainder_of c lc) (Q.◌⊕◌ (remainder_of a la) (remainder_of b lb))
      (polynomial_of-sum p two_le m a b c la lb s
      ∙ sym (remainders-add_poly R Z M (modulus_monic p two_le m) (remainder_of a la) (remainder_of b lb)))

  pub remainder_of-product : (a b c : ℕ) (la : a < q) (lb : b < q) (lc : c < q) → IsProductByDigits p m a b c
      → remainder_of c lc ≡ Q.◌⊗◌ (remainder_of a la) (remainder_of b lb)
  unfolding remainder_of
  remainder_of-product a b c la lb lc s =
      let A : DigitPoly p two_le = polynomial_of p two_le a in
      let B : DigitPoly p two_le = polynomial_of p two_le b in
      let C : DigitPoly p two_le = polynomial_of p two_le c in
      sym (remainder_of_small R Z M (modulus_monic p two_le m) C (remainder_of c lc).1)
      ∙ sym (remainder_eq R Z M (modulus_monic p two_le m) (P.◌⊗◌ A B) C (
        polynomial_of p two_le s.quotient,
        polynomial_of-product p two_le m a b c s
            ∙ P.add_comm (P.◌⊗◌ (polynomial_of p two_le s.quotient) M) C,
      ))
      ∙ sym (remainders-mul R Z M (modulus_monic p two_le m) (remainder_of a la) (remainder_of b lb))

  pub remainder_of-zero : (l : 0 < q) → remainder_of 0 l ≡ Q.zero
  unfolding remainder_of
  remainder_of-zero l = same_remainder (remainder_of 0 l) Q.zero
      (polynomial_of-zero p two_le ∙ sym (remainders-zero_poly R Z M (modulus_monic p two_le m)))

  module _ (d : 1 ≤ length m) where
    pub one_lt_size : 1 < q
    one_lt_size = let l = le_pow_self p (length m) d in omega arith

    zero_lt_size : 0 < q
    zero_lt_size = omega (arith, one_lt_size)

    pub remainder_of-one : (l : 1 < q) → remainder_of 1 l ≡ Q.one
    unfolding remainder_of
    remainder_of-one l = same_remainder (remainder_of 1 l) Q.one
        (polynomial_of-one p two_le
        ∙ sym (remainders-one_poly R Z M (modulus_monic p two_le m) (omega (arith, degree-modulus p two_le m))))

    -- as a map of types
    pub to_remainder : Fin q → RemainderByDigits
    to_remainder a = remainder_of a.0 (value-lt q a)

    pub from_remainder : RemainderByDigits → Fin q
    from_remainder f = (number_of_remainder f, lt-ltb (number_of_remainder f) q (number_of_remainder_lt f))

    pub to-from_remainder : (f : RemainderByDigits) → to_remainder (from_remainder f) ≡ f
    unfolding to_remainder from_remainder
    to-from_remainder f =
        same_remainder (to_remainder (from_remainder f)) f
        (remainder_of-polynomial (number_of_remainder f) (value-lt q (from_remainder f))
        ∙ sym (remainder_of-polynomial (number_of_remainder f) (number_of_remainder_lt f))
        ∙ ap (λ g. g.0) (remainder_of-number f))

    to_remainder-injective : (a b : Fin q) → to_remainder a ≡ to_remainder b → a ≡ b
    unfolding to_remainder
    to_remainder-injective a b e = Fin-path q a b (remainder_of-injective a.0 b.0 (value-lt q a) (value-lt q b) e)

    pub from-to_remainder : (a : Fin q) → from_remainder (to_remainder a) ≡ a
    from-to_remainder a =
        to_remainder-injective (from_remainder (to_remainder a)) a (to-from_remainder (to_remainder a))

    sum_of : Fin q → Fin q → Fin q
    sum_of a b = let s = sum_by_digits p two_le m a.0 b.0 in
        let c = of_digits p (length m) (λ k. (digit p a.0 k + digit p b.0 k) % p) in (c, lt-ltb c q s.below)

    product_of : Fin q → Fin q → Fin q
    product_of a b = let s = product_exists p two_le m a.0 b.0 in (s.0, lt-ltb s.0 q s.1.below)

    to_remainder-sum : (a b : Fin q) → to_remainder (sum_of a b) ≡ Q.◌⊕◌ (to_remainder a) (to_remainder b)
    unfolding to_remainder sum_of
    to_remainder-sum a b =
        remainder_of-sum a.0 b.0 (sum_of a b).0 (value-lt q a) (value-lt q b) (value-lt q (sum_of a b))
        (sum_by_digits p two_le m a.0 b.0)

    to_remainder-product : (a b : Fin q) → to_remainder (product_of a b) ≡ Q.◌⊗◌ (to_remainder a) (to_remainder b)
    unfolding to_remainder product_of
    to_remainder-product a b =
        remainder_of-product a.0 b.0 (product_of a b).0 (value-lt q a) (value-lt q b) (value-lt q (product_of a b))
        (product_exists p two_le m a.0 b.0).1

    digits_embedding : RingEmbedding (Fin q) Q.ring
    unfolding to_remainder
    digits_embedding = record {
      zero = (0, lt-ltb 0 q zero_lt_size);
      one = (1, lt-ltb 1 q one_lt_size);
      add = sum_of;
      neg = λ a. from_remainder (Q.neg (to_remainder a));
      mul = product_of;
      map = to_remainder;
      injective = to_remainder-injective;
      map-zero = remainder_of-zero (value-lt q (0, lt-ltb 0 q zero_lt_size));
      map-one = remainder_of-one (value-lt q (1, lt-ltb 1 q one_lt_size));
      map-add = to_remainder-sum;
      map-neg = λ a. to-from_remainder (Q.neg (to_remainder a));
      map-mul = to_remainder-product;
    }

    -- the ring
    pub ring_by_digits : CommRingOn (Fin q)
    ring_by_digits = embedded_comm_ring Q digits_embedding

    pub is_ring_by_digits : IsRingByDigits p m ring_by_digits
    unfolding ring_by_digits digits_embedding sum_of product_of
    is_ring_by_digits = record {
      zero = refl;
      one = refl;
      add = λ a b. (sum_by_digits p two_le m a.0 b.0);
      add_only = λ a b c s. sum_unique p two_le m a.0 b.0 c (sum_of a b).0 s (sum_by_digits p two_le m a.0 b.0);
      mul = λ a b. (product_exists p two_le m a.0 b.0).1;
      mul_only = λ a b c s.
          product_unique p two_le m a.0 b.0 c (product_of a b).0 s (product_exists p two_le m a.0 b.0).1;
    }

    to_remainder_hom : IsRingHom ring_by_digits.ring Q.ring to_remainder
    unfolding ring_by_digits digits_embedding
    to_remainder_hom = record {
      map-one = digits_embedding.map-one;
      map-add = to_remainder-sum;
      map-mul = to_remainder-product;
    }

    pub coefficient-to_remainder : (a : Fin q) (k : ℕ)
        → coefficient R (to_remainder a).0 k ≡ residue p two_le (digit p a.0 k)
    unfolding to_remainder
    coefficient-to_remainder a k =
        ap (λ f. coefficient R f k) (remainder_of-polynomial a.0 (value-lt q a))
        ∙ coefficient-polynomial_of p two_le a.0 k

    pub digits_are_remainders : DigitsAreRemainders p two_le m
    digits_are_remainders = record {
      F = ring_by_digits;
      by_digits = is_ring_by_digits;
      P = P;
      polynomials = is_polynomial_ring R Z;
      M = M;
      coefficient-M = coefficient-modulus p two_le m;
      Q = Q;
      remainders = is_remainder_ring R Z M (modulus_monic p two_le m);
      map = to_remainder;
      coefficient-map = coefficient-to_remainder;
      homomorphism = to_remainder_hom;
      back = from_remainder;
      back-map = from-to_remainder;
      map-back = to-from_remainder;
    }

    -- a program's operations that are these, with inverses, are a field
    module _ (o : Ops ℕ) (F : IsFieldByDigits p m o) where
      pub elem_lt : (a : ℕ) → IsElem o a → a < q
      elem_lt a h = ltb-true a q (sym (F.is_elem a) ∙ h)

      pub lt_elem : (a : ℕ) → a < q → IsElem o a
      lt_elem a l = F.is_elem a ∙ lt-ltb a q l

      abbrev image : Elem o → RemainderByDigits
      image a = remainder_of a.0 (elem_lt a.0 a.1)

      remainder_of_congr : (a b : ℕ) (la : a < q) (lb : b < q) → a ≡ b → remainder_of a la ≡ remainder_of b lb
      remainder_of_congr a b la lb e = same_remainder (remainder_of a la) (remainder_of b lb)
          (remainder_of-polynomial a la ∙ ap (polynomial_of p two_le) e ∙ sym (remainder_of-polynomial b lb))

      opposite : (a : Elem o) (l : o.neg a.0 < q) → remainder_of (o.neg a.0) l ≡ Q.neg (image a)
      opposite a l = neg_unique Q.additive (image a) (remainder_of (o.neg a.0) l)
          (sym (remainder_of-sum a.0 (o.neg a.0) 0 (elem_lt a.0 a.1) l zero_lt_size (F.add-neg a.0 (elem_lt a.0 a.1)))
          ∙ remainder_of-zero zero_lt_size)

      inverse : (a : Elem o) (l : o.inv a.0 < q) → a.0 ≢ 0 → Q.◌⊗◌ (remainder_of (o.inv a.0) l) (image a) ≡ Q.one
      inverse a l n =
          Q.mul_comm (remainder_of (o.inv a.0) l) (image a)
          ∙ sym (remainder_of-product a.0 (o.inv a.0) 1 (elem_lt a.0 a.1) l one_lt_size
          (F.mul-inv a.0 (elem_lt a.0 a.1) n))
          ∙ remainder_of-one one_lt_size

      field_embedding : FieldEmbedding o Q
      field_embedding =
          let zero-elem : IsElem o o.zero = lt_elem o.zero (subst (λ x. x < q) (sym F.zero) zero_lt_size) in
          let one-elem : IsElem o o.one = lt_elem o.one (subst (λ x. x < q) (sym F.one) one_lt_size) in
          let add-elem : (a b : ℕ) → IsElem o a → IsElem o b → IsElem o (o.add a b) =
          λ a b ha hb. lt_elem (o.add a b) (let s = F.add a b (elem_lt a ha) (elem_lt b hb) in s.below) in
          let mul-elem : (a b : ℕ) → IsElem o a → IsElem o b → IsElem o (o.mul a b) =
          λ a b ha hb. lt_elem (o.mul a b) (let s = F.mul a b (elem_lt a ha) (elem_lt b hb) in s.below) in
          let neg-elem : (a : ℕ) → IsElem o a
          → IsElem o (o.neg a) = λ a ha. lt_elem (o.neg a) (F.neg a (elem_lt a ha)) in
          let inv-elem : (a : ℕ) → IsElem o a
          → IsElem o (o.inv a) = λ a ha. lt_elem (o.inv a) (F.inv a (elem_lt a ha)) in
          record {
            zero-elem = zero-elem;
            one-elem = one-elem;
            add-elem = add-elem;
            neg-elem = neg-elem;
            mul-elem = mul-elem;
            inv-elem = inv-elem;
            map = image;
            injective = λ a b e. remainder_of-injective a.0 b.0 (elem_lt a.0 a.1) (elem_lt b.0 b.1) e;
            map-zero = remainder_of_congr o.zero 0 (elem_lt o.zero zero-elem) zero_lt_size F.zero
                ∙ remainder_of-zero zero_lt_size;
            map-one = remainder_of_congr o.one 1 (elem_lt o.one one-elem) one_lt_size F.one
                ∙ remainder_of-one one_lt_size;
            map-add = λ a b. remainder_of-sum a.0 b.0 (o.add a.0 b.0) (elem_lt a.0 a.1) (elem_lt b.0 b.1)
                (elem_lt (o.add a.0 b.0) (add-elem a.0 b.0 a.1 b.1))
                (F.add a.0 b.0 (elem_lt a.0 a.1) (elem_lt b.0 b.1));
            map-neg = λ a. opposite a (elem_lt (o.neg a.0) (neg-elem a.0 a.1));
            map-mul = λ a b. remainder_of-product a.0 b.0 (o.mul a.0 b.0) (elem_lt a.0 a.1) (elem_lt b.0 b.1)
                (elem_lt (o.mul a.0 b.0) (mul-elem a.0 b.0 a.1 b.1))
                (F.mul a.0 b.0 (elem_lt a.0 a.1) (elem_lt b.0 b.1));
            map-inv = λ a n. inverse a (elem_lt (o.inv a.0) (inv-elem a.0 a.1)) (λ e. n (e ∙ sym F.zero));
            is_zero-sound = λ a _ e. eqb-true a 0 (sym (F.is_zero a) ∙ e) ∙ sym F.zero;
            is_zero-zero = F.is_zero o.zero ∙ eq-eqb o.zero 0 F.zero;
            one-nonzero = λ e. one_ne_zero (remainder_of-injective 1 0 one_lt_size zero_lt_size
                (remainder_of-one one_lt_size ∙ e ∙ sym (remainder_of-zero zero_lt_size)));
          }
        where
          one_ne_zero : suc 0 ≡ 0 → ⊥
          one_ne_zero e = omega arith

      pub field_by_digits_laws : FieldLaws o
      field_by_digits_laws = embedded_field o Q field_embedding

pub digits_are_remainders_law : DigitsAreRemaindersLaw
digits_are_remainders_law = digits_are_remainders
