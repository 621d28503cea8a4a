-- Remainders of products and powers, on lists over a program's field.
use Rattle.std.specs.Prelude.{◌≡◌, ℕ, zero, suc, ◌+◌, ◌<◌, List, [], ◌∷◌, length}
use Rattle.std.proofs.Common.{refl, sym, ◌∙◌, ap, ap₂}
use Rattle.std.proofs.lemmas.List.Elements.{All-nil, All-cons}
use Rattle.theory_rings.specs.Ring.{FieldOn, CommRingOn}
use Rattle.theory_rings.specs.Ops.{Ops, IsElem, FieldLaws}
use Rattle.theory_rings.specs.Elements.{Elem, Elem-path, elements}
use Rattle.theory_rings.specs.Sum.{at}
use Rattle.theory_rings.specs.Power.{power}
use Rattle.theory_rings.specs.Polynomial.{IsTrimmed, trim, Poly, coefficient, convolution_of, constant_coefficients}
use Rattle.theory_rings.specs.Division.{Congruent}
use Rattle.theory_rings.proofs.Powers.Powers.{power-add}
use Rattle.theory_rings.proofs.Rings.Congruences.{congruent_of_eq, congruent_trans, congruent-mul}
use Rattle.theory_rings.proofs.Polynomials.PolynomialRing.{Poly-path, IsTrimmed-trim, get_or-trim, coefficient-one}
use Rattle.theory_rings.proofs.Polynomials.PolynomialRing.{coefficient-add, coefficient-mul}
use Rattle.theory_rings.proofs.Polynomials.Bezout.{field_polynomials}
use Rattle.theory_rings.proofs.Polynomials.ElementLists.{values, at-values, elements_of, values-elements_of, poly_of}
use Rattle.theory_rings.proofs.Polynomials.ElementLists.{coefficient-poly_of, convolution_of-elements}
use Rattle.spl_poly.specs.Operations.{IsOver, IsDivisionOf, IsProductRemainder, IsPowerRemainder, power_coefficients}
use Rattle.theory_rings.proofs.Rings.Elements.{at-elem}
use Rattle.theory_fractions.proofs.Coefficients.{convolution_of_congr, convolution_of-zeros}
use Rattle.theory_fractions.proofs.Lifting.{values-over, HasCoefficients, coefficients_mul}

module _ {E : Type 0} (o : Ops E) (L : FieldLaws o) where
  abbrev F : FieldOn (Elem o)
  F = elements o L

  abbrev P : CommRingOn (Poly F.cring)
  P = field_polynomials F

  coefficients_power : (a : List E) (ha : IsOver o a) (ta : IsTrimmed o.zero a) (n : ℕ)
      → HasCoefficients o L (power P.ring (poly_of o L a ha ta) n) (power_coefficients o a n)
  coefficients_power a ha ta zero = λ k. go k ∙ ap (λ x. x.0) (sym (coefficient-one F.cring F.zero_test k))
    where
      go : (k : ℕ) → constant_coefficients o.zero o.one k ≡ (constant_coefficients F.zero F.one k).0
      go zero = refl
      go (suc k) = refl
  coefficients_power a ha ta (suc n) =
      coefficients_mul o L (poly_of o L a ha ta) (power P.ring (poly_of o L a ha ta) n) (at o a)
      (power_coefficients o a n)
      (λ k. sym (coefficient-poly_of o L a ha ta k)) (coefficients_power a ha ta n)

  module _ (m : List E) (hm : IsOver o m) (tm : IsTrimmed o.zero m) where
    abbrev M : Poly F.cring
    M = poly_of o L m hm tm

    -- a division on lists is a congruence of polynomials
    pub congruent_of_division : (p : Poly F.cring) (f : ℕ → E) → HasCoefficients o L p f
        → (r : List E) (hr : IsOver o r) (tr : IsTrimmed o.zero r)
        → ((q : List E) × IsOver o q × IsDivisionOf o f m q r) → Congruent P M p (poly_of o L r hr tr)
    congruent_of_division p f hf r hr tr s = (c, Poly-path F.cring p (P.◌⊕◌ (poly_of o L r hr tr) (P.◌⊗◌ c M)) each)
      where
        xs : List (Elem o)
        xs = elements_of o L s.0 s.1

        c : Poly F.cring
        c = (trim F.is_zero xs, IsTrimmed-trim F.zero_test xs)

        hc : HasCoefficients o L c (at o s.0)
        hc k = sym (ap (λ x. x.0) (get_or-trim F.zero_test xs k) ∙ sym (at-values o L xs k)
            ∙ ap (λ ys. at o ys k) (values-elements_of o L s.0 s.1))

        each : (k : ℕ) → coefficient F.cring p k ≡ coefficient F.cring (P.◌⊕◌ (poly_of o L r hr tr) (P.◌⊗◌ c M)) k
        each k =
            Elem-path o (coefficient F.cring p k)
            (F.◌⊕◌ (coefficient F.cring (P.◌⊗◌ c M) k) (coefficient F.cring (poly_of o L r hr tr) k))
            (sym (hf k) ∙ s.2.whole k
            ∙ ap₂ o.add (coefficients_mul o L c M (at o s.0) (at o m) hc
            (λ i. sym (coefficient-poly_of o L m hm tm i)) k)
            (sym (coefficient-poly_of o L r hr tr k)))
            ∙ F.add_comm (coefficient F.cring (P.◌⊗◌ c M) k) (coefficient F.cring (poly_of o L r hr tr) k)
            ∙ sym (coefficient-add F.cring F.zero_test (poly_of o L r hr tr) (P.◌⊗◌ c M) k)

    -- and back
    pub division_of_congruent : (p : Poly F.cring) (f : ℕ → E) → HasCoefficients o L p f
        → (r : List E) (hr : IsOver o r) (tr : IsTrimmed o.zero r)
        → length r < length m → Congruent P M p (poly_of o L r hr tr) → (q : List E) × IsOver o q
        × IsDivisionOf o f m q r
    division_of_congruent p f hf r hr tr l s = (
      values o L s.0.0,
      values-over o L s.0.0,
      record { whole = each; smaller = l },
    )
      where
        each : (k : ℕ) → f k ≡ o.add (convolution_of o (at o (values o L s.0.0)) (at o m) k) (at o r k)
        each k =
            hf k ∙ ap (λ x. (coefficient F.cring x k).0) s.1
            ∙ ap (λ x. x.0) (coefficient-add F.cring F.zero_test (poly_of o L r hr tr) (P.◌⊗◌ s.0 M) k
            ∙ F.add_comm (coefficient F.cring (poly_of o L r hr tr) k) (coefficient F.cring (P.◌⊗◌ s.0 M) k))
            ∙ ap₂ o.add (sym (coefficients_mul o L s.0 M (at o (values o L s.0.0)) (at o m) (at-values o L s.0.0)
            (λ i. sym (coefficient-poly_of o L m hm tm i)) k))
            (coefficient-poly_of o L r hr tr k)

    module _ (a : List E) (ha : IsOver o a) (ta : IsTrimmed o.zero a) where
      abbrev A : Poly F.cring
      A = poly_of o L a ha ta

      power_congruent : (n : ℕ) (r : List E) (hr : IsOver o r) (tr : IsTrimmed o.zero r) → IsPowerRemainder o a n m r
          → Congruent P M (power P.ring A n) (poly_of o L r hr tr)
      power_congruent n r hr tr =
          congruent_of_division (power P.ring A n) (power_coefficients o a n) (coefficients_power a ha ta n) r hr tr

      product_congruent : (b r : List E) (hb : IsOver o b) (tb : IsTrimmed o.zero b) (hr : IsOver o r)
          (tr : IsTrimmed o.zero r) → IsProductRemainder o b a m r
          → Congruent P M (P.◌⊗◌ (poly_of o L b hb tb) A) (poly_of o L r hr tr)
      product_congruent b r hb tb hr tr =
          congruent_of_division (P.◌⊗◌ (poly_of o L b hb tb) A) (convolution_of o (at o b) (at o a))
          (coefficients_mul o L (poly_of o L b hb tb) A (at o b) (at o a)
          (λ k. sym (coefficient-poly_of o L b hb tb k)) (λ k. sym (coefficient-poly_of o L a ha ta k)))
          r hr tr

      -- from the power with exponent n to that with n + 1
      pub power_remainder_next : (n : ℕ) (s t : List E) (hs : IsOver o s) (ts : IsTrimmed o.zero s) (ht : IsOver o t)
          (tt' : IsTrimmed o.zero t)
          → IsPowerRemainder o a n m s → IsProductRemainder o s a m t → IsPowerRemainder o a (suc n) m t
      power_remainder_next n s t hs ts ht tt' ds dt =
          division_of_congruent (power P.ring A (suc n)) (power_coefficients o a (suc n))
          (coefficients_power a ha ta (suc n)) t ht tt' dt.2.smaller
          (congruent_trans P M (power P.ring A (suc n)) (P.◌⊗◌ (poly_of o L s hs ts) A) (poly_of o L t ht tt')
          (congruent_trans P M (power P.ring A (suc n)) (P.◌⊗◌ A (poly_of o L s hs ts)) (P.◌⊗◌ (poly_of o L s hs ts) A)
          (congruent-mul P M A A (power P.ring A n) (poly_of o L s hs ts) (congruent_of_eq P M A A refl)
          (power_congruent n s hs ts ds))
          (congruent_of_eq P M (P.◌⊗◌ A (poly_of o L s hs ts)) (P.◌⊗◌ (poly_of o L s hs ts) A)
          (P.mul_comm A (poly_of o L s hs ts))))
          (product_congruent s t hs ts ht tt' dt))

      -- the power with exponent 0
      pub power_remainder_zero : (r : List E) → ((k : ℕ) → at o r k ≡ constant_coefficients o.zero o.one k)
          → length r < length m → IsOver o r
          → IsPowerRemainder o a 0 m r
      power_remainder_zero r e l hr = (
        [],
        All-nil (IsElem o),
        record {
          whole = λ k. sym (ap (λ x. o.add x (at o r k)) (convolution_of-zeros o L [] m hm (λ i. refl) k)
              ∙ L.zero-add (at o r k) (at-elem o L r hr k) ∙ e k);
          smaller = l;
        },
      )

      -- a base may be replaced by its remainder
      pub power_remainder_base : (n : ℕ) (b r : List E) (hb : IsOver o b) (tb : IsTrimmed o.zero b) (hr : IsOver o r)
          (tr : IsTrimmed o.zero r)
          → ((q : List E) × IsOver o q × IsDivisionOf o (at o a) m q b) → IsPowerRemainder o b n m r
          → IsPowerRemainder o a n m r
      power_remainder_base n b r hb tb hr tr d dr =
          division_of_congruent (power P.ring A n) (power_coefficients o a n)
          (coefficients_power a ha ta n) r hr tr dr.2.smaller
          (congruent_trans P M (power P.ring A n) (power P.ring (poly_of o L b hb tb) n) (poly_of o L r hr tr)
          (powers n)
          (congruent_of_division (power P.ring (poly_of o L b hb tb) n) (power_coefficients o b n)
          (coefficients_power b hb tb n) r hr tr dr))
        where
          B : Poly F.cring
          B = poly_of o L b hb tb

          powers : (n : ℕ) → Congruent P M (power P.ring A n) (power P.ring B n)
          powers zero = congruent_of_eq P M P.one P.one refl
          powers (suc n) =
              congruent-mul P M A B (power P.ring A n) (power P.ring B n)
              (congruent_of_division A (at o a) (λ k. sym (coefficient-poly_of o L a ha ta k)) b hb tb d) (powers n)

      -- from the power with half of the exponent
      pub power_remainder_square : (n : ℕ) (h s : List E) (hh : IsOver o h) (th : IsTrimmed o.zero h)
          (hs : IsOver o s) (ts : IsTrimmed o.zero s)
          → IsPowerRemainder o a n m h → IsProductRemainder o h h m s → IsPowerRemainder o a (n + n) m s
      power_remainder_square n h s hh th hs ts dh ds =
          let H : Poly F.cring = poly_of o L h hh th in
          division_of_congruent (power P.ring A (n + n)) (power_coefficients o a (n + n))
          (coefficients_power a ha ta (n + n)) s hs ts ds.2.smaller
          (congruent_trans P M (power P.ring A (n + n)) (P.◌⊗◌ (power P.ring A n) (power P.ring A n))
          (poly_of o L s hs ts)
          (congruent_of_eq P M (power P.ring A (n + n)) (P.◌⊗◌ (power P.ring A n) (power P.ring A n))
          (power-add P.ring A n n))
          (congruent_trans P M (P.◌⊗◌ (power P.ring A n) (power P.ring A n)) (P.◌⊗◌ H H) (poly_of o L s hs ts)
          (congruent-mul P M (power P.ring A n) H (power P.ring A n) H (power_congruent n h hh th dh)
          (power_congruent n h hh th dh))
          (congruent_of_division (P.◌⊗◌ H H) (convolution_of o (at o h) (at o h))
          (coefficients_mul o L H H (at o h) (at o h) (λ k. sym (coefficient-poly_of o L h hh th k))
          (λ k. sym (coefficient-poly_of o L h hh th k)))
          s hs ts ds)))
