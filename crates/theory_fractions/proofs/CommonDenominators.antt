-- Least common multiples of polynomials, and the monic polynomial of least degree that makes each fraction of a list a
-- polynomial, on lists over a program's field.
use Rattle.std.specs.Prelude.{◌≡◌, ◌≢◌, ℕ, ◌+◌, ◌<◌, List, [], ◌∷◌, length, get_or}
use Rattle.std.proofs.Common.{refl, sym, ◌∙◌, ap, ap₂, arith, subst, below_more}
use Rattle.std.proofs.lemmas.List.Elements.{All-nil, All-cons}
use Rattle.theory_rings.specs.Ring.{FieldOn, CommRingOn}
use Rattle.theory_rings.specs.Ops.{Ops, IsElem, FieldLaws}
use Rattle.theory_rings.specs.Elements.{Elem, Elem-path, elements}
use Rattle.theory_rings.specs.Sum.{at}
use Rattle.theory_rings.specs.Polynomial.{Poly, convolution_of, lead, degree}
use Rattle.theory_rings.specs.Division.{Divides as DividesIn}
use Rattle.theory_rings.proofs.Rings.RingLaws.{zero-mul}
use Rattle.theory_rings.proofs.Rings.Solver.{◌⊞◌, ◌⊠◌, ring3, ring4, ring5, by_sorted, v0, v1, v2, v3}
use Rattle.theory_rings.proofs.Rings.Solver.{v4, var}
use Rattle.theory_rings.proofs.Polynomials.Bezout.{field_polynomials, divides_of_coprime, coprime_comm, field_lead-mul}
use Rattle.theory_rings.proofs.Polynomials.Bezout.{poly_mul_cancel_left}
use Rattle.theory_rings.proofs.Polynomials.ElementLists.{values}
use Rattle.theory_fractions.specs.PolynomialLists.{IsOver, IsProduct, IsDivision, Divides, IsPolynomialList}
use Rattle.theory_fractions.specs.Fraction.{Pair, IsLowestTerms}
use Rattle.theory_fractions.specs.FractionOps.{polynomial_of}
use Rattle.theory_fractions.specs.CommonDivisor.{IsCommonDivisor}
use Rattle.theory_fractions.specs.CommonDenominator.{Clears, IsLeastMultiple, IsCommonDenominator}
use Rattle.theory_fractions.proofs.FractionField.{polynomial_of-one, polynomial_of-values}
use Rattle.theory_fractions.proofs.Lifting.{coefficients_of_eq, eq_of_coefficients, has-add, has-mul, values-over}
use Rattle.theory_fractions.proofs.ListPolynomials.{has_polynomial_of}
use Rattle.theory_fractions.proofs.LowestTerms.{coprime_polynomials, lead_value}
use Rattle.theory_fractions.proofs.Reducing.{poly-mul, poly-ne-zero, exact_quotient, divisor_nonzero}

module _ {E : Type 0} (o : Ops E) (L : FieldLaws o) where
  abbrev F : FieldOn (Elem o)
  F = elements o L

  abbrev P : CommRingOn (Poly F.cring)
  P = field_polynomials F

  abbrev Is : List E → Type 0
  Is = IsPolynomialList o

  abbrev poly : List E → Poly F.cring
  poly = polynomial_of o L

  -- ---- divisors

  pub poly_divides : (a b : List E) → IsOver o a → IsOver o b → Divides o a b → DividesIn P (poly a) (poly b)
  poly_divides a b ha hb d = (poly d.0, poly-mul o L d.0 a b d.1 ha hb d.2)

  pub product_of_poly : (a b c : List E) → IsOver o a → IsOver o b → IsOver o c → poly c ≡ P.◌⊗◌ (poly a) (poly b)
      → IsProduct o a b c
  product_of_poly a b c ha hb hc e =
      coefficients_of_eq o L (poly c) (P.◌⊗◌ (poly a) (poly b)) (at o c) (convolution_of o (at o a) (at o b))
      (has_polynomial_of o L c hc)
      (has-mul o L (poly a) (poly b) (at o a) (at o b) (has_polynomial_of o L a ha) (has_polynomial_of o L b hb)) e

  pub divides_of_poly : (a b : List E) → IsOver o a → IsOver o b → DividesIn P (poly a) (poly b) → Divides o a b
  divides_of_poly a b ha hb d = (
    values o L d.0.0,
    values-over o L d.0.0,
    product_of_poly (values o L d.0.0) a b (values-over o L d.0.0) ha hb
        (d.1 ∙ ap (λ x. P.◌⊗◌ x (poly a)) (sym (polynomial_of-values o L d.0))),
  )

  pub divides_self : (a : List E) → IsOver o a → Divides o a a
  divides_self a ha = divides_of_poly a a ha ha (P.one, sym (P.one-mul (poly a)))

  pub divides_trans : (a b c : List E) → IsOver o a → IsOver o b → IsOver o c → Divides o a b → Divides o b c
      → Divides o a c
  divides_trans a b c ha hb hc d e =
      let x = poly_divides a b ha hb d in
      let y = poly_divides b c hb hc e in
      divides_of_poly a c ha hc (
        P.◌⊗◌ y.0 x.0,
        y.1 ∙ ap (P.◌⊗◌ y.0) x.1 ∙ sym (P.mul_assoc y.0 x.0 (poly a)),
      )

  pub over_one : IsOver o (o.one ∷ [])
  over_one = All-cons (IsElem o) o.one [] L.one-elem (All-nil (IsElem o))

  pub one_divides : (a : List E) → IsOver o a → Divides o (o.one ∷ []) a
  one_divides a ha = divides_of_poly (o.one ∷ []) a over_one ha
      (poly a, sym (ap (P.◌⊗◌ (poly a)) (polynomial_of-one o L) ∙ P.mul_comm (poly a) P.one ∙ P.one-mul (poly a)))

  -- ---- what makes a fraction a polynomial

  pub clears_of_divides : (d : List E) (w : Pair E) → IsOver o d → IsLowestTerms o w.0 w.1 → Divides o w.1 d
      → Clears o d w
  clears_of_divides d w hd h e =
      let x = poly_divides w.1 d h.denominator_over hd e in
      let q : Poly F.cring = P.◌⊗◌ x.0 (poly w.0) in
      let p : List E = values o L q.0 in
      let hp : IsOver o p = values-over o L q.0 in (
        p,
        hp,
        coefficients_of_eq o L (P.◌⊗◌ (poly d) (poly w.0)) (P.◌⊗◌ (poly p) (poly w.1))
            (convolution_of o (at o d) (at o w.0)) (convolution_of o (at o p) (at o w.1))
            (has-mul o L (poly d) (poly w.0) (at o d) (at o w.0) (has_polynomial_of o L d hd)
            (has_polynomial_of o L w.0 h.numerator_over))
            (has-mul o L (poly p) (poly w.1) (at o p) (at o w.1) (has_polynomial_of o L p hp)
            (has_polynomial_of o L w.1 h.denominator_over))
            (ap (λ y. P.◌⊗◌ y (poly w.0)) x.1
            ∙ ring3 P (λ a v u. ((a ⊠ v) ⊠ u, (a ⊠ u) ⊠ v)) refl x.0 (poly w.1) (poly w.0)
            ∙ ap (λ y. P.◌⊗◌ y (poly w.1)) (sym (polynomial_of-values o L q))),
      )

  pub divides_of_clears : (d : List E) (w : Pair E) → IsOver o d → IsLowestTerms o w.0 w.1 → Clears o d w
      → Divides o w.1 d
  divides_of_clears d w hd h e =
      let hu : Is w.0 = record { over = h.numerator_over; trimmed = h.numerator_trimmed } in
      let hv : Is w.1 = record { over = h.denominator_over; trimmed = h.denominator_trimmed } in
      let same : P.◌⊗◌ (poly d) (poly w.0) ≡ P.◌⊗◌ (poly e.0) (poly w.1) =
      eq_of_coefficients o L (P.◌⊗◌ (poly d) (poly w.0)) (P.◌⊗◌ (poly e.0) (poly w.1))
      (convolution_of o (at o d) (at o w.0)) (convolution_of o (at o e.0) (at o w.1))
      (has-mul o L (poly d) (poly w.0) (at o d) (at o w.0) (has_polynomial_of o L d hd)
      (has_polynomial_of o L w.0 hu.over))
      (has-mul o L (poly e.0) (poly w.1) (at o e.0) (at o w.1) (has_polynomial_of o L e.0 e.1)
      (has_polynomial_of o L w.1 hv.over)) e.2 in
      divides_of_poly w.1 d hv.over hd
      (divides_of_coprime F (poly w.1) (poly w.0) (poly d)
      (coprime_comm F (poly w.0) (poly w.1) (coprime_polynomials o L w.0 w.1 hu hv h.coprime))
      (poly e.0, P.mul_comm (poly w.0) (poly d) ∙ same))

  -- ---- least multiples

  -- a, where b divides it
  pub least_multiple_same : (a b : List E) → IsOver o a → at o a (degree a) ≡ o.one → Divides o b a
      → IsLeastMultiple o a b a
  least_multiple_same a b ha monic d = record {
    monic = monic;
    left = divides_self a ha;
    right = d;
    least = λ x hx l r. l;
  }

  lead_one : (a : List E) → Is a → at o a (degree a) ≡ o.one → lead F.cring (poly a) ≡ F.one
  lead_one a ha e = Elem-path o (lead F.cring (poly a)) F.one (sym (lead_value o L a ha) ∙ e)

  -- a · (b / g), for a greatest common divisor g
  module _ (a b g q r m : List E) (ha : Is a) (hb : Is b) (hg : Is g) (hq : Is q) (hr : Is r) (hm : Is m)
      (na : a ≢ []) (nb : b ≢ []) (monic_a : at o a (degree a) ≡ o.one) (monic_b : at o b (degree b) ≡ o.one)
      (monic_g : at o g (degree g) ≡ o.one)
      (d : IsCommonDivisor o a b g) (division : IsDivision o b g q r) (product : IsProduct o a q m) where
    g-ne-nil : g ≢ []
    g-ne-nil = divisor_nonzero o L a b g hb nb d

    whole : poly b ≡ P.◌⊗◌ (poly q) (poly g)
    whole = exact_quotient o L b g q r hb hg hq hr g-ne-nil d.right division

    multiple : poly m ≡ P.◌⊗◌ (poly a) (poly q)
    multiple = poly-mul o L a q m ha.over hq.over hm.over product

    q-ne-zero : poly q ≢ P.zero
    q-ne-zero e = poly-ne-zero o L b hb nb
        (whole ∙ ap (λ x. P.◌⊗◌ x (poly g)) e ∙ zero-mul P.ring (poly g))

    lead_q : lead F.cring (poly q) ≡ F.one
    lead_q =
        sym (F.one-mul (lead F.cring (poly q))) ∙ F.mul_comm F.one (lead F.cring (poly q))
        ∙ ap (F.◌⊗◌ (lead F.cring (poly q))) (sym (lead_one g hg monic_g))
        ∙ sym (field_lead-mul F (poly q) (poly g) q-ne-zero (poly-ne-zero o L g hg g-ne-nil))
        ∙ ap (lead F.cring) (sym whole) ∙ lead_one b hb monic_b

    monic : at o m (degree m) ≡ o.one
    monic = lead_value o L m hm ∙ ap (λ x. x.0) (
        ap (lead F.cring) multiple
        ∙ field_lead-mul F (poly a) (poly q) (poly-ne-zero o L a ha na) q-ne-zero
        ∙ ap₂ F.◌⊗◌ (lead_one a ha monic_a) lead_q ∙ F.one-mul F.one
        )

    -- g is s·a + t·b; so d·g is a multiple of a·b where d is one of a and of b
    pub least_multiple_product : IsLeastMultiple o a b m
    least_multiple_product = record {
      monic = monic;
      left = divides_of_poly a m ha.over hm.over (poly q, multiple ∙ P.mul_comm (poly a) (poly q));
      right =
          let x = poly_divides g a hg.over ha.over d.left in
          divides_of_poly b m hb.over hm.over (
            x.0,
            multiple ∙ ap (λ y. P.◌⊗◌ y (poly q)) x.1
                ∙ ring3 P (λ x g q. ((x ⊠ g) ⊠ q, x ⊠ (q ⊠ g))) refl x.0 (poly g) (poly q)
                ∙ ap (P.◌⊗◌ x.0) (sym whole),
          );
      least = λ e he da db.
          let x = poly_divides a e ha.over he da in
          let y = poly_divides b e hb.over he db in
          let s : Poly F.cring = poly d.s in
          let t : Poly F.cring = poly d.t in
          let combined : poly g ≡ P.◌⊕◌ (P.◌⊗◌ s (poly a)) (P.◌⊗◌ t (poly b)) = combination in
          let z : Poly F.cring = P.◌⊕◌ (P.◌⊗◌ s y.0) (P.◌⊗◌ t x.0) in
          divides_of_poly m e hm.over he (
            z,
            poly_mul_cancel_left F (poly g) (poly e) (P.◌⊗◌ z (poly m)) (poly-ne-zero o L g hg g-ne-nil)
                (ap (λ h. P.◌⊗◌ h (poly e)) combined
                ∙ ring5 P (λ s a t b e. ((s ⊠ a ⊞ t ⊠ b) ⊠ e, s ⊠ a ⊠ e ⊞ t ⊠ b ⊠ e)) refl s (poly a) t (poly b)
                (poly e)
                ∙ ap₂ (λ h k. P.◌⊕◌ (P.◌⊗◌ (P.◌⊗◌ s (poly a)) h) (P.◌⊗◌ (P.◌⊗◌ t (poly b)) k)) y.1 x.1
                ∙ by_sorted P (s ∷ poly a ∷ y.0 ∷ poly b ∷ t ∷ x.0 ∷ [])
                (v0 ⊠ v1 ⊠ (v2 ⊠ v3) ⊞ v4 ⊠ v3 ⊠ (var 5 ⊠ v1)) (v3 ⊠ ((v0 ⊠ v2 ⊞ v4 ⊠ var 5) ⊠ v1)) refl
                ∙ ap (λ h. P.◌⊗◌ h (P.◌⊗◌ z (poly a))) whole
                ∙ ring4 P (λ q g z a. ((q ⊠ g) ⊠ (z ⊠ a), g ⊠ (z ⊠ (a ⊠ q)))) refl (poly q) (poly g) z (poly a)
                ∙ ap (λ h. P.◌⊗◌ (poly g) (P.◌⊗◌ z h)) (sym multiple)),
          );
    }
      where
        combination : poly g ≡ P.◌⊕◌ (P.◌⊗◌ (poly d.s) (poly a)) (P.◌⊗◌ (poly d.t) (poly b))
        combination = eq_of_coefficients o L (poly g)
            (P.◌⊕◌ (P.◌⊗◌ (poly d.s) (poly a)) (P.◌⊗◌ (poly d.t) (poly b))) (at o g)
            (λ k. o.add (convolution_of o (at o d.s) (at o a) k) (convolution_of o (at o d.t) (at o b) k))
            (has_polynomial_of o L g hg.over)
            (has-add o L (P.◌⊗◌ (poly d.s) (poly a)) (P.◌⊗◌ (poly d.t) (poly b))
            (convolution_of o (at o d.s) (at o a)) (convolution_of o (at o d.t) (at o b))
            (has-mul o L (poly d.s) (poly a) (at o d.s) (at o a) (has_polynomial_of o L d.s d.s_over)
            (has_polynomial_of o L a ha.over))
            (has-mul o L (poly d.t) (poly b) (at o d.t) (at o b) (has_polynomial_of o L d.t d.t_over)
            (has_polynomial_of o L b hb.over))) d.combination

  -- ---- the denominators of a list, one after the other

  -- c is monic, the first n denominators divide it, and it divides each other such polynomial
  pub record IsLeastOfFirst (n : ℕ) (list : List (Pair E)) (c : List E) : Type 0 where
    pub monic : at o c (degree c) ≡ o.one
    pub divides : (i : ℕ) → i < n → Divides o (get_or list i ([], [])).1 c
    pub least : (d : List E) → IsOver o d → ((i : ℕ) → i < n → Divides o (get_or list i ([], [])).1 d)
        → Divides o c d

  pub least_of_none : (list : List (Pair E)) → IsLeastOfFirst 0 list (o.one ∷ [])
  least_of_none list = record {
    monic = refl;
    divides = λ i l. absurd (omega arith);
    least = λ d hd h. one_divides d hd;
  }

  pub least_of_more : (n : ℕ) (list : List (Pair E)) (c b m : List E) → IsOver o c → IsOver o b → IsOver o m
      → b ≡ (get_or list n ([], [])).1 → ((i : ℕ) → i < n → IsOver o (get_or list i ([], [])).1)
      → IsLeastOfFirst n list c → IsLeastMultiple o c b m → IsLeastOfFirst (n + 1) list m
  least_of_more n list c b m hc hb hm e over h s = record {
    monic = s.monic;
    divides = below_more (λ i. Divides o (get_or list i ([], [])).1 m) n
        (λ i l. divides_trans (get_or list i ([], [])).1 c m (over i l) hc hm (h.divides i l) s.left)
        (subst (λ x. Divides o x m) e s.right);
    least = λ d hd x. s.least d hd (h.least d hd (λ i l. x i (omega arith)))
        (subst (λ y. Divides o y d) (sym e) (x n (omega arith)));
  }

  pub common_denominator : (list : List (Pair E)) (c : List E) → IsOver o c
      → ((i : ℕ) → i < length list → IsLowestTerms o (get_or list i ([], [])).0 (get_or list i ([], [])).1)
      → IsLeastOfFirst (length list) list c → IsCommonDenominator o list c
  common_denominator list c hc low h = record {
    monic = h.monic;
    clears = λ i l. clears_of_divides c (get_or list i ([], [])) hc (low i l) (h.divides i l);
    least = λ d hd x. h.least d hd
        (λ i l. divides_of_clears d (get_or list i ([], [])) hd (low i l) (x i l));
  }

  pub nonzero_of_monic : (a : List E) → at o a (degree a) ≡ o.one → a ≢ []
  nonzero_of_monic a e z = L.one-nonzero (sym e ∙ ap (λ x. at o x (degree x)) z)
