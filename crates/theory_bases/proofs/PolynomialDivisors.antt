-- Products and divisors of polynomials, and what clears a fraction, by equations of fractions.
use Rattle.std.specs.Prelude.{◌≡◌, ◌≢◌, ℕ, List, [], ◌∷◌}
use Rattle.std.proofs.Common.{refl, sym, ◌∙◌, ap, ap₂, subst}
use Rattle.std.proofs.lemmas.List.Elements.{All-nil}
use Rattle.theory_rings.specs.Ring.{FieldOn, CommRingOn}
use Rattle.theory_rings.specs.Ops.{Ops, IsElem, FieldLaws}
use Rattle.theory_rings.specs.Elements.{Elem, Elem-path, elements}
use Rattle.theory_rings.specs.Sum.{at}
use Rattle.theory_rings.specs.Polynomial.{Poly, coefficient}
use Rattle.theory_rings.proofs.Rings.Solver.{◌⊠◌, ring3}
use Rattle.theory_rings.proofs.Rings.Fields.{mul-inv}
use Rattle.theory_rings.proofs.Polynomials.PolynomialRing.{Poly-path, constant}
use Rattle.theory_rings.proofs.Polynomials.Constants.{coefficient-constant_mul, constant_hom}
use Rattle.theory_rings.proofs.Polynomials.Bezout.{field_polynomials}
use Rattle.theory_rings.proofs.Polynomials.ElementLists.{values, at-values}
use Rattle.theory_fractions.specs.PolynomialLists.{IsOver, IsProduct, Divides, IsPolynomialList}
use Rattle.theory_fractions.specs.Fraction.{Pair}
use Rattle.theory_fractions.specs.FractionOps.{polynomial_of}
use Rattle.theory_fractions.specs.CommonDenominator.{as_fraction, Clears}
use Rattle.theory_fractions.proofs.Coefficients.{convolution_of_congr}
use Rattle.theory_fractions.proofs.CommonDenominators.{poly_divides, product_of_poly}
use Rattle.theory_fractions.proofs.ElementClauses.{lowest_of_elem}
use Rattle.theory_fractions.proofs.ElementClauses.{one_is as fraction_one}
use Rattle.theory_fractions.proofs.FractionField.{polynomial_of-one, polynomial_of-values}
use Rattle.theory_fractions.proofs.ListPolynomials.{has_polynomial_of, IsPolynomialList-values}
use Rattle.theory_fractions.proofs.PolynomialFractions.{as_fraction-elem, as_fraction-mul, as_fraction-mul_fraction}
use Rattle.theory_bases.proofs.FractionsOver.{K, M}

module _ {E : Type 0} (o : Ops E) (L : FieldLaws o) where
  abbrev k : Ops (Pair E)
  k = K o L

  abbrev P : CommRingOn (Poly (elements o L).cring)
  P = field_polynomials (elements o L)

  abbrev poly : List E → Poly (elements o L).cring
  poly = polynomial_of o L

  abbrev Is : List E → Type 0
  Is = IsPolynomialList o

  -- fractions as a field
  abbrev pub fraction_field : FieldOn (Elem k)
  fraction_field = elements k (M o L)

  abbrev pub up : (u : List E) → Is u → Elem k
  up u hu = (as_fraction o u, as_fraction-elem o L u hu)

  list_product : (a b : List E) → Is a → Is b → (c : List E) × Is c × IsProduct o a b c
  list_product a b ha hb =
      let p = P.◌⊗◌ (poly a) (poly b) in
      let hq : Is (values o L p.0) = IsPolynomialList-values o L p in (
        values o L p.0,
        hq,
        product_of_poly o L a b (values o L p.0) ha.over hb.over hq.over (polynomial_of-values o L p),
      )

  -- the product of two polynomials, as a polynomial
  pub fraction_product : (a b : List E) → Is a → Is b
      → (c : List E) × Is c × (as_fraction o c ≡ k.mul (as_fraction o a) (as_fraction o b))
  fraction_product a b ha hb =
      let q = list_product a b ha hb in
      (q.0, q.1, as_fraction-mul o L a b q.0 ha hb q.1 q.2)

  pub product_of_fractions : (a b c : List E) → Is a → Is b → Is c
      → as_fraction o c ≡ k.mul (as_fraction o a) (as_fraction o b) → IsProduct o a b c
  product_of_fractions a b c ha hb hc e =
      let q = list_product a b ha hb in
      subst (IsProduct o a b)
      (sym (ap (λ (t : Pair E). t.0) (e ∙ sym (as_fraction-mul o L a b q.0 ha hb q.1 q.2)))) q.2

  pub divides_of_fractions : (a b p : List E) → Is a → Is b → Is p
      → as_fraction o b ≡ k.mul (as_fraction o p) (as_fraction o a) → Divides o a b
  divides_of_fractions a b p ha hb hp e = (p, hp.over, product_of_fractions p a b hp ha hb e)

  -- the quotient, as a polynomial
  pub quotient_of_divides : (a b : List E) → Is a → Is b → Divides o a b
      → (p : List E) × Is p × (as_fraction o b ≡ k.mul (as_fraction o p) (as_fraction o a))
  quotient_of_divides a b ha hb d =
      let x = poly_divides o L a b ha.over hb.over d in
      let p = values o L x.0.0 in
      let hp : Is p = IsPolynomialList-values o L x.0 in (
        p,
        hp,
        as_fraction-mul o L p a b hp ha hb (product_of_poly o L p a b hp.over ha.over hb.over
            (x.1 ∙ ap (λ y. P.◌⊗◌ y (poly a)) (sym (polynomial_of-values o L x.0)))),
      )

  -- ---- fractions

  one_is : Is (o.one ∷ [])
  one_is =
      let l = lowest_of_elem o L (as_fraction o [])
      (as_fraction-elem o L [] (record { over = All-nil (IsElem o); trimmed = tt })) in
      record { over = l.denominator_over; trimmed = l.denominator_trimmed }

  -- the numerator is the product of the denominator and the fraction
  pub numerator_of_fraction : (w : Pair E) → IsElem k w → as_fraction o w.0 ≡ k.mul (as_fraction o w.1) w
  numerator_of_fraction w hw =
      let l = lowest_of_elem o L w hw in
      let hu : Is w.0 = record { over = l.numerator_over; trimmed = l.numerator_trimmed } in
      let hv : Is w.1 = record { over = l.denominator_over; trimmed = l.denominator_trimmed } in
      as_fraction-mul_fraction o L w.1 w (o.one ∷ []) w.0 hv hw one_is hu
      (sym (ap (λ x. P.◌⊗◌ x (poly w.1)) (polynomial_of-one o L) ∙ P.one-mul (poly w.1)))
      (product_of_poly o L (o.one ∷ []) w.0 w.0 one_is.over hu.over hu.over
      (sym (ap (λ x. P.◌⊗◌ x (poly w.0)) (polynomial_of-one o L) ∙ P.one-mul (poly w.0))))

  pub clears_of_fraction : (d p : List E) (w : Pair E) → Is d → Is p → IsElem k w
      → as_fraction o p ≡ k.mul (as_fraction o d) w → Clears o d w
  clears_of_fraction d p w hd hp hw e =
      let l = lowest_of_elem o L w hw in
      let hu : Is w.0 = record { over = l.numerator_over; trimmed = l.numerator_trimmed } in
      let hv : Is w.1 = record { over = l.denominator_over; trimmed = l.denominator_trimmed } in
      let q = list_product d w.0 hd hu in
      let F = fraction_field in
      let x : Elem k = (w, hw) in
      let equal : as_fraction o q.0 ≡ k.mul (as_fraction o p) (as_fraction o w.1) =
      as_fraction-mul o L d w.0 q.0 hd hu q.1 q.2
      ∙ ap (k.mul (as_fraction o d)) (numerator_of_fraction w hw)
      ∙ ap (λ (t : Elem k). t.0) (ring3 F.cring (λ a b c. (a ⊠ (b ⊠ c), (a ⊠ c) ⊠ b)) refl (up d hd) (up w.1 hv) x)
      ∙ ap (λ t. k.mul t (as_fraction o w.1)) (sym e) in
      let r = product_of_fractions p w.1 q.0 hp hv q.1 equal in
      (p, hp.over, λ i. sym (q.2 i) ∙ r i)

  -- ---- lists that may end with zeros

  abbrev pub trimmed : List E → List E
  trimmed d = values o L (poly d).0

  pub trimmed_is : (d : List E) → Is (trimmed d)
  trimmed_is d = IsPolynomialList-values o L (poly d)

  pub at-trimmed : (d : List E) → IsOver o d → (i : ℕ) → at o (trimmed d) i ≡ at o d i
  at-trimmed d hd i = at-values o L (poly d).0 i ∙ sym (has_polynomial_of o L d hd i)

  pub clears_trimmed : (d : List E) (w : Pair E) → IsOver o d → Clears o d w → Clears o (trimmed d) w
  clears_trimmed d w hd h = (
    h.0,
    h.1,
    λ i. convolution_of_congr o L (at o (trimmed d)) (at o w.0) (at o d) (at o w.0) (at-trimmed d hd) (λ j. refl) i
        ∙ h.2 i,
  )

  pub divides_of_trimmed : (a d : List E) → IsOver o d → Divides o a (trimmed d) → Divides o a d
  divides_of_trimmed a d hd h = (h.0, h.1, λ i. sym (at-trimmed d hd i) ∙ h.2 i)

  -- ---- multiples by elements other than 0

  -- the polynomial is u times another, for a polynomial u with the inverse v
  pub record IsUnitMultiple (a e : List E) : Type 0 where
    pub u : List E
    pub v : List E
    pub u_is : Is u
    pub v_is : Is v
    pub whole : as_fraction o a ≡ k.mul (as_fraction o u) (as_fraction o e)
    pub inverse : k.mul (as_fraction o v) (as_fraction o u) ≡ k.one

  pub unit_multiple_of_scaled : (a e : List E) → Is a → Is e → (s : Elem o) → s ≢ (elements o L).zero
      → ((i : ℕ) → at o e i ≡ o.mul s.0 (at o a i)) → IsUnitMultiple a e
  unit_multiple_of_scaled a e ha he s ns scaled = record {
    u = u;
    v = v;
    u_is = u_is;
    v_is = v_is;
    whole = as_fraction-mul o L u e a u_is he ha (product_of_poly o L u e a u_is.over he.over ha.over
        (sym (ap₂ P.◌⊗◌ (polynomial_of-values o L ct) e_is ∙ sym (P.mul_assoc ct cs (poly a))
        ∙ ap (λ x. P.◌⊗◌ x (poly a)) (P.mul_comm ct cs ∙ unit) ∙ P.one-mul (poly a))));
    inverse = sym (as_fraction-mul o L v u (o.one ∷ []) v_is u_is one_is
        (product_of_poly o L v u (o.one ∷ []) v_is.over u_is.over one_is.over
        (polynomial_of-one o L ∙ sym unit
        ∙ sym (ap₂ P.◌⊗◌ (polynomial_of-values o L cs) (polynomial_of-values o L ct))))) ∙ sym (fraction_one o L);
  }
    where
      R : FieldOn (Elem o)
      R = elements o L

      cs : Poly R.cring
      cs = constant R.cring R.zero_test s

      ct : Poly R.cring
      ct = constant R.cring R.zero_test (R.inv s)

      u : List E
      u = values o L ct.0

      v : List E
      v = values o L cs.0

      u_is : Is u
      u_is = IsPolynomialList-values o L ct

      v_is : Is v
      v_is = IsPolynomialList-values o L cs

      unit : P.◌⊗◌ cs ct ≡ P.one
      unit =
          let H = constant_hom R.cring R.zero_test in
          sym (H.map-mul s (R.inv s)) ∙ ap (constant R.cring R.zero_test) (mul-inv R s ns) ∙ H.map-one

      e_is : poly e ≡ P.◌⊗◌ cs (poly a)
      e_is = Poly-path R.cring (poly e) (P.◌⊗◌ cs (poly a)) (λ i. Elem-path o (coefficient R.cring (poly e) i)
          (coefficient R.cring (P.◌⊗◌ cs (poly a)) i)
          (sym (has_polynomial_of o L e he.over i) ∙ scaled i ∙ ap (o.mul s.0) (has_polynomial_of o L a ha.over i)
          ∙ ap (λ (x : Elem o). x.0) (sym (coefficient-constant_mul R.cring R.zero_test s (poly a) i))))
