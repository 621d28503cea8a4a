-- Greatest common divisors of lists of coefficients: a step of Euclid's algorithm, its end, and multiples by a unit.
use Rattle.std.specs.Prelude.{◌≡◌, ◌≢◌, ◌<◌, List, [], length}
use Rattle.std.proofs.Common.{refl, subst, sym, ◌∙◌, ap, ap₂, arith}
use Rattle.theory_rings.specs.Ring.{FieldOn, CommRingOn}
use Rattle.theory_rings.specs.Ops.{Ops, FieldLaws}
use Rattle.theory_rings.specs.Elements.{Elem, Elem-path, elements}
use Rattle.theory_rings.specs.Sum.{at}
use Rattle.theory_rings.specs.Polynomial.{Poly, degree, lead, IsMonic}
use Rattle.theory_rings.specs.Division.{IsGcd}
use Rattle.theory_rings.proofs.Rings.RingLaws.{zero-mul}
use Rattle.theory_rings.proofs.Rings.Solver.{◌⊞◌, ◌⊠◌, minus, nil, unit, ring2, ring4, ring5}
use Rattle.theory_rings.proofs.Polynomials.Bezout.{field_polynomials}
use Rattle.theory_fractions.specs.PolynomialLists.{IsOver, IsDivision, IsPolynomialList}
use Rattle.theory_fractions.specs.FractionOps.{polynomial_of}
use Rattle.theory_fractions.proofs.FractionField.{polynomial_of-nil}
use Rattle.theory_fractions.proofs.LowestTerms.{lead_value}
use Rattle.theory_fractions.proofs.ListPolynomials.{length-polynomial_of}
use Rattle.theory_remainders.proofs.Divisions.{poly-division}

-- a multiple of a greatest common divisor by a unit
pub gcd_scaled : {K : Type 0} (C : CommRingOn K) (a b g u v h : K) → IsGcd C a b g → C.◌⊗◌ u v ≡ C.one
    → h ≡ C.◌⊗◌ v g → IsGcd C a b h
gcd_scaled C a b g u v h d e w = record {
  left = (C.◌⊗◌ d.left.0 u, over d.left.0 a d.left.1);
  right = (C.◌⊗◌ d.right.0 u, over d.right.0 b d.right.1);
  s = C.◌⊗◌ v d.s;
  t = C.◌⊗◌ v d.t;
  combined = w ∙ ap (C.◌⊗◌ v) d.combined
      ∙ ring5 C (λ v s a t b. (v ⊠ (s ⊠ a ⊞ t ⊠ b), v ⊠ s ⊠ a ⊞ v ⊠ t ⊠ b)) refl v d.s a d.t b;
}
  where
    back : g ≡ C.◌⊗◌ u h
    back = sym (C.one-mul g) ∙ ap (λ x. C.◌⊗◌ x g) (sym e) ∙ C.mul_assoc u v g ∙ ap (C.◌⊗◌ u) (sym w)

    over : (k c : _) → c ≡ C.◌⊗◌ k g → c ≡ C.◌⊗◌ (C.◌⊗◌ k u) h
    over k c z = z ∙ ap (C.◌⊗◌ k) back ∙ sym (C.mul_assoc k u h)

module _ {E : Type 0} (o : Ops E) (L : FieldLaws o) where
  abbrev F : FieldOn (Elem o)
  F = elements o L

  abbrev P : CommRingOn (Poly F.cring)
  P = field_polynomials F

  abbrev poly : List E → Poly F.cring
  poly = polynomial_of o L

  -- the greatest common divisors of x and y are those of a and b
  pub record HasSameGcds (a b x y : List E) : Type 0 where
    pub first : IsPolynomialList o x
    pub second : IsPolynomialList o y
    pub nonzero : x ≢ []
    pub same : (g : Poly F.cring) → IsGcd P (poly x) (poly y) g → IsGcd P (poly a) (poly b) g

  pub same_gcds : (a b x y : List E) → IsPolynomialList o x → IsPolynomialList o y → x ≡ a → y ≡ b → a ≢ []
      → HasSameGcds a b x y
  same_gcds a b x y hx hy ex ey n = record {
    first = hx;
    second = hy;
    nonzero = λ e. n (sym ex ∙ e);
    same = λ g h. subst (λ l. IsGcd P (poly l) (poly b) g) ex (subst (λ l. IsGcd P (poly x) (poly l) g) ey h);
  }

  pub same_gcds_next : (a b x y q r : List E) → HasSameGcds a b x y → y ≢ [] → IsOver o q → IsPolynomialList o r
      → IsDivision o x y q r
      → HasSameGcds a b y r
  same_gcds_next a b x y q r h n hq hr d = record {
    first = h.second;
    second = hr;
    nonzero = n;
    same = λ g k. h.same g record {
      left = (
        P.◌⊕◌ (P.◌⊗◌ (poly q) k.left.0) k.right.0,
        whole ∙ ap₂ (λ u v. P.◌⊕◌ (P.◌⊗◌ (poly q) u) v) k.left.1 k.right.1
            ∙ ring4 P (λ q u v g. (q ⊠ (u ⊠ g) ⊞ v ⊠ g, (q ⊠ u ⊞ v) ⊠ g)) refl (poly q) k.left.0 k.right.0 g,
      );
      right = k.left;
      s = k.t;
      t = P.◌⊕◌ k.s (P.neg (P.◌⊗◌ k.t (poly q)));
      combined = k.combined
          ∙ ring5 P (λ s y t q r. (s ⊠ y ⊞ t ⊠ r, t ⊠ (q ⊠ y ⊞ r) ⊞ (s ⊞ minus (t ⊠ q)) ⊠ y)) refl k.s (poly y) k.t
          (poly q) (poly r)
          ∙ ap (λ w. P.◌⊕◌ (P.◌⊗◌ k.t w) (P.◌⊗◌ (P.◌⊕◌ k.s (P.neg (P.◌⊗◌ k.t (poly q)))) (poly y))) (sym whole);
    };
  }
    where
      whole : poly x ≡ P.◌⊕◌ (P.◌⊗◌ (poly q) (poly y)) (poly r)
      whole = poly-division o L x y q r h.first.over h.second.over hq hr.over d

  pub gcd_at_end : (a b x y : List E) → HasSameGcds a b x y → y ≡ [] → IsGcd P (poly a) (poly b) (poly x)
  gcd_at_end a b x y h e = h.same (poly x) record {
    left = (P.one, sym (P.one-mul (poly x)));
    right = (P.zero, null ∙ sym (zero-mul P.ring (poly x)));
    s = P.one;
    t = P.zero;
    combined = ring2 P (λ x y. (x, unit ⊠ x ⊞ nil ⊠ y)) refl (poly x) (poly y);
  }
    where
      null : poly y ≡ P.zero
      null = ap poly e ∙ polynomial_of-nil o L

  -- a list of coefficients whose last is 1
  pub monic_polynomial : (a : List E) → IsPolynomialList o a → 0 < length a → at o a (degree a) ≡ o.one
      → IsMonic F.cring (poly a)
  monic_polynomial a h n e = record {
    nonzero = omega (arith, length-polynomial_of o L a h, n);
    leading = Elem-path o (lead F.cring (poly a)) F.one (sym (lead_value o L a h) ∙ e);
  }
