-- Quotients of monic polynomials, and division as often as it goes.
use Rattle.std.specs.Prelude.{◌≡◌, ◌≢◌, ℕ, suc, ◌+◌, ◌<◌, ◌≤◌, List, length}
use Rattle.std.proofs.Common.{refl, sym, ◌∙◌, ap, subst, arith}
use Rattle.theory_rings.specs.Ring.{FieldOn, CommRingOn}
use Rattle.theory_rings.specs.Elements.{Elem}
use Rattle.theory_rings.specs.Sum.{at}
use Rattle.theory_rings.specs.Power.{power}
use Rattle.theory_rings.specs.Polynomial.{Poly, degree, lead}
use Rattle.theory_rings.proofs.Rings.RingLaws.{left_ne_zero_of_mul}
use Rattle.theory_rings.proofs.Rings.Solver.{◌⊠◌, ring3}
use Rattle.theory_rings.proofs.Polynomials.Degrees.{length-degree_of_ne_zero, length_pos}
use Rattle.theory_rings.proofs.Polynomials.Bezout.{field_lead-mul}
use Rattle.theory_rings.proofs.Polynomials.Monic.{degrees_of_product}
use Rattle.theory_fractions.specs.PolynomialLists.{IsPolynomialList}
use Rattle.theory_fractions.proofs.ListPolynomials.{length-polynomial_of, degree-polynomial_of}
use Rattle.theory_fractions.proofs.LowestTerms.{lead_value}
use Rattle.theory_factors.proofs.Products.{monic-ne-zero}
use Rattle.spl_field.specs.SmallField.{small_ops, small_laws}
use Rattle.spl_field.specs.declared.small.SmallField.{SmallField}
use Rattle.spl_factor.specs.Steps.{field, ring, poly, IsMonicList, IsPartList}

module _ (f : SmallField) where
  abbrev F : FieldOn (Elem (small_ops f))
  F = field f

  abbrev P : CommRingOn (Poly (field f).cring)
  P = ring f

  abbrev Is : List ℕ → Type 0
  Is = IsPolynomialList (small_ops f)

  pub monic_nonzero : (a : List ℕ) → IsMonicList f a → poly f a ≢ P.zero
  monic_nonzero a h = monic-ne-zero F (poly f a) h.monic

  pub degree_poly : (a : List ℕ) → Is a → degree (poly f a).0 ≡ degree a
  degree_poly a h = degree-polynomial_of (small_ops f) (small_laws f) a h

  pub length_poly : (a : List ℕ) → Is a → length (poly f a).0 ≡ length a
  length_poly a h = length-polynomial_of (small_ops f) (small_laws f) a h

  -- the length is the degree and one
  pub length_monic : (a : List ℕ) → IsMonicList f a → length a ≡ suc (degree a)
  length_monic a h = omega (
    arith,
    length_poly a h.polynomial,
    degree_poly a h.polynomial,
    length-degree_of_ne_zero F.cring F.zero_test (poly f a) (monic_nonzero a h),
  )

  -- a part is monic
  pub monic_part : (d : ℕ) (g : List ℕ) → IsPartList f d g → IsMonicList f g
  monic_part d g h = let p = h.part in record { polynomial = h.polynomial; monic = p.monic }

  pub length_part : (d : ℕ) (g : List ℕ) → IsPartList f d g → length g ≡ suc (degree g)
  length_part d g h = length_monic g (monic_part d g h)

  module _ (a b q : List ℕ) (ha : IsMonicList f a) (hb : IsMonicList f b) (hq : Is q)
      (e : poly f a ≡ P.◌⊗◌ (poly f q) (poly f b)) where
    quotient_nonzero : poly f q ≢ P.zero
    quotient_nonzero = left_ne_zero_of_mul P.ring (poly f q) (poly f b) (λ z. monic_nonzero a ha (e ∙ z))

    pub monic_quotient : IsMonicList f q
    monic_quotient = record {
      polynomial = hq;
      monic = record {
        nonzero = length_pos F.cring F.zero_test (poly f q) quotient_nonzero;
        leading =
            let ma = ha.monic in
            let mb = hb.monic in
            sym (F.mul-one (lead F.cring (poly f q))) ∙ ap (F.◌⊗◌ (lead F.cring (poly f q))) (sym mb.leading)
            ∙ sym (field_lead-mul F (poly f q) (poly f b) quotient_nonzero (monic_nonzero b hb))
            ∙ ap (lead F.cring) (sym e) ∙ ma.leading;
      };
    }

    pub length_quotient : length a ≡ length q + degree b
    length_quotient = omega (
      arith,
      degrees_of_product F (poly f a) (poly f q) (poly f b) (monic_nonzero a ha) e,
      degree_poly a ha.polynomial,
      degree_poly b hb.polynomial,
      degree_poly q hq,
      length_monic a ha,
      length_monic q monic_quotient,
    )

  -- after n divisions of a by b the polynomial r is left
  pub record IsDividedOut (a b : List ℕ) (n : ℕ) (r : List ℕ) : Type 0 where
    pub list : IsMonicList f r
    pub whole : poly f a ≡ P.◌⊗◌ (power P.ring (poly f b) n) (poly f r)
    pub fewer : n + length r ≤ length a

  pub no_division : (a b : List ℕ) → IsMonicList f a → IsDividedOut a b 0 a
  no_division a b h = record { list = h; whole = sym (P.one-mul (poly f a)); fewer = omega arith }

  pub next_division : (a b : List ℕ) (n m : ℕ) (r q : List ℕ) → IsMonicList f b → 1 ≤ degree b → IsDividedOut a b n r
      → Is q → poly f r ≡ P.◌⊗◌ (poly f q) (poly f b) → m ≡ suc n → IsDividedOut a b m q
  next_division a b n m r q hb pos h hq e s = subst (λ k. IsDividedOut a b k q) (sym s) record {
    list = monic_quotient r b q h.list hb hq e;
    whole = h.whole ∙ ap (P.◌⊗◌ (power P.ring (poly f b) n)) e
        ∙ ring3 P (λ w q b. (w ⊠ (q ⊠ b), b ⊠ w ⊠ q)) refl (power P.ring (poly f b) n) (poly f q) (poly f b);
    fewer = let l = h.fewer in omega (arith, length_quotient r b q h.list hb hq e, l, pos);
  }

  pub shorter : (r b q : List ℕ) → IsMonicList f r → IsMonicList f b → 1 ≤ degree b → Is q
      → poly f r ≡ P.◌⊗◌ (poly f q) (poly f b) → length q < length r
  shorter r b q hr hb pos hq e = omega (arith, length_quotient r b q hr hb hq e, pos)

  -- the last coefficient of a monic polynomial is 1
  pub leading_one : (a : List ℕ) → IsMonicList f a → (let o = small_ops f in at o a (degree a) ≡ o.one)
  leading_one a h = let m = h.monic in
      lead_value (small_ops f) (small_laws f) a h.polynomial ∙ ap (λ (c : Elem (small_ops f)). c.0) m.leading
