-- Division of polynomials by one whose leading coefficient has an inverse: quotient and remainder exist, and are
-- unique.
use Rattle.std.specs.Prelude.{◌≡◌, ◌≢◌, ℕ, zero, suc, ◌<◌, ◌≤◌, Bool, List, [], ◌∷◌, length, ◌⊎◌}
use Rattle.std.proofs.Common.{refl, sym, ◌∙◌, ap, ap₂, subst, arith, inl, inr}
use Rattle.std.proofs.lemmas.Bool.{cases_lt}
use Rattle.theory_rings.specs.Ring.{CommRingOn, ZeroTest}
use Rattle.theory_rings.specs.Polynomial.{IsTrimmed, Poly, coefficient, lead, degree}
use Rattle.theory_rings.specs.Division.{IsDivision}
use Rattle.theory_rings.proofs.Rings.RingLaws.{add-neg, add_cancel_left, zero-mul, mul-zero, neg_zero}
use Rattle.theory_rings.proofs.Rings.RingLaws.{eq_zero_of_mul-unit}
use Rattle.theory_rings.proofs.Rings.ZeroTests.{eq_of_sub_eq_zero}
use Rattle.theory_rings.proofs.Rings.Solver.{◌⊞◌, ◌⊠◌, minus, v0, v1, v2, v3, v4, var, by_sorted, ring5}
use Rattle.theory_rings.proofs.Polynomials.Constants.{coefficient-constant_mul, variable, prepend_eq}
use Rattle.theory_rings.proofs.Polynomials.PolynomialRing.{IsTrimmed-tail, Poly-path, coefficient_past, polynomials}
use Rattle.theory_rings.proofs.Polynomials.PolynomialRing.{coefficient-zero, coefficient-add, coefficient-neg, constant}
use Rattle.theory_rings.proofs.Polynomials.PolynomialRing.{prepend, coefficient-prepend, prepend-tail}
use Rattle.theory_rings.proofs.Polynomials.Degrees.{length_le, length-degree, length-degree_of_ne_zero, poly_eq_zero_or}
use Rattle.theory_rings.proofs.Polynomials.Degrees.{length-add_le, length-neg_le, degree-mul, mul-ne-zero, lead-ne-zero}
use Rattle.theory_rings.proofs.Polynomials.Degrees.{zero-length}

module _ {K : Type 0} (R : CommRingOn K) {is_zero : K → Bool} (Z : ZeroTest R.zero is_zero) where
  abbrev P : CommRingOn (Poly R)
  P = polynomials R Z

  -- one step of the division: from that of a to that of c + t · a
  module _ (b : Poly R) (u : K) (unit : R.◌⊗◌ (lead R b) u ≡ R.one) (positive : 0 < length b.0) where
    abbrev Divided : Poly R → Type 0
    Divided a = (q : Poly R) × (r : Poly R) × IsDivision R P a b q r

    step : (x : K) (a q r : Poly R) → IsDivision R P a b q r → Divided (prepend R Z x a)
    step x a q r d = (prepend R Z c q, rest, record { whole = whole; smaller = smaller })
      where
        n : ℕ
        n = degree b.0

        -- the coefficient that the multiple of b has to cancel
        top : K
        top = coefficient R (prepend R Z x r) n

        c : K
        c = R.◌⊗◌ top u

        rest : Poly R
        rest = P.◌⊕◌ (prepend R Z x r) (P.neg (P.◌⊗◌ (constant R Z c) b))

        whole : prepend R Z x a ≡ P.◌⊕◌ (P.◌⊗◌ (prepend R Z c q) b) rest
        whole =
            ap (prepend R Z x) d.whole ∙ prepend_eq R Z x (P.◌⊕◌ (P.◌⊗◌ q b) r)
            ∙ by_sorted P (constant R Z x ∷ variable R Z ∷ q ∷ b ∷ r ∷ constant R Z c ∷ [])
            (v0 ⊞ v1 ⊠ (v2 ⊠ v3 ⊞ v4)) ((var 5 ⊞ v1 ⊠ v2) ⊠ v3 ⊞ (v0 ⊞ v1 ⊠ v4 ⊞ minus (var 5 ⊠ v3))) refl
            ∙ sym (ap₂ P.◌⊕◌ (ap (λ y. P.◌⊗◌ y b) (prepend_eq R Z c q))
            (ap (λ y. P.◌⊕◌ y (P.neg (P.◌⊗◌ (constant R Z c) b))) (prepend_eq R Z x r)))

        coefficient-rest : (k : ℕ)
            → coefficient R rest k ≡ R.◌⊕◌ (coefficient R (prepend R Z x r) k) (R.neg (R.◌⊗◌ c (coefficient R b k)))
        coefficient-rest k =
            coefficient-add R Z (prepend R Z x r) (P.neg (P.◌⊗◌ (constant R Z c) b)) k
            ∙ ap (R.◌⊕◌ (coefficient R (prepend R Z x r) k))
            (coefficient-neg R Z (P.◌⊗◌ (constant R Z c) b) k ∙ ap R.neg (coefficient-constant_mul R Z c b k))

        long : length b.0 ≡ suc n
        long = length-degree R b positive

        past : (k : ℕ) → n < k → coefficient R (prepend R Z x r) k ≡ R.zero
        past zero l = absurd (omega arith)
        past (suc k) l = coefficient-prepend R Z x r (suc k) ∙ coefficient_past R r k (omega (arith, d.smaller, long))

        cancels : R.◌⊗◌ c (coefficient R b n) ≡ top
        cancels =
            R.mul_assoc top u (lead R b) ∙ ap (R.◌⊗◌ top) (R.mul_comm u (lead R b) ∙ unit) ∙ R.mul-one top

        null : (k : ℕ) → n ≤ k → coefficient R rest k ≡ R.zero
        null k l = coefficient-rest k ∙ go (cases_lt n k)
          where
            go : (n < k) ⊎ (k ≤ n)
                → R.◌⊕◌ (coefficient R (prepend R Z x r) k) (R.neg (R.◌⊗◌ c (coefficient R b k))) ≡ R.zero
            go (inl lt) =
                ap₂ R.◌⊕◌ (past k lt)
                (ap R.neg (ap (R.◌⊗◌ c) (coefficient_past R b k (omega (arith, long))) ∙ mul-zero R.ring c)
                ∙ neg_zero R.additive)
                ∙ R.zero-add R.zero
            go (inr ge) =
                let e : k ≡ n = omega arith in
                ap (λ i. R.◌⊕◌ (coefficient R (prepend R Z x r) i) (R.neg (R.◌⊗◌ c (coefficient R b i)))) e
                ∙ ap (λ y. R.◌⊕◌ top (R.neg y)) cancels ∙ add-neg R.additive top

        smaller : length rest.0 < length b.0
        smaller = omega (arith, length_le R rest n null, long)

    -- quotient and remainder exist
    pub divide : (a : Poly R) → Divided a
    divide a = go a.0 a.1
      where
        go : (xs : List K) (h : IsTrimmed R.zero xs) → Divided (xs, h)
        go [] h = (
          P.zero,
          P.zero,
          record {
            whole = Poly-path R ([], h) P.zero (λ k. sym (coefficient-zero R Z k))
                ∙ sym (ap (λ y. P.◌⊕◌ y P.zero) (zero-mul P.ring b) ∙ P.zero-add P.zero);
            smaller = omega (arith, zero-length R Z);
          },
        )
        go (x ∷ xs) h =
            let s = go xs (IsTrimmed-tail R.zero x xs h) in
            subst Divided (prepend-tail R Z x xs h) (step x (xs, IsTrimmed-tail R.zero x xs h) s.0 s.1 s.2)

    -- and are unique
    pub division_unique : (a q r q' r' : Poly R) → IsDivision R P a b q r → IsDivision R P a b q' r' → (q ≡ q')
        × (r ≡ r')
    division_unique a q r q' r' d d' = (same, rests)
      where
        difference : Poly R
        difference = P.◌⊕◌ q (P.neg q')

        product : P.◌⊗◌ difference b ≡ P.◌⊕◌ r' (P.neg r)
        product =
            ring5 P (λ q q' b r r'.
            ((q ⊞ minus q') ⊠ b, (q ⊠ b ⊞ r) ⊞ (minus (q' ⊠ b ⊞ r') ⊞ (r' ⊞ minus r)))) refl q q' b r r'
            ∙ ap (λ y. P.◌⊕◌ y (P.◌⊕◌ (P.neg (P.◌⊕◌ (P.◌⊗◌ q' b) r')) (P.◌⊕◌ r' (P.neg r)))) (sym d.whole ∙ d'.whole)
            ∙ ring5 P (λ y r r' z w. (y ⊞ (minus y ⊞ (r' ⊞ minus r)), r' ⊞ minus r)) refl
            (P.◌⊕◌ (P.◌⊗◌ q' b) r') r r' q b

        short : length (P.◌⊗◌ difference b).0 < length b.0
        short =
            let n : ℕ = degree b.0 in
            let long = length-degree R b positive in
            let low : length r.0 ≤ n = omega (arith, d.smaller) in
            let low' : length r'.0 ≤ n = omega (arith, d'.smaller) in
            omega (
              arith,
              ap (λ y. length y.0) product,
              length-add_le R Z r' (P.neg r) n low' (length-neg_le R Z r n low),
            )

        same : q ≡ q'
        same = eq_of_sub_eq_zero P.additive q q' (go (poly_eq_zero_or R Z difference))
          where
            go : (difference ≡ P.zero) ⊎ (difference ≢ P.zero) → difference ≡ P.zero
            go (inl e) = e
            go (inr h) = absurd (omega (
              arith,
              short,
              degree-mul R Z difference b leads,
              length-degree_of_ne_zero R Z (P.◌⊗◌ difference b) (mul-ne-zero R Z difference b leads),
              length-degree R b positive,
            ))
              where
                leads : R.◌⊗◌ (lead R difference) (lead R b) ≢ R.zero
                leads e = lead-ne-zero R Z difference h
                    (eq_zero_of_mul-unit R.ring (lead R difference) (lead R b) u unit e)

        rests : r ≡ r'
        rests = add_cancel_left P.additive (P.◌⊗◌ q b) r r'
            (sym d.whole ∙ d'.whole ∙ ap (λ y. P.◌⊕◌ (P.◌⊗◌ y b) r') (sym same))
