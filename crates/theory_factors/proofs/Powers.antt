-- Powers x ↦ x^(q^i) of polynomials over a field of q elements, modulo a polynomial, and their fixed points in a finite
-- field.
use Rattle.std.specs.Prelude.{◌≡◌, ◌≢◌, ℕ, zero, suc, ◌+◌, ◌-◌, ◌^◌, ◌<◌, ◌≤◌, List, [], ◌∷◌}
use Rattle.std.proofs.Common.{sym, ◌∙◌, ap, ap₂, subst, arith, ⊎_elim}
use Rattle.std.proofs.lemmas.Bool.{cases_lt}
use Rattle.std.proofs.Math.Nat.{pow-zero, pow-suc, pow-succ', pow-le-pow_right, one-le-pow, mul-le-mul_right}
use Rattle.theory_rings.specs.Ring.{FieldOn, CommRingOn}
use Rattle.theory_rings.specs.Power.{power}
use Rattle.theory_rings.specs.Enumerated.{Enumerated}
use Rattle.theory_rings.specs.Polynomial.{IsTrimmed, Poly, coefficient, degree, constant_coefficients}
use Rattle.theory_rings.specs.Division.{Congruent}
use Rattle.theory_rings.proofs.Rings.RingLaws.{add-neg, add-zero}
use Rattle.theory_rings.proofs.Rings.Homomorphisms.{id_hom, map-neg}
use Rattle.theory_rings.proofs.Rings.Congruences.{congruent_of_eq, congruent_trans, congruent-add, congruent-mul}
use Rattle.theory_rings.proofs.Powers.Powers.{power_first, power-power, power-mul, map-power}
use Rattle.theory_rings.proofs.FiniteFields.FiniteFields.{power_size}
use Rattle.theory_rings.proofs.Polynomials.Series.{shift-above}
use Rattle.theory_rings.proofs.Polynomials.PolynomialRing.{IsTrimmed-tail, Poly-path, constant, constant_past}
use Rattle.theory_rings.proofs.Polynomials.PolynomialRing.{coefficient-zero, coefficient-add, coefficient-neg}
use Rattle.theory_rings.proofs.Polynomials.PolynomialRing.{prepend-tail}
use Rattle.theory_rings.proofs.Polynomials.Degrees.{coefficient_above, length_le, length-degree, lt_length}
use Rattle.theory_rings.proofs.Polynomials.Constants.{variable, prepend_eq, constant-zero, constant_hom}
use Rattle.theory_rings.proofs.Polynomials.Constants.{degree-variable, coefficient-power_variable}
use Rattle.theory_rings.proofs.Polynomials.Evaluation.{evaluate-add, evaluate-variable, evaluate_hom}
use Rattle.theory_rings.proofs.Polynomials.Bezout.{field_polynomials}
use Rattle.theory_factors.specs.FactorLaws.{power_less}
use Rattle.theory_rings.proofs.FiniteFields.PolynomialPowers.{poly_power_size_iterate-add}
use Rattle.theory_rings.proofs.Polynomials.Roots.{value, eq_zero_of_roots}

pub pow_lt : (q i d : ℕ) → 2 ≤ q → i < d → q ^ i < q ^ d
pow_lt q i d two l =
    let pos : 0 < q = omega arith in
    let below : suc i ≤ d = omega arith in
    omega (
      arith,
      pow-le-pow_right {n = q} pos {i = suc i} {j = d} below,
      pow-succ' q i,
      mul-le-mul_right (q ^ i) two,
      one-le-pow i q pos,
    )

module _ {K : Type 0} (F : FieldOn K) (E : Enumerated K) where
  pub two_le_size : 2 ≤ E.size
  two_le_size = ⊎_elim
      (λ (l : 1 < E.size). omega arith)
      (λ (l : E.size ≤ 1).
      let same : E.number F.one ≡ E.number F.zero = omega (arith, E.number-lt F.one, E.number-lt F.zero) in
      absurd (F.one-nonzero (sym (E.member-number F.one) ∙ ap E.member same ∙ E.member-number F.zero)))
      (cases_lt 1 E.size)

  abbrev R : CommRingOn K
  R = F.cring

  abbrev P : CommRingOn (Poly F.cring)
  P = field_polynomials F

  abbrev t : Poly R
  t = variable R F.zero_test

  -- x^n − x, where x is the variable
  abbrev pub power_less_variable : ℕ → Poly R
  power_less_variable n = power_less F P t n

  module _ (n : ℕ) (two : 2 ≤ n) where
    abbrev D : Poly R
    D = power_less_variable n

    at_t : (k : ℕ) → 1 < k → coefficient R (P.neg t) k ≡ F.zero
    at_t k l =
        coefficient-neg R F.zero_test t k
        ∙ ap F.neg (coefficient_above R t k (omega (arith, l, degree-variable R F.zero_test F.one-nonzero)))
        ∙ sym (F.zero-add (F.neg F.zero)) ∙ add-neg F.additive F.zero

    at_power : (k j : ℕ) → k ≡ n + j → coefficient R (power P.ring t n) k ≡ constant_coefficients F.zero F.one j
    at_power k j e = coefficient-power_variable R F.zero_test n k
        ∙ shift-above F.zero n (constant_coefficients F.zero F.one) k j e

    both : (k j : ℕ) → k ≡ n + j → coefficient R D k ≡ constant_coefficients F.zero F.one j
    both k j e =
        coefficient-add R F.zero_test (power P.ring t n) (P.neg t) k
        ∙ ap₂ F.◌⊕◌ (at_power k j e) (at_t k (omega (arith, e, two)))
        ∙ add-zero F.monoid (constant_coefficients F.zero F.one j)

    leading : coefficient R D n ≡ F.one
    leading = both n 0 (omega arith)

    pub degree-power_less : degree D.0 ≤ n
    degree-power_less =
        let past : (k : ℕ) → suc n ≤ k → coefficient R D k ≡ F.zero = λ k l.
        let e : k ≡ n + (k - n) = omega arith in both k (k - n) e ∙ constant_past F.zero F.one (k - n) (omega arith) in
        let short = length_le R D (suc n) past in
        let long = length-degree R D (omega (arith, lt_length R D n (λ z. F.one-nonzero (sym leading ∙ z)))) in
        omega arith

    pub power_less-ne-zero : D ≢ P.zero
    power_less-ne-zero null = F.one-nonzero (sym leading ∙ ap (λ (b : Poly R). coefficient R b n) null
        ∙ coefficient-zero R F.zero_test n)

  -- x^n − x is 0 where x^n = x
  pub value-power_less : (n : ℕ) (x : K) → power F.ring x n ≡ x → value F x (power_less_variable n) ≡ F.zero
  value-power_less n x fixed =
      let H = evaluate_hom R F.zero_test R (λ c. c) (id_hom F.ring) x in
      let v = evaluate-variable R F.zero_test R (λ c. c) (id_hom F.ring) x in
      evaluate-add R F.zero_test R (λ c. c) (id_hom F.ring) x (power P.ring t n) (P.neg t)
      ∙ ap₂ F.◌⊕◌ (map-power P.ring F.ring (value F x) H.map-one H.map-mul t n ∙ ap (λ y. power F.ring y n) v ∙ fixed)
      (map-neg P.ring F.ring (value F x) H t ∙ ap F.neg v)
      ∙ add-neg F.additive x

  -- fewer than all elements solve z^n = z, where n is less than their number
  pub few_fixed : (n : ℕ) → 2 ≤ n → n < E.size → ((a : K) → power F.ring a n ≡ a) → ⊥
  few_fixed n two less fixed = power_less-ne-zero n two
      (eq_zero_of_roots F n (power_less_variable n) E.member (degree-power_less n two)
      (λ i j li lj e. sym (E.number-member i (omega (arith, li, less))) ∙ ap E.number e
      ∙ E.number-member j (omega (arith, lj, less)))
      (λ i l. value-power_less n (E.member i) (fixed (E.member i))))

  -- the power taken i times
  pub power_size_iterate : (i : ℕ) (a : K) → power F.ring a (E.size ^ i) ≡ a
  power_size_iterate zero a = ap (power F.ring a) (pow-zero E.size) ∙ power_first F.ring a
  power_size_iterate (suc i) a =
      ap (power F.ring a) (pow-suc E.size i) ∙ sym (power-power F.ring a (E.size ^ i) E.size)
      ∙ power_size F E (power F.ring a (E.size ^ i)) ∙ power_size_iterate i a

  module _ (i : ℕ) where
    abbrev n : ℕ
    n = E.size ^ i

    poly_power-add : (a b : Poly R) → power P.ring (P.◌⊕◌ a b) n ≡ P.◌⊕◌ (power P.ring a n) (power P.ring b n)
    poly_power-add a b = poly_power_size_iterate-add F E i a b

    -- where the power of the variable is congruent to it, that of each polynomial is
    module _ (g : Poly R) (h : Congruent P g (power P.ring t n) t) where
      abbrev S : Poly R → Type 0
      S a = Congruent P g (power P.ring a n) a

      S-add : (a b : Poly R) → S a → S b → S (P.◌⊕◌ a b)
      S-add a b sa sb = congruent_trans P g (power P.ring (P.◌⊕◌ a b) n) (P.◌⊕◌ (power P.ring a n) (power P.ring b n))
          (P.◌⊕◌ a b)
          (congruent_of_eq P g (power P.ring (P.◌⊕◌ a b) n) (P.◌⊕◌ (power P.ring a n) (power P.ring b n))
          (poly_power-add a b))
          (congruent-add P g (power P.ring a n) a (power P.ring b n) b sa sb)

      S-mul : (a b : Poly R) → S a → S b → S (P.◌⊗◌ a b)
      S-mul a b sa sb = congruent_trans P g (power P.ring (P.◌⊗◌ a b) n) (P.◌⊗◌ (power P.ring a n) (power P.ring b n))
          (P.◌⊗◌ a b)
          (congruent_of_eq P g (power P.ring (P.◌⊗◌ a b) n) (P.◌⊗◌ (power P.ring a n) (power P.ring b n))
          (power-mul P.ring a b (P.mul_comm a b) n))
          (congruent-mul P g (power P.ring a n) a (power P.ring b n) b sa sb)

      S-constant : (c : K) → S (constant R F.zero_test c)
      S-constant c =
          let H = constant_hom R F.zero_test in
          congruent_of_eq P g (power P.ring (constant R F.zero_test c) n) (constant R F.zero_test c)
          (sym (map-power F.ring P.ring (constant R F.zero_test) H.map-one H.map-mul c n)
          ∙ ap (constant R F.zero_test) (power_size_iterate i c))

      all_of : (xs : List K) (tr : IsTrimmed R.zero xs) → S (xs, tr)
      all_of [] tr =
          let c : Poly R = ([], tr) in
          let z : P.zero ≡ c = Poly-path R P.zero c (λ k. coefficient-zero R F.zero_test k) in
          subst S (constant-zero R F.zero_test ∙ z) (S-constant F.zero)
      all_of (c ∷ xs) tr =
          let b : Poly R = (xs, IsTrimmed-tail R.zero c xs tr) in
          subst S (sym (prepend_eq R F.zero_test c b) ∙ prepend-tail R F.zero_test c xs tr)
          (S-add (constant R F.zero_test c) (P.◌⊗◌ t b) (S-constant c)
          (S-mul t b h (all_of xs (IsTrimmed-tail R.zero c xs tr))))

      pub all_fixed : (a : Poly R) → Congruent P g (power P.ring a n) a
      all_fixed a = all_of a.0 a.1
