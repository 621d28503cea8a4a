-- The polynomials among the rational functions are the combinations of powers of x with constants.
use Rattle.std.specs.Prelude.{◌≡◌, ℕ, zero, suc, ◌-◌, ◌<◌, ◌≤◌, length, pos}
use Rattle.std.proofs.Common.{sym, ◌∙◌, ap, ap₂, subst, arith, ⊎_elim, inl, inr}
use Rattle.std.proofs.lemmas.Int.{ints}
use Rattle.std.proofs.lemmas.Bool.{cases_lt}
use Rattle.theory_rings.specs.Ring.{CommRingOn, FieldOn}
use Rattle.theory_rings.specs.Sum.{sum}
use Rattle.theory_rings.specs.Power.{power}
use Rattle.theory_rings.specs.Polynomial.{Poly, degree, coefficient, constant_coefficients}
use Rattle.theory_rings.specs.Homomorphism.{IsRingHom}
use Rattle.theory_rings.specs.Fraction.{IsFractionField, IsLowest}
use Rattle.theory_rings.proofs.Rings.RingLaws.{add-zero, mul-zero}
use Rattle.theory_rings.proofs.Rings.ZeroTests.{eq_zero_or}
use Rattle.theory_rings.proofs.Rings.Homomorphisms.{comp_hom}
use Rattle.theory_rings.proofs.Sums.Sums.{map-sum, sum_congr}
use Rattle.theory_rings.proofs.Polynomials.Series.{shift, shift-below, shift-above}
use Rattle.theory_rings.proofs.Polynomials.PolynomialRing.{constant_past, Poly-path, coefficient_past, coefficient-zero}
use Rattle.theory_rings.proofs.Polynomials.PolynomialRing.{coefficient-add, constant, coefficient-constant}
use Rattle.theory_rings.proofs.Polynomials.Degrees.{length_le, length_le_suc-degree, degree_eq, degree-constant}
use Rattle.theory_rings.proofs.Polynomials.Constants.{coefficient-constant_mul, variable, constant-zero, constant_hom}
use Rattle.theory_rings.proofs.Polynomials.Constants.{coefficient-power_variable}
use Rattle.theory_rings.proofs.Polynomials.Bezout.{field_polynomials}
use Rattle.theory_rings.proofs.Fractions.Fractions.{fraction_of_value}
use Rattle.theory_rings.proofs.Fractions.Lowest.{polynomial_reduction}
use Rattle.theory_lattices.specs.Degree.{DegreeOn, DegreeBelow}
use Rattle.theory_lattices.specs.Members.{polynomial_of, PolynomialsOf}
use Rattle.theory_lattices.specs.SelfDual.{ClosedWeights}
use Rattle.theory_lattices.specs.RationalFunctions.{Rational, IsPolynomial, of_polynomial, of_constant, power_of_x}
use Rattle.theory_lattices.specs.RationalFunctions.{IsRationalDegree}
use Rattle.theory_lattices.proofs.Degree.FractionDegrees.{eq_of_value, of_hom, of-zero, of-ne-zero, degree_of}
use Rattle.theory_lattices.proofs.Degree.FractionDegrees.{polynomial_degree, polynomial_degree-is}

-- a polynomial is the sum of its terms
module _ {k : Type 0} (F : FieldOn k) where
  abbrev R : CommRingOn k
  R = F.cring

  abbrev P : CommRingOn (Poly F.cring)
  P = field_polynomials F

  abbrev cf : Poly R → ℕ → k
  cf = coefficient R

  abbrev c_of : k → Poly R
  c_of c = constant R F.zero_test c

  abbrev x_to : ℕ → Poly R
  x_to n = power P.ring (variable R F.zero_test) n

  -- the coefficients of x^n
  abbrev coefficients : ℕ → ℕ → k
  coefficients n = shift F.zero n (constant_coefficients F.zero F.one)

  coefficients-here : (n : ℕ) → coefficients n n ≡ F.one
  coefficients-here n = shift-above F.zero n (constant_coefficients F.zero F.one) n 0 (omega arith)

  coefficients-else : (n k : ℕ) → (n ≡ k → ⊥) → coefficients n k ≡ F.zero
  coefficients-else n k d = ⊎_elim
      (λ (l : k < n). shift-below F.zero n (constant_coefficients F.zero F.one) k l)
      (λ (l : n ≤ k). shift-above F.zero n (constant_coefficients F.zero F.one) k (k - n) (omega arith)
      ∙ constant_past F.zero F.one (k - n)
      (⊎_elim (λ (g : n < k). let w : 1 ≤ k - n = omega arith in w) (λ (g : k ≤ n). absurd (d (omega arith)))
      (cases_lt n k)))
      (cases_lt k n)

  cf-term : (c : k) (n j : ℕ) → cf (P.◌⊗◌ (c_of c) (x_to n)) j ≡ F.◌⊗◌ c (coefficients n j)
  cf-term c n j = coefficient-constant_mul R F.zero_test c (x_to n) j
      ∙ ap (F.◌⊗◌ c) (coefficient-power_variable R F.zero_test n j)

  cf-term_here : (c : k) (n : ℕ) → cf (P.◌⊗◌ (c_of c) (x_to n)) n ≡ c
  cf-term_here c n = cf-term c n n ∙ ap (F.◌⊗◌ c) (coefficients-here n) ∙ F.mul-one c

  cf-term_else : (c : k) (n j : ℕ) → (n ≡ j → ⊥) → cf (P.◌⊗◌ (c_of c) (x_to n)) j ≡ F.zero
  cf-term_else c n j d = cf-term c n j ∙ ap (F.◌⊗◌ c) (coefficients-else n j d) ∙ mul-zero F.ring c

  abbrev terms : ℕ → (ℕ → k) → Poly R
  terms m g = sum P.monoid m (λ j. P.◌⊗◌ (c_of (g j)) (x_to j))

  cf-suc : (m : ℕ) (g : ℕ → k) (j : ℕ)
      → cf (terms (suc m) g) j ≡ F.◌⊕◌ (cf (terms m g) j) (cf (P.◌⊗◌ (c_of (g m)) (x_to m)) j)
  cf-suc m g j = coefficient-add R F.zero_test (terms m g) (P.◌⊗◌ (c_of (g m)) (x_to m)) j

  cf-terms_past : (m : ℕ) (g : ℕ → k) (j : ℕ) → m ≤ j → cf (terms m g) j ≡ F.zero
  cf-terms_past zero g j l = coefficient-zero R F.zero_test j
  cf-terms_past (suc m) g j l = cf-suc m g j
      ∙ ap₂ F.◌⊕◌ (cf-terms_past m g j (omega arith)) (cf-term_else (g m) m j (λ e. omega arith)) ∙ F.zero-add F.zero

  cf-terms : (m : ℕ) (g : ℕ → k) (j : ℕ) → j < m → cf (terms m g) j ≡ g j
  cf-terms zero g j l = absurd (omega arith)
  cf-terms (suc m) g j l = cf-suc m g j
      ∙ ⊎_elim
      (λ (h : j < m). ap₂ F.◌⊕◌ (cf-terms m g j h) (cf-term_else (g m) m j (λ e. omega arith))
      ∙ add-zero F.monoid (g j))
      (λ (h : m ≤ j). let e : m ≡ j = omega arith in
      ap₂ F.◌⊕◌ (cf-terms_past m g j h) (ap (cf (P.◌⊗◌ (c_of (g m)) (x_to m))) (sym e) ∙ cf-term_here (g m) m)
      ∙ F.zero-add (g m) ∙ ap g e)
      (cases_lt j m)

  as_terms : (u : Poly R) (m : ℕ) → length u.0 ≤ m → u ≡ terms m (cf u)
  as_terms u m l = Poly-path R u (terms m (cf u)) (λ j. ⊎_elim
      (λ (h : j < m). sym (cf-terms m (cf u) j h))
      (λ (h : m ≤ j). coefficient_past R u j (omega arith) ∙ sym (cf-terms_past m (cf u) j h)) (cases_lt j m))

  degree-x_to : (n : ℕ) → degree (x_to n).0 ≡ n
  degree-x_to n = degree_eq R (x_to n) n
      (λ e. F.one-nonzero (sym (coefficients-here n) ∙ sym (coefficient-power_variable R F.zero_test n n) ∙ e))
      (λ j l. coefficient-power_variable R F.zero_test n j ∙ coefficients-else n j (λ e. omega arith))

  x_to-ne-zero : (n : ℕ) → x_to n ≡ P.zero → ⊥
  x_to-ne-zero n e = F.one-nonzero (sym (coefficients-here n) ∙ sym (coefficient-power_variable R F.zero_test n n)
      ∙ ap (λ t. cf t n) e ∙ coefficient-zero R F.zero_test n)

  constant-injective : (c : k) → c_of c ≡ P.zero → c ≡ F.zero
  constant-injective c e = sym (coefficient-constant R F.zero_test c 0) ∙ ap (λ t. cf t 0) e
      ∙ coefficient-zero R F.zero_test 0

  zero_length_le : (u : Poly R) (m : ℕ) → u ≡ P.zero → length u.0 ≤ m
  zero_length_le u m e = length_le R u m (λ j l. ap (λ t. cf t j) e ∙ coefficient-zero R F.zero_test j)

  module _ (Q : FieldOn (Rational F))
      (H : IsFractionField (field_polynomials F) (IsLowest F.cring (field_polynomials F)) Q) (W : DegreeOn Q.ring)
      (D : IsRationalDegree F Q W) where
    abbrev of : Poly R → Rational F
    of u = of_polynomial F u

    -- a polynomial keeps its degree
    pub degree_of_polynomial : (u : Poly R) → (u ≡ P.zero → ⊥) → W.deg (of u) ≡ pos (degree u.0)
    degree_of_polynomial u h =
        let X = polynomial_degree F in
        let I = polynomial_degree-is F in
        let a = I.degree-is (of u).0.0 in
        let b = I.degree-is (of u).0.1 in
        let c = I.degree-is u in
        let d = D.degree-is (of u) in
        let e = degree_of P (IsLowest R P) (polynomial_reduction F) Q H X u h in
        omega (arith, ints)

    pub constants_hom : IsRingHom F.ring Q.ring (of_constant F)
    constants_hom = comp_hom F.ring P.ring Q.ring c_of of (constant_hom R F.zero_test)
        (of_hom P (IsLowest R P) (polynomial_reduction F) Q H)

    pub power_of_x-zero : power_of_x F 0 ≡ Q.one
    power_of_x-zero = let h = of_hom P (IsLowest R P) (polynomial_reduction F) Q H in h.map-one

    of_terms : (m : ℕ) (g : ℕ → k) → of (terms m g) ≡ polynomial_of Q (of_constant F) (power_of_x F) m g
    of_terms m g =
        let h = of_hom P (IsLowest R P) (polynomial_reduction F) Q H in
        map-sum P.monoid Q.monoid of (of-zero P (IsLowest R P) (polynomial_reduction F) Q H) h.map-add m
        (λ j. P.◌⊗◌ (c_of (g j)) (x_to j))
        ∙ sum_congr Q.monoid m (λ j. of (P.◌⊗◌ (c_of (g j)) (x_to j)))
        (λ j. Q.◌⊗◌ (of_constant F (g j)) (power_of_x F j))
        (λ j _. h.map-mul (c_of (g j)) (x_to j))

    of_is_zero : (u : Poly R) → of u ≡ Q.zero → u ≡ P.zero
    of_is_zero u e = ⊎_elim (λ (z : u ≡ P.zero). z)
        (λ (n : u ≡ P.zero → ⊥). absurd (of-ne-zero P (IsLowest R P) (polynomial_reduction F) Q H u n e))
        (let X = polynomial_degree F in X.eq_zero_or u)

    length_of_below : (u : Poly R) (m : ℕ) → DegreeBelow W (pos m) (of u) → length u.0 ≤ m
    length_of_below u m (inl e) = zero_length_le u m (of_is_zero u e)
    length_of_below u m (inr l) = ⊎_elim (λ (z : u ≡ P.zero). zero_length_le u m z)
        (λ (n : u ≡ P.zero → ⊥).
        let d = degree_of_polynomial u n in
        let w : degree u.0 < m = omega (arith, ints) in
        let s = length_le_suc-degree R u in
        omega arith) (let X = polynomial_degree F in X.eq_zero_or u)

    pub polynomials_of : PolynomialsOf Q W (IsPolynomial F) F.ring (of_constant F) (power_of_x F)
    polynomials_of = record {
      ι-zero = ap of (constant-zero R F.zero_test) ∙ of-zero P (IsLowest R P) (polynomial_reduction F) Q H;
      ι-degree = λ c. ⊎_elim
          (λ (e : c ≡ F.zero). inl
          (ap (of_constant F) e ∙ ap of (constant-zero R F.zero_test)
          ∙ of-zero P (IsLowest R P) (polynomial_reduction F) Q H))
          (λ (h : c ≡ F.zero → ⊥).
          let n : c_of c ≡ P.zero → ⊥ = λ e. h (constant-injective c e) in
          inr (record {
            nonzero = of-ne-zero P (IsLowest R P) (polynomial_reduction F) Q H (c_of c) n;
            degree = degree_of_polynomial (c_of c) n ∙ ap pos (degree-constant R F.zero_test c);
          }))
          (eq_zero_or F.zero_test c);
      ι-injective = λ c e. constant-injective c (of_is_zero (c_of c) e);
      T-degree = λ j. record {
        nonzero = of-ne-zero P (IsLowest R P) (polynomial_reduction F) Q H (x_to j) (x_to-ne-zero j);
        degree = degree_of_polynomial (x_to j) (x_to-ne-zero j) ∙ ap pos (degree-x_to j);
      };
      expand = λ c h m l.
          let e : c ≡ of h.0 = eq_of_value P (IsLowest R P) (polynomial_reduction F) Q H c h.0 h.1 in
          let Z : Rational F → Type 0 = λ t. DegreeBelow W (pos m) t in
          (cf h.0, e ∙ ap of (as_terms h.0 m (length_of_below h.0 m (subst Z e l))) ∙ of_terms m (cf h.0));
      back = λ m s. subst (IsPolynomial F) (of_terms m s)
          (terms m s, fraction_of_value P (IsLowest R P) (polynomial_reduction F) (terms m s));
    }

    -- sums and products of polynomials are polynomials
    pub polynomials_closed : ClosedWeights Q (IsPolynomial F)
    polynomials_closed =
        let I = polynomial_reduction F in
        let h = of_hom P (IsLowest R P) I Q H in
        let own = λ (u : Poly R). fraction_of_value P (IsLowest R P) I u in
        record {
          zero_in = subst (IsPolynomial F) (of-zero P (IsLowest R P) I Q H) (P.zero, own P.zero);
          add_in = λ x y g k.
              let e = ap₂ Q.◌⊕◌ (eq_of_value P (IsLowest R P) I Q H x g.0 g.1)
              (eq_of_value P (IsLowest R P) I Q H y k.0 k.1) in
              subst (IsPolynomial F) (h.map-add g.0 k.0 ∙ sym e) (P.◌⊕◌ g.0 k.0, own (P.◌⊕◌ g.0 k.0));
          mul_in = λ x y g k.
              let e = ap₂ Q.◌⊗◌ (eq_of_value P (IsLowest R P) I Q H x g.0 g.1)
              (eq_of_value P (IsLowest R P) I Q H y k.0 k.1) in
              subst (IsPolynomial F) (h.map-mul g.0 k.0 ∙ sym e) (P.◌⊗◌ g.0 k.0, own (P.◌⊗◌ g.0 k.0));
        }
