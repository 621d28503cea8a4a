-- Polynomials over a field: degrees add up, products cancel, and two polynomials have a greatest common divisor that
-- is a combination of them.
use Rattle.std.specs.Prelude.{◌≡◌, ◌≢◌, ℕ, zero, suc, ◌+◌, ◌<◌, ◌≤◌, length, ◌⊎◌}
use Rattle.std.proofs.Common.{refl, sym, ◌∙◌, ap, ap₂, arith, inl, inr}
use Rattle.theory_rings.specs.Ring.{FieldOn, CommRingOn}
use Rattle.theory_rings.specs.Polynomial.{Poly, coefficient, lead, degree}
use Rattle.theory_rings.specs.Division.{Divides, IsDivision, IsGcd, IsCoprime}
use Rattle.theory_rings.proofs.Rings.RingLaws.{mul-zero, zero-mul, add-zero, add-neg, left_ne_zero_of_mul}
use Rattle.theory_rings.proofs.Rings.RingLaws.{right_ne_zero_of_mul}
use Rattle.theory_rings.proofs.Rings.ZeroTests.{eq_of_sub_eq_zero}
use Rattle.theory_rings.proofs.Rings.Solver.{◌⊞◌, ◌⊠◌, minus, ring3, ring4, ring5}
use Rattle.theory_rings.proofs.Polynomials.PolynomialRing.{polynomials, coefficient-zero, coefficient-one, constant}
use Rattle.theory_rings.proofs.Polynomials.Degrees.{poly_eq_zero_or, degree-mul, lead-mul, mul-ne-zero, lead-ne-zero}
use Rattle.theory_rings.proofs.Polynomials.Degrees.{degree-constant, eq_constant, length_pos, length-eq-zero}
use Rattle.theory_rings.proofs.Polynomials.Constants.{constant_hom, constant-one, variable, degree-variable}
use Rattle.theory_rings.proofs.Polynomials.Division.{divide}
use Rattle.theory_rings.proofs.Rings.Fields.{mul-inv, field_mul-ne-zero}

module _ {K : Type 0} (F : FieldOn K) where
  abbrev R : CommRingOn K
  R = F.cring

  -- the ring of polynomials over F
  abbrev pub field_polynomials : CommRingOn (Poly F.cring)
  field_polynomials = polynomials F.cring F.zero_test

  abbrev P : CommRingOn (Poly F.cring)
  P = field_polynomials

  leads : (a b : Poly R) → a ≢ P.zero → b ≢ P.zero → F.◌⊗◌ (lead R a) (lead R b) ≢ F.zero
  leads a b ha hb =
      field_mul-ne-zero F (lead R a) (lead R b) (lead-ne-zero R F.zero_test a ha) (lead-ne-zero R F.zero_test b hb)

  pub field_degree-mul : (a b : Poly R) → a ≢ P.zero → b ≢ P.zero → degree (P.◌⊗◌ a b).0 ≡ degree a.0 + degree b.0
  field_degree-mul a b ha hb = degree-mul R F.zero_test a b (leads a b ha hb)

  pub field_lead-mul : (a b : Poly R) → a ≢ P.zero → b ≢ P.zero → lead R (P.◌⊗◌ a b) ≡ F.◌⊗◌ (lead R a) (lead R b)
  field_lead-mul a b ha hb = lead-mul R F.zero_test a b (leads a b ha hb)

  -- no divisors of 0
  pub poly_mul-ne-zero : (a b : Poly R) → a ≢ P.zero → b ≢ P.zero → P.◌⊗◌ a b ≢ P.zero
  poly_mul-ne-zero a b ha hb = mul-ne-zero R F.zero_test a b (leads a b ha hb)

  pub poly_mul_cancel_left : (a b c : Poly R) → a ≢ P.zero → P.◌⊗◌ a b ≡ P.◌⊗◌ a c → b ≡ c
  poly_mul_cancel_left a b c h e =
      eq_of_sub_eq_zero P.additive b c (go (poly_eq_zero_or R F.zero_test (P.◌⊕◌ b (P.neg c))))
    where
      null : P.◌⊗◌ a (P.◌⊕◌ b (P.neg c)) ≡ P.zero
      null =
          ring3 P (λ a b c. (a ⊠ (b ⊞ minus c), a ⊠ b ⊞ minus (a ⊠ c))) refl a b c
          ∙ ap (λ x. P.◌⊕◌ x (P.neg (P.◌⊗◌ a c))) e ∙ add-neg P.additive (P.◌⊗◌ a c)

      go : (P.◌⊕◌ b (P.neg c) ≡ P.zero) ⊎ (P.◌⊕◌ b (P.neg c) ≢ P.zero) → P.◌⊕◌ b (P.neg c) ≡ P.zero
      go (inl z) = z
      go (inr n) = absurd (poly_mul-ne-zero a (P.◌⊕◌ b (P.neg c)) h n null)

  pub poly_one-ne-zero : P.one ≢ P.zero
  poly_one-ne-zero e = F.one-nonzero
      (sym (coefficient-one R F.zero_test 0) ∙ ap (λ x. coefficient R x 0) e ∙ coefficient-zero R F.zero_test 0)

  pub degree-one : degree P.one.0 ≡ 0
  degree-one = ap (λ x. degree x.0) (sym (constant-one R F.zero_test)) ∙ degree-constant R F.zero_test F.one

  -- what divides 1 is of degree 0
  pub degree_of_divides_one : (g : Poly R) → Divides P g P.one → degree g.0 ≡ 0
  degree_of_divides_one g d =
      let h : P.◌⊗◌ d.0 g ≢ P.zero = λ e. poly_one-ne-zero (d.1 ∙ e) in
      omega (
        arith,
        field_degree-mul d.0 g (left_ne_zero_of_mul P.ring d.0 g h) (right_ne_zero_of_mul P.ring d.0 g h),
        ap (λ x. degree x.0) d.1,
        degree-one,
      )

  pub constant_inverse : (c : K) → c ≢ F.zero
      → P.◌⊗◌ (constant R F.zero_test (F.inv c)) (constant R F.zero_test c) ≡ P.one
  constant_inverse c h =
      let H = constant_hom R F.zero_test in
      sym (H.map-mul (F.inv c) c) ∙ ap (constant R F.zero_test) (F.inv-mul c h) ∙ H.map-one

  -- a polynomial of degree 0 that is not 0 has an inverse, the constant of the inverse of its leading coefficient
  pub degree_zero_inverse : (a : Poly R) → a ≢ P.zero → degree a.0 ≡ 0
      → P.◌⊗◌ (constant R F.zero_test (F.inv (lead R a))) a ≡ P.one
  degree_zero_inverse a h d =
      ap (P.◌⊗◌ (constant R F.zero_test (F.inv (lead R a))))
      (eq_constant R F.zero_test a d ∙ ap (λ k. constant R F.zero_test (coefficient R a k)) (sym d))
      ∙ constant_inverse (lead R a) (lead-ne-zero R F.zero_test a h)

  -- a step of Euclid's algorithm
  gcd_step : (a b q r g : Poly R) → IsDivision R P a b q r → IsGcd P b r g → IsGcd P a b g
  gcd_step a b q r g d e = record {
    left = (
      P.◌⊕◌ (P.◌⊗◌ q e.left.0) e.right.0,
      d.whole ∙ ap₂ P.◌⊕◌ (ap (P.◌⊗◌ q) e.left.1) e.right.1
          ∙ ring4 P (λ q u v g. (q ⊠ (u ⊠ g) ⊞ v ⊠ g, (q ⊠ u ⊞ v) ⊠ g)) refl q e.left.0 e.right.0 g,
    );
    right = e.left;
    s = e.t;
    t = P.◌⊕◌ e.s (P.neg (P.◌⊗◌ e.t q));
    combined = e.combined
        ∙ ring5 P (λ s b t q r. (s ⊠ b ⊞ t ⊠ r, t ⊠ (q ⊠ b ⊞ r) ⊞ (s ⊞ minus (t ⊠ q)) ⊠ b)) refl e.s b e.t q r
        ∙ ap (λ x. P.◌⊕◌ (P.◌⊗◌ e.t x) (P.◌⊗◌ (P.◌⊕◌ e.s (P.neg (P.◌⊗◌ e.t q))) b)) (sym d.whole);
  }

  gcd_zero : (a b : Poly R) → b ≡ P.zero → IsGcd P a b a
  gcd_zero a b z = record {
    left = (P.one, sym (P.one-mul a));
    right = (P.zero, z ∙ sym (zero-mul P.ring a));
    s = P.one;
    t = P.zero;
    combined = sym (ap₂ P.◌⊕◌ (P.one-mul a) (zero-mul P.ring b) ∙ add-zero P.monoid a);
  }

  euclid : (fuel : ℕ) (a b : Poly R) → length b.0 ≤ fuel → (g : Poly R) × IsGcd P a b g
  euclid zero a b l = (a, gcd_zero a b (length-eq-zero R F.zero_test b l))
  euclid (suc fuel) a b l = go (poly_eq_zero_or R F.zero_test b) (euclid fuel)
    where
      go : (b ≡ P.zero) ⊎ (b ≢ P.zero) → ((a b : Poly R) → length b.0 ≤ fuel → (g : Poly R) × IsGcd P a b g)
          → (g : Poly R) × IsGcd P a b g
      go (inl z) rec = (a, gcd_zero a b z)
      go (inr h) rec =
          let d = divide R F.zero_test b (F.inv (lead R b)) (mul-inv F (lead R b) (lead-ne-zero R F.zero_test b h))
          (length_pos R F.zero_test b h) a in
          let smaller : length d.1.0 < length b.0 = (let e = d.2 in e.smaller) in
          let r = rec b d.1 (omega arith) in
          (r.0, gcd_step a b d.0 d.1 r.0 d.2 r.1)

  -- a greatest common divisor, with its multipliers
  pub gcd : (a b : Poly R) → (g : Poly R) × IsGcd P a b g
  gcd a b = euclid (length b.0) a b (omega arith)

  -- as the variable divides 0, 0 is no greatest common divisor of coprime polynomials
  pub coprime_gcd-ne-zero : (a b g : Poly R) → IsCoprime R P a b → IsGcd P a b g → g ≢ P.zero
  coprime_gcd-ne-zero a b g c e z =
      let t : Poly R = variable R F.zero_test in
      let null : (x : Poly R) → Divides P g x → Divides P t x =
      λ x d. (P.zero, d.1 ∙ ap (P.◌⊗◌ d.0) z ∙ mul-zero P.ring d.0 ∙ sym (zero-mul P.ring t)) in
      omega (arith, degree-variable R F.zero_test F.one-nonzero, c t (null a e.left) (null b e.right))

  -- where a greatest common divisor is a constant, 1 is a combination
  pub combination_one : (a b g : Poly R) (e : IsGcd P a b g) → g ≢ P.zero → degree g.0 ≡ 0
      → (let k : Poly R = constant R F.zero_test (F.inv (lead R g)) in
      P.◌⊕◌ (P.◌⊗◌ (P.◌⊗◌ k e.s) a) (P.◌⊗◌ (P.◌⊗◌ k e.t) b) ≡ P.one)
  combination_one a b g e h d =
      let k : Poly R = constant R F.zero_test (F.inv (lead R g)) in
      ring5 P (λ k s a t b. ((k ⊠ s) ⊠ a ⊞ (k ⊠ t) ⊠ b, k ⊠ (s ⊠ a ⊞ t ⊠ b))) refl k e.s a e.t b
      ∙ ap (P.◌⊗◌ k) (sym e.combined) ∙ degree_zero_inverse g h d

  -- 1 is a combination of coprime polynomials
  pub bezout : (a b : Poly R) → IsCoprime R P a b → (s : Poly R) × (t : Poly R)
      × (P.◌⊕◌ (P.◌⊗◌ s a) (P.◌⊗◌ t b) ≡ P.one)
  bezout a b c =
      let p = gcd a b in
      let e = p.1 in
      let k : Poly R = constant R F.zero_test (F.inv (lead R p.0)) in
      (P.◌⊗◌ k e.s, P.◌⊗◌ k e.t, combination_one a b p.0 e (coprime_gcd-ne-zero a b p.0 c e) (c p.0 e.left e.right))

  pub coprime_comm : (a b : Poly R) → IsCoprime R P a b → IsCoprime R P b a
  coprime_comm a b c g da db = c g db da

  -- and polynomials of which 1 is a combination are coprime
  pub coprime_of_bezout : (a b s t : Poly R) → P.◌⊕◌ (P.◌⊗◌ s a) (P.◌⊗◌ t b) ≡ P.one → IsCoprime R P a b
  coprime_of_bezout a b s t e g da db = degree_of_divides_one g (
    P.◌⊕◌ (P.◌⊗◌ s da.0) (P.◌⊗◌ t db.0),
    sym e ∙ ap₂ P.◌⊕◌ (ap (P.◌⊗◌ s) da.1) (ap (P.◌⊗◌ t) db.1)
        ∙ ring5 P (λ s u t v g. (s ⊠ (u ⊠ g) ⊞ t ⊠ (v ⊠ g), (s ⊠ u ⊞ t ⊠ v) ⊠ g)) refl s da.0 t db.0 g,
  )

  -- what is coprime to one factor of a multiple divides the other
  pub divides_of_coprime : (a b c : Poly R) → IsCoprime R P a b → Divides P a (P.◌⊗◌ b c) → Divides P a c
  divides_of_coprime a b c h d =
      let u = bezout a b h in (
        P.◌⊕◌ (P.◌⊗◌ u.0 c) (P.◌⊗◌ u.1 d.0),
        sym (P.one-mul c) ∙ ap (λ x. P.◌⊗◌ x c) (sym u.2)
            ∙ ring5 P (λ s a t b c. ((s ⊠ a ⊞ t ⊠ b) ⊠ c, s ⊠ c ⊠ a ⊞ t ⊠ (b ⊠ c))) refl u.0 a u.1 b c
            ∙ ap (λ x. P.◌⊕◌ (P.◌⊗◌ (P.◌⊗◌ u.0 c) a) (P.◌⊗◌ u.1 x)) d.1
            ∙ ring5 P (λ s a t e c. (s ⊠ c ⊠ a ⊞ t ⊠ (e ⊠ a), (s ⊠ c ⊞ t ⊠ e) ⊠ a)) refl u.0 a u.1 d.0 c,
      )
