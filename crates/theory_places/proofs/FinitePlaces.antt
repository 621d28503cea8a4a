-- The place of a monic irreducible polynomial of a field of rational functions.
use Rattle.std.specs.Prelude.{◌≡◌, ℕ, zero, suc, ◌≤◌, length, Bool, IsTrue, ◌⊎◌, ◌↔◌}
use Rattle.std.proofs.Common.{refl, sym, ◌∙◌, ap, subst, arith, inl, inr, ⊎_elim}
use Rattle.theory_rings.specs.Ring.{FieldOn, CommRingOn}
use Rattle.theory_rings.specs.Power.{power}
use Rattle.theory_rings.specs.Polynomial.{Poly, degree}
use Rattle.theory_rings.specs.Division.{Divides, IsIrreducible}
use Rattle.theory_rings.specs.Fraction.{IsFractionField, IsLowest, IsValue}
use Rattle.theory_rings.proofs.Rings.RingLaws.{zero-mul, left_ne_zero_of_mul, right_ne_zero_of_mul}
use Rattle.theory_rings.proofs.Rings.Fields.{mul-inv}
use Rattle.theory_rings.proofs.Rings.Solver.{◌⊠◌, ring3}
use Rattle.theory_rings.proofs.Polynomials.Degrees.{length_pos, length-degree_of_ne_zero}
use Rattle.theory_rings.proofs.Polynomials.Bezout.{field_polynomials, field_degree-mul, poly_mul_cancel_left}
use Rattle.theory_rings.proofs.Polynomials.Bezout.{degree_of_divides_one, divides_of_coprime, coprime_comm}
use Rattle.theory_rings.proofs.Polynomials.Irreducible.{divides_or, irreducible-ne-zero, irreducible_prime}
use Rattle.theory_rings.proofs.Fractions.Fractions.{fraction_of, fraction_of_value}
use Rattle.theory_rings.proofs.Fractions.Lowest.{polynomial_reduction}
use Rattle.theory_spaces.specs.Valuation.{ValuationOn}
use Rattle.theory_orders.specs.Uniformizer.{UniformizerOn}
use Rattle.theory_lattices.specs.RationalFunctions.{Rational}
use Rattle.theory_lattices.proofs.Degree.FractionDegrees.{of-ne-zero}
use Rattle.theory_places.specs.Places.{IsIntegralOff}
use Rattle.theory_places.proofs.Rationals.{low, inv_value, zero_num}
use Rattle.theory_places.proofs.DegreePlaces.{answer, answer-sound, answer-complete}

module _ {k : Type 0} (F : FieldOn k) (Q : FieldOn (Rational F))
    (H : IsFractionField (field_polynomials F) (IsLowest F.cring (field_polynomials F)) Q)
    (m : Poly F.cring) (i : IsIrreducible F.cring (field_polynomials F) m) where
  infixl 70 ◌⊗◌
  abbrev R : CommRingOn k
  R = F.cring

  abbrev P : CommRingOn (Poly F.cring)
  P = field_polynomials F

  open P use {◌⊗◌}

  abbrev D : Type 0
  D = Poly F.cring

  abbrev Is : Rational F → D → D → Type 0
  Is = IsValue P (IsLowest R P)

  abbrev Off : D → Type 0
  Off v = Divides P m v → ⊥

  pub m_ne : m ≡ P.zero → ⊥
  m_ne = irreducible-ne-zero F m i

  off_or : (v : D) → Off v ⊎ (Off v → ⊥)
  off_or v = ⊎_elim (λ (d : Divides P m v). inr (λ o. o d)) (λ (o : Off v). inl o) (divides_or F m v m_ne)

  pub off_mul : (a b : D) → Off a → Off b → Off (a ⊗ b)
  off_mul a b oa ob d =
      ⊎_elim (λ (h : Divides P m a). oa h) (λ (h : Divides P m b). ob h) (irreducible_prime F m i a b d)

  pub off_one : Off P.one
  off_one d = let e = degree_of_divides_one F m d in let l = i.positive in omega arith

  -- the denominator in lowest terms divides each other
  pub off_den : (x : Rational F) (u v : D) → Is x u v → Off v → Off x.0.1
  off_den x u v h o d =
      let c : Divides P x.0.1 v = divides_of_coprime F x.0.1 x.0.0 v (coprime_comm F x.0.0 x.0.1 x.1.coprime) (u, h) in
      o (c.0 ⊗ d.0, c.1 ∙ ap (λ t. c.0 ⊗ t) d.1 ∙ sym (P.mul_assoc c.0 d.0 m))

  pub integral : Rational F → Bool
  integral x = answer (off_or x.0.1)

  pub in_off : (x : Rational F) → IsTrue (integral x) → Off x.0.1
  unfolding integral
  in_off x = answer-sound (off_or x.0.1)

  pub integral_of : (x : Rational F) (u v : D) → Is x u v → Off v → IsTrue (integral x)
  unfolding integral
  integral_of x u v h o = answer-complete (off_or x.0.1) (off_den x u v h o)

  divides_zero : (x : Rational F) → x ≡ Q.zero → Divides P m x.0.0
  divides_zero x e = (P.zero, ap (λ (z : Rational F). z.0.0) e ∙ zero_num F Q H ∙ sym (zero-mul P.ring m))

  unit_of : (x : Rational F) → Off x.0.0 → (x ≡ Q.zero → ⊥) × IsTrue (integral (Q.inv x))
  unit_of x o = let n : x ≡ Q.zero → ⊥ = λ e. o (divides_zero x e) in
      (n, integral_of (Q.inv x) x.0.1 x.0.0 (inv_value F Q H x x.0.0 x.0.1 refl n) o)

  pub in_total : (x : Rational F) → IsTrue (integral x) ⊎ IsTrue (integral (Q.inv x))
  in_total x = ⊎_elim
      (λ (d : Divides P m x.0.1).
      inr (let u = unit_of x (λ e. let z = x.1.coprime m e d in let l = i.positive in omega arith) in u.1))
      (λ (o : Off x.0.1). inl (integral_of x x.0.0 x.0.1 refl o))
      (divides_or F m x.0.1 m_ne)

  unfoldable pub place : ValuationOn Q
  place = record {
    integral = integral;
    zero_in = integral_of Q.zero P.zero P.one H.zero_value off_one;
    one_in = integral_of Q.one P.one P.one H.one_value off_one;
    add_in = λ a b h g. integral_of (Q.◌⊕◌ a b) (P.◌⊕◌ (a.0.0 ⊗ b.0.1) (b.0.0 ⊗ a.0.1)) (a.0.1 ⊗ b.0.1)
        (H.add_value a b a.0.0 a.0.1 b.0.0 b.0.1 refl refl) (off_mul a.0.1 b.0.1 (in_off a h) (in_off b g));
    mul_in = λ a b h g. integral_of (Q.◌⊗◌ a b) (a.0.0 ⊗ b.0.0) (a.0.1 ⊗ b.0.1)
        (H.mul_value a b a.0.0 a.0.1 b.0.0 b.0.1 refl refl) (off_mul a.0.1 b.0.1 (in_off a h) (in_off b g));
    neg_in = λ a h. integral_of (Q.neg a) (P.neg a.0.0) a.0.1 (H.neg_value a a.0.0 a.0.1 refl) (in_off a h);
    total = in_total;
  }

  -- just the fractions that are the same as some u/v with v off m are integral
  pub place-tells : (x : Rational F) → IsTrue (place.integral x) ↔ IsIntegralOff F m x
  unfolding place
  place-tells x = (λ h. (x.0.0, x.0.1, refl, in_off x h), λ w. integral_of x w.0 w.1 w.2 w.3)

  -- ---- the uniformizer

  abbrev pub p : Rational F
  p = fraction_of P (IsLowest R P) (polynomial_reduction F) m

  pub p_value : Is p m P.one
  p_value = fraction_of_value P (IsLowest R P) (polynomial_reduction F) m

  p_ne : p ≡ Q.zero → ⊥
  p_ne = of-ne-zero P (IsLowest R P) (polynomial_reduction F) Q H m m_ne

  abbrev pub q : Rational F
  q = Q.inv p

  pub q_value : Is q P.one m
  q_value = inv_value F Q H p m P.one p_value p_ne

  pub multiple : (c : Rational F) → Off c.0.1 → Divides P m c.0.0 → IsTrue (integral (Q.◌⊗◌ q c))
  multiple c o d =
      let y = Q.◌⊗◌ q c in
      let h : y.0.0 ⊗ (m ⊗ c.0.1) ≡ (P.one ⊗ c.0.0) ⊗ y.0.1 = H.mul_value q c P.one m c.0.0 c.0.1 q_value refl in
      let left : m ⊗ (y.0.0 ⊗ c.0.1) ≡ y.0.0 ⊗ (m ⊗ c.0.1) =
      ring3 P (λ m y c. (m ⊠ (y ⊠ c), y ⊠ (m ⊠ c))) refl m y.0.0 c.0.1 in
      let right : (d.0 ⊗ m) ⊗ y.0.1 ≡ m ⊗ (d.0 ⊗ y.0.1) =
      ring3 P (λ k m y. ((k ⊠ m) ⊠ y, m ⊠ (k ⊠ y))) refl d.0 m y.0.1 in
      integral_of y d.0 c.0.1 (poly_mul_cancel_left F m (y.0.0 ⊗ c.0.1) (d.0 ⊗ y.0.1) m_ne
      (left ∙ h ∙ ap (λ t. t ⊗ y.0.1) (P.one-mul c.0.0 ∙ d.1) ∙ right)) o

  -- one factor more
  one_more : (v k w : D) (s : ℕ) → v ≡ k ⊗ m → k ≡ w ⊗ power P.ring m s → v ≡ w ⊗ power P.ring m (suc s)
  one_more v k w s e f =
      e ∙ ap (λ t. t ⊗ m) f ∙ ring3 P (λ w t m. ((w ⊠ t) ⊠ m, w ⊠ (m ⊠ t))) refl w (power P.ring m s) m

  -- v without its factors m
  split : (n : ℕ) (v : D) → length v.0 ≤ n → (v ≡ P.zero → ⊥)
      → (s : ℕ) × (w : D) × Off w × (v ≡ w ⊗ power P.ring m s)
  split zero v l n = let z = length_pos R F.zero_test v n in absurd (omega arith)
  split (suc n) v l ne = ⊎_elim
      (λ (d : Divides P m v).
      let product : d.0 ⊗ m ≡ P.zero → ⊥ = λ e. ne (d.1 ∙ e) in
      let kn : d.0 ≡ P.zero → ⊥ = left_ne_zero_of_mul P.ring d.0 m product in
      let deg = ap (λ (x : D). degree x.0) d.1 ∙ field_degree-mul F d.0 m kn m_ne in
      let lv = length-degree_of_ne_zero R F.zero_test v ne in
      let lk = length-degree_of_ne_zero R F.zero_test d.0 kn in
      let pos = i.positive in
      let r = split n d.0 (omega arith) kn in
      (suc r.0, r.1, r.2, one_more v d.0 r.1 r.0 d.1 r.3))
      (λ (o : Off v). (zero, v, o, sym (P.mul-one v)))
      (divides_or F m v m_ne)

  pub power_value : (s : ℕ) → Is (power Q.ring p s) (power P.ring m s) P.one
  power_value zero = H.one_value
  power_value (suc s) =
      let S : D → Type 0 = λ t. Is (Q.◌⊗◌ p (power Q.ring p s)) (m ⊗ power P.ring m s) t in
      subst S (P.one-mul P.one)
      (H.mul_value p (power Q.ring p s) m P.one (power P.ring m s) P.one p_value (power_value s))

  reach : (c : Rational F) → (s : ℕ) × IsTrue (integral (Q.◌⊗◌ (power Q.ring p s) c))
  reach c = (
    r.0,
    integral_of y c.0.0 w
        (poly_mul_cancel_left F t (y.0.0 ⊗ w) (c.0.0 ⊗ y.0.1) t_ne (left ∙ h ∙ right)) r.2,
  )
    where
      r : (s : ℕ) × (w : D) × Off w × (c.0.1 ≡ w ⊗ power P.ring m s)
      r = split (length c.0.1.0) c.0.1 (omega arith) (low F Q H c)

      w : D
      w = r.1

      t : D
      t = power P.ring m r.0

      y : Rational F
      y = Q.◌⊗◌ (power Q.ring p r.0) c

      t_ne : t ≡ P.zero → ⊥
      t_ne = right_ne_zero_of_mul P.ring w t (λ e. low F Q H c (r.3 ∙ e))

      h : y.0.0 ⊗ (P.one ⊗ c.0.1) ≡ (t ⊗ c.0.0) ⊗ y.0.1
      h = H.mul_value (power Q.ring p r.0) c t P.one c.0.0 c.0.1 (power_value r.0) refl

      left : t ⊗ (y.0.0 ⊗ w) ≡ y.0.0 ⊗ (P.one ⊗ c.0.1)
      left = ring3 P (λ t y w. (t ⊠ (y ⊠ w), y ⊠ (w ⊠ t))) refl t y.0.0 w
          ∙ ap (λ z. y.0.0 ⊗ z) (sym r.3 ∙ sym (P.one-mul c.0.1))

      right : (t ⊗ c.0.0) ⊗ y.0.1 ≡ t ⊗ (c.0.0 ⊗ y.0.1)
      right = P.mul_assoc t c.0.0 y.0.1

  pub uniformizer : UniformizerOn Q place p q
  unfolding place
  uniformizer = record {
    p_in = integral_of p m P.one p_value off_one;
    pq = mul-inv Q p p_ne;
    multiple_or_unit = λ c h. ⊎_elim
        (λ (d : Divides P m c.0.0). inl (multiple c (in_off c h) d))
        (λ (o : Off c.0.0). inr (unit_of c o))
        (divides_or F m c.0.0 m_ne);
    reach = reach;
  }

  -- 1/m isn't integral
  pub strict : IsTrue (place.integral q) → ⊥
  unfolding place
  strict h = in_off q h (let e = q_value in (q.0.0, sym (P.one-mul q.0.1) ∙ sym e))
