-- Irreducible polynomials over a field: one that divides a product divides a factor, and the remainders by a monic one
-- are a field.
use Rattle.std.specs.Prelude.{◌≡◌, ◌≢◌, ◌+◌, ◌<◌, ◌≤◌, ◌⊎◌}
use Rattle.std.proofs.Common.{refl, sym, ◌∙◌, ap, arith, inl, inr, ⊎_elim}
use Rattle.std.proofs.lemmas.Bool.{cases_lt}
use Rattle.theory_rings.specs.Ring.{FieldOn, CommRingOn}
use Rattle.theory_rings.specs.Polynomial.{Poly, lead, degree, IsMonic}
use Rattle.theory_rings.specs.Division.{Divides, Congruent, IsDivision, IsGcd, IsCoprime, IsIrreducible}
use Rattle.theory_rings.specs.Remainder.{Remainder}
use Rattle.theory_rings.proofs.Rings.RingLaws.{mul-zero, add-zero, left_ne_zero_of_mul, right_ne_zero_of_mul}
use Rattle.theory_rings.proofs.Rings.Solver.{◌⊞◌, ◌⊠◌, minus, ring3, ring4, ring5}
use Rattle.theory_rings.proofs.Polynomials.PolynomialRing.{constant}
use Rattle.theory_rings.proofs.Polynomials.Degrees.{degree_le_length, poly_eq_zero_or, lead-ne-zero, length_pos}
use Rattle.theory_rings.proofs.Polynomials.Degrees.{length-degree_of_ne_zero, ne_zero_of_length}
use Rattle.theory_rings.proofs.Polynomials.Division.{divide}
use Rattle.theory_rings.proofs.Rings.Congruences.{congruent_of_eq}
use Rattle.theory_rings.proofs.Polynomials.Remainders.{remainders, remainder, remainder_hom, remainder-small}
use Rattle.theory_rings.proofs.Polynomials.Remainders.{remainder_eq, Remainder-path, remainders-zero_poly}
use Rattle.theory_rings.proofs.Polynomials.Remainders.{remainders-one_poly, is_zero_remainder, zero_remainder_test}
use Rattle.theory_rings.proofs.Rings.Fields.{mul-inv}
use Rattle.theory_rings.proofs.Polynomials.Bezout.{field_polynomials, field_degree-mul, degree_zero_inverse, gcd}
use Rattle.theory_rings.proofs.Polynomials.Bezout.{combination_one, coprime_comm, divides_of_coprime, poly_one-ne-zero}

module _ {K : Type 0} (F : FieldOn K) where
  abbrev R : CommRingOn K
  R = F.cring

  abbrev P : CommRingOn (Poly F.cring)
  P = field_polynomials F

  -- a multiple that is not 0 is of no smaller degree
  pub degree_le_of_divides : (m a : Poly R) → Divides P m a → a ≢ P.zero → degree m.0 ≤ degree a.0
  degree_le_of_divides m a d h =
      let n : P.◌⊗◌ d.0 m ≢ P.zero = λ e. h (d.1 ∙ e) in
      omega (
        arith,
        field_degree-mul F d.0 m (left_ne_zero_of_mul P.ring d.0 m n)
            (right_ne_zero_of_mul P.ring d.0 m n),
        ap (λ x. degree x.0) d.1,
      )

  -- divisibility is decided by the remainder
  pub divides_or : (m a : Poly R) → m ≢ P.zero → Divides P m a ⊎ (Divides P m a → ⊥)
  divides_or m a h = go (poly_eq_zero_or R F.zero_test r)
    where
      d : (q : Poly R) × (r : Poly R) × IsDivision R P a m q r
      d = divide R F.zero_test m (F.inv (lead R m)) (mul-inv F (lead R m) (lead-ne-zero R F.zero_test m h))
          (length_pos R F.zero_test m h) a

      q : Poly R
      q = d.0

      r : Poly R
      r = d.1

      e : IsDivision R P a m q r
      e = d.2

      go : (r ≡ P.zero) ⊎ (r ≢ P.zero) → Divides P m a ⊎ (Divides P m a → ⊥)
      go (inl z) = inl (q, e.whole ∙ ap (P.◌⊕◌ (P.◌⊗◌ q m)) z ∙ add-zero P.monoid (P.◌⊗◌ q m))
      go (inr n) = inr (λ c.
          let rest : r ≡ P.◌⊗◌ (P.◌⊕◌ c.0 (P.neg q)) m =
          ring3 P (λ r q m. (r, (q ⊠ m ⊞ r) ⊞ minus (q ⊠ m))) refl r q m
          ∙ ap (λ x. P.◌⊕◌ x (P.neg (P.◌⊗◌ q m))) (sym e.whole ∙ c.1)
          ∙ ring3 P (λ c q m. (c ⊠ m ⊞ minus (q ⊠ m), (c ⊞ minus q) ⊠ m)) refl c.0 q m in
          omega (
            arith,
            degree_le_of_divides m r (P.◌⊕◌ c.0 (P.neg q), rest) n,
            length-degree_of_ne_zero R F.zero_test r n,
            length-degree_of_ne_zero R F.zero_test m h,
            e.smaller,
          ))

  module _ (m : Poly R) (i : IsIrreducible R P m) where
    pub irreducible-ne-zero : m ≢ P.zero
    irreducible-ne-zero = ne_zero_of_length R F.zero_test m (omega (arith, i.positive, degree_le_length R m))

    -- what it does not divide is coprime to it
    pub irreducible_coprime : (a : Poly R) → (Divides P m a → ⊥) → IsCoprime R P a m
    irreducible_coprime a n g da dm = go (cases_lt 0 (degree g.0))
      where
        product_ne_zero : P.◌⊗◌ dm.0 g ≢ P.zero
        product_ne_zero e = irreducible-ne-zero (dm.1 ∙ e)

        c_ne_zero : dm.0 ≢ P.zero
        c_ne_zero = left_ne_zero_of_mul P.ring dm.0 g product_ne_zero

        sum : degree m.0 ≡ degree dm.0.0 + degree g.0
        sum = ap (λ x. degree x.0) dm.1
            ∙ field_degree-mul F dm.0 g c_ne_zero (right_ne_zero_of_mul P.ring dm.0 g product_ne_zero)

        -- a divisor of the same degree is a multiple
        whole : degree dm.0.0 ≡ 0 → Divides P m a
        whole z =
            let k : Poly R = constant R F.zero_test (F.inv (lead R dm.0)) in (
              P.◌⊗◌ da.0 k,
              da.1 ∙ ap (P.◌⊗◌ da.0)
                  (sym (P.one-mul g) ∙ ap (λ x. P.◌⊗◌ x g) (sym (degree_zero_inverse F dm.0 c_ne_zero z)))
                  ∙ ring4 P (λ u k c g. (u ⊠ (k ⊠ c ⊠ g), u ⊠ k ⊠ (c ⊠ g))) refl da.0 k dm.0 g
                  ∙ ap (P.◌⊗◌ (P.◌⊗◌ da.0 k)) (sym dm.1),
            )

        go : (0 < degree g.0) ⊎ (degree g.0 ≤ 0) → degree g.0 ≡ 0
        go (inr l) = omega arith
        go (inl l) = absurd (⊎_elim
            (λ s. i.no_factors dm.0 g (omega (arith, sum)) s dm.1)
            (λ s. n (whole (omega (arith, sum))))
            (cases_lt (degree g.0) (degree m.0)))

    -- it divides a product only where it divides a factor
    pub irreducible_prime : (a b : Poly R) → Divides P m (P.◌⊗◌ a b) → Divides P m a ⊎ Divides P m b
    irreducible_prime a b d = go (divides_or m a irreducible-ne-zero)
      where
        go : Divides P m a ⊎ (Divides P m a → ⊥) → Divides P m a ⊎ Divides P m b
        go (inl y) = inl y
        go (inr n) = inr (divides_of_coprime F m a b (coprime_comm F a m (irreducible_coprime a n)) d)

  -- an inverse modulo m, where a has one
  pub inverse_mod : Poly R → Poly R → Poly R
  inverse_mod m a = let g = gcd F a m in let e = g.1 in P.◌⊗◌ (constant R F.zero_test (F.inv (lead R g.0))) e.s

  pub inverse_mod-mul : (m a : Poly R) → a ≢ P.zero → IsCoprime R P a m
      → Congruent P m (P.◌⊗◌ (inverse_mod m a) a) P.one
  unfolding inverse_mod
  inverse_mod-mul m a h c = go (gcd F a m).0 (gcd F a m).1
    where
      go : (g : Poly R) (e : IsGcd P a m g)
          → Congruent P m (P.◌⊗◌ (P.◌⊗◌ (constant R F.zero_test (F.inv (lead R g))) e.s) a) P.one
      go g e =
          let k : Poly R = constant R F.zero_test (F.inv (lead R g)) in
          let nonzero : g ≢ P.zero = λ z. h (e.left.1 ∙ ap (P.◌⊗◌ e.left.0) z ∙ mul-zero P.ring e.left.0) in (
            P.neg (P.◌⊗◌ k e.t),
            ring5 P (λ k s a t m. (k ⊠ s ⊠ a, (k ⊠ s ⊠ a ⊞ k ⊠ t ⊠ m) ⊞ minus (k ⊠ t) ⊠ m)) refl k e.s a e.t m
                ∙ ap (λ x. P.◌⊕◌ x (P.◌⊗◌ (P.neg (P.◌⊗◌ k e.t)) m))
                (combination_one F a m g e nonzero (c g e.left e.right)),
          )

  module _ (m : Poly R) (monic : IsMonic R m) (i : IsIrreducible R P m) where
    abbrev Q : CommRingOn (Remainder R m)
    Q = remainders R F.zero_test m monic

    abbrev of_poly : Poly R → Remainder R m
    of_poly = remainder R F.zero_test m monic

    pub remainder-ne-zero : (a : Remainder R m) → a ≢ Q.zero → a.0 ≢ P.zero
    remainder-ne-zero a h e =
        h (Remainder-path R F.zero_test m monic a Q.zero
        (congruent_of_eq P m a.0 Q.zero.0 (e ∙ sym (remainders-zero_poly R F.zero_test m monic))))

    pub remainder-coprime : (a : Remainder R m) → a ≢ Q.zero → IsCoprime R P a.0 m
    remainder-coprime a h =
        irreducible_coprime m i a.0 (λ d. omega (
          arith,
          degree_le_of_divides m a.0 d (remainder-ne-zero a h),
          a.1,
          length-degree_of_ne_zero R F.zero_test a.0 (remainder-ne-zero a h),
          length-degree_of_ne_zero R F.zero_test m (irreducible-ne-zero m i),
        ))

    -- the remainders by a monic irreducible polynomial are a field
    abbrev pub remainder_field : FieldOn (Remainder R m)
    remainder_field = record {
      cring = Q;
      inv = λ a. of_poly (inverse_mod m a.0);
      is_zero = is_zero_remainder R F.zero_test m monic;
      zero_test = zero_remainder_test R F.zero_test m monic;
      one-nonzero = λ e. poly_one-ne-zero F
          (sym (remainders-one_poly R F.zero_test m monic i.positive) ∙ ap (λ x. x.0) e
          ∙ remainders-zero_poly R F.zero_test m monic);
      inv-mul = λ a h.
          let H = remainder_hom R F.zero_test m monic in
          ap (Q.◌⊗◌ (of_poly (inverse_mod m a.0))) (sym (remainder-small R F.zero_test m monic a))
          ∙ sym (H.map-mul (inverse_mod m a.0) a.0)
          ∙ remainder_eq R F.zero_test m monic (P.◌⊗◌ (inverse_mod m a.0) a.0) P.one
          (inverse_mod-mul m a.0 (remainder-ne-zero a h) (remainder-coprime a h))
          ∙ H.map-one;
    }
