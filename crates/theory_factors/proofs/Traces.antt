-- Traces z + z^q + .. + z^(q^(d − 1)) modulo a part g, all of whose irreducible factors have degree d: they solve
-- z^q = z, and where there are two factors the trace of some power of the variable is no constant.
use Rattle.std.specs.Prelude.{◌≡◌, ◌≢◌, ℕ, zero, suc, ◌+◌, ◌-◌, ◌*◌, ◌^◌, ◌<◌, ◌≤◌, List, [], ◌∷◌, length}
use Rattle.std.proofs.Common.{refl, sym, ◌∙◌, ap, ap₂, subst, arith, ⊎_elim}
use Rattle.std.proofs.lemmas.Bool.{cases_lt}
use Rattle.std.proofs.Math.Nat.{pow-zero, pow-suc}
use Rattle.theory_rings.specs.Ring.{FieldOn, CommRingOn}
use Rattle.theory_rings.specs.Sum.{sum}
use Rattle.theory_rings.specs.Power.{power}
use Rattle.theory_rings.specs.Enumerated.{Enumerated}
use Rattle.theory_rings.specs.Homomorphism.{IsRingHom}
use Rattle.theory_rings.specs.Polynomial.{Poly, degree, IsMonic, IsTrimmed, IsVariable}
use Rattle.theory_rings.specs.Remainder.{Remainder}
use Rattle.theory_rings.specs.Division.{Divides, Congruent, IsIrreducible, IsCoprime}
use Rattle.theory_rings.proofs.Rings.RingLaws.{zero-mul, mul-zero}
use Rattle.theory_rings.proofs.Rings.Solver.{◌⊞◌, ◌⊠◌, minus, ring2, ring3, ring4, ring5}
use Rattle.theory_rings.proofs.Rings.Congruences.{congruent_of_eq, congruent_sym, congruent_trans, congruent-add}
use Rattle.theory_rings.proofs.Rings.Congruences.{congruent-mul}
use Rattle.theory_rings.proofs.Rings.Homomorphisms.{map-zero}
use Rattle.theory_rings.proofs.Sums.Sums.{map-sum, sum_congr, sum-add, sum_first, mul-sum}
use Rattle.theory_rings.proofs.Powers.Powers.{map-power, power-mul, power-one, power-power, power_first, power-zero}
use Rattle.theory_rings.proofs.FiniteFields.PolynomialPowers.{poly_power_size-add, poly_power_size_iterate-add}
use Rattle.theory_rings.proofs.Polynomials.PolynomialRing.{IsTrimmed-tail, Poly-path, constant, prepend-tail}
use Rattle.theory_rings.proofs.Polynomials.PolynomialRing.{coefficient-zero}
use Rattle.theory_rings.proofs.Polynomials.Degrees.{degree-constant, length-degree, poly_eq_zero_or}
use Rattle.theory_rings.proofs.Polynomials.Constants.{variable, variable_unique, prepend_eq, constant-zero}
use Rattle.theory_rings.proofs.Polynomials.Constants.{constant_hom}
use Rattle.theory_rings.proofs.Polynomials.Constants.{constant_unique}
use Rattle.theory_rings.proofs.Polynomials.Remainders.{remainder, remainder_hom, remainder_eq, remainder-small}
use Rattle.theory_rings.proofs.Polynomials.Remainders.{remainder_congruent}
use Rattle.theory_rings.proofs.Polynomials.Uniqueness.{for_polynomials}
use Rattle.theory_rings.proofs.Polynomials.Bezout.{field_polynomials, bezout}
use Rattle.theory_rings.proofs.Polynomials.Irreducible.{degree_le_of_divides, irreducible_coprime, remainder_field}
use Rattle.theory_rings.proofs.Polynomials.Monic.{divides_trans, ne_zero_of_degree, monic_of}
use Rattle.theory_rings.proofs.Polynomials.Monic.{monic_of-monic, monic_of-divides, irreducible-monic_of}
use Rattle.theory_rings.proofs.Polynomials.Monic.{degrees_of_product}
use Rattle.theory_radical.proofs.Lifts.TowerFields.{remainder_numbers, size-remainder_numbers}
use Rattle.theory_factors.specs.FactorLaws.{power_less}
use Rattle.theory_factors.specs.Parts.{IsPart, frobenius_trace, TracesSolve, TracesAreFixed}
use Rattle.theory_factors.specs.Parts.{NotAllAreConstant, SomeTraceIsNotConstant}
use Rattle.theory_factors.proofs.Factors.{irreducible_factor}
use Rattle.theory_factors.proofs.Irreducible.{divides_no_lower}
use Rattle.theory_factors.proofs.Products.{monic-ne-zero}
use Rattle.theory_factors.proofs.Powers.{two_le_size, pow_lt, power_size_iterate, all_fixed}
use Rattle.theory_factors.proofs.TraceRoots.{some_nonzero_trace}

module _ {K : Type 0} (F : FieldOn K) (E : Enumerated K) where
  abbrev R : CommRingOn K
  R = F.cring

  abbrev P : CommRingOn (Poly F.cring)
  P = field_polynomials F

  abbrev t : Poly R
  t = variable R F.zero_test

  abbrev q : ℕ
  q = E.size

  abbrev c_of : K → Poly R
  c_of c = constant R F.zero_test c

  abbrev tr : Poly R → ℕ → Poly R
  tr z n = frobenius_trace F E P z n

  abbrev Pow : Poly R → ℕ → Poly R
  Pow z i = power P.ring z (E.size ^ i)

  -- ---- additive, and linear over the field

  tr-add : (a b : Poly R) (n : ℕ) → tr (P.◌⊕◌ a b) n ≡ P.◌⊕◌ (tr a n) (tr b n)
  tr-add a b n = sum_congr P.monoid n (Pow (P.◌⊕◌ a b)) (λ i. P.◌⊕◌ (Pow a i) (Pow b i))
      (λ i _. poly_power_size_iterate-add F E i a b)
      ∙ sum-add P.monoid n (Pow a) (Pow b)

  pow-constant : (c : K) (i : ℕ) → Pow (c_of c) i ≡ c_of c
  pow-constant c i =
      let H = constant_hom R F.zero_test in
      sym (map-power F.ring P.ring (constant R F.zero_test) H.map-one H.map-mul c (E.size ^ i))
      ∙ ap (constant R F.zero_test) (power_size_iterate F E i c)

  tr-scaled : (c : K) (a : Poly R) (n : ℕ) → tr (P.◌⊗◌ (c_of c) a) n ≡ P.◌⊗◌ (c_of c) (tr a n)
  tr-scaled c a n = sum_congr P.monoid n (Pow (P.◌⊗◌ (c_of c) a)) (λ i. P.◌⊗◌ (c_of c) (Pow a i))
      (λ i _. power-mul P.ring (c_of c) a (P.mul_comm (c_of c) a) (E.size ^ i)
      ∙ ap (λ x. P.◌⊗◌ x (Pow a i)) (pow-constant c i))
      ∙ sym (mul-sum P.ring n (c_of c) (Pow a))

  -- ---- modulo g

  pub power_congruent : (g a b : Poly R) → Congruent P g a b → (n : ℕ)
      → Congruent P g (power P.ring a n) (power P.ring b n)
  power_congruent g a b s zero = congruent_of_eq P g P.one P.one refl
  power_congruent g a b s (suc n) =
      congruent-mul P g a b (power P.ring a n) (power P.ring b n) s (power_congruent g a b s n)

  pub trace_congruent : (g a b : Poly R) → Congruent P g a b → (n : ℕ) → Congruent P g (tr a n) (tr b n)
  trace_congruent g a b s zero = congruent_of_eq P g P.zero P.zero refl
  trace_congruent g a b s (suc n) =
      congruent-add P g (tr a n) (tr b n) (Pow a n) (Pow b n) (trace_congruent g a b s n)
      (power_congruent g a b s (E.size ^ n))

  -- a multiple of b
  power_divides : (b z : Poly R) → Divides P b z → (n : ℕ) → 1 ≤ n → Divides P b (power P.ring z n)
  power_divides b z d zero l = absurd (omega arith)
  power_divides b z d (suc n) l = (
    P.◌⊗◌ d.0 (power P.ring z n),
    ap (λ x. P.◌⊗◌ x (power P.ring z n)) d.1
        ∙ ring3 P (λ c b w. (c ⊠ b ⊠ w, c ⊠ w ⊠ b)) refl d.0 b (power P.ring z n),
  )

  trace_divides : (b z : Poly R) → Divides P b z → (n : ℕ) → Divides P b (tr z n)
  trace_divides b z d zero = (P.zero, sym (zero-mul P.ring b))
  trace_divides b z d (suc n) =
      let x = trace_divides b z d n in
      let y = power_divides b z d (E.size ^ n) (positive n) in (
        P.◌⊕◌ x.0 y.0,
        ap₂ P.◌⊕◌ x.1 y.1 ∙ sym (P.add-mul x.0 y.0 b),
      )
    where
      positive : (n : ℕ) → 1 ≤ E.size ^ n
      positive zero = omega (arith, pow-zero E.size)
      positive (suc n) =
          omega (arith, pow_lt E.size 0 (suc n) (two_le_size F E) (omega arith), pow-zero E.size)

  trace_nought : (n : ℕ) → tr P.zero n ≡ P.zero
  trace_nought n =
      let x = trace_divides P.zero P.zero (P.zero, sym (zero-mul P.ring P.zero)) n in x.1 ∙ mul-zero P.ring x.0

  -- ---- the trace solves z^q = z

  trace-power : (z : Poly R) (n : ℕ) → power P.ring (tr z n) E.size ≡ sum P.monoid n (λ i. Pow z (suc i))
  trace-power z zero = power-zero P.ring E.size (omega (arith, two_le_size F E))
  trace-power z (suc n) =
      poly_power_size-add F E (tr z n) (Pow z n)
      ∙ ap₂ P.◌⊕◌ (trace-power z n)
      (power-power P.ring z (E.size ^ n) E.size ∙ ap (power P.ring z) (sym (pow-suc E.size n)))

  -- tr^q + z = tr + z^(q^n)
  trace_shifted : (z : Poly R) (n : ℕ)
      → P.◌⊕◌ (power P.ring (tr z n) E.size) (Pow z 0) ≡ P.◌⊕◌ (tr z n) (Pow z n)
  trace_shifted z n = ap (λ x. P.◌⊕◌ x (Pow z 0)) (trace-power z n)
      ∙ P.add_comm (sum P.monoid n (λ i. Pow z (suc i))) (Pow z 0)
      ∙ sym (sum_first P.monoid n (Pow z))

  module _ (d : ℕ) (g : Poly R) (part : IsPart F E P t d g) where
    variable_fixed : Congruent P g (power P.ring t (E.size ^ d)) t
    variable_fixed = let v = part.divides in (
      v.0,
      ring2 P (λ x t. (x, t ⊞ (x ⊞ minus t))) refl (power P.ring t (E.size ^ d)) t ∙ ap (P.◌⊕◌ t) v.1,
    )

    pub trace_fixed : (z : Poly R) → Divides P g (power_less F P (tr z d) E.size)
    trace_fixed z =
        let c = all_fixed F E d g variable_fixed z in
        let T : Poly R = tr z d in (
          c.0,
          ring3 P (λ x z t. (x ⊞ minus t, ((x ⊞ z) ⊞ minus z) ⊞ minus t)) refl (power P.ring T E.size) z T
              ∙ ap (λ x. P.◌⊕◌ (P.◌⊕◌ x (P.neg z)) (P.neg T))
              (ap (P.◌⊕◌ (power P.ring T E.size)) (sym first) ∙ trace_shifted z d ∙ ap (P.◌⊕◌ T) c.1)
              ∙ ring4 P (λ t z c g. (((t ⊞ (z ⊞ c ⊠ g)) ⊞ minus z) ⊞ minus t, c ⊠ g)) refl T z c.0 g,
        )
      where
        first : Pow z 0 ≡ z
        first = ap (power P.ring z) (pow-zero E.size) ∙ power_first P.ring z

    -- ---- where all traces of powers of the variable are constants

    abbrev Constant : Poly R → Type 0
    Constant y = (c : K) × Congruent P g y (c_of c)

    constant-add : (a b : Poly R) → Constant a → Constant b → Constant (P.◌⊕◌ a b)
    constant-add a b x y =
        let H = constant_hom R F.zero_test in (
          F.◌⊕◌ x.0 y.0,
          subst (Congruent P g (P.◌⊕◌ a b)) (sym (H.map-add x.0 y.0))
              (congruent-add P g a (c_of x.0) b (c_of y.0) x.1 y.1),
        )

    constant-scaled : (k : K) (a : Poly R) → Constant a → Constant (P.◌⊗◌ (c_of k) a)
    constant-scaled k a x =
        let H = constant_hom R F.zero_test in (
          F.◌⊗◌ k x.0,
          subst (Congruent P g (P.◌⊗◌ (c_of k) a)) (sym (H.map-mul k x.0))
              (congruent-mul P g (c_of k) (c_of k) a (c_of x.0) (congruent_of_eq P g (c_of k) (c_of k) refl) x.1),
        )

    constant_nought : Constant P.zero
    constant_nought = (F.zero, congruent_of_eq P g P.zero (c_of F.zero) (sym (constant-zero R F.zero_test)))

    module _ (one : 1 ≤ d) (long : 2 * d ≤ degree g.0)
        (all : (j : ℕ) → 1 ≤ j → j < degree g.0 → Constant (tr (power P.ring t j) d)) where
      each : (j : ℕ) → j < degree g.0 → Constant (tr (power P.ring t j) d)
      each zero l = ones d
        where
          ones : (n : ℕ) → Constant (tr P.one n)
          ones zero = constant_nought
          ones (suc n) =
              let H = constant_hom R F.zero_test in
              constant-add (tr P.one n) (Pow P.one n) (ones n)
              (F.one, congruent_of_eq P g (Pow P.one n) (c_of F.one) (power-one P.ring (E.size ^ n) ∙ sym H.map-one))
      each (suc j) l = all (suc j) (omega arith) l

      shifted : (xs : List K) (tr' : IsTrimmed R.zero xs) (j : ℕ) → j + length xs ≤ degree g.0
          → Constant (tr (P.◌⊗◌ (power P.ring t j) (xs, tr')) d)
      shifted [] tr' j l =
          let z : P.zero ≡ ([], tr') = Poly-path R P.zero ([], tr') (λ k. coefficient-zero R F.zero_test k) in
          subst (λ b. Constant (tr b d))
          (sym (mul-zero P.ring (power P.ring t j)) ∙ ap (P.◌⊗◌ (power P.ring t j)) z) none
        where
          none : Constant (tr P.zero d)
          none = subst Constant (sym (trace_nought d)) constant_nought
      shifted (c ∷ xs) tr' j l =
          let b : Poly R = (xs, IsTrimmed-tail R.zero c xs tr') in
          let p : Poly R = power P.ring t j in
          subst (λ y. Constant (tr y d))
          (ring4 P (λ k p t b. (k ⊠ p ⊞ t ⊠ p ⊠ b, p ⊠ (k ⊞ t ⊠ b))) refl (c_of c) p t b
          ∙ ap (P.◌⊗◌ p) (sym (prepend_eq R F.zero_test c b) ∙ prepend-tail R F.zero_test c xs tr'))
          (subst Constant (sym (tr-add (P.◌⊗◌ (c_of c) p) (P.◌⊗◌ (P.◌⊗◌ t p) b) d))
          (constant-add (tr (P.◌⊗◌ (c_of c) p) d) (tr (P.◌⊗◌ (P.◌⊗◌ t p) b) d)
          (subst Constant (sym (tr-scaled c p d)) (constant-scaled c (tr p d) (each j (omega arith))))
          (shifted xs (IsTrimmed-tail R.zero c xs tr') (suc j) (omega arith))))

      all_constant : (z : Poly R) → Constant (tr z d)
      all_constant z =
          let r : Remainder R g = remainder R F.zero_test g part.monic z in
          let c = subst (λ y. Constant (tr y d)) (P.one-mul r.0) (shifted r.0.0 r.0.1 0
          (omega (arith, r.1, length-degree R g (let m = part.monic in m.nonzero)))) in (
            c.0,
            congruent_trans P g (tr z d) (tr r.0 d) (c_of c.0)
                (trace_congruent g z r.0 (congruent_sym P g r.0 z (remainder_congruent R F.zero_test g part.monic z)) d)
                c.1,
          )

      -- an irreducible factor p, g = b · p
      module _ (p : Poly R) (monic : IsMonic R p) (i : IsIrreducible R P p) (w : Divides P p g) where
        abbrev b : Poly R
        b = w.0

        g-ne-zero : g ≢ P.zero
        g-ne-zero = monic-ne-zero F g part.monic

        degrees : degree g.0 ≡ degree b.0 + degree p.0
        degrees = degrees_of_product F g b p g-ne-zero w.1

        degree_p : degree p.0 ≡ d
        degree_p = let s = i.positive in let l = part.divisors p s w in ⊎_elim
            (λ (k : d < degree p.0). absurd (divides_no_lower F E p monic i d one k
            (divides_trans F p g (power_less F P t (E.size ^ d)) w part.divides)))
            (λ (k : degree p.0 ≤ d). let e : degree p.0 ≡ d = omega arith in e)
            (cases_lt d (degree p.0))

        b-positive : 1 ≤ degree b.0
        b-positive = omega (arith, degrees, degree_p, long, one)

        b-ne-zero : b ≢ P.zero
        b-ne-zero = ne_zero_of_degree F b b-positive

        b_divides : Divides P b g
        b_divides = (p, w.1 ∙ P.mul_comm b p)

        -- p does not divide b: else g divides b · b, and so b
        not_twice : Divides P p b → ⊥
        not_twice v =
            let low = degree_le_of_divides F g b whole b-ne-zero in
            omega (arith, low, degrees, degree_p, one)
          where
            square : Divides P g (P.◌⊗◌ b b)
            square = (
              v.0,
              ap (P.◌⊗◌ b) v.1 ∙ ring3 P (λ b e p. (b ⊠ (e ⊠ p), e ⊠ (b ⊠ p))) refl b v.0 p
                  ∙ ap (P.◌⊗◌ v.0) (sym w.1),
            )

            large : 2 ≤ E.size ^ d
            large = omega (arith, pow_lt E.size 0 d (two_le_size F E) one, pow-zero E.size)

            whole : Divides P g b
            whole =
                let c = all_fixed F E d g variable_fixed b in
                let n : ℕ = E.size ^ d - 2 in
                let e : E.size ^ d ≡ suc (suc n) = omega (arith, large) in
                let y : power P.ring b (E.size ^ d) ≡ P.◌⊗◌ (P.◌⊗◌ v.0 (power P.ring b n)) g =
                ap (power P.ring b) e ∙ sym (P.mul_assoc b b (power P.ring b n))
                ∙ ap (λ x. P.◌⊗◌ x (power P.ring b n)) square.1
                ∙ ring3 P (λ v g w. (v ⊠ g ⊠ w, v ⊠ w ⊠ g)) refl v.0 g (power P.ring b n) in (
                  P.◌⊕◌ (P.◌⊗◌ v.0 (power P.ring b n)) (P.neg c.0),
                  ring3 P (λ b c g. (b, (b ⊞ c ⊠ g) ⊞ minus (c ⊠ g))) refl b c.0 g
                      ∙ ap (λ x. P.◌⊕◌ x (P.neg (P.◌⊗◌ c.0 g))) (sym c.1 ∙ y)
                      ∙ ring3 P (λ u c g. (u ⊠ g ⊞ minus (c ⊠ g), (u ⊞ minus c) ⊠ g)) refl
                      (P.◌⊗◌ v.0 (power P.ring b n)) c.0 g,
                )

        coprime : IsCoprime R P b p
        coprime = irreducible_coprime F p i b not_twice

        u : (s : Poly R) × (r : Poly R) × (P.◌⊕◌ (P.◌⊗◌ s b) (P.◌⊗◌ r p) ≡ P.one)
        u = bezout F b p coprime

        -- p divides each trace
        each_divides : (a : Poly R) → Divides P p (tr a d)
        each_divides a =
            let k = trace_congruent p a z lift d in (
              P.◌⊕◌ (P.◌⊗◌ whole.0 b) k.0,
              k.1 ∙ ap (λ x. P.◌⊕◌ x (P.◌⊗◌ k.0 p)) (whole.1 ∙ ap (P.◌⊗◌ whole.0) w.1)
                  ∙ ring4 P (λ y b p k. (y ⊠ (b ⊠ p) ⊞ k ⊠ p, (y ⊠ b ⊞ k) ⊠ p)) refl whole.0 b p k.0,
            )
          where
            z : Poly R
            z = P.◌⊗◌ (P.◌⊗◌ a u.0) b

            lift : Congruent P p a z
            lift = (
              P.◌⊗◌ a u.1,
              sym (P.mul-one a) ∙ ap (P.◌⊗◌ a) (sym u.2)
                  ∙ ring5 P (λ a s b r p. (a ⊠ (s ⊠ b ⊞ r ⊠ p), a ⊠ s ⊠ b ⊞ a ⊠ r ⊠ p)) refl a u.0 b u.1 p,
            )

            c : Constant (tr z d)
            c = all_constant z

            v : Divides P b (tr z d)
            v = trace_divides b z (P.◌⊗◌ a u.0, refl) d

            -- b divides the constant, which is 0
            on_constant : Divides P b (c_of c.0)
            on_constant = (
              P.◌⊕◌ v.0 (P.neg (P.◌⊗◌ c.1.0 p)),
              ring3 P (λ k c g. (k, (k ⊞ c ⊠ g) ⊞ minus (c ⊠ g))) refl (c_of c.0) c.1.0 g
                  ∙ ap₂ (λ x y. P.◌⊕◌ x (P.neg (P.◌⊗◌ c.1.0 y))) (sym c.1.1 ∙ v.1) w.1
                  ∙ ring4 P (λ v b c p. (v ⊠ b ⊞ minus (c ⊠ (b ⊠ p)), (v ⊞ minus (c ⊠ p)) ⊠ b)) refl v.0 b c.1.0 p,
            )

            nought : c_of c.0 ≡ P.zero
            nought = ⊎_elim
                (λ (e : c_of c.0 ≡ P.zero). e)
                (λ (n : c_of c.0 ≢ P.zero).
                absurd (omega (
                  arith,
                  degree_le_of_divides F b (c_of c.0) on_constant n,
                  b-positive,
                  degree-constant R F.zero_test c.0,
                )))
                (poly_eq_zero_or R F.zero_test (c_of c.0))

            whole : Divides P g (tr z d)
            whole = (
              c.1.0,
              c.1.1 ∙ ap (λ x. P.◌⊕◌ x (P.◌⊗◌ c.1.0 g)) nought ∙ P.zero-add (P.◌⊗◌ c.1.0 g),
            )

        -- but not all elements of the field modulo p are roots of the trace
        absurd_factor : ⊥
        absurd_factor =
            some_nonzero_trace Q E.size (two_le_size F E) N (d - 1) less null
          where
            Q : FieldOn (Remainder R p)
            Q = remainder_field F p monic i

            N : Enumerated (Remainder R p)
            N = remainder_numbers R F.zero_test p monic E

            of_poly : Poly R → Remainder R p
            of_poly = remainder R F.zero_test p monic

            H : IsRingHom P.ring Q.ring of_poly
            H = remainder_hom R F.zero_test p monic

            less : E.size ^ (d - 1) < N.size
            less = subst (λ n. E.size ^ (d - 1) < n)
                (ap (λ n. E.size ^ n) (sym degree_p) ∙ sym (size-remainder_numbers R F.zero_test p monic E))
                (pow_lt E.size (d - 1) d (two_le_size F E) (omega (arith, one)))

            null : (x : Remainder R p) → sum Q.monoid (suc (d - 1)) (λ i. power Q.ring x (E.size ^ i)) ≡ Q.zero
            null x =
                let e : suc (d - 1) ≡ d = omega (arith, one) in
                let a : Poly R = x.0 in
                ap (λ n. sum Q.monoid n (λ i. power Q.ring x (E.size ^ i))) e
                ∙ sum_congr Q.monoid d (λ i. power Q.ring x (E.size ^ i)) (λ i. of_poly (Pow a i))
                (λ i _. ap (λ y. power Q.ring y (E.size ^ i)) (sym (remainder-small R F.zero_test p monic x))
                ∙ sym (map-power P.ring Q.ring of_poly H.map-one H.map-mul a (E.size ^ i)))
                ∙ sym (map-sum P.monoid Q.monoid of_poly zero_image H.map-add d (Pow a))
                ∙ remainder_eq R F.zero_test p monic (tr a d) P.zero (congruent_nought (each_divides a))
                ∙ zero_image
              where
                zero_image : of_poly P.zero ≡ Q.zero
                zero_image = map-zero P.ring Q.ring of_poly H

                congruent_nought : {y : Poly R} → Divides P p y → Congruent P p y P.zero
                congruent_nought v = (v.0, v.1 ∙ sym (P.zero-add (P.◌⊗◌ v.0 p)))

      some_trace : ⊥
      some_trace =
          let positive : 1 ≤ degree g.0 = omega (arith, long, one) in
          let r = irreducible_factor F E (degree g.0) g positive (omega arith) in
          let i : IsIrreducible R P r.0 = r.1 in
          let n = ne_zero_of_degree F r.0 i.positive in
          absurd_factor (monic_of F r.0) (monic_of-monic F r.0 n) (irreducible-monic_of F r.0 n i)
          (divides_trans F (monic_of F r.0) r.0 g (monic_of-divides F r.0 n) r.2)

  pub traces_are_fixed : TracesAreFixed F E
  traces_are_fixed = for_polynomials R F.zero_test (λ P. (x : Poly R) → IsVariable R x → TracesSolve F E P x)
      (λ x h. subst (TracesSolve F E P) (sym (variable_unique R F.zero_test x h)) trace_fixed)

  pub not_all_are_constant : NotAllAreConstant F E P t
  not_all_are_constant d g part one long all = some_trace d g part one long (λ j a l.
      let r = all j a l in
      (r.0, subst (Congruent P g (tr (power P.ring t j) d)) (constant_unique R F.zero_test r.0 r.1 r.2) r.3))

  pub some_trace_is_not_constant : SomeTraceIsNotConstant F E
  some_trace_is_not_constant =
      for_polynomials R F.zero_test (λ P. (x : Poly R) → IsVariable R x → NotAllAreConstant F E P x)
      (λ x h. subst (NotAllAreConstant F E P) (sym (variable_unique R F.zero_test x h)) not_all_are_constant)
