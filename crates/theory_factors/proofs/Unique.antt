-- A factorisation into monic irreducible polynomials in a given order is the only one.
use Rattle.std.specs.Prelude.{◌≡◌, ◌≢◌, ℕ, zero, suc, ◌+◌, ◌-◌, ◌<◌, ◌≤◌, true, [], ◌∷◌, ◌⊎◌}
use Rattle.std.proofs.Common.{refl, sym, ◌∙◌, ap, ap₂, subst, arith, inl, inr, ⊎_elim}
use Rattle.std.proofs.lemmas.Bool.{cases_lt}
use Rattle.theory_rings.specs.Ring.{FieldOn, CommRingOn}
use Rattle.theory_rings.specs.Power.{power}
use Rattle.theory_rings.specs.Polynomial.{Poly, IsMonic}
use Rattle.theory_rings.specs.Division.{Divides, IsIrreducible}
use Rattle.theory_rings.proofs.Powers.Powers.{power-add}
use Rattle.theory_rings.proofs.Polynomials.Uniqueness.{for_polynomials}
use Rattle.theory_rings.proofs.Fractions.Lowest.{monic_eq_of_divides}
use Rattle.theory_rings.proofs.Polynomials.Bezout.{field_polynomials, degree_of_divides_one, poly_mul-ne-zero}
use Rattle.theory_rings.proofs.Polynomials.Bezout.{poly_mul_cancel_left, poly_one-ne-zero}
use Rattle.theory_rings.proofs.Polynomials.Irreducible.{divides_or, irreducible-ne-zero, irreducible_coprime}
use Rattle.theory_rings.proofs.Polynomials.Irreducible.{irreducible_prime}
use Rattle.theory_factors.specs.Factorisation.{Factors, product_of, PrecedesAll, IsFactor, IsFactorisation}
use Rattle.theory_factors.specs.Factorisation.{FactorisationIsUnique}
use Rattle.theory_rings.proofs.Polynomials.Monic.{divides_self}

module _ {K : Type 0} (F : FieldOn K) where
  abbrev R : CommRingOn K
  R = F.cring

  abbrev P : CommRingOn (Poly F.cring)
  P = field_polynomials F

  -- an irreducible polynomial does not divide 1
  pub not_divides_one : (g : Poly R) → IsIrreducible R P g → Divides P g P.one → ⊥
  not_divides_one g i d = omega (arith, degree_of_divides_one F g d, i.positive)

  -- one that divides a power divides what it is a power of
  pub divides_of_power : (g f : Poly R) → IsIrreducible R P g → (n : ℕ) → Divides P g (power P.ring f n) → Divides P g f
  divides_of_power g f i zero d = absurd (not_divides_one g i d)
  divides_of_power g f i (suc n) d = ⊎_elim
      (λ (h : Divides P g f). h)
      (λ (h : Divides P g (power P.ring f n)). divides_of_power g f i n h)
      (irreducible_prime F g i f (power P.ring f n) d)

  -- monic irreducible polynomials one of which divides the other are one
  pub same_of_divides : (g f : Poly R) → IsMonic R g → IsMonic R f → IsIrreducible R P g → IsIrreducible R P f
      → Divides P g f → g ≡ f
  same_of_divides g f mg mf ig jf d = ⊎_elim
      (λ (e : Divides P f g). monic_eq_of_divides F g f mg mf d e)
      (λ (e : Divides P f g → ⊥). absurd
      (omega (arith, irreducible_coprime F f jf g e g (divides_self F g) d, ig.positive)))
      (divides_or F f g (irreducible-ne-zero F f jf))

  power-ne-zero : (g : Poly R) → g ≢ P.zero → (n : ℕ) → power P.ring g n ≢ P.zero
  power-ne-zero g h zero = poly_one-ne-zero F
  power-ne-zero g h (suc n) = poly_mul-ne-zero F g (power P.ring g n) h (power-ne-zero g h n)

  module _ (Less : Poly R → Poly R → Type 0) (asym : (a b : Poly R) → Less a b → Less b a → ⊥) where
    -- what divides the product and comes before each factor is none
    outside : (g : Poly R) → IsMonic R g → IsIrreducible R P g → (a : Poly R) (fs : Factors R)
        → IsFactorisation R P Less fs
        → PrecedesAll R Less a fs → Divides P g (product_of R P fs) → Less a g
    outside g mg ig a [] t b d = absurd (not_divides_one g ig d)
    outside g mg ig a (f ∷ fs) t b d =
        let p : IsFactor R P f = t.0 in
        ⊎_elim
        (λ (h : Divides P g (power P.ring f.0 f.1)).
        subst (λ x. Less a x)
        (sym (same_of_divides g f.0 mg p.monic ig p.irreducible (divides_of_power g f.0 ig f.1 h))) b.0)
        (λ (h : Divides P g (product_of R P fs)). outside g mg ig a fs t.2 b.1 h)
        (irreducible_prime F g ig (power P.ring f.0 f.1) (product_of R P fs) d)

    -- what divides the product is the first factor, or comes after it
    first_or : (g : Poly R) → IsMonic R g → IsIrreducible R P g → (f : Poly R × ℕ) (fs : Factors R)
        → IsFactorisation R P Less (f ∷ fs)
        → Divides P g (product_of R P (f ∷ fs)) → (g ≡ f.0) ⊎ Less f.0 g
    first_or g mg ig f fs t d =
        let p : IsFactor R P f = t.0 in
        ⊎_elim
        (λ (h : Divides P g (power P.ring f.0 f.1)). inl
        (same_of_divides g f.0 mg p.monic ig p.irreducible (divides_of_power g f.0 ig f.1 h)))
        (λ (h : Divides P g (product_of R P fs)). inr (outside g mg ig f.0 fs t.2 t.1 h))
        (irreducible_prime F g ig (power P.ring f.0 f.1) (product_of R P fs) d)

    -- the first factor divides the product
    head_divides : (f : Poly R × ℕ) (fs : Factors R) → 1 ≤ f.1 → Divides P f.0 (product_of R P (f ∷ fs))
    head_divides f fs l =
        let m : ℕ = f.1 - 1 in
        let e : f.1 ≡ suc m = omega arith in (
          P.◌⊗◌ (power P.ring f.0 m) (product_of R P fs),
          ap (λ k. P.◌⊗◌ (power P.ring f.0 k) (product_of R P fs)) e
              ∙ P.mul_assoc f.0 (power P.ring f.0 m) (product_of R P fs)
              ∙ P.mul_comm f.0 (P.◌⊗◌ (power P.ring f.0 m) (product_of R P fs)),
        )

    -- the exponent of the first factor is not the smaller
    no_less : (f : Poly R × ℕ) (fs : Factors R) (k : ℕ) (y : Poly R) → IsFactorisation R P Less (f ∷ fs) → f.1 < k
        → P.◌⊗◌ (power P.ring f.0 f.1) (product_of R P fs) ≡ P.◌⊗◌ (power P.ring f.0 k) y → ⊥
    no_less f fs k y t l e =
        let p : IsFactor R P f = t.0 in
        let n = irreducible-ne-zero F f.0 p.irreducible in
        let m : ℕ = k - suc f.1 in
        let s : k ≡ f.1 + suc m = omega arith in
        let split : P.◌⊗◌ (power P.ring f.0 k) y ≡ P.◌⊗◌ (power P.ring f.0 f.1) (P.◌⊗◌ (power P.ring f.0 (suc m)) y) =
        ap (λ j. P.◌⊗◌ (power P.ring f.0 j) y) s ∙ ap (λ x. P.◌⊗◌ x y) (power-add P.ring f.0 f.1 (suc m))
        ∙ P.mul_assoc (power P.ring f.0 f.1) (power P.ring f.0 (suc m)) y in
        let rest = poly_mul_cancel_left F (power P.ring f.0 f.1) (product_of R P fs)
        (P.◌⊗◌ (power P.ring f.0 (suc m)) y)
        (power-ne-zero f.0 n f.1) (e ∙ split) in
        let d : Divides P f.0 (product_of R P fs) = (
          P.◌⊗◌ (power P.ring f.0 m) y,
          rest ∙ P.mul_assoc f.0 (power P.ring f.0 m) y ∙ P.mul_comm f.0 (P.◌⊗◌ (power P.ring f.0 m) y),
        ) in
        let own = outside f.0 p.monic p.irreducible f.0 fs t.2 t.1 d in
        asym f.0 f.0 own own

    same_exponent : (f g : Poly R × ℕ) (fs gs : Factors R) → IsFactorisation R P Less (f ∷ fs)
        → IsFactorisation R P Less (g ∷ gs)
        → f.0 ≡ g.0 → product_of R P (f ∷ fs) ≡ product_of R P (g ∷ gs) → f.1 ≡ g.1
    same_exponent f g fs gs t u h e = ⊎_elim
        (λ (l : f.1 < g.1). absurd (no_less f fs g.1 (product_of R P gs) t l
        (e ∙ ap (λ x. P.◌⊗◌ (power P.ring x g.1) (product_of R P gs)) (sym h))))
        (λ (l : g.1 ≤ f.1). ⊎_elim
        (λ (k : g.1 < f.1). absurd (no_less g gs f.1 (product_of R P fs) u k
        (sym e ∙ ap (λ x. P.◌⊗◌ (power P.ring x f.1) (product_of R P fs)) h)))
        (λ (k : f.1 ≤ g.1). omega arith)
        (cases_lt g.1 f.1))
        (cases_lt f.1 g.1)

    same_base : (f g : Poly R × ℕ) (fs gs : Factors R) → IsFactorisation R P Less (f ∷ fs)
        → IsFactorisation R P Less (g ∷ gs)
        → product_of R P (f ∷ fs) ≡ product_of R P (g ∷ gs) → f.0 ≡ g.0
    same_base f g fs gs t u e =
        let p : IsFactor R P f = t.0 in
        let q : IsFactor R P g = u.0 in
        ⊎_elim
        (λ (h : f.0 ≡ g.0). h)
        (λ (h : Less g.0 f.0). ⊎_elim
        (λ (k : g.0 ≡ f.0). sym k)
        (λ (k : Less f.0 g.0). absurd (asym f.0 g.0 k h))
        (first_or g.0 q.monic q.irreducible f fs t
        (subst (λ x. Divides P g.0 x) (sym e) (head_divides g gs q.exponent))))
        (first_or f.0 p.monic p.irreducible g gs u (subst (λ x. Divides P f.0 x) e (head_divides f fs p.exponent)))

    pub unique : (xs ys : Factors R) → IsFactorisation R P Less xs → IsFactorisation R P Less ys
        → product_of R P xs ≡ product_of R P ys → xs ≡ ys
    unique [] [] t u e = refl
    unique [] (g ∷ gs) t u e =
        let q : IsFactor R P g = u.0 in
        absurd (not_divides_one g.0 q.irreducible (subst (λ x. Divides P g.0 x) (sym e) (head_divides g gs q.exponent)))
    unique (f ∷ fs) [] t u e =
        let p : IsFactor R P f = t.0 in
        absurd (not_divides_one f.0 p.irreducible (subst (λ x. Divides P f.0 x) e (head_divides f fs p.exponent)))
    unique (f ∷ fs) (g ∷ gs) t u e =
        let p : IsFactor R P f = t.0 in
        let b = same_base f g fs gs t u e in
        let k = same_exponent f g fs gs t u b e in
        let power_same : power P.ring g.0 g.1 ≡ power P.ring f.0 f.1 = ap₂ (power P.ring) (sym b) (sym k) in
        let rest = poly_mul_cancel_left F (power P.ring f.0 f.1) (product_of R P fs) (product_of R P gs)
        (power-ne-zero f.0 (irreducible-ne-zero F f.0 p.irreducible) f.1)
        (e ∙ ap (λ x. P.◌⊗◌ x (product_of R P gs)) power_same) in
        ap₂ (λ x y. x ∷ y) (ap₂ (λ x y. (x, y)) b k) (unique fs gs t.2 u.2 rest)

  pub factorisation_is_unique : FactorisationIsUnique F
  factorisation_is_unique = for_polynomials R F.zero_test _
      (λ less asym xs ys t u e. unique (λ a b. less a b ≡ true) asym xs ys t u e)
