-- The valuation of a fraction at a place: by the factors of the polynomial in numerator and denominator, or by degrees.
use Rattle.std.specs.Prelude.{◌≡◌, ◌≢◌, ℕ, zero, suc, IsTrue, ℤ, pos, ◌+ℤ◌, ◌-ℤ◌, neg_ℤ}
use Rattle.std.proofs.Common.{refl, sym, ◌∙◌, ap, subst, arith}
use Rattle.std.proofs.lemmas.Int.{ints}
use Rattle.theory_rings.specs.Ring.{FieldOn, CommRingOn}
use Rattle.theory_rings.specs.Power.{power}
use Rattle.theory_rings.specs.Polynomial.{Poly, degree}
use Rattle.theory_rings.specs.Division.{Divides, IsIrreducible}
use Rattle.theory_rings.specs.Fraction.{IsFractionField, IsLowest, IsValue}
use Rattle.theory_rings.proofs.Rings.RingLaws.{zero-mul}
use Rattle.theory_rings.proofs.Rings.Solver.{◌⊠◌, unit, ring4}
use Rattle.theory_rings.proofs.Powers.Powers.{power-mul, power-one}
use Rattle.theory_rings.proofs.Polynomials.Bezout.{field_polynomials, poly_mul-ne-zero, poly_one-ne-zero}
use Rattle.theory_rings.proofs.Polynomials.Irreducible.{irreducible-ne-zero}
use Rattle.theory_rings.proofs.Fractions.Fractions.{reduce, reduce_value, value_unique}
use Rattle.theory_rings.proofs.Fractions.Lowest.{polynomial_reduction}
use Rattle.theory_lattices.specs.Degree.{DegreeOn, HasDegree}
use Rattle.theory_lattices.specs.RationalFunctions.{Rational, of_polynomial, power_of_x}
use Rattle.theory_lattices.proofs.Degree.FractionDegrees.{rational_degree, rational_degree-is}
use Rattle.theory_lattices.proofs.Degree.Degrees.{below_of_degree, has_degree-mul}
use Rattle.theory_lattices.proofs.Degree.PowersOfDegreeOne.{has_degree-one, has_degree-inv}
use Rattle.theory_places.specs.Places.{Finite, Infinite, PlaceValuation}
use Rattle.theory_places.specs.Valuations.{HasValuation}
use Rattle.theory_places.proofs.Rationals.{low, inv_value, zero_num}
use Rattle.theory_places.proofs.FinitePlaces.{power_value}
use Rattle.theory_places.proofs.Infinity.{x_degree}
use Rattle.theory_places.proofs.PlaceValuations.{at_infinity, x_ne}

module _ {k : Type 0} (F : FieldOn k) (Q : FieldOn (Rational F))
    (H : IsFractionField (field_polynomials F) (IsLowest F.cring (field_polynomials F)) Q) where
  infixl 70 ◌⊗◌
  abbrev P : CommRingOn (Poly F.cring)
  P = field_polynomials F

  open P use {◌⊗◌}

  abbrev D : Type 0
  D = Poly F.cring

  abbrev Is : Rational F → D → D → Type 0
  Is = IsValue P (IsLowest F.cring P)

  abbrev quotient : (u v : D) → v ≢ P.zero → Rational F
  quotient u v h = reduce P (IsLowest F.cring P) (polynomial_reduction F) u v h

  quotient_value : (u v : D) (h : v ≢ P.zero) → Is (quotient u v h) u v
  quotient_value u v h = reduce_value P (IsLowest F.cring P) (polynomial_reduction F) u v h

  power_ne : (m : D) → m ≢ P.zero → (n : ℕ) → power P.ring m n ≢ P.zero
  power_ne m h zero = poly_one-ne-zero F
  power_ne m h (suc n) = poly_mul-ne-zero F m (power P.ring m n) h (power_ne m h n)

  module _ (m : D) (i : IsIrreducible F.cring P m) (V : PlaceValuation F Q (Finite m)) where
    abbrev Off : D → Type 0
    Off v = Divides P m v → ⊥

    off-ne : (v : D) → Off v → v ≢ P.zero
    off-ne v o e = o (P.zero, e ∙ sym (zero-mul P.ring m))

    m_ne : m ≢ P.zero
    m_ne = irreducible-ne-zero F m i

    abbrev p : Rational F
    p = of_polynomial F m

    -- a quotient of polynomials that m does not divide isn't 0
    quotient-ne : (u v : D) (o : Off u) (h : v ≢ P.zero) → quotient u v h ≢ Q.zero
    quotient-ne u v o h e =
        let w = quotient u v h in
        let z : w.0.0 ≡ P.zero = ap (λ (t : Rational F). t.0.0) e ∙ zero_num F Q H in
        poly_mul-ne-zero F u w.0.1 (off-ne u o) (low F Q H w)
        (sym (quotient_value u v h) ∙ ap (λ t. t ⊗ v) z ∙ zero-mul P.ring v)

    pub finite_order : (x : Rational F) (s t : ℕ) (u v : D) → Off u → Off v
        → Is x (power P.ring m s ⊗ u) (power P.ring m t ⊗ v)
        → HasValuation Q V.valuation p (pos s -ℤ pos t) x
    finite_order x s t u v ou ov e =
        let hv = off-ne v ov in
        let w = quotient u v hv in
        let wv : Is w u v = quotient_value u v hv in
        let wn : w ≢ Q.zero = quotient-ne u v ou hv in
        let a = power P.ring m t in
        let b = power P.ring m s in
        record {
          above = s;
          below = t;
          number = refl;
          unit = w;
          integral = (V.tells w).1 (u, v, wv, ov);
          is_unit = (wn, (V.tells (Q.inv w)).1 (v, u, inv_value F Q H w u v wv wn, ou));
          gives = value_unique P (IsLowest F.cring P) (polynomial_reduction F)
              (Q.◌⊗◌ (power Q.ring p t) x) (Q.◌⊗◌ (power Q.ring p s) w)
              (a ⊗ (b ⊗ u)) (P.one ⊗ (a ⊗ v)) (b ⊗ u) (P.one ⊗ v)
              (λ z. poly_mul-ne-zero F a v (power_ne m m_ne t) hv (sym (P.one-mul (a ⊗ v)) ∙ z))
              (λ z. hv (sym (P.one-mul v) ∙ z))
              (H.mul_value (power Q.ring p t) x a P.one (b ⊗ u) (a ⊗ v) (power_value F Q H m i t) e)
              (H.mul_value (power Q.ring p s) w b P.one u v (power_value F Q H m i s) wv)
              (ring4 P (λ a b u v. ((a ⊠ (b ⊠ u)) ⊠ (unit ⊠ v), (b ⊠ u) ⊠ (unit ⊠ (a ⊠ v)))) refl a b u v);
        }

  module _ (V : PlaceValuation F Q Infinite) where
    abbrev X : Rational F
    X = power_of_x F 1

    abbrev Y : Rational F
    Y = Q.inv X

    abbrev W : DegreeOn Q.ring
    W = rational_degree F Q H

    degree-is : (x : Rational F) → W.deg x ≡ pos (degree x.0.0.0) -ℤ pos (degree x.0.1.0)
    degree-is = let E = rational_degree-is F Q H in E.degree-is

    -- the degrees of the powers
    power_degrees : (e : ℤ) (a : Rational F) → HasDegree W e a → (f : ℕ → ℤ) → f zero ≡ pos 0
        → ((n : ℕ) → f (suc n) ≡ e +ℤ f n) → (n : ℕ) → HasDegree W (f n) (power Q.ring a n)
    power_degrees e a h f z s zero =
        subst (λ (d : ℤ). HasDegree W d Q.one) (sym z) (has_degree-one Q W)
    power_degrees e a h f z s (suc n) =
        subst (λ (d : ℤ). HasDegree W d (power Q.ring a (suc n))) (sym (s n))
        (has_degree-mul W e (f n) a (power Q.ring a n) h (power_degrees e a h f z s n))

    x_powers : (n : ℕ) → HasDegree W (pos n) (power Q.ring X n)
    x_powers = power_degrees (pos 1) X (x_degree F Q H) (λ n. pos n) refl (λ n. omega (arith, ints))

    y_powers : (n : ℕ) → HasDegree W (neg_ℤ (pos n)) (power Q.ring Y n)
    y_powers = power_degrees (neg_ℤ (pos 1)) Y (has_degree-inv Q W (pos 1) X (x_degree F Q H))
        (λ n. neg_ℤ (pos n)) refl (λ n. omega (arith, ints))

    y-x : (n : ℕ) (a : Rational F) → Q.◌⊗◌ (power Q.ring Y n) (Q.◌⊗◌ (power Q.ring X n) a) ≡ a
    y-x n a = sym (Q.mul_assoc (power Q.ring Y n) (power Q.ring X n) a)
        ∙ ap (λ t. Q.◌⊗◌ t a) (sym (power-mul Q.ring Y X (Q.mul_comm Y X) n)
        ∙ ap (λ t. power Q.ring t n) (Q.inv-mul X (x_ne F Q H)) ∙ power-one Q.ring n)
        ∙ Q.one-mul a

    integral_of_degree : (n : ℤ) (a : Rational F) → HasDegree W n a → n ≡ pos 0
        → IsTrue (let Z = V.valuation in Z.integral a)
    integral_of_degree n a h e =
        (V.tells a).1 ((at_infinity F Q H a).0 (below_of_degree W n (pos 1) a (omega (arith, ints)) h))

    pub infinite_order : (x : Rational F) → x ≢ Q.zero
        → HasValuation Q V.valuation Y (pos (degree x.0.1.0) -ℤ pos (degree x.0.0.0)) x
    infinite_order x h =
        let b = degree x.0.1.0 in
        let d = degree x.0.0.0 in
        let e = degree-is x in
        let c = Q.◌⊗◌ (power Q.ring Y d) x in
        let w = Q.◌⊗◌ (power Q.ring X b) c in
        let n : ℤ = pos b +ℤ (neg_ℤ (pos d) +ℤ W.deg x) in
        let g : HasDegree W n w = has_degree-mul W (pos b) (neg_ℤ (pos d) +ℤ W.deg x) (power Q.ring X b) c (x_powers b)
        (has_degree-mul W (neg_ℤ (pos d)) (W.deg x) (power Q.ring Y d) x (y_powers d)
        (record { nonzero = h; degree = refl })) in
        record {
          above = b;
          below = d;
          number = refl;
          unit = w;
          integral = integral_of_degree n w g (omega (arith, ints));
          is_unit = (
            g.nonzero,
            integral_of_degree (neg_ℤ n) (Q.inv w) (has_degree-inv Q W n w g) (omega (arith, ints)),
          );
          gives = sym (y-x b c);
        }
