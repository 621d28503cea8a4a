-- Fractions of polynomials by their numerators and denominators.
use Rattle.std.specs.Prelude.{◌≡◌, ◌≢◌}
use Rattle.std.proofs.Common.{refl, sym, ◌∙◌, ap, subst}
use Rattle.theory_rings.specs.Ring.{FieldOn, CommRingOn}
use Rattle.theory_rings.specs.Polynomial.{Poly}
use Rattle.theory_rings.specs.Fraction.{IsFractionField, IsLowest, IsValue}
use Rattle.theory_rings.proofs.Rings.RingLaws.{zero-mul}
use Rattle.theory_rings.proofs.Rings.Fields.{mul-inv, inv-ne-zero, mul_left_cancel}
use Rattle.theory_rings.proofs.Polynomials.Bezout.{field_polynomials, poly_mul_cancel_left}
use Rattle.theory_rings.proofs.Fractions.Fractions.{Fraction-path, denominator-ne-zero}
use Rattle.theory_rings.proofs.Fractions.Lowest.{polynomial_reduction}
use Rattle.theory_lattices.specs.RationalFunctions.{Rational}

-- the inverse of the inverse
pub inv_inv : {K : Type 0} (F : FieldOn K) (a : K) → a ≢ F.zero → F.inv (F.inv a) ≡ a
inv_inv F a h = mul_left_cancel F (F.inv a) (F.inv (F.inv a)) a (inv-ne-zero F a h)
    (mul-inv F (F.inv a) (inv-ne-zero F a h) ∙ sym (F.inv-mul a h))

module _ {k : Type 0} (F : FieldOn k) (Q : FieldOn (Rational F))
    (H : IsFractionField (field_polynomials F) (IsLowest F.cring (field_polynomials F)) Q) where
  infixl 70 ◌⊗◌
  abbrev P : CommRingOn (Poly F.cring)
  P = field_polynomials F

  open P use {◌⊗◌}

  abbrev Is : Rational F → Poly F.cring → Poly F.cring → Type 0
  Is = IsValue P (IsLowest F.cring P)

  pub low : (x : Rational F) → x.0.1 ≡ P.zero → ⊥
  low x = denominator-ne-zero P (IsLowest F.cring P) (polynomial_reduction F) x

  pub one_path : Q.one.0.0 ≡ Q.one.0.1
  one_path = sym (P.mul-one Q.one.0.0) ∙ H.one_value ∙ P.one-mul Q.one.0.1

  pub inv_value : (x : Rational F) (u v : Poly F.cring) → Is x u v → (x ≡ Q.zero → ⊥) → Is (Q.inv x) v u
  inv_value x u v h n =
      let y = Q.inv x in
      let S : Rational F → Type 0 = λ z. z.0.0 ⊗ (y.0.1 ⊗ v) ≡ (y.0.0 ⊗ u) ⊗ z.0.1 in
      let e : Q.one.0.0 ⊗ (y.0.1 ⊗ v) ≡ (y.0.0 ⊗ u) ⊗ Q.one.0.1 =
      subst S (Q.inv-mul x n) (H.mul_value y x y.0.0 y.0.1 u v refl h) in
      let g : Q.one.0.1 ⊗ (y.0.1 ⊗ v) ≡ Q.one.0.1 ⊗ (y.0.0 ⊗ u) =
      ap (λ t. t ⊗ (y.0.1 ⊗ v)) (sym one_path) ∙ e ∙ P.mul_comm (y.0.0 ⊗ u) Q.one.0.1 in
      sym (poly_mul_cancel_left F Q.one.0.1 (y.0.1 ⊗ v) (y.0.0 ⊗ u) (low Q.one) g) ∙ P.mul_comm y.0.1 v

  pub zero_num : Q.zero.0.0 ≡ P.zero
  zero_num = sym (P.mul-one Q.zero.0.0) ∙ H.zero_value ∙ zero-mul P.ring Q.zero.0.1

  pub zero_of_num : (x : Rational F) → x.0.0 ≡ P.zero → x ≡ Q.zero
  zero_of_num x e = Fraction-path P (IsLowest F.cring P) (polynomial_reduction F) x Q.zero
      (ap (λ t. t ⊗ Q.zero.0.1) e ∙ zero-mul P.ring Q.zero.0.1
      ∙ sym (ap (λ t. t ⊗ x.0.1) zero_num ∙ zero-mul P.ring x.0.1))
