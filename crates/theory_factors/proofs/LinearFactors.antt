-- The product of t − x over distinct zeros x of a polynomial divides it.
use Rattle.std.specs.Prelude.{◌≡◌, ◌≢◌, ℕ, zero, suc, ◌<◌}
use Rattle.std.proofs.Common.{refl, sym, ◌∙◌, ap, arith, ⊎_elim}
use Rattle.theory_rings.specs.Ring.{FieldOn, CommRingOn}
use Rattle.theory_rings.specs.Polynomial.{Poly, degree}
use Rattle.theory_rings.specs.Division.{Divides}
use Rattle.theory_rings.proofs.Rings.ZeroTests.{eq_of_sub_eq_zero}
use Rattle.theory_rings.proofs.Rings.Fields.{eq-zero_of_mul-eq-zero}
use Rattle.theory_rings.proofs.Rings.Solver.{◌⊠◌, ring3}
use Rattle.theory_rings.proofs.Polynomials.Bezout.{field_polynomials, field_degree-mul, poly_mul-ne-zero}
use Rattle.theory_rings.proofs.Polynomials.Bezout.{poly_one-ne-zero, degree-one}
use Rattle.theory_rings.proofs.Polynomials.Roots as roots
use Rattle.theory_rings.proofs.Polynomials.Roots.{value, degree-linear, linear-ne-zero}
use Rattle.theory_radical.specs.Ideal.{product}

module _ {K : Type 0} (F : FieldOn K) where
  abbrev R : CommRingOn K
  R = F.cring

  abbrev P : CommRingOn (Poly F.cring)
  P = field_polynomials F

  abbrev linear : K → Poly R
  linear x = roots.linear F x

  -- the product of t − x over distinct zeros x divides
  pub linear_factors : (n : ℕ) (a : Poly R) (x : ℕ → K) → ((i j : ℕ) → i < n → j < n → x i ≡ x j → i ≡ j)
      → ((i : ℕ) → i < n → value F (x i) a ≡ F.zero) → Divides P (product P.ring (λ i. linear (x i)) n) a
  linear_factors zero a x apart v = (a, sym (P.mul-one a))
  linear_factors (suc n) a x apart v =
      let y : K = x n in
      let f = roots.factor_out F a y (v n (omega arith)) in
      let q : Poly R = f.0 in
      let w : Poly R = product P.ring (λ i. linear (x i)) n in
      let r = linear_factors n q x (λ i j li lj. apart i j (omega arith) (omega arith)) (λ i li. ⊎_elim
      (λ (z : value F (x i) q ≡ F.zero). z)
      (λ (z : F.◌⊕◌ (x i) (F.neg y) ≡ F.zero).
      let same : i ≡ n = apart i n (omega arith) (omega arith) (eq_of_sub_eq_zero F.additive (x i) y z) in
      absurd (omega arith))
      (eq-zero_of_mul-eq-zero F (value F (x i) q) (F.◌⊕◌ (x i) (F.neg y))
      (sym (roots.value-product F a q y (x i) f.1) ∙ v i (omega arith)))) in
      (r.0, f.1 ∙ ap (λ b. P.◌⊗◌ b (linear y)) r.1 ∙ ring3 P (λ u w l. (u ⊠ w ⊠ l, u ⊠ (l ⊠ w))) refl r.0 w (linear y))

  pub degree_of_linears : (n : ℕ) (x : ℕ → K) → (product P.ring (λ i. linear (x i)) n ≢ P.zero)
      × (degree (product P.ring (λ i. linear (x i)) n).0 ≡ n)
  degree_of_linears zero x = (poly_one-ne-zero F, degree-one F)
  degree_of_linears (suc n) x =
      let r = degree_of_linears n x in
      let w : Poly R = product P.ring (λ i. linear (x i)) n in
      let d : degree w.0 ≡ n = r.1 in (
        poly_mul-ne-zero F (linear (x n)) w (linear-ne-zero F (x n)) r.0,
        omega (arith, d, field_degree-mul F (linear (x n)) w (linear-ne-zero F (x n)) r.0, degree-linear F (x n)),
      )
