-- Products of polynomials over a field: their divisors, degrees and leading coefficients.
use Rattle.std.specs.Prelude.{◌≡◌, ◌≢◌, ℕ, zero, suc, ◌<◌, ◌≤◌, [], ◌∷◌}
use Rattle.std.proofs.Common.{refl, sym, ◌∙◌, ap, ap₂, arith}
use Rattle.theory_rings.specs.Ring.{FieldOn, CommRingOn}
use Rattle.theory_rings.specs.Polynomial.{Poly, lead, degree, IsMonic}
use Rattle.theory_rings.specs.Division.{Divides, IsGcd, IsCoprime}
use Rattle.theory_rings.specs.Homomorphism.{IsRingHom}
use Rattle.theory_rings.proofs.Rings.RingLaws.{zero-mul, left_ne_zero_of_mul}
use Rattle.theory_rings.proofs.Rings.Solver.{◌⊞◌, ◌⊠◌, by_sorted, v0, v1, v2, v3, v4, var}
use Rattle.theory_rings.proofs.Polynomials.PolynomialRing.{constant}
use Rattle.theory_rings.proofs.Polynomials.Degrees.{ne_zero_of_length, lead-constant}
use Rattle.theory_rings.proofs.Polynomials.Constants.{constant-one}
use Rattle.theory_rings.proofs.Polynomials.Bezout.{field_polynomials, field_degree-mul, field_lead-mul}
use Rattle.theory_rings.proofs.Polynomials.Bezout.{poly_mul-ne-zero, poly_one-ne-zero, degree-one, degree_zero_inverse}
use Rattle.theory_rings.proofs.Polynomials.Bezout.{degree_of_divides_one, divides_of_coprime}
use Rattle.theory_radical.specs.Ideal.{product}
use Rattle.theory_rings.proofs.Polynomials.Monic.{divides_trans, degrees_of_product}

module _ {K : Type 0} (F : FieldOn K) where
  abbrev R : CommRingOn K
  R = F.cring

  abbrev P : CommRingOn (Poly F.cring)
  P = field_polynomials F

  -- a divisor of no smaller degree is a multiple
  pub divides_back : (a b : Poly R) → b ≢ P.zero → Divides P a b → degree b.0 ≤ degree a.0 → Divides P b a
  divides_back a b n d l =
      let h : P.◌⊗◌ d.0 a ≢ P.zero = λ e. n (d.1 ∙ e) in
      let c : d.0 ≢ P.zero = left_ne_zero_of_mul P.ring d.0 a h in
      let z : degree d.0.0 ≡ 0 = omega (arith, l, degrees_of_product F b d.0 a n d.1) in
      let k : Poly R = constant R F.zero_test (F.inv (lead R d.0)) in (
        k,
        sym (P.one-mul a) ∙ ap (λ x. P.◌⊗◌ x a) (sym (degree_zero_inverse F d.0 c z)) ∙ P.mul_assoc k d.0 a
            ∙ ap (P.◌⊗◌ k) (sym d.1),
      )

  pub monic-ne-zero : (a : Poly R) → IsMonic R a → a ≢ P.zero
  monic-ne-zero a m = ne_zero_of_length R F.zero_test a m.nonzero

  pub product_monic : (n : ℕ) (g : ℕ → Poly R) → ((k : ℕ) → k < n → IsMonic R (g k)) → (product P.ring g n ≢ P.zero)
      × (lead R (product P.ring g n) ≡ F.one)
  product_monic zero g m = (poly_one-ne-zero F, one_monic)
    where
      one_monic : lead R P.one ≡ F.one
      one_monic = ap (lead R) (sym (constant-one R F.zero_test)) ∙ lead-constant R F.zero_test F.one
  product_monic (suc n) g m =
      let r = product_monic n g (λ k l. m k (omega arith)) in
      let w : Poly R = product P.ring g n in
      let top = m n (omega arith) in
      let h = monic-ne-zero (g n) top in
      (poly_mul-ne-zero F (g n) w h r.0, field_lead-mul F (g n) w h r.0 ∙ ap₂ F.◌⊗◌ top.leading r.1 ∙ F.one-mul F.one)

  -- pairwise coprime divisors
  pub coprime_product : (a : Poly R) (n : ℕ) (g : ℕ → Poly R) → ((k : ℕ) → k < n → IsCoprime R P a (g k))
      → IsCoprime R P a (product P.ring g n)
  coprime_product a zero g c d da db = degree_of_divides_one F d db
  coprime_product a (suc n) g c d da db = coprime_product a n g (λ k l. c k (omega arith)) d da
      (divides_of_coprime F d (g n) (product P.ring g n)
      (λ e ed eg. c n (omega arith) e (divides_trans F e d a ed da) eg) db)

  pub product_divides : (f : Poly R) (n : ℕ) (g : ℕ → Poly R) → ((k : ℕ) → k < n → Divides P (g k) f)
      → ((i j : ℕ) → i < n → j < n → (i ≡ j → ⊥) → IsCoprime R P (g i) (g j)) → Divides P (product P.ring g n) f
  product_divides f zero g d c = (f, sym (P.mul-one f))
  product_divides f (suc n) g d c =
      let r = product_divides f n g (λ k l. d k (omega arith)) (λ i j li lj. c i j (omega arith) (omega arith)) in
      let w : Poly R = product P.ring g n in
      let top = coprime_product (g n) n g (λ k l. c n k (omega arith) (omega arith) (λ e. omega arith)) in
      let back : Divides P (g n) (P.◌⊗◌ w r.0) =
      (let e = d n (omega arith) in (e.0, P.mul_comm w r.0 ∙ sym r.1 ∙ e.1)) in
      let u = divides_of_coprime F (g n) w r.0 top back in
      (u.0, r.1 ∙ ap (λ x. P.◌⊗◌ x w) u.1 ∙ P.mul_assoc u.0 (g n) w)

  -- a product of combinations of f and a k is one of f and their product
  pub product_combination : (f : Poly R) (n : ℕ) (a g : ℕ → Poly R) → ((k : ℕ) → k < n → IsGcd P f (a k) (g k))
      → (u : Poly R) × (v : Poly R) × (product P.ring g n ≡ P.◌⊕◌ (P.◌⊗◌ u f) (P.◌⊗◌ v (product P.ring a n)))
  product_combination f zero a g h =
      (P.zero, P.one, sym (ap₂ P.◌⊕◌ (zero-mul P.ring f) (P.one-mul P.one) ∙ P.zero-add P.one))
  product_combination f (suc n) a g h =
      let r = product_combination f n a g (λ k l. h k (omega arith)) in
      let w : Poly R = product P.ring a n in
      let e = h n (omega arith) in (
        P.◌⊕◌ (P.◌⊗◌ e.s (P.◌⊕◌ (P.◌⊗◌ r.0 f) (P.◌⊗◌ r.1 w))) (P.◌⊗◌ (P.◌⊗◌ e.t (a n)) r.0),
        P.◌⊗◌ e.t r.1,
        ap₂ P.◌⊗◌ e.combined r.2
            ∙ by_sorted P (e.s ∷ f ∷ e.t ∷ a n ∷ r.0 ∷ r.1 ∷ w ∷ [])
            ((v0 ⊠ v1 ⊞ v2 ⊠ v3) ⊠ (v4 ⊠ v1 ⊞ var 5 ⊠ var 6))
            ((v0 ⊠ (v4 ⊠ v1 ⊞ var 5 ⊠ var 6) ⊞ v2 ⊠ v3 ⊠ v4) ⊠ v1 ⊞ v2 ⊠ var 5 ⊠ (v3 ⊠ var 6)) refl,
      )

  pub map-product : (S : CommRingOn (Poly R)) (h : Poly R → Poly R) → IsRingHom P.ring S.ring h → (f g : ℕ → Poly R)
      → ((k : ℕ) → h (f k) ≡ g k) → (n : ℕ)
      → h (product P.ring f n) ≡ product S.ring g n
  map-product S h H f g e zero = H.map-one
  map-product S h H f g e (suc n) = H.map-mul (f n) (product P.ring f n) ∙ ap₂ S.◌⊗◌ (e n) (map-product S h H f g e n)

  pub product_flat : (n : ℕ) (g : ℕ → Poly R) → ((k : ℕ) → k < n → (g k ≢ P.zero) × (degree (g k).0 ≡ 0))
      → (product P.ring g n ≢ P.zero) × (degree (product P.ring g n).0 ≡ 0)
  product_flat zero g h = (poly_one-ne-zero F, degree-one F)
  product_flat (suc n) g h =
      let r = product_flat n g (λ k l. h k (omega arith)) in
      let top = h n (omega arith) in
      let w : Poly R = product P.ring g n in
      let d : degree w.0 ≡ 0 = r.1 in
      let d' : degree (g n).0 ≡ 0 = top.1 in
      (poly_mul-ne-zero F (g n) w top.0 r.0, omega (arith, d, d', field_degree-mul F (g n) w top.0 r.0))
