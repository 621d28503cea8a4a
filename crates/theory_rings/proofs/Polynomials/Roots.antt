-- A polynomial of degree at most n over a field with more than n zeros is 0.
use Rattle.std.specs.Prelude.{◌≡◌, ◌≢◌, ℕ, zero, suc, ◌<◌, ◌≤◌, length}
use Rattle.std.proofs.Common.{refl, sym, ◌∙◌, ap, ap₂, arith, ⊎_elim}
use Rattle.theory_rings.specs.Ring.{FieldOn, CommRingOn}
use Rattle.theory_rings.specs.Polynomial.{Poly, coefficient, lead, degree}
use Rattle.theory_rings.specs.Evaluation.{evaluate}
use Rattle.theory_rings.specs.Homomorphism.{IsRingHom}
use Rattle.theory_rings.proofs.Rings.RingLaws.{zero-mul, mul-zero, add-zero, add-neg}
use Rattle.theory_rings.proofs.Rings.ZeroTests.{eq_of_sub_eq_zero}
use Rattle.theory_rings.proofs.Rings.Fields.{mul-inv, eq-zero_of_mul-eq-zero}
use Rattle.theory_rings.proofs.Rings.Homomorphisms.{id_hom, map-neg}
use Rattle.theory_rings.proofs.Polynomials.PolynomialRing.{constant, coefficient-add, coefficient-neg}
use Rattle.theory_rings.proofs.Polynomials.PolynomialRing.{coefficient-constant, constant_past}
use Rattle.theory_rings.proofs.Polynomials.Degrees.{poly_eq_zero_or, degree_eq, degree_le_length, length_le, length_pos}
use Rattle.theory_rings.proofs.Polynomials.Degrees.{lead-ne-zero, length-degree_of_ne_zero, ne_zero_of_length}
use Rattle.theory_rings.proofs.Polynomials.Degrees.{eq_constant, length-add_le, length-neg_le, zero-length}
use Rattle.theory_rings.proofs.Polynomials.Constants.{variable, coefficient-variable, constant-zero}
use Rattle.theory_rings.proofs.Polynomials.Division.{divide}
use Rattle.theory_rings.proofs.Polynomials.Evaluation.{evaluate-add, evaluate-mul, evaluate-constant, evaluate-variable}
use Rattle.theory_rings.proofs.Polynomials.Evaluation.{evaluate_hom}
use Rattle.theory_rings.proofs.Polynomials.Bezout.{field_polynomials, field_degree-mul}

module _ {K : Type 0} (F : FieldOn K) where
  abbrev R : CommRingOn K
  R = F.cring

  abbrev P : CommRingOn (Poly F.cring)
  P = field_polynomials F

  abbrev t : Poly R
  t = variable R F.zero_test

  H : IsRingHom F.ring F.ring (λ a. a)
  H = id_hom F.ring

  -- the value at x
  abbrev pub value : K → Poly R → K
  value x a = evaluate R R (λ a. a) x a

  -- t − x
  abbrev pub linear : K → Poly R
  linear x = P.◌⊕◌ t (P.neg (constant R F.zero_test x))

  linear-coefficient : (x : K) (k : ℕ) → coefficient R (linear x) (suc k) ≡ coefficient R t (suc k)
  linear-coefficient x k =
      coefficient-add R F.zero_test t (P.neg (constant R F.zero_test x)) (suc k)
      ∙ ap (F.◌⊕◌ (coefficient R t (suc k)))
      (coefficient-neg R F.zero_test (constant R F.zero_test x) (suc k)
      ∙ ap F.neg (coefficient-constant R F.zero_test x (suc k))
      ∙ sym (F.zero-add (F.neg F.zero)) ∙ add-neg F.additive F.zero)
      ∙ add-zero F.monoid (coefficient R t (suc k))

  pub degree-linear : (x : K) → degree (linear x).0 ≡ 1
  degree-linear x = degree_eq R (linear x) 1
      (λ e. F.one-nonzero (sym (linear-coefficient x 0 ∙ coefficient-variable R F.zero_test 1) ∙ e)) past
    where
      past : (k : ℕ) → 1 < k → coefficient R (linear x) k ≡ R.zero
      past zero l = absurd (omega arith)
      past (suc zero) l = absurd (omega arith)
      past (suc (suc k)) l = linear-coefficient x (suc k) ∙ coefficient-variable R F.zero_test (suc (suc k))

  value-linear : (x y : K) → value y (linear x) ≡ F.◌⊕◌ y (F.neg x)
  value-linear x y =
      evaluate-add R F.zero_test R (λ a. a) H y t (P.neg (constant R F.zero_test x))
      ∙ ap₂ F.◌⊕◌ (evaluate-variable R F.zero_test R (λ a. a) H y)
      (map-neg P.ring R.ring (value y) (evaluate_hom R F.zero_test R (λ a. a) H y) (constant R F.zero_test x)
      ∙ ap F.neg (evaluate-constant R F.zero_test R (λ a. a) H y x))

  pub linear-ne-zero : (x : K) → linear x ≢ P.zero
  linear-ne-zero x = ne_zero_of_length R F.zero_test (linear x)
      (omega (arith, degree_le_length R (linear x), degree-linear x))

  -- what is of degree 0 and has a zero is 0
  constant_eq_zero : (a : Poly R) (x : K) → degree a.0 ≡ 0 → value x a ≡ F.zero → a ≡ P.zero
  constant_eq_zero a x d v =
      let e = eq_constant R F.zero_test a d in
      let c = coefficient R a 0 in
      e ∙ ap (constant R F.zero_test) (sym (ap (value x) e ∙ evaluate-constant R F.zero_test R (λ a. a) H x c) ∙ v)
      ∙ constant-zero R F.zero_test

  pub value-product : (a q : Poly R) (x y : K) → a ≡ P.◌⊗◌ q (linear x)
      → value y a ≡ F.◌⊗◌ (value y q) (F.◌⊕◌ y (F.neg x))
  value-product a q x y e =
      ap (value y) e ∙ evaluate-mul R F.zero_test R (λ a. a) H y q (linear x)
      ∙ ap (F.◌⊗◌ (value y q)) (value-linear x y)

  -- division by t − x, where x is a zero
  pub factor_out : (a : Poly R) (x : K) → value x a ≡ F.zero → (q : Poly R) × (a ≡ P.◌⊗◌ q (linear x))
  factor_out a x v =
      let h = linear-ne-zero x in
      let d = divide R F.zero_test (linear x) (F.inv (lead R (linear x)))
      (mul-inv F (lead R (linear x)) (lead-ne-zero R F.zero_test (linear x) h))
      (length_pos R F.zero_test (linear x) h) a in
      let q : Poly R = d.0 in
      let r : Poly R = d.1 in
      let whole : a ≡ P.◌⊕◌ (P.◌⊗◌ q (linear x)) r = (let e = d.2 in e.whole) in
      let smaller : length r.0 < length (linear x).0 = (let e = d.2 in e.smaller) in
      let low : degree r.0 ≡ 0 =
      small r (omega (arith, length-degree_of_ne_zero R F.zero_test (linear x) h, degree-linear x)) in
      let vr : value x r ≡ F.zero =
      sym (F.zero-add (value x r))
      ∙ ap (λ y. F.◌⊕◌ y (value x r))
      (sym (value-product (P.◌⊗◌ q (linear x)) q x x refl ∙ ap (F.◌⊗◌ (value x q)) (add-neg F.additive x)
      ∙ mul-zero F.ring (value x q)))
      ∙ sym (ap (value x) whole ∙ evaluate-add R F.zero_test R (λ a. a) H x (P.◌⊗◌ q (linear x)) r) ∙ v in (
        q,
        whole ∙ ap (P.◌⊕◌ (P.◌⊗◌ q (linear x))) (constant_eq_zero r x low vr)
            ∙ add-zero P.monoid (P.◌⊗◌ q (linear x)),
      )
    where
      small : (r : Poly R) → length r.0 ≤ 1 → degree r.0 ≡ 0
      small r l = ⊎_elim
          (λ (z : r ≡ P.zero). ap (λ x. degree x.0) z ∙ ap (λ x. degree x.0) (sym (constant-zero R F.zero_test))
          ∙ degree_of_constant)
          (λ (n : r ≢ P.zero). omega (arith, length-degree_of_ne_zero R F.zero_test r n, l))
          (poly_eq_zero_or R F.zero_test r)
        where
          degree_of_constant : degree (constant R F.zero_test F.zero).0 ≡ 0
          degree_of_constant =
              omega (
                arith,
                degree_le_length R (constant R F.zero_test F.zero),
                length_le R (constant R F.zero_test F.zero) 0 (λ k _. none k),
              )
            where
              none : (k : ℕ) → coefficient R (constant R F.zero_test F.zero) k ≡ R.zero
              none zero = coefficient-constant R F.zero_test F.zero 0
              none (suc k) = coefficient-constant R F.zero_test F.zero (suc k)

  pub eq_zero_of_roots : (n : ℕ) (a : Poly R) (x : ℕ → K) → degree a.0 ≤ n
      → ((i j : ℕ) → i ≤ n → j ≤ n → x i ≡ x j → i ≡ j) → ((i : ℕ) → i ≤ n → value (x i) a ≡ F.zero) → a ≡ P.zero
  eq_zero_of_roots zero a x l apart v = constant_eq_zero a (x 0) (omega arith) (v 0 (omega arith))
  eq_zero_of_roots (suc n) a x l apart v =
      let f = factor_out a (x (suc n)) (v (suc n) (omega arith)) in
      let q : Poly R = f.0 in
      let y : K = x (suc n) in
      let none : q ≡ P.zero = ⊎_elim
      (λ (z : q ≡ P.zero). z)
      (λ (h : q ≢ P.zero). eq_zero_of_roots n q x
      (omega (
        arith,
        l,
        ap (λ z. degree z.0) f.1,
        field_degree-mul F q (linear y) h (linear-ne-zero y),
        degree-linear y,
      ))
      (λ i j li lj. apart i j (omega arith) (omega arith))
      (λ i li. ⊎_elim
      (λ (z : value (x i) q ≡ F.zero). z)
      (λ (z : F.◌⊕◌ (x i) (F.neg y) ≡ F.zero).
      let same : i ≡ suc n = apart i (suc n) (omega arith) (omega arith) (eq_of_sub_eq_zero F.additive (x i) y z) in
      absurd (omega arith))
      (eq-zero_of_mul-eq-zero F (value (x i) q) (F.◌⊕◌ (x i) (F.neg y))
      (sym (value-product a q y (x i) f.1) ∙ v i (omega arith)))))
      (poly_eq_zero_or R F.zero_test q) in
      f.1 ∙ ap (λ z. P.◌⊗◌ z (linear y)) none ∙ zero-mul P.ring (linear y)

  -- what has the value c at more than n places is c
  pub eq_constant_of_values : (n : ℕ) (a : Poly R) (c : K) (x : ℕ → K) → length a.0 ≤ suc n
      → ((i j : ℕ) → i ≤ n → j ≤ n → x i ≡ x j → i ≡ j) → ((i : ℕ) → i ≤ n → value (x i) a ≡ c)
      → a ≡ constant R F.zero_test c
  eq_constant_of_values n a c x l apart v =
      let k : Poly R = constant R F.zero_test c in
      let d : Poly R = P.◌⊕◌ a (P.neg k) in
      let one_long = length_le R k (suc n) (λ j b. coefficient-constant R F.zero_test c j
      ∙ constant_past F.zero c j (omega arith)) in
      let long : length d.0 ≤ suc n = length-add_le R F.zero_test a (P.neg k) (suc n) l
      (length-neg_le R F.zero_test k (suc n) one_long) in
      let low : degree d.0 ≤ n = ⊎_elim
      (λ (z : d ≡ P.zero). omega (arith, ap (λ y. degree y.0) z, degree_le_length R P.zero, zero-length R F.zero_test))
      (λ (z : d ≢ P.zero). omega (arith, long, length-degree_of_ne_zero R F.zero_test d z))
      (poly_eq_zero_or R F.zero_test d) in
      eq_of_sub_eq_zero P.additive a k (eq_zero_of_roots n d x low apart (λ i b.
      evaluate-add R F.zero_test R (λ a. a) H (x i) a (P.neg k)
      ∙ ap₂ F.◌⊕◌ (v i b) (map-neg P.ring R.ring (value (x i)) (evaluate_hom R F.zero_test R (λ a. a) H (x i)) k
      ∙ ap F.neg (evaluate-constant R F.zero_test R (λ a. a) H (x i) c))
      ∙ add-neg F.additive c))
