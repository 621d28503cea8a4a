-- Over a field of q elements the q-th power of a sum of polynomials is the sum of the q-th powers: the sum of C(q,
-- k)·x^k over k below q is 1 at each of the q elements, so its coefficients but the first are 0.
use Rattle.std.specs.Prelude.{◌≡◌, ℕ, zero, suc, ◌-◌, ◌^◌, ◌<◌, ◌≤◌, cond, ltb, length}
use Rattle.std.proofs.Common.{refl, sym, ◌∙◌, ap, ap₂, arith}
use Rattle.std.proofs.lemmas.Bool.{lt-ltb, le-ltb}
use Rattle.std.proofs.Math.Nat.{pow-zero, pow-suc}
use Rattle.theory_rings.specs.Ring.{FieldOn, CommRingOn}
use Rattle.theory_rings.specs.Sum.{sum}
use Rattle.theory_rings.specs.Power.{power, times}
use Rattle.theory_rings.specs.Binomial.{choose}
use Rattle.theory_rings.specs.Enumerated.{Enumerated}
use Rattle.theory_rings.specs.Polynomial.{Poly, coefficient}
use Rattle.theory_rings.proofs.Rings.RingLaws.{add-zero, zero-mul}
use Rattle.theory_rings.proofs.Rings.Solver.{◌⊞◌, minus, ring2}
use Rattle.theory_rings.proofs.Rings.Homomorphisms.{id_hom}
use Rattle.theory_rings.proofs.Sums.Sums.{sum_congr, sum_eq_zero, sum_first}
use Rattle.theory_rings.proofs.Powers.Powers.{power-one, power_first, power-power}
use Rattle.theory_rings.proofs.Powers.Times.{map-times, one-times, times-eq-mul}
use Rattle.theory_rings.proofs.Powers.Binomial.{choose_self, binomial_theorem}
use Rattle.theory_rings.proofs.FiniteFields.FiniteFields.{power_size}
use Rattle.theory_rings.proofs.Polynomials.PolynomialRing.{constant, polynomial, coefficient-polynomial}
use Rattle.theory_rings.proofs.Polynomials.PolynomialRing.{coefficient-constant}
use Rattle.theory_rings.proofs.Polynomials.Degrees.{length_le}
use Rattle.theory_rings.proofs.Polynomials.Constants.{constant-zero, constant_hom}
use Rattle.theory_rings.proofs.Polynomials.Evaluation.{evaluate_long}
use Rattle.theory_rings.proofs.Polynomials.Bezout.{field_polynomials}
use Rattle.theory_rings.proofs.Polynomials.Roots.{value, eq_constant_of_values}

module _ {K : Type 0} (C : CommRingOn K) (n : ℕ) (a b : K) where
  abbrev term : ℕ → K
  term k = times C.monoid (choose n k) (C.◌⊗◌ (power C.ring a k) (power C.ring b (n - k)))

  pub last_term : term n ≡ power C.ring a n
  last_term =
      let e : n - n ≡ 0 = omega arith in
      ap₂ (λ j k. times C.monoid j (C.◌⊗◌ (power C.ring a n) (power C.ring b k))) (choose_self n) e
      ∙ one-times C.monoid (C.◌⊗◌ (power C.ring a n) C.one) ∙ C.mul-one (power C.ring a n)

  pub first_term : term 0 ≡ power C.ring b n
  first_term =
      let e : n - 0 ≡ n = omega arith in
      one-times C.monoid (C.◌⊗◌ C.one (power C.ring b (n - 0))) ∙ C.one-mul (power C.ring b (n - 0))
      ∙ ap (power C.ring b) e

module _ {K : Type 0} (F : FieldOn K) (E : Enumerated K) where
  abbrev R : CommRingOn K
  R = F.cring

  abbrev P : CommRingOn (Poly F.cring)
  P = field_polynomials F

  abbrev q : ℕ
  q = E.size

  abbrev c : ℕ → K
  c k = times F.monoid (choose q k) F.one

  abbrev cut : ℕ → K
  cut k = cond (ltb k q) (c k) F.zero

  cut-past : (k : ℕ) → q ≤ k → cut k ≡ F.zero
  cut-past k l = ap (λ b. cond b (c k) F.zero) (le-ltb k q l)

  B : Poly R
  B = polynomial R F.zero_test q cut

  at_B : (k : ℕ) → coefficient R B k ≡ cut k
  unfolding B
  at_B k = coefficient-polynomial R F.zero_test q cut cut-past k

  at_below : (k : ℕ) → k < q → coefficient R B k ≡ c k
  at_below k l = at_B k ∙ ap (λ b. cond b (c k) F.zero) (lt-ltb k q l)

  short : length B.0 ≤ q
  short = length_le R B q (λ k l. at_B k ∙ cut-past k l)

  value_B : (x : K) → value F x B ≡ F.one
  value_B x =
      let S = sum F.monoid q (term R q x F.one) in
      let total : F.◌⊕◌ S x ≡ F.◌⊕◌ x F.one =
      ap (F.◌⊕◌ S) (sym (last_term R q x F.one ∙ power_size F E x))
      ∙ sym (binomial_theorem R x F.one q) ∙ power_size F E (F.◌⊕◌ x F.one) in
      evaluate_long R F.zero_test R (λ y. y) (id_hom F.ring) x B q short
      ∙ sum_congr F.monoid q (λ k. F.◌⊗◌ (coefficient R B k) (power F.ring x k)) (term R q x F.one) (λ k l.
      ap (λ y. F.◌⊗◌ y (power F.ring x k)) (at_below k l) ∙ sym (times-eq-mul F.ring (choose q k) (power F.ring x k))
      ∙ ap (times F.monoid (choose q k))
      (sym (ap (F.◌⊗◌ (power F.ring x k)) (power-one F.ring (q - k)) ∙ F.mul-one (power F.ring x k))))
      ∙ ring2 R (λ s x. (s, (s ⊞ x) ⊞ minus x)) refl S x ∙ ap (λ y. F.◌⊕◌ y (F.neg x)) total
      ∙ ring2 R (λ x o. (x ⊞ o ⊞ minus x, o)) refl x F.one

  -- C(q, k) times 1 is 0
  choose-zero : (m : ℕ) → q ≡ suc m → (k : ℕ) → suc k < q → c (suc k) ≡ F.zero
  choose-zero m s k l =
      let same : B ≡ constant R F.zero_test F.one = eq_constant_of_values F m B F.one E.member (omega (arith, short, s))
      (λ i j li lj e. sym (E.number-member i (omega (arith, li, s))) ∙ ap E.number e
      ∙ E.number-member j (omega (arith, lj, s)))
      (λ i _. value_B (E.member i)) in
      sym (at_below (suc k) l) ∙ ap (λ (b : Poly R). coefficient R b (suc k)) same
      ∙ coefficient-constant R F.zero_test F.one (suc k)

  poly_times : (n : ℕ) → times F.monoid n F.one ≡ F.zero → (a : Poly R) → times P.monoid n a ≡ P.zero
  poly_times n e a =
      let H = constant_hom R F.zero_test in
      times-eq-mul P.ring n a
      ∙ ap (λ x. P.◌⊗◌ x a) (ap (times P.monoid n) (sym H.map-one)
      ∙ sym (map-times F.monoid P.monoid (constant R F.zero_test) (constant-zero R F.zero_test) H.map-add n F.one)
      ∙ ap (constant R F.zero_test) e ∙ constant-zero R F.zero_test)
      ∙ zero-mul P.ring a

  add_at : (m : ℕ) → q ≡ suc m → (a b : Poly R)
      → power P.ring (P.◌⊕◌ a b) q ≡ P.◌⊕◌ (power P.ring a q) (power P.ring b q)
  add_at m s a b =
      let f = term P q a b in
      binomial_theorem P a b q
      ∙ ap₂ P.◌⊕◌
      (ap (λ n. sum P.monoid n f) s ∙ sum_first P.monoid m f
      ∙ ap₂ P.◌⊕◌ (first_term P q a b) (sum_eq_zero P.monoid m (λ k. f (suc k))
      (λ k l. poly_times (choose q (suc k)) (choose-zero m s k (omega (arith, l, s)))
      (P.◌⊗◌ (power P.ring a (suc k)) (power P.ring b (q - suc k)))))
      ∙ add-zero P.monoid (power P.ring b q))
      (last_term P q a b)
      ∙ P.add_comm (power P.ring b q) (power P.ring a q)

  pub poly_power_size-add : (a b : Poly R) → power P.ring (P.◌⊕◌ a b) q ≡ P.◌⊕◌ (power P.ring a q) (power P.ring b q)
  poly_power_size-add = let l = E.number-lt F.zero in let s : q ≡ suc (q - 1) = omega arith in add_at (q - 1) s

  pub poly_power_size_iterate-add : (i : ℕ) (a b : Poly R)
      → power P.ring (P.◌⊕◌ a b) (q ^ i) ≡ P.◌⊕◌ (power P.ring a (q ^ i)) (power P.ring b (q ^ i))
  poly_power_size_iterate-add zero a b =
      let once : (x : Poly R) → power P.ring x (q ^ 0) ≡ x =
      λ x. ap (power P.ring x) (pow-zero q) ∙ power_first P.ring x in
      once (P.◌⊕◌ a b) ∙ sym (ap₂ P.◌⊕◌ (once a) (once b))
  poly_power_size_iterate-add (suc i) a b =
      let again : (x : Poly R) → power P.ring x (q ^ suc i) ≡ power P.ring (power P.ring x (q ^ i)) q =
      λ x. ap (power P.ring x) (pow-suc q i) ∙ sym (power-power P.ring x (q ^ i) q) in
      again (P.◌⊕◌ a b) ∙ ap (λ x. power P.ring x q) (poly_power_size_iterate-add i a b)
      ∙ poly_power_size-add (power P.ring a (q ^ i)) (power P.ring b (q ^ i))
      ∙ sym (ap₂ P.◌⊕◌ (again a) (again b))
