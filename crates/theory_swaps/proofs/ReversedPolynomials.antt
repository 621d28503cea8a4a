-- An automorphism of the rational functions that keeps constants and takes x to 1/x takes u(x) to u(1/x), and x^(n − 1)
-- times this is the polynomial with the first n coefficients of u in the other order.
use Rattle.std.specs.Prelude.{◌≡◌, ◌≢◌, ◌≤◌, ℕ, zero, suc, ◌-◌, List, [], ◌∷◌, ◌++◌, length}
use Rattle.std.proofs.Common.{refl, sym, ◌∙◌, ap, ap₂, arith}
use Rattle.std.proofs.lemmas.List.Elements.{All-nil, All-cons, All-head, All-tail, All-push}
use Rattle.theory_rings.specs.Ring.{FieldOn, CommRingOn}
use Rattle.theory_rings.specs.Ops.{Ops, IsElem, FieldLaws}
use Rattle.theory_rings.specs.Elements.{Elem, Elem-path, elements}
use Rattle.theory_rings.specs.Sum.{at, table}
use Rattle.theory_rings.specs.Polynomial.{Poly, coefficient}
use Rattle.theory_rings.specs.Power.{power}
use Rattle.theory_rings.specs.Homomorphism.{IsRingHom}
use Rattle.theory_rings.specs.Fraction.{IsFractionField, IsLowest}
use Rattle.theory_rings.proofs.Sums.Lists.{table_congr, All-table, length-table, get_or-table_default}
use Rattle.theory_rings.proofs.Rings.Elements.{at-elem}
use Rattle.theory_rings.proofs.Rings.RingLaws.{mul-zero, zero-mul}
use Rattle.theory_rings.proofs.Rings.Fields.{mul-inv, mul_left_cancel, field_mul-ne-zero}
use Rattle.theory_rings.proofs.Rings.Homomorphisms.{map-zero}
use Rattle.theory_rings.proofs.Rings.Solver.{◌⊞◌, ◌⊠◌, nil, unit, ring2, ring4, ring5}
use Rattle.theory_rings.proofs.Polynomials.PolynomialRing.{constant, Poly-path, prepend, series_prepend}
use Rattle.theory_rings.proofs.Polynomials.PolynomialRing.{coefficient-zero, coefficient-prepend}
use Rattle.theory_rings.proofs.Polynomials.Constants.{variable, prepend_eq}
use Rattle.theory_rings.proofs.Polynomials.Bezout.{field_polynomials}
use Rattle.theory_rings.proofs.Fractions.Lowest.{polynomial_reduction, rational_functions, is_rational_functions}
use Rattle.theory_lattices.specs.RationalFunctions.{Rational, of_polynomial, of_constant, power_of_x}
use Rattle.theory_lattices.proofs.Degree.FractionDegrees.{of_hom}
use Rattle.theory_places.proofs.PlaceValuations.{x_ne}
use Rattle.theory_fractions.specs.PolynomialLists.{IsOver}
use Rattle.theory_fractions.specs.FractionOps.{polynomial_of}
use Rattle.theory_fractions.proofs.ListPolynomials.{has_polynomial_of}
use Rattle.theory_fractions.proofs.FractionField.{polynomial_of-nil}

module _ {E : Type 0} (o : Ops E) where
  -- the first n coefficients in the other order
  abbrev pub turn : ℕ → List E → List E
  turn n u = table n (λ k. at o u (n - suc k))

  turn-cons : (m : ℕ) (x : E) (xs : List E) → turn (suc m) (x ∷ xs) ≡ turn m xs ++ x ∷ []
  turn-cons m x xs = ap₂ (λ r y. r ++ y ∷ [])
      (table_congr m (λ k. at o (x ∷ xs) (suc m - suc k)) (λ k. at o xs (m - suc k)) (λ k l.
      let e : suc m - suc k ≡ suc (m - suc k) = omega (arith, l) in ap (at o (x ∷ xs)) e))
      (let e : suc m - suc m ≡ 0 = omega arith in ap (at o (x ∷ xs)) e)

module _ {E : Type 0} (o : Ops E) (L : FieldLaws o) where
  infixl 65 ◌⊕◌
  infixl 70 ◌⊗◌
  abbrev F : FieldOn (Elem o)
  F = elements o L

  abbrev P : CommRingOn (Poly F.cring)
  P = field_polynomials F

  abbrev Q : FieldOn (Rational F)
  Q = rational_functions F

  abbrev H : IsFractionField P (IsLowest F.cring P) Q
  H = is_rational_functions F

  open Q use {◌⊕◌, ◌⊗◌}

  abbrev T : Poly F.cring
  T = variable F.cring F.zero_test

  abbrev X : Rational F
  X = power_of_x F 1

  abbrev Y : Rational F
  Y = Q.inv X

  abbrev c : Elem o → Rational F
  c = of_constant F

  abbrev of : Poly F.cring → Rational F
  of = of_polynomial F

  hom_of : IsRingHom P.ring Q.ring of
  hom_of = of_hom P (IsLowest F.cring P) (polynomial_reduction F) Q H

  -- the polynomial with these coefficients as a rational function
  abbrev pub val : List E → Rational F
  val u = of (polynomial_of o L u)

  pub turn-over : (n : ℕ) (u : List E) → IsOver o u → IsOver o (turn o n u)
  turn-over n u h = All-table (IsElem o) n (λ k. at o u (n - suc k)) (λ k _. at-elem o L u h (n - suc k))

  pub val-nil : val [] ≡ Q.zero
  val-nil = ap of (polynomial_of-nil o L) ∙ map-zero P.ring Q.ring of hom_of

  poly-cons : (x : E) (hx : IsElem o x) (xs : List E) → IsOver o (x ∷ xs) → IsOver o xs
      → polynomial_of o L (x ∷ xs) ≡ prepend F.cring F.zero_test (x, hx) (polynomial_of o L xs)
  poly-cons x hx xs ha hs = Poly-path F.cring (polynomial_of o L (x ∷ xs)) p (λ k.
      Elem-path o (coefficient F.cring (polynomial_of o L (x ∷ xs)) k) (coefficient F.cring p k)
      (sym (has_polynomial_of o L (x ∷ xs) ha k) ∙ each k
      ∙ ap (λ (a : Elem o). a.0) (sym (coefficient-prepend F.cring F.zero_test (x, hx) (polynomial_of o L xs) k))))
    where
      p : Poly F.cring
      p = prepend F.cring F.zero_test (x, hx) (polynomial_of o L xs)

      each : (k : ℕ) → at o (x ∷ xs) k ≡ (series_prepend (x, hx) (coefficient F.cring (polynomial_of o L xs)) k).0
      each zero = refl
      each (suc k) = has_polynomial_of o L xs hs k

  val-cons : (x : E) (hx : IsElem o x) (xs : List E) → IsOver o (x ∷ xs) → IsOver o xs
      → val (x ∷ xs) ≡ c (x, hx) ⊕ X ⊗ val xs
  val-cons x hx xs ha hs =
      let p = polynomial_of o L xs in
      let k = constant F.cring F.zero_test (x, hx) in
      ap of (poly-cons x hx xs ha hs ∙ prepend_eq F.cring F.zero_test (x, hx) p) ∙ hom_of.map-add k (P.◌⊗◌ T p)
      ∙ ap (λ t. c (x, hx) ⊕ t) (hom_of.map-mul T p ∙ ap (λ t. t ⊗ val xs) (ap of (sym (P.mul-one T))))

  pub val-single : (x : E) (hx : IsElem o x) → val (x ∷ []) ≡ c (x, hx)
  val-single x hx =
      val-cons x hx [] (All-cons (IsElem o) x [] hx (All-nil (IsElem o))) (All-nil (IsElem o))
      ∙ ap (λ t. c (x, hx) ⊕ X ⊗ t) val-nil ∙ ring2 Q.cring (λ h x. (h ⊞ x ⊠ nil, h)) refl (c (x, hx)) X

  -- one coefficient more at the end
  val-append : (xs : List E) (x : E) (hx : IsElem o x) → IsOver o xs
      → val (xs ++ x ∷ []) ≡ val xs ⊕ c (x, hx) ⊗ power Q.ring X (length xs)
  val-append [] x hx h =
      val-single x hx ∙ ring2 Q.cring (λ h x. (h, nil ⊞ h ⊠ unit)) refl (c (x, hx)) X
      ∙ ap (λ t. t ⊕ c (x, hx) ⊗ Q.one) (sym val-nil)
  val-append (y ∷ ys) x hx h =
      let hy : IsElem o y = All-head (IsElem o) y ys h in
      let hs : IsOver o ys = All-tail (IsElem o) y ys h in
      let p = power Q.ring X (length ys) in
      val-cons y hy (ys ++ x ∷ []) (over_append (y ∷ ys) x hx h) (over_append ys x hx hs)
      ∙ ap (λ t. c (y, hy) ⊕ X ⊗ t) (val-append ys x hx hs)
      ∙ ring5 Q.cring (λ a x v h p. (a ⊞ x ⊠ (v ⊞ h ⊠ p), (a ⊞ x ⊠ v) ⊞ h ⊠ (x ⊠ p))) refl (c (y, hy)) X (val ys)
      (c (x, hx)) p
      ∙ ap (λ t. t ⊕ c (x, hx) ⊗ (X ⊗ p)) (sym (val-cons y hy ys h hs))
    where
      over_append : (xs : List E) (x : E) → IsElem o x → IsOver o xs → IsOver o (xs ++ x ∷ [])
      over_append xs x hx h = All-push (IsElem o) xs x h hx

  val-turn_nil : (n : ℕ) → val (turn o n []) ≡ Q.zero
  val-turn_nil n =
      let z : List E = turn o n [] in
      ap of (Poly-path F.cring (polynomial_of o L z) P.zero (λ k.
      Elem-path o (coefficient F.cring (polynomial_of o L z) k) (coefficient F.cring P.zero k)
      (sym (has_polynomial_of o L z (turn-over n [] (All-nil (IsElem o))) k)
      ∙ get_or-table_default n (λ _. o.zero) o.zero (λ _ _. refl) k
      ∙ ap (λ (a : Elem o). a.0) (sym (coefficient-zero F.cring F.zero_test k)))))
      ∙ map-zero P.ring Q.ring of hom_of

  x-y : X ⊗ Y ≡ Q.one
  x-y = mul-inv Q X (x_ne F Q H)

  module _ (s : Rational F → Rational F) (hom : IsRingHom Q.ring Q.ring s) (constants : (a : Elem o) → s (c a) ≡ c a)
      (variable_is : s X ≡ Y) where
    pub turned : (n : ℕ) (u : List E) → IsOver o u → length u ≤ n
        → power Q.ring X n ⊗ s (val u) ≡ X ⊗ val (turn o n u)
    turned n [] h l =
        ap (λ t. power Q.ring X n ⊗ t) (ap s val-nil ∙ map-zero Q.ring Q.ring s hom)
        ∙ mul-zero Q.ring (power Q.ring X n) ∙ sym (mul-zero Q.ring X) ∙ ap (λ t. X ⊗ t) (sym (val-turn_nil n))
    turned zero (x ∷ xs) h l = absurd (omega arith)
    turned (suc m) (x ∷ xs) h l =
        let hx : IsElem o x = All-head (IsElem o) x xs h in
        let hs : IsOver o xs = All-tail (IsElem o) x xs h in
        let a = c (x, hx) in
        let p = power Q.ring X m in
        let v = s (val xs) in
        let r = val (turn o m xs) in
        ap (λ t. (X ⊗ p) ⊗ t)
        (ap s (val-cons x hx xs h hs) ∙ hom.map-add a (X ⊗ val xs)
        ∙ ap₂ (λ t w. t ⊕ w) (constants (x, hx)) (hom.map-mul X (val xs) ∙ ap (λ t. t ⊗ v) variable_is))
        ∙ ring5 Q.cring (λ x p a y v. ((x ⊠ p) ⊠ (a ⊞ y ⊠ v), (x ⊠ p) ⊠ a ⊞ (x ⊠ y) ⊠ (p ⊠ v))) refl X p a Y v
        ∙ ap₂ (λ t w. (X ⊗ p) ⊗ a ⊕ t ⊗ w) x-y (turned m xs hs (omega arith))
        ∙ ring4 Q.cring (λ x p a r. ((x ⊠ p) ⊠ a ⊞ unit ⊠ (x ⊠ r), x ⊠ (r ⊞ a ⊠ p))) refl X p a r
        ∙ ap (λ n. X ⊗ (r ⊕ a ⊗ power Q.ring X n)) (sym (length-table m (λ k. at o xs (m - suc k))))
        ∙ ap (λ t. X ⊗ t) (sym (ap val (turn-cons o m x xs) ∙ val-append (turn o m xs) x hx (turn-over m xs hs)))

    power-ne : (n : ℕ) → power Q.ring X n ≢ Q.zero
    power-ne zero = Q.one-nonzero
    power-ne (suc n) = field_mul-ne-zero Q X (power Q.ring X n) (x_ne F Q H)
        (power-ne n)

    s-ne : (a : Rational F) → a ≢ Q.zero → s a ≢ Q.zero
    s-ne a n e = Q.one-nonzero (sym (ap s (mul-inv Q a n) ∙ hom.map-one) ∙ hom.map-mul a (Q.inv a)
        ∙ ap (λ t. t ⊗ s (Q.inv a)) e ∙ zero-mul Q.ring (s (Q.inv a)))

    -- if a is u/v, and b is the quotient of the two in the other order, then b is the image of a
    pub turned_quotient : (n : ℕ) (u v : List E) → IsOver o u → IsOver o v → length u ≤ n → length v ≤ n
        → val v ≢ Q.zero → (a b : Rational F) → a ⊗ val v ≡ val u → b ⊗ val (turn o n v) ≡ val (turn o n u) → b ≡ s a
    turned_quotient n u v hu hv lu lv nv a b ea eb =
        let p = power Q.ring X n in
        let d = val (turn o n v) in
        let same : X ⊗ (d ⊗ s a) ≡ X ⊗ val (turn o n u) =
        sym (Q.mul_assoc X d (s a)) ∙ ap (λ t. t ⊗ s a) (sym (turned n v hv lv)) ∙ Q.mul_assoc p (s (val v)) (s a)
        ∙ ap (λ t. p ⊗ t)
        (Q.mul_comm (s (val v)) (s a) ∙ sym (hom.map-mul a (val v)) ∙ ap s ea) ∙ turned n u hu lu in
        let nd : d ≢ Q.zero = λ e.
        field_mul-ne-zero Q p (s (val v)) (power-ne n) (s-ne (val v) nv)
        (turned n v hv lv ∙ ap (λ t. X ⊗ t) e ∙ mul-zero Q.ring X) in
        mul_left_cancel Q d b (s a) nd
        (Q.mul_comm d b ∙ eb ∙ sym (mul_left_cancel Q X (d ⊗ s a) (val (turn o n u)) (x_ne F Q H) same))
