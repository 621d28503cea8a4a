-- Lists of a program's values as polynomials over the field of its elements, and what is said of the coefficients of
-- lists as equations of polynomials.
use Rattle.std.specs.Prelude.{◌≡◌, ℕ, zero, suc, ◌<◌, Bool, true, false, List, [], ◌∷◌, map, get_or}
use Rattle.std.proofs.Common.{refl, sym, ◌∙◌, ap, ap₂, arith}
use Rattle.std.proofs.lemmas.List.Elements.{All-nil, All-cons}
use Rattle.std.proofs.Math.ListN.{get_or-map}
use Rattle.theory_rings.specs.Ring.{FieldOn, CommRingOn}
use Rattle.theory_rings.specs.Ops.{Ops, IsElem, FieldLaws}
use Rattle.theory_rings.specs.Elements.{Elem, Elem-path, elements}
use Rattle.theory_rings.specs.Sum.{at, sum, sum_of}
use Rattle.theory_rings.specs.Polynomial.{trim, Poly, coefficient, convolution_of, constant_coefficients}
use Rattle.theory_rings.specs.Division.{Divides}
use Rattle.theory_rings.proofs.Rings.Elements.{at-elem}
use Rattle.theory_rings.proofs.Polynomials.PolynomialRing.{Poly-path, IsTrimmed-trim, get_or-trim, coefficient-zero}
use Rattle.theory_rings.proofs.Polynomials.PolynomialRing.{coefficient-one, coefficient-add, coefficient-mul}
use Rattle.theory_rings.proofs.Polynomials.Bezout.{field_polynomials}
use Rattle.theory_rings.proofs.Polynomials.ElementLists.{values, at-values, convolution_of-elements}
use Rattle.theory_fractions.specs.PolynomialLists as poly
use Rattle.theory_fractions.specs.PolynomialLists.{IsOver, IsProduct}
use Rattle.theory_fractions.proofs.Coefficients.{convolution_of_congr}

module _ {E : Type 0} (o : Ops E) (L : FieldLaws o) where
  abbrev pub F : FieldOn (Elem o)
  F = elements o L

  abbrev pub P : CommRingOn (Poly F.cring)
  P = field_polynomials F

  pub values-over : (xs : List (Elem o)) → IsOver o (values o L xs)
  values-over [] = All-nil (IsElem o)
  values-over (x ∷ xs) = All-cons (IsElem o) x.0 (values o L xs) x.1 (values-over xs)

  -- the coefficients of p are f
  abbrev pub HasCoefficients : Poly F.cring → (ℕ → E) → Type 0
  HasCoefficients p f = (k : ℕ) → f k ≡ (coefficient F.cring p k).0

  pub coefficients_mul : (p q : Poly F.cring) (f g : ℕ → E) → HasCoefficients p f → HasCoefficients q g
      → HasCoefficients (P.◌⊗◌ p q) (convolution_of o f g)
  coefficients_mul p q f g hf hg k =
      convolution_of_congr o L f g (λ i. (coefficient F.cring p i).0) (λ i. (coefficient F.cring q i).0) hf hg k
      ∙ convolution_of-elements o L (coefficient F.cring p) (coefficient F.cring q) k
      ∙ ap (λ x. x.0) (sym (coefficient-mul F.cring F.zero_test p q k))

  abbrev pub Has : Poly F.cring → (ℕ → E) → Type 0
  Has p f = HasCoefficients p f

  as_element : (x : E) (b : Bool) → o.is_elem x ≡ b → Elem o
  as_element x true e = (x, e)
  as_element x false e = F.zero

  -- the value as an element, or 0 if it is none
  element : E → Elem o
  element x = as_element x (o.is_elem x) refl

  as_element-value : (x : E) (b : Bool) (e : o.is_elem x ≡ b) → IsElem o x → (as_element x b e).0 ≡ x
  unfolding as_element
  as_element-value x true e h = refl
  as_element-value x false e h = absurd (let no : true ≡ false = sym h ∙ e in cc)

  element-value : (x : E) → IsElem o x → (element x).0 ≡ x
  unfolding element
  element-value x h = as_element-value x (o.is_elem x) refl h

  -- the polynomial with these coefficients
  pub lift : List E → Poly F.cring
  lift xs = (trim F.is_zero (map element xs), IsTrimmed-trim F.zero_test (map element xs))

  pub has-lift : (xs : List E) → IsOver o xs → Has (lift xs) (at o xs)
  unfolding lift
  has-lift xs h k =
      let nought : element o.zero ≡ F.zero = Elem-path o (element o.zero) F.zero (element-value o.zero L.zero-elem) in
      sym (ap (λ x. x.0) (get_or-trim F.zero_test (map element xs) k ∙ ap (get_or (map element xs) k) (sym nought)
      ∙ get_or-map element xs k o.zero)
      ∙ element-value (at o xs k) (at-elem o L xs h k))

  -- equal coefficients, equal polynomials, and back
  pub eq_of_coefficients : (p q : Poly F.cring) (f g : ℕ → E) → Has p f → Has q g → ((k : ℕ) → f k ≡ g k) → p ≡ q
  eq_of_coefficients p q f g hp hq e = Poly-path F.cring p q (λ k.
      Elem-path o (coefficient F.cring p k) (coefficient F.cring q k) (sym (hp k) ∙ e k ∙ hq k))

  pub coefficients_of_eq : (p q : Poly F.cring) (f g : ℕ → E) → Has p f → Has q g → p ≡ q → (k : ℕ) → f k ≡ g k
  coefficients_of_eq p q f g hp hq e k = hp k ∙ ap (λ x. (coefficient F.cring x k).0) e ∙ sym (hq k)

  pub has-add : (p q : Poly F.cring) (f g : ℕ → E) → Has p f → Has q g → Has (P.◌⊕◌ p q) (λ k. o.add (f k) (g k))
  has-add p q f g hp hq k = ap₂ o.add (hp k) (hq k) ∙ ap (λ x. x.0) (sym (coefficient-add F.cring F.zero_test p q k))

  pub has-mul : (p q : Poly F.cring) (f g : ℕ → E) → Has p f → Has q g → Has (P.◌⊗◌ p q) (convolution_of o f g)
  has-mul p q f g hp hq = coefficients_mul p q f g hp hq

  pub has-zero : Has P.zero (λ _. o.zero)
  has-zero k = ap (λ x. x.0) (sym (coefficient-zero F.cring F.zero_test k))

  pub has-one : Has P.one (constant_coefficients o.zero o.one)
  has-one k = go k ∙ ap (λ x. x.0) (sym (coefficient-one F.cring F.zero_test k))
    where
      go : (k : ℕ) → constant_coefficients o.zero o.one k ≡ (constant_coefficients F.zero F.one k).0
      go zero = refl
      go (suc k) = refl

  pub has-sum : (n : ℕ) (p : ℕ → Poly F.cring) (f : ℕ → ℕ → E) → ((i : ℕ) → i < n → Has (p i) (f i))
      → Has (sum P.monoid n p) (λ k. sum_of o n (λ i. f i k))
  has-sum zero p f h = has-zero
  has-sum (suc n) p f h = has-add (sum P.monoid n p) (p n) (λ k. sum_of o n (λ i. f i k)) (f n)
      (has-sum n p f (λ i l. h i (omega arith))) (h n (omega arith))

  pub lift_nil : lift [] ≡ P.zero
  lift_nil = eq_of_coefficients (lift []) P.zero (at o []) (λ _. o.zero)
      (has-lift [] (λ k d l. absurd (omega arith))) has-zero (λ k. refl)

  pub lift-mul : (a b c : List E) → IsOver o a → IsOver o b → IsOver o c → IsProduct o a b c
      → lift c ≡ P.◌⊗◌ (lift a) (lift b)
  lift-mul a b c ha hb hc e =
      eq_of_coefficients (lift c) (P.◌⊗◌ (lift a) (lift b)) (at o c) (convolution_of o (at o a) (at o b))
      (has-lift c hc) (has-mul (lift a) (lift b) (at o a) (at o b) (has-lift a ha) (has-lift b hb)) e

  pub product_of_lift : (a b c : List E) → IsOver o a → IsOver o b → IsOver o c → lift c ≡ P.◌⊗◌ (lift a) (lift b)
      → IsProduct o a b c
  product_of_lift a b c ha hb hc e =
      coefficients_of_eq (lift c) (P.◌⊗◌ (lift a) (lift b)) (at o c) (convolution_of o (at o a) (at o b))
      (has-lift c hc) (has-mul (lift a) (lift b) (at o a) (at o b) (has-lift a ha) (has-lift b hb)) e

  -- each polynomial is that of a list
  pub lower : Poly F.cring → List E
  lower p = values o L p.0

  pub lower-over : (p : Poly F.cring) → IsOver o (lower p)
  unfolding lower
  lower-over p = values-over p.0

  pub has-lower : (p : Poly F.cring) → Has p (at o (lower p))
  unfolding lower
  has-lower p k = at-values o L p.0 k

  pub lift-lower : (p : Poly F.cring) → lift (lower p) ≡ p
  lift-lower p = eq_of_coefficients (lift (lower p)) p (at o (lower p)) (at o (lower p))
      (has-lift (lower p) (lower-over p)) (has-lower p) (λ k. refl)

  -- divisors
  pub lift-divides : (a b : List E) → IsOver o a → IsOver o b → poly.Divides o a b → Divides P (lift a) (lift b)
  lift-divides a b ha hb d = (lift d.0, lift-mul d.0 a b d.1 ha hb d.2)

  pub divides_of_lift : (a b : List E) → IsOver o a → IsOver o b → Divides P (lift a) (lift b) → poly.Divides o a b
  divides_of_lift a b ha hb d = (
    lower d.0,
    lower-over d.0,
    product_of_lift (lower d.0) a b (lower-over d.0) ha hb (d.1 ∙ ap (λ x. P.◌⊗◌ x (lift a)) (sym (lift-lower d.0))),
  )
