-- Lists of a program's elements, as lists over the field of its elements and as polynomials over that field.
use Rattle.std.specs.Prelude.{◌≡◌, ℕ, suc, ◌-◌, List, [], ◌∷◌, length, map, get_or}
use Rattle.std.proofs.Common.{refl, sym, ◌∙◌, ap, ap₂, arith, All}
use Rattle.std.proofs.lemmas.List.{length-map}
use Rattle.std.proofs.lemmas.List.Elements.{All-get_or, All-tail}
use Rattle.std.proofs.Math.ListN.{get_or-map}
use Rattle.theory_rings.specs.Ring.{FieldOn, CommRingOn}
use Rattle.theory_rings.specs.Ops.{Ops, IsElem, FieldLaws}
use Rattle.theory_rings.specs.Elements.{Elem, Elem-path, elements}
use Rattle.theory_rings.specs.Sum.{at}
use Rattle.theory_rings.specs.Polynomial.{IsTrimmed, Poly, coefficient, convolution, convolution_of}
use Rattle.theory_rings.proofs.Rings.Elements.{at-elem, sum_of-elements}
use Rattle.theory_rings.proofs.Polynomials.Series.{convolution_congr}
use Rattle.theory_rings.proofs.Polynomials.PolynomialRing.{Poly-path, coefficient-add, coefficient-mul}
use Rattle.theory_rings.proofs.Polynomials.Bezout.{field_polynomials}

module _ {E : Type 0} (o : Ops E) (L : FieldLaws o) where
  abbrev F : FieldOn (Elem o)
  F = elements o L

  -- the values of a list of elements
  abbrev pub values : List (Elem o) → List E
  values = map (λ a. a.0)

  pub at-values : (xs : List (Elem o)) (k : ℕ) → at o (values xs) k ≡ (get_or xs k F.zero).0
  at-values xs k = get_or-map (λ (a : Elem o). a.0) xs k F.zero

  pub IsTrimmed-values : (xs : List (Elem o)) → IsTrimmed F.zero xs → IsTrimmed o.zero (values xs)
  IsTrimmed-values [] t = tt
  IsTrimmed-values (x ∷ []) t = λ e. t (Elem-path o x F.zero e)
  IsTrimmed-values (x ∷ y ∷ ys) t = IsTrimmed-values (y ∷ ys) t

  -- the elements of a list of values
  abbrev pub elements_of : (xs : List E) → All (IsElem o) xs → List (Elem o)
  elements_of [] h = []
  elements_of (x ∷ xs) h =
      (x, All-get_or (IsElem o) (x ∷ xs) 0 x (omega arith) h) ∷ elements_of xs (All-tail (IsElem o) x xs h)

  pub values-elements_of : (xs : List E) (h : All (IsElem o) xs) → values (elements_of xs h) ≡ xs
  values-elements_of [] h = refl
  values-elements_of (x ∷ xs) h = ap (λ ys. x ∷ ys) (values-elements_of xs (All-tail (IsElem o) x xs h))

  pub length-elements_of : (xs : List E) (h : All (IsElem o) xs) → length (elements_of xs h) ≡ length xs
  length-elements_of xs h = sym (length-map (elements_of xs h) (λ a. a.0)) ∙ ap length (values-elements_of xs h)

  pub IsTrimmed-elements_of : (xs : List E) (h : All (IsElem o) xs) → IsTrimmed o.zero xs
      → IsTrimmed F.zero (elements_of xs h)
  IsTrimmed-elements_of [] h t = tt
  IsTrimmed-elements_of (x ∷ []) h t = λ e. t (ap (λ a. a.0) e)
  IsTrimmed-elements_of (x ∷ y ∷ ys) h t = IsTrimmed-elements_of (y ∷ ys) (All-tail (IsElem o) x (y ∷ ys) h) t

  pub convolution_of-elements : (f g : ℕ → Elem o) (k : ℕ)
      → convolution_of o (λ i. (f i).0) (λ i. (g i).0) k ≡ (convolution F.ring f g k).0
  convolution_of-elements f g k = sum_of-elements o L (suc k) (λ i. F.◌⊗◌ (f i) (g (k - i)))

  abbrev P : CommRingOn (Poly F.cring)
  P = field_polynomials F

  -- a trimmed list of elements as a polynomial
  abbrev pub poly_of : (xs : List E) → All (IsElem o) xs → IsTrimmed o.zero xs → Poly F.cring
  poly_of xs h t = (elements_of xs h, IsTrimmed-elements_of xs h t)

  pub coefficient-poly_of : (xs : List E) (h : All (IsElem o) xs) (t : IsTrimmed o.zero xs) (k : ℕ)
      → (coefficient F.cring (poly_of xs h t) k).0 ≡ at o xs k
  coefficient-poly_of xs h t k = sym (at-values (elements_of xs h) k) ∙ ap (λ ys. at o ys k) (values-elements_of xs h)

  -- two lists with one polynomial are one
  pub poly_of_injective : (xs ys : List E) (hx : All (IsElem o) xs) (hy : All (IsElem o) ys)
      (tx : IsTrimmed o.zero xs) (ty : IsTrimmed o.zero ys)
      → poly_of xs hx tx ≡ poly_of ys hy ty → xs ≡ ys
  poly_of_injective xs ys hx hy tx ty e = sym (values-elements_of xs hx) ∙ ap (λ a. values a.0) e
      ∙ values-elements_of ys hy

  -- a list whose items are the sums, or the convolution, of those of two others is their sum, or their product
  pub poly_of-add : (xs ys zs : List E) (hx : All (IsElem o) xs) (hy : All (IsElem o) ys) (hz : All (IsElem o) zs)
      (tx : IsTrimmed o.zero xs) (ty : IsTrimmed o.zero ys) (tz : IsTrimmed o.zero zs)
      → ((k : ℕ) → at o zs k ≡ o.add (at o xs k) (at o ys k))
      → poly_of zs hz tz ≡ P.◌⊕◌ (poly_of xs hx tx) (poly_of ys hy ty)
  poly_of-add xs ys zs hx hy hz tx ty tz e =
      let a : Poly F.cring = poly_of xs hx tx in
      let b : Poly F.cring = poly_of ys hy ty in
      let c : Poly F.cring = poly_of zs hz tz in
      Poly-path F.cring c (P.◌⊕◌ a b) (λ k.
      Elem-path o (coefficient F.cring c k) (F.◌⊕◌ (coefficient F.cring a k) (coefficient F.cring b k))
      (coefficient-poly_of zs hz tz k ∙ e k
      ∙ sym (ap₂ o.add (coefficient-poly_of xs hx tx k) (coefficient-poly_of ys hy ty k)))
      ∙ sym (coefficient-add F.cring F.zero_test a b k))

  pub poly_of-mul : (xs ys zs : List E) (hx : All (IsElem o) xs) (hy : All (IsElem o) ys) (hz : All (IsElem o) zs)
      (tx : IsTrimmed o.zero xs) (ty : IsTrimmed o.zero ys) (tz : IsTrimmed o.zero zs)
      → ((k : ℕ) → at o zs k ≡ convolution_of o (at o xs) (at o ys) k)
      → poly_of zs hz tz ≡ P.◌⊗◌ (poly_of xs hx tx) (poly_of ys hy ty)
  poly_of-mul xs ys zs hx hy hz tx ty tz e =
      let a : Poly F.cring = poly_of xs hx tx in
      let b : Poly F.cring = poly_of ys hy ty in
      let c : Poly F.cring = poly_of zs hz tz in
      let x : ℕ → Elem o = λ k. (at o xs k, at-elem o L xs hx k) in
      let y : ℕ → Elem o = λ k. (at o ys k, at-elem o L ys hy k) in
      Poly-path F.cring c (P.◌⊗◌ a b) (λ k.
      Elem-path o (coefficient F.cring c k) (convolution F.ring x y k)
      (coefficient-poly_of zs hz tz k ∙ e k ∙ convolution_of-elements x y k)
      ∙ convolution_congr F.ring x y (coefficient F.cring a) (coefficient F.cring b)
      (λ i. Elem-path o (x i) (coefficient F.cring a i) (sym (coefficient-poly_of xs hx tx i)))
      (λ i. Elem-path o (y i) (coefficient F.cring b i) (sym (coefficient-poly_of ys hy ty i))) k
      ∙ sym (coefficient-mul F.cring F.zero_test a b k))
