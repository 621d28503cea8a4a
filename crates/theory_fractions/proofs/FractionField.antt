-- The fractions in lowest terms are a field: they are carried to the rational functions and back.
use Rattle.std.specs.Prelude.{◌≡◌, ℕ, zero, suc, Bool, true, false, not, ◌&&◌, List, [], ◌∷◌, map, get_or}
use Rattle.std.specs.List.{list_all}
use Rattle.std.proofs.Common.{refl, sym, ◌∙◌, ap, ap₂}
use Rattle.std.proofs.lemmas.Bool.{and_from, and_parts, not-true, both_ways}
use mathlib.Core.HLevel.{Σ_prop_path}
use Rattle.theory_rings.specs.Ring.{FieldOn, CommRingOn}
use Rattle.theory_rings.specs.Ops.{Ops, IsElem, FieldLaws}
use Rattle.theory_rings.specs.Elements.{Elem, Elem-path, elements}
use Rattle.theory_rings.specs.Polynomial.{IsTrimmed, Poly, coefficient, degree, trim, constant_coefficients}
use Rattle.theory_rings.specs.Fraction.{SameFraction, IsFractionField}
use Rattle.theory_rings.proofs.Rings.RingLaws.{zero-mul}
use Rattle.theory_rings.proofs.Rings.Embedding.{FieldEmbedding, embedded_field}
use Rattle.theory_rings.proofs.Polynomials.PolynomialRing.{is_empty, IsTrimmed-injective, IsTrimmed-trim, get_or-trim}
use Rattle.theory_rings.proofs.Polynomials.PolynomialRing.{Poly-path, coefficient-zero, coefficient-one}
use Rattle.theory_rings.proofs.Polynomials.Constants.{constant-one}
use Rattle.theory_rings.proofs.Polynomials.Degrees.{length_pos, lead-constant}
use Rattle.theory_rings.proofs.Polynomials.Bezout.{field_polynomials, poly_one-ne-zero, degree_of_divides_one}
use Rattle.theory_rings.proofs.Fractions.Fractions.{Fraction-path}
use Rattle.theory_rings.proofs.Fractions.Lowest.{Lowest, IsLowest-prop, polynomial_reduction, rational_functions}
use Rattle.theory_rings.proofs.Fractions.Lowest.{is_rational_functions}
use Rattle.theory_rings.proofs.Fractions.LowestTests.{is_lowest, is_lowest-sound, is_lowest-complete}
use Rattle.theory_fractions.specs.Fraction.{Pair}
use Rattle.theory_fractions.specs.FractionOps.{is_trimmed, element_if, element_or_zero, polynomial_of, RationalFunction}
use Rattle.theory_fractions.specs.FractionOps.{rational_function_if, rational_function, pair_of, is_polynomial}
use Rattle.theory_fractions.specs.FractionOps.{is_fraction, fraction_ops}

module _ {E : Type 0} (o : Ops E) (L : FieldLaws o) where
  abbrev pub F : FieldOn (Elem o)
  F = elements o L

  abbrev pub P : CommRingOn (Poly F.cring)
  P = field_polynomials F

  abbrev pub K : FieldOn (RationalFunction o L)
  K = rational_functions F

  abbrev pub values : List (Elem o) → List E
  values = map (λ a. a.0)

  abbrev pub elements_of : List E → List (Elem o)
  elements_of = map (element_or_zero o L)

  -- ---- elements and values

  element_or_zero-value : (x : Elem o) → element_or_zero o L x.0 ≡ x
  element_or_zero-value x = go (o.is_elem x.0) refl
    where
      go : (b : Bool) (e : o.is_elem x.0 ≡ b) → element_if o L x.0 b e ≡ x
      go true e = Elem-path o (x.0, e) x refl
      go false e = absurd (both_ways (o.is_elem x.0) e x.1)

  value-element_or_zero : (x : E) → IsElem o x → (element_or_zero o L x).0 ≡ x
  value-element_or_zero x h = ap (λ (a : Elem o). a.0) (element_or_zero-value (x, h))

  elements_of-values : (xs : List (Elem o)) → elements_of (values xs) ≡ xs
  elements_of-values [] = refl
  elements_of-values (x ∷ xs) = ap₂ (λ y ys. y ∷ ys) (element_or_zero-value x) (elements_of-values xs)

  pub values-elements_of : (xs : List E) → list_all o.is_elem xs ≡ true → values (elements_of xs) ≡ xs
  values-elements_of [] h = refl
  values-elements_of (x ∷ xs) h =
      let parts = and_parts (o.is_elem x) (list_all o.is_elem xs) h in
      ap₂ (λ y ys. y ∷ ys) (value-element_or_zero x parts.0) (values-elements_of xs parts.1)

  -- ---- lists of values and polynomials

  trim_of_trimmed : (xs : List (Elem o)) → IsTrimmed F.zero xs → trim F.is_zero xs ≡ xs
  trim_of_trimmed xs t =
      IsTrimmed-injective F.zero (trim F.is_zero xs) xs (IsTrimmed-trim F.zero_test xs) t (get_or-trim F.zero_test xs)

  pub polynomial_of-values : (p : Poly F.cring) → polynomial_of o L (values p.0) ≡ p
  polynomial_of-values p = Poly-path F.cring (polynomial_of o L (values p.0)) p (λ k.
      ap (λ xs. get_or (trim F.is_zero xs) k F.zero) (elements_of-values p.0) ∙ get_or-trim F.zero_test p.0 k)

  list_all-values : (xs : List (Elem o)) → list_all o.is_elem (values xs) ≡ true
  list_all-values [] = refl
  list_all-values (x ∷ xs) = and_from (o.is_elem x.0) (list_all o.is_elem (values xs)) x.1 (list_all-values xs)

  is_trimmed-values : (xs : List (Elem o)) → IsTrimmed F.zero xs → is_trimmed o.is_zero (values xs) ≡ true
  is_trimmed-values [] t = refl
  is_trimmed-values (x ∷ []) t = go (o.is_zero x.0) refl
    where
      go : (b : Bool) → o.is_zero x.0 ≡ b → not b ≡ true
      go true e = absurd (t (F.is_zero-sound x e))
      go false e = refl
  is_trimmed-values (x ∷ y ∷ ys) t = is_trimmed-values (y ∷ ys) t

  is_polynomial-values : (p : Poly F.cring) → is_polynomial o L (values p.0) ≡ true
  is_polynomial-values p =
      and_from (list_all o.is_elem (values p.0)) (is_trimmed o.is_zero (values p.0)) (list_all-values p.0)
      (is_trimmed-values p.0 p.1)

  IsTrimmed-elements_of : (xs : List E) → list_all o.is_elem xs ≡ true → is_trimmed o.is_zero xs ≡ true
      → IsTrimmed F.zero (elements_of xs)
  IsTrimmed-elements_of [] h t = tt
  IsTrimmed-elements_of (x ∷ []) h t =
      let parts = and_parts (o.is_elem x) true h in
      λ e. both_ways (o.is_zero x) (not-true (o.is_zero x) t)
      (ap o.is_zero (sym (value-element_or_zero x parts.0) ∙ ap (λ (a : Elem o). a.0) e) ∙ L.is_zero-zero)
  IsTrimmed-elements_of (x ∷ y ∷ ys) h t =
      let parts = and_parts (o.is_elem x) (list_all o.is_elem (y ∷ ys)) h in IsTrimmed-elements_of (y ∷ ys) parts.1 t

  pub values-polynomial_of : (xs : List E) → is_polynomial o L xs ≡ true → values (polynomial_of o L xs).0 ≡ xs
  values-polynomial_of xs h =
      let parts = and_parts (list_all o.is_elem xs) (is_trimmed o.is_zero xs) h in
      ap values (trim_of_trimmed (elements_of xs) (IsTrimmed-elements_of xs parts.0 parts.1))
      ∙ values-elements_of xs parts.0

  -- ---- pairs and rational functions

  Lowest-path : (x y : RationalFunction o L) → x.0.0 ≡ y.0.0 → x.0.1 ≡ y.0.1 → x ≡ y
  Lowest-path x y e f = Σ_prop_path (λ w. IsLowest-prop F w.0 w.1) {u = x} {v = y} (ap₂ (λ u v. (u, v)) e f)

  rational_function-lowest : (w : Pair E) (x : RationalFunction o L) → polynomial_of o L w.0 ≡ x.0.0
      → polynomial_of o L w.1 ≡ x.0.1
      → rational_function o L w ≡ x
  unfolding rational_function
  rational_function-lowest w x e f = go (is_lowest F u v) refl
    where
      u : Poly F.cring
      u = polynomial_of o L w.0

      v : Poly F.cring
      v = polynomial_of o L w.1

      go : (b : Bool) (h : is_lowest F u v ≡ b) → rational_function_if o L u v b h ≡ x
      go true h = Lowest-path ((u, v), is_lowest-sound F u v h) x e f
      go false h = absurd (both_ways (is_lowest F u v) h (ap₂ (is_lowest F) e f ∙ is_lowest-complete F x.0.0 x.0.1 x.1))

  pub rational_function-pair_of : (x : RationalFunction o L) → rational_function o L (pair_of o L x) ≡ x
  rational_function-pair_of x =
      rational_function-lowest (pair_of o L x) x (polynomial_of-values x.0.0) (polynomial_of-values x.0.1)

  pub is_fraction-pair_of : (x : RationalFunction o L) → is_fraction o L (pair_of o L x) ≡ true
  unfolding is_fraction
  is_fraction-pair_of x =
      let u : List E = values x.0.0.0 in
      let v : List E = values x.0.1.0 in
      let low : Bool = is_lowest F (polynomial_of o L u) (polynomial_of o L v) in
      and_from (is_polynomial o L u) (is_polynomial o L v && low) (is_polynomial-values x.0.0)
      (and_from (is_polynomial o L v) low (is_polynomial-values x.0.1)
      (ap₂ (is_lowest F) (polynomial_of-values x.0.0) (polynomial_of-values x.0.1)
      ∙ is_lowest-complete F x.0.0 x.0.1 x.1))

  pub is_fraction-parts : (w : Pair E) → is_fraction o L w ≡ true
      → (is_polynomial o L w.0 ≡ true) × (is_polynomial o L w.1 ≡ true)
      × Lowest F (polynomial_of o L w.0) (polynomial_of o L w.1)
  unfolding is_fraction
  is_fraction-parts w h =
      let low : Bool = is_lowest F (polynomial_of o L w.0) (polynomial_of o L w.1) in
      let first = and_parts (is_polynomial o L w.0) (is_polynomial o L w.1 && low) h in
      let second = and_parts (is_polynomial o L w.1) low first.1 in
      (first.0, second.0, is_lowest-sound F (polynomial_of o L w.0) (polynomial_of o L w.1) second.1)

  pub rational_function_eq : (w : Pair E) (h : is_fraction o L w ≡ true)
      → rational_function o L w ≡ ((polynomial_of o L w.0, polynomial_of o L w.1), (is_fraction-parts w h).2)
  rational_function_eq w h =
      rational_function-lowest w ((polynomial_of o L w.0, polynomial_of o L w.1), (is_fraction-parts w h).2) refl refl

  pub pair_of-rational_function : (w : Pair E) → is_fraction o L w ≡ true → pair_of o L (rational_function o L w) ≡ w
  pair_of-rational_function w h =
      let parts = is_fraction-parts w h in
      ap (pair_of o L) (rational_function_eq w h)
      ∙ ap₂ (λ u v. (u, v)) (values-polynomial_of w.0 parts.0) (values-polynomial_of w.1 parts.1)

  -- ---- constants

  pub polynomial_of-nil : polynomial_of o L [] ≡ P.zero
  polynomial_of-nil = Poly-path F.cring (polynomial_of o L []) P.zero
      (λ k. sym (coefficient-zero F.cring F.zero_test k))

  pub polynomial_of-one : polynomial_of o L (o.one ∷ []) ≡ P.one
  polynomial_of-one = Poly-path F.cring (polynomial_of o L (o.one ∷ [])) P.one (λ k.
      get_or-trim F.zero_test (elements_of (o.one ∷ [])) k
      ∙ ap (λ x. get_or (x ∷ []) k F.zero) (element_or_zero-value F.one)
      ∙ each k ∙ sym (coefficient-one F.cring F.zero_test k))
    where
      each : (k : ℕ) → get_or (F.one ∷ []) k F.zero ≡ constant_coefficients F.zero F.one k
      each zero = refl
      each (suc k) = refl

  -- a polynomial over 1
  Lowest-one : (u : Poly F.cring) → Lowest F u P.one
  Lowest-one u = record {
    monic = record {
      nonzero = length_pos F.cring F.zero_test P.one (poly_one-ne-zero F);
      leading = ap (λ p. coefficient F.cring p (degree p.0)) (sym (constant-one F.cring F.zero_test))
          ∙ lead-constant F.cring F.zero_test F.one;
    };
    coprime = λ g a b. degree_of_divides_one F g b;
  }

  is_polynomial-one : is_polynomial o L (o.one ∷ []) ≡ true
  is_polynomial-one = and_from (list_all o.is_elem (o.one ∷ [])) (is_trimmed o.is_zero (o.one ∷ []))
      (and_from (o.is_elem o.one) true L.one-elem refl) (go (o.is_zero o.one) refl)
    where
      go : (b : Bool) → o.is_zero o.one ≡ b → not b ≡ true
      go true e = absurd (L.one-nonzero (L.is_zero-sound o.one L.one-elem e))
      go false e = refl

  -- a list over 1 is a fraction
  pub is_fraction-one : (u : List E) → is_polynomial o L u ≡ true → is_fraction o L (u, o.one ∷ []) ≡ true
  unfolding is_fraction
  is_fraction-one u h =
      let low : Bool = is_lowest F (polynomial_of o L u) (polynomial_of o L (o.one ∷ [])) in
      and_from (is_polynomial o L u) (is_polynomial o L (o.one ∷ []) && low) h
      (and_from (is_polynomial o L (o.one ∷ [])) low is_polynomial-one
      (ap (is_lowest F (polynomial_of o L u)) polynomial_of-one
      ∙ is_lowest-complete F (polynomial_of o L u) P.one (Lowest-one (polynomial_of o L u))))

  -- ---- the field

  abbrev I : IsFractionField P (Lowest F) K
  I = is_rational_functions F

  same_path : (x y : RationalFunction o L) → SameFraction P x.0.0 x.0.1 y.0.0 y.0.1 → x ≡ y
  same_path = Fraction-path P (Lowest F) (polynomial_reduction F)

  pub numerator-zero : K.zero.0.0 ≡ P.zero
  numerator-zero = sym (P.mul-one K.zero.0.0) ∙ I.zero_value ∙ zero-mul P.ring K.zero.0.1

  -- a rational function with the numerator 0 is 0
  pub eq_zero_of_numerator : (x : RationalFunction o L) → x.0.0 ≡ P.zero → x ≡ K.zero
  eq_zero_of_numerator x e = same_path x K.zero
      (ap (λ u. P.◌⊗◌ u K.zero.0.1) e ∙ zero-mul P.ring K.zero.0.1
      ∙ sym (ap (λ u. P.◌⊗◌ u x.0.1) numerator-zero ∙ zero-mul P.ring x.0.1))

  rational_function-zero : rational_function o L ([], o.one ∷ []) ≡ K.zero
  rational_function-zero =
      rational_function-lowest ([], o.one ∷ []) ((P.zero, P.one), Lowest-one P.zero) polynomial_of-nil polynomial_of-one
      ∙ eq_zero_of_numerator ((P.zero, P.one), Lowest-one P.zero) refl

  pub rational_function-one : rational_function o L (o.one ∷ [], o.one ∷ []) ≡ K.one
  rational_function-one =
      rational_function-lowest (o.one ∷ [], o.one ∷ [])
      ((P.one, P.one), Lowest-one P.one) polynomial_of-one polynomial_of-one
      ∙ sym (same_path K.one ((P.one, P.one), Lowest-one P.one) I.one_value)

  pub rational_function_injective : (a b : Pair E) → is_fraction o L a ≡ true → is_fraction o L b ≡ true
      → rational_function o L a ≡ rational_function o L b → a ≡ b
  rational_function_injective a b ha hb e =
      sym (pair_of-rational_function a ha) ∙ ap (pair_of o L) e ∙ pair_of-rational_function b hb

  is_fraction-zero : is_fraction o L ([], o.one ∷ []) ≡ true
  is_fraction-zero = is_fraction-one [] refl

  -- a fraction without a numerator is 0
  pub eq_zero_of_empty : (w : Pair E) → is_fraction o L w ≡ true → w.0 ≡ [] → w ≡ ([], o.one ∷ [])
  eq_zero_of_empty w h e =
      rational_function_injective w ([], o.one ∷ []) h is_fraction-zero
      (rational_function_eq w h
      ∙ eq_zero_of_numerator ((polynomial_of o L w.0, polynomial_of o L w.1), (is_fraction-parts w h).2)
      (ap (polynomial_of o L) e ∙ polynomial_of-nil)
      ∙ sym rational_function-zero)

  empty_of_test : (xs : List E) → is_empty xs ≡ true → xs ≡ []
  empty_of_test [] e = refl
  empty_of_test (x ∷ xs) e = absurd (both_ways false refl e)

  embedding : FieldEmbedding (fraction_ops o L) K.cring
  unfolding fraction_ops
  embedding = record {
    zero-elem = is_fraction-zero;
    one-elem = is_fraction-one (o.one ∷ []) is_polynomial-one;
    add-elem = λ a b _ _. is_fraction-pair_of (K.◌⊕◌ (rational_function o L a) (rational_function o L b));
    neg-elem = λ a _. is_fraction-pair_of (K.neg (rational_function o L a));
    mul-elem = λ a b _ _. is_fraction-pair_of (K.◌⊗◌ (rational_function o L a) (rational_function o L b));
    inv-elem = λ a _. is_fraction-pair_of (K.inv (rational_function o L a));
    map = λ a. rational_function o L a.0;
    injective = λ a b e. rational_function_injective a.0 b.0 a.1 b.1 e;
    map-zero = rational_function-zero;
    map-one = rational_function-one;
    map-add = λ a b. rational_function-pair_of (K.◌⊕◌ (rational_function o L a.0) (rational_function o L b.0));
    map-neg = λ a. rational_function-pair_of (K.neg (rational_function o L a.0));
    map-mul = λ a b. rational_function-pair_of (K.◌⊗◌ (rational_function o L a.0) (rational_function o L b.0));
    map-inv = λ a h.
        ap (λ x. K.◌⊗◌ x (rational_function o L a.0)) (rational_function-pair_of (K.inv (rational_function o L a.0)))
        ∙ K.inv-mul (rational_function o L a.0)
        (λ e. h (rational_function_injective a.0 ([], o.one ∷ []) a.1 is_fraction-zero
        (e ∙ sym rational_function-zero)));
    is_zero-sound = λ a h e. eq_zero_of_empty a h (empty_of_test a.0 e);
    is_zero-zero = refl;
    one-nonzero = K.one-nonzero;
  }

  pub fraction_laws : FieldLaws (fraction_ops o L)
  fraction_laws = embedded_field (fraction_ops o L) K.cring embedding
