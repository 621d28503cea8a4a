-- The ring of polynomials: a trimmed list is what its coefficients are, and those are a ring under convolution.
use Rattle.std.specs.Prelude.{◌≡◌, ◌≢◌, ℕ, zero, suc, ◌+◌, ◌-◌, ◌≤◌, Bool, true, false, cond, List, [], ◌∷◌, length}
use Rattle.std.specs.Prelude.{get_or}
use Rattle.std.proofs.Common.{refl, sym, ◌∙◌, ap, ap₂, arith, ⊎_elim}
use Rattle.std.proofs.Math.Path.{fun_ext}
use Rattle.std.proofs.lemmas.Bool.{cases_lt}
use Rattle.std.proofs.lemmas.List.{get_or_past}
use mathlib.Core.HLevel.{Σ_prop_path}
use Rattle.theory_rings.specs.Ring.{CommRingOn, ZeroTest}
use Rattle.theory_rings.specs.Sum.{table}
use Rattle.theory_rings.specs.Polynomial.{IsTrimmed, put_before, trim, Poly, coefficient, convolution}
use Rattle.theory_rings.specs.Polynomial.{constant_coefficients, IsPolynomialRing}
use Rattle.theory_rings.proofs.Rings.RingLaws.{zero-mul, mul-zero, neg_zero}
use Rattle.theory_rings.proofs.Rings.ZeroTests.{is_zero-complete}
use Rattle.theory_rings.proofs.Sums.Lists.{get_or-table_default}
use Rattle.theory_rings.proofs.Rings.Embedding.{RingEmbedding, embedded_comm_ring}
use Rattle.theory_rings.proofs.Polynomials.Series.{series, convolution_eq_zero}

module _ {X : Type 0} (nought : X) where
  pub IsTrimmed-prop : (xs : List X) → IsProp (IsTrimmed nought xs)
  IsTrimmed-prop [] = hlevel
  IsTrimmed-prop (x ∷ []) = hlevel
  IsTrimmed-prop (x ∷ y ∷ ys) = IsTrimmed-prop (y ∷ ys)

  pub IsTrimmed-tail : (x : X) (xs : List X) → IsTrimmed nought (x ∷ xs) → IsTrimmed nought xs
  IsTrimmed-tail x [] h = tt
  IsTrimmed-tail x (y ∷ ys) h = h

  -- the last item of a trimmed list
  pub last-ne-zero : (x : X) (xs : List X) → IsTrimmed nought (x ∷ xs) → get_or (x ∷ xs) (length xs) nought ≢ nought
  last-ne-zero x [] h = h
  last-ne-zero x (y ∷ ys) h = last-ne-zero y ys h

  -- a trimmed list is what its items are
  pub IsTrimmed-injective : (xs ys : List X) → IsTrimmed nought xs → IsTrimmed nought ys
      → ((k : ℕ) → get_or xs k nought ≡ get_or ys k nought) → xs ≡ ys
  IsTrimmed-injective [] [] hx hy e = refl
  IsTrimmed-injective [] (y ∷ ys) hx hy e = absurd (last-ne-zero y ys hy (sym (e (length ys))))
  IsTrimmed-injective (x ∷ xs) [] hx hy e = absurd (last-ne-zero x xs hx (e (length xs)))
  IsTrimmed-injective (x ∷ xs) (y ∷ ys) hx hy e =
      ap₂ (λ z zs. z ∷ zs) (e 0)
      (IsTrimmed-injective xs ys (IsTrimmed-tail x xs hx) (IsTrimmed-tail y ys hy) (λ k. e (suc k)))

  pub constant_past : (c : X) (k : ℕ) → 1 ≤ k → constant_coefficients nought c k ≡ nought
  constant_past c zero l = absurd (omega arith)
  constant_past c (suc k) l = refl

abbrev pub is_empty : {X : Type 0} → List X → Bool
is_empty [] = true
is_empty (x ∷ xs) = false

is_empty-sound : {X : Type 0} (xs : List X) → is_empty xs ≡ true → xs ≡ []
is_empty-sound [] e = refl
is_empty-sound (x ∷ xs) e = cc

-- the series with c before the coefficients of f
abbrev pub series_prepend : {X : Type 0} → X → (ℕ → X) → ℕ → X
series_prepend c f zero = c
series_prepend c f (suc k) = f k

module _ {X : Type 0} {nought : X} {is_zero : X → Bool} (Z : ZeroTest nought is_zero) where
  get_or-put_before : (x : X) (xs : List X) (k : ℕ)
      → get_or (put_before is_zero x xs) k nought ≡ get_or (x ∷ xs) k nought
  get_or-put_before x [] k = go (is_zero x) refl k
    where
      go : (b : Bool) → is_zero x ≡ b → (k : ℕ) → get_or (cond b [] (x ∷ [])) k nought ≡ get_or (x ∷ []) k nought
      go true e zero = sym (Z.is_zero-sound x e)
      go true e (suc k) = refl
      go false e k = refl
  get_or-put_before x (y ∷ ys) k = refl

  IsTrimmed-put_before : (x : X) (xs : List X) → IsTrimmed nought xs → IsTrimmed nought (put_before is_zero x xs)
  IsTrimmed-put_before x [] h = go (is_zero x) refl
    where
      go : (b : Bool) → is_zero x ≡ b → IsTrimmed nought (cond b [] (x ∷ []))
      go true e = tt
      go false e = is_zero-complete Z x e
  IsTrimmed-put_before x (y ∷ ys) h = h

  pub IsTrimmed-trim : (xs : List X) → IsTrimmed nought (trim is_zero xs)
  IsTrimmed-trim [] = tt
  IsTrimmed-trim (x ∷ xs) = IsTrimmed-put_before x (trim is_zero xs) (IsTrimmed-trim xs)

  pub get_or-trim : (xs : List X) (k : ℕ) → get_or (trim is_zero xs) k nought ≡ get_or xs k nought
  get_or-trim [] k = refl
  get_or-trim (x ∷ xs) zero = get_or-put_before x (trim is_zero xs) zero
  get_or-trim (x ∷ xs) (suc k) = get_or-put_before x (trim is_zero xs) (suc k) ∙ get_or-trim xs k

  -- the only trimmed list with these items
  pub trim_unique : (n : ℕ) (f : ℕ → X) (xs : List X) → IsTrimmed nought xs → ((k : ℕ) → n ≤ k → f k ≡ nought)
      → ((k : ℕ) → get_or xs k nought ≡ f k) → xs ≡ trim is_zero (table n f)
  trim_unique n f xs h past e =
      IsTrimmed-injective nought xs (trim is_zero (table n f)) h (IsTrimmed-trim (table n f))
      (λ k. e k ∙ sym (get_or-trim (table n f) k ∙ get_or-table_default n f nought past k))

module _ {K : Type 0} (R : CommRingOn K) where
  -- two polynomials with the same coefficients are one
  pub Poly-path : (a b : Poly R) → ((k : ℕ) → coefficient R a k ≡ coefficient R b k) → a ≡ b
  Poly-path a b e = Σ_prop_path (IsTrimmed-prop R.zero) {u = a} {v = b} (IsTrimmed-injective R.zero a.0 b.0 a.1 b.1 e)

  pub coefficient_past : (a : Poly R) (k : ℕ) → length a.0 ≤ k → coefficient R a k ≡ R.zero
  coefficient_past a k h = get_or_past a.0 k R.zero h

  pub convolution_past : (m n : ℕ) (f g : ℕ → K) → ((k : ℕ) → m ≤ k → f k ≡ R.zero) → ((k : ℕ) → n ≤ k → g k ≡ R.zero)
      → (k : ℕ) → m + n ≤ k → convolution R.ring f g k ≡ R.zero
  convolution_past m n f g hf hg k h =
      convolution_eq_zero R.ring f g k (λ i l. ⊎_elim
      (λ b. ap (R.◌⊗◌ (f i)) (hg (k - i) (omega arith)) ∙ mul-zero R.ring (f i))
      (λ b. ap (λ x. R.◌⊗◌ x (g (k - i))) (hf i b) ∙ zero-mul R.ring (g (k - i)))
      (cases_lt i m))

module _ {K : Type 0} (R : CommRingOn K) {is_zero : K → Bool} (Z : ZeroTest R.zero is_zero) where
  -- the polynomial of the first n coefficients
  pub polynomial : ℕ → (ℕ → K) → Poly R
  polynomial n f = (trim is_zero (table n f), IsTrimmed-trim Z (table n f))

  pub coefficient-polynomial : (n : ℕ) (f : ℕ → K) → ((k : ℕ) → n ≤ k → f k ≡ R.zero) → (k : ℕ)
      → coefficient R (polynomial n f) k ≡ f k
  unfolding polynomial
  coefficient-polynomial n f h k = get_or-trim Z (table n f) k ∙ get_or-table_default n f R.zero h k

  abbrev sum_coefficients : Poly R → Poly R → ℕ → K
  sum_coefficients a b k = R.◌⊕◌ (coefficient R a k) (coefficient R b k)

  abbrev product_coefficients : Poly R → Poly R → ℕ → K
  product_coefficients a b = convolution R.ring (coefficient R a) (coefficient R b)

  abbrev opposite_coefficients : Poly R → ℕ → K
  opposite_coefficients a k = R.neg (coefficient R a k)

  -- the coefficients embed the polynomials into the series
  embedding : RingEmbedding (Poly R) (series R).ring
  embedding = record {
    zero = ([], tt);
    one = polynomial 1 (constant_coefficients R.zero R.one);
    add = λ a b. polynomial (length a.0 + length b.0) (sum_coefficients a b);
    neg = λ a. polynomial (length a.0) (opposite_coefficients a);
    mul = λ a b. polynomial (length a.0 + length b.0) (product_coefficients a b);
    map = coefficient R;
    injective = λ a b e. Poly-path R a b (λ k. ap (λ f. f k) e);
    map-zero = refl;
    map-one = fun_ext (coefficient-polynomial 1 (constant_coefficients R.zero R.one) (constant_past R.zero R.one));
    map-add = λ a b. fun_ext (coefficient-polynomial (length a.0 + length b.0) (sum_coefficients a b)
        (λ k l. ap₂ R.◌⊕◌ (coefficient_past R a k (omega arith)) (coefficient_past R b k (omega arith))
        ∙ R.zero-add R.zero));
    map-neg = λ a. fun_ext (coefficient-polynomial (length a.0) (opposite_coefficients a)
        (λ k l. ap R.neg (coefficient_past R a k l) ∙ neg_zero R.additive));
    map-mul = λ a b. fun_ext (coefficient-polynomial (length a.0 + length b.0) (product_coefficients a b)
        (convolution_past R (length a.0) (length b.0) (coefficient R a) (coefficient R b) (coefficient_past R a)
        (coefficient_past R b)));
  }

  -- the ring of polynomials
  pub polynomials : CommRingOn (Poly R)
  polynomials = embedded_comm_ring (series R) embedding

  pub zero-list : polynomials.zero.0 ≡ []
  unfolding polynomials embedding
  zero-list = refl

  pub coefficient-zero : (k : ℕ) → coefficient R polynomials.zero k ≡ R.zero
  unfolding polynomials embedding
  coefficient-zero k = refl

  pub coefficient-one : (k : ℕ) → coefficient R polynomials.one k ≡ constant_coefficients R.zero R.one k
  unfolding polynomials embedding
  coefficient-one k = ap (λ f. f k) embedding.map-one

  pub coefficient-add : (a b : Poly R) (k : ℕ)
      → coefficient R (polynomials.◌⊕◌ a b) k ≡ R.◌⊕◌ (coefficient R a k) (coefficient R b k)
  unfolding polynomials embedding
  coefficient-add a b k = ap (λ f. f k) (embedding.map-add a b)

  pub coefficient-neg : (a : Poly R) (k : ℕ) → coefficient R (polynomials.neg a) k ≡ R.neg (coefficient R a k)
  unfolding polynomials embedding
  coefficient-neg a k = ap (λ f. f k) (embedding.map-neg a)

  pub coefficient-mul : (a b : Poly R) (k : ℕ)
      → coefficient R (polynomials.◌⊗◌ a b) k ≡ convolution R.ring (coefficient R a) (coefficient R b) k
  unfolding polynomials embedding
  coefficient-mul a b k = ap (λ f. f k) (embedding.map-mul a b)

  pub is_polynomial_ring : IsPolynomialRing R polynomials
  is_polynomial_ring = record {
    coefficient-zero = coefficient-zero;
    coefficient-one = coefficient-one;
    coefficient-add = coefficient-add;
    coefficient-neg = coefficient-neg;
    coefficient-mul = coefficient-mul;
  }

  -- a test of the polynomial 0
  abbrev pub is_zero_poly : Poly R → Bool
  is_zero_poly a = is_empty a.0

  pub zero_poly_test : ZeroTest polynomials.zero is_zero_poly
  zero_poly_test = record {
    is_zero-sound = λ a e.
        Poly-path R a polynomials.zero
        (λ k. ap (λ xs. get_or xs k R.zero) (is_empty-sound a.0 e) ∙ sym (coefficient-zero k));
    is_zero-zero = ap is_empty zero-list;
  }

  -- the constant polynomial c
  pub constant : K → Poly R
  constant c = polynomial 1 (constant_coefficients R.zero c)

  pub coefficient-constant : (c : K) (k : ℕ) → coefficient R (constant c) k ≡ constant_coefficients R.zero c k
  unfolding constant
  coefficient-constant c k = coefficient-polynomial 1 (constant_coefficients R.zero c) (constant_past R.zero c) k

  -- c + t · a, in the variable t
  pub prepend : K → Poly R → Poly R
  prepend c a = polynomial (suc (length a.0)) (series_prepend c (coefficient R a))

  pub coefficient-prepend : (c : K) (a : Poly R) (k : ℕ)
      → coefficient R (prepend c a) k ≡ series_prepend c (coefficient R a) k
  unfolding prepend
  coefficient-prepend c a k =
      coefficient-polynomial (suc (length a.0)) (series_prepend c (coefficient R a)) past k
    where
      past : (k : ℕ) → suc (length a.0) ≤ k → series_prepend c (coefficient R a) k ≡ R.zero
      past zero l = absurd (omega arith)
      past (suc k) l = coefficient_past R a k (omega arith)

  -- each list is its first item put before its tail
  pub prepend-tail : (x : K) (xs : List K) (h : IsTrimmed R.zero (x ∷ xs))
      → prepend x (xs, IsTrimmed-tail R.zero x xs h) ≡ (x ∷ xs, h)
  prepend-tail x xs h = Poly-path R (prepend x (xs, IsTrimmed-tail R.zero x xs h)) (x ∷ xs, h) same
    where
      same : (k : ℕ) → coefficient R (prepend x (xs, IsTrimmed-tail R.zero x xs h)) k ≡ get_or (x ∷ xs) k R.zero
      same zero = coefficient-prepend x (xs, IsTrimmed-tail R.zero x xs h) 0
      same (suc k) = coefficient-prepend x (xs, IsTrimmed-tail R.zero x xs h) (suc k)
