-- A verified guess is an identity.
use Rattle.std.specs.Prelude.{◌≡◌, ◌≢◌, ◌<◌, ℕ, ◌+◌, ◌*◌, Bool, true, false, List, [], ◌∷◌, ◌++◌, length, get_or, All}
use Rattle.std.specs.Prelude.{cond, nat_eq}
use Rattle.std.proofs.Common.{refl, sym, ◌∙◌, ap, ap₂, subst, arith, below_more, length-append}
use Rattle.std.proofs.lemmas.List.{get_or_default, get_or_push}
use Rattle.std.proofs.Math.ListN.{get_or-append}
use Rattle.theory_rings.specs.Ring.{FieldOn, CommRingOn}
use Rattle.theory_rings.specs.Ops.{Ops, IsElem, FieldLaws}
use Rattle.theory_rings.specs.Elements.{Elem, Elem-path, elements}
use Rattle.theory_rings.specs.Polynomial.{Poly}
use Rattle.theory_rings.specs.Sum.{at, sum_of}
use Rattle.theory_rings.proofs.Rings.Elements.{at-elem, sum_of-elem, sum_of_congr}
use Rattle.theory_rings.proofs.Rings.Fields.{mul_left_cancel}
use Rattle.theory_rings.proofs.Rings.Solver.{◌⊠◌, ring4}
use Rattle.theory_rings.proofs.Polynomials.Bezout.{field_polynomials}
use Rattle.theory_spaces.specs.Tuples.{IsTuple, basis, product}
use Rattle.theory_spaces.proofs.Tuples.Tuples.{at-table, IsTuple-ext}
use Rattle.theory_spaces.proofs.Tuples.TupleProducts.{IsTuple-basis, IsTuple-product}
use Rattle.theory_tables.specs.Structure.{Structure, IsOver}
use Rattle.theory_tables.specs.Algebras.{IsIdentity}
use Rattle.theory_tables.proofs.Rows.Sums.{mul-sum_of}
use Rattle.theory_fractions.specs.PolynomialLists.{IsPolynomialList, IsProduct}
use Rattle.theory_fractions.specs.Fraction.{Pair, IsLowestTerms, IsFraction}
use Rattle.theory_fractions.specs.FractionOps.{fraction_ops, polynomial_of}
use Rattle.theory_fractions.specs.CommonDenominator.{as_fraction}
use Rattle.theory_fractions.proofs.Coefficients.{mul-zero_elem}
use Rattle.theory_fractions.proofs.FractionField.{fraction_laws}
use Rattle.theory_fractions.proofs.ElementClauses.{ne_zero, zero_is, mul_is, lowest_of_elem}
use Rattle.theory_fractions.proofs.PairEquations.{pair_over, product_of_eq}
use Rattle.theory_fractions.proofs.PolynomialFractions.{as_fraction-elem, as_fraction-mul}
use Rattle.theory_fractions.proofs.Reducing.{eq_of_fraction, lowest_over_one}
use Rattle.theory_rows.specs.Rows.{IsPolynomialRow}
use Rattle.spl_algebra.proofs.Contractions.{at-product_basis, at-basis_product, constant_within}
use Rattle.spl_numerators.specs.Numerators.{HasMultiples}
use Rattle.spl_numerators.specs.Sums.{fraction_at, sum_of_products}
use Rattle.spl_numerators.proofs.Triples.{left_place, right_place}
use Rattle.spl_centre.specs.Guess.{unit, IsQuotient, AreQuotients, SolvesAt}
use Rattle.spl_centre.proofs.Rows.{polynomial_of_row}

module _ {E : Type 0} (o : Ops E) (L : FieldLaws o) where
  abbrev K : Ops (Pair E)
  K = fraction_ops o L

  abbrev laws : FieldLaws K
  laws = fraction_laws o L

  abbrev F : FieldOn (Elem o)
  F = elements o L

  abbrev P : CommRingOn (Poly F.cring)
  P = field_polynomials F

  abbrev poly : List E → Poly F.cring
  poly = polynomial_of o L

  -- the fraction u/v times v is u
  pub quotient_of : (u v : List E) (w : Pair E) → IsPolynomialList o u → IsPolynomialList o v → IsElem K w
      → IsFraction o w u v → IsQuotient o L u v w
  quotient_of u v w hu hv hw e =
      let h : IsLowestTerms o w.0 w.1 = lowest_of_elem o L w hw in
      let low_u : IsLowestTerms o u (o.one ∷ []) = lowest_over_one o L u hu in
      let low_v : IsLowestTerms o v (o.one ∷ []) = lowest_over_one o L v hv in
      let i : Poly F.cring = poly (o.one ∷ []) in
      record {
        elem = hw;
        value = sym (mul_is o L w (as_fraction o v) (as_fraction o u) hw (as_fraction-elem o L v hv) low_u
            (product_of_eq o L w (as_fraction o v) (as_fraction o u) (pair_over o L w h)
            (pair_over o L (as_fraction o v) low_v) (pair_over o L (as_fraction o u) low_u)
            (sym (P.mul_assoc (poly u) (poly w.1) i)
            ∙ ap (λ x. P.◌⊗◌ x i)
            (sym (eq_of_fraction o L w u v h.numerator_over h.denominator_over hu.over hv.over e)))));
      }

  -- quotients are listed one by one
  pub record QuotientsBelow (weights : List (List E)) (m n : ℕ) (items : List (Pair E)) : Type 0 where
    pub count : length items ≡ n
    pub quotient : (l : ℕ) → l < n → IsQuotient o L (get_or weights l []) (get_or weights m []) (get_or items l K.zero)

  pub no_quotients : (weights : List (List E)) (m : ℕ) (items : List (Pair E)) → items ≡ []
      → QuotientsBelow weights m 0 items
  no_quotients weights m items e = record { count = ap length e; quotient = λ l h. absurd (omega arith) }

  pub more_quotients : (weights : List (List E)) (m n : ℕ) (items new : List (Pair E)) (w : Pair E)
      → QuotientsBelow weights m n items → new ≡ items ++ w ∷ []
      → IsQuotient o L (get_or weights n []) (get_or weights m []) w → QuotientsBelow weights m (n + 1) new
  more_quotients weights m n items new w h e q = record {
    count = ap length e ∙ length-append items (w ∷ []) ∙ omega (arith, h.count);
    quotient = below_more
        (λ l. IsQuotient o L (get_or weights l []) (get_or weights m []) (get_or new l K.zero)) n
        (λ l l_in. subst (IsQuotient o L (get_or weights l []) (get_or weights m []))
        (sym (ap (λ xs. get_or xs l K.zero) e ∙ get_or-append items (w ∷ []) K.zero l (omega (arith, h.count))))
        (h.quotient l l_in))
        (subst (IsQuotient o L (get_or weights n []) (get_or weights m []))
        (sym (ap (λ xs. get_or xs n K.zero) e ∙ get_or_push items w K.zero n (omega (arith, h.count)))) q);
  }

  pub all_quotients : (weights : List (List E)) (m n : ℕ) (items : List (Pair E)) → QuotientsBelow weights m n items
      → n ≡ m → AreQuotients o L weights m items
  all_quotients weights m n items h e = record {
    count = h.count ∙ e;
    quotient = λ l l_in. h.quotient l (omega (arith, l_in, e));
  }

  -- (e·y)·(c·g) = (y·c)·(e·g)
  exchanged : (e y c g : Pair E) → IsElem K e → IsElem K y → IsElem K c → IsElem K g
      → K.mul (K.mul e y) (K.mul c g) ≡ K.mul (K.mul y c) (K.mul e g)
  exchanged e y c g he hy hc hg = ap (λ (x : Elem K). x.0)
      (ring4 (elements K laws).cring (λ e y c g. ((e ⊠ y) ⊠ (c ⊠ g), (y ⊠ c) ⊠ (e ⊠ g))) refl (e, he) (y, hy) (c, hc)
      (g, hg))

  -- s·x = s·y only where x = y, for s other than 0
  cancelled : (s x y : Pair E) → IsElem K s → IsElem K x → IsElem K y → s ≢ K.zero → K.mul s x ≡ K.mul s y → x ≡ y
  cancelled s x y hs hx hy nonzero e =
      let G : FieldOn (Elem K) = elements K laws in
      ap (λ (z : Elem K). z.0) (mul_left_cancel G (s, hs) (x, hx) (y, hy) (λ z. nonzero (ap (λ (a : Elem K). a.0) z))
      (Elem-path K (G.◌⊗◌ (s, hs) (x, hx)) (G.◌⊗◌ (s, hs) (y, hy)) e))

  module _ (A : Structure (Pair E)) (over : IsOver K A) (c : List E) (hc : IsPolynomialList o c) (c-ne : c ≢ [])
      (entries : List (List E)) (multiples : HasMultiples o L c A.constants (A.dim * A.dim * A.dim) entries)
      (weights : List (List E)) (row : IsPolynomialRow o (A.dim + 1) weights) (items : List (Pair E))
      (quotients : AreQuotients o L weights A.dim items) (y-ne : get_or weights A.dim [] ≢ []) (scale : List E)
      (scale_is : IsPolynomialList o scale) (scale_value : IsProduct o (get_or weights A.dim []) c scale)
      (solves : (j k : ℕ) → j < A.dim → k < A.dim → SolvesAt o L weights entries A.dim scale j k) where
    abbrev m : ℕ
    m = A.dim

    abbrev cs : List (Pair E)
    cs = A.constants

    abbrev y : List E
    y = get_or weights m []

    abbrev Y : Pair E
    Y = as_fraction o y

    abbrev C : Pair E
    C = as_fraction o c

    y-is : IsPolynomialList o y
    y-is = polynomial_of_row o (m + 1) weights m row (omega arith)

    Y-elem : IsElem K Y
    Y-elem = as_fraction-elem o L y y-is

    C-elem : IsElem K C
    C-elem = as_fraction-elem o L c hc

    S : Pair E
    S = K.mul Y C

    S-elem : IsElem K S
    unfolding S
    S-elem = laws.mul-elem Y C Y-elem C-elem

    S-ne : S ≢ K.zero
    unfolding S
    S-ne z = ne_zero o L C c-ne (cancelled Y C K.zero Y-elem C-elem laws.zero-elem (ne_zero o L Y y-ne)
        (z ∙ sym (mul-zero_elem K laws Y Y-elem)))

    e : ℕ → Pair E
    e l = at K items l

    e-elem : (l : ℕ) → IsElem K (e l)
    unfolding e
    e-elem l = at-elem K laws items elements_of l
      where
        elements_of : All (IsElem K) items
        elements_of l d l_in =
            let q = quotients.quotient l (omega (arith, l_in, quotients.count)) in
            subst (IsElem K) (get_or_default items l K.zero d l_in) q.elem

    tuple : IsTuple K m items
    tuple = record {
      right_length = quotients.count;
      of_elements = λ l d l_in.
          let q = quotients.quotient l (omega (arith, l_in, quotients.count)) in
          subst (IsElem K) (get_or_default items l K.zero d l_in) q.elem;
    }

    g : ℕ → Pair E
    g p = at K cs p

    g-elem : (p : ℕ) → IsElem K (g p)
    unfolding g
    g-elem p = at-elem K laws cs over.of_elements p

    -- the product of a weight and an entry
    term : (l p : ℕ) → l < m → p < m * m * m
        → K.mul (fraction_at o L weights l) (fraction_at o L entries p) ≡ K.mul S (K.mul (e l) (g p))
    unfolding S e g
    term l p l_in p_in =
        let q = quotients.quotient l l_in in
        ap₂ K.mul (sym q.value) (multiples.multiple p p_in)
        ∙ exchanged (at K items l) Y C (at K cs p) (e-elem l) Y-elem C-elem (g-elem p)

    -- the unit, with the factor S
    unit_value : (b : Bool) → as_fraction o (unit scale b) ≡ K.mul S (cond b K.one K.zero)
    unfolding S
    unit_value true = as_fraction-mul o L y c scale y-is hc scale_is scale_value
        ∙ sym (ap (λ (x : Elem K). x.0) (let G : FieldOn (Elem K) = elements K laws in G.mul-one (K.mul Y C, S-elem)))
    unit_value false = sym (zero_is o L) ∙ sym (mul-zero_elem K laws (K.mul Y C) S-elem)

    -- a weighted sum gives the sum by the quotients
    by_quotients : (place : ℕ → ℕ) (start stride : ℕ) (b : Bool) → ((l : ℕ) → l < m → place l ≡ start + l * stride)
        → ((l : ℕ) → l < m → place l < m * m * m)
        → sum_of_products o L weights entries m 0 start stride ≡ as_fraction o (unit scale b)
        → sum_of K m (λ l. K.mul (e l) (g (place l))) ≡ cond b K.one K.zero
    by_quotients place start stride b same within sum =
        let f : ℕ → Pair E = λ l. K.mul (e l) (g (place l)) in
        let f-elem : (l : ℕ) → IsElem K (f l) = λ l. laws.mul-elem (e l) (g (place l)) (e-elem l) (g-elem (place l)) in
        cancelled S (sum_of K m f) (cond b K.one K.zero) S-elem (sum_of-elem K laws m f (λ l _. f-elem l))
        (cond-elem b) S-ne
        (mul-sum_of K laws m S f S-elem f-elem
        ∙ sum_of_congr K m (λ l. K.mul S (f l))
        (λ l. K.mul (fraction_at o L weights (0 + l)) (fraction_at o L entries (start + l * stride)))
        (λ l l_in. sym (term l (place l) l_in (within l l_in))
        ∙ ap₂ (λ q p. K.mul (fraction_at o L weights q) (fraction_at o L entries p)) (from_zero l) (same l l_in))
        ∙ sum ∙ unit_value b)
      where
        from_zero : (l : ℕ) → l ≡ 0 + l
        from_zero l = omega arith

        cond-elem : (b : Bool) → IsElem K (cond b K.one K.zero)
        cond-elem true = laws.one-elem
        cond-elem false = laws.zero-elem

    at-basis : (j k : ℕ) → k < m → at K (basis K m j) k ≡ cond (nat_eq k j) K.one K.zero
    at-basis j k k_in = at-table K m (λ k. cond (nat_eq k j) K.one K.zero) k k_in

    product_tuple : (a b : List (Pair E)) → IsTuple K m a → IsTuple K m b → IsTuple K m (product K m cs a b)
    product_tuple = IsTuple-product K laws m cs over.of_elements

    basis_tuple : (j : ℕ) → IsTuple K m (basis K m j)
    basis_tuple = IsTuple-basis K laws m cs over.of_elements

    pub verified_identity : IsIdentity K A items
    unfolding e g
    verified_identity = record {
      tuple = tuple;
      one-mul = λ j j_in.
          IsTuple-ext K m (product K m cs items (basis K m j)) (basis K m j)
          (product_tuple items (basis K m j) tuple (basis_tuple j)) (basis_tuple j)
          (λ k k_in. let s = solves j k j_in k_in in
          at-product_basis K laws m cs over.of_elements items j k tuple.of_elements j_in k_in
          ∙ by_quotients (λ l. (l * m + j) * m + k) (j * m + k) (m * m) (nat_eq k j) (λ l _. left_place l j k m)
          (λ l l_in. constant_within l j k m (m * m * m) l_in j_in k_in refl) s.left
          ∙ sym (at-basis j k k_in));
      mul-one = λ j j_in.
          IsTuple-ext K m (product K m cs (basis K m j) items) (basis K m j)
          (product_tuple (basis K m j) items (basis_tuple j) tuple) (basis_tuple j)
          (λ k k_in. let s = solves j k j_in k_in in
          at-basis_product K laws m cs over.of_elements items j k tuple.of_elements j_in k_in
          ∙ by_quotients (λ l. (j * m + l) * m + k) (j * m * m + k) m (nat_eq k j) (λ l _. right_place j l k m)
          (λ l l_in. constant_within j l k m (m * m * m) j_in l_in k_in refl) s.right
          ∙ sym (at-basis j k k_in));
    }
