-- Splitting a part: the trials of powers of x, and the greatest common divisors with t − c.
use Rattle.std.specs.Prelude.{◌≡◌, ◌≢◌, ℕ, suc, ◌*◌, ◌<◌, ◌≤◌, List, [], ◌∷◌, length}
use Rattle.std.proofs.Common.{refl, sym, ◌∙◌, ap, ap₂, subst, arith, ⊎_elim}
use Rattle.std.proofs.lemmas.Bool.{cases_lt, ltb-true}
use Rattle.std.proofs.lemmas.List.Elements.{All-nil, All-cons}
use Rattle.theory_rings.specs.Ring.{FieldOn, CommRingOn}
use Rattle.theory_rings.specs.Ops.{Ops, IsElem, FieldLaws}
use Rattle.theory_rings.specs.Elements.{Elem, Elem-path}
use Rattle.theory_rings.specs.Enumerated.{Enumerated}
use Rattle.theory_rings.specs.Power.{power}
use Rattle.theory_rings.specs.Polynomial.{Poly, degree, coefficient, IsMonic}
use Rattle.theory_rings.specs.Division.{Divides, Congruent, IsGcd}
use Rattle.theory_rings.proofs.Rings.Congruences.{congruent-add, congruent-neg}
use Rattle.theory_rings.proofs.Rings.Solver.{◌⊞◌, ◌⊠◌, minus, ring2, ring3, ring5}
use Rattle.theory_rings.proofs.Rings.ZeroTests.{eq_of_sub_eq_zero}
use Rattle.theory_rings.proofs.Powers.Powers.{power_first}
use Rattle.theory_rings.proofs.Polynomials.PolynomialRing.{constant, coefficient-constant}
use Rattle.theory_rings.proofs.Polynomials.Degrees.{eq_constant, degree-constant, length-degree_of_ne_zero}
use Rattle.theory_rings.proofs.Polynomials.Degrees.{length-add_le, length-neg_le, length_le_suc-degree, poly_eq_zero_or}
use Rattle.theory_rings.proofs.Polynomials.Degrees.{ne_zero_of_length}
use Rattle.theory_rings.proofs.Polynomials.Constants.{degree-variable}
use Rattle.theory_rings.proofs.Polynomials.Bezout.{field_degree-mul, poly_mul-ne-zero}
use Rattle.theory_rings.proofs.Polynomials.Irreducible.{degree_le_of_divides}
use Rattle.theory_rings.proofs.Polynomials.Monic.{ne_zero_of_degree}
use Rattle.theory_rings.proofs.Fractions.Lowest.{monic_eq_of_divides}
use Rattle.theory_fractions.specs.PolynomialLists.{IsOver, IsProduct, IsPolynomialList}
use Rattle.theory_factors.specs.Parts.{HasConstantTrace, frobenius_trace}
use Rattle.theory_factors.specs.Splitting.{less}
use Rattle.theory_factors.proofs.Traces.{not_all_are_constant, power_congruent, trace_fixed}
use Rattle.theory_factors.proofs.Splitting.{proper_gcd, monic_gcd}
use Rattle.theory_remainders.proofs.Divisions.{poly-product, poly-constant}
use Rattle.theory_remainders.proofs.IrreducibleTest.{poly-variable}
use Rattle.spl_field.specs.SmallField.{small_ops, small_laws, size_of}
use Rattle.spl_field.specs.declared.small.SmallField.{SmallField}
use Rattle.spl_residue.proofs.Numbers.{small_numbers}
use Rattle.spl_factor.specs.Steps.{field, ring, poly, x, IsMonicList, IsMonicGcd, IsPartList, IsTraceModulo}
use Rattle.spl_factor.specs.Steps.{IsFixedModulo}
use Rattle.spl_factor.proofs.Quotients.{degree_poly, length_poly, length_monic}

module _ (f : SmallField) where
  abbrev o : Ops ℕ
  o = small_ops f

  abbrev L : FieldLaws (small_ops f)
  L = small_laws f

  abbrev F : FieldOn (Elem (small_ops f))
  F = field f

  abbrev P : CommRingOn (Poly (field f).cring)
  P = ring f

  abbrev N : Enumerated (Elem (small_ops f))
  N = small_numbers f

  abbrev Is : List ℕ → Type 0
  Is = IsPolynomialList (small_ops f)

  abbrev c_of : Elem (small_ops f) → Poly (field f).cring
  c_of c = constant F.cring F.zero_test c

  pub variable_over : IsOver o (0 ∷ 1 ∷ [])
  variable_over =
      All-cons (IsElem o) 0 (1 ∷ []) L.zero-elem (All-cons (IsElem o) 1 [] L.one-elem (All-nil (IsElem o)))

  pub variable_list : Is (0 ∷ 1 ∷ [])
  variable_list = record { over = variable_over; trimmed = L.one-nonzero }

  pub variable_value : poly f (0 ∷ 1 ∷ []) ≡ x f
  variable_value = poly-variable o L (0 ∷ 1 ∷ []) variable_over (λ k. refl)

  -- ---- the trials

  module _ (d : ℕ) (g : List ℕ) where
    -- the powers of x with exponents from 1 below i have constant traces, and z is the next
    pub record AreTried (i : ℕ) (z : List ℕ) : Type 0 where
      pub polynomial : Is z
      pub is_power : poly f z ≡ power P.ring (x f) i
      pub length_is : length z ≡ suc i
      pub constants : (j : ℕ) → 1 ≤ j → j < i → HasConstantTrace F N P d (poly f g) (power P.ring (x f) j)

    pub none_tried : (z : List ℕ) → z ≡ 0 ∷ 1 ∷ [] → AreTried 1 z
    none_tried z e = subst (AreTried 1) (sym e) record {
      polynomial = variable_list;
      is_power = variable_value ∙ sym (power_first P.ring (x f));
      length_is = refl;
      constants = λ j l k. absurd (omega arith);
    }

    short_constant : (t : List ℕ) → Is t → length t ≤ 1 → poly f t ≡ c_of (coefficient F.cring (poly f t) 0)
    short_constant t ht l = eq_constant F.cring F.zero_test (poly f t) (flat t ht l)
      where
        low : (xs : List ℕ) → length xs ≤ 1 → degree xs ≡ 0
        low [] l = refl
        low (y ∷ []) l = refl
        low (y ∷ z ∷ zs) l = absurd (omega arith)

        flat : (t : List ℕ) → Is t → length t ≤ 1 → degree (poly f t).0 ≡ 0
        flat t ht l = degree_poly f t ht ∙ low t l

    pub one_more_tried : (i : ℕ) (z t y w : List ℕ) → AreTried i z → Is t → IsTraceModulo f g d z t → length t ≤ 1
        → y ≡ 0 ∷ 1 ∷ [] → Is w → IsProduct o z y w → AreTried (suc i) w
    one_more_tried i z t y w h ht tr l e hw m = record {
      polynomial = hw;
      is_power = whole ∙ P.mul_comm (poly f z) (x f) ∙ ap (P.◌⊗◌ (x f)) h.is_power;
      length_is =
          let k = h.length_is in
          let s = field_degree-mul F (poly f z) (x f) z-nonzero x-nonzero in
          omega (
            arith,
            k,
            s,
            ap (λ (p : Poly F.cring). degree p.0) whole,
            degree-variable F.cring F.zero_test F.one-nonzero,
            length-degree_of_ne_zero F.cring F.zero_test (poly f w) w-nonzero,
            length-degree_of_ne_zero F.cring F.zero_test (poly f z) z-nonzero,
            length_poly f w hw,
            length_poly f z h.polynomial,
          );
      constants = λ j one k. ⊎_elim
          (λ (a : j < i). h.constants j one a)
          (λ (a : i ≤ j).
          let s : i ≡ j = omega arith in
          subst (λ n. HasConstantTrace F N P d (poly f g) (power P.ring (x f) n)) s here)
          (cases_lt j i);
    }
      where
        whole : poly f w ≡ P.◌⊗◌ (poly f z) (x f)
        whole =
            poly-product o L z (0 ∷ 1 ∷ []) w h.polynomial.over variable_over hw.over
            (subst (λ v. IsProduct o z v w) e m) ∙ ap (P.◌⊗◌ (poly f z)) variable_value

        z-nonzero : poly f z ≢ P.zero
        z-nonzero = let k = h.length_is in
            ne_zero_of_length F.cring F.zero_test (poly f z) (omega (arith, k, length_poly f z h.polynomial))

        x-nonzero : x f ≢ P.zero
        x-nonzero =
            ne_zero_of_degree F (x f) (omega (arith, degree-variable F.cring F.zero_test F.one-nonzero))

        w-nonzero : poly f w ≢ P.zero
        w-nonzero v = poly_mul-ne-zero F (poly f z) (x f) z-nonzero x-nonzero (sym whole ∙ v)

        here : HasConstantTrace F N P d (poly f g) (power P.ring (x f) i)
        here =
            let c : Elem (small_ops f) = coefficient F.cring (poly f t) 0 in (
              c,
              poly f t,
              (λ k. ap (λ (p : Poly F.cring). coefficient F.cring p k) (short_constant t ht l)
                  ∙ coefficient-constant F.cring F.zero_test c k),
              subst (λ p. Congruent P (poly f g) (frobenius_trace F N P p d) (poly f t)) h.is_power tr,
            )

    -- not all have constant traces
    pub not_all_tried : (i : ℕ) (z : List ℕ) → IsPartList f d g → 1 ≤ d → 2 * d ≤ degree g → degree g ≤ i
        → AreTried i z → ⊥
    not_all_tried i z h one long past tried =
        let s = degree_poly f g h.polynomial in
        not_all_are_constant F N d (poly f g) h.part one (omega (arith, s, long))
        (λ j a b. tried.constants j a (omega (arith, s, b, past)))

  -- a polynomial congruent to a trace modulo a part solves z^q = z
  pub trace_fixed_modulo : (d : ℕ) (g z t : List ℕ) → IsPartList f d g → Is z → Is t → IsTraceModulo f g d z t
      → IsFixedModulo f g t
  trace_fixed_modulo d g z t h hz ht c =
      let T : Poly F.cring = frobenius_trace F N P (poly f z) d in
      let G : Poly F.cring = poly f g in
      let fixed = trace_fixed F N d G h.part (poly f z) in
      let s = congruent_add_neg (power P.ring T N.size) (power P.ring (poly f t) N.size) T (poly f t) G
      (power_congruent F N G T (poly f t) c N.size) c in (
        P.◌⊕◌ fixed.0 (P.neg s.0),
        ring2 P (λ y k. (y, (y ⊞ k) ⊞ minus k)) refl (less F P (power P.ring (poly f t) N.size) (poly f t))
            (P.◌⊗◌ s.0 G)
            ∙ ap (λ y. P.◌⊕◌ y (P.neg (P.◌⊗◌ s.0 G))) (sym s.1 ∙ fixed.1)
            ∙ ring3 P (λ a b g. (a ⊠ g ⊞ minus (b ⊠ g), (a ⊞ minus b) ⊠ g)) refl fixed.0 s.0 G,
      )
    where
      congruent_add_neg : (a a' b b' m : Poly F.cring) → Congruent P m a a' → Congruent P m b b'
          → Congruent P m (less F P a b) (less F P a' b')
      congruent_add_neg a a' b b' m s r =
          congruent-add P m a a' (P.neg b) (P.neg b') s (congruent-neg P m b b' r)

  -- ---- the greatest common divisors

  unique_gcd : (a b g h : Poly F.cring) → IsMonic F.cring g → IsMonic F.cring h → IsGcd P a b g → IsGcd P a b h → g ≡ h
  unique_gcd a b g h mg mh d e = monic_eq_of_divides F g h mg mh (over g h d e) (over h g e d)
    where
      over : (g h : Poly F.cring) → IsGcd P a b g → IsGcd P a b h → Divides P g h
      over g h d e = (
        P.◌⊕◌ (P.◌⊗◌ e.s d.left.0) (P.◌⊗◌ e.t d.right.0),
        e.combined ∙ ap₂ (λ u v. P.◌⊕◌ (P.◌⊗◌ e.s u) (P.◌⊗◌ e.t v)) d.left.1 d.right.1
            ∙ ring5 P (λ s u t v g. (s ⊠ (u ⊠ g) ⊞ t ⊠ (v ⊠ g), (s ⊠ u ⊞ t ⊠ v) ⊠ g)) refl e.s d.left.0 e.t d.right.0 g,
      )

  module _ (g t : List ℕ) where
    -- the greatest common divisors with t − c are improper, for each c below i
    abbrev pub AreImproper : ℕ → Type 0
    AreImproper i = (c : Elem (small_ops f)) → c.0 < i → (h : Poly F.cring) → IsMonic F.cring h
        → IsGcd P (poly f g) (less F P (poly f t) (c_of c)) h
        → ((1 ≤ degree h.0) × (degree h.0 < degree (poly f g).0) → ⊥)

    pub none_improper : AreImproper 0
    none_improper c l = absurd (omega arith)

    pub one_more_improper : (i : ℕ) (b h : List ℕ) → AreImproper i → IsElem o i
        → poly f b ≡ P.◌⊕◌ (poly f t) (P.neg (poly f (i ∷ [])))
        → IsMonicList f g → IsMonicGcd f g b h → ((1 < length h) × (length h < length g) → ⊥) → AreImproper (suc i)
    one_more_improper i b h before ei eb mg d improper c l w mw e = ⊎_elim
        (λ (k : c.0 < i). before c k w mw e)
        (λ (k : i ≤ c.0).
        let same : i ≡ c.0 = omega arith in
        let constants : poly f (i ∷ []) ≡ c_of c =
        poly-constant o L i ei ∙ ap c_of (Elem-path o (i, ei) c same) in
        let md = d.list in
        let one : poly f h ≡ w = unique_gcd (poly f g) (less F P (poly f t) (c_of c)) (poly f h) w md.monic mw
        (subst (λ y. IsGcd P (poly f g) y (poly f h)) (eb ∙ ap (λ y. P.◌⊕◌ (poly f t) (P.neg y)) constants) d.gcd) e in
        let dh = degree_poly f h md.polynomial in
        let dg = degree_poly f g mg.polynomial in
        let lh = length_monic f h md in
        let lg = length_monic f g mg in
        let dw = ap (λ (p : Poly F.cring). degree p.0) one in
        λ proper. improper (omega (arith, proper.0, dh, dw, lh), omega (arith, proper.1, dh, dg, dw, lh, lg)))
        (cases_lt c.0 i)

    pub some_is_proper : (i : ℕ) → IsMonicList f g → Is t → IsFixedModulo f g t → 1 < length t → length t < length g
        → size_of f ≤ i → AreImproper i → ⊥
    some_is_proper i mg ht fixed low high past all =
        let h : (k : ℕ) → Poly F.cring =
        λ k. (monic_gcd F N (poly f g) (less F P (poly f t) (c_of (N.member k))) mg.monic).0 in
        let r = proper_gcd F N (poly f g) (poly f t) mg.monic fixed h
        (λ k l. let r = monic_gcd F N (poly f g) (less F P (poly f t) (c_of (N.member k))) mg.monic in (r.1, r.2))
        (omega (arith, length_monic f g mg, degree_poly f g mg.polynomial, low, high)) free in
        let s = monic_gcd F N (poly f g) (less F P (poly f t) (c_of (N.member r.0))) mg.monic in
        let c = N.member r.0 in
        all c (below c) s.0 s.1 s.2 (r.2, r.3)
      where
        below : (c : Elem (small_ops f)) → c.0 < i
        below c = omega (arith, ltb-true c.0 (size_of f) c.1, past)

        t-length : length (poly f t).0 ≡ length t
        t-length = length_poly f t ht

        t-nonzero : poly f t ≢ P.zero
        t-nonzero = ne_zero_of_length F.cring F.zero_test (poly f t) (omega (arith, t-length, low))

        free : (c : Elem (small_ops f)) → Divides P (poly f g) (less F P (poly f t) (c_of c)) → ⊥
        free c v = ⊎_elim
            (λ (z : w ≡ P.zero).
            let same : poly f t ≡ c_of c = eq_of_sub_eq_zero P.additive (poly f t) (c_of c) z in
            omega (
              arith,
              ap (λ (p : Poly F.cring). degree p.0) same,
              degree-constant F.cring F.zero_test c,
              length-degree_of_ne_zero F.cring F.zero_test (poly f t) t-nonzero,
              t-length,
              low,
            ))
            (λ (n : w ≢ P.zero). omega (
              arith,
              degree_le_of_divides F (poly f g) w v n,
              length-degree_of_ne_zero F.cring F.zero_test w n,
              short,
              length_monic f g mg,
              degree_poly f g mg.polynomial,
              high,
            ))
            (poly_eq_zero_or F.cring F.zero_test w)
          where
            w : Poly F.cring
            w = less F P (poly f t) (c_of c)

            short : length w.0 ≤ length t
            short = length-add_le F.cring F.zero_test (poly f t) (P.neg (c_of c)) (length t) (omega (arith, t-length))
                (length-neg_le F.cring F.zero_test (c_of c) (length t)
                (omega (arith, length_le_suc-degree F.cring (c_of c), degree-constant F.cring F.zero_test c, low)))
