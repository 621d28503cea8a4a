-- In the field of the remainders by an irreducible polynomial of degree d over a field of q elements, with the class x
-- of the variable: where y + y^q + .. + y^(q^(d − 1)) is 0 at x^u·b for each u < d, b is 0. For then it is 0 at all
-- multiples of b, and not all elements are roots of this sum.
use Rattle.std.specs.Prelude.{◌≡◌, ◌≢◌, ◌+◌, ◌-◌, ◌<◌, ◌≤◌, ◌^◌, ℕ, suc, List, [], ◌∷◌, length}
use Rattle.std.proofs.Common.{refl, sym, ◌∙◌, ap, ap₂, subst, arith, ⊎_elim}
use Rattle.theory_rings.specs.Ring.{FieldOn, CommRingOn}
use Rattle.theory_rings.specs.Ops.{Ops, FieldLaws}
use Rattle.theory_rings.specs.Elements.{Elem, Elem-path}
use Rattle.theory_rings.specs.Sum.{sum}
use Rattle.theory_rings.specs.Prime.{IsPrime}
use Rattle.theory_rings.specs.Power.{power, times}
use Rattle.theory_rings.specs.Enumerated.{Enumerated}
use Rattle.theory_rings.specs.Polynomial.{Poly, degree, IsTrimmed}
use Rattle.theory_rings.proofs.Rings.RingLaws.{zero-mul, mul-zero}
use Rattle.theory_rings.proofs.Rings.Solver.{◌⊞◌, ◌⊠◌, ring4}
use Rattle.theory_rings.proofs.Rings.Homomorphisms.{map-zero}
use Rattle.theory_rings.proofs.Rings.ZeroTests.{eq_zero_or}
use Rattle.theory_rings.proofs.Powers.Powers.{map-power}
use Rattle.theory_rings.proofs.Polynomials.PolynomialRing.{IsTrimmed-tail, Poly-path, constant, prepend-tail}
use Rattle.theory_rings.proofs.Polynomials.PolynomialRing.{coefficient-zero}
use Rattle.theory_rings.proofs.Polynomials.Constants.{variable, prepend_eq}
use Rattle.theory_rings.proofs.Polynomials.Bezout.{field_polynomials}
use Rattle.theory_fractions.specs.FractionOps.{polynomial_of}
use Rattle.theory_fractions.proofs.ListPolynomials.{length-polynomial_of}
use Rattle.theory_factors.proofs.Powers.{pow_lt, two_le_size}
use Rattle.theory_factors.proofs.TraceRoots.{some_nonzero_trace}
use Rattle.theory_remainders.specs.Irreducible.{IsIrreducible}
use Rattle.theory_remainders.specs.RemainderOps.{remainder_ops}
use Rattle.theory_remainders.proofs.RemainderField.{monic, to_list-of_list}
use Rattle.theory_remainders.proofs.RemainderValues.{of_elem}
use Rattle.spl_blocks.proofs.Constants.{tau, tau-add, tau-scale}
use Rattle.spl_blocks.proofs.Remainders.{F, D, of_poly, of_poly_hom, of_constant, of_constant_hom, numbers}
use Rattle.spl_blocks.proofs.Remainders.{size-numbers}

module _ {E : Type 0} (o : Ops E) (L : FieldLaws o) (m : List E) (i : IsIrreducible o m) (N : Enumerated (Elem o))
    (p e : ℕ) (prime : IsPrime p) (char : (let G = D o L m i in times G.monoid p G.one ≡ G.zero))
    (size : N.size ≡ p ^ e) where
  abbrev C : FieldOn (Elem o)
  C = F o L m i

  abbrev G : FieldOn (Elem (remainder_ops o L m (monic o L m i)))
  G = D o L m i

  abbrev P : CommRingOn (Poly C.cring)
  P = field_polynomials C

  abbrev h : Poly C.cring → Elem (remainder_ops o L m (monic o L m i))
  h = of_poly o L m i

  abbrev c_of : Elem o → Elem (remainder_ops o L m (monic o L m i))
  c_of = of_constant o L m i

  abbrev t : Poly C.cring
  t = variable C.cring C.zero_test

  -- the class of the variable
  abbrev pub x : Elem (remainder_ops o L m (monic o L m i))
  x = h t

  abbrev d : ℕ
  d = degree m

  abbrev pub trace : Elem (remainder_ops o L m (monic o L m i)) → Elem (remainder_ops o L m (monic o L m i))
  trace = tau C N G c_of (of_constant_hom o L m i) d

  long : suc d ≡ length m
  long = go m i.positive
    where
      go : (xs : List E) → 1 ≤ degree xs → suc (degree xs) ≡ length xs
      go [] l = absurd (omega arith)
      go (y ∷ ys) l = refl

  module _ (b : Elem (remainder_ops o L m (monic o L m i)))
      (null : (u : ℕ) → u < d → trace (G.◌⊗◌ (power G.ring x u) b) ≡ G.zero) where
    abbrev Null : Elem (remainder_ops o L m (monic o L m i)) → Type 0
    Null a = trace (G.◌⊗◌ a b) ≡ G.zero

    trace_zero : trace G.zero ≡ G.zero
    trace_zero =
        let z = C.zero in
        let H = of_constant_hom o L m i in
        let zero_is = map-zero C.ring G.ring c_of H in
        ap trace (sym (ap (λ a. G.◌⊗◌ a G.zero) zero_is ∙ zero-mul G.ring G.zero))
        ∙ tau-scale C N G c_of H d z G.zero ∙ ap (λ a. G.◌⊗◌ a (trace G.zero)) zero_is ∙ zero-mul G.ring (trace G.zero)

    null-zero : Null G.zero
    null-zero = ap trace (zero-mul G.ring b) ∙ trace_zero

    null-add : (y z : Elem (remainder_ops o L m (monic o L m i))) → Null y → Null z → Null (G.◌⊕◌ y z)
    null-add y z hy hz = ap trace (G.add-mul y z b)
        ∙ tau-add C N G c_of (of_constant_hom o L m i) p e prime char size d (G.◌⊗◌ y b) (G.◌⊗◌ z b)
        ∙ ap₂ G.◌⊕◌ hy hz ∙ G.zero-add G.zero

    null-scale : (c : Elem o) (y : Elem (remainder_ops o L m (monic o L m i))) → Null y → Null (G.◌⊗◌ (c_of c) y)
    null-scale c y hy = ap trace (G.mul_assoc (c_of c) y b)
        ∙ tau-scale C N G c_of (of_constant_hom o L m i) d c (G.◌⊗◌ y b) ∙ ap (G.◌⊗◌ (c_of c)) hy
        ∙ mul-zero G.ring (c_of c)

    shifted : (xs : List (Elem o)) (tr : IsTrimmed C.zero xs) (j : ℕ) → j + length xs ≤ d
        → Null (h (P.◌⊗◌ (power P.ring t j) (xs, tr)))
    shifted [] tr j l =
        let H = of_poly_hom o L m i in
        let z : ([], tr) ≡ P.zero = Poly-path C.cring ([], tr) P.zero
        (λ k. sym (coefficient-zero C.cring C.zero_test k)) in
        subst Null (sym (ap h (ap (P.◌⊗◌ (power P.ring t j)) z ∙ mul-zero P.ring (power P.ring t j))
        ∙ map-zero P.ring G.ring h H)) null-zero
    shifted (c ∷ xs) tr j l =
        let H = of_poly_hom o L m i in
        let a : Poly C.cring = (xs, IsTrimmed-tail C.zero c xs tr) in
        let k : Poly C.cring = constant C.cring C.zero_test c in
        let s : Poly C.cring = power P.ring t j in
        let first : Null (h s) = subst Null (sym (map-power P.ring G.ring h H.map-one H.map-mul t j))
        (null j (omega (arith, l))) in
        let rest : Null (h (P.◌⊗◌ (P.◌⊗◌ t s) a)) =
        shifted xs (IsTrimmed-tail C.zero c xs tr) (suc j) (omega (arith, l)) in
        subst Null (sym (ap h (ap (P.◌⊗◌ s) (sym (prepend-tail C.cring C.zero_test c xs tr)
        ∙ prepend_eq C.cring C.zero_test c a)
        ∙ ring4 P (λ k s t a. (s ⊠ (k ⊞ t ⊠ a), k ⊠ s ⊞ t ⊠ s ⊠ a)) refl k s t a)
        ∙ H.map-add (P.◌⊗◌ k s) (P.◌⊗◌ (P.◌⊗◌ t s) a) ∙ ap (λ y. G.◌⊕◌ y (h (P.◌⊗◌ (P.◌⊗◌ t s) a))) (H.map-mul k s)))
        (null-add (G.◌⊗◌ (c_of c) (h s)) (h (P.◌⊗◌ (P.◌⊗◌ t s) a)) (null-scale c (h s) first) rest)

    all : (a : Elem (remainder_ops o L m (monic o L m i))) → Null a
    all a =
        let r = of_elem o L m i a.0 a.1 in
        let f : Poly C.cring = polynomial_of o L a.0 in
        let same : h f ≡ a = Elem-path (remainder_ops o L m (monic o L m i)) (h f) a (to_list-of_list o L m i a.0 r) in
        subst Null (ap h (P.one-mul f) ∙ same) (shifted f.0 f.1 0
        (omega (arith, r.smaller, length-polynomial_of o L a.0 r.polynomial, long)))

    pub zero_of_traces : b ≡ G.zero
    zero_of_traces = ⊎_elim (λ (z : b ≡ G.zero). z)
        (λ (n : b ≢ G.zero). absurd (some_nonzero_trace G N.size (two_le_size C N) (numbers o L m i N) (d - 1) less
        (λ a. ap (λ k. sum G.monoid k (λ j. power G.ring a (N.size ^ j))) back
        ∙ sym (ap trace (G.mul_assoc a (G.inv b) b ∙ ap (G.◌⊗◌ a) (G.inv-mul b n) ∙ G.mul-one a))
        ∙ all (G.◌⊗◌ a (G.inv b)))))
        (eq_zero_or G.zero_test b)
      where
        back : suc (d - 1) ≡ d
        back = let l = i.positive in omega arith

        less : N.size ^ (d - 1) < (let n = numbers o L m i N in n.size)
        less = subst (λ n. N.size ^ (d - 1) < n) (sym (size-numbers o L m i N))
            (pow_lt N.size (d - 1) d (two_le_size C N) (let l = i.positive in omega arith))
