-- A degree gives a discrete valuation ring: the elements of degree at most 0.
use Rattle.std.specs.Prelude.{◌≡◌, ◌↔◌, ℕ, zero, suc, Bool, true, false, IsTrue, ◌⊎◌, ℤ, pos, negsuc, ◌+ℤ◌, neg_ℤ, ◌≤ℤ◌}
use Rattle.std.specs.Prelude.{◌<ℤ◌}
use Rattle.std.proofs.Common.{refl, sym, ◌∙◌, ap, subst, arith, inl, inr, ⊎_elim}
use Rattle.std.proofs.lemmas.Int.{ints}
use Rattle.theory_rings.specs.Ring.{FieldOn}
use Rattle.theory_rings.specs.Power.{power}
use Rattle.theory_rings.proofs.Rings.RingLaws.{mul-zero}
use Rattle.theory_spaces.specs.Valuation.{ValuationOn}
use Rattle.theory_orders.specs.Uniformizer.{UniformizerOn}
use Rattle.theory_lattices.specs.Degree.{DegreeOn, DegreeBelow, HasDegree}
use Rattle.theory_lattices.proofs.Degree.Degrees.{cases_int, below-neg, below-mul, below_of_degree, not_below_of_degree}
use Rattle.theory_lattices.proofs.Degree.Degrees.{has_degree-mul}
use Rattle.theory_lattices.proofs.Degree.PowersOfDegreeOne.{has_degree-one, has_degree-inv}

-- the test of a decision
module _ {A : Type 0} where
  pub answer : A ⊎ (A → ⊥) → Bool
  answer (inl h) = true
  answer (inr n) = false

  pub answer-sound : (d : A ⊎ (A → ⊥)) → IsTrue (answer d) → A
  unfolding answer
  answer-sound (inl h) e = h
  answer-sound (inr n) e = cc

  pub answer-complete : (d : A ⊎ (A → ⊥)) → A → IsTrue (answer d)
  unfolding answer
  answer-complete (inl h) a = refl
  answer-complete (inr n) a = absurd (n a)

module _ {K : Type 0} (F : FieldOn K) (W : DegreeOn F.ring) where
  infixl 65 ◌⊕◌
  infixl 70 ◌⊗◌
  open F use {◌⊕◌, ◌⊗◌, neg, inv}

  abbrev In : K → Type 0
  In a = DegreeBelow W (pos 1) a

  in_or : (a : K) → In a ⊎ (In a → ⊥)
  in_or a = ⊎_elim
      (λ (e : a ≡ F.zero). inl (inl e))
      (λ (n : a ≡ F.zero → ⊥). ⊎_elim
      (λ (l : W.deg a <ℤ pos 1). inl (inr l))
      (λ (l : pos 1 ≤ℤ W.deg a).
      inr (λ h. not_below_of_degree W (W.deg a) (pos 1) a l (record { nonzero = n; degree = refl }) h))
      (cases_int (W.deg a) (pos 1)))
      (W.eq_zero_or a)

  pub integral : K → Bool
  integral a = answer (in_or a)

  pub integral-in : (a : K) → IsTrue (integral a) → In a
  unfolding integral
  integral-in a = answer-sound (in_or a)

  pub in-integral : (a : K) → In a → IsTrue (integral a)
  unfolding integral
  in-integral a = answer-complete (in_or a)

  in_mul : (a b : K) → In a → In b → In (a ⊗ b)
  in_mul a b = below-mul W (pos 1) (pos 1) (pos 1) a b (omega (arith, ints))

  -- a, or its inverse
  in_total : (a : K) → In a ⊎ In (inv a)
  in_total a = ⊎_elim
      (λ (e : a ≡ F.zero). inl (inl e))
      (λ (n : a ≡ F.zero → ⊥). ⊎_elim
      (λ (l : W.deg a <ℤ pos 1). inl (inr l))
      (λ (l : pos 1 ≤ℤ W.deg a). inr (below_of_degree W (neg_ℤ (W.deg a)) (pos 1) (inv a) (omega (arith, ints))
      (has_degree-inv F W (W.deg a) a (record { nonzero = n; degree = refl }))))
      (cases_int (W.deg a) (pos 1)))
      (W.eq_zero_or a)

  pub degree_valuation : ValuationOn F
  degree_valuation = record {
    integral = integral;
    zero_in = in-integral F.zero (inl refl);
    one_in = in-integral F.one (below_of_degree W (pos 0) (pos 1) F.one (omega (arith, ints)) (has_degree-one F W));
    add_in = λ a b h g. in-integral (a ⊕ b) (W.add-below (pos 1) a b (integral-in a h) (integral-in b g));
    mul_in = λ a b h g. in-integral (a ⊗ b) (in_mul a b (integral-in a h) (integral-in b g));
    neg_in = λ a h. in-integral (neg a) (below-neg W (pos 1) a (integral-in a h));
    total = λ a. ⊎_elim (λ (h : In a). inl (in-integral a h)) (λ (h : In (inv a)). inr (in-integral (inv a) h))
        (in_total a);
  }

  -- just those are integral
  pub degree_valuation-tells : (a : K) → IsTrue (degree_valuation.integral a) ↔ In a
  unfolding degree_valuation
  degree_valuation-tells a = (integral-in a, in-integral a)

  module _ (t : K) (one : HasDegree W (pos 1) t) where
    abbrev u : K
    u = inv t

    low : HasDegree W (neg_ℤ (pos 1)) u
    low = has_degree-inv F W (pos 1) t one

    ut : u ⊗ t ≡ F.one
    ut = F.inv-mul t one.nonzero

    in_u : In u
    in_u = below_of_degree W (neg_ℤ (pos 1)) (pos 1) u (omega (arith, ints)) low

    -- an element of degree 0 is a unit, one of smaller degree a multiple of u
    multiple_or_unit : (c : K) → In c → In (t ⊗ c) ⊎ ((c ≡ F.zero → ⊥) × In (inv c))
    multiple_or_unit c (inl e) = inl (inl (ap (λ x. t ⊗ x) e ∙ mul-zero F.ring t))
    multiple_or_unit c (inr h) = ⊎_elim
        (λ (e : c ≡ F.zero). inl (inl (ap (λ x. t ⊗ x) e ∙ mul-zero F.ring t)))
        (λ (n : c ≡ F.zero → ⊥). ⊎_elim
        (λ (l : W.deg c <ℤ pos 0). inl (below_of_degree W (pos 1 +ℤ W.deg c) (pos 1) (t ⊗ c) (omega (arith, ints))
        (has_degree-mul W (pos 1) (W.deg c) t c one (record { nonzero = n; degree = refl }))))
        (λ (l : pos 0 ≤ℤ W.deg c). inr (
          n,
          below_of_degree W (neg_ℤ (W.deg c)) (pos 1) (inv c) (omega (arith, ints))
              (has_degree-inv F W (W.deg c) c (record { nonzero = n; degree = refl })),
        ))
        (cases_int (W.deg c) (pos 0)))
        (W.eq_zero_or c)

    in_power : (s : ℕ) (c : K) → c ≡ F.zero → In (power F.ring u s ⊗ c)
    in_power s c e = inl (ap (λ x. power F.ring u s ⊗ x) e ∙ mul-zero F.ring (power F.ring u s))

    -- s factors u lower the degree by s
    lowered : (s : ℕ) (d : ℤ) (c : K) → W.deg c ≤ℤ (d +ℤ pos s) → (c ≡ F.zero) ⊎ HasDegree W (W.deg c) c → d ≤ℤ pos 0
        → In (power F.ring u s ⊗ c)
    lowered s d c l (inl e) z = in_power s c e
    lowered zero d c l (inr h) z =
        let Q : K → Type 0 = λ x. HasDegree W (W.deg c) x in
        let g : HasDegree W (W.deg c) (F.one ⊗ c) = subst Q (sym (F.one-mul c)) h in
        below_of_degree W (W.deg c) (pos 1) (F.one ⊗ c) (omega (arith, ints)) g
    lowered (suc s) d c l (inr h) z =
        let g : HasDegree W (neg_ℤ (pos 1) +ℤ W.deg c) (u ⊗ c) = has_degree-mul W (neg_ℤ (pos 1)) (W.deg c) u c low h in
        let e = g.degree in
        let k : HasDegree W (W.deg (u ⊗ c)) (u ⊗ c) = record { nonzero = g.nonzero; degree = refl } in
        let w : power F.ring u s ⊗ (u ⊗ c) ≡ power F.ring u (suc s) ⊗ c =
        sym (F.mul_assoc (power F.ring u s) u c) ∙ ap (λ x. x ⊗ c) (F.mul_comm (power F.ring u s) u) in
        subst In w (lowered s d (u ⊗ c) (omega (arith, ints)) (inr k) z)

    reach : (c : K) → (s : ℕ) × In (power F.ring u s ⊗ c)
    reach c = ⊎_elim
        (λ (e : c ≡ F.zero). (zero, in_power zero c e))
        (λ (n : c ≡ F.zero → ⊥). go (W.deg c) refl n)
        (W.eq_zero_or c)
      where
        go : (d : ℤ) → W.deg c ≡ d → (c ≡ F.zero → ⊥) → (s : ℕ) × In (power F.ring u s ⊗ c)
        go (pos s) e n = (
          s,
          lowered s (pos 0) c (omega (arith, ints)) (inr (record { nonzero = n; degree = refl }))
              (omega (arith, ints)),
        )
        go (negsuc s) e n = (
          zero,
          lowered zero (pos 0) c (omega (arith, ints)) (inr (record { nonzero = n; degree = refl }))
              (omega (arith, ints)),
        )

    pub degree_uniformizer : UniformizerOn F degree_valuation u t
    unfolding degree_valuation
    degree_uniformizer = record {
      p_in = in-integral u in_u;
      pq = ut;
      multiple_or_unit = λ c h. ⊎_elim
          (λ (l : In (t ⊗ c)). inl (in-integral (t ⊗ c) l))
          (λ (l : (c ≡ F.zero → ⊥) × In (inv c)). inr (l.0, in-integral (inv c) l.1))
          (multiple_or_unit c (integral-in c h));
      reach = λ c. let r = reach c in (r.0, in-integral (power F.ring u r.0 ⊗ c) r.1);
    }

    pub strict : IsTrue (degree_valuation.integral t) → ⊥
    unfolding degree_valuation
    strict h = not_below_of_degree W (pos 1) (pos 1) t (omega (arith, ints)) one (integral-in t h)
