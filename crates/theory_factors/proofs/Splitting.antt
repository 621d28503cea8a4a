-- A polynomial f over a field of q elements that divides z^q − z is the product of its greatest common divisors with z
-- − c, for the elements c of the field, since z^q − z is the product of these.
use Rattle.std.specs.Prelude.{◌≡◌, ◌≢◌, ℕ, ◌<◌, ◌≤◌}
use Rattle.std.proofs.Math.Path.{fun_ext}
use Rattle.std.proofs.Common.{refl, sym, ◌∙◌, ap, ap₂, subst, arith, inl, inr, ⊎_elim}
use Rattle.std.proofs.lemmas.Bool.{cases_lt}
use Rattle.theory_rings.specs.Ring.{FieldOn, CommRingOn}
use Rattle.theory_rings.specs.Power.{power}
use Rattle.theory_rings.specs.Enumerated.{Enumerated}
use Rattle.theory_rings.specs.Polynomial.{Poly, degree, IsMonic}
use Rattle.theory_rings.specs.Division.{Divides, IsGcd, IsCoprime}
use Rattle.theory_rings.specs.Evaluation.{evaluate}
use Rattle.theory_rings.specs.Homomorphism.{IsRingHom}
use Rattle.theory_rings.proofs.Rings.RingLaws.{mul-zero}
use Rattle.theory_rings.proofs.Rings.ZeroTests.{eq_of_sub_eq_zero}
use Rattle.theory_rings.proofs.Rings.Solver.{◌⊞◌, ◌⊠◌, minus, ring3, ring4, ring5}
use Rattle.theory_rings.proofs.Rings.Homomorphisms.{map-neg}
use Rattle.theory_rings.proofs.Powers.Powers.{map-power}
use Rattle.theory_rings.proofs.FiniteFields.FiniteFields.{power_size}
use Rattle.theory_rings.proofs.Polynomials.PolynomialRing.{constant}
use Rattle.theory_rings.proofs.Polynomials.Degrees.{length_pos}
use Rattle.theory_rings.proofs.Polynomials.Constants.{variable, constant_hom, constant_unique}
use Rattle.theory_rings.proofs.Polynomials.Evaluation.{evaluate_hom, evaluate-variable, evaluate-constant}
use Rattle.theory_rings.proofs.Polynomials.Uniqueness.{for_polynomials}
use Rattle.theory_rings.proofs.Polynomials.Bezout.{field_polynomials, degree_of_divides_one, constant_inverse, gcd}
use Rattle.theory_rings.proofs.Fractions.Lowest.{monic_eq_of_divides}
use Rattle.theory_radical.specs.Ideal.{product}
use Rattle.theory_blocks.proofs.Families.Decisions.{some_or_all}
use Rattle.theory_factors.specs.FactorLaws.{power_less}
use Rattle.theory_factors.specs.Splitting.{less, AreConstants, AreGcds, GcdsExist, IsProductOfGcds, OneGcdIsProper}
use Rattle.theory_factors.proofs.Products.{divides_back, monic-ne-zero, product_monic, product_divides}
use Rattle.theory_factors.proofs.Products.{product_combination, product_flat, map-product}
use Rattle.theory_rings.proofs.Polynomials.Monic.{monic_of, monic_of-monic, monic_of-divides, divides-monic_of}
use Rattle.theory_rings.proofs.Polynomials.Monic.{divides_trans}
use Rattle.theory_rings.proofs.Polynomials.Roots.{linear}
use Rattle.theory_factors.proofs.LinearFactors.{linear_factors, degree_of_linears}
use Rattle.theory_factors.proofs.Powers.{power_less_variable, two_le_size, degree-power_less, power_less-ne-zero}
use Rattle.theory_factors.proofs.Powers.{value-power_less}

module _ {K : Type 0} (F : FieldOn K) (E : Enumerated K) where
  abbrev R : CommRingOn K
  R = F.cring

  abbrev P : CommRingOn (Poly F.cring)
  P = field_polynomials F

  abbrev t : Poly R
  t = variable R F.zero_test

  -- z − c
  abbrev less_constant : Poly R → K → Poly R
  less_constant z c = less F P z (constant R F.zero_test c)

  -- x^q − x divides the product of x − c
  powers_divide : Divides P (power_less_variable F E E.size) (product P.ring (λ k. linear F (E.member k)) E.size)
  powers_divide =
      let w : Poly R = product P.ring (λ k. linear F (E.member k)) E.size in
      let d = degree_of_linears F E.size E.member in
      let l : degree w.0 ≡ E.size = d.1 in
      divides_back F w (power_less_variable F E E.size) (power_less-ne-zero F E E.size (two_le_size F E))
      (linear_factors F E.size (power_less_variable F E E.size) E.member
      (λ i j li lj e. sym (E.number-member i li) ∙ ap E.number e ∙ E.number-member j lj)
      (λ i li. value-power_less F E E.size (E.member i) (power_size F E (E.member i))))
      (omega (arith, l, degree-power_less F E E.size (two_le_size F E)))

  -- so at z
  powers_divide_at : (z : Poly R) → Divides P (power_less F P z E.size)
      (product P.ring (λ k. less_constant z (E.member k)) E.size)
  powers_divide_at z =
      let C = constant_hom R F.zero_test in
      let h : Poly R → Poly R = evaluate R P (constant R F.zero_test) z in
      let H = evaluate_hom R F.zero_test P (constant R F.zero_test) C z in
      let v = evaluate-variable R F.zero_test P (constant R F.zero_test) C z in
      let at_power : h (power_less_variable F E E.size) ≡ power_less F P z E.size =
      H.map-add (power P.ring t E.size) (P.neg t)
      ∙ ap₂ P.◌⊕◌ (map-power P.ring P.ring h H.map-one H.map-mul t E.size ∙ ap (λ y. power P.ring y E.size) v)
      (map-neg P.ring P.ring h H t ∙ ap P.neg v) in
      let at_linear : (k : ℕ) → h (linear F (E.member k)) ≡ less_constant z (E.member k) = λ k.
      H.map-add t (P.neg (constant R F.zero_test (E.member k)))
      ∙ ap₂ P.◌⊕◌ v (map-neg P.ring P.ring h H (constant R F.zero_test (E.member k))
      ∙ ap P.neg (evaluate-constant R F.zero_test P (constant R F.zero_test) C z (E.member k))) in
      let d = powers_divide in (
        h d.0,
        sym (map-product F P h H (λ k. linear F (E.member k)) (λ k. less_constant z (E.member k)) at_linear E.size)
            ∙ ap h d.1 ∙ H.map-mul d.0 (power_less_variable F E E.size) ∙ ap (P.◌⊗◌ (h d.0)) at_power,
      )

  module _ (f z : Poly R) (monic : IsMonic R f) (d : Divides P f (power_less F P z E.size))
      (g : ℕ → Poly R) (h : AreGcds F E P (constant R F.zero_test) f z g) where
    abbrev factor : ℕ → Poly R
    factor k = less_constant z (E.member k)

    abbrev c_of : ℕ → Poly R
    c_of k = constant R F.zero_test (E.member k)

    divides_all : Divides P f (product P.ring factor E.size)
    divides_all = divides_trans F f (power_less F P z E.size) (product P.ring factor E.size) d (powers_divide_at z)

    divides_gcds : Divides P f (product P.ring g E.size)
    divides_gcds =
        let r = product_combination F f E.size factor g (λ k l. (h k l).1) in
        let c = divides_all in (
          P.◌⊕◌ r.0 (P.◌⊗◌ r.1 c.0),
          r.2 ∙ ap (λ x. P.◌⊕◌ (P.◌⊗◌ r.0 f) (P.◌⊗◌ r.1 x)) c.1
              ∙ ring4 P (λ u f v c. (u ⊠ f ⊞ v ⊠ (c ⊠ f), (u ⊞ v ⊠ c) ⊠ f)) refl r.0 f r.1 c.0,
        )

    gcds_coprime : (i j : ℕ) → i < E.size → j < E.size → (i ≡ j → ⊥) → IsCoprime R P (g i) (g j)
    gcds_coprime i j li lj apart e ei ej = degree_of_divides_one F e (
      P.◌⊗◌ k (P.◌⊕◌ y.0 (P.neg x.0)),
      sym (constant_inverse F c ne)
          ∙ ap (P.◌⊗◌ k) (H.map-add (E.member i) (F.neg (E.member j))
          ∙ ap (P.◌⊕◌ (c_of i)) (map-neg F.ring P.ring (constant R F.zero_test) H (E.member j))
          ∙ ring3 P (λ a b z. (a ⊞ minus b, (z ⊞ minus b) ⊞ minus (z ⊞ minus a))) refl (c_of i) (c_of j) z
          ∙ ap₂ (λ u v. P.◌⊕◌ u (P.neg v)) y.1 x.1)
          ∙ ring4 P (λ k y x e. (k ⊠ (y ⊠ e ⊞ minus (x ⊠ e)), k ⊠ (y ⊞ minus x) ⊠ e)) refl k y.0 x.0 e,
    )
      where
        H : IsRingHom F.ring P.ring (constant R F.zero_test)
        H = constant_hom R F.zero_test

        c : K
        c = F.◌⊕◌ (E.member i) (F.neg (E.member j))

        k : Poly R
        k = constant R F.zero_test (F.inv c)

        ne : c ≢ F.zero
        ne w = apart (sym (E.number-member i li)
            ∙ ap E.number (eq_of_sub_eq_zero F.additive (E.member i) (E.member j) w) ∙ E.number-member j lj)

        x : Divides P e (factor i)
        x = divides_trans F e (g i) (factor i) ei (let q = (h i li).1 in q.right)

        y : Divides P e (factor j)
        y = divides_trans F e (g j) (factor j) ej (let q = (h j lj).1 in q.right)

    left_of : (k : ℕ) → k < E.size → Divides P (g k) f
    left_of k l = let q = (h k l).1 in q.left

    pub product_of_gcds : f ≡ product P.ring g E.size
    product_of_gcds =
        let m = product_monic F E.size g (λ k l. (h k l).0) in
        monic_eq_of_divides F f (product P.ring g E.size) monic
        (record { nonzero = length_pos R F.zero_test (product P.ring g E.size) m.0; leading = m.1 })
        divides_gcds (product_divides F f E.size g left_of gcds_coprime)

    pub proper_gcd : 1 ≤ degree f.0 → ((c : K) → Divides P f (less_constant z c) → ⊥)
        → (k : ℕ) × (k < E.size) × (1 ≤ degree (g k).0) × (degree (g k).0 < degree f.0) × Divides P (g k) f
    proper_gcd positive free = ⊎_elim
        (λ (s : (k : ℕ) × (k < E.size) × (1 ≤ degree (g k).0)). (s.0, s.1, s.2, smaller s.0 s.1, left_of s.0 s.1))
        (λ (all : (k : ℕ) → k < E.size → degree (g k).0 ≡ 0).
        let r = product_flat F E.size g (λ k l. (monic-ne-zero F (g k) (h k l).0, all k l)) in
        let zero_degree : degree (product P.ring g E.size).0 ≡ 0 = r.1 in
        absurd (omega (arith, zero_degree, ap (λ x. degree x.0) product_of_gcds, positive)))
        (some_or_all E.size (λ k. 1 ≤ degree (g k).0) (λ k. degree (g k).0 ≡ 0) (λ k l. ⊎_elim
        (λ (p : 0 < degree (g k).0). inl p)
        (λ (p : degree (g k).0 ≤ 0). inr (let e : degree (g k).0 ≡ 0 = omega arith in e))
        (cases_lt 0 (degree (g k).0))))
      where
        smaller : (k : ℕ) (l : k < E.size) → degree (g k).0 < degree f.0
        smaller k l = ⊎_elim
            (λ (p : degree (g k).0 < degree f.0). p)
            (λ (p : degree f.0 ≤ degree (g k).0). absurd (free (E.member k)
            (divides_trans F f (g k) (factor k) (divides_back F (g k) f (monic-ne-zero F f monic) (left_of k l) p)
            (let q = (h k l).1 in q.right))))
            (cases_lt (degree (g k).0) (degree f.0))

  pub monic_gcd : (f b : Poly R) → IsMonic R f → (g : Poly R) × IsMonic R g × IsGcd P f b g
  monic_gcd f b m =
      let r = gcd F f b in
      let a : Poly R = r.0 in
      let e : IsGcd P f b a = r.1 in
      let n : a ≢ P.zero = λ w. monic-ne-zero F f m (e.left.1 ∙ ap (P.◌⊗◌ e.left.0) w ∙ mul-zero P.ring e.left.0) in
      let k = divides-monic_of F a n in
      let own = monic_of-divides F a n in (
        monic_of F a,
        monic_of-monic F a n,
        record {
          left = divides_trans F (monic_of F a) a f own e.left;
          right = divides_trans F (monic_of F a) a b own e.right;
          s = P.◌⊗◌ k.0 e.s;
          t = P.◌⊗◌ k.0 e.t;
          combined = k.1 ∙ ap (P.◌⊗◌ k.0) e.combined
              ∙ ring5 P (λ k s f t b. (k ⊠ (s ⊠ f ⊞ t ⊠ b), k ⊠ s ⊠ f ⊞ k ⊠ t ⊠ b)) refl k.0 e.s f e.t b;
        },
      )

  pub gcds_exist : GcdsExist F E
  gcds_exist = for_polynomials R F.zero_test (λ P. (c : K → Poly R) (f z : Poly R) → IsMonic R f
      → (g : ℕ → Poly R) × AreGcds F E P c f z g)
      (λ c f z m. (
        λ k. (monic_gcd f (less F P z (c (E.member k))) m).0,
        λ k l. let r = monic_gcd f (less F P z (c (E.member k))) m in (r.1, r.2),
      ))

  constants_unique : (c : K → Poly R) → AreConstants F c → constant R F.zero_test ≡ c
  constants_unique c h = fun_ext (λ a. sym (constant_unique R F.zero_test a (c a) (h a)))

  pub is_product_of_gcds : IsProductOfGcds F E
  is_product_of_gcds = for_polynomials R F.zero_test (λ P. (c : K → Poly R) → AreConstants F c
      → (f z : Poly R) → IsMonic R f → Divides P f (power_less F P z E.size)
      → (g : ℕ → Poly R) → AreGcds F E P c f z g → f ≡ product P.ring g E.size)
      (λ c h. subst (λ (c : K → Poly R). (f z : Poly R) → IsMonic R f → Divides P f (power_less F P z E.size)
      → (g : ℕ → Poly R) → AreGcds F E P c f z g → f ≡ product P.ring g E.size)
      (constants_unique c h) product_of_gcds)

  pub one_gcd_is_proper : OneGcdIsProper F E
  one_gcd_is_proper = for_polynomials R F.zero_test (λ P. (c : K → Poly R) → AreConstants F c
      → (f z : Poly R) → IsMonic R f → 1 ≤ degree f.0 → Divides P f (power_less F P z E.size)
      → ((a : K) → Divides P f (less F P z (c a)) → ⊥)
      → (g : ℕ → Poly R) → AreGcds F E P c f z g
      → (k : ℕ) × (k < E.size) × (1 ≤ degree (g k).0) × (degree (g k).0 < degree f.0) × Divides P (g k) f)
      (λ c h. subst (λ (c : K → Poly R). (f z : Poly R) → IsMonic R f → 1 ≤ degree f.0
      → Divides P f (power_less F P z E.size) → ((a : K) → Divides P f (less F P z (c a)) → ⊥)
      → (g : ℕ → Poly R) → AreGcds F E P c f z g
      → (k : ℕ) × (k < E.size) × (1 ≤ degree (g k).0) × (degree (g k).0 < degree f.0) × Divides P (g k) f)
      (constants_unique c h) (λ f z m p d free g r. proper_gcd f z m d g r p free))
