-- The dual vectors of a common basis of two self-dual orders are a common basis with the opposite degrees.
use Rattle.std.specs.Prelude.{◌≡◌, ℕ, zero, suc, ◌<◌, ℤ, pos, ◌+ℤ◌, neg_ℤ}
use Rattle.std.proofs.Common.{sym, ◌∙◌, ap, subst, arith}
use Rattle.std.proofs.lemmas.Int.{ints}
use Rattle.theory_rings.specs.Ring.{FieldOn}
use Rattle.theory_rings.specs.Sum.{sum}
use Rattle.theory_rings.specs.Homomorphism.{IsRingHom}
use Rattle.theory_rings.proofs.Rings.RingLaws.{mul-zero, additive-zero}
use Rattle.theory_rings.proofs.Sums.Sums.{sum_congr, map-sum}
use Rattle.theory_spaces.specs.Module.{ModuleOn, AlgebraOn, module_of}
use Rattle.theory_spaces.specs.Linear.{comb, InSpan, Independent}
use Rattle.theory_spaces.proofs.Linear.Spaces.{basis_of, coords_of, full_span}
use Rattle.theory_lattices.specs.Degree.{DegreeOn, DegreeBelow}
use Rattle.theory_lattices.specs.CommonBasis.{CommonBasis}
use Rattle.theory_lattices.specs.Members.{PolynomialsOf}
use Rattle.theory_lattices.specs.SelfDual.{PowersOf, ClosedWeights, SelfDualPair, IntegralTrace, DualVectors}
use Rattle.theory_lattices.proofs.Degree.Degrees.{below-mul, below-sum}
use Rattle.theory_lattices.proofs.Duals.DualCoordinates.{trace_bilinear, dual_coord-comb}
use Rattle.theory_lattices.proofs.Duals.DualLattices.{weights_are}
use Rattle.theory_lattices.proofs.Degree.PowersOfDegreeOne.{powers, at}
use Rattle.theory_lattices.proofs.Duals.DegreeCount.{Reaches, opposite, shift_below, basis_reaches}
use Rattle.theory_lattices.proofs.Duals.MiddleElements.{low_poly, const_poly}

module _ {k K V : Type 0} (κ : FieldOn k) (F : FieldOn K) (W : DegreeOn F.ring) (P : K → Type 0) (ι : k → K)
    (hom : IsRingHom κ.ring F.ring ι)
    (T : ℕ → K) (X : PolynomialsOf F W P κ.ring ι T) (T-zero : T 0 ≡ F.one)
    (A : AlgebraOn F.ring V) (n : ℕ) (finite infinite : V → Type 0) (tr : V → K)
    (S : SelfDualPair F W A P finite infinite tr)
    (b : ℕ → V) (a : ℕ → ℤ) (B : CommonBasis F W (module_of A) P n finite infinite b a) (dual : ℕ → V)
    (D : DualVectors F A tr n b dual)
    (closed : ClosedWeights F P) (integral : IntegralTrace F W A P finite infinite tr)
    (spans : (x : V) → InSpan (module_of A) n b x) where
  infixl 70 ◌⊗◌
  infixl 70 ◌•◌
  open A use {◌⊗◌, ◌•◌}

  abbrev M : ModuleOn F.ring V
  M = module_of A

  abbrev power : ℤ → K
  power m = at F W (T 1) (X.T-degree 1) m

  abbrev all_powers : PowersOf F W power
  all_powers = powers F W (T 1) (X.T-degree 1)

  one_poly : P F.one
  one_poly = subst P hom.map-one (const_poly κ F W P ι hom T X T-zero κ.one)

  abbrev low : (c : K) → P c → DegreeBelow W (pos 0) c → c ≡ F.zero
  low = low_poly κ F W P ι hom T X T-zero

  abbrev reaches : (i : ℕ) → i < n
      → Reaches F W A P n finite infinite tr S power all_powers b a B one_poly closed.zero_in low dual D (a i) (b i)
  reaches i l = basis_reaches F W A P n finite infinite tr S power all_powers b a B one_poly closed.zero_in low dual D i
      l

  -- the weights by the dual vectors are the traces with the basis
  weight_is : (c : ℕ → K) (i : ℕ) → i < n → tr (b i ⊗ comb M n c dual) ≡ c i
  weight_is c i l = weights_are F M P n (λ x y. tr (x ⊗ y))
      (trace_bilinear F W A P finite infinite tr S) b dual D.pairing c i l

  dual_free : Independent M n dual
  dual_free = record {
    only_zero = λ c e i l. sym (weight_is c i l) ∙ ap (λ x. tr (b i ⊗ x)) e ∙ ap tr (mul-zero A.ring (b i))
        ∙ additive-zero A.additive F.additive tr S.tr-add;
  }

  abbrev w : V → ℕ → K
  w x i = tr (b i ⊗ x)

  expand : (x : V) → x ≡ comb M n (w x) dual
  expand x =
      let s = full_span F M n (coords_of M n (basis_of M n b B.free spans)) n b dual spans dual_free x in
      s.combines ∙ sum_congr M.monoid n (λ i. s.weights i • dual i) (λ i. w x i • dual i)
      (λ i l. ap (λ c. c • dual i) (sym (weight_is s.weights i l) ∙ ap (λ t. tr (b i ⊗ t)) (sym s.combines)))

  -- a vector by the basis against one by the dual vectors
  paired : (q c : ℕ → K) → tr (comb M n q b ⊗ comb M n c dual) ≡ sum F.monoid n (λ j. F.◌⊗◌ (c j) (q j))
  paired q c =
      let y = comb M n q b in
      let f = trace_bilinear F W A P finite infinite tr S in
      map-sum M.monoid F.monoid (λ x. tr (y ⊗ x))
      (additive-zero M.additive F.additive (λ x. tr (y ⊗ x)) (f.add-right y)) (f.add-right y) n (λ j. c j • dual j)
      ∙ sum_congr F.monoid n (λ j. tr (y ⊗ (c j • dual j))) (λ j. F.◌⊗◌ (c j) (q j))
      (λ j l. f.scale-right (c j) y (dual j)
      ∙ ap (F.◌⊗◌ (c j)) (dual_coord-comb F W A P finite infinite tr S n b dual D q j l))

  sum_in : (m : ℕ) (f : ℕ → K) → ((i : ℕ) → i < m → P (f i)) → P (sum F.monoid m f)
  sum_in zero f h = closed.zero_in
  sum_in (suc m) f h = closed.add_in (sum F.monoid m f) (f m) (sum_in m f (λ i l. h i (omega arith)))
      (h m (omega arith))

  -- c of degree at most −a where the power a times c has degree at most 0
  drop : (e : ℤ) (c : K) → DegreeBelow W (pos 1) (F.◌⊗◌ (power e) c) → DegreeBelow W (neg_ℤ e +ℤ pos 1) c
  drop e c h =
      let Q : K → Type 0 = λ t. DegreeBelow W (neg_ℤ e +ℤ pos 1) t in
      subst Q (opposite F W A P n finite infinite tr S power all_powers b a B one_poly closed.zero_in low dual D e c)
      (shift_below F W A P n finite infinite tr S power all_powers b a B one_poly closed.zero_in low dual D (pos 1)
      (neg_ℤ e) (neg_ℤ e +ℤ pos 1)
      (F.◌⊗◌ (power e) c) (omega (arith, ints)) h)

  weight_below : (x : V) → infinite x → (i : ℕ) → i < n → DegreeBelow W (neg_ℤ (a i) +ℤ pos 1) (w x i)
  weight_below x h i l =
      let r = reaches i l in
      let Q : K → Type 0 = λ t. DegreeBelow W (pos 1) t in
      drop (a i) (w x i) (subst Q (ap tr (A.scale-left (power (a i)) (b i) x) ∙ S.tr-scale (power (a i)) (b i ⊗ x))
      (integral.infinite_trace ((power (a i) • b i) ⊗ x) (S.infinite-mul (power (a i) • b i) x r.in_infinite h)))

  pub dual_common_basis : CommonBasis F W M P n finite infinite dual (λ i. neg_ℤ (a i))
  dual_common_basis = record {
    free = dual_free;
    finite_in = λ x h. record {
      weights = w x;
      passes = λ i l. let r = reaches i l in integral.finite_trace (b i ⊗ x) (S.finite-mul (b i) x r.in_finite h);
      combines = expand x;
    };
    finite_back = λ x s. S.finite_dual x (λ y h.
        let q = B.finite_in y h in
        subst P (sym (ap (λ t. tr (t ⊗ x)) q.combines ∙ ap (λ t. tr (comb M n q.weights b ⊗ t)) s.combines
        ∙ paired q.weights s.weights))
        (sum_in n (λ j. F.◌⊗◌ (s.weights j) (q.weights j))
        (λ j l. closed.mul_in (s.weights j) (q.weights j) (s.passes j l) (q.passes j l))));
    infinite_in = λ x h. record { weights = w x; passes = weight_below x h; combines = expand x };
    infinite_back = λ x s. S.infinite_dual x (λ y h.
        let q = B.infinite_in y h in
        let Q : K → Type 0 = λ t. DegreeBelow W (pos 1) t in
        subst Q (sym (ap (λ t. tr (t ⊗ x)) q.combines ∙ ap (λ t. tr (comb M n q.weights b ⊗ t)) s.combines
        ∙ paired q.weights s.weights))
        (below-sum W (pos 1) n (λ j. F.◌⊗◌ (s.weights j) (q.weights j))
        (λ j l. below-mul W (neg_ℤ (a j) +ℤ pos 1) (a j +ℤ pos 1) (pos 1) (s.weights j) (q.weights j)
        (omega (arith, ints)) (s.passes j l) (q.passes j l))));
  }
