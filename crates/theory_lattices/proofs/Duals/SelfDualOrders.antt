-- Self-dual orders with a common basis have dual vectors: the trace form is nondegenerate, as otherwise all multiples
-- of some vector would pair with the finite order to 0 and lie in it. So over the rational functions bases of the two
-- orders are enough.
use Rattle.std.specs.Prelude.{◌≡◌, ℕ, ◌<◌, ◌≤◌, ℤ, negsuc}
use Rattle.std.proofs.Common.{sym, ◌∙◌, ap, subst, arith, ⊎_elim, inr}
use Rattle.std.proofs.lemmas.Int.{ints}
use Rattle.theory_rings.specs.Ring.{FieldOn}
use Rattle.theory_rings.specs.Homomorphism.{IsRingHom}
use Rattle.theory_rings.specs.Fraction.{IsFractionField, IsLowest}
use Rattle.theory_rings.specs.Enumerated.{Enumerated}
use Rattle.theory_rings.proofs.Rings.RingLaws.{mul-zero}
use Rattle.theory_rings.proofs.Rings.ZeroTests.{eq_zero_or}
use Rattle.theory_rings.proofs.Rings.Fields.{inv_mul_cancel_right}
use Rattle.theory_rings.proofs.Polynomials.Bezout.{field_polynomials}
use Rattle.theory_spaces.specs.Module.{ModuleOn, AlgebraOn, module_of}
use Rattle.theory_spaces.specs.Linear.{InSpan, Independent, Basis}
use Rattle.theory_spaces.specs.Algebra.{Central}
use Rattle.theory_spaces.specs.Form.{IsNondegenerate}
use Rattle.theory_spaces.specs.Lattice.{LatticeOver}
use Rattle.theory_spaces.proofs.Linear.Modules.{comb-scale, comb_zero, comb_injective}
use Rattle.theory_spaces.proofs.Linear.Spaces.{basis_of, coords_of, full_span}
use Rattle.theory_spaces.proofs.Forms.Forms.{dual_basis}
use Rattle.theory_lattices.specs.Degree.{DegreeOn, HasDegree}
use Rattle.theory_lattices.specs.CommonBasis.{InInfinite, CommonBasis}
use Rattle.theory_lattices.specs.Members.{PolynomialsOf}
use Rattle.theory_lattices.specs.SelfDual.{PowersOf, SelfDualPair, Middle, DualVectors}
use Rattle.theory_lattices.specs.RationalFunctions.{Rational, IsPolynomial, of_constant, power_of_x, IsRationalDegree}
use Rattle.theory_lattices.proofs.Duals.DualCoordinates.{trace_bilinear}
use Rattle.theory_lattices.proofs.Degree.PowersOfDegreeOne.{powers, at}
use Rattle.theory_lattices.proofs.Duals.MiddleElements.{low_poly, const_poly, middle_exists}
use Rattle.theory_lattices.proofs.Common.RationalMembers.{constants_hom, power_of_x-zero, polynomials_of}
use Rattle.theory_lattices.proofs.Common.RationalBases.{rational_common_basis}

module _ {k K V : Type 0} (κ : FieldOn k) (F : FieldOn K) (W : DegreeOn F.ring) (P : K → Type 0) (ι : k → K)
    (hom : IsRingHom κ.ring F.ring ι)
    (T : ℕ → K) (X : PolynomialsOf F W P κ.ring ι T) (T-zero : T 0 ≡ F.one)
    (A : AlgebraOn F.ring V) (n : ℕ) (finite infinite : V → Type 0) (tr : V → K)
    (S : SelfDualPair F W A P finite infinite tr)
    (b : ℕ → V) (a : ℕ → ℤ) (B : CommonBasis F W (module_of A) P n finite infinite b a)
    (spans : (x : V) → InSpan (module_of A) n b x) where
  infixl 70 ◌⊗◌
  infixl 70 ◌•◌
  open A use {◌⊗◌, ◌•◌}

  abbrev M : ModuleOn F.ring V
  M = module_of A

  abbrev form : V → V → K
  form x y = tr (x ⊗ y)

  abbrev basis : Basis M n
  basis = basis_of M n b B.free spans

  -- an element of degree −1
  abbrev low : K
  low = at F W (T 1) (X.T-degree 1) (negsuc 0)

  low_degree : HasDegree W (negsuc 0) low
  low_degree = let p : PowersOf F W (at F W (T 1) (X.T-degree 1)) = powers F W (T 1) (X.T-degree 1) in
      p.degree (negsuc 0)

  low_no_polynomial : P low → ⊥
  low_no_polynomial p =
      let h = low_degree in
      let d = h.degree in
      h.nonzero (low_poly κ F W P ι hom T X T-zero low p (inr (omega (arith, ints))))

  -- all multiples of what is orthogonal to everything are in the finite order
  multiples_in : (x : V) → ((y : V) → form x y ≡ F.zero) → (c : K) → finite (c • x)
  multiples_in x h c = S.finite_dual (c • x) (λ y _. subst P
      (sym (ap tr (A.scale-right c y x) ∙ S.tr-scale c (y ⊗ x) ∙ ap (F.◌⊗◌ c) (S.tr_comm y x ∙ h y)
      ∙ mul-zero F.ring c))
      (subst P X.ι-zero (const_poly κ F W P ι hom T X T-zero κ.zero)))

  coordinate_zero : (x : V) → ((y : V) → form x y ≡ F.zero) → (i : ℕ) → i < n → basis.coord x i ≡ F.zero
  coordinate_zero x h i l = ⊎_elim
      (λ (z : basis.coord x i ≡ F.zero). z)
      (λ (d : basis.coord x i ≡ F.zero → ⊥).
      let c = F.◌⊗◌ low (F.inv (basis.coord x i)) in
      let w = B.finite_in (c • x) (multiples_in x h c) in
      let same = comb_injective M n b B.free w.weights (λ j. F.◌⊗◌ c (basis.coord x j))
      (sym w.combines ∙ ap (λ y. c • y) (basis.expand x) ∙ sym (comb-scale M n c (basis.coord x) b)) i l in
      absurd (low_no_polynomial (subst P (same ∙ inv_mul_cancel_right F low (basis.coord x i) d) (w.passes i l))))
      (eq_zero_or F.zero_test (basis.coord x i))

  form_nondegenerate : IsNondegenerate M form
  form_nondegenerate = record {
    only_zero = λ x h. basis.expand x
        ∙ comb_zero M n (basis.coord x) b (coordinate_zero x h);
  }

  pub dual_vectors : (dual : ℕ → V) × DualVectors F A tr n b dual
  dual_vectors = let d =
      dual_basis F M form (trace_bilinear F W A P finite infinite tr S) n basis form_nondegenerate in let e =
      d.basis in (e.vec, d.dual)

  pub middle_of_pair : Enumerated k → finite A.one → infinite A.one → Central A → 2 ≤ n → n ≤ 36 → (w : V)
      × Middle F W A P finite infinite w
  middle_of_pair E f1 i1 central enough bounded =
      let d = dual_vectors in
      middle_exists κ E F W P ι hom T X T-zero A n finite infinite tr S b a B d.0 d.1 f1 i1 spans central enough bounded

-- over the rational functions of a finite field
module _ {k V : Type 0} (F : FieldOn k) (E : Enumerated k) (Q : FieldOn (Rational F))
    (H : IsFractionField (field_polynomials F) (IsLowest F.cring (field_polynomials F)) Q) (W : DegreeOn Q.ring)
    (D : IsRationalDegree F Q W)
    (A : AlgebraOn Q.ring V) (n : ℕ) (f e : ℕ → V) (f_free : Independent (module_of A) n f)
    (e_free : Independent (module_of A) n e)
    (e_spans : (x : V) → InSpan (module_of A) n e x) where
  abbrev N : ModuleOn Q.ring V
  N = module_of A

  abbrev Finite : V → Type 0
  Finite = LatticeOver N (IsPolynomial F) n f

  abbrev Infinite : V → Type 0
  Infinite = InInfinite Q W N (IsPolynomial F) n e

  pub middle_of_orders : (tr : V → Rational F) → SelfDualPair Q W A (IsPolynomial F) Finite Infinite tr → Finite A.one
      → Infinite A.one
      → Central A → 2 ≤ n → n ≤ 36 → (w : V) × Middle Q W A (IsPolynomial F) Finite Infinite w
  middle_of_orders tr S f1 i1 central enough bounded =
      let C = coords_of N n (basis_of N n e e_free e_spans) in
      let r = rational_common_basis F Q H W D N n C f e f_free e_free e_spans in
      let B = r.2 in
      middle_of_pair F Q W (IsPolynomial F) (of_constant F) (constants_hom F Q H W D) (power_of_x F)
      (polynomials_of F Q H W D) (power_of_x-zero F Q H W D)
      A n Finite Infinite tr S r.0 r.1 B (full_span Q N n C n e r.0 e_spans B.free) E f1 i1 central enough bounded
