-- The fractions over a program's field have the degree and the polynomials of the rational functions; so lattices over
-- them have common bases, with their members, and self-dual orders the degree count.
use Rattle.std.specs.Prelude.{◌≡◌, ℕ, zero, suc, ℤ, pos, ◌-ℤ◌, [], ◌∷◌}
use Rattle.std.proofs.Common.{refl, sym, ◌∙◌, ap, ap₂, subst, arith}
use Rattle.std.proofs.Math.Path.{fun_ext}
use Rattle.std.proofs.lemmas.Int.{ints}
use Rattle.std.proofs.lemmas.List.Elements.{All-nil, All-cons}
use Rattle.theory_rings.specs.Ring.{FieldOn, CommRingOn}
use Rattle.theory_rings.specs.Ops.{Ops, IsElem, FieldLaws}
use Rattle.theory_rings.specs.Elements.{Elem, Elem-path, elements}
use Rattle.theory_rings.specs.Homomorphism.{IsRingHom}
use Rattle.theory_rings.specs.Polynomial.{Poly, degree, constant_coefficients}
use Rattle.theory_rings.specs.Power.{power}
use Rattle.theory_rings.specs.Sum.{at}
use Rattle.theory_rings.specs.Fraction.{IsFractionField, IsLowest}
use Rattle.theory_rings.proofs.Rings.Homomorphisms.{comp_hom, map-zero}
use Rattle.theory_rings.proofs.Powers.Powers.{map-power}
use Rattle.theory_rings.proofs.Polynomials.PolynomialRing.{constant, coefficient-constant}
use Rattle.theory_rings.proofs.Polynomials.Constants.{variable}
use Rattle.theory_rings.proofs.Polynomials.Bezout.{field_polynomials}
use Rattle.theory_rings.proofs.Polynomials.ElementLists.{values, at-values}
use Rattle.theory_rings.proofs.Fractions.Fractions.{IsReduction, fraction_of_value}
use Rattle.theory_rings.proofs.Fractions.Lowest.{polynomial_reduction, rational_functions, is_rational_functions}
use Rattle.theory_spaces.specs.Module.{AlgebraOn, module_of}
use Rattle.theory_spaces.specs.Linear.{InSpan}
use Rattle.theory_spaces.proofs.Linear.Spaces.{basis_of, coords_of, full_span}
use Rattle.theory_lattices.specs.Degree.{DegreeOn}
use Rattle.theory_lattices.specs.Members.{PolynomialsOf}
use Rattle.theory_lattices.specs.Members as members
use Rattle.theory_lattices.specs.SelfDual.{ClosedWeights}
use Rattle.theory_lattices.specs.RationalFunctions.{Rational, IsPolynomial, of_polynomial, of_constant, power_of_x}
use Rattle.theory_lattices.specs.RationalFunctions.{IsRationalDegree}
use Rattle.theory_lattices.proofs.Degree.FractionDegrees.{polynomial_degree, polynomial_degree-is, eq_of_value, of_hom}
use Rattle.theory_lattices.proofs.Degree.FractionDegrees.{of-zero, of-ne-zero, rational_degree, rational_degree-is}
use Rattle.theory_lattices.proofs.Rows.PolynomialRows.{polynomial_euclidean}
use Rattle.theory_lattices.proofs.Common.RationalMembers.{degree_of_polynomial, constants_hom, polynomials_of}
use Rattle.theory_lattices.proofs.Common.RationalMembers.{polynomials_closed}
use Rattle.theory_lattices.proofs.Common.CommonBasisExists.{IsFractionsOf, common_basis_exists}
use Rattle.theory_lattices.proofs.Common.Intersections.{intersection_basis}
use Rattle.theory_lattices.proofs.Duals.MiddleElements.{middle_or_flat}
use Rattle.theory_lattices.proofs.Duals.SelfDualOrders.{dual_vectors, middle_of_pair}
use Rattle.theory_fractions.specs.FractionOps.{polynomial_of, rational_function, pair_of, fraction_ops}
use Rattle.theory_fractions.specs.FractionLaws.{FractionsAreRational}
use Rattle.theory_fractions.proofs.RationalFractions.{fractions_are_rational}
use Rattle.theory_fractions.proofs.FractionField.{polynomial_of-one, is_fraction-parts, rational_function_eq}
use Rattle.theory_fractions.specs.PolynomialLists.{IsPolynomialList}
use Rattle.theory_fractions.proofs.ListPolynomials.{is_polynomial-gives}
use Rattle.theory_fractions.proofs.ListPolynomials.{degree-polynomial_of, values_back}
use Rattle.theory_places.specs.FractionPlaces.{fractions}
use Rattle.theory_places.proofs.FractionPlaces.{x_list, x_poly}
use Rattle.theory_places.proofs.PolynomialFractions.{polynomial_of_denominator, denominator_of_polynomial}
use Rattle.theory_pairs.specs.Isomorphism.{IsRingIso, IsDegreeAlong}
use Rattle.theory_pairs.specs.FractionLattices.{IsPolynomialFraction, IsFractionDegree, FractionPolynomials}
use Rattle.theory_pairs.specs.FractionLattices.{PolynomialLattice, LatticeAtInfinity, IsCommonBasis, SelfDualOrders}
use Rattle.theory_pairs.specs.FractionLattices.{FractionsHaveDegree, FractionsHavePolynomials}
use Rattle.theory_pairs.specs.FractionLattices.{FractionLatticesHaveCommonBasis, CommonBasisGivesMembers}
use Rattle.theory_pairs.specs.FractionLattices.{DegreeCountOfOrders, CommonBasisHasDualVectors, OrdersHoldMiddleElement}
use Rattle.theory_pairs.specs.FractionLattices.{CornerOfOrdersIsPair}
use Rattle.theory_pairs.proofs.CornerDuals.{corner_pair}
use Rattle.theory_pairs.proofs.Isomorphisms.{back_hom, has_degree_along, polynomials_along}
use Rattle.theory_pairs.proofs.Polynomials.{polynomials_have_fractions}
use Rattle.theory_pairs.proofs.DegreeElements.{first_greatest, pair_natural, pair_element}

module _ {E : Type 0} (o : Ops E) (L : FieldLaws o) (M : FieldLaws (fraction_ops o L)) where
  abbrev F : FieldOn (Elem o)
  F = elements o L

  abbrev P : CommRingOn (Poly F.cring)
  P = field_polynomials F

  abbrev Low : Poly F.cring → Poly F.cring → Type 0
  Low = IsLowest F.cring P

  abbrev I : IsReduction P Low
  I = polynomial_reduction F

  abbrev Q : FieldOn (Rational F)
  Q = rational_functions F

  abbrev H : IsFractionField P Low Q
  H = is_rational_functions F

  abbrev K : FieldOn (Elem (fraction_ops o L))
  K = fractions o L M

  abbrev X : DegreeOn Q.ring
  X = rational_degree F Q H

  abbrev D : IsRationalDegree F Q X
  D = rational_degree-is F Q H

  abbrev map : Elem (fraction_ops o L) → Rational F
  map a = rational_function o L a.0

  abbrev R : FractionsAreRational o L M
  R = fractions_are_rational o L M

  abbrev back : Rational F → Elem (fraction_ops o L)
  back x = (pair_of o L x, R.element x)

  abbrev iso : IsRingIso K.ring Q.ring map
  iso = record {
    hom = R.hom;
    back = back;
    map-back = R.function;
    back-map = λ a. Elem-path (fraction_ops o L) (back (map a)) a (R.pair a);
  }

  from : IsRingHom Q.ring K.ring back
  from = back_hom K Q map iso

  -- numerator and denominator
  numerator_path : (a : Elem (fraction_ops o L)) → (map a).0.0 ≡ polynomial_of o L a.0.0
  unfolding fraction_ops
  numerator_path a = ap (λ (x : Rational F). x.0.0) (rational_function_eq o L a.0 a.1)

  denominator_path : (a : Elem (fraction_ops o L)) → (map a).0.1 ≡ polynomial_of o L a.0.1
  unfolding fraction_ops
  denominator_path a = ap (λ (x : Rational F). x.0.1) (rational_function_eq o L a.0 a.1)

  degree_numerator : (a : Elem (fraction_ops o L)) → degree (map a).0.0.0 ≡ degree a.0.0
  unfolding fraction_ops
  degree_numerator a = ap (λ (u : Poly F.cring). degree u.0) (numerator_path a)
      ∙ degree-polynomial_of o L a.0.0 (is_polynomial-gives o L a.0.0 (is_fraction-parts o L a.0 a.1).0)

  degree_denominator : (a : Elem (fraction_ops o L)) → degree (map a).0.1.0 ≡ degree a.0.1
  unfolding fraction_ops
  degree_denominator a = ap (λ (u : Poly F.cring). degree u.0) (denominator_path a)
      ∙ degree-polynomial_of o L a.0.1 (is_polynomial-gives o L a.0.1 (is_fraction-parts o L a.0 a.1).1)

  degree_path : (a : Elem (fraction_ops o L)) → X.deg (map a) ≡ pos (degree a.0.0) -ℤ pos (degree a.0.1)
  degree_path a =
      let d = D in
      d.degree-is (map a) ∙ ap₂ (λ m n. pos m -ℤ pos n) (degree_numerator a) (degree_denominator a)

  pub fractions_have_degree : FractionsHaveDegree o L M
  fractions_have_degree =
      let d = has_degree_along K Q map iso X in
      (d.0, record { degree-is = λ a. d.1 a ∙ degree_path a })

  -- the polynomials are those of the rational functions
  one_list : IsPolynomialList o (o.one ∷ [])
  one_list = record { over = All-cons (IsElem o) o.one [] L.one-elem (All-nil (IsElem o)); trimmed = L.one-nonzero }

  one_values : values o L P.one.0 ≡ o.one ∷ []
  one_values = ap (λ (u : Poly F.cring). values o L u.0) (sym (polynomial_of-one o L))
      ∙ values_back o L (o.one ∷ []) one_list

  polynomial_in : (a : Elem (fraction_ops o L)) → IsPolynomialFraction o L M a → IsPolynomial F (map a)
  polynomial_in a e = polynomial_of_denominator F (map a)
      (denominator_path a ∙ ap (polynomial_of o L) e ∙ polynomial_of-one o L)

  polynomial_back : (x : Rational F) → IsPolynomial F x → IsPolynomialFraction o L M (back x)
  polynomial_back x p =
      ap (λ (u : Poly F.cring). values o L u.0) (denominator_of_polynomial F x p) ∙ one_values

  polynomial_out : (a : Elem (fraction_ops o L)) → IsPolynomial F (map a) → IsPolynomialFraction o L M a
  polynomial_out a p = ap (λ t. t.1) (sym (R.pair a)) ∙ polynomial_back (map a) p

  abbrev of : Poly F.cring → Rational F
  of u = of_polynomial F u

  is_of : (u : Poly F.cring) → IsPolynomial F (of u)
  is_of u = (u, fraction_of_value P Low I u)

  numerator_of : (u : Poly F.cring) → (of u).0.0 ≡ u
  numerator_of u = sym (P.mul-one (of u).0.0) ∙ fraction_of_value P Low I u
      ∙ ap (P.◌⊗◌ u) (denominator_of_polynomial F (of u) (is_of u)) ∙ P.mul-one u

  numerator_values : (u : Poly F.cring) → (back (of u)).0.0 ≡ values o L u.0
  numerator_values u = ap (λ (t : Poly F.cring). values o L t.0) (numerator_of u)

  abbrev constant_fraction : Elem o → Elem (fraction_ops o L)
  constant_fraction c = back (of_constant F c)

  abbrev T : Poly F.cring
  T = variable F.cring F.zero_test

  abbrev x : Elem (fraction_ops o L)
  x = back (of T)

  constant-is : (c : Elem o) (k : ℕ) → at o (constant_fraction c).0.0 k ≡ constant_coefficients o.zero c.0 k
  constant-is c k =
      let u : Poly F.cring = constant F.cring F.zero_test c in
      ap (λ t. at o t k) (numerator_values u) ∙ at-values o L u.0 k
      ∙ ap (λ (t : Elem o). t.0) (coefficient-constant F.cring F.zero_test c k) ∙ each k
    where
      each : (k : ℕ) → (constant_coefficients F.zero c k).0 ≡ constant_coefficients o.zero c.0 k
      each zero = refl
      each (suc k) = refl

  x_values : values o L T.0 ≡ o.zero ∷ o.one ∷ []
  unfolding x_list
  x_values = ap (λ (u : Poly F.cring). values o L u.0) (sym (x_poly o L))
      ∙ values_back o L (o.zero ∷ o.one ∷ [])
      (record {
        over = All-cons (IsElem o) o.zero (o.one ∷ []) L.zero-elem one_list.over;
        trimmed = L.one-nonzero;
      })

  x-is : x.0 ≡ (o.zero ∷ o.one ∷ [], o.one ∷ [])
  x-is = ap₂ (λ u v. (u, v)) (numerator_values T ∙ x_values) (polynomial_back (of T) (is_of T))

  power_path : (j : ℕ) → back (power_of_x F j) ≡ power K.ring x j
  power_path j =
      let h : IsRingHom P.ring K.ring (λ u. back (of u)) =
      comp_hom P.ring Q.ring K.ring of back (of_hom P Low I Q H) from in
      map-power P.ring K.ring (λ u. back (of u)) h.map-one h.map-mul T j

  closed : ClosedWeights K (IsPolynomialFraction o L M)
  closed =
      let c = polynomials_closed F Q H X D in
      let h = R.hom in
      record {
        zero_in = polynomial_out K.zero (subst (IsPolynomial F) (sym (map-zero K.ring Q.ring map h)) c.zero_in);
        add_in = λ a b p q. polynomial_out (K.◌⊕◌ a b) (subst (IsPolynomial F) (sym (h.map-add a b))
            (c.add_in (map a) (map b) (polynomial_in a p) (polynomial_in b q)));
        mul_in = λ a b p q. polynomial_out (K.◌⊗◌ a b) (subst (IsPolynomial F) (sym (h.map-mul a b))
            (c.mul_in (map a) (map b) (polynomial_in a p) (polynomial_in b q)));
      }

  module _ (W : DegreeOn K.ring) (is : IsFractionDegree o L M W) where
    along : IsDegreeAlong W X map
    along a = is.degree-is a ∙ sym (degree_path a)

    by_powers : PolynomialsOf K W (IsPolynomialFraction o L M) F.ring constant_fraction (λ j. back (power_of_x F j))
    by_powers =
        let p = polynomials_along K Q map iso X W along (IsPolynomial F) F.ring (of_constant F) (power_of_x F)
        (polynomials_of F Q H X D) in
        record {
          ι-zero = p.ι-zero;
          ι-degree = p.ι-degree;
          ι-injective = p.ι-injective;
          T-degree = p.T-degree;
          expand = λ c h m l. p.expand c (polynomial_in c h) m l;
          back = λ m s. polynomial_out
              (members.polynomial_of K constant_fraction (λ j. back (power_of_x F j)) m s) (p.back m s);
        }

    pub fraction_polynomials : FractionPolynomials o L M W
    fraction_polynomials = record {
      constant = constant_fraction;
      constant_over = λ c. let u : Poly F.cring = constant F.cring F.zero_test c in polynomial_back (of u) (is_of u);
      constant-is = constant-is;
      constant_hom = comp_hom F.ring Q.ring K.ring (of_constant F) back (constants_hom F Q H X D) from;
      x = x;
      x-is = x-is;
      closed = closed;
      polynomials = subst (PolynomialsOf K W (IsPolynomialFraction o L M) F.ring constant_fraction)
          (fun_ext power_path) by_powers;
    }

    -- fractions of polynomials
    abbrev of' : Poly F.cring → Elem (fraction_ops o L)
    of' u = back (of u)

    abbrev of_hom' : IsRingHom P.ring K.ring of'
    of_hom' = comp_hom P.ring Q.ring K.ring of back (of_hom P Low I Q H) from

    degree_of' : (u : Poly F.cring) → (u ≡ P.zero → ⊥) → W.deg (of' u) ≡ pos (degree u.0)
    degree_of' u n = along (of' u) ∙ ap X.deg (R.function (of u)) ∙ degree_of_polynomial F Q H X D u n

    fraction_of : (c : Elem (fraction_ops o L))
        → (u : Poly F.cring) × (v : Poly F.cring) × (v ≡ P.zero → ⊥) × (K.◌⊗◌ (of' v) c ≡ of' u)
    fraction_of c =
        let y : Rational F = map c in
        let j = iso in
        let f = from in
        let r = polynomials_have_fractions F Q H y in
        let t = r.1 in
        let u : Poly F.cring = t.clears.0 in
        let v : Poly F.cring = t.inside.0 in
        let d : r.0 ≡ of v = eq_of_value P Low I Q H r.0 v t.inside.1 in
        let e : Q.◌⊗◌ r.0 y ≡ of u = eq_of_value P Low I Q H (Q.◌⊗◌ r.0 y) u t.clears.1 in (
          u,
          v,
          λ z. t.nonzero (d ∙ ap of z ∙ of-zero P Low I Q H),
          ap (K.◌⊗◌ (of' v)) (sym (j.back-map c)) ∙ sym (f.map-mul (of v) y)
              ∙ ap back (ap (λ s. Q.◌⊗◌ s y) (sym d) ∙ e),
        )

    are_fractions : IsFractionsOf (polynomial_degree F) K W of'
    are_fractions = record {
      hom = of_hom';
      keeps = record {
        map-zero = ap back (of-zero P Low I Q H) ∙ map-zero Q.ring K.ring back from;
        map-ne-zero = λ a n e. of-ne-zero P Low I Q H a n
            (sym (R.function (of a)) ∙ ap map e ∙ map-zero K.ring Q.ring map R.hom);
        map-degree = λ a n.
            let e = degree_of' a n in
            let p = polynomial_degree-is F in
            let d = p.degree-is a in
            omega (arith, ints);
      };
      fraction = fraction_of;
    }

  pub fractions_have_polynomials : FractionsHavePolynomials o L M
  fractions_have_polynomials = fraction_polynomials

  pub lattices_have_common_basis : {V : Type 0} → FractionLatticesHaveCommonBasis o L M V
  lattices_have_common_basis W is =
      common_basis_exists (polynomial_degree F)
      (polynomial_euclidean F (polynomial_degree F) (polynomial_degree-is F)) K W (of' W is) (are_fractions W is)
      (IsPolynomialFraction o L M)
      (λ u. polynomial_back (of u) (is_of u))
      (λ c h. let p = polynomial_in c h in let j = iso in
      (p.0, sym (j.back-map c) ∙ ap back (eq_of_value P Low I Q H (map c) p.0 p.1)))

  pub basis_gives_members : {V : Type 0} → CommonBasisGivesMembers o L M V
  basis_gives_members W t N n f e b a B =
      intersection_basis K W (IsPolynomialFraction o L M) F.ring t.constant (power K.ring t.x) t.polynomials N n
      (PolynomialLattice o L M W n N f) (LatticeAtInfinity o L M W n N e) b a B

  pub count_of_orders : {V : Type 0} → DegreeCountOfOrders o L M V
  count_of_orders W is A n f e tr S b a B d G =
      let t = fraction_polynomials W is in
      let p = IsPolynomialFraction o L M in
      let u = PolynomialLattice o L M W n (module_of A) f in
      let v = LatticeAtInfinity o L M W n (module_of A) e in
      let s = power K.ring t.x in
      record {
        count = middle_or_flat F K W p t.constant t.constant_hom s t.polynomials refl A n u v tr S b a B d G;
        exists = first_greatest n a;
        not_negative = λ g. pair_natural F K W p t.constant t.constant_hom s t.polynomials refl A n u v tr S b a B d G
            g.place g.within g.most;
        element = λ g. pair_element F K W p t.constant t.constant_hom s t.polynomials refl A n u v tr S b a B d G
            g.place g.within g.most;
      }

  -- a common basis of bases spans
  basis_spans : {V : Type 0} (W : DegreeOn K.ring) (A : AlgebraOn K.ring V) (n : ℕ) (f e : ℕ → V)
      (tr : V → Elem (fraction_ops o L))
      → SelfDualOrders o L M W n A f e tr → (b : ℕ → V) (a : ℕ → ℤ)
      → IsCommonBasis o L M W n (module_of A) f e b a → (x : V) → InSpan (module_of A) n b x
  basis_spans W A n f e tr S b a B =
      let N = module_of A in
      full_span K N n (coords_of N n (basis_of N n e S.infinite_free S.infinite_spans)) n e b S.infinite_spans B.free

  pub basis_has_dual_vectors : {V : Type 0} → CommonBasisHasDualVectors o L M V
  basis_has_dual_vectors W is A n f e tr S b a B =
      let t = fraction_polynomials W is in
      dual_vectors F K W (IsPolynomialFraction o L M) t.constant t.constant_hom (power K.ring t.x) t.polynomials refl
      A n (PolynomialLattice o L M W n (module_of A) f) (LatticeAtInfinity o L M W n (module_of A) e) tr S.pair b a B
      (basis_spans W A n f e tr S b a B)

  pub orders_hold_middle_element : {V : Type 0} → OrdersHoldMiddleElement o L M V
  orders_hold_middle_element m W is A n f e tr S f1 e1 central enough bounded =
      let N = module_of A in
      let t = fraction_polynomials W is in
      let C = coords_of N n (basis_of N n e S.infinite_free S.infinite_spans) in
      let r = lattices_have_common_basis W is N n C f e S.finite_free S.infinite_free S.infinite_spans in
      middle_of_pair F K W (IsPolynomialFraction o L M) t.constant t.constant_hom (power K.ring t.x) t.polynomials refl
      A n (PolynomialLattice o L M W n N f) (LatticeAtInfinity o L M W n N e) tr S.pair r.0 r.1 r.2
      (basis_spans W A n f e tr S r.0 r.1 r.2) m f1 e1 central enough bounded

  pub corner_of_orders : {V C : Type 0} → CornerOfOrdersIsPair o L M V C
  corner_of_orders W A n f e tr S u idem f1 e1 B ι H =
      corner_pair K W A u idem B ι H (IsPolynomialFraction o L M) (PolynomialLattice o L M W n (module_of A) f)
      (LatticeAtInfinity o L M W n (module_of A) e) tr S f1 e1
