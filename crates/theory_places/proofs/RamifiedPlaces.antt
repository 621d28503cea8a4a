-- The quaternions with j² = b, no square, are ramified at x where i² = x, and at infinity where i² = 1/x.
use Rattle.std.specs.Prelude.{◌≡◌, ◌≢◌, ℕ, zero, suc, ◌<◌, ◌*◌, ◌%◌, ◌↔◌, List, [], ◌∷◌}
use Rattle.std.proofs.Common.{refl, sym, ◌∙◌, ap, ap₂, subst, arith}
use Rattle.theory_rings.specs.Ring.{FieldOn}
use Rattle.theory_rings.specs.Ops.{Ops, IsElem, FieldLaws}
use Rattle.theory_rings.specs.Elements.{Elem, Elem-path, elements}
use Rattle.theory_rings.specs.Homomorphism.{IsRingHom}
use Rattle.theory_rings.proofs.Rings.RingLaws.{zero-mul}
use Rattle.theory_rings.proofs.Rings.Homomorphisms.{map-neg}
use Rattle.theory_rings.proofs.Rings.Solver.{◌⊞◌, minus, ring2}
use Rattle.theory_spaces.specs.Valuation.{ValuationOn}
use Rattle.theory_orders.specs.Uniformizer.{IsIntegral}
use Rattle.theory_residue.specs.Residue.{ResidueOn}
use Rattle.theory_places.proofs.Quaternions.{NoSquareModulo}
use Rattle.std.proofs.lemmas.List.Elements.{All-nil, All-cons}
use Rattle.theory_rings.specs.Sum.{at}
use Rattle.theory_rings.specs.Polynomial.{Poly, coefficient, degree, constant_coefficients}
use Rattle.theory_rings.specs.Fraction.{IsFractionField, IsLowest}
use Rattle.theory_rings.proofs.Rings.Homomorphisms.{id_hom}
use Rattle.theory_rings.proofs.Polynomials.PolynomialRing.{Poly-path, constant, coefficient-constant}
use Rattle.theory_rings.proofs.Polynomials.Constants.{variable}
use Rattle.theory_rings.proofs.Polynomials.Bezout.{field_polynomials, degree_of_divides_one}
use Rattle.theory_rings.proofs.Fractions.Fractions.{fraction_of_value}
use Rattle.std.proofs.lemmas.Bool.{ltb-true}
use Rattle.theory_rings.proofs.Fractions.Lowest.{polynomial_reduction, rational_functions, is_rational_functions}
use Rattle.theory_lattices.specs.RationalFunctions.{Rational, of_polynomial, of_constant, power_of_x}
use Rattle.theory_tables.specs.Ramified.{RamifiedTable}
use Rattle.theory_fractions.specs.FractionOps.{polynomial_of, rational_function, fraction_ops}
use Rattle.theory_fractions.specs.PolynomialLists.{IsPolynomialList}
use Rattle.theory_fractions.proofs.ListPolynomials.{has_polynomial_of, degree-polynomial_of}
use Rattle.theory_fractions.proofs.Reducing.{lowest_over_one, poly-mul}
use Rattle.theory_fractions.proofs.ElementClauses.{elem_of_lowest}
use Rattle.theory_fractions.proofs.RationalFractions.{fractions_are_rational}
use Rattle.theory_places.specs.Places.{PlaceOf, Finite, Infinite, IsIntegralOff, PlaceValuation}
use Rattle.theory_places.specs.Places.{uniformizer_at as rational_uniformizer}
use Rattle.theory_places.specs.FractionPlaces.{IsPlace, fractions, RamifiedPlaceExcludesSplit}
use Rattle.theory_tables.proofs.Split.Ramified.{ramified_excludes_split}
use Rattle.theory_places.specs.Quaternions.{quaternion_structure, quaternion_order, quaternion_radical, IsNoSquare}
use Rattle.theory_places.specs.Quaternions.{QuaternionsRamifiedAt, QuaternionsAreRamified, three, QuaternionsOverThree}
use Rattle.theory_places.proofs.PlaceValuations.{place_valuation, infinite_valuation, x_ne}
use Rattle.theory_places.proofs.PlaceResidues.{infinite_residues}
use Rattle.theory_places.proofs.InfiniteResidue.{lift_in}
use Rattle.theory_places.proofs.SwapPlaces.{swap, swap_hom, swap_place, swap_variable, swap_constant, variable_place}
use Rattle.theory_places.proofs.PulledBack.{h-inv}
use Rattle.theory_places.proofs.FractionPlaces.{place_of, is_place_of, integral_at, uniformizer_path, over_one_path}
use Rattle.theory_places.proofs.FractionPlaces.{inverse_path, fraction_place, x_list, x_poly}
use Rattle.theory_places.proofs.QuaternionTables.{ramified_quaternion_table}

-- what is no square in the residue field is none modulo the uniformizer
module _ {K E : Type 0} (F : FieldOn K) (Z : ValuationOn F) (q : K) (k : FieldOn E) (D : ResidueOn F Z q k) (b : K)
    (b_in : IsIntegral F Z b) where
  infixl 65 ◌⊕◌
  infixl 70 ◌⊗◌
  open F use {◌⊕◌, ◌⊗◌, neg}

  abbrev In : K → Type 0
  In = IsIntegral F Z

  pub no_square_of_residue : ((x y : E) → k.◌⊗◌ x x ≡ k.◌⊗◌ (D.res b) (k.◌⊗◌ y y) → (x ≡ k.zero) × (y ≡ k.zero))
      → NoSquareModulo F Z q b
  no_square_of_residue h x y hx hy m =
      let s = x ⊗ x in
      let t = b ⊗ (y ⊗ y) in
      let n = s ⊕ neg t in
      let hs : In s = Z.mul_in x x hx hx in
      let hyy : In (y ⊗ y) = Z.mul_in y y hy hy in
      let ht : In t = Z.mul_in b (y ⊗ y) b_in hyy in
      let hn : In n = Z.add_in s (neg t) hs (Z.neg_in t ht) in
      let e : D.res s ≡ D.res t =
      ap D.res (ring2 F.cring (λ s t. (s, s ⊞ minus t ⊞ t)) refl s t) ∙ D.map-add n t hn ht
      ∙ ap (λ z. k.◌⊕◌ z (D.res t)) ((D.kernel n hn).1 m) ∙ k.zero-add (D.res t) in
      let f = h (D.res x) (D.res y) (sym (D.map-mul x x hx hx) ∙ e ∙ D.map-mul b (y ⊗ y) b_in hyy
      ∙ ap (k.◌⊗◌ (D.res b)) (D.map-mul y y hy hy)) in
      ((D.kernel x hx).0 f.0, (D.kernel y hy).0 f.1)

-- carried back along a homomorphism
module _ {K N : Type 0} (F : FieldOn K) (G : FieldOn N) (h : K → N) (H : IsRingHom F.ring G.ring h)
    (Y : ValuationOn F) (Z : ValuationOn G)
    (same : (a : K) → IsIntegral F Y a ↔ IsIntegral G Z (h a)) (r c : K) (q b : N) (hq : h r ≡ q) (hb : h c ≡ b) where
  infixl 65 ◌⊕◌
  infixl 70 ◌⊗◌
  open F use {◌⊕◌, ◌⊗◌, neg}

  pub no_square_back : NoSquareModulo G Z q b → NoSquareModulo F Y r c
  no_square_back n x y hx hy m =
      let e : h (r ⊗ (x ⊗ x ⊕ neg (c ⊗ (y ⊗ y)))) ≡ G.◌⊗◌ q
      (G.◌⊕◌ (G.◌⊗◌ (h x) (h x)) (G.neg (G.◌⊗◌ b (G.◌⊗◌ (h y) (h y))))) =
      H.map-mul r (x ⊗ x ⊕ neg (c ⊗ (y ⊗ y)))
      ∙ ap₂ G.◌⊗◌ hq (H.map-add (x ⊗ x) (neg (c ⊗ (y ⊗ y)))
      ∙ ap₂ G.◌⊕◌ (H.map-mul x x) (map-neg F.ring G.ring h H (c ⊗ (y ⊗ y))
      ∙ ap G.neg (H.map-mul c (y ⊗ y) ∙ ap₂ G.◌⊗◌ hb (H.map-mul y y)))) in
      let w = n (h x) (h y) ((same x).0 hx) ((same y).0 hy)
      (subst (IsIntegral G Z) e ((same (r ⊗ (x ⊗ x ⊕ neg (c ⊗ (y ⊗ y))))).0 m)) in (
        (same (r ⊗ x)).1 (subst (IsIntegral G Z) (sym (H.map-mul r x ∙ ap (λ t. G.◌⊗◌ t (h x)) hq)) w.0),
        (same (r ⊗ y)).1 (subst (IsIntegral G Z) (sym (H.map-mul r y ∙ ap (λ t. G.◌⊗◌ t (h y)) hq)) w.1),
      )

-- the rational functions
module _ {k : Type 0} (F : FieldOn k) (Q : FieldOn (Rational F))
    (H : IsFractionField (field_polynomials F) (IsLowest F.cring (field_polynomials F)) Q)
    (b : k) (no_square : (x y : k) → F.◌⊗◌ x x ≡ F.◌⊗◌ b (F.◌⊗◌ y y) → (x ≡ F.zero) × (y ≡ F.zero)) where
  abbrev c : Rational F
  c = of_constant F b

  at_infinity_here : NoSquareModulo Q (infinite_valuation F Q H).valuation (Q.inv (Q.inv (power_of_x F 1))) c
  at_infinity_here =
      let V = infinite_valuation F Q H in
      let D = infinite_residues F Q H V in
      no_square_of_residue Q V.valuation (Q.inv (Q.inv (power_of_x F 1))) F D.residue c (lift_in F Q H b)
      (λ x y e. no_square x y (e ∙ ap (λ t. F.◌⊗◌ t (F.◌⊗◌ y y)) (D.constants b)))

  pub no_square_at_infinity : (V : PlaceValuation F Q Infinite)
      → NoSquareModulo Q V.valuation (Q.inv (Q.inv (power_of_x F 1))) c
  no_square_at_infinity V =
      let B = infinite_valuation F Q H in
      no_square_back Q Q (λ a. a) (id_hom Q.ring) V.valuation B.valuation
      (λ a. (λ i. (B.tells a).1 ((V.tells a).0 i), λ i. (V.tells a).1 ((B.tells a).0 i)))
      (Q.inv (Q.inv (power_of_x F 1))) c (Q.inv (Q.inv (power_of_x F 1))) c refl refl at_infinity_here

  -- by the automorphism that puts 1/x for x
  pub no_square_at_x : (m : Poly F.cring) → m ≡ variable F.cring F.zero_test → (V : PlaceValuation F Q (Finite m))
      → NoSquareModulo Q V.valuation (Q.inv (of_polynomial F m)) c
  no_square_at_x m e V =
      let P = field_polynomials F in
      let B = infinite_valuation F Q H in
      let X = power_of_x F 1 in
      let s = swap F Q H in
      let x_path : of_polynomial F m ≡ X = ap (of_polynomial F) (e ∙ sym (P.mul-one (variable F.cring F.zero_test))) in
      no_square_back Q Q s (swap_hom F Q H) V.valuation B.valuation
      (λ a.
      let t = swap_place F Q H a in
      let v = V.tells a in
      let w = B.tells (s a) in (
        λ i. w.1 (t.0 (subst (λ n. IsIntegralOff F n a) e (v.0 i))),
        λ i. v.1 (subst (λ n. IsIntegralOff F n a) (sym e) (t.1 (w.0 i))),
      ))
      (Q.inv (of_polynomial F m)) c (Q.inv (Q.inv X)) c
      (ap (λ t. s (Q.inv t)) x_path ∙ h-inv Q Q s (swap_hom F Q H) B.valuation X (x_ne F Q H)
      ∙ ap Q.inv (swap_variable F Q H))
      (swap_constant F Q H b) at_infinity_here

-- the fractions over a program's field
module _ {E : Type 0} (o : Ops E) (L : FieldLaws o) (M : FieldLaws (fraction_ops o L)) (b : Elem o)
    (no_square : IsNoSquare o L b) where
  abbrev F : FieldOn (Elem o)
  F = elements o L

  abbrev Q : FieldOn (Rational F)
  Q = rational_functions F

  abbrev HQ : IsFractionField (field_polynomials F) (IsLowest F.cring (field_polynomials F)) Q
  HQ = is_rational_functions F

  abbrev K : FieldOn (Elem (fraction_ops o L))
  K = fractions o L M

  b_ne : b.0 ≢ o.zero
  b_ne e = F.one-nonzero (no_square F.zero F.one
      (zero-mul F.ring F.zero ∙ sym (zero-mul F.ring (F.◌⊗◌ F.one F.one))
      ∙ ap (λ t. F.◌⊗◌ t (F.◌⊗◌ F.one F.one)) (sym (Elem-path o b F.zero e)))).1

  b_list : IsPolynomialList o (b.0 ∷ [])
  b_list = record { over = All-cons (IsElem o) b.0 [] b.1 (All-nil (IsElem o)); trimmed = b_ne }

  -- the constant b as a fraction
  constant_fraction : Elem (fraction_ops o L)
  constant_fraction = (
    (b.0 ∷ [], o.one ∷ []),
    elem_of_lowest o L (b.0 ∷ [], o.one ∷ []) (lowest_over_one o L (b.0 ∷ []) b_list),
  )

  constant_poly : polynomial_of o L (b.0 ∷ []) ≡ constant F.cring F.zero_test b
  constant_poly = Poly-path F.cring (polynomial_of o L (b.0 ∷ [])) C (λ k.
      Elem-path o (coefficient F.cring (polynomial_of o L (b.0 ∷ [])) k) (coefficient F.cring C k)
      (sym (has_polynomial_of o L (b.0 ∷ []) b_list.over k) ∙ each k
      ∙ ap (λ (t : Elem o). t.0) (sym (coefficient-constant F.cring F.zero_test b k))))
    where
      C : Poly F.cring
      C = constant F.cring F.zero_test b

      each : (k : ℕ) → at o (b.0 ∷ []) k ≡ (constant_coefficients F.zero b k).0
      each zero = refl
      each (suc k) = refl

  constant_path : rational_function o L (b.0 ∷ [], o.one ∷ []) ≡ of_constant F b
  unfolding constant_fraction
  constant_path = over_one_path o L (b.0 ∷ []) constant_fraction.1 ∙ ap (of_polynomial F) constant_poly

  module _ (place : PlaceOf (List E)) (s : IsPlace o place) where
    abbrev V : PlaceValuation F Q (place_of o L place)
    V = place_valuation F Q HQ (place_of o L place) (is_place_of o L place s)

    quaternions_ramified : NoSquareModulo Q V.valuation (Q.inv (rational_uniformizer F Q (place_of o L place)))
        (of_constant F b)
        → IsIntegral Q V.valuation (of_constant F b) → QuaternionsRamifiedAt o L M b.0 place
    unfolding constant_fraction
    quaternions_ramified n i =
        let W = fraction_place o L M place s in
        let R = fractions_are_rational o L M in
        let h : Elem (fraction_ops o L) → Rational F = λ a. rational_function o L a.0 in
        let same : (a : Elem (fraction_ops o L)) → IsIntegral K W.valuation a ↔ IsIntegral Q V.valuation (h a) =
        λ a. let e = integral_at o L place s a.0 a.1 in
        (λ j. (V.tells (h a)).1 (e.1 ((W.tells a).0 j)), λ j. (W.tells a).1 (e.0 ((V.tells (h a)).0 j))) in
        let q = K.inv W.p in
        let hq : h q ≡ Q.inv (rational_uniformizer F Q (place_of o L place)) =
        inverse_path o L M place s W.p (ap (rational_function o L) W.p_is ∙ uniformizer_path o L place s) in
        let c = constant_fraction in
        let w = ramified_quaternion_table (fraction_ops o L) M W.valuation W.p q W.uniformizer W.not_unit c
        ((same c).1 (subst (IsIntegral Q V.valuation) (sym constant_path) i))
        (no_square_back K Q h R.hom W.valuation V.valuation same q c
        (Q.inv (rational_uniformizer F Q (place_of o L place)))
        (of_constant F b) hq constant_path n) in
        record {
          at_place = W;
          ramified = subst (λ p.
              RamifiedTable (fraction_ops o L) M
              (quaternion_structure (fraction_ops o L) p (b.0 ∷ [], o.one ∷ [])) W.valuation W.p
              (quaternion_order (fraction_ops o L)) (quaternion_radical (fraction_ops o L) p)) W.p_is w;
        }

  -- ---- at infinity, and at x

  constant_at_infinity : IsIntegral Q (place_valuation F Q HQ Infinite tt).valuation (of_constant F b)
  constant_at_infinity =
      let V = place_valuation F Q HQ Infinite tt in
      let B = infinite_valuation F Q HQ in
      (V.tells (of_constant F b)).1 ((B.tells (of_constant F b)).0 (lift_in F Q HQ b))

  pub quaternions_at_infinity : QuaternionsRamifiedAt o L M b.0 Infinite
  quaternions_at_infinity = quaternions_ramified Infinite tt
      (no_square_at_infinity F Q HQ b no_square (place_valuation F Q HQ Infinite tt)) constant_at_infinity

  abbrev x_place : List E
  x_place = o.zero ∷ o.one ∷ []

  x_poly_here : polynomial_of o L x_place ≡ variable F.cring F.zero_test
  unfolding x_list
  x_poly_here = x_poly o L

  x_is_here : IsPolynomialList o x_place
  x_is_here = record {
    over = All-cons (IsElem o) o.zero (o.one ∷ []) L.zero-elem
        (All-cons (IsElem o) o.one [] L.one-elem (All-nil (IsElem o)));
    trimmed = L.one-nonzero;
  }

  x_is_place : IsPlace o (Finite x_place)
  x_is_place = record {
    irreducible = record {
      polynomial = x_is_here;
      positive = omega arith;
      no_factors = λ u v hu hv lu lv e.
          let P = field_polynomials F in
          let du = degree-polynomial_of o L u hu in
          let dv = degree-polynomial_of o L v hv in
          let d = ap (λ (t : Poly F.cring). degree t.0) (sym x_poly_here)
          ∙ degree-polynomial_of o L x_place x_is_here in
          let i = (variable_place F Q HQ).1 in
          i.no_factors (polynomial_of o L u) (polynomial_of o L v) (omega arith) (omega arith)
          (sym x_poly_here ∙ poly-mul o L u v x_place hu.over hv.over x_is_here.over e);
    };
    monic = refl;
  }

  constant_at_x : IsIntegral Q
      (place_valuation F Q HQ (Finite (polynomial_of o L x_place))
      (is_place_of o L (Finite x_place) x_is_place)).valuation (of_constant F b)
  constant_at_x =
      let P = field_polynomials F in
      let s = is_place_of o L (Finite x_place) x_is_place in
      let V = place_valuation F Q HQ (Finite (polynomial_of o L x_place)) s in
      let u = constant F.cring F.zero_test b in
      (V.tells (of_constant F b)).1 (
        u,
        P.one,
        fraction_of_value P (IsLowest F.cring P) (polynomial_reduction F) u,
        λ d. let z = degree_of_divides_one F (polynomial_of o L x_place) d in let g = s.1.positive in omega arith,
      )

  pub quaternions_at_x : QuaternionsRamifiedAt o L M b.0 (Finite x_place)
  quaternions_at_x = quaternions_ramified (Finite x_place) x_is_place
      (no_square_at_x F Q HQ b no_square (polynomial_of o L x_place) x_poly_here
      (place_valuation F Q HQ (Finite (polynomial_of o L x_place)) (is_place_of o L (Finite x_place) x_is_place)))
      constant_at_x

pub quaternions_are_ramified : {E : Type 0} (o : Ops E) (L : FieldLaws o) (M : FieldLaws (fraction_ops o L))
    → QuaternionsAreRamified o L M
quaternions_are_ramified o L M b n = (quaternions_at_x o L M b n, quaternions_at_infinity o L M b n)

-- 2 is no square modulo 3
squares : (a b : ℕ) → a < 3 → b < 3 → (a * a) % 3 ≡ (2 * ((b * b) % 3)) % 3 → (a ≡ 0) × (b ≡ 0)
squares zero zero l g e = (refl, refl)
squares zero (suc zero) l g e = absurd (omega arith)
squares zero (suc (suc zero)) l g e = absurd (omega arith)
squares (suc zero) zero l g e = absurd (omega arith)
squares (suc zero) (suc zero) l g e = absurd (omega arith)
squares (suc zero) (suc (suc zero)) l g e = absurd (omega arith)
squares (suc (suc zero)) zero l g e = absurd (omega arith)
squares (suc (suc zero)) (suc zero) l g e = absurd (omega arith)
squares (suc (suc zero)) (suc (suc zero)) l g e = absurd (omega arith)
squares (suc (suc (suc a))) b l g e = absurd (omega arith)
squares zero (suc (suc (suc b))) l g e = absurd (omega arith)
squares (suc zero) (suc (suc (suc b))) l g e = absurd (omega arith)
squares (suc (suc zero)) (suc (suc (suc b))) l g e = absurd (omega arith)

two_no_square : (L : FieldLaws three) → IsNoSquare three L (2, refl)
two_no_square L x y e =
    let F = elements three L in
    let s = squares x.0 y.0 (ltb-true x.0 3 x.1) (ltb-true y.0 3 y.1) (ap (λ (t : Elem three). t.0) e) in
    (Elem-path three x F.zero s.0, Elem-path three y F.zero s.1)

pub quaternions_over_three : QuaternionsOverThree
quaternions_over_three L M = quaternions_are_ramified three L M (2, refl) (two_no_square L)

pub ramified_place_excludes : {E : Type 0} (o : Ops E) (L : FieldLaws o) (M : FieldLaws (fraction_ops o L))
    → RamifiedPlaceExcludesSplit o L M
ramified_place_excludes o L M A t place os js R =
    let K = fractions o L M in
    let W = R.at_place in
    ramified_excludes_split (fraction_ops o L) M W.valuation W.p (K.inv W.p) W.uniformizer A os js t R.ramified
