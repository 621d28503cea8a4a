-- Lattices over the fractions of polynomials over a program's field: the degree of fractions and the polynomials among
-- them, common bases, the members of both lattices, and the degree count of two self-dual orders. (Lang, Algebra,
-- chapter IV; Stichtenoth, Algebraic Function Fields and Codes, section 1.2; Reiner, Maximal Orders, section 4.)
use Rattle.std.specs.Prelude.{◌≡◌, ℕ, ◌<◌, ◌≤◌, ℤ, pos, ◌-ℤ◌, ◌≤ℤ◌, ◌<ℤ◌, ◌⊎◌, [], ◌∷◌}
use Rattle.theory_rings.specs.Ops.{Ops, FieldLaws}
use Rattle.theory_rings.specs.Elements.{Elem, elements}
use Rattle.theory_rings.specs.Enumerated.{Enumerated}
use Rattle.theory_rings.specs.Homomorphism.{IsRingHom}
use Rattle.theory_rings.specs.Polynomial.{degree, constant_coefficients}
use Rattle.theory_rings.specs.Power.{power}
use Rattle.theory_rings.specs.Sum.{at}
use Rattle.theory_spaces.specs.Module.{ModuleOn, AlgebraOn, module_of}
use Rattle.theory_spaces.specs.Linear.{InSpan, Independent, Coords}
use Rattle.theory_spaces.specs.Algebra.{Central}
use Rattle.theory_spaces.specs.Lattice.{LatticeOver}
use Rattle.theory_lattices.specs.Degree.{DegreeOn}
use Rattle.theory_lattices.specs.CommonBasis.{InInfinite, CommonBasis}
use Rattle.theory_lattices.specs.Members.{PolynomialsOf, IntersectionBasis}
use Rattle.theory_lattices.specs.SelfDual.{ClosedWeights, SelfDualPair, Middle, DualVectors}
use Rattle.theory_fractions.specs.FractionOps.{fraction_ops}
use Rattle.theory_places.specs.FractionPlaces.{fractions}
use Rattle.theory_pairs.specs.Corner.{IsCorner}
use Rattle.theory_pairs.specs.DegreeElement.{FirstGreatest, DegreeElement}

module _ {E : Type 0} (o : Ops E) (L : FieldLaws o) (M : FieldLaws (fraction_ops o L)) where
  -- a fraction that is a polynomial: its denominator is 1
  abbrev pub IsPolynomialFraction : Elem (fraction_ops o L) → Type 0
  IsPolynomialFraction a = a.0.1 ≡ o.one ∷ []

  module _ (W : DegreeOn (fractions o L M).ring) where
    -- the degree of the numerator less that of the denominator
    pub record IsFractionDegree : Type 0 where
      pub degree-is : (a : Elem (fraction_ops o L)) → W.deg a ≡ pos (degree a.0.0) -ℤ pos (degree a.0.1)

    -- the constants c/1 and x/1 as fractions; the polynomials are closed under sums and products, and are the
    -- combinations of the powers of x with constants
    pub record FractionPolynomials : Type 0 where
      pub constant : Elem o → Elem (fraction_ops o L)
      pub constant_over : (c : Elem o) → IsPolynomialFraction (constant c)
      pub constant-is : (c : Elem o) (k : ℕ) → at o (constant c).0.0 k ≡ constant_coefficients o.zero c.0 k
      pub constant_hom : IsRingHom (elements o L).ring (fractions o L M).ring constant
      pub x : Elem (fraction_ops o L)
      pub x-is : x.0 ≡ (o.zero ∷ o.one ∷ [], o.one ∷ [])
      pub closed : ClosedWeights (fractions o L M) IsPolynomialFraction
      pub polynomials : PolynomialsOf (fractions o L M) W IsPolynomialFraction (elements o L).ring constant
          (power (fractions o L M).ring x)

    module _ {V : Type 0} (n : ℕ) where
      -- the combinations of f with weights that are polynomials
      abbrev pub PolynomialLattice : ModuleOn (fractions o L M).ring V → (ℕ → V) → V → Type 0
      PolynomialLattice N f = LatticeOver N IsPolynomialFraction n f

      -- the combinations of e with weights of degree at most 0
      abbrev pub LatticeAtInfinity : ModuleOn (fractions o L M).ring V → (ℕ → V) → V → Type 0
      LatticeAtInfinity N e = InInfinite (fractions o L M) W N IsPolynomialFraction n e

      -- b is a common basis of both lattices, with the degrees a
      abbrev pub IsCommonBasis : ModuleOn (fractions o L M).ring V → (f e b : ℕ → V) → (ℕ → ℤ) → Type 0
      IsCommonBasis N f e b a = CommonBasis (fractions o L M) W N IsPolynomialFraction n (PolynomialLattice N f)
          (LatticeAtInfinity N e) b a

      module _ (A : AlgebraOn (fractions o L M).ring V) (f e : ℕ → V) where
        -- both lattices are orders that are their own duals for the trace
        abbrev pub IsSelfDualPair : (V → Elem (fraction_ops o L)) → Type 0
        IsSelfDualPair tr = SelfDualPair (fractions o L M) W A IsPolynomialFraction (PolynomialLattice (module_of A) f)
            (LatticeAtInfinity (module_of A) e) tr

        -- an element of both orders that is neither nilpotent nor a unit
        abbrev pub IsMiddle : V → Type 0
        IsMiddle w = Middle (fractions o L M) W A IsPolynomialFraction (PolynomialLattice (module_of A) f)
            (LatticeAtInfinity (module_of A) e) w

        -- f and e are bases, and both lattices are orders that are their own duals for the trace
        pub record SelfDualOrders (tr : V → Elem (fraction_ops o L)) : Type 0 where
          pub finite_free : Independent (module_of A) n f
          pub infinite_free : Independent (module_of A) n e
          pub infinite_spans : (x : V) → InSpan (module_of A) n e x
          pub pair : IsSelfDualPair tr

        -- of a common basis b with degrees a and its dual vectors d: all degrees are 0, or there is such an element;
        -- the greatest degree is at least 0, and where it is above 0, the product of the first basis vector of that
        -- degree and its dual vector is such an element, of trace 1
        pub record DegreeCount (tr : V → Elem (fraction_ops o L)) (b : ℕ → V) (a : ℕ → ℤ) (d : ℕ → V) : Type 0 where
          pub count : ((w : V) × IsMiddle w) ⊎ ((i : ℕ) → i < n → a i ≡ pos 0)
          pub exists : 0 < n → FirstGreatest n a
          pub not_negative : (g : FirstGreatest n a) → pos 0 ≤ℤ a g.place
          pub element : (g : FirstGreatest n a) → pos 0 <ℤ a g.place
              → DegreeElement (fractions o L M) W A IsPolynomialFraction (PolynomialLattice (module_of A) f)
              (LatticeAtInfinity (module_of A) e) tr (A.◌⊗◌ (b g.place) (d g.place))

  -- fractions have a degree
  abbrev pub FractionsHaveDegree : Type 0
  FractionsHaveDegree = (W : DegreeOn (fractions o L M).ring) × IsFractionDegree W

  -- by it they have their polynomials
  abbrev pub FractionsHavePolynomials : Type 0
  FractionsHavePolynomials = (W : DegreeOn (fractions o L M).ring) → IsFractionDegree W → FractionPolynomials W

  -- the lattices of two bases have a common basis
  abbrev pub FractionLatticesHaveCommonBasis : Type 0 → Type 0
  FractionLatticesHaveCommonBasis V =
      (W : DegreeOn (fractions o L M).ring) → IsFractionDegree W
      → (N : ModuleOn (fractions o L M).ring V) (n : ℕ) → Coords N n → (f e : ℕ → V) → Independent N n f
      → Independent N n e
      → ((x : V) → InSpan N n e x) → (b : ℕ → V) × (a : ℕ → ℤ) × IsCommonBasis W n N f e b a

  -- the x^j · b i with j from 0 to a i are a basis over the constants of what is in both lattices
  abbrev pub CommonBasisGivesMembers : Type 0 → Type 0
  CommonBasisGivesMembers V =
      (W : DegreeOn (fractions o L M).ring) (T : FractionPolynomials W)
      → (N : ModuleOn (fractions o L M).ring V) (n : ℕ) (f e b : ℕ → V) (a : ℕ → ℤ) → IsCommonBasis W n N f e b a
      → IntersectionBasis (fractions o L M) W IsPolynomialFraction (elements o L).ring T.constant
      (power (fractions o L M).ring T.x) N n b a (PolynomialLattice W n N f) (LatticeAtInfinity W n N e)

  -- the degree count of two self-dual orders
  abbrev pub DegreeCountOfOrders : Type 0 → Type 0
  DegreeCountOfOrders V =
      (W : DegreeOn (fractions o L M).ring) → IsFractionDegree W
      → (A : AlgebraOn (fractions o L M).ring V) (n : ℕ) (f e : ℕ → V) (tr : V → Elem (fraction_ops o L))
      → IsSelfDualPair W n A f e tr
      → (b : ℕ → V) (a : ℕ → ℤ) → IsCommonBasis W n (module_of A) f e b a
      → (d : ℕ → V) → DualVectors (fractions o L M) A tr n b d → DegreeCount W n A f e tr b a d

  -- each common basis of two self-dual orders has dual vectors
  abbrev pub CommonBasisHasDualVectors : Type 0 → Type 0
  CommonBasisHasDualVectors V =
      (W : DegreeOn (fractions o L M).ring) → IsFractionDegree W
      → (A : AlgebraOn (fractions o L M).ring V) (n : ℕ) (f e : ℕ → V) (tr : V → Elem (fraction_ops o L))
      → SelfDualOrders W n A f e tr
      → (b : ℕ → V) (a : ℕ → ℤ) → IsCommonBasis W n (module_of A) f e b a
      → (d : ℕ → V) × DualVectors (fractions o L M) A tr n b d

  -- over a finite field, two self-dual orders that hold 1, of an algebra of dimension 2 to 36 whose centre is the field
  -- of fractions, hold an element that is neither nilpotent nor a unit
  abbrev pub OrdersHoldMiddleElement : Type 0 → Type 0
  OrdersHoldMiddleElement V =
      Enumerated (Elem o) → (W : DegreeOn (fractions o L M).ring) → IsFractionDegree W
      → (A : AlgebraOn (fractions o L M).ring V) (n : ℕ) (f e : ℕ → V) (tr : V → Elem (fraction_ops o L))
      → SelfDualOrders W n A f e tr
      → PolynomialLattice W n (module_of A) f A.one → LatticeAtInfinity W n (module_of A) e A.one
      → Central A → 2 ≤ n → n ≤ 36 → (w : V) × IsMiddle W n A f e w

  -- the corner of an idempotent of both orders of a self-dual pair is a self-dual pair
  abbrev pub CornerOfOrdersIsPair : Type 0 → Type 0 → Type 0
  CornerOfOrdersIsPair V C =
      (W : DegreeOn (fractions o L M).ring) (A : AlgebraOn (fractions o L M).ring V) (n : ℕ) (f e : ℕ → V)
      (tr : V → Elem (fraction_ops o L))
      → IsSelfDualPair W n A f e tr
      → (u : V) → A.◌⊗◌ u u ≡ u → PolynomialLattice W n (module_of A) f u → LatticeAtInfinity W n (module_of A) e u
      → (B : AlgebraOn (fractions o L M).ring C) (ι : C → V) → IsCorner A u B ι
      → SelfDualPair (fractions o L M) W B IsPolynomialFraction (λ x. PolynomialLattice W n (module_of A) f (ι x))
      (λ x. LatticeAtInfinity W n (module_of A) e (ι x)) (λ x. tr (ι x))
