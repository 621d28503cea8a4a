-- Fractions of polynomials over a program's field: pairs of a numerator and a denominator, as lists of coefficients,
-- that of power 0 first. (Lang, Algebra, chapters II and IV.)
use Rattle.std.specs.Prelude.{◌≡◌, ◌≢◌, ℕ, ◌<◌, ◌≤◌, List, [], ◌∷◌, length}
use Rattle.theory_rings.specs.Ops.{Ops, IsElem}
use Rattle.theory_rings.specs.Sum.{at}
use Rattle.theory_rings.specs.Polynomial.{IsTrimmed, convolution_of, degree}
use Rattle.theory_fractions.specs.PolynomialLists.{IsOver, Divides}

-- a numerator and a denominator
abbrev pub Pair : Type 0 → Type 0
Pair E = List E × List E

module _ {E : Type 0} (o : Ops E) where
  -- f / g and f' / g' are the same fraction, by their coefficients: f · g' = f' · g
  pub record IsSame (f g f' g' : ℕ → E) : Type 0 where
    pub products : (k : ℕ) → convolution_of o f g' k ≡ convolution_of o f' g k

  -- each common divisor is a constant
  abbrev pub IsCoprime : List E → List E → Type 0
  IsCoprime u v = (g : List E) → IsOver o g → IsTrimmed o.zero g → Divides o g u → Divides o g v → length g ≤ 1

  -- u / v in lowest terms: polynomials over the field without a common divisor of degree 1 or more, v monic
  pub record IsLowestTerms (u v : List E) : Type 0 where
    pub numerator_over : IsOver o u
    pub numerator_trimmed : IsTrimmed o.zero u
    pub denominator_over : IsOver o v
    pub denominator_trimmed : IsTrimmed o.zero v
    pub denominator_nonzero : 0 < length v
    pub monic : at o v (degree v) ≡ o.one
    pub coprime : IsCoprime u v

  -- c is the fraction u / v
  abbrev pub IsFraction : Pair E → List E → List E → Type 0
  IsFraction c u v = IsSame (at o c.0) (at o c.1) (at o u) (at o v)

  -- c is a + b, where u / v + u' / v' is (u · v' + u' · v) / (v · v')
  abbrev pub IsFractionSum : Pair E → Pair E → Pair E → Type 0
  IsFractionSum a b c =
      IsSame (at o c.0) (at o c.1)
      (λ k. o.add (convolution_of o (at o a.0) (at o b.1) k) (convolution_of o (at o b.0) (at o a.1) k))
      (convolution_of o (at o a.1) (at o b.1))

  -- c is a · b, where u / v · u' / v' is (u · u') / (v · v')
  abbrev pub IsFractionProduct : Pair E → Pair E → Pair E → Type 0
  IsFractionProduct a b c =
      IsSame (at o c.0) (at o c.1) (convolution_of o (at o a.0) (at o b.0)) (convolution_of o (at o a.1) (at o b.1))

  -- c is −a
  abbrev pub IsFractionNegative : Pair E → Pair E → Type 0
  IsFractionNegative a c = IsSame (at o c.0) (at o c.1) (λ k. o.neg (at o a.0 k)) (at o a.1)

  -- c is 1 / a
  abbrev pub IsFractionInverse : Pair E → Pair E → Type 0
  IsFractionInverse a c = IsFraction c a.1 a.0

  -- the operations are those of fractions
  pub record AreFractionOps (fractions : Ops (Pair E)) : Type 0 where
    pub zero : fractions.zero ≡ ([], o.one ∷ [])
    pub one : fractions.one ≡ (o.one ∷ [], o.one ∷ [])
    pub sum : (a b : Pair E) → IsElem fractions a → IsElem fractions b → IsFractionSum a b (fractions.add a b)
    pub negative : (a : Pair E) → IsElem fractions a → IsFractionNegative a (fractions.neg a)
    pub product : (a b : Pair E) → IsElem fractions a → IsElem fractions b → IsFractionProduct a b (fractions.mul a b)
    pub inverse : (a : Pair E) → IsElem fractions a → a ≢ fractions.zero → IsFractionInverse a (fractions.inv a)
