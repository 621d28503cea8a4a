-- What the remainders by a polynomial over a program's field are, coefficient by coefficient.
use Rattle.std.specs.Prelude.{◌≡◌, ◌≢◌, ℕ, ◌<◌, ◌↔◌, List, [], ◌∷◌, length}
use Rattle.theory_rings.specs.Ops.{Ops, IsElem}
use Rattle.theory_rings.specs.Sum.{at}
use Rattle.theory_rings.specs.Polynomial.{convolution_of}
use Rattle.theory_fractions.specs.PolynomialLists.{IsOver, IsSum, IsDivisionOf, IsPolynomialList}

module _ {E : Type 0} (o : Ops E) where
  -- r is the remainder by m of the polynomial with coefficients f
  abbrev pub IsRemainderOf : (ℕ → E) → List E → List E → Type 0
  IsRemainderOf f m r = (q : List E) × IsOver o q × IsDivisionOf o f m q r

  -- a polynomial of smaller degree than m
  pub record IsRemainder (m a : List E) : Type 0 where
    pub polynomial : IsPolynomialList o a
    pub smaller : length a < length m

  -- the operations are those of the remainders by m
  pub record AreRemainderOps (m : List E) (remainders : Ops (List E)) : Type 0 where
    pub elements : (a : List E) → IsElem remainders a ↔ IsRemainder m a
    pub zero : remainders.zero ≡ []
    pub one : remainders.one ≡ o.one ∷ []
    pub sum : (a b : List E) → IsElem remainders a → IsElem remainders b → IsSum o a b (remainders.add a b)
    pub negative : (a : List E) → IsElem remainders a → (k : ℕ) → at o (remainders.neg a) k ≡ o.neg (at o a k)
    pub product : (a b : List E) → IsElem remainders a → IsElem remainders b
        → IsRemainderOf (convolution_of o (at o a) (at o b)) m (remainders.mul a b)
    pub inverse : (a : List E) → IsElem remainders a → a ≢ []
        → IsRemainderOf (convolution_of o (at o (remainders.inv a)) (at o a)) m (o.one ∷ [])
