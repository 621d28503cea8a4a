-- The steps towards the generator, on lists of coefficients.
use Rattle.std.specs.Prelude.{◌≡◌, ℕ, ◌<◌, List, [], ◌∷◌, ◌++◌, length, get_or}
use Rattle.theory_rings.specs.Ops.{Ops}
use Rattle.theory_rings.specs.Sum.{at}
use Rattle.theory_rings.specs.Polynomial.{convolution_of, constant_coefficients}
use Rattle.spl_poly.specs.Operations.{IsOver, IsProduct, Divides}

module _ {E : Type 0} (o : Ops E) where
  -- p is the constant c
  abbrev pub IsConstant : E → List E → Type 0
  IsConstant c p = (k : ℕ) → at o p k ≡ constant_coefficients o.zero c k

  -- v = s · a + t · b
  abbrev pub IsCombinationOfTwo : List E → List E → List E → List E → List E → Type 0
  IsCombinationOfTwo a b s t v = (k : ℕ)
      → at o v k ≡ o.add (convolution_of o (at o s) (at o a) k) (convolution_of o (at o t) (at o b) k)

  -- r = a + m · b
  abbrev pub IsSumWithMultiple : List E → List E → List E → List E → Type 0
  IsSumWithMultiple a m b r = (k : ℕ) → at o r k ≡ o.add (at o a k) (convolution_of o (at o m) (at o b) k)

  -- the triple (z, u, v) is (x, s, t) and a multiple of (y, s', t')
  pub record IsReduction (x s t y s' t' z u v : List E) : Type 0 where
    pub multiple : List E
    pub over : IsOver o multiple
    pub value : IsSumWithMultiple x multiple y z
    pub left : IsSumWithMultiple s multiple s' u
    pub right : IsSumWithMultiple t multiple t' v

  -- v divides a and b, and is their combination with s and t
  pub record IsGreatestDivisor (a b s t v : List E) : Type 0 where
    pub combination : IsCombinationOfTwo a b s t v
    pub divides-left : Divides o v a
    pub divides-right : Divides o v b

  -- each item of the second list is u times that of the first
  pub record AreMultiples (u : List E) (items multiples : List (List E)) : Type 0 where
    pub count : length multiples ≡ length items
    pub product : (i : ℕ) → i < length items → IsProduct o u (get_or items i []) (get_or multiples i [])

  -- the value and the multipliers with one more polynomial b: the earlier multipliers are multiplied by the multiplier
  -- of the earlier value, and that of b stands at the end
  pub record IsExtension (value : List E) (multipliers : List (List E)) (b new_value : List E)
      (new_multipliers : List (List E)) : Type 0 where
    pub left : List E
    pub right : List E
    pub left_over : IsOver o left
    pub right_over : IsOver o right
    pub greatest : IsGreatestDivisor value b left right new_value
    pub products : List (List E)
    pub multiples : AreMultiples left multipliers products
    pub pushed : new_multipliers ≡ products ++ right ∷ []

  -- u is the inverse of the leading coefficient of the value, and all is multiplied by it
  pub record IsMultiple (value : List E) (multipliers : List (List E)) (new_value : List E)
      (new_multipliers : List (List E)) : Type 0 where
    pub unit : List E
    pub over : IsOver o unit
    pub product : IsProduct o unit value new_value
    pub multiples : AreMultiples unit multipliers new_multipliers
    pub divides : Divides o new_value value
