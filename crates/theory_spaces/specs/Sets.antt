-- Sets of elements by operations without laws: orders, two-sided ideals with their sums, products and powers, the
-- radical, left orders, simple quotients, maximal and invertible ideals. A ring and an algebra are cases of it. A set
-- is a fact about an element. (Reiner, Maximal Orders, sections 6, 8, 22 and 39.)
use Rattle.std.specs.Prelude.{◌≡◌, ℕ, zero, suc, ◌<◌, ◌⊎◌, Bool, IsTrue, List, [], ◌∷◌}
use Rattle.theory_rings.specs.Sum.{sum_by_ops}
use Rattle.theory_rings.specs.Ring.{RingOn}

-- each member of I is one of J
abbrev pub Within : {V : Type 0} → (V → Type 0) → (V → Type 0) → Type 0
Within I J = (x : _) → I x → J x

-- the same members
abbrev pub Same : {V : Type 0} → (V → Type 0) → (V → Type 0) → Type 0
Same I J = Within I J × Within J I

-- in it, and not the same
abbrev pub ProperlyWithin : {V : Type 0} → (V → Type 0) → (V → Type 0) → Type 0
ProperlyWithin I J = Within I J × (Within J I → ⊥)

-- the set that a test tells
abbrev pub Test : {V : Type 0} → (V → Bool) → V → Type 0
Test t x = IsTrue (t x)

-- all elements
abbrev pub Whole : {V : Type 0} → V → Type 0
Whole x = Unit {0}

-- the operations of a ring on V, without laws; a one is named beside them where it is wanted
pub record RingOps (V : Type 0) : Type 0 where
  pub zero : V
  pub add : V → V → V
  pub neg : V → V
  pub mul : V → V → V

abbrev pub ring_ops : {V : Type 0} → RingOn V → RingOps V
ring_ops R = record { zero = R.zero; add = R.◌⊕◌; neg = R.neg; mul = R.◌⊗◌ }

module _ {V : Type 0} (S : RingOps V) where
  -- f 0 + .. + f (n − 1)
  abbrev pub total : ℕ → (ℕ → V) → V
  total n f = sum_by_ops S.zero S.add n f

  -- the set of 0 alone
  abbrev pub Zero : V → Type 0
  Zero x = x ≡ S.zero

  -- a subring with the one: closed under sums, opposites and products; a lattice that is one is an order
  pub record IsOrder (one : V) (L : V → Type 0) : Type 0 where
    pub one_in : L one
    pub zero_in : L S.zero
    pub add_in : (x y : V) → L x → L y → L (S.add x y)
    pub neg_in : (x : V) → L x → L (S.neg x)
    pub mul_in : (x y : V) → L x → L y → L (S.mul x y)

  -- a two-sided ideal of L
  pub record IsIdeal (L J : V → Type 0) : Type 0 where
    pub inside : Within J L
    pub zero_in : J S.zero
    pub add_in : (x y : V) → J x → J y → J (S.add x y)
    pub left : (a x : V) → L a → J x → J (S.mul a x)
    pub right : (a x : V) → L a → J x → J (S.mul x a)

  -- a finite sum of members of P
  pub record SumOf (P : V → Type 0) (x : V) : Type 0 where
    pub size : ℕ
    pub term : ℕ → V
    pub each : (i : ℕ) → i < size → P (term i)
    pub gives : x ≡ total size term

  -- a product of a member of I and one of J
  abbrev pub Product : (V → Type 0) → (V → Type 0) → V → Type 0
  Product I J x = (a : V) × (b : V) × I a × J b × (x ≡ S.mul a b)

  -- I·J, the sums of such products
  abbrev pub Products : (V → Type 0) → (V → Type 0) → V → Type 0
  Products I J = SumOf (Product I J)

  -- J to the power e + 1
  abbrev pub Power : (V → Type 0) → ℕ → V → Type 0
  Power J zero = J
  Power J (suc e) = Products (Power J e) J

  -- a (n − 1) · .. · a 0, from one on
  abbrev pub product : V → (ℕ → V) → ℕ → V
  product one a zero = one
  product one a (suc n) = S.mul (a n) (product one a n)

  -- products of n members are 0
  abbrev pub ProductsVanish : V → (V → Type 0) → ℕ → Type 0
  ProductsVanish one J n = (a : ℕ → V) → ((i : ℕ) → J (a i)) → product one a n ≡ S.zero

  -- an ideal of L of which some power is 0
  pub record IsNilpotentIdeal (one : V) (L J : V → Type 0) : Type 0 where
    pub ideal : IsIdeal L J
    pub exponent : ℕ
    pub vanishes : ProductsVanish one J exponent

  -- a product of members of the sets of a word, one of L first; the last factor stands first in the word
  abbrev pub WordProduct : {X : Type 0} → (V → Type 0) → (X → V → Type 0) → List X → V → Type 0
  WordProduct L M [] x = L x
  WordProduct L M (i ∷ u) x = (y : V) × (m : V) × WordProduct L M u y × M i m × (x ≡ S.mul y m)

  -- the vectors that carry M into L from the left
  abbrev pub Inverse : (V → Type 0) → (V → Type 0) → V → Type 0
  Inverse L M a = (x : V) → M x → L (S.mul a x)

  -- the vectors that send J into itself from the left
  abbrev pub LeftOrder : (V → Type 0) → V → Type 0
  LeftOrder J a = (x : V) → J x → J (S.mul a x)

  -- L/J is simple: J is less than L, and no ideal lies strictly between
  pub record SimpleQuotient (L J : V → Type 0) : Type 0 where
    pub proper : Within L J → ⊥
    pub nothing_between : (t : V → Bool) → IsIdeal L (Test t) → Within J (Test t)
        → Within (Test t) J ⊎ Within L (Test t)

  -- a maximal two-sided ideal of L
  pub record IsMaximalIdeal (L M : V → Type 0) : Type 0 where
    pub ideal : IsIdeal L M
    pub simple : SimpleQuotient L M

  -- l·a·r with l and r in L
  abbrev pub Around : (V → Type 0) → V → V → Type 0
  Around L a x = (l : V) × (r : V) × L l × L r × (x ≡ S.mul (S.mul l a) r)

  -- the ideal of L that a and J generate
  abbrev pub Generated : (V → Type 0) → (V → Type 0) → V → V → Type 0
  Generated L J a = SumOf (λ x. Around L a x ⊎ J x)

  -- L/J is simple, by elements: it is not 0, and each element that is not 0 generates it
  pub record SimpleByElements (one : V) (L J : V → Type 0) : Type 0 where
    pub proper : J one → ⊥
    pub generates : (a : V) → L a → J a ⊎ Generated L J a one

  -- M is invertible: its products with its inverse from both sides are L
  pub record IsInvertibleIdeal (L M : V → Type 0) : Type 0 where
    pub left : Same (Products (Inverse L M) M) L
    pub right : Same (Products M (Inverse L M)) L

module _ {K V : Type 0} (S : RingOps V) (scale : K → V → V) where
  -- p·L
  abbrev pub Multiple : K → (V → Type 0) → V → Type 0
  Multiple p L x = (y : V) × L y × (x ≡ scale p y)

  -- J is an ideal of L over p·L with a power in p·L, and holds each ideal with both properties
  pub record Radical (p : K) (L J : V → Type 0) : Type 0 where
    pub ideal : IsIdeal S L J
    pub over : Within (Multiple p L) J
    pub exponent : ℕ
    pub falls : Within (Power S J exponent) (Multiple p L)
    pub largest : (t : V → Bool) (e : ℕ) → IsIdeal S L (Test t) → Within (Multiple p L) (Test t)
        → Within (Power S (Test t) e) (Multiple p L) → Within (Test t) J

  -- a maximal two-sided ideal of L over p·L
  pub record IsMaximalIdealOver (p : K) (L M : V → Type 0) : Type 0 where
    pub maximal : IsMaximalIdeal S L M
    pub open maximal use {ideal, simple}
    pub over : Within (Multiple p L) M

  -- M is the one maximal ideal over p·L; it is the radical and invertible, and p·L is a power of it
  pub record OnlyMaximalIdeal (p : K) (L M : V → Type 0) : Type 0 where
    pub maximal : IsMaximalIdealOver p L M
    pub only : (t : V → Bool) → IsMaximalIdealOver p L (Test t) → Same (Test t) M
    pub radical : Radical p L M
    pub invertible : IsInvertibleIdeal S L M
    pub exponent : ℕ
    pub power : Same (Power S M exponent) (Multiple p L)
