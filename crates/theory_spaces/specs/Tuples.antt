-- Tuples as a program has them, the lists of n elements of its field: their sums and multiples, and their products by
-- structure constants.
use Rattle.std.specs.Prelude.{◌≡◌, ℕ, ◌+◌, ◌*◌, ◌<◌, Bool, IsTrue, ◌&&◌, ◌==◌, if◌then◌else◌, List, length}
use Rattle.std.specs.List.{All, list_all}
use Rattle.theory_rings.specs.Ops.{Ops, IsElem, FieldLaws}
use Rattle.theory_rings.specs.Elements.{Elem, elements}
use Rattle.theory_rings.specs.Sum.{sum_of, table, at}
use Rattle.theory_spaces.specs.Module.{AlgebraOn}

module _ {E : Type 0} (o : Ops E) (n : ℕ) where
  -- a list of n elements
  pub record IsTuple (xs : List E) : Type 0 where
    pub right_length : length xs ≡ n
    pub of_elements : All (IsElem o) xs

  -- the same as a test
  abbrev pub is_tuple : List E → Bool
  is_tuple xs = (length xs == n) && list_all o.is_elem xs

  -- the tuples as a type of their own
  abbrev pub Tuple : Type 0
  Tuple = (xs : List E) × IsTrue (is_tuple xs)

  abbrev pub tuple_zero : List E
  tuple_zero = table n (λ k. o.zero)

  abbrev pub tuple_add : List E → List E → List E
  tuple_add a b = table n (λ k. o.add (at o a k) (at o b k))

  abbrev pub tuple_neg : List E → List E
  tuple_neg a = table n (λ k. o.neg (at o a k))

  abbrev pub tuple_scale : E → List E → List E
  tuple_scale s a = table n (λ k. o.mul s (at o a k))

  -- one at the place i, and else zero
  abbrev pub basis : ℕ → List E
  basis i = table n (λ k. if k == i then o.one else o.zero)

-- the constant by which the products of the basis vectors i and j have the basis vector k, in a list of them all
abbrev pub constant : {E : Type 0} → Ops E → ℕ → List E → ℕ → ℕ → ℕ → E
constant o n cs i j k = at o cs ((i * n + j) * n + k)

-- the product of two tuples by the structure constants cs: entry k is the sum of a i · b j · constant i j k
abbrev pub product : {E : Type 0} → Ops E → ℕ → List E → List E → List E → List E
product o n cs a b =
    table n (λ k. sum_of o n (λ i. sum_of o n (λ j. o.mul (o.mul (at o a i) (at o b j)) (constant o n cs i j k))))

-- the products of the constants are associative: (e i · e j) · e k is e i · (e j · e k) for all vectors of the basis
abbrev pub AssociativeTable : {E : Type 0} → Ops E → ℕ → List E → Type 0
AssociativeTable o n cs = (i j k : ℕ) → i < n → j < n → k < n
    → product o n cs (product o n cs (basis o n i) (basis o n j)) (basis o n k) ≡ product o n cs (basis o n i)
    (product o n cs (basis o n j) (basis o n k))

-- one is a tuple by which the products with the vectors of the basis are these
pub record IsTableOne {E : Type 0} (o : Ops E) (n : ℕ) (cs one : List E) : Type 0 where
  pub tuple : IsTuple o n one
  pub one-mul : (i : ℕ) → i < n → product o n cs one (basis o n i) ≡ basis o n i
  pub mul-one : (i : ℕ) → i < n → product o n cs (basis o n i) one ≡ basis o n i

-- the operations of an algebra on the tuples are those on lists
pub record IsTableAlgebra {E : Type 0} (o : Ops E) (L : FieldLaws o) (n : ℕ) (cs : List E)
    (A : AlgebraOn (elements o L).ring (Tuple o n)) : Type 0 where
  pub zero-is : A.zero.0 ≡ tuple_zero o n
  pub add-is : (a b : Tuple o n) → (A.◌⊕◌ a b).0 ≡ tuple_add o n a.0 b.0
  pub neg-is : (a : Tuple o n) → (A.neg a).0 ≡ tuple_neg o n a.0
  pub scale-is : (c : Elem o) (a : Tuple o n) → (A.◌•◌ c a).0 ≡ tuple_scale o n c.0 a.0
  pub product-is : (a b : Tuple o n) → (A.◌⊗◌ a b).0 ≡ product o n cs a.0 b.0
