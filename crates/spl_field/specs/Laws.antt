-- The laws of a field, for tables of the sums and the products of the numbers below q: 0 is the zero and 1 the one.
use Rattle.std.specs.Prelude.{◌≡◌, ◌≢◌, ℕ, ◌*◌, ◌<◌, ◌≤◌, List, length}
use Rattle.theory_rings.specs.Triples.{ComesBefore}
use Rattle.spl_field.specs.Tables.{entry_at, AreElements}
use Rattle.spl_field.specs.declared.laws.Law.{Law}
use Rattle.spl_field.specs.declared.laws.Law.TheVariants.{SumAssociative, SumCommutative, Zero, Negative}
use Rattle.spl_field.specs.declared.laws.Law.TheVariants.{ProductAssociative, ProductCommutative, One, Distributive}
use Rattle.spl_field.specs.declared.laws.Law.TheVariants.{Inverse}
use Rattle.spl_field.specs.declared.laws.LawAt.{LawAt}

-- what tables have to be for their laws to be asked: q is 2 to 256, both are full, and their entries are below q
pub record AreTables (q : ℕ) (sum product : List ℕ) : Type 0 where
  pub least : 2 ≤ q
  pub most : q ≤ 256
  pub sum_full : length sum ≡ q * q
  pub sum_elements : AreElements q (q * q) sum
  pub product_full : length product ≡ q * q
  pub product_elements : AreElements q (q * q) product

-- a law's place in their order
abbrev pub number_of : Law → ℕ
number_of SumAssociative = 1
number_of SumCommutative = 2
number_of Zero = 3
number_of Negative = 4
number_of ProductAssociative = 5
number_of ProductCommutative = 6
number_of One = 7
number_of Distributive = 8
number_of Inverse = 9

module _ (q : ℕ) where
  -- below what b and c stay: where the law doesn't use them they are 0
  abbrev pub second_below : Law → ℕ
  second_below SumAssociative = q
  second_below SumCommutative = q
  second_below Zero = 1
  second_below Negative = 1
  second_below ProductAssociative = q
  second_below ProductCommutative = q
  second_below One = 1
  second_below Distributive = q
  second_below Inverse = 1

  abbrev pub third_below : Law → ℕ
  third_below SumAssociative = q
  third_below SumCommutative = 1
  third_below Zero = 1
  third_below Negative = 1
  third_below ProductAssociative = q
  third_below ProductCommutative = 1
  third_below One = 1
  third_below Distributive = q
  third_below Inverse = 1

module _ (q : ℕ) (sum product : List ℕ) where
  abbrev pub add : ℕ → ℕ → ℕ
  add a b = entry_at q sum a b

  abbrev pub mul : ℕ → ℕ → ℕ
  mul a b = entry_at q product a b

  abbrev pub HasNegative : ℕ → Type 0
  HasNegative a = (b : ℕ) × (b < q) × (add a b ≡ 0)

  abbrev pub HasInverse : ℕ → Type 0
  HasInverse a = (b : ℕ) × (b < q) × (mul a b ≡ 1)

  -- the law at a, b and c
  abbrev pub HoldsAt : Law → ℕ → ℕ → ℕ → Type 0
  HoldsAt SumAssociative a b c = add (add a b) c ≡ add a (add b c)
  HoldsAt SumCommutative a b c = add a b ≡ add b a
  HoldsAt Zero a b c = add 0 a ≡ a
  HoldsAt Negative a b c = HasNegative a
  HoldsAt ProductAssociative a b c = mul (mul a b) c ≡ mul a (mul b c)
  HoldsAt ProductCommutative a b c = mul a b ≡ mul b a
  HoldsAt One a b c = mul 1 a ≡ a
  HoldsAt Distributive a b c = mul a (add b c) ≡ add (mul a b) (mul a c)
  HoldsAt Inverse a b c = a ≢ 0 → HasInverse a

  -- the law
  abbrev pub Holds : Law → Type 0
  Holds law = (a b c : ℕ) → a < q → b < second_below q law → c < third_below q law → HoldsAt law a b c

  -- all laws: the tables are those of a field
  pub record AreFieldTables : Type 0 where
    pub add_assoc : (a b c : ℕ) → a < q → b < q → c < q → add (add a b) c ≡ add a (add b c)
    pub add_comm : (a b : ℕ) → a < q → b < q → add a b ≡ add b a
    pub zero-add : (a : ℕ) → a < q → add 0 a ≡ a
    pub negative : (a : ℕ) → a < q → HasNegative a
    pub mul_assoc : (a b c : ℕ) → a < q → b < q → c < q → mul (mul a b) c ≡ mul a (mul b c)
    pub mul_comm : (a b : ℕ) → a < q → b < q → mul a b ≡ mul b a
    pub one-mul : (a : ℕ) → a < q → mul 1 a ≡ a
    pub mul-add : (a b c : ℕ) → a < q → b < q → c < q → mul a (add b c) ≡ add (mul a b) (mul a c)
    pub inverse : (a : ℕ) → a < q → a ≢ 0 → HasInverse a

  -- the law at a and b, whatever c is
  abbrev pub HoldsAtPair : Law → ℕ → ℕ → Type 0
  HoldsAtPair law a b = (c : ℕ) → c < third_below q law → HoldsAt law a b c

  -- c is the first at which the law fails with a and b
  pub record FailsFirstAt (law : Law) (a b c : ℕ) : Type 0 where
    pub within : c < third_below q law
    pub fails : HoldsAt law a b c → ⊥
    pub before : (z : ℕ) → z < c → HoldsAt law a b z

  -- b and c are the first at which the law fails with a
  pub record FailsFirstAtPair (law : Law) (a b c : ℕ) : Type 0 where
    pub within : b < second_below q law
    pub third : FailsFirstAt law a b c
    pub before : (y : ℕ) → y < b → HoldsAtPair law a y

  -- (a, b, c) is the least triple, in lexicographic order, at which the law fails
  pub record FailsFirst (law : Law) (a b c : ℕ) : Type 0 where
    pub a_below : a < q
    pub b_below : b < second_below q law
    pub c_below : c < third_below q law
    pub fails : HoldsAt law a b c → ⊥
    pub least : (x y z : ℕ) → x < q → y < second_below q law → z < third_below q law → ComesBefore x y z a b c
        → HoldsAt law x y z

  -- the first law that fails, and the least triple at which it does
  pub record IsFirstFailure (at : LawAt) : Type 0 where
    pub law : Law
    pub number : at.law ≡ number_of law
    pub earlier : (l : Law) → number_of l < number_of law → Holds l
    pub fails_first : FailsFirst law at.a at.b at.c
