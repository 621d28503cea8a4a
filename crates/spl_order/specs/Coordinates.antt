-- The coordinates of the products of a basis of tuples in this basis, as polynomials over one denominator.
use Rattle.std.specs.Prelude.{◌≡◌, ◌<◌, ◌+◌, ◌*◌, ◌/◌, ◌%◌, ℕ, List, [], length, get_or, map, take, drop}
use Rattle.theory_rings.specs.Ops.{Ops, IsElem, FieldLaws}
use Rattle.theory_rings.specs.Sum.{at, sum_of}
use Rattle.theory_tables.specs.Structure.{Structure, product_of}
use Rattle.theory_fractions.specs.PolynomialLists.{IsPolynomialList}
use Rattle.theory_fractions.specs.Fraction.{Pair}
use Rattle.theory_fractions.specs.FractionOps.{fraction_ops}
use Rattle.theory_fractions.specs.CommonDenominator.{as_fraction}
use Rattle.theory_remainders.specs.RemainderLaws.{IsRemainder, IsRemainderOf}
use Rattle.theory_places.specs.Places.{Finite}
use Rattle.theory_places.specs.FractionPlaces.{IsIntegralAt}
use Rattle.theory_bases.specs.Bases.{fraction_over}
use Rattle.theory_left_orders.specs.TupleResidues.{AreProductCoordinates}
use Rattle.spl_numerators.specs.Sums.{fraction_at, sum_of_products}

module _ {E : Type 0} (o : Ops E) where
  -- the remainders by m of the first n polynomials of a list
  pub record AreRemainders (m : List E) (items : List (List E)) (n : ℕ) (remainders : List (List E)) : Type 0 where
    pub count : length remainders ≡ n
    pub small : (p : ℕ) → p < n → IsRemainder o m (get_or remainders p [])
    pub values : (p : ℕ) → p < n → IsRemainderOf o (at o (get_or items p [])) m (get_or remainders p [])

-- the row i, where n items stand in each row of a list
abbrev pub row_at : {X : Type 0} → ℕ → List X → ℕ → List X
row_at n items i = take n (drop (i * n) items)

module _ {E : Type 0} (o : Ops E) (n : ℕ) (x z : ℕ → ℕ → E) (c : ℕ → ℕ → ℕ → E) where
  -- entry t of the product of the row i of x and the row j of z, by the structure constants c
  abbrev pub row_products : ℕ → ℕ → ℕ → E
  row_products i j t = sum_of o n (λ b. o.mul (z j b) (sum_of o n (λ a. o.mul (x i a) (c a b t))))

module _ {E : Type 0} (o : Ops E) (n : ℕ) (x y : ℕ → ℕ → E) (c : ℕ → ℕ → ℕ → E) where
  -- entry l of the product of the rows i and j of x times the matrix y
  abbrev pub scaled_coordinate : ℕ → ℕ → ℕ → E
  scaled_coordinate i j l = sum_of o n (λ t. o.mul (row_products o n x x c i j t) (y t l))

module _ {E : Type 0} (o : Ops E) (L : FieldLaws o) where
  -- where a is an h by n matrix and b has n by w matrices, one after the other, each row by row: the item p of the
  -- products of a and each of these
  abbrev pub block_item : (a b : List (List E)) → (h n w p : ℕ) → Pair E
  block_item a b h n w p = sum_of_products o L a b n ((p / w % h) * n) ((p / (h * w)) * (n * w) + p % w) w

  -- n³ polynomials, that of i, j and t at (i·n + j)·n + t: entry t of the product of row i of n rows and row j of
  -- others, by lists of n² and n³ polynomials
  pub record AreRowProducts (n : ℕ) (lefts rights constants items : List (List E)) : Type 0 where
    pub count : length items ≡ n * n * n
    pub polynomials : (p : ℕ) → p < n * n * n → IsPolynomialList o (get_or items p [])
    pub values : (i j t : ℕ) → i < n → j < n → t < n
        → fraction_at o L items ((i * n + j) * n + t) ≡ row_products (fraction_ops o L) n
        (λ i a. fraction_at o L lefts (i * n + a)) (λ j b. fraction_at o L rights (j * n + b))
        (λ a b t. fraction_at o L constants ((a * n + b) * n + t)) i j t

  -- n³ polynomials, that of i, j and l at (i·n + j)·n + l: the scaled coordinates by lists of n² and n³ polynomials
  pub record AreScaledCoordinates (n : ℕ) (rows columns constants items : List (List E)) : Type 0 where
    pub count : length items ≡ n * n * n
    pub polynomials : (p : ℕ) → p < n * n * n → IsPolynomialList o (get_or items p [])
    pub values : (i j l : ℕ) → i < n → j < n → l < n
        → as_fraction o (get_or items ((i * n + j) * n + l) []) ≡ scaled_coordinate (fraction_ops o L) n
        (λ i a. fraction_at o L rows (i * n + a)) (λ t l. fraction_at o L columns (t * n + l))
        (λ a b t. fraction_at o L constants ((a * n + b) * n + t)) i j l

  -- the polynomials over scale, which is not 0, are the coordinates of the products of the tuples: that of the product
  -- of i and j at l stands at (i·n + j)·n + l
  pub record AreCoordinatesOver (A : Structure (Pair E)) (tuples : List (List (Pair E))) (scale : List E)
      (items : List (List E)) : Type 0 where
    pub polynomial : IsPolynomialList o scale
    pub nonzero : scale ≡ [] → ⊥
    pub count : length items ≡ A.dim * A.dim * A.dim
    pub polynomials : (p : ℕ) → p < A.dim * A.dim * A.dim → IsPolynomialList o (get_or items p [])
    pub coordinates : AreProductCoordinates (fraction_ops o L) A tuples
        (λ i j l. fraction_over o L scale (get_or items ((i * A.dim + j) * A.dim + l) []))

  -- t/d is s/d and a multiple of m by what is integral at m
  pub record AreCongruentOver (m d s t : List E) : Type 0 where
    pub quotient : Pair E
    pub elem : IsElem (fraction_ops o L) quotient
    pub integral : IsIntegralAt o (Finite m) quotient
    pub value : (let K : Ops (Pair E) = fraction_ops o L in
        fraction_over o L d t ≡ K.add (fraction_over o L d s) (K.mul (as_fraction o m) quotient))

  -- the polynomials over scale, which is not 0, are congruent at m to the coordinates of the products of the tuples
  pub record AreCoordinatesAt (m : List E) (A : Structure (Pair E)) (tuples : List (List (Pair E))) (scale : List E)
      (items : List (List E)) : Type 0 where
    pub exact : List (List E)
    pub coordinates : AreCoordinatesOver A tuples scale exact
    pub count : length items ≡ A.dim * A.dim * A.dim
    pub polynomials : (p : ℕ) → p < A.dim * A.dim * A.dim → IsPolynomialList o (get_or items p [])
    pub congruent : (p : ℕ) → p < A.dim * A.dim * A.dim
        → AreCongruentOver m scale (get_or items p []) (get_or exact p [])

  -- the tuple of the row i over scale
  abbrev pub tuple_at : List E → ℕ → List (List E) → ℕ → List (Pair E)
  tuple_at scale n items i = map (fraction_over o L scale) (row_at n items i)

  -- the polynomials over scale, which is not 0, are the products of tuples: that of i and j is the row i·n + j
  pub record AreProductsOver (A : Structure (Pair E)) (lefts rights : List (List (Pair E))) (scale : List E)
      (items : List (List E)) : Type 0 where
    pub polynomial : IsPolynomialList o scale
    pub nonzero : scale ≡ [] → ⊥
    pub count : length items ≡ A.dim * A.dim * A.dim
    pub polynomials : (p : ℕ) → p < A.dim * A.dim * A.dim → IsPolynomialList o (get_or items p [])
    pub products : (i j : ℕ) → i < A.dim → j < A.dim
        → product_of (fraction_ops o L) A (get_or lefts i []) (get_or rights j [])
        ≡ tuple_at scale A.dim items (i * A.dim + j)
