-- Products of matrices whose items stand in one list, row by row: where their items stand, and what they are.
use Rattle.std.specs.Prelude.{◌≡◌, ◌<◌, ◌+◌, ◌*◌, ◌/◌, ◌%◌, ℕ, List, [], get_or}
use Rattle.std.proofs.Common.{sym, ◌∙◌, ap, ap₂, arith, zero, suc}
use Rattle.std.proofs.Math.Nat.{mod-lt}
use Rattle.std.proofs.lemmas.Nat.{div-mul-add, mod-mul-add}
use Rattle.theory_rings.specs.Ops.{Ops, FieldLaws}
use Rattle.theory_rings.specs.Sum.{sum_of}
use Rattle.theory_rings.proofs.Rings.Elements.{sum_of_congr}
use Rattle.theory_spaces.proofs.Matrices.PairIndex.{pair-lt, row-lt, column-lt, width-positive}
use Rattle.theory_fractions.specs.Fraction.{Pair}
use Rattle.theory_fractions.specs.FractionOps.{fraction_ops}
use Rattle.theory_fractions.specs.CommonDenominator.{as_fraction}
use Rattle.spl_numerators.specs.Sums.{fraction_at}
use Rattle.spl_order.specs.Values.{HasRow}
use Rattle.spl_order.specs.Coordinates.{block_item, row_products, scaled_coordinate}
use Rattle.spl_order.specs.Coordinates.{AreRowProducts, AreScaledCoordinates}

-- ---- places

module _ (count h n w p : ℕ) (l : p < count * (h * w)) where
  whole : p < (count * h) * w
  whole = omega arith

  pub height-positive : 0 < h * w
  height-positive = width-positive count (h * w) p l

  pub columns-positive : 0 < w
  columns-positive = width-positive (count * h) w p whole

  row_in : p / w < count * h
  row_in = row-lt (count * h) w p whole

  pub rows-positive : 0 < h
  rows-positive = width-positive count h (p / w) row_in

  pub block_in : p / (h * w) < count
  block_in = row-lt count (h * w) p l

  pub place_in_matrix : p / w % h < h
  place_in_matrix = column-lt count h (p / w) row_in

  -- the matrices of the second list are no longer than this list
  pub block_fits : (k : ℕ) → count * (n * w) < k → n * w < k
  block_fits k fits = at_least count (omega (arith, block_in)) fits
    where
      at_least : (m : ℕ) → 0 < m → m * (n * w) < k → n * w < k
      at_least zero positive within = absurd (omega arith)
      at_least (suc m) positive within = omega arith

  pub first_within : (t : ℕ) → t < n → (p / w % h) * n + t < h * n
  first_within t t_in = pair-lt h n (p / w % h) t place_in_matrix t_in

  pub second_within : (t : ℕ) → t < n → (p / (h * w)) * (n * w) + p % w + t * w < count * (n * w)
  second_within t t_in =
      let u : (p / (h * w)) * n + t < count * n = pair-lt count n (p / (h * w)) t block_in t_in in
      let v : ((p / (h * w)) * n + t) * w + p % w < (count * n) * w =
      pair-lt (count * n) w ((p / (h * w)) * n + t) (p % w) u (mod-lt p columns-positive) in
      omega arith

-- the place in row i and column j of the matrix t
module _ (h w t i j : ℕ) (i_in : i < h) (j_in : j < w) where
  abbrev place : ℕ
  place = (t * h + i) * w + j

  place-row : place / w % h ≡ i
  place-row = ap (λ z. z % h) (div-mul-add (t * h + i) w j j_in) ∙ mod-mul-add t h i i_in

  place-column : place % w ≡ j
  place-column = mod-mul-add (t * h + i) w j j_in

  place-block : place / (h * w) ≡ t
  place-block =
      let e : (t * h + i) * w + j ≡ t * (h * w) + (i * w + j) = omega arith in
      ap (λ z. z / (h * w)) e ∙ div-mul-add t (h * w) (i * w + j) (pair-lt h w i j i_in j_in)

module _ {E : Type 0} (o : Ops E) (L : FieldLaws o) where
  abbrev k : Ops (Pair E)
  k = fraction_ops o L

  pub block_item-at : (a b : List (List E)) (h n w t i j : ℕ) → i < h → j < w
      → block_item o L a b h n w ((t * h + i) * w + j)
      ≡ sum_of k n (λ l. k.mul (fraction_at o L a (i * n + l)) (fraction_at o L b ((t * n + l) * w + j)))
  block_item-at a b h n w t i j i_in j_in =
      let p = (t * h + i) * w + j in
      sum_of_congr k n
      (λ l. k.mul (fraction_at o L a ((p / w % h) * n + l))
      (fraction_at o L b ((p / (h * w)) * (n * w) + p % w + l * w)))
      (λ l. k.mul (fraction_at o L a (i * n + l)) (fraction_at o L b ((t * n + l) * w + j)))
      (λ l _.
      let e : t * (n * w) + j + l * w ≡ (t * n + l) * w + j = omega arith in
      ap₂ (λ x y. k.mul (fraction_at o L a x) (fraction_at o L b y))
      (ap (λ z. z * n + l) (place-row h w t i j i_in j_in))
      (ap₂ (λ x y. x * (n * w) + y + l * w) (place-block h w t i j i_in j_in) (place-column h w t i j i_in j_in) ∙ e))

  -- ---- the products of rows, by two products, and the coordinates, by a third one

  cube-lt : (n i j l : ℕ) → i < n → j < n → l < n → (i * n + j) * n + l < n * n * n
  cube-lt n i j l i_in j_in l_in = pair-lt (n * n) n (i * n + j) l (pair-lt n n i j i_in j_in) l_in

  module _ (n : ℕ) (lefts rights constants sums products : List (List E))
      (A : HasRow o (block_item o L lefts constants n n (n * n)) (1 * (n * (n * n))) sums)
      (B : HasRow o (block_item o L rights sums n n n) (n * (n * n)) products) where
    abbrev x : ℕ → ℕ → Pair E
    x i a = fraction_at o L lefts (i * n + a)

    abbrev z : ℕ → ℕ → Pair E
    z j b = fraction_at o L rights (j * n + b)

    abbrev c : ℕ → ℕ → ℕ → Pair E
    c a b t = fraction_at o L constants ((a * n + b) * n + t)

    left_value : (i b t : ℕ) → i < n → b < n → t < n
        → fraction_at o L sums ((i * n + b) * n + t) ≡ sum_of k n (λ a. k.mul (x i a) (c a b t))
    left_value i b t i_in b_in t_in =
        let u : b * n + t < n * n = pair-lt n n b t b_in t_in in
        let e : (0 * n + i) * (n * n) + (b * n + t) ≡ (i * n + b) * n + t = omega arith in
        let s : (i * n + b) * n + t < 1 * (n * (n * n)) = omega (arith, cube-lt n i b t i_in b_in t_in) in
        A.values ((i * n + b) * n + t) s
        ∙ ap (block_item o L lefts constants n n (n * n)) (sym e)
        ∙ block_item-at lefts constants n n (n * n) 0 i (b * n + t) i_in u
        ∙ sum_of_congr k n (λ l. k.mul (x i l) (fraction_at o L constants ((0 * n + l) * (n * n) + (b * n + t))))
        (λ a. k.mul (x i a) (c a b t))
        (λ a _. let f : (0 * n + a) * (n * n) + (b * n + t) ≡ (a * n + b) * n + t = omega arith in
        ap (λ z. k.mul (x i a) (fraction_at o L constants z)) f)

    product_value : (i j t : ℕ) → i < n → j < n → t < n
        → fraction_at o L products ((i * n + j) * n + t) ≡ row_products k n x z c i j t
    product_value i j t i_in j_in t_in =
        let s : (i * n + j) * n + t < n * (n * n) = omega (arith, cube-lt n i j t i_in j_in t_in) in
        B.values ((i * n + j) * n + t) s
        ∙ block_item-at rights sums n n n i j t j_in t_in
        ∙ sum_of_congr k n (λ b. k.mul (z j b) (fraction_at o L sums ((i * n + b) * n + t)))
        (λ b. k.mul (z j b) (sum_of k n (λ a. k.mul (x i a) (c a b t))))
        (λ b b_in. ap (k.mul (z j b)) (left_value i b t i_in b_in t_in))

    pub two_products : AreRowProducts o L n lefts rights constants products
    two_products = record {
      count = B.count ∙ omega arith;
      polynomials = λ p l. B.polynomials p (omega (arith, l));
      values = product_value;
    }

  module _ (n : ℕ) (rows columns constants products items : List (List E))
      (B : AreRowProducts o L n rows rows constants products)
      (C : HasRow o (block_item o L products columns (n * n) n n) (1 * (n * n * n)) items) where
    abbrev row_value : ℕ → ℕ → Pair E
    row_value i a = fraction_at o L rows (i * n + a)

    abbrev column_value : ℕ → ℕ → Pair E
    column_value t l = fraction_at o L columns (t * n + l)

    abbrev constant_value : ℕ → ℕ → ℕ → Pair E
    constant_value a b t = fraction_at o L constants ((a * n + b) * n + t)

    item_value : (i j l : ℕ) → i < n → j < n → l < n
        → as_fraction o (get_or items ((i * n + j) * n + l) []) ≡ scaled_coordinate k n row_value column_value constant_value i j l
    item_value i j l i_in j_in l_in =
        let s : (i * n + j) * n + l < 1 * (n * n * n) = omega (arith, cube-lt n i j l i_in j_in l_in) in
        let e : (0 * (n * n) + (i * n + j)) * n + l ≡ (i * n + j) * n + l = omega arith in
        C.values ((i * n + j) * n + l) s
        ∙ ap (block_item o L products columns (n * n) n n) (sym e)
        ∙ block_item-at products columns (n * n) n n 0 (i * n + j) l (pair-lt n n i j i_in j_in) l_in
        ∙ sum_of_congr k n
        (λ t. k.mul (fraction_at o L products ((i * n + j) * n + t)) (fraction_at o L columns ((0 * n + t) * n + l)))
        (λ t. k.mul (row_products k n row_value row_value constant_value i j t) (column_value t l))
        (λ t t_in. let f : (0 * n + t) * n + l ≡ t * n + l = omega arith in
        ap₂ (λ u z. k.mul u (fraction_at o L columns z)) (B.values i j t i_in j_in t_in) f)

    pub three_products : AreScaledCoordinates o L n rows columns constants items
    three_products = record {
      count = C.count ∙ omega arith;
      polynomials = λ p l. C.polynomials p (omega (arith, l));
      values = item_value;
    }
