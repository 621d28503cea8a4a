-- Products with a basis element item by item; left multiplications and the trace form as sums of constants.
use Rattle.std.specs.Prelude.{◌≡◌, ℕ, ◌+◌, ◌*◌, ◌<◌, List, [], drop, All}
use Rattle.std.proofs.Common.{refl, sym, ◌∙◌, ap, ap₂, subst, arith}
use Rattle.std.proofs.Math.Nat as nat
use Rattle.theory_rings.specs.Ops.{Ops, IsElem, FieldLaws}
use Rattle.theory_rings.specs.Sum.{at, sum_of, table}
use Rattle.theory_rings.proofs.Sums.Lists.{table_congr, All-table, get_or-table}
use Rattle.theory_rings.proofs.Rings.Elements.{at-elem, sum_of-elem, sum_of_congr}
use Rattle.theory_spaces.specs.Tuples.{product, basis, constant}
use Rattle.theory_spaces.proofs.Tuples.Tuples.{at-table}
use Rattle.theory_spaces.proofs.Tuples.TupleProducts.{product_basis}
use Rattle.theory_tables.proofs.Rows.Sums.{sum_of_comm, mul-sum_of}
use Rattle.theory_tables.specs.Matrix.{entry}
use Rattle.theory_tables.specs.Structure.{Structure}
use Rattle.theory_tables.specs.Traces.{left_matrix, trace, trace_matrix}
use Rattle.spl_algebra.specs.Products.{sum_of_rows}
use Rattle.spl_algebra.specs.Contractions.{contracted, contraction, basis_trace}
use Rattle.spl_algebra.proofs.Rows.{constant-row, constant-column}
use Rattle.spl_algebra.proofs.BasisRows.{product-basis, basis-product, row_within}

-- the constant for r, j and l stands within the constants
pub constant_within : (r j l m n : ℕ) → r < m → j < m → l < m → n ≡ m * m * m → (r * m + j) * m + l < n
constant_within r j l m n r_in j_in l_in long = omega (arith, row_within r j ((r * m + j) * m) m n refl r_in j_in long)

-- the places of the constants for (l, j, r) and for (r, j, l), by steps of 1, m and m·m
pub last_place : (r j l m : ℕ) → r * 1 + j * m + l * (m * m) ≡ (l * m + j) * m + r
last_place r j l m = omega (arith, nat.add-mul (l * m) j m, nat.mul_assoc l m m)

pub first_place : (r j l m : ℕ) → r * (m * m) + j * m + l * 1 ≡ (r * m + j) * m + l
first_place r j l m = omega (arith, nat.add-mul (r * m) j m, nat.mul_assoc r m m)

pub middle_place : (r j l m : ℕ) → r * m + j * (m * m) + l * 1 ≡ (j * m + r) * m + l
middle_place r j l m = omega (arith, nat.add-mul (j * m) r m, nat.mul_assoc j m m)

-- so all places of the matrices are within the constants; n, d and m are the same number
pub last_within : (n d m k : ℕ) → n ≡ m → d ≡ m → k ≡ m * m * m → (r j l : ℕ) → r < n → j < n → l < n
    → r * 1 + j * d + l * (d * d) < k
last_within n d m k en ed long r j l r_in j_in l_in =
    let e : r * 1 + j * d + l * (d * d) ≡ (l * m + j) * m + r = ap (λ x. r * 1 + j * x + l * (x * x)) ed
    ∙ last_place r j l m in
    subst (λ p. p < k) (sym e) (constant_within l j r m k (omega arith) (omega arith) (omega arith) long)

pub first_within : (n d m k : ℕ) → n ≡ m → d ≡ m → k ≡ m * m * m → (r j l : ℕ) → r < n → j < n → l < n
    → r * (d * d) + j * d + l * 1 < k
first_within n d m k en ed long r j l r_in j_in l_in =
    let e : r * (d * d) + j * d + l * 1 ≡ (r * m + j) * m + l = ap (λ x. r * (x * x) + j * x + l * 1) ed
    ∙ first_place r j l m in
    subst (λ p. p < k) (sym e) (constant_within r j l m k (omega arith) (omega arith) (omega arith) long)

pub middle_within : (n d m k : ℕ) → n ≡ m → d ≡ m → k ≡ m * m * m → (r j l : ℕ) → r < n → j < n → l < n
    → r * d + j * (d * d) + l * 1 < k
middle_within n d m k en ed long r j l r_in j_in l_in =
    let e : r * d + j * (d * d) + l * 1 ≡ (j * m + r) * m + l = ap (λ x. r * x + j * (x * x) + l * 1) ed
    ∙ middle_place r j l m in
    subst (λ p. p < k) (sym e) (constant_within j r l m k (omega arith) (omega arith) (omega arith) long)

module _ {E : Type 0} (o : Ops E) (L : FieldLaws o) (m : ℕ) (cs : List E) (constants : All (IsElem o) cs) where
  abbrev A : Structure E
  A = record { dim = m; constants = cs }

  pub constant-elem : (i j k : ℕ) → IsElem o (constant o m cs i j k)
  constant-elem i j k = at-elem o L cs constants ((i * m + j) * m + k)

  -- at k the product a·b_j has the sum over l of a_l·γ_ljk
  pub at-product_basis : (a : List E) (j k : ℕ) → All (IsElem o) a → j < m → k < m
      → at o (product o m cs a (basis o m j)) k ≡ sum_of o m (λ l. o.mul (at o a l) (constant o m cs l j k))
  at-product_basis a j k ha j_in k_in =
      ap (λ xs. at o xs k) (product-basis o L m cs constants a j ha j_in)
      ∙ at-table o m (sum_of_rows o m a (drop (j * m) cs) (m * m)) k k_in
      ∙ sum_of_congr o m (λ l. o.mul (at o a l) (at o (drop (j * m) cs) (l * (m * m) + k)))
      (λ l. o.mul (at o a l) (constant o m cs l j k))
      (λ l _. ap (o.mul (at o a l)) (sym (constant-column o m cs l j k)))

  -- and b_i·a has the sum over l of a_l·γ_ilk
  pub at-basis_product : (a : List E) (i k : ℕ) → All (IsElem o) a → i < m → k < m
      → at o (product o m cs (basis o m i) a) k ≡ sum_of o m (λ l. o.mul (at o a l) (constant o m cs i l k))
  at-basis_product a i k ha i_in k_in =
      ap (λ xs. at o xs k) (basis-product o L m cs constants a i ha i_in)
      ∙ at-table o m (sum_of_rows o m a (drop (i * m * m) cs) m) k k_in
      ∙ sum_of_congr o m (λ l. o.mul (at o a l) (at o (drop (i * m * m) cs) (l * m + k)))
      (λ l. o.mul (at o a l) (constant o m cs i l k))
      (λ l _. ap (o.mul (at o a l)) (sym (constant-row o m cs i l k)))

  pub contraction-left : (a : List E) → All (IsElem o) a → contraction o m a cs 1 m (m * m) ≡ left_matrix o A a
  contraction-left a ha = table_congr m
      (λ r. table m (λ j. contracted o m a cs (r * 1 + j * m) (m * m)))
      (λ k. table m (λ j. at o (product o m cs a (basis o m j)) k))
      (λ r r_in. table_congr m
      (λ j. contracted o m a cs (r * 1 + j * m) (m * m))
      (λ j. at o (product o m cs a (basis o m j)) r)
      (λ j j_in.
      sum_of_congr o m (λ l. o.mul (at o a l) (at o cs (r * 1 + j * m + l * (m * m))))
      (λ l. o.mul (at o a l) (constant o m cs l j r))
      (λ l _. ap (λ p. o.mul (at o a l) (at o cs p)) (last_place r j l m))
      ∙ sym (at-product_basis a j r ha j_in r_in)))

  -- the same of what a program has read
  pub contraction-left_of : (n d : ℕ) (s a k : List E) → n ≡ m → d ≡ m → s ≡ a → k ≡ cs → All (IsElem o) a
      → contraction o n s k 1 d (d * d) ≡ left_matrix o A a
  contraction-left_of n d s a k en ed es ek ha =
      ap₂ (λ x y. contraction o x s k 1 y (y * y)) en ed ∙ ap₂ (λ x y. contraction o m x y 1 m (m * m)) es ek
      ∙ contraction-left a ha

  -- the trace is linear: that of a is the sum over l of a_l times that of b_l
  pub trace-by_basis : (a : List E) → All (IsElem o) a
      → trace o A a ≡ sum_of o m (λ l. o.mul (at o a l) (basis_trace o m cs l))
  trace-by_basis a ha =
      let a_in = at-elem o L a ha in
      sum_of_congr o m (λ j. at o (product o m cs a (basis o m j)) j)
      (λ j. sum_of o m (λ l. o.mul (at o a l) (constant o m cs l j j)))
      (λ j j_in. at-product_basis a j j ha j_in j_in)
      ∙ sum_of_comm o L m m (λ j l. o.mul (at o a l) (constant o m cs l j j))
      (λ j l. L.mul-elem (at o a l) (constant o m cs l j j) (a_in l) (constant-elem l j j))
      ∙ sum_of_congr o m (λ l. sum_of o m (λ j. o.mul (at o a l) (constant o m cs l j j)))
      (λ l. o.mul (at o a l) (basis_trace o m cs l))
      (λ l _. sym (mul-sum_of o L m (at o a l) (λ j. constant o m cs l j j) (a_in l) (λ j. constant-elem l j j)))

  basis_trace-elem : (i : ℕ) → IsElem o (basis_trace o m cs i)
  basis_trace-elem i = sum_of-elem o L m (λ j. constant o m cs i j j) (λ j _. constant-elem i j j)

  pub contraction-form : (traces : List E) → traces ≡ table m (basis_trace o m cs)
      → contraction o m traces cs (m * m) m 1 ≡ trace_matrix o A
  contraction-form traces e = table_congr m
      (λ r. table m (λ j. contracted o m traces cs (r * (m * m) + j * m) 1))
      (λ i. table m (λ j. trace o A (product o m cs (basis o m i) (basis o m j))))
      (λ r r_in. table_congr m
      (λ j. contracted o m traces cs (r * (m * m) + j * m) 1)
      (λ j. trace o A (product o m cs (basis o m r) (basis o m j)))
      (λ j j_in.
      let row = table m (λ l. constant o m cs r j l) in
      sum_of_congr o m (λ l. o.mul (at o traces l) (at o cs (r * (m * m) + j * m + l * 1)))
      (λ l. o.mul (at o row l) (basis_trace o m cs l))
      (λ l l_in.
      ap₂ o.mul (ap (λ xs. at o xs l) e ∙ at-table o m (basis_trace o m cs) l l_in) (ap (at o cs) (first_place r j l m))
      ∙ L.mul_comm (basis_trace o m cs l) (constant o m cs r j l) (basis_trace-elem l) (constant-elem r j l)
      ∙ ap (λ x. o.mul x (basis_trace o m cs l)) (sym (at-table o m (λ l. constant o m cs r j l) l l_in)))
      ∙ sym (trace-by_basis row (row-elems r j))
      ∙ ap (trace o A) (sym (product_basis o L m cs constants r j r_in j_in))))
    where
      row-elems : (r j : ℕ) → All (IsElem o) (table m (λ l. constant o m cs r j l))
      row-elems r j = All-table (IsElem o) m (λ l. constant o m cs r j l) (λ l _. constant-elem r j l)

  pub contraction-form_of : (n d : ℕ) (s k : List E) → n ≡ m → d ≡ m → s ≡ table m (basis_trace o m cs) → k ≡ cs
      → contraction o n s k (d * d) d 1 ≡ trace_matrix o A
  contraction-form_of n d s k en ed es ek =
      ap₂ (λ x y. contraction o x s k (y * y) y 1) en ed ∙ ap (λ y. contraction o m s y (m * m) m 1) ek
      ∙ contraction-form s es

  pub contraction-values : (w : List E) (i j : ℕ) → i < m → j < m
      → entry o (contraction o m w cs m (m * m) 1) j i
      ≡ sum_of o m (λ k. o.mul (at o w k) (at o (product o m cs (basis o m i) (basis o m j)) k))
  contraction-values w i j i_in j_in =
      let row : ℕ → List E = λ r. table m (λ i. contracted o m w cs (r * m + i * (m * m)) 1) in
      ap (λ xs. at o xs i) (get_or-table m row j [] j_in)
      ∙ at-table o m (λ i. contracted o m w cs (j * m + i * (m * m)) 1) i i_in
      ∙ sum_of_congr o m (λ k. o.mul (at o w k) (at o cs (j * m + i * (m * m) + k * 1)))
      (λ k. o.mul (at o w k) (at o (product o m cs (basis o m i) (basis o m j)) k))
      (λ k k_in. ap (o.mul (at o w k)) (ap (at o cs) (middle_place j i k m)
      ∙ sym (ap (λ xs. at o xs k) (product_basis o L m cs constants i j i_in j_in)
      ∙ at-table o m (constant o m cs i j) k k_in)))

  -- the same of what a program has read
  pub contraction-values_of : (n d : ℕ) (s w k : List E) → n ≡ m → d ≡ m → s ≡ w → k ≡ cs → (i j : ℕ) → i < m → j < m
      → entry o (contraction o n s k d (d * d) 1) j i
      ≡ sum_of o m (λ k. o.mul (at o w k) (at o (product o m cs (basis o m i) (basis o m j)) k))
  contraction-values_of n d s w k en ed es ek i j i_in j_in =
      ap (λ rows. entry o rows j i) (ap₂ (λ x y. contraction o x s k y (y * y) 1) en ed
      ∙ ap₂ (λ x y. contraction o m x y m (m * m) 1) es ek)
      ∙ contraction-values w i j i_in j_in
