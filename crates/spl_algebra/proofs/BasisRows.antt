-- Products with basis elements are rows of constants and sums of rows.
use Rattle.std.specs.Prelude.{◌≡◌, ℕ, ◌+◌, ◌-◌, ◌*◌, ◌<◌, ◌≤◌, List, length, take, drop, cond, eqb, All}
use Rattle.std.proofs.Common.{refl, sym, ◌∙◌, ap, arith}
use Rattle.std.proofs.lemmas.Bool.{eq-eqb, ne_eqb}
use Rattle.std.proofs.lemmas.List.{length-take, length-drop, get_or-drop}
use Rattle.std.proofs.lemmas.List.Elements.{All-take, All-drop}
use Rattle.theory_rings.specs.Ops.{Ops, IsElem, FieldLaws}
use Rattle.theory_rings.specs.Sum.{at, sum_of, table}
use Rattle.theory_spaces.specs.Tuples.{IsTuple, product, basis, constant}
use Rattle.theory_rings.proofs.Sums.Lists.{table_congr}
use Rattle.theory_rings.proofs.Rings.Elements.{at-elem, sum_of-elem, sum_of_congr}
use Rattle.theory_spaces.proofs.Tuples.Tuples.{at-table}
use Rattle.theory_spaces.proofs.Tuples.TupleProducts.{product_basis, IsTuple-basis}
use Rattle.spl_algebra.specs.Contractions.{contracted}
use Rattle.spl_algebra.specs.Products.{sum_of_rows}
use Rattle.spl_algebra.proofs.Terms.{mul-one, mul-zero, zero-mul, sum_of_eq_single, sum_of_eq_zero}
use Rattle.spl_algebra.proofs.Steps.{table-at, at-part}
use Rattle.spl_algebra.proofs.Rows.{row_end-le, constant-row, constant-column}

-- the row of the constants of i and j ends within them
pub row_within : (i j start m n : ℕ) → start ≡ (i * m + j) * m → i < m → j < m → n ≡ m * m * m → start + m ≤ n
row_within i j start m n e h k long =
    let place : i * m + j < m * m = omega (arith, row_end-le i m m h) in
    omega (arith, row_end-le (i * m + j) (m * m) m place)

module _ {E : Type 0} (o : Ops E) where
  pub at-basis_same : (m i : ℕ) → i < m → at o (basis o m i) i ≡ o.one
  at-basis_same m i l = at-table o m (λ k. cond (eqb k i) o.one o.zero) i l
      ∙ ap (λ b. cond b o.one o.zero) (eq-eqb i i refl)

  pub at-basis_other : (m i k : ℕ) → k < m → (k ≡ i → ⊥) → at o (basis o m i) k ≡ o.zero
  at-basis_other m i k l d = at-table o m (λ k. cond (eqb k i) o.one o.zero) k l
      ∙ ap (λ b. cond b o.one o.zero) (ne_eqb k i d)

module _ {E : Type 0} (o : Ops E) (L : FieldLaws o) (m : ℕ) (cs : List E) (constants : All (IsElem o) cs) where
  abbrev term : List E → List E → ℕ → ℕ → ℕ → E
  term a b t i j = o.mul (o.mul (at o a i) (at o b j)) (constant o m cs i j t)

  term-elem : (a b : List E) (t i j : ℕ) → All (IsElem o) a → All (IsElem o) b → IsElem o (term a b t i j)
  term-elem a b t i j ha hb =
      L.mul-elem (o.mul (at o a i) (at o b j)) (constant o m cs i j t)
      (L.mul-elem (at o a i) (at o b j) (at-elem o L a ha i) (at-elem o L b hb j))
      (at-elem o L cs constants ((i * m + j) * m + t))

  term-right_zero : (a b : List E) (t i j : ℕ) → All (IsElem o) a → at o b j ≡ o.zero → term a b t i j ≡ o.zero
  term-right_zero a b t i j ha z =
      ap (λ x. o.mul x (constant o m cs i j t)) (ap (o.mul (at o a i)) z ∙ mul-zero o L (at o a i) (at-elem o L a ha i))
      ∙ zero-mul o L (constant o m cs i j t) (at-elem o L cs constants ((i * m + j) * m + t))

  term-left_zero : (a b : List E) (t i j : ℕ) → All (IsElem o) b → at o a i ≡ o.zero → term a b t i j ≡ o.zero
  term-left_zero a b t i j hb z =
      ap (λ x. o.mul x (constant o m cs i j t))
      (ap (λ x. o.mul x (at o b j)) z ∙ zero-mul o L (at o b j) (at-elem o L b hb j))
      ∙ zero-mul o L (constant o m cs i j t) (at-elem o L cs constants ((i * m + j) * m + t))

  term-right_one : (a b : List E) (t i j : ℕ) → All (IsElem o) a → at o b j ≡ o.one
      → term a b t i j ≡ o.mul (at o a i) (constant o m cs i j t)
  term-right_one a b t i j ha e =
      ap (λ x. o.mul x (constant o m cs i j t)) (ap (o.mul (at o a i)) e ∙ mul-one o L (at o a i) (at-elem o L a ha i))

  term-left_one : (a b : List E) (t i j : ℕ) → All (IsElem o) b → at o a i ≡ o.one
      → term a b t i j ≡ o.mul (at o b j) (constant o m cs i j t)
  term-left_one a b t i j hb e =
      ap (λ x. o.mul x (constant o m cs i j t))
      (ap (λ x. o.mul x (at o b j)) e ∙ L.one-mul (at o b j) (at-elem o L b hb j))

  -- a product with a basis element on the right: the rows that begin each m·m items
  pub product-basis : (a : List E) (k : ℕ) → All (IsElem o) a → k < m
      → product o m cs a (basis o m k) ≡ table m (sum_of_rows o m a (drop (k * m) cs) (m * m))
  product-basis a k ha h = table_congr m
      (λ t. sum_of o m (λ i. sum_of o m (λ j. term a (basis o m k) t i j)))
      (sum_of_rows o m a (drop (k * m) cs) (m * m))
      (λ t _. sum_of_congr o m
      (λ i. sum_of o m (λ j. term a (basis o m k) t i j))
      (λ i. o.mul (at o a i) (at o (drop (k * m) cs) (i * (m * m) + t)))
      (λ i _.
      sum_of_eq_single o L m k (λ j. term a (basis o m k) t i j) h
      (term-elem a (basis o m k) t i k ha (IsTuple-basis o L m cs constants k).of_elements)
      (λ j l d. term-right_zero a (basis o m k) t i j ha (at-basis_other o m k j l d))
      ∙ term-right_one a (basis o m k) t i k ha (at-basis_same o m k h)
      ∙ ap (o.mul (at o a i)) (constant-column o m cs i k t)))

  -- and on the left: the rows from row i·m on
  pub basis-product : (b : List E) (i : ℕ) → All (IsElem o) b → i < m
      → product o m cs (basis o m i) b ≡ table m (sum_of_rows o m b (drop (i * m * m) cs) m)
  basis-product b i hb h = table_congr m
      (λ t. sum_of o m (λ l. sum_of o m (λ j. term (basis o m i) b t l j)))
      (sum_of_rows o m b (drop (i * m * m) cs) m)
      (λ t _.
      sum_of_eq_single o L m i (λ l. sum_of o m (λ j. term (basis o m i) b t l j)) h
      (sum_of-elem o L m (λ j. term (basis o m i) b t i j)
      (λ j _. term-elem (basis o m i) b t i j (IsTuple-basis o L m cs constants i).of_elements hb))
      (λ l g d. sum_of_eq_zero o L m (λ j. term (basis o m i) b t l j)
      (λ j _. term-left_zero (basis o m i) b t l j hb (at-basis_other o m i l g d)))
      ∙ sum_of_congr o m
      (λ j. term (basis o m i) b t i j)
      (λ j. o.mul (at o b j) (at o (drop (i * m * m) cs) (j * m + t)))
      (λ j _. term-left_one (basis o m i) b t i j hb (at-basis_same o m i h)
      ∙ ap (o.mul (at o b j)) (constant-row o m cs i j t)))

  -- the first item of the rows from a place on, which begin each stride items
  first-rows : (a : List E) (start stride : ℕ) → 0 < m
      → contracted o m a cs start stride ≡ at o (table m (sum_of_rows o m a (drop start cs) stride)) 0
  first-rows a start stride some =
      sum_of_congr o m
      (λ l. o.mul (at o a l) (at o cs (start + l * stride)))
      (λ l. o.mul (at o a l) (at o (drop start cs) (l * stride + 0)))
      (λ l _.
      let e : start + l * stride ≡ start + (l * stride + 0) = omega arith in
      ap (o.mul (at o a l)) (ap (at o cs) e ∙ sym (get_or-drop start cs (l * stride + 0) o.zero)))
      ∙ sym (at-table o m (sum_of_rows o m a (drop start cs) stride) 0 some)

  -- the first item of a product with a basis element on the right, and on the left
  pub first-product_basis : (a : List E) (k : ℕ) → All (IsElem o) a → k < m
      → contracted o m a cs (k * m) (m * m) ≡ at o (product o m cs a (basis o m k)) 0
  first-product_basis a k ha h =
      first-rows a (k * m) (m * m) (omega arith) ∙ sym (ap (λ xs. at o xs 0) (product-basis a k ha h))

  pub first-basis_product : (b : List E) (i : ℕ) → All (IsElem o) b → i < m
      → contracted o m b cs (i * m * m) m ≡ at o (product o m cs (basis o m i) b) 0
  first-basis_product b i hb h =
      first-rows b (i * m * m) m (omega arith) ∙ sym (ap (λ xs. at o xs 0) (basis-product b i hb h))

  -- the row of the constants of two basis elements
  pub IsTuple-row : (start : ℕ) → start + m ≤ length cs → IsTuple o m (take (start + m - start) (drop start cs))
  IsTuple-row start last = record {
    right_length = simp (length-take, length-drop) (omega arith);
    of_elements = All-take (IsElem o) (start + m - start) (drop start cs) (All-drop (IsElem o) start cs constants);
  }

  -- the product of two basis elements is the row of their constants
  pub row-product : (i j : ℕ) (start : ℕ) → start ≡ (i * m + j) * m → i < m → j < m → length cs ≡ m * m * m
      → take (start + m - start) (drop start cs) ≡ product o m cs (basis o m i) (basis o m j)
  row-product i j start e h k long =
      let last : start + m ≤ length cs = row_within i j start m (length cs) e h k long in
      table-at o m (take (start + m - start) (drop start cs)) (λ t. constant o m cs i j t)
      (simp (length-take, length-drop) (omega arith))
      (λ t l. at-part o cs start m t l ∙ ap (λ p. at o cs (p + t)) e)
      ∙ sym (product_basis o L m cs constants i j h k)
