-- A product by its rows of constants: the places of the rows, and the loop over the items of the first factor.
use Rattle.std.specs.Prelude.{◌≡◌, ℕ, ◌+◌, ◌-◌, ◌*◌, ◌<◌, ◌≤◌, List, length, drop, All}
use Rattle.std.proofs.Common.{refl, sym, ◌∙◌, ap, ap₂, arith}
use Rattle.std.proofs.Math.Nat as nat
use Rattle.std.proofs.lemmas.List.{get_or-drop}
use Rattle.theory_rings.specs.Ops.{Ops, IsElem, FieldLaws}
use Rattle.theory_rings.specs.Sum.{at, sum_of, table}
use Rattle.theory_rings.proofs.Sums.Lists.{length-table}
use Rattle.theory_spaces.specs.Tuples.{product, constant}
use Rattle.spl_algebra.specs.Products.{AddsEach, scaled_rows, sum_of_rows}
use Rattle.spl_algebra.proofs.Terms.{sum_of-next}
use Rattle.theory_rings.proofs.Rings.Elements.{at-elem, sum_of-elem, sum_of_congr}
use Rattle.spl_algebra.proofs.Steps.{AddsEach-zero, AddsEach-then, AddsEach-congr, AddsEach-zeros}

-- row i of n rows of m items ends within them
pub row_end-le : (i n m : ℕ) → i < n → i * m + m ≤ n * m
row_end-le i n m l = let e : i + 1 ≤ n = omega arith in omega (arith, nat.mul-le-mul_right m e)

-- row l of the m·m rows from row i·m on ends within them
pub row_end-le_rest : (i l m n : ℕ) → i < m → l < m → n ≡ m * m * m → l * m + m ≤ n - i * m * m
row_end-le_rest i l m n h k e =
    let first : i + 1 ≤ m = omega arith in
    omega (arith, row_end-le l m m k, nat.mul-le-mul_right (m * m) first)

-- the m items from row l·m on of the rows from row k on end within them
pub column_end-le_rest : (k l m n : ℕ) → k < m → l < m → n ≡ m * m * m → l * (m * m) + m ≤ n - k * m
column_end-le_rest k l m n h below e =
    let next : l + 1 ≤ m = omega arith in
    omega (arith, row_end-le k m m h, nat.mul-le-mul_right (m * m) next)

-- these items begin within them
pub row_start-lt_rest : (i l m n : ℕ) → i < m → l < m → n ≡ m * m * m → i * m * m + l * m < n
row_start-lt_rest i l m n h k e = omega (arith, row_end-le_rest i l m n h k e)

pub column_start-lt_rest : (k l m n : ℕ) → k < m → l < m → n ≡ m * m * m → k * m + l * (m * m) < n
column_start-lt_rest k l m n h below e = omega (arith, column_end-le_rest k l m n h below e)

-- the places of the constants in a part of their list
module _ {E : Type 0} (o : Ops E) (m : ℕ) (cs : List E) where
  pub constant-row : (i j k : ℕ) → constant o m cs i j k ≡ at o (drop (i * m * m) cs) (j * m + k)
  constant-row i j k =
      let e : (i * m + j) * m + k ≡ i * m * m + (j * m + k) = omega (arith, nat.add-mul (i * m) j m) in
      ap (at o cs) e ∙ sym (get_or-drop (i * m * m) cs (j * m + k) o.zero)

  pub constant-column : (i j k : ℕ) → constant o m cs i j k ≡ at o (drop (j * m) cs) (i * (m * m) + k)
  constant-column i j k =
      let e : (i * m + j) * m + k ≡ j * m + (i * (m * m) + k) =
      omega (arith, nat.add-mul (i * m) j m, nat.mul_assoc i m m) in
      ap (at o cs) e ∙ sym (get_or-drop (j * m) cs (i * (m * m) + k) o.zero)

module _ {E : Type 0} (o : Ops E) (L : FieldLaws o) where
  -- rows times one
  pub scaled_rows-one : (m : ℕ) (one : E) (b rows : List E) (stride k : ℕ) → one ≡ o.one → All (IsElem o) b
      → scaled_rows o m one b rows stride k ≡ sum_of_rows o m b rows stride k
  scaled_rows-one m one b rows stride k e hb =
      sum_of_congr o m (λ l. o.mul (o.mul one (at o b l)) (at o rows (l * stride + k)))
      (λ l. o.mul (at o b l) (at o rows (l * stride + k)))
      (λ l _. ap (λ y. o.mul y (at o rows (l * stride + k)))
      (ap (λ y. o.mul y (at o b l)) e ∙ L.one-mul (at o b l) (at-elem o L b hb l)))

  -- a list of zeros after the rows are added
  pub sum_of_rows-table : (m : ℕ) (old new : List E) (one : E) (b rows : List E) (stride : ℕ)
      → old ≡ table m (λ _. o.zero) → one ≡ o.one
      → All (IsElem o) b → All (IsElem o) rows → AddsEach o old new (scaled_rows o (length old) one b rows stride)
      → new ≡ table m (sum_of_rows o m b rows stride)
  sum_of_rows-table m old new one b rows stride z e hb hr a =
      let long : length old ≡ m = ap length z ∙ length-table m (λ _. o.zero) in
      AddsEach-zeros o L m old new (sum_of_rows o m b rows stride) z
      (AddsEach-congr o L old new (scaled_rows o (length old) one b rows stride) (sum_of_rows o m b rows stride)
      (λ k _. ap (λ n. scaled_rows o n one b rows stride k) long ∙ scaled_rows-one m one b rows stride k e hb) a)
      (λ k _. sum_of_rows-elem m b rows stride k hb hr)
    where
      sum_of_rows-elem : (m : ℕ) (b rows : List E) (stride k : ℕ) → All (IsElem o) b → All (IsElem o) rows
          → IsElem o (sum_of_rows o m b rows stride k)
      sum_of_rows-elem m b rows stride k hb hr =
          sum_of-elem o L m (λ l. o.mul (at o b l) (at o rows (l * stride + k)))
          (λ l _. L.mul-elem (at o b l) (at o rows (l * stride + k)) (at-elem o L b hb l)
          (at-elem o L rows hr (l * stride + k)))

-- at k the part of a product that item i of the first factor gives, and the first n of these parts
abbrev pub part_of_product : {E : Type 0} → Ops E → ℕ → List E → List E → List E → ℕ → ℕ → E
part_of_product o m c a b i k = sum_of o m (λ j. o.mul (o.mul (at o a i) (at o b j)) (constant o m c i j k))

abbrev pub parts_of_product : {E : Type 0} → Ops E → ℕ → List E → List E → List E → ℕ → ℕ → E
parts_of_product o m c a b n k = sum_of o n (λ i. part_of_product o m c a b i k)

module _ {E : Type 0} (o : Ops E) (L : FieldLaws o) where
  part_of_product-elem : (m : ℕ) (c a b : List E) (i k : ℕ) → All (IsElem o) c → All (IsElem o) a → All (IsElem o) b
      → IsElem o (part_of_product o m c a b i k)
  part_of_product-elem m c a b i k hc ha hb =
      sum_of-elem o L m (λ j. o.mul (o.mul (at o a i) (at o b j)) (constant o m c i j k))
      (λ j _. L.mul-elem (o.mul (at o a i) (at o b j)) (constant o m c i j k)
      (L.mul-elem (at o a i) (at o b j) (at-elem o L a ha i) (at-elem o L b hb j))
      (at-elem o L c hc ((i * m + j) * m + k)))

  parts_of_product-elem : (m : ℕ) (c a b : List E) (n k : ℕ) → All (IsElem o) c → All (IsElem o) a → All (IsElem o) b
      → IsElem o (parts_of_product o m c a b n k)
  parts_of_product-elem m c a b n k hc ha hb =
      sum_of-elem o L n (λ i. part_of_product o m c a b i k) (λ i _. part_of_product-elem m c a b i k hc ha hb)

  -- the rows from row i·m on
  scaled_rows-part : (m : ℕ) (c a b : List E) (i k : ℕ)
      → scaled_rows o m (at o a i) b (drop (i * m * m) c) m k ≡ part_of_product o m c a b i k
  scaled_rows-part m c a b i k =
      sum_of_congr o m (λ j. o.mul (o.mul (at o a i) (at o b j)) (at o (drop (i * m * m) c) (j * m + k)))
      (λ j. o.mul (o.mul (at o a i) (at o b j)) (constant o m c i j k))
      (λ j _. ap (o.mul (o.mul (at o a i) (at o b j))) (sym (constant-row o m c i j k)))

  pub parts-none : (m : ℕ) (old : List E) (c a b : List E) → All (IsElem o) old
      → AddsEach o old old (parts_of_product o m c a b 0)
  parts-none m old c a b h = AddsEach-zero o L old (parts_of_product o m c a b 0) h (λ k. refl)

  -- item i of the first factor has its turn
  pub parts-more : (m : ℕ) (old mid new : List E) (c a b : List E) (i : ℕ) (x : E) (rows : List E)
      → length old ≡ m → All (IsElem o) old → All (IsElem o) c → All (IsElem o) a → All (IsElem o) b
      → x ≡ at o a i → rows ≡ drop (i * m * m) c
      → AddsEach o old mid (parts_of_product o m c a b i) → AddsEach o mid new (scaled_rows o (length mid) x b rows m)
      → AddsEach o old new (parts_of_product o m c a b (i + 1))
  parts-more m old mid new c a b i x rows long h hc ha hb ex er p q =
      AddsEach-then o L old mid new (parts_of_product o m c a b i) (part_of_product o m c a b i)
      (parts_of_product o m c a b (i + 1)) h p
      (AddsEach-congr o L mid new (scaled_rows o (length mid) x b rows m) (part_of_product o m c a b i) (λ k _.
      ap (λ n. scaled_rows o n x b rows m k) (p.same_length ∙ long)
      ∙ ap₂ (λ y r. scaled_rows o m y b r m k) ex er
      ∙ scaled_rows-part m c a b i k) q)
      (λ k _. parts_of_product-elem m c a b i k hc ha hb) (λ k _. part_of_product-elem m c a b i k hc ha hb)
      (λ k _. sum_of-next o i (λ i. part_of_product o m c a b i k))

  pub parts-all : (m : ℕ) (old new : List E) (c a b : List E) → old ≡ table m (λ _. o.zero) → All (IsElem o) c
      → All (IsElem o) a → All (IsElem o) b
      → AddsEach o old new (parts_of_product o m c a b m) → new ≡ product o m c a b
  parts-all m old new c a b z hc ha hb p =
      AddsEach-zeros o L m old new (parts_of_product o m c a b m) z p
      (λ k _. parts_of_product-elem m c a b m k hc ha hb)
