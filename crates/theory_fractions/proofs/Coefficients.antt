-- Sums and products of coefficients of lists over a program's field, past their ends too.
use Rattle.std.specs.Prelude.{◌≡◌, ℕ, zero, suc, ◌+◌, ◌-◌, ◌<◌, ◌≤◌, List, length}
use Rattle.std.specs.List.{All}
use Rattle.std.proofs.Common.{refl, sym, ◌∙◌, ap, ap₂, arith, ⊎_elim}
use Rattle.std.proofs.lemmas.Bool.{cases_lt}
use Rattle.std.proofs.lemmas.List.{get_or_past}
use Rattle.theory_rings.specs.Ops.{Ops, IsElem, FieldLaws}
use Rattle.theory_rings.specs.Elements.{elements}
use Rattle.theory_rings.specs.Sum.{at, sum_of}
use Rattle.theory_rings.specs.Polynomial.{convolution_of}
use Rattle.theory_rings.proofs.Rings.RingLaws.{mul-zero, zero-mul}
use Rattle.theory_rings.proofs.Rings.Elements.{at-elem, sum_of-elem}
use Rattle.theory_rings.proofs.Sums.Sums.{sum_by_ops_congr}

module _ {E : Type 0} (o : Ops E) (L : FieldLaws o) where
  pub add-zero_elem : (a : E) → IsElem o a → o.add a o.zero ≡ a
  add-zero_elem a h = L.add_comm a o.zero h L.zero-elem ∙ L.zero-add a h

  pub mul-zero_elem : (a : E) → IsElem o a → o.mul a o.zero ≡ o.zero
  mul-zero_elem a h = ap (λ x. x.0) (mul-zero (elements o L).ring (a, h))

  pub zero-mul_elem : (a : E) → IsElem o a → o.mul o.zero a ≡ o.zero
  zero-mul_elem a h = ap (λ x. x.0) (zero-mul (elements o L).ring (a, h))

  -- an item past the end adds nothing
  pub add-past : (xs : List E) (k : ℕ) (a : E) → IsElem o a → length xs ≤ k → o.add a (at o xs k) ≡ a
  add-past xs k a h l = ap (o.add a) (get_or_past xs k o.zero l) ∙ add-zero_elem a h

  pub mul-past : (xs : List E) (k : ℕ) (a : E) → IsElem o a → length xs ≤ k → o.mul a (at o xs k) ≡ o.zero
  mul-past xs k a h l = ap (o.mul a) (get_or_past xs k o.zero l) ∙ mul-zero_elem a h

  pub past-mul : (xs : List E) (k : ℕ) (a : E) → IsElem o a → length xs ≤ k → o.mul (at o xs k) a ≡ o.zero
  past-mul xs k a h l = ap (λ x. o.mul x a) (get_or_past xs k o.zero l) ∙ zero-mul_elem a h

  pub sum_of-zeros : (n : ℕ) (f : ℕ → E) → ((i : ℕ) → i < n → f i ≡ o.zero) → sum_of o n f ≡ o.zero
  sum_of-zeros zero f h = refl
  sum_of-zeros (suc n) f h = ap₂ o.add (sum_of-zeros n f (λ i l. h i (omega arith))) (h n (omega arith))
      ∙ L.zero-add o.zero L.zero-elem

  -- terms that are 0 after the first n add nothing
  pub sum_of-more : (n d : ℕ) (f : ℕ → E) → ((i : ℕ) → n ≤ i → f i ≡ o.zero) → IsElem o (sum_of o n f)
      → sum_of o (n + d) f ≡ sum_of o n f
  sum_of-more n zero f h e = let p : n + 0 ≡ n = omega arith in ap (λ m. sum_of o m f) p
  sum_of-more n (suc d) f h e =
      let p : n + suc d ≡ suc (n + d) = omega arith in
      ap (λ m. sum_of o m f) p ∙ ap (o.add (sum_of o (n + d) f)) (h (n + d) (omega arith))
      ∙ ap (λ x. o.add x o.zero) (sum_of-more n d f h e) ∙ add-zero_elem (sum_of o n f) e

  pub sum_of-le : (n m : ℕ) (f : ℕ → E) → ((i : ℕ) → n ≤ i → f i ≡ o.zero) → IsElem o (sum_of o n f) → n ≤ m
      → sum_of o m f ≡ sum_of o n f
  sum_of-le n m f h e l = let p : m ≡ n + (m - n) = omega arith in ap (λ k. sum_of o k f) p
      ∙ sum_of-more n (m - n) f h e

  module _ (x y : List E) (hx : All (IsElem o) x) (hy : All (IsElem o) y) where
    -- the terms of coefficient k of the product
    abbrev pub product_term : ℕ → ℕ → E
    product_term k i = o.mul (at o x i) (at o y (k - i))

    pub product_term-elem : (k i : ℕ) → IsElem o (product_term k i)
    product_term-elem k i = L.mul-elem (at o x i) (at o y (k - i)) (at-elem o L x hx i) (at-elem o L y hy (k - i))

    pub product_term-past : (k i : ℕ) → length x ≤ i → product_term k i ≡ o.zero
    product_term-past k i l = past-mul x i (at o y (k - i)) (at-elem o L y hy (k - i)) l

    pub product_term-low : (k i : ℕ) → length y ≤ k - i → product_term k i ≡ o.zero
    product_term-low k i l = mul-past y (k - i) (at o x i) (at-elem o L x hx i) l

    pub sum_of-product_term-elem : (n k : ℕ) → IsElem o (sum_of o n (product_term k))
    sum_of-product_term-elem n k = sum_of-elem o L n (product_term k) (λ i l. product_term-elem k i)

    pub convolution_of-elem : (k : ℕ) → IsElem o (convolution_of o (at o x) (at o y) k)
    convolution_of-elem k = sum_of-product_term-elem (suc k) k

    -- a product has no coefficients past the sum of the lengths, but for one
    pub convolution_of-past : (k : ℕ) → length x + length y ≤ suc k → convolution_of o (at o x) (at o y) k ≡ o.zero
    convolution_of-past k l = sum_of-zeros (suc k) (product_term k) (λ i below. ⊎_elim
        (λ (h : i < length x). product_term-low k i (omega arith)) (λ (h : length x ≤ i). product_term-past k i h)
        (cases_lt i (length x)))

    -- the sum of all terms, where those from n on are 0 or there are n
    pub convolution_of_sum : (k n : ℕ) → n ≤ suc k → (n < suc k → length x ≤ n)
        → sum_of o n (product_term k) ≡ convolution_of o (at o x) (at o y) k
    convolution_of_sum k n l h = ⊎_elim
        (λ (s : n < suc k). sym
        (sum_of-le n (suc k) (product_term k) (λ i b. product_term-past k i (omega (arith, h s)))
        (sum_of-product_term-elem n k) l))
        (λ (s : suc k ≤ n). let p : n ≡ suc k = omega arith in ap (λ m. sum_of o m (product_term k)) p)
        (cases_lt n (suc k))

  -- a quotient of zeros and all of r
  pub convolution_of-zeros : (q by : List E) → All (IsElem o) by → ((k : ℕ) → at o q k ≡ o.zero) → (k : ℕ)
      → convolution_of o (at o q) (at o by) k ≡ o.zero
  convolution_of-zeros q by hb z k =
      sum_of-zeros (suc k) (λ i. o.mul (at o q i) (at o by (k - i)))
      (λ i l. ap (λ x. o.mul x (at o by (k - i))) (z i) ∙ zero-mul_elem (at o by (k - i)) (at-elem o L by hb (k - i)))

  pub convolution_of_congr : (f g f' g' : ℕ → E) → ((i : ℕ) → f i ≡ f' i) → ((i : ℕ) → g i ≡ g' i) → (k : ℕ)
      → convolution_of o f g k ≡ convolution_of o f' g' k
  convolution_of_congr f g f' g' ef eg k =
      sum_by_ops_congr o.zero o.add (suc k) (λ i. o.mul (f i) (g (k - i))) (λ i. o.mul (f' i) (g' (k - i)))
      (λ i l. ap₂ o.mul (ef i) (eg (k - i)))
