-- Two fields by the same numbers have the same operations.
use Rattle.std.proofs.Common.{◌≡◌, ℕ, ◌+◌, ◌*◌, ◌/◌, ◌%◌, ◌^◌, ◌<◌, ◌≤◌, nat_lt, nat_eq, List, length, get_or}
use Rattle.std.proofs.Common.{slice_index, sym, ap₂}
use Rattle.std.proofs.Common.{◌∙◌, ap, subst, arith, ⊎_elim, lt-ltb}
use Rattle.std.proofs.Math.Logic.{∥∥₁_elim}
use Rattle.std.proofs.Math.Nat.{ℕ_set, div-add-mod, mod-lt, div-lt_iff_lt-mul, mul_comm}
use Rattle.std.proofs.lemmas.Bool.{cases_lt}
use Rattle.std.proofs.lemmas.List.{ext_get_or}
use Rattle.theory_rings.specs.Ops.{Ops, IsElem, FieldLaws}
use Rattle.theory_rings.specs.FieldByDigits.{IsProductByDigits}
use Rattle.theory_rings.proofs.FiniteFields.FieldByDigits.{sum_unique, product_unique}
use Rattle.spl_field.specs.SmallField.{characteristic, modulus_of, small_ops, small_laws}
use Rattle.spl_field.specs.Tables.{entry_at, table_ops, AreSums, AreNegatives, AreProducts, AreInverses}
use Rattle.spl_field.specs.declared.small.SmallField.{SmallField}

module _ (p : ℕ) (two_le : 2 ≤ p) (m : List ℕ) (q : ℕ) (some : 0 < q) where
  -- tables that agree at each row and column are one
  table_same : (t u : List ℕ) → length t ≡ q * q → length u ≡ q * q
      → ((a b : ℕ) → a < q → b < q → entry_at q t a b ≡ entry_at q u a b) → t ≡ u
  table_same t u full full' same = ext_get_or 0 t u (full ∙ sym full') (λ i below.
      let inside : i < q * q = omega (arith, below, full) in
      let row : i / q < q = (div-lt_iff_lt-mul {k = q} {x = i} {y = q} some).1 inside in
      let column : i % q < q = mod-lt i some in
      let whole : i / q * q + i % q ≡ i = omega (arith, div-add-mod i q, mul_comm q (i / q)) in
      subst (λ k. get_or t k 0 ≡ get_or u k 0) whole (same (i / q) (i % q) row column))

  pub sums_same : (t u : List ℕ) → length t ≡ q * q → length u ≡ q * q → AreSums p m q t → AreSums p m q u → t ≡ u
  sums_same t u full full' are are' = table_same t u full full' (λ a b la lb.
      sum_unique p two_le m a b (entry_at q t a b) (entry_at q u a b) (are a b la lb) (are' a b la lb))

  pub product_same : (a b c c' : ℕ) → ∥ IsProductByDigits p m a b c ∥₁ → ∥ IsProductByDigits p m a b c' ∥₁ → c ≡ c'
  product_same a b c c' h h' =
      ∥∥₁_elim h (ℕ_set c c') (λ x. ∥∥₁_elim h' (ℕ_set c c') (λ y. product_unique p two_le m a b c c' x y))

  pub products_same : (t u : List ℕ) → length t ≡ q * q → length u ≡ q * q → AreProducts p m q t → AreProducts p m q u
      → t ≡ u
  products_same t u full full' are are' = table_same t u full full' (λ a b la lb.
      product_same a b (entry_at q t a b) (entry_at q u a b) (are a b la lb) (are' a b la lb))

-- in a field, what adds to a as its negative does is its negative, and so with the inverse
module _ (o : Ops ℕ) (L : FieldLaws o) (a : ℕ) (a-in : IsElem o a) where
  negative_same : (n : ℕ) → IsElem o n → o.add a n ≡ o.zero → o.neg a ≡ n
  negative_same n n-in e =
      let own = L.neg-elem a a-in in
      sym (L.zero-add (o.neg a) own) ∙ L.add_comm o.zero (o.neg a) L.zero-elem own ∙ ap (o.add (o.neg a)) (sym e)
      ∙ sym (L.add_assoc (o.neg a) a n own a-in n-in) ∙ ap (λ z. o.add z n) (L.neg-add a a-in) ∙ L.zero-add n n-in

  inverse_same : (n : ℕ) → IsElem o n → (a ≡ o.zero → ⊥) → o.mul a n ≡ o.one → o.inv a ≡ n
  inverse_same n n-in nonzero e =
      let own = L.inv-elem a a-in in
      sym (L.one-mul (o.inv a) own) ∙ L.mul_comm o.one (o.inv a) L.one-elem own ∙ ap (o.mul (o.inv a)) (sym e)
      ∙ sym (L.mul_assoc (o.inv a) a n own a-in n-in) ∙ ap (λ z. o.mul z n) (L.inv-mul a a-in nonzero)
      ∙ L.one-mul n n-in

module _ (f g : SmallField) (p : characteristic f ≡ characteristic g) (m : modulus_of f ≡ modulus_of g) where
  abbrev o : Ops ℕ
  o = small_ops f

  size : f.size ≡ g.size
  size = f.power ∙ ap₂ (λ a l. a ^ length l) p m ∙ sym g.power

  some : 0 < f.size
  some = omega (arith, f.two_elements)

  -- what holds of the numbers of g holds of those of f
  over : (P : ℕ → List ℕ → ℕ → Type 0) → P g.p g.modulus.items g.size → P f.p f.modulus.items f.size
  over P h =
      subst (λ x. P x f.modulus.items f.size) (sym p)
      (subst (λ l. P g.p l f.size) (sym m) (subst (P g.p g.modulus.items) (sym size) h))

  sums : f.sums.items ≡ g.sums.items
  sums = sums_same f.p f.least f.modulus.items f.size some f.sums.items g.sums.items f.sums_full
      (over (λ _ _ n. length g.sums.items ≡ n * n) g.sums_full) f.sums_are
      (over (λ x l n. AreSums x l n g.sums.items) g.sums_are)

  products : f.products.items ≡ g.products.items
  products = products_same f.p f.least f.modulus.items f.size some f.products.items g.products.items f.products_full
      (over (λ _ _ n. length g.products.items ≡ n * n) g.products_full) f.products_are
      (over (λ x l n. AreProducts x l n g.products.items) g.products_are)

  negatives : f.negatives.items ≡ g.negatives.items
  negatives = ext_get_or 0 f.negatives.items g.negatives.items
      (f.negatives_full ∙ size ∙ sym g.negatives_full) (λ a below.
      let inside : a < f.size = subst (λ n. a < n) f.negatives_full below in
      let n = slice_index g.negatives.items a in
      let n-in : n < f.size = over (λ _ _ k. a < k → n < k) (g.negatives_below a) inside in
      let is = over (λ x l k. AreNegatives x l k g.negatives.items) g.negatives_are a inside in
      negative_same o (small_laws f) a (lt-ltb a f.size inside) n (lt-ltb n f.size n-in)
      (sum_unique f.p f.least f.modulus.items a n (o.add a n) 0 (f.sums_are a n inside n-in) is))

  inverses : f.inverses.items ≡ g.inverses.items
  inverses = ext_get_or 0 f.inverses.items g.inverses.items
      (f.inverses_full ∙ size ∙ sym g.inverses_full) (λ a below.
      let inside : a < f.size = subst (λ n. a < n) f.inverses_full below in
      let n = slice_index g.inverses.items a in
      let n-in : n < f.size = over (λ _ _ k. a < k → n < k) (g.inverses_below a) inside in
      let is = over (λ x l k. AreInverses x l k g.inverses.items) g.inverses_are in
      ⊎_elim
      (λ (zero : a < 1). let e : 0 ≡ a = omega arith in
      subst (λ k. slice_index f.inverses.items k ≡ slice_index g.inverses.items k) e
      (f.inverse_of_zero ∙ sym g.inverse_of_zero))
      (λ (positive : 1 ≤ a). inverse_same o (small_laws f) a (lt-ltb a f.size inside) n (lt-ltb n f.size n-in)
      (λ e. omega (arith, e))
      (product_same f.p f.least f.modulus.items f.size some a n (o.mul a n) 1 (f.products_are a n inside n-in)
      (is a (omega arith) inside)))
      (cases_lt a 1))

  pub equal_fields : small_ops f ≡ small_ops g
  equal_fields = λ k. table_ops (size k) (sums k) (negatives k) (products k) (inverses k)
