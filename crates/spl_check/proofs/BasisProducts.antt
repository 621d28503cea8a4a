-- Products with basis elements: a row of constants by its items, multiples of a basis element, and their factor.
use Rattle.std.specs.Prelude.{◌≡◌, ◌<◌, ◌==◌, ℕ, Bool, true, false, List, length, get_or, cond}
use Rattle.std.proofs.Common.{refl, sym, ◌∙◌, ap, arith}
use Rattle.std.proofs.lemmas.List.{get_or_default}
use Rattle.theory_rings.specs.Ops.{Ops, IsElem, FieldLaws}
use Rattle.theory_rings.specs.Sum.{at}
use Rattle.theory_spaces.specs.Tuples.{tuple_scale, basis, constant}
use Rattle.theory_spaces.proofs.Tuples.Tuples.{at-table}
use Rattle.theory_spaces.proofs.Tuples.TupleProducts.{product_basis}
use Rattle.theory_tables.specs.Structure.{Structure, IsOver, basis_of, product_of}
use Rattle.spl_algebra.proofs.BasisRows.{at-basis_same}
use Rattle.spl_algebra.proofs.Steps.{table-at}
use Rattle.spl_algebra.proofs.Terms.{mul-one, mul-zero}

module _ {E : Type 0} (o : Ops E) (L : FieldLaws o) (A : Structure E) (over : IsOver o A) where
  -- the items of the product of two basis elements
  pub at-basis_product : (i j k : ℕ) → i < A.dim → j < A.dim → k < A.dim
      → at o (product_of o A (basis_of o A i) (basis_of o A j)) k ≡ constant o A.dim A.constants i j k
  at-basis_product i j k i_in j_in k_in =
      ap (λ (row : List E). at o row k) (product_basis o L A.dim A.constants over.of_elements i j i_in j_in)
      ∙ at-table o A.dim (λ k. constant o A.dim A.constants i j k) k k_in

  -- one that was read in the row of their constants
  pub read_constant : (i j k : ℕ) → i < A.dim → j < A.dim → k < A.dim → (row : List E) (x : E)
      → length row ≡ A.dim → row ≡ product_of o A (basis_of o A i) (basis_of o A j) → x ≡ get_or row k x
      → x ≡ constant o A.dim A.constants i j k
  read_constant i j k i_in j_in k_in row x long is read =
      let k_row : k < length row = omega arith in
      read ∙ get_or_default row k x o.zero k_row ∙ ap (λ (row : List E). at o row k) is
      ∙ at-basis_product i j k i_in j_in k_in

module _ {E : Type 0} (o : Ops E) (L : FieldLaws o) where
  -- the items of a multiple of a basis element
  pub at-multiple : (n i k : ℕ) (c : E) → IsElem o c → k < n
      → cond (k == i) c o.zero ≡ o.mul c (at o (basis o n i) k)
  at-multiple n i k c hc k_in =
      go (k == i) ∙ ap (o.mul c) (sym (at-table o n (λ k. cond (k == i) o.one o.zero) k k_in))
    where
      go : (b : Bool) → cond b c o.zero ≡ o.mul c (cond b o.one o.zero)
      go true = sym (mul-one o L c hc)
      go false = sym (mul-zero o L c hc)

  -- a tuple with these items
  pub is_multiple : (i : ℕ) (c : E) (v : List E)
      → ((k : ℕ) → k < length v → at o v k ≡ o.mul c (at o (basis o (length v) i) k))
      → v ≡ tuple_scale o (length v) c (basis o (length v) i)
  is_multiple i c v h =
      table-at o (length v) v (λ k. o.mul c (at o (basis o (length v) i) k)) refl h

  pub multiple-at : (i k : ℕ) (c : E) (v : List E) → k < length v
      → v ≡ tuple_scale o (length v) c (basis o (length v) i) → at o v k ≡ o.mul c (at o (basis o (length v) i) k)
  multiple-at i k c v k_in e =
      ap (λ (xs : List E). at o xs k) e ∙ at-table o (length v) (λ k. o.mul c (at o (basis o (length v) i) k)) k k_in

  -- the factor is the first item of the product with the first basis element
  pub factor_unique : (A : Structure E) (a : List E) (c d : E) → 0 < A.dim → IsElem o d
      → c ≡ at o (product_of o A a (basis_of o A 0)) 0
      → product_of o A a (basis_of o A 0) ≡ tuple_scale o A.dim d (basis_of o A 0) → d ≡ c
  factor_unique A a c d some hd first e =
      sym (first ∙ ap (λ (xs : List E). at o xs 0) e
      ∙ at-table o A.dim (λ k. o.mul d (at o (basis_of o A 0) k)) 0 some
      ∙ ap (o.mul d) (at-basis_same o A.dim 0 some) ∙ mul-one o L d hd)
