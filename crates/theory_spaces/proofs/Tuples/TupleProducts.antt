-- Products of tuples by structure constants: linear in each factor, and associative where the basis is.
use Rattle.std.specs.Prelude.{◌≡◌, ℕ, ◌+◌, ◌*◌, ◌<◌, List}
use Rattle.std.specs.List.{All}
use Rattle.std.proofs.Common.{sym, ◌∙◌, ap, ap₂}
use Rattle.theory_rings.specs.Ring.{FieldOn}
use Rattle.theory_rings.specs.Ops.{Ops, IsElem, FieldLaws}
use Rattle.theory_rings.specs.Elements.{Elem, elements}
use Rattle.theory_rings.specs.Sum.{sum, sum_of, table}
use Rattle.theory_rings.proofs.Sums.Lists.{table_congr}
use Rattle.theory_rings.proofs.Rings.Elements.{at-elem, sum_of-elements, sum_of_congr}
use Rattle.theory_spaces.specs.Module.{ModuleOn, AlgebraOn, module_of}
use Rattle.theory_spaces.specs.Linear.{Basis}
use Rattle.theory_spaces.specs.Space.{SpaceOn, ProductOn, sum2}
use Rattle.theory_spaces.specs.Tuples.{IsTuple, Tuple, tuple_add, tuple_scale, basis, constant, product}
use Rattle.theory_spaces.specs.Tuples.{AssociativeTable, IsTableOne, IsTableAlgebra}
use Rattle.theory_spaces.proofs.Tuples.Tables.{unit, in_units, space_basis, table_mul, coord-unit_mul, table_on}
use Rattle.theory_spaces.proofs.Tuples.Tables.{associative_of_basis, one-mul_of_basis, mul-one_of_basis}
use Rattle.theory_spaces.proofs.Tuples.Tables.{central_of_basis, algebra_of}
use Rattle.theory_spaces.proofs.Tuples.Tuples.{IsTuple-is_tuple, is_tuple-IsTuple, IsTuple-table, IsTuple-ext, at-table}
use Rattle.theory_spaces.proofs.Tuples.Tuples.{Tuple-path, tuples, tuple_space, tuples-zero, tuples-add, tuples-neg}
use Rattle.theory_spaces.proofs.Tuples.Tuples.{tuples-scale, unit-basis}

module _ {E : Type 0} (o : Ops E) (L : FieldLaws o) (n : ℕ) (cs : List E) (constants : All (IsElem o) cs) where
  abbrev K : FieldOn (Elem o)
  K = elements o L

  abbrev M : ModuleOn K.ring (Tuple o n)
  M = tuples o L n

  abbrev S : SpaceOn M n
  S = tuple_space o L n

  -- the structure constants as elements
  abbrev pub element_constant : ℕ → ℕ → ℕ → Elem o
  element_constant i j k = (constant o n cs i j k, at-elem o L cs constants ((i * n + j) * n + k))

  -- a product on the type of the tuples, which is that on lists
  abbrev pub tuple_product : ProductOn M
  tuple_product = table_on K.cring M n S element_constant

  abbrev mul : Tuple o n → Tuple o n → Tuple o n
  mul a b = table_mul K.cring M n S element_constant a b

  pub tuple_product-list : (a b : Tuple o n) → (mul a b).0 ≡ product o n cs a.0 b.0
  unfolding table_mul tuple_space
  tuple_product-list a b =
      let term : ℕ → ℕ → ℕ → Elem o = λ k i j. K.◌⊗◌ (K.◌⊗◌ (S.coord a i) (S.coord b j)) (element_constant i j k) in
      table_congr n (λ k. (sum2 K.ring n (term k)).0) (λ k. sum_of o n (λ i. sum_of o n (λ j. (term k i j).0))) (λ k l.
      sym (sum_of_congr o n (λ i. sum_of o n (λ j. (term k i j).0)) (λ i. (sum K.monoid n (term k i)).0)
      (λ i g. sum_of-elements o L n (term k i))
      ∙ sum_of-elements o L n (λ i. sum K.monoid n (term k i))))

  abbrev as_tuple : (a : List E) → IsTuple o n a → Tuple o n
  as_tuple a h = (a, IsTuple-is_tuple o n a h)

  -- the product of tuples is a tuple
  pub IsTuple-product : (a b : List E) → IsTuple o n a → IsTuple o n b → IsTuple o n (product o n cs a b)
  IsTuple-product a b ha hb =
      IsTuple_of (tuple_product-list (as_tuple a ha) (as_tuple b hb))
      (is_tuple-IsTuple o n (mul (as_tuple a ha) (as_tuple b hb)).0 (mul (as_tuple a ha) (as_tuple b hb)).1)
    where
      IsTuple_of : {x y : List E} → x ≡ y → IsTuple o n x → IsTuple o n y
      IsTuple_of e h = rw (← e) h

  -- the product of lists through the type of tuples
  product_from : (a b c : List E) (ha : IsTuple o n a) (hb : IsTuple o n b) (hc : IsTuple o n c)
      → (mul (mul (as_tuple a ha) (as_tuple b hb)) (as_tuple c hc)).0 ≡ product o n cs (product o n cs a b) c
  product_from a b c ha hb hc = tuple_product-list (mul (as_tuple a ha) (as_tuple b hb)) (as_tuple c hc)
      ∙ ap (λ x. product o n cs x c) (tuple_product-list (as_tuple a ha) (as_tuple b hb))

  product_into : (a b c : List E) (ha : IsTuple o n a) (hb : IsTuple o n b) (hc : IsTuple o n c)
      → (mul (as_tuple a ha) (mul (as_tuple b hb) (as_tuple c hc))).0 ≡ product o n cs a (product o n cs b c)
  product_into a b c ha hb hc = tuple_product-list (as_tuple a ha) (mul (as_tuple b hb) (as_tuple c hc))
      ∙ ap (λ x. product o n cs a x) (tuple_product-list (as_tuple b hb) (as_tuple c hc))

  -- the product is additive in each factor, and takes multiples out of each
  pub product-add : (a b c : List E) → IsTuple o n a → IsTuple o n b → IsTuple o n c
      → product o n cs a (tuple_add o n b c) ≡ tuple_add o n (product o n cs a b) (product o n cs a c)
  product-add a b c ha hb hc =
      let x = as_tuple a ha in
      let y = as_tuple b hb in
      let z = as_tuple c hc in
      sym (tuple_product-list x (M.◌⊕◌ y z) ∙ ap (λ t. product o n cs a t) (tuples-add o L n y z))
      ∙ ap (λ (t : Tuple o n). t.0) (tuple_product.mul-add x y z)
      ∙ tuples-add o L n (mul x y) (mul x z)
      ∙ ap₂ (λ s t. tuple_add o n s t) (tuple_product-list x y) (tuple_product-list x z)

  pub add-product : (a b c : List E) → IsTuple o n a → IsTuple o n b → IsTuple o n c
      → product o n cs (tuple_add o n a b) c ≡ tuple_add o n (product o n cs a c) (product o n cs b c)
  add-product a b c ha hb hc =
      let x = as_tuple a ha in
      let y = as_tuple b hb in
      let z = as_tuple c hc in
      sym (tuple_product-list (M.◌⊕◌ x y) z ∙ ap (λ t. product o n cs t c) (tuples-add o L n x y))
      ∙ ap (λ (t : Tuple o n). t.0) (tuple_product.add-mul x y z)
      ∙ tuples-add o L n (mul x z) (mul y z)
      ∙ ap₂ (λ s t. tuple_add o n s t) (tuple_product-list x z) (tuple_product-list y z)

  pub scale-product : (s : E) (a b : List E) → IsElem o s → IsTuple o n a → IsTuple o n b
      → product o n cs (tuple_scale o n s a) b ≡ tuple_scale o n s (product o n cs a b)
  scale-product s a b hs ha hb =
      let x = as_tuple a ha in
      let y = as_tuple b hb in
      let t : Elem o = (s, hs) in
      sym (tuple_product-list (M.◌•◌ t x) y ∙ ap (λ z. product o n cs z b) (tuples-scale o L n t x))
      ∙ ap (λ (z : Tuple o n). z.0) (tuple_product.scale-left t x y)
      ∙ tuples-scale o L n t (mul x y) ∙ ap (λ z. tuple_scale o n s z) (tuple_product-list x y)

  pub product-scale : (s : E) (a b : List E) → IsElem o s → IsTuple o n a → IsTuple o n b
      → product o n cs a (tuple_scale o n s b) ≡ tuple_scale o n s (product o n cs a b)
  product-scale s a b hs ha hb =
      let x = as_tuple a ha in
      let y = as_tuple b hb in
      let t : Elem o = (s, hs) in
      sym (tuple_product-list x (M.◌•◌ t y) ∙ ap (λ z. product o n cs a z) (tuples-scale o L n t y))
      ∙ ap (λ (z : Tuple o n). z.0) (tuple_product.scale-right t x y)
      ∙ tuples-scale o L n t (mul x y) ∙ ap (λ z. tuple_scale o n s z) (tuple_product-list x y)

  abbrev e : ℕ → Tuple o n
  e i = unit M n S i

  e-list : (i : ℕ) → (e i).0 ≡ basis o n i
  e-list i = unit-basis o L n i

  pub IsTuple-basis : (i : ℕ) → IsTuple o n (basis o n i)
  IsTuple-basis i = let h = is_tuple-IsTuple o n (e i).0 (e i).1 in rw (← (e-list i)) h

  -- the products of the basis vectors, as lists
  basis-products : (i j : ℕ) → (mul (e i) (e j)).0 ≡ product o n cs (basis o n i) (basis o n j)
  basis-products i j = tuple_product-list (e i) (e j) ∙ ap₂ (λ s t. product o n cs s t) (e-list i) (e-list j)

  -- these are the structure constants
  pub product_basis : (i j : ℕ) → i < n → j < n
      → product o n cs (basis o n i) (basis o n j) ≡ table n (λ k. constant o n cs i j k)
  unfolding tuple_space
  product_basis i j a b = sym (basis-products i j)
      ∙ IsTuple-ext o n (mul (e i) (e j)).0 (table n (λ k. constant o n cs i j k))
      (is_tuple-IsTuple o n (mul (e i) (e j)).0 (mul (e i) (e j)).1)
      (IsTuple-table o n (λ k. constant o n cs i j k) (λ k l. (element_constant i j k).1))
      (λ k l. ap (λ (x : Elem o). x.0) (coord-unit_mul K.cring M n S element_constant i j k a b l)
      ∙ sym (at-table o n (λ k. constant o n cs i j k) k l))

  -- where the products of the basis vectors are associative, those of all tuples are
  pub tuple_product_assoc : AssociativeTable o n cs → (x y z : Tuple o n) → mul (mul x y) z ≡ mul x (mul y z)
  tuple_product_assoc h = associative_of_basis M tuple_product n (unit M n S) (in_units M n S) (λ i j k a b c.
      Tuple-path o L n (mul (mul (e i) (e j)) (e k)) (mul (e i) (mul (e j) (e k)))
      (tuple_product-list (mul (e i) (e j)) (e k) ∙ ap₂ (λ s t. product o n cs s t) (basis-products i j) (e-list k)
      ∙ h i j k a b c
      ∙ sym (tuple_product-list (e i) (mul (e j) (e k))
      ∙ ap₂ (λ s t. product o n cs s t) (e-list i) (basis-products j k))))

  pub product_assoc : AssociativeTable o n cs → (a b c : List E) → IsTuple o n a → IsTuple o n b → IsTuple o n c
      → product o n cs (product o n cs a b) c ≡ product o n cs a (product o n cs b c)
  product_assoc h a b c ha hb hc = sym (product_from a b c ha hb hc)
      ∙ ap (λ (t : Tuple o n). t.0) (tuple_product_assoc h (as_tuple a ha) (as_tuple b hb) (as_tuple c hc))
      ∙ product_into a b c ha hb hc

  module _ (one : List E) (h : IsTableOne o n cs one) where
    abbrev u : Tuple o n
    u = as_tuple one h.tuple

    pub tuple_one-mul : (x : Tuple o n) → mul u x ≡ x
    tuple_one-mul = one-mul_of_basis M tuple_product n (unit M n S) (in_units M n S) u (λ i l.
        Tuple-path o L n (mul u (e i)) (e i)
        (tuple_product-list u (e i) ∙ ap (λ t. product o n cs one t) (e-list i) ∙ h.one-mul i l ∙ sym (e-list i)))

    pub tuple_mul-one : (x : Tuple o n) → mul x u ≡ x
    tuple_mul-one = mul-one_of_basis M tuple_product n (unit M n S) (in_units M n S) u (λ i l.
        Tuple-path o L n (mul (e i) u) (e i)
        (tuple_product-list (e i) u ∙ ap (λ t. product o n cs t one) (e-list i) ∙ h.mul-one i l ∙ sym (e-list i)))

    -- what is a one for the basis vectors is one for all tuples
    pub one-product : (a : List E) → IsTuple o n a → product o n cs one a ≡ a
    one-product a ha = sym (tuple_product-list u (as_tuple a ha))
        ∙ ap (λ (t : Tuple o n). t.0) (tuple_one-mul (as_tuple a ha))

    pub product-one : (a : List E) → IsTuple o n a → product o n cs a one ≡ a
    product-one a ha = sym (tuple_product-list (as_tuple a ha) u)
        ∙ ap (λ (t : Tuple o n). t.0) (tuple_mul-one (as_tuple a ha))

    -- an associative table with a one makes the tuples an algebra
    unfoldable pub tuple_algebra : AssociativeTable o n cs → AlgebraOn K.ring (Tuple o n)
    tuple_algebra assoc = algebra_of M tuple_product (tuple_product_assoc assoc) u tuple_one-mul tuple_mul-one

    pub tuple_algebra_is : (assoc : AssociativeTable o n cs) → IsTableAlgebra o L n cs (tuple_algebra assoc)
    unfolding tuple_algebra
    tuple_algebra_is assoc = record {
      zero-is = tuples-zero o L n;
      add-is = tuples-add o L n;
      neg-is = tuples-neg o L n;
      scale-is = tuples-scale o L n;
      product-is = tuple_product-list;
    }

    pub tuple_basis : (assoc : AssociativeTable o n cs) → Basis (module_of (tuple_algebra assoc)) n
    unfolding tuple_algebra
    tuple_basis assoc = space_basis M n S

  -- what commutes with the basis vectors commutes with all tuples
  pub product_comm_of_basis : (a : List E) → IsTuple o n a
      → ((i : ℕ) → i < n → product o n cs a (basis o n i) ≡ product o n cs (basis o n i) a)
      → (b : List E) → IsTuple o n b → product o n cs a b ≡ product o n cs b a
  product_comm_of_basis a ha h b hb =
      let x = as_tuple a ha in
      let y = as_tuple b hb in
      sym (tuple_product-list x y)
      ∙ ap (λ (t : Tuple o n). t.0) (central_of_basis M tuple_product n (unit M n S) (in_units M n S) x (λ i l.
      Tuple-path o L n (mul x (e i)) (mul (e i) x)
      (tuple_product-list x (e i) ∙ ap (λ t. product o n cs a t) (e-list i) ∙ h i l
      ∙ sym (tuple_product-list (e i) x ∙ ap (λ t. product o n cs t a) (e-list i)))) y)
      ∙ tuple_product-list y x
