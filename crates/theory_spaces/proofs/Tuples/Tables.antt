-- Spaces of coordinates, products by structure constants, and what follows for all vectors from the vectors of a basis.
use Rattle.std.specs.Prelude.{◌≡◌, ℕ, zero, suc, ◌<◌}
use Rattle.std.proofs.Common.{sym, ◌∙◌, ap, ap₂}
use Rattle.theory_rings.specs.Ring.{RingOn, CommRingOn}
use Rattle.theory_rings.specs.Sum.{sum}
use Rattle.theory_rings.proofs.Rings.Semirings.{semiring, mul_left_comm}
use Rattle.theory_rings.proofs.Sums.Sums.{sum_congr, sum-add, mul-sum}
use Rattle.theory_spaces.specs.Module.{ModuleOn, AlgebraOn}
use Rattle.theory_spaces.specs.Linear.{comb, InSpan, Independent, Basis, IsLinear}
use Rattle.theory_spaces.specs.Matrix.{delta}
use Rattle.theory_spaces.specs.Space.{SpaceOn, ProductOn, sum2, table_product}
use Rattle.theory_spaces.proofs.Linear.Families.{push-below}
use Rattle.theory_spaces.proofs.Linear.Modules.{linear_ext, linear_comp, linear_id}
use Rattle.theory_spaces.proofs.Linear.Spaces.{basis_of}
use Rattle.theory_spaces.proofs.Matrices.Matrices.{delta_comm, sum-mul_delta, sum-delta_mul}

module _ {K : Type 0} (R : RingOn K) where
  infixl 65 ◌⊕◌
  infixl 70 ◌⊗◌
  open R use {monoid, ◌⊕◌, ◌⊗◌}

  pub sum2_congr : (n : ℕ) (f g : ℕ → ℕ → K) → ((i j : ℕ) → i < n → j < n → f i j ≡ g i j) → sum2 R n f ≡ sum2 R n g
  sum2_congr n f g h = sum_congr monoid n (λ i. sum monoid n (f i)) (λ i. sum monoid n (g i))
      (λ i l. sum_congr monoid n (f i) (g i) (λ j k. h i j l k))

  pub sum2-add : (n : ℕ) (f g : ℕ → ℕ → K) → sum2 R n (λ i j. f i j ⊕ g i j) ≡ sum2 R n f ⊕ sum2 R n g
  sum2-add n f g = sum_congr monoid n (λ i. sum monoid n (λ j. f i j ⊕ g i j))
      (λ i. sum monoid n (f i) ⊕ sum monoid n (g i)) (λ i l. sum-add monoid n (f i) (g i))
      ∙ sum-add monoid n (λ i. sum monoid n (f i)) (λ i. sum monoid n (g i))

  pub mul-sum2 : (n : ℕ) (a : K) (f : ℕ → ℕ → K) → a ⊗ sum2 R n f ≡ sum2 R n (λ i j. a ⊗ f i j)
  mul-sum2 n a f = mul-sum R n a (λ i. sum monoid n (f i))
      ∙ sum_congr monoid n (λ i. a ⊗ sum monoid n (f i)) (λ i. sum monoid n (λ j. a ⊗ f i j))
      (λ i l. mul-sum R n a (f i))

-- a space of coordinates has a basis
module _ {K V : Type 0} {R : RingOn K} (M : ModuleOn R V) (n : ℕ) (S : SpaceOn M n) where
  infixl 65 ◌⊕◌
  infixl 70 ◌•◌
  open M use {◌⊕◌, ◌•◌}

  -- the vector with coordinate i one, and else zero
  unfoldable pub unit : ℕ → V
  unit i = S.make (λ k. delta R k i)

  pub coord-unit : (i k : ℕ) → k < n → S.coord (unit i) k ≡ delta R k i
  unfolding unit
  coord-unit i k l = S.coord-make (λ k. delta R k i) k l

  pub coord-sum : (m : ℕ) (f : ℕ → V) (k : ℕ) → k < n
      → S.coord (sum M.monoid m f) k ≡ sum R.monoid m (λ j. S.coord (f j) k)
  coord-sum zero f k l = S.coord-zero k l
  coord-sum (suc m) f k l = S.coord-add (sum M.monoid m f) (f m) k l
      ∙ ap (λ a. R.◌⊕◌ a (S.coord (f m) k)) (coord-sum m f k l)

  pub coord-comb_unit : (c : ℕ → K) (k : ℕ) → k < n → S.coord (comb M n c unit) k ≡ c k
  coord-comb_unit c k l = coord-sum n (λ j. c j • unit j) k l
      ∙ sum_congr R.monoid n (λ j. S.coord (c j • unit j) k) (λ j. R.◌⊗◌ (c j) (delta R j k))
      (λ j _. S.coord-scale (c j) (unit j) k l ∙ ap (λ a. R.◌⊗◌ (c j) a) (coord-unit j k l ∙ delta_comm R k j))
      ∙ sum-mul_delta R n c k l

  pub space_expand : (x : V) → x ≡ comb M n (S.coord x) unit
  space_expand x = S.ext x (comb M n (S.coord x) unit) (λ k l. sym (coord-comb_unit (S.coord x) k l))

  pub units_independent : Independent M n unit
  units_independent = record {
    only_zero = λ c e i l. sym (coord-comb_unit c i l) ∙ ap (λ x. S.coord x i) e
        ∙ S.coord-zero i l;
  }

  abbrev pub in_units : (x : V) → InSpan M n unit x
  in_units x = record { weights = S.coord x; combines = space_expand x }

  -- the basis of the unit vectors, whose coordinates are the space's, and zero from n on
  abbrev pub space_basis : Basis M n
  space_basis = basis_of M n unit units_independent in_units

  pub space_basis-coord : (x : V) (k : ℕ) → k < n → space_basis.coord x k ≡ S.coord x k
  space_basis-coord x k l = push-below n R.zero (S.coord x) k l

-- the product by structure constants is linear in each factor
module _ {K V : Type 0} (C : CommRingOn K) (M : ModuleOn C.ring V) (n : ℕ) (S : SpaceOn M n) (g : ℕ → ℕ → ℕ → K) where
  infixl 65 ◌⊕◌
  infixl 70 ◌⊗◌
  infixl 70 ◌•◌
  open M use {◌⊕◌, ◌•◌}
  open C use {◌⊗◌}

  unfoldable term : V → V → ℕ → ℕ → ℕ → K
  term x y k i j = S.coord x i ⊗ S.coord y j ⊗ g i j k

  unfoldable pub table_mul : V → V → V
  table_mul x y = table_product M n S g x y

  table_mul-term : (x y : V) (k : ℕ) → k < n → S.coord (table_mul x y) k ≡ sum2 C.ring n (term x y k)
  unfolding term table_mul
  table_mul-term x y k l = S.coord-make (λ k. sum2 C.ring n (term x y k)) k l

  pub coord-table_mul : (x y : V) (k : ℕ) → k < n
      → S.coord (table_mul x y) k ≡ sum2 C.ring n (λ i j. S.coord x i ⊗ S.coord y j ⊗ g i j k)
  unfolding term
  coord-table_mul x y k l = table_mul-term x y k l

  -- equal where the coordinates are sums that agree term by term
  pub table_mul-add : (x y z : V) → table_mul x (y ⊕ z) ≡ table_mul x y ⊕ table_mul x z
  unfolding term
  table_mul-add x y z = S.ext (table_mul x (y ⊕ z)) (table_mul x y ⊕ table_mul x z) (λ k l. table_mul-term x (y ⊕ z) k l
      ∙ sum2_congr C.ring n (term x (y ⊕ z) k) (λ i j. C.◌⊕◌ (term x y k i j) (term x z k i j)) (λ i j a b.
      ap (λ c. c ⊗ g i j k)
      (ap (λ c. S.coord x i ⊗ c) (S.coord-add y z j b) ∙ C.mul-add (S.coord x i) (S.coord y j) (S.coord z j))
      ∙ C.add-mul (S.coord x i ⊗ S.coord y j) (S.coord x i ⊗ S.coord z j) (g i j k))
      ∙ sum2-add C.ring n (term x y k) (term x z k)
      ∙ sym (S.coord-add (table_mul x y) (table_mul x z) k l
      ∙ ap₂ C.◌⊕◌ (table_mul-term x y k l) (table_mul-term x z k l)))

  pub add-table_mul : (x y z : V) → table_mul (x ⊕ y) z ≡ table_mul x z ⊕ table_mul y z
  unfolding term
  add-table_mul x y z = S.ext (table_mul (x ⊕ y) z) (table_mul x z ⊕ table_mul y z) (λ k l. table_mul-term (x ⊕ y) z k l
      ∙ sum2_congr C.ring n (term (x ⊕ y) z k) (λ i j. C.◌⊕◌ (term x z k i j) (term y z k i j)) (λ i j a b.
      ap (λ c. c ⊗ g i j k)
      (ap (λ c. c ⊗ S.coord z j) (S.coord-add x y i a) ∙ C.add-mul (S.coord x i) (S.coord y i) (S.coord z j))
      ∙ C.add-mul (S.coord x i ⊗ S.coord z j) (S.coord y i ⊗ S.coord z j) (g i j k))
      ∙ sum2-add C.ring n (term x z k) (term y z k)
      ∙ sym (S.coord-add (table_mul x z) (table_mul y z) k l
      ∙ ap₂ C.◌⊕◌ (table_mul-term x z k l) (table_mul-term y z k l)))

  pub scale-table_mul : (c : K) (x y : V) → table_mul (c • x) y ≡ c • table_mul x y
  unfolding term
  scale-table_mul c x y = S.ext (table_mul (c • x) y) (c • table_mul x y) (λ k l. table_mul-term (c • x) y k l
      ∙ sum2_congr C.ring n (term (c • x) y k) (λ i j. c ⊗ term x y k i j) (λ i j a b.
      ap (λ d. d ⊗ S.coord y j ⊗ g i j k) (S.coord-scale c x i a)
      ∙ ap (λ d. d ⊗ g i j k) (C.mul_assoc c (S.coord x i) (S.coord y j))
      ∙ C.mul_assoc c (S.coord x i ⊗ S.coord y j) (g i j k))
      ∙ sym (mul-sum2 C.ring n c (term x y k))
      ∙ sym (S.coord-scale c (table_mul x y) k l ∙ ap (λ d. c ⊗ d) (table_mul-term x y k l)))

  pub table_mul-scale : (c : K) (x y : V) → table_mul x (c • y) ≡ c • table_mul x y
  unfolding term
  table_mul-scale c x y = S.ext (table_mul x (c • y)) (c • table_mul x y) (λ k l. table_mul-term x (c • y) k l
      ∙ sum2_congr C.ring n (term x (c • y) k) (λ i j. c ⊗ term x y k i j) (λ i j a b.
      ap (λ d. S.coord x i ⊗ d ⊗ g i j k) (S.coord-scale c y j b)
      ∙ ap (λ d. d ⊗ g i j k) (mul_left_comm (semiring C) (S.coord x i) c (S.coord y j))
      ∙ C.mul_assoc c (S.coord x i ⊗ S.coord y j) (g i j k))
      ∙ sym (mul-sum2 C.ring n c (term x y k))
      ∙ sym (S.coord-scale c (table_mul x y) k l ∙ ap (λ d. c ⊗ d) (table_mul-term x y k l)))

  abbrev pub table_on : ProductOn M
  table_on = record {
    ◌⊗◌ = table_mul;
    mul-add = table_mul-add;
    add-mul = add-table_mul;
    scale-left = scale-table_mul;
    scale-right = table_mul-scale;
  }

  -- the products of the unit vectors are the structure constants
  pub coord-unit_mul : (i j k : ℕ) → i < n → j < n → k < n
      → S.coord (table_mul (unit M n S i) (unit M n S j)) k ≡ g i j k
  coord-unit_mul i j k a b c = coord-table_mul (unit M n S i) (unit M n S j) k c
      ∙ sum2_congr C.ring n (λ s t. S.coord (unit M n S i) s ⊗ S.coord (unit M n S j) t ⊗ g s t k)
      (λ s t. delta C.ring i s ⊗ (delta C.ring j t ⊗ g s t k))
      (λ s t h l. ap₂ (λ x y. x ⊗ y ⊗ g s t k) (coord-unit M n S i s h ∙ delta_comm C.ring s i)
      (coord-unit M n S j t l ∙ delta_comm C.ring t j)
      ∙ C.mul_assoc (delta C.ring i s) (delta C.ring j t) (g s t k))
      ∙ sum_congr C.monoid n (λ s. sum C.monoid n (λ t. delta C.ring i s ⊗ (delta C.ring j t ⊗ g s t k)))
      (λ s. delta C.ring i s ⊗ sum C.monoid n (λ t. delta C.ring j t ⊗ g s t k))
      (λ s _. sym (mul-sum C.ring n (delta C.ring i s) (λ t. delta C.ring j t ⊗ g s t k)))
      ∙ sum-delta_mul C.ring n (λ s. sum C.monoid n (λ t. delta C.ring j t ⊗ g s t k)) i a
      ∙ sum-delta_mul C.ring n (λ t. g i t k) j b

-- laws of a product that hold of a basis hold of all vectors
module _ {K V : Type 0} {R : RingOn K} (M : ModuleOn R V) (P : ProductOn M) where
  infixl 70 ◌⊗◌
  open P use {◌⊗◌}

  pub product_left : (x : V) → IsLinear M M (λ y. x ⊗ y)
  product_left x = record { map-add = P.mul-add x; map-scale = λ a y. P.scale-right a x y }

  pub product_right : (y : V) → IsLinear M M (λ x. x ⊗ y)
  product_right y = record { map-add = λ x z. P.add-mul x z y; map-scale = λ a x. P.scale-left a x y }

  module _ (n : ℕ) (v : ℕ → V) (spans : (x : V) → InSpan M n v x) where
    pub associative_of_basis : ((i j k : ℕ) → i < n → j < n → k < n → v i ⊗ v j ⊗ v k ≡ v i ⊗ (v j ⊗ v k))
        → (x y z : V) → x ⊗ y ⊗ z ≡ x ⊗ (y ⊗ z)
    associative_of_basis h x y z = first x
      where
        last : (i j : ℕ) → i < n → j < n → (z : V) → v i ⊗ v j ⊗ z ≡ v i ⊗ (v j ⊗ z)
        last i j a b z = linear_ext M M (λ z. v i ⊗ v j ⊗ z) (λ z. v i ⊗ (v j ⊗ z)) (product_left (v i ⊗ v j))
            (linear_comp M M M (λ y. v i ⊗ y) (λ z. v j ⊗ z) (product_left (v i)) (product_left (v j))) n v
            (λ k c. h i j k a b c) z (spans z)

        middle : (i : ℕ) → i < n → v i ⊗ y ⊗ z ≡ v i ⊗ (y ⊗ z)
        middle i a = linear_ext M M (λ y. v i ⊗ y ⊗ z) (λ y. v i ⊗ (y ⊗ z))
            (linear_comp M M M (λ w. w ⊗ z) (λ y. v i ⊗ y) (product_right z) (product_left (v i)))
            (linear_comp M M M (λ w. v i ⊗ w) (λ y. y ⊗ z) (product_left (v i)) (product_right z)) n v
            (λ j b. last i j a b z) y (spans y)

        first : (x : V) → x ⊗ y ⊗ z ≡ x ⊗ (y ⊗ z)
        first x = linear_ext M M (λ x. x ⊗ y ⊗ z) (λ x. x ⊗ (y ⊗ z))
            (linear_comp M M M (λ w. w ⊗ z) (λ x. x ⊗ y) (product_right z) (product_right y))
            (product_right (y ⊗ z)) n v middle x (spans x)

    pub one-mul_of_basis : (e : V) → ((i : ℕ) → i < n → e ⊗ v i ≡ v i) → (x : V) → e ⊗ x ≡ x
    one-mul_of_basis e h x = linear_ext M M (λ x. e ⊗ x) (λ x. x) (product_left e) (linear_id M) n v h x (spans x)

    pub mul-one_of_basis : (e : V) → ((i : ℕ) → i < n → v i ⊗ e ≡ v i) → (x : V) → x ⊗ e ≡ x
    mul-one_of_basis e h x = linear_ext M M (λ x. x ⊗ e) (λ x. x) (product_right e) (linear_id M) n v h x (spans x)

    pub central_of_basis : (x : V) → ((i : ℕ) → i < n → x ⊗ v i ≡ v i ⊗ x) → (y : V) → x ⊗ y ≡ y ⊗ x
    central_of_basis x h y =
        linear_ext M M (λ y. x ⊗ y) (λ y. y ⊗ x) (product_left x) (product_right x) n v h y (spans y)

  -- a product with associativity and a one makes an algebra
  abbrev pub algebra_of : ((x y z : V) → x ⊗ y ⊗ z ≡ x ⊗ (y ⊗ z)) → (e : V) → ((x : V) → e ⊗ x ≡ x)
      → ((x : V) → x ⊗ e ≡ x) → AlgebraOn R V
  algebra_of assoc e left right = record {
    ring = record {
      additive = M.additive;
      one = e;
      ◌⊗◌ = P.◌⊗◌;
      mul_assoc = assoc;
      one-mul = left;
      mul-one = right;
      mul-add = P.mul-add;
      add-mul = P.add-mul;
    };
    scalars = M.scalars;
    scale-left = P.scale-left;
    scale-right = P.scale-right;
  }
