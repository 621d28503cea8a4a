-- The reduction of an order at a place: the coordinates by its basis, and their residues.
use Rattle.std.specs.Prelude.{◌≡◌, ℕ, zero, suc, ◌<◌, Bool, true, false, cond, eqb}
use Rattle.std.proofs.Common.{sym, ◌∙◌, ap, ap₂, subst, arith}
use Rattle.theory_rings.specs.Ring.{RingOn, FieldOn}
use Rattle.theory_rings.specs.Sum.{sum}
use Rattle.theory_rings.proofs.Rings.RingLaws.{mul-zero}
use Rattle.theory_rings.proofs.Sums.Sums.{sum_congr, mul-sum}
use Rattle.theory_spaces.specs.Module.{ModuleOn, AlgebraOn, module_of}
use Rattle.theory_spaces.specs.Linear.{comb, Coords, Basis}
use Rattle.theory_spaces.specs.Matrix.{delta}
use Rattle.theory_spaces.specs.Space.{ProductOn, product_on, sum2}
use Rattle.theory_spaces.specs.Valuation.{ValuationOn}
use Rattle.theory_spaces.proofs.Linear.Modules.{map-comb, comb_congr}
use Rattle.theory_spaces.proofs.Linear.IndependentVectors.{comb-delta}
use Rattle.theory_spaces.proofs.Linear.Spaces.{coords_of, coord-comb, Basis-coord}
use Rattle.theory_spaces.proofs.Tuples.Tables.{sum2_congr, product_left, product_right}
use Rattle.theory_orders.specs.Uniformizer.{IsIntegral, UniformizerOn}
use Rattle.theory_orders.specs.Orders.{IsOrder, Multiple}
use Rattle.theory_orders.specs.Lattices.{Lattice}
use Rattle.theory_spaces.proofs.Linear.LatticeTests.{integral_weights}
use Rattle.theory_orders.proofs.Lattices.Multiples.{Multiple-of}
use Rattle.theory_residue.specs.Residue.{ResidueOn}
use Rattle.theory_spaces.proofs.Linear.LatticeSpans.{lattice-scale, lattice-member}

-- the coordinates of a product, by those of the products of the vectors of a basis
module _ {K V : Type 0} {R : RingOn K} (M : ModuleOn R V) (P : ProductOn M) (n : ℕ) (B : Basis M n) where
  infixl 70 ◌⊗◌
  open P use {◌⊗◌}

  abbrev C : Coords M n
  C = coords_of M n B

  pub coord-product : (x y : V) (l : ℕ) → B.coord (x ⊗ y) l ≡ sum2 R n
      (λ i j. R.◌⊗◌ (R.◌⊗◌ (B.coord x i) (B.coord y j)) (B.coord (B.vec i ⊗ B.vec j) l))
  coord-product x y l =
      ap (λ z. B.coord z l) (ap (λ z. z ⊗ y) (B.expand x)
      ∙ map-comb M M (λ z. z ⊗ y) (product_right M P y) n (B.coord x) B.vec)
      ∙ coord-comb M n C n (B.coord x) (λ i. B.vec i ⊗ y) l
      ∙ sum_congr R.monoid n (λ i. R.◌⊗◌ (B.coord x i) (B.coord (B.vec i ⊗ y) l))
      (λ i. sum R.monoid n (λ j. R.◌⊗◌ (R.◌⊗◌ (B.coord x i) (B.coord y j)) (B.coord (B.vec i ⊗ B.vec j) l)))
      (λ i _. ap (λ a. R.◌⊗◌ (B.coord x i) a)
      (ap (λ z. B.coord z l) (ap (λ z. B.vec i ⊗ z) (B.expand y)
      ∙ map-comb M M (λ z. B.vec i ⊗ z) (product_left M P (B.vec i)) n (B.coord y) B.vec)
      ∙ coord-comb M n C n (B.coord y) (λ j. B.vec i ⊗ B.vec j) l)
      ∙ mul-sum R n (B.coord x i) (λ j. R.◌⊗◌ (B.coord y j) (B.coord (B.vec i ⊗ B.vec j) l))
      ∙ sum_congr R.monoid n (λ j. R.◌⊗◌ (B.coord x i) (R.◌⊗◌ (B.coord y j) (B.coord (B.vec i ⊗ B.vec j) l)))
      (λ j. R.◌⊗◌ (R.◌⊗◌ (B.coord x i) (B.coord y j)) (B.coord (B.vec i ⊗ B.vec j) l))
      (λ j _. sym (R.mul_assoc (B.coord x i) (B.coord y j) (B.coord (B.vec i ⊗ B.vec j) l))))

module _ {K V : Type 0} {R : RingOn K} (M : ModuleOn R V) (n : ℕ) (B : Basis M n) where
  pub basis_ext : (x y : V) → ((i : ℕ) → i < n → B.coord x i ≡ B.coord y i) → x ≡ y
  basis_ext x y h = B.expand x ∙ comb_congr M n (B.coord x) (B.coord y) B.vec h ∙ sym (B.expand y)

  pub coord-vec : (i l : ℕ) → i < n → l < n → B.coord (B.vec i) l ≡ delta R i l
  coord-vec i l a b = ap (λ x. B.coord x l) (sym (comb-delta M n i B.vec a)) ∙ Basis-coord M n B (delta R i) l b

module _ {K E : Type 0} (F : FieldOn K) (Z : ValuationOn F) (q : K) (k : FieldOn E) (D : ResidueOn F Z q k) where
  abbrev In : K → Type 0
  In a = IsIntegral F Z a

  pub res-zero : D.res F.zero ≡ k.zero
  res-zero = (D.kernel F.zero Z.zero_in).1 (let P : K → Type 0 = In in subst P (sym (mul-zero F.ring q)) Z.zero_in)

  pub integral-sum : (n : ℕ) (f : ℕ → K) → ((i : ℕ) → i < n → In (f i)) → In (sum F.monoid n f)
  integral-sum zero f h = Z.zero_in
  integral-sum (suc n) f h = Z.add_in (sum F.monoid n f) (f n) (integral-sum n f (λ i l. h i (omega arith)))
      (h n (omega arith))

  pub res-sum : (n : ℕ) (f : ℕ → K) → ((i : ℕ) → i < n → In (f i))
      → D.res (sum F.monoid n f) ≡ sum k.monoid n (λ i. D.res (f i))
  res-sum zero f h = res-zero
  res-sum (suc n) f h =
      D.map-add (sum F.monoid n f) (f n) (integral-sum n f (λ i l. h i (omega arith))) (h n (omega arith))
      ∙ ap (λ a. k.◌⊕◌ a (D.res (f n))) (res-sum n f (λ i l. h i (omega arith)))

  pub res-sum2 : (n : ℕ) (f : ℕ → ℕ → K) → ((i j : ℕ) → i < n → j < n → In (f i j))
      → D.res (sum2 F.ring n f) ≡ sum2 k.ring n (λ i j. D.res (f i j))
  res-sum2 n f h =
      res-sum n (λ i. sum F.monoid n (f i)) (λ i a. integral-sum n (f i) (λ j b. h i j a b))
      ∙ sum_congr k.monoid n (λ i. D.res (sum F.monoid n (f i))) (λ i. sum k.monoid n (λ j. D.res (f i j)))
      (λ i a. res-sum n (f i) (λ j b. h i j a b))

  pub res-delta : (i j : ℕ) → D.res (delta F.ring i j) ≡ delta k.ring i j
  res-delta i j = go (eqb i j)
    where
      go : (b : Bool) → D.res (cond b F.one F.zero) ≡ cond b k.one k.zero
      go true = D.map-one
      go false = res-zero

module _ {K E V W : Type 0} (F : FieldOn K) (Z : ValuationOn F) (p q : K) (U : UniformizerOn F Z p q) (k : FieldOn E)
    (D : ResidueOn F Z q k)
    (A : AlgebraOn F.ring V) (n : ℕ) (b : Basis (module_of A) n) (O : IsOrder A (Lattice F Z A n b.vec))
    (M : ModuleOn k.ring W) (w : Basis M n) where
  infixl 65 ◌⊕◌
  infixl 70 ◌⊗◌
  infixl 70 ◌•◌
  open A use {◌⊕◌, ◌⊗◌, ◌•◌}
  open D use {res}

  abbrev v : ℕ → V
  v = b.vec

  abbrev MA : ModuleOn F.ring V
  MA = module_of A

  abbrev L : V → Type 0
  L = Lattice F Z A n v

  pub coord_in : (x : V) → L x → (i : ℕ) → i < n → IsIntegral F Z (b.coord x i)
  coord_in x s = integral_weights F Z MA n v b.independent x s (b.coord x) (b.expand x)

  pub of_coords : (x : V) → ((i : ℕ) → i < n → IsIntegral F Z (b.coord x i)) → L x
  of_coords x h = record { weights = b.coord x; passes = h; combines = b.expand x }

  vec_in : (i : ℕ) → i < n → L (v i)
  vec_in i l = lattice-member F Z MA n i v l

  unfoldable pub red : V → W
  red x = comb M n (λ i. res (b.coord x i)) w.vec

  pub coord-red : (x : V) (i : ℕ) → i < n → w.coord (red x) i ≡ res (b.coord x i)
  unfolding red
  coord-red x i l = Basis-coord M n w (λ i. res (b.coord x i)) i l

  unfoldable pub lift : W → V
  lift y = comb MA n (λ i. D.lift (w.coord y i)) v

  coord-lift : (y : W) (i : ℕ) → i < n → b.coord (lift y) i ≡ D.lift (w.coord y i)
  unfolding lift
  coord-lift y i l = Basis-coord MA n b (λ i. D.lift (w.coord y i)) i l

  pub lift_in : (y : W) → L (lift y)
  lift_in y = of_coords (lift y) (λ i l. let P : K → Type 0 = IsIntegral F Z in
      subst P (sym (coord-lift y i l)) (D.lift_in (w.coord y i)))

  pub red-lift : (y : W) → red (lift y) ≡ y
  red-lift y = basis_ext M n w (red (lift y)) y
      (λ i l. coord-red (lift y) i l ∙ ap res (coord-lift y i l) ∙ D.res-lift (w.coord y i))

  pub red-comb : (c : ℕ → K) → red (comb MA n c v) ≡ comb M n (λ i. res (c i)) w.vec
  unfolding red
  red-comb c = comb_congr M n (λ i. res (b.coord (comb MA n c v) i)) (λ i. res (c i)) w.vec
      (λ i l. ap res (Basis-coord MA n b c i l))

  pub red-add : (x y : V) → L x → L y → red (x ⊕ y) ≡ M.◌⊕◌ (red x) (red y)
  red-add x y hx hy = basis_ext M n w (red (x ⊕ y)) (M.◌⊕◌ (red x) (red y)) (λ i l.
      coord-red (x ⊕ y) i l ∙ ap res (b.coord-add x y i)
      ∙ D.map-add (b.coord x i) (b.coord y i) (coord_in x hx i l) (coord_in y hy i l)
      ∙ ap₂ k.◌⊕◌ (sym (coord-red x i l)) (sym (coord-red y i l)) ∙ sym (w.coord-add (red x) (red y) i))

  pub red-scale : (a : K) (x : V) → IsIntegral F Z a → L x → red (a • x) ≡ M.◌•◌ (res a) (red x)
  red-scale a x ha hx = basis_ext M n w (red (a • x)) (M.◌•◌ (res a) (red x)) (λ i l.
      coord-red (a • x) i l ∙ ap res (b.coord-scale a x i) ∙ D.map-mul a (b.coord x i) ha (coord_in x hx i l)
      ∙ ap (k.◌⊗◌ (res a)) (sym (coord-red x i l)) ∙ sym (w.coord-scale (res a) (red x) i))

  pub red-vec : (i : ℕ) → i < n → red (v i) ≡ w.vec i
  red-vec i a = basis_ext M n w (red (v i)) (w.vec i) (λ l c.
      coord-red (v i) l c ∙ ap res (coord-vec MA n b i l a c) ∙ res-delta F Z q k D i l ∙ sym (coord-vec M n w i l a c))

  -- it is 0 at the multiples of p alone
  pub kernel_to : (x : V) → L x → red x ≡ M.zero → Multiple A p L x
  kernel_to x h e = Multiple-of A p q U.pq (F.mul_comm q p ∙ U.pq) L x (of_coords (q • x) (λ i l.
      let z : res (b.coord x i) ≡ k.zero = sym (coord-red x i l) ∙ ap (λ y. w.coord y i) e ∙ w.coord-zero i in
      let P : K → Type 0 = IsIntegral F Z in
      subst P (sym (b.coord-scale q x i)) ((D.kernel (b.coord x i) (coord_in x h i l)).0 z)))

  pub multiple_in : (x : V) → Multiple A p L x → L x
  multiple_in x m = subst L (sym m.2) (lattice-scale F Z MA n v (p, U.p_in) m.0 m.1)

  pub kernel_from : (x : V) → Multiple A p L x → red x ≡ M.zero
  kernel_from x m = basis_ext M n w (red x) M.zero (λ i l.
      let c = b.coord m.0 i in
      let e : b.coord x i ≡ F.◌⊗◌ p c = ap (λ y. b.coord y i) m.2 ∙ b.coord-scale p m.0 i in
      let P : K → Type 0 = IsIntegral F Z in
      coord-red x i l
      ∙ (D.kernel (b.coord x i) (coord_in x (multiple_in x m) i l)).1
      (subst P (sym (ap (F.◌⊗◌ q) e ∙ sym (F.mul_assoc q p c) ∙ ap (λ a. F.◌⊗◌ a c) (F.mul_comm q p ∙ U.pq)
      ∙ F.one-mul c)) (coord_in m.0 m.1 i l))
      ∙ sym (w.coord-zero i))

  -- a product on W by the residues of the constants
  module _ (P : ProductOn M) (constants : (i j l : ℕ) → i < n → j < n → l < n
      → w.coord (P.◌⊗◌ (w.vec i) (w.vec j)) l ≡ res (b.coord (v i ⊗ v j) l)) where
    pub red-mul : (x y : V) → L x → L y → red (x ⊗ y) ≡ P.◌⊗◌ (red x) (red y)
    red-mul x y hx hy = basis_ext M n w (red (x ⊗ y)) (P.◌⊗◌ (red x) (red y)) (λ l c.
        let f : ℕ → ℕ → K = λ i j. F.◌⊗◌ (F.◌⊗◌ (b.coord x i) (b.coord y j)) (b.coord (v i ⊗ v j) l) in
        let in_xy : (i j : ℕ) → i < n → j < n → IsIntegral F Z (F.◌⊗◌ (b.coord x i) (b.coord y j)) =
        λ i j g h. Z.mul_in (b.coord x i) (b.coord y j) (coord_in x hx i g) (coord_in y hy j h) in
        let in_v : (i j : ℕ) → i < n → j < n → IsIntegral F Z (b.coord (v i ⊗ v j) l) =
        λ i j g h. coord_in (v i ⊗ v j) (O.mul_in (v i) (v j) (vec_in i g) (vec_in j h)) l c in
        coord-red (x ⊗ y) l c ∙ ap res (coord-product MA (product_on A) n b x y l)
        ∙ res-sum2 F Z q k D n f (λ i j g h. Z.mul_in (F.◌⊗◌ (b.coord x i) (b.coord y j)) (b.coord (v i ⊗ v j) l)
        (in_xy i j g h) (in_v i j g h))
        ∙ sum2_congr k.ring n (λ i j. res (f i j))
        (λ i j. k.◌⊗◌ (k.◌⊗◌ (w.coord (red x) i) (w.coord (red y) j)) (w.coord (P.◌⊗◌ (w.vec i) (w.vec j)) l))
        (λ i j g h. D.map-mul (F.◌⊗◌ (b.coord x i) (b.coord y j)) (b.coord (v i ⊗ v j) l) (in_xy i j g h) (in_v i j g h)
        ∙ ap₂ k.◌⊗◌ (D.map-mul (b.coord x i) (b.coord y j) (coord_in x hx i g) (coord_in y hy j h)
        ∙ ap₂ k.◌⊗◌ (sym (coord-red x i g)) (sym (coord-red y j h))) (sym (constants i j l g h c)))
        ∙ sym (coord-product M P n w (red x) (red y) l))

    abbrev mul : W → W → W
    mul = P.◌⊗◌

    -- the laws of the product come from those of A
    mul_lift : (x y : W) → mul x y ≡ red (lift x ⊗ lift y)
    mul_lift x y = ap₂ mul (sym (red-lift x)) (sym (red-lift y))
        ∙ sym (red-mul (lift x) (lift y) (lift_in x) (lift_in y))

    pub residue_assoc : (x y z : W) → mul (mul x y) z ≡ mul x (mul y z)
    residue_assoc x y z =
        let a = lift x in
        let c = lift y in
        let d = lift z in
        ap₂ mul (mul_lift x y) (sym (red-lift z))
        ∙ sym (red-mul (a ⊗ c) d (O.mul_in a c (lift_in x) (lift_in y)) (lift_in z))
        ∙ ap red (A.mul_assoc a c d)
        ∙ red-mul a (c ⊗ d) (lift_in x) (O.mul_in c d (lift_in y) (lift_in z))
        ∙ ap₂ mul (red-lift x) (sym (mul_lift y z))

    pub residue_one-mul : (x : W) → mul (red A.one) x ≡ x
    residue_one-mul x = ap (mul (red A.one)) (sym (red-lift x)) ∙ sym (red-mul A.one (lift x) O.one_in (lift_in x))
        ∙ ap red (A.one-mul (lift x)) ∙ red-lift x

    pub residue_mul-one : (x : W) → mul x (red A.one) ≡ x
    residue_mul-one x = ap (λ y. mul y (red A.one)) (sym (red-lift x))
        ∙ sym (red-mul (lift x) A.one (lift_in x) O.one_in) ∙ ap red (A.mul-one (lift x)) ∙ red-lift x
