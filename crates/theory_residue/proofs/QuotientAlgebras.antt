-- The quotient of an algebra by an ideal, on a space of coordinates.
use Rattle.std.specs.Prelude.{◌≡◌, ℕ, ◌+◌, ◌-◌, ◌<◌, ◌≤◌, ◌↔◌}
use Rattle.std.proofs.Common.{refl, sym, ◌∙◌, ap, ap₂, arith, ⊎_elim}
use Rattle.std.proofs.lemmas.Bool.{cases_lt}
use Rattle.theory_rings.specs.Ring.{RingOn, FieldOn}
use Rattle.theory_rings.proofs.Rings.RingLaws.{add-zero, add-neg}
use Rattle.theory_spaces.specs.Module.{ModuleOn, AlgebraOn, module_of}
use Rattle.theory_spaces.specs.Linear.{comb, InSpan, Basis, BasisOf, Extension, IsLinear}
use Rattle.theory_spaces.specs.Space.{SpaceOn, ProductOn}
use Rattle.theory_spaces.specs.Subspaces.{Whole}
use Rattle.theory_spaces.specs.Algebra.{IdealSpan}
use Rattle.theory_spaces.proofs.Linear.Families.{push, push-below, push-above, join, join-above}
use Rattle.theory_spaces.proofs.Linear.Modules.{map-neg, comb_congr, comb_congr_right, comb-push_zero, InSpan_trans}
use Rattle.theory_spaces.proofs.Linear.Spaces.{coords_of, span_basis, extend_basis, Basis-coord}
use Rattle.theory_spaces.proofs.Linear.IndependentVectors.{Independent-at_most}
use Rattle.theory_spaces.proofs.Tuples.Tables.{space_basis, algebra_of}
use Rattle.theory_radical.specs.Ideal.{IsIdeal}
use Rattle.theory_residue.specs.Residue.{ReductionOn}
use Rattle.theory_residue.specs.Semisimple.{QuotientAlgebra}

-- a linear map with representatives, whose kernel is an ideal
module _ {K V W : Type 0} {R : RingOn K} (A : AlgebraOn R V) (M : ModuleOn R W) (red : V → W)
    (linear : IsLinear (module_of A) M red)
    (lift : W → V) (red-lift : (w : W) → red (lift w) ≡ w) (J : V → Type 0) (I : IsIdeal A.ring J)
    (kernel : (x : V) → (red x ≡ M.zero) ↔ J x) where
  infixl 65 ◌⊕◌
  infixl 70 ◌⊗◌
  open A use {◌⊕◌, ◌⊗◌, neg}

  difference : (x y : V) → red x ≡ red y → J (x ⊕ neg y)
  difference x y e = (kernel (x ⊕ neg y)).0 (linear.map-add x (neg y)
      ∙ ap₂ M.◌⊕◌ e (map-neg (module_of A) M red linear y) ∙ add-neg M.additive (red y))

  again : (x y : V) → (x ⊕ neg y) ⊕ y ≡ x
  again x y = A.add_assoc x (neg y) y ∙ ap (λ z. x ⊕ z) (A.neg-add y) ∙ add-zero A.monoid x

  same_left : (x y z : V) → red x ≡ red y → red (x ⊗ z) ≡ red (y ⊗ z)
  same_left x y z e =
      let d = x ⊕ neg y in
      ap red (ap (λ t. t ⊗ z) (sym (again x y)) ∙ A.add-mul d y z) ∙ linear.map-add (d ⊗ z) (y ⊗ z)
      ∙ ap (λ t. M.◌⊕◌ t (red (y ⊗ z))) ((kernel (d ⊗ z)).1 (I.right z d tt (difference x y e)))
      ∙ M.zero-add (red (y ⊗ z))

  same_right : (x y z : V) → red x ≡ red y → red (z ⊗ x) ≡ red (z ⊗ y)
  same_right x y z e =
      let d = x ⊕ neg y in
      ap red (ap (λ t. z ⊗ t) (sym (again x y)) ∙ A.mul-add z d y) ∙ linear.map-add (z ⊗ d) (z ⊗ y)
      ∙ ap (λ t. M.◌⊕◌ t (red (z ⊗ y))) ((kernel (z ⊗ d)).1 (I.left z d tt (difference x y e)))
      ∙ M.zero-add (red (z ⊗ y))

  abbrev mul : W → W → W
  mul u w = red (lift u ⊗ lift w)

  pub mul-red : (x y : V) → red (x ⊗ y) ≡ mul (red x) (red y)
  mul-red x y = same_left x (lift (red x)) y (sym (red-lift (red x)))
      ∙ same_right y (lift (red y)) (lift (red x)) (sym (red-lift (red y)))

  -- a law with a member of W holds of the images
  pub times_right : (u : W) (y : V) → mul u (red y) ≡ red (lift u ⊗ y)
  times_right u y = same_right (lift (red y)) y (lift u) (red-lift (red y))

  pub times_left : (x : V) (w : W) → mul (red x) w ≡ red (x ⊗ lift w)
  times_left x w = same_left (lift (red x)) x (lift w) (red-lift (red x))

  abbrev pub quotient_product : ProductOn M
  quotient_product = record {
    ◌⊗◌ = mul;
    mul-add = λ x y z. ap (mul x) (ap₂ M.◌⊕◌ (sym (red-lift y)) (sym (red-lift z))
        ∙ sym (linear.map-add (lift y) (lift z)))
        ∙ times_right x (lift y ⊕ lift z) ∙ ap red (A.mul-add (lift x) (lift y) (lift z))
        ∙ linear.map-add (lift x ⊗ lift y) (lift x ⊗ lift z);
    add-mul = λ x y z. ap (λ t. mul t z) (ap₂ M.◌⊕◌ (sym (red-lift x)) (sym (red-lift y))
        ∙ sym (linear.map-add (lift x) (lift y)))
        ∙ times_left (lift x ⊕ lift y) z ∙ ap red (A.add-mul (lift x) (lift y) (lift z))
        ∙ linear.map-add (lift x ⊗ lift z) (lift y ⊗ lift z);
    scale-left = λ a x y. ap (λ t. mul t y) (ap (M.◌•◌ a) (sym (red-lift x)) ∙ sym (linear.map-scale a (lift x)))
        ∙ times_left (A.◌•◌ a (lift x)) y ∙ ap red (A.scale-left a (lift x) (lift y))
        ∙ linear.map-scale a (lift x ⊗ lift y);
    scale-right = λ a x y. ap (mul x) (ap (M.◌•◌ a) (sym (red-lift y)) ∙ sym (linear.map-scale a (lift y)))
        ∙ times_right x (A.◌•◌ a (lift y)) ∙ ap red (A.scale-right a (lift x) (lift y))
        ∙ linear.map-scale a (lift x ⊗ lift y);
  }

  pub quotient_assoc : (x y z : W) → mul (mul x y) z ≡ mul x (mul y z)
  quotient_assoc x y z = times_left (lift x ⊗ lift y) z ∙ ap red (A.mul_assoc (lift x) (lift y) (lift z))
      ∙ sym (times_right x (lift y ⊗ lift z))

  pub quotient_one-mul : (x : W) → mul (red A.one) x ≡ x
  quotient_one-mul x = times_left A.one x ∙ ap red (A.one-mul (lift x)) ∙ red-lift x

  pub quotient_mul-one : (x : W) → mul x (red A.one) ≡ x
  quotient_mul-one x = times_right x A.one ∙ ap red (A.mul-one (lift x)) ∙ red-lift x

  abbrev pub quotient_algebra : AlgebraOn R W
  quotient_algebra = algebra_of M quotient_product quotient_assoc (red A.one) quotient_one-mul quotient_mul-one

  pub quotient_reduction : ReductionOn A Whole J quotient_algebra
  quotient_reduction = record {
    red = red;
    lift = lift;
    lift_in = λ w. tt;
    red-lift = red-lift;
    map-one = refl;
    map-add = λ x y _ _. linear.map-add x y;
    map-mul = λ x y _ _. mul-red x y;
    kernel = λ x _. kernel x;
    kernel_in = λ x _. tt;
  }

-- of finite dimension: the coordinates beside those of the ideal
module _ {K V : Type 0} (F : FieldOn K) (A : AlgebraOn F.ring V) (d : ℕ) (D : Basis (module_of A) d) (W : ℕ → Type 0)
    (M : (s : ℕ) → ModuleOn F.ring (W s)) (S : (s : ℕ) → SpaceOn (M s) s)
    (m : ℕ) (g : ℕ → V) (ideal : IdealSpan A m g) where
  abbrev MA : ModuleOn F.ring V
  MA = module_of A

  module _ (r : ℕ) (u : BasisOf MA r (InSpan MA m g)) (E : Extension MA r u.vec d) (s : ℕ) (total : r + s ≡ d) where
    abbrev e : Basis MA d
    e = E.basis

    abbrev MS : ModuleOn F.ring (W s)
    MS = M s

    abbrev T : SpaceOn MS s
    T = S s

    abbrev red : V → W s
    red x = T.make (λ i. e.coord x (r + i))

    abbrev lift : W s → V
    lift w = comb MA d (join r (λ i. F.zero) (T.coord w)) e.vec

    coord-red : (x : V) (i : ℕ) → i < s → T.coord (red x) i ≡ e.coord x (r + i)
    coord-red x i l = T.coord-make (λ i. e.coord x (r + i)) i l

    linear : IsLinear MA MS red
    linear = record {
      map-add = λ x y. T.ext (red (MA.◌⊕◌ x y)) (MS.◌⊕◌ (red x) (red y))
          (λ i l. coord-red (MA.◌⊕◌ x y) i l ∙ e.coord-add x y (r + i)
          ∙ sym (T.coord-add (red x) (red y) i l ∙ ap₂ F.◌⊕◌ (coord-red x i l) (coord-red y i l)));
      map-scale = λ a x. T.ext (red (MA.◌•◌ a x)) (MS.◌•◌ a (red x))
          (λ i l. coord-red (MA.◌•◌ a x) i l ∙ e.coord-scale a x (r + i)
          ∙ sym (T.coord-scale a (red x) i l ∙ ap (F.◌⊗◌ a) (coord-red x i l)));
    }

    red-lift : (w : W s) → red (lift w) ≡ w
    red-lift w = T.ext (red (lift w)) w (λ i l. coord-red (lift w) i l
        ∙ Basis-coord MA d e (join r (λ i. F.zero) (T.coord w)) (r + i) (omega arith)
        ∙ join-above r (λ i. F.zero) (T.coord w) i)

    le : r ≤ d
    le = omega arith

    -- the vectors whose other coordinates are 0 are those of the ideal
    to_span : (x : V) → red x ≡ MS.zero → InSpan MA m g x
    to_span x z =
        let c = e.coord x in
        let zero_above : (j : ℕ) → j < d → r ≤ j → c j ≡ F.zero = λ j l b.
        let q : r + (j - r) ≡ j = omega arith in
        let a : j - r < s = omega arith in
        ap c (sym q) ∙ sym (coord-red x (j - r) a) ∙ ap (λ w. T.coord w (j - r)) z ∙ T.coord-zero (j - r) a in
        InSpan_trans MA r m u.vec g x u.inside (record {
          weights = c;
          combines = e.expand x
              ∙ comb_congr MA d c (push r F.zero c) e.vec
              (λ j l. ⊎_elim (λ (b : j < r). sym (push-below r F.zero c j b))
              (λ (b : r ≤ j). zero_above j l b ∙ sym (push-above r F.zero c j b)) (cases_lt j r))
              ∙ comb-push_zero MA r d c e.vec le ∙ comb_congr_right MA r c e.vec u.vec E.starts;
        })

    of_span : (x : V) → InSpan MA m g x → red x ≡ MS.zero
    of_span x h =
        let t = u.spans x h in
        let c = t.weights in
        let q : x ≡ comb MA d (push r F.zero c) e.vec =
        t.combines ∙ comb_congr_right MA r c u.vec e.vec (λ i l. sym (E.starts i l))
        ∙ sym (comb-push_zero MA r d c e.vec le) in
        T.ext (red x) MS.zero (λ i l. coord-red x i l ∙ ap (λ y. e.coord y (r + i)) q
        ∙ Basis-coord MA d e (push r F.zero c) (r + i) (omega arith)
        ∙ push-above r F.zero c (r + i) (omega arith) ∙ sym (T.coord-zero i l))

    quotient_of : QuotientAlgebra A (InSpan MA m g) W
    unfolding quotient_reduction
    quotient_of =
        let I = ideal in
        let kernel : (x : V) → (red x ≡ MS.zero) ↔ InSpan MA m g x = λ x. (to_span x, of_span x) in
        record {
          size = s;
          algebra = quotient_algebra A MS red linear lift red-lift (InSpan MA m g) I kernel;
          basis = space_basis MS s T;
          reduction = quotient_reduction A MS red linear lift red-lift (InSpan MA m g) I kernel;
          map-scale = linear.map-scale;
        }

  pub quotient_exists : QuotientAlgebra A (InSpan MA m g) W
  quotient_exists =
      let b = span_basis F MA d (coords_of MA d D) m g in
      let r = b.0 in
      let l = Independent-at_most F MA d D r b.1.vec b.1.independent in
      quotient_of r b.1 (extend_basis F MA d D r b.1.vec b.1.independent) (d - r) (omega arith)
