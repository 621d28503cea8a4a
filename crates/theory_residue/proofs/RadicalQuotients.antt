-- An order modulo its radical.
use Rattle.std.specs.Prelude.{◌≡◌, ℕ, zero, suc, ◌+◌, ◌*◌}
use Rattle.std.proofs.Common.{refl, sym, ◌∙◌, ap, ap₂, subst, ⊎_elim}
use Rattle.theory_rings.specs.Ring.{RingOn, FieldOn}
use Rattle.theory_rings.proofs.Rings.RingLaws.{add-zero}
use Rattle.theory_spaces.specs.Module.{ModuleOn, AlgebraOn, module_of}
use Rattle.theory_spaces.specs.Linear.{comb, InSpan, Basis, IsSubmodule, IsLinear}
use Rattle.theory_spaces.specs.Subspaces.{Whole}
use Rattle.theory_spaces.proofs.Linear.Families.{join, each_join}
use Rattle.theory_spaces.proofs.Linear.Modules.{map-comb, map-zero, map-neg, comb_congr_right, InSpan-zero, InSpan-add}
use Rattle.theory_spaces.proofs.Linear.Modules.{InSpan-scale, InSpan-member, InSpan_trans, InSpan-join_left}
use Rattle.theory_spaces.proofs.Linear.Modules.{InSpan-join_right}
use Rattle.theory_spaces.proofs.Linear.Modules.{span_in}
use Rattle.theory_rings.proofs.Rings.RingLaws.{add-neg}
use Rattle.theory_orders.specs.Orders.{IsOrder, IsIdeal, Power, SimpleByElements, Generated, Within, Same}
use Rattle.theory_orders.proofs.Ideals.Ideals.{IdealSum, IdealSum_ideal, generated_in}
use Rattle.theory_orders.proofs.Splitting.Chains.{Chain, Chain_inside, chain_in_power}
use Rattle.theory_radical.specs.Ideal.{product, ProductsVanish, IsNilpotentIdeal, IsLargestNilpotentIdeal}
use Rattle.theory_radical.specs.Ideal.{IsIdeal as IsRingIdeal}
use Rattle.theory_blocks.specs.MaximalIdeals.{HasNoNilpotentIdeal}
use Rattle.theory_residue.specs.Residue.{ReductionOn, Reduced, Lifted}
use Rattle.theory_radical.proofs.Nilpotent.NilIdeals.{product-product}
use Rattle.theory_spaces.proofs.Algebras.GeneratedIdeals.{around, around_ideal, around-self, around_within}

-- a map of an order onto an algebra, and then onto a quotient of that
module _ {K E V W X : Type 0} {R : RingOn K} {S : RingOn E} (A : AlgebraOn R V) (L N : V → Type 0) (B : AlgebraOn S W)
    (r : ReductionOn A L N B)
    (I : W → Type 0) (C : AlgebraOn S X) (s : ReductionOn B Whole I C) (J : V → Type 0)
    (same : Same (Lifted A L N B r I) J) where
  abbrev pub composed : ReductionOn A L J C
  composed = record {
    red = λ x. s.red (r.red x);
    lift = λ w. r.lift (s.lift w);
    lift_in = λ w. r.lift_in (s.lift w);
    red-lift = λ w. ap s.red (r.red-lift (s.lift w)) ∙ s.red-lift w;
    map-one = ap s.red r.map-one ∙ s.map-one;
    map-add = λ x y h g. ap s.red (r.map-add x y h g) ∙ s.map-add (r.red x) (r.red y) tt tt;
    map-mul = λ x y h g. ap s.red (r.map-mul x y h g) ∙ s.map-mul (r.red x) (r.red y) tt tt;
    kernel = λ x l. (λ e. same.0 x (l, (s.kernel (r.red x) tt).0 e), λ j. (s.kernel (r.red x) tt).1 (same.1 x j).1);
    kernel_in = λ x j. (same.1 x j).0;
  }

module _ {E W X : Type 0} (k : FieldOn E) (B : AlgebraOn k.ring W) (d : ℕ) (D : Basis (module_of B) d) (I : W → Type 0)
    (C : AlgebraOn k.ring X) (s : ReductionOn B Whole I C)
    (map-scale : (a : E) (x : W) → s.red (B.◌•◌ a x) ≡ C.◌•◌ a (s.red x)) where
  open s use {red, lift, red-lift}

  red-product : (a : ℕ → W) (n : ℕ) → red (product B.ring a n) ≡ product C.ring (λ i. red (a i)) n
  red-product a zero = s.map-one
  red-product a (suc n) = s.map-mul (a n) (product B.ring a n) tt tt ∙ ap (C.◌⊗◌ (red (a n))) (red-product a n)

  pub quotient_linear : IsLinear (module_of B) (module_of C) red
  quotient_linear = record { map-add = λ x y. s.map-add x y tt tt; map-scale = map-scale }

  -- the image of a span
  pub reduced_span : (m : ℕ) (g : ℕ → W) → Same (Reduced B Whole I C s (InSpan (module_of B) m g))
      (InSpan (module_of C) m (λ i. red (g i)))
  reduced_span m g = (
    λ w h. record {
      weights = h.1.weights;
      combines = sym h.2 ∙ ap red h.1.combines
          ∙ map-comb (module_of B) (module_of C) red quotient_linear m h.1.weights g;
    },
    λ w h. (
      comb (module_of B) m h.weights g,
      record { weights = h.weights; combines = refl },
      map-comb (module_of B) (module_of C) red quotient_linear m h.weights g ∙ sym h.combines,
    ),
  )

  module _ (S : X → Type 0) (H : IsRingIdeal C.ring S) where
    abbrev From : W → Type 0
    From y = S (red y)

    from_ideal : IsRingIdeal B.ring From
    from_ideal = record {
      inside = λ x _. tt;
      zero_in = subst S (sym (map-zero (module_of B) (module_of C) red quotient_linear)) H.zero_in;
      add_in = λ x y h g. subst S (sym (s.map-add x y tt tt)) (H.add_in (red x) (red y) h g);
      left = λ c x _ h. subst S (sym (s.map-mul c x tt tt)) (H.left (red c) (red x) tt h);
      right = λ c x _ h. subst S (sym (s.map-mul x c tt tt)) (H.right (red c) (red x) tt h);
    }

  -- where I is the largest nilpotent ideal, the quotient has none but 0
  pub none_nilpotent : IsLargestNilpotentIdeal B I → HasNoNilpotentIdeal C
  none_nilpotent H n h N i l =
      let S : X → Type 0 = InSpan (module_of C) n h in
      let x = lift (h i) in
      let T : W → Type 0 = From S N.ideal in
      let e = H.nilpotent.exponent in
      let f = N.exponent in
      let vanish : ProductsVanish B.ring T (e * f) = λ a g.
      product-product B.ring a e f ∙ H.nilpotent.vanishes (λ i. product B.ring (λ j. a (i * f + j)) f)
      (λ i. (s.kernel (product B.ring (λ j. a (i * f + j)) f) tt).0
      (red-product (λ j. a (i * f + j)) f ∙ N.vanishes (λ j. red (a (i * f + j))) (λ j. g (i * f + j)))) in
      let below = around_within B d D x T (from_ideal S N.ideal)
      (subst S (sym (red-lift (h i))) (InSpan-member (module_of C) n i h l)) in
      let nil : IsNilpotentIdeal B.ring (InSpan (module_of B) (d * d) (around B d D x)) = record {
        ideal = around_ideal B d D x;
        exponent = e * f;
        vanishes = λ a g. vanish a (λ i. below (a i) (g i));
      } in
      sym (red-lift (h i)) ∙ (s.kernel x tt).1 (H.largest (d * d) (around B d D x) nil x (around-self B d D x))

  -- what a span comes from is a span
  module _ (m : ℕ) (g : ℕ → W) (same : Same I (InSpan (module_of B) m g)) (n : ℕ) (h : ℕ → X) where
    abbrev S : X → Type 0
    S = InSpan (module_of C) n h

    abbrev MB : ModuleOn k.ring W
    MB = module_of B

    abbrev pub from_vec : ℕ → W
    from_vec = join n (λ i. lift (h i)) g

    abbrev Big : W → Type 0
    Big = InSpan MB (n + m) from_vec

    into_span : (y : W) → S (red y) → Big y
    into_span y t =
        let c = t.weights in
        let z = comb MB n c (λ i. lift (h i)) in
        let e : red y ≡ red z = t.combines ∙ sym (map-comb MB (module_of C) red quotient_linear n c (λ i. lift (h i))
        ∙ comb_congr_right (module_of C) n c (λ i. red (lift (h i))) h (λ i _. red-lift (h i))) in
        let j : I (B.◌⊕◌ y (B.neg z)) = (s.kernel (B.◌⊕◌ y (B.neg z)) tt).0 (s.map-add y (B.neg z) tt tt
        ∙ ap₂ C.◌⊕◌ e (map-neg MB (module_of C) red quotient_linear z) ∙ add-neg C.additive (red z)) in
        subst Big (B.add_assoc y (B.neg z) z ∙ ap (B.◌⊕◌ y) (B.neg-add z) ∙ add-zero B.monoid y)
        (InSpan-add MB (n + m) from_vec (B.◌⊕◌ y (B.neg z)) z
        (InSpan_trans MB m (n + m) g from_vec (B.◌⊕◌ y (B.neg z)) (InSpan-join_right MB n m (λ i. lift (h i)) g)
        (same.0 (B.◌⊕◌ y (B.neg z)) j))
        (InSpan_trans MB n (n + m) (λ i. lift (h i)) from_vec z (InSpan-join_left MB n m (λ i. lift (h i)) g)
        (record { weights = c; combines = refl })))

    from_submodule : IsSubmodule MB (λ y. S (red y))
    from_submodule = record {
      zero-in = subst S (sym ((s.kernel B.zero tt).1 (same.1 B.zero (InSpan-zero MB m g))))
          (InSpan-zero (module_of C) n h);
      add-in = λ x y a b. subst S (sym (s.map-add x y tt tt)) (InSpan-add (module_of C) n h (red x) (red y) a b);
      scale-in = λ c x a. subst S (sym (map-scale c x)) (InSpan-scale (module_of C) n h c (red x) a);
    }

    out_of_span : (y : W) → Big y → S (red y)
    out_of_span = span_in MB (λ y. S (red y)) from_submodule (n + m) from_vec
        (each_join n m (λ i. lift (h i)) g (λ y. S (red y))
        (λ i l. subst S (sym (red-lift (h i))) (InSpan-member (module_of C) n i h l))
        (λ i l. subst S (sym ((s.kernel (g i) tt).1 (same.1 (g i) (InSpan-member MB m i g l))))
        (InSpan-zero (module_of C) n h)))

    pub lifted_span : Same (λ y. S (red y)) Big
    lifted_span = (into_span, out_of_span)

-- a maximal ideal holds each ideal with a power in p·Λ
module _ {K V : Type 0} {R : RingOn K} (A : AlgebraOn R V) (L : V → Type 0) (O : IsOrder A L) (M : V → Type 0)
    (IM : IsIdeal A L M) (S : SimpleByElements A L M)
    (J : V → Type 0) (IJ : IsIdeal A L J) (e : ℕ) (falls : Within (Power A J e) M) where
  infixl 65 ◌⊕◌
  infixl 70 ◌⊗◌
  open A use {◌⊕◌, ◌⊗◌}

  absorbed : (a b : V) → J a → M b → A.one ≡ a ⊕ b → (m : ℕ) → Within (Chain A J L m) M → Within L M
  absorbed a b ha hb s zero h = h
  absorbed a b ha hb s (suc m) h = absorbed a b ha hb s m (λ x c.
      let l = Chain_inside A L O J IJ m x c in
      subst M (sym (sym (A.one-mul x) ∙ ap (λ z. z ⊗ x) s ∙ A.add-mul a b x))
      (IM.add_in (a ⊗ x) (b ⊗ x) (h (a ⊗ x) (a, x, ha, c, refl)) (IM.right x b l hb)))

  pub nilpotent_in_maximal : Within J M
  nilpotent_in_maximal x h = ⊎_elim (λ w. w)
      (λ (g : Generated A L M x A.one).
      let t = generated_in A L M O (IdealSum A J M) (IdealSum_ideal A L O J M IJ IM)
      (λ y hy. (A.zero, y, IJ.zero_in, hy, sym (A.zero-add y))) x
      (x, A.zero, h, IM.zero_in, sym (add-zero A.monoid x)) A.one g in
      absurd (S.proper (absorbed t.0 t.1 t.2 t.3 t.4 (suc e)
      (λ y c. falls y (chain_in_power A L O J IJ e y c)) A.one O.one_in)))
      (S.generates x (IJ.inside x h))
