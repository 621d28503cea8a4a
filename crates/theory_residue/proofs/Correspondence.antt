-- The ideals of an order and those of an algebra onto which it is mapped.
use Rattle.std.specs.Prelude.{◌≡◌, ℕ, zero, suc, ◌↔◌, Bool, true, false, cond, ltb}
use Rattle.std.proofs.Common.{refl, sym, ◌∙◌, ap, ap₂, subst}
use Rattle.theory_rings.specs.Ring.{RingOn}
use Rattle.theory_rings.proofs.Rings.RingLaws.{add-zero, add-neg, add_cancel_left, zero-mul}
use Rattle.theory_spaces.specs.Module.{AlgebraOn}
use Rattle.theory_spaces.proofs.Linear.Families.{push, push-below, push-at}
use Rattle.theory_orders.specs.Orders.{IsOrder, IsIdeal, Power, Within}
use Rattle.theory_orders.proofs.Lattices.SumsOf.{SumOf_in}
use Rattle.theory_orders.proofs.Splitting.Chains.{Chain, Chain_inside, chain_in_power, power_in_chains}
use Rattle.theory_radical.specs.Ideal.{product, ProductsVanish, IsIdeal as IsRingIdeal}
use Rattle.theory_radical.proofs.Nilpotent.NilIdeals.{product_congr}
use Rattle.theory_residue.specs.Residue.{ReductionOn, Reduced, Lifted, ReducedIdeal, LiftedIdeal, EndsCorrespond}

module _ {K E V W : Type 0} {R : RingOn K} {S : RingOn E} (A : AlgebraOn R V) (L N : V → Type 0) (O : IsOrder A L)
    (B : AlgebraOn S W) (r : ReductionOn A L N B) where
  infixl 65 ◌⊕◌
  infixl 70 ◌⊗◌
  open A use {◌⊕◌, ◌⊗◌, neg}
  open r use {red, lift, lift_in, red-lift}

  abbrev Red : (V → Type 0) → W → Type 0
  Red = Reduced A L N B r

  abbrev Lift : (W → Type 0) → V → Type 0
  Lift = Lifted A L N B r

  pub red-zero : red A.zero ≡ B.zero
  red-zero = add_cancel_left B.additive (red A.zero) (red A.zero) B.zero
      (sym (r.map-add A.zero A.zero O.zero_in O.zero_in) ∙ ap red (A.zero-add A.zero)
      ∙ sym (add-zero B.monoid (red A.zero)))

  -- what becomes the same differs by a member of N
  pub difference : (x y : V) → L x → L y → red x ≡ red y → N (x ⊕ neg y)
  difference x y lx ly e = (r.kernel (x ⊕ neg y) (O.add_in x (neg y) lx (O.neg_in y ly))).0
      (r.map-add x (neg y) lx (O.neg_in y ly) ∙ ap (λ w. B.◌⊕◌ w (red (neg y))) e
      ∙ sym (r.map-add y (neg y) ly (O.neg_in y ly)) ∙ ap red (add-neg A.additive y) ∙ red-zero)

  pub same_class : (J : V → Type 0) → IsIdeal A L J → Within N J → (x y : V) → L x → J y → red x ≡ red y → J x
  same_class J I over x y lx jy e =
      subst J (A.add_assoc x (neg y) y ∙ ap (λ z. x ⊕ z) (A.neg-add y) ∙ add-zero A.monoid x)
      (I.add_in (x ⊕ neg y) y (over (x ⊕ neg y) (difference x y lx (I.inside y jy) e)) jy)

  -- a member of J, where its image is one of that of J
  pub of_reduced : (J : V → Type 0) → IsIdeal A L J → Within N J → (x : V) → L x → Red J (red x) → J x
  of_reduced J I over x l h = same_class J I over x h.0 l h.1 (sym h.2)

  pub reduced_ideal : (J : V → Type 0) → IsIdeal A L J → IsRingIdeal B.ring (Red J)
  reduced_ideal J I = record {
    inside = λ x _. tt;
    zero_in = (A.zero, I.zero_in, red-zero);
    add_in = λ u w h g. (
      h.0 ⊕ g.0,
      I.add_in h.0 g.0 h.1 g.1,
      r.map-add h.0 g.0 (I.inside h.0 h.1) (I.inside g.0 g.1)
          ∙ ap₂ B.◌⊕◌ h.2 g.2,
    );
    left = λ c w _ h. (
      lift c ⊗ h.0,
      I.left (lift c) h.0 (lift_in c) h.1,
      r.map-mul (lift c) h.0 (lift_in c) (I.inside h.0 h.1) ∙ ap₂ B.◌⊗◌ (red-lift c) h.2,
    );
    right = λ c w _ h. (
      h.0 ⊗ lift c,
      I.right (lift c) h.0 (lift_in c) h.1,
      r.map-mul h.0 (lift c) (I.inside h.0 h.1) (lift_in c) ∙ ap₂ B.◌⊗◌ h.2 (red-lift c),
    );
  }

  pub lifted_ideal : (I : W → Type 0) → IsRingIdeal B.ring I → IsIdeal A L (Lift I)
  lifted_ideal I H = record {
    inside = λ x h. h.0;
    zero_in = (O.zero_in, subst I (sym red-zero) H.zero_in);
    add_in = λ x y h g. (
      O.add_in x y h.0 g.0,
      subst I (sym (r.map-add x y h.0 g.0))
          (H.add_in (red x) (red y) h.1 g.1),
    );
    left = λ a x l h. (O.mul_in a x l h.0, subst I (sym (r.map-mul a x l h.0)) (H.left (red a) (red x) tt h.1));
    right = λ a x l h. (O.mul_in x a h.0 l, subst I (sym (r.map-mul x a h.0 l)) (H.right (red a) (red x) tt h.1));
  }

  pub red_of_kernel : (x : V) → N x → red x ≡ B.zero
  red_of_kernel x h = (r.kernel x (r.kernel_in x h)).1 h

  pub lifted_over : (I : W → Type 0) → IsRingIdeal B.ring I → Within N (Lift I)
  lifted_over I H x h = (r.kernel_in x h, subst I (sym (red_of_kernel x h)) H.zero_in)

  pub lifted_is : (I : W → Type 0) → IsRingIdeal B.ring I → LiftedIdeal A L N B r I
  lifted_is I H = record {
    ideal = lifted_ideal I H;
    over = lifted_over I H;
    reduced = (λ w h. subst I h.2 h.1.1, λ w h. (lift w, (lift_in w, subst I (sym (red-lift w)) h), red-lift w));
  }

  pub ends_correspond : N A.zero → EndsCorrespond A L N B r
  ends_correspond nz = record {
    whole = λ w. (lift w, lift_in w, red-lift w);
    kernel = (λ w h. sym h.2 ∙ red_of_kernel h.0 h.1, λ w e. (A.zero, nz, red-zero ∙ sym e));
  }

  -- smaller ideals become smaller ones, and come from smaller ones
  pub reduced_within : (I J : V → Type 0) → IsIdeal A L I → IsIdeal A L J → Within N J → Within I J
      ↔ Within (Red I) (Red J)
  reduced_within I J hI hJ over =
      (λ h w g. (g.0, h g.0 g.1, g.2), λ h x i. of_reduced J hJ over x (hI.inside x i) (h (red x) (x, i, refl)))

  pub lifted_within : (I J : W → Type 0) → Within I J ↔ Within (Lift I) (Lift J)
  lifted_within I J = (
    λ h x g. (g.0, h (red x) g.1),
    λ h w i. subst J (red-lift w) (h (lift w) (lift_in w, subst I (sym (red-lift w)) i)).1,
  )

  module _ (J : V → Type 0) (I : IsIdeal A L J) where
    -- products of members of the image come from products of members
    chain_of : (a : ℕ → W) → ((i : ℕ) → Red J (a i)) → (m : ℕ) → (y : V) × Chain A J L m y
        × (red y ≡ product B.ring a m)
    chain_of a h zero = (A.one, O.one_in, r.map-one)
    chain_of a h (suc m) =
        let c = chain_of a h m in
        let x = h m in (
          x.0 ⊗ c.0,
          (x.0, c.0, x.1, c.1, refl),
          r.map-mul x.0 c.0 (I.inside x.0 x.1) (Chain_inside A L O J I m c.0 c.1)
              ∙ ap₂ B.◌⊗◌ x.2 c.2,
        )

    pub vanish_of_falls : (e : ℕ) → Within (Power A J e) N → ProductsVanish B.ring (Red J) (suc e)
    vanish_of_falls e f a h = let c = chain_of a h (suc e) in sym c.2
        ∙ red_of_kernel c.0 (f c.0 (chain_in_power A L O J I e c.0 c.1))

    killed : (m : ℕ) (x : V) → Chain A J L m x → (u : W)
        → ((a : ℕ → W) → ((i : ℕ) → Red J (a i)) → B.◌⊗◌ u (product B.ring a m) ≡ B.zero) → B.◌⊗◌ u (red x) ≡ B.zero
    killed zero x c u h = ap (λ z. B.◌⊗◌ z (red x))
        (sym (B.mul-one u) ∙ h (λ i. B.zero) (λ i. (reduced_ideal J I).zero_in)) ∙ zero-mul B.ring (red x)
    killed (suc m) x c u h =
        ap (B.◌⊗◌ u) (ap red c.4 ∙ r.map-mul c.0 c.1 (I.inside c.0 c.2) (Chain_inside A L O J I m c.1 c.3))
        ∙ sym (B.mul_assoc u (red c.0) (red c.1))
        ∙ killed m c.1 c.3 (B.◌⊗◌ u (red c.0)) (λ a g.
        let b = push m (red c.0) a in
        let hb : (i : ℕ) → Red J (b i) = λ i. pushed m a g i in
        B.mul_assoc u (red c.0) (product B.ring a m)
        ∙ ap (B.◌⊗◌ u) (ap₂ B.◌⊗◌ (sym (push-at m (red c.0) a))
        (product_congr B.ring m a b (λ i l. sym (push-below m (red c.0) a i l))))
        ∙ h b hb)
      where
        pushed : (m : ℕ) (a : ℕ → W) → ((i : ℕ) → Red J (a i)) → (i : ℕ) → Red J (push m (red c.0) a i)
        pushed m a g i = go (ltb i m)
          where
            go : (b : Bool) → Red J (cond b (a i) (red c.0))
            go true = g i
            go false = (c.0, c.2, refl)

    pub falls_of_vanish : (e : ℕ) → ProductsVanish B.ring (Red J) (suc e) → Within (Power A J e) N
    falls_of_vanish e v x h =
        let zeros : V → Type 0 = λ y. L y × (red y ≡ B.zero) in
        let s = SumOf_in A (Chain A J L (suc e)) zeros (O.zero_in, red-zero)
        (λ y z g k. (O.add_in y z g.0 k.0, r.map-add y z g.0 k.0 ∙ ap₂ B.◌⊕◌ g.1 k.1 ∙ B.zero-add B.zero))
        (λ y c. (
          Chain_inside A L O J I (suc e) y c,
          sym (B.one-mul (red y))
              ∙ killed (suc e) y c B.one (λ a g. B.one-mul (product B.ring a (suc e)) ∙ v a g),
        ))
        x (power_in_chains A L O J I e x h) in
        (r.kernel x s.0).0 s.1

    pub reduced_is : Within N J → ReducedIdeal A L N B r J
    reduced_is over = record {
      ideal = reduced_ideal J I;
      lifted = (λ x h. of_reduced J I over x h.0 h.1, λ x h. (I.inside x h, (x, h, refl)));
      powers = λ e. (vanish_of_falls e, falls_of_vanish e);
    }
