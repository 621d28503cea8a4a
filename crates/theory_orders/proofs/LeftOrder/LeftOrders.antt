-- Products and powers of ideals are ideals; the left order of an ideal over p·L is an order between L and what p
-- carries into L.
use Rattle.std.specs.Prelude.{ℕ, zero, suc}
use Rattle.std.proofs.Common.{refl, sym, ◌∙◌, ap, subst}
use Rattle.theory_rings.specs.Ring.{RingOn}
use Rattle.theory_rings.proofs.Rings.RingLaws.{zero-mul, neg-mul}
use Rattle.theory_spaces.specs.Module.{AlgebraOn}
use Rattle.theory_orders.specs.Orders.{IsOrder, IsIdeal, Product, Products, Power, Multiple, LeftOrder, Within}
use Rattle.theory_orders.proofs.Lattices.SumsOf.{SumOf_map, SumOf_one, SumOf_ideal}

module _ {K V : Type 0} {R : RingOn K} (A : AlgebraOn R V) (L : V → Type 0) (O : IsOrder A L) where
  infixl 70 ◌⊗◌
  infixl 70 ◌•◌
  open A use {◌⊗◌, ◌•◌}

  pub Products_ideal : (I J : V → Type 0) → IsIdeal A L I → IsIdeal A L J → IsIdeal A L (Products A I J)
  Products_ideal I J hI hJ = SumOf_ideal A L (Product A I J) O
      (λ x w. subst L (sym w.4) (O.mul_in w.0 w.1 (hI.inside w.0 w.2) (hJ.inside w.1 w.3)))
      (λ a x l w. (a ⊗ w.0, w.1, hI.left a w.0 l w.2, w.3, ap (λ z. a ⊗ z) w.4 ∙ sym (A.mul_assoc a w.0 w.1)))
      (λ a x l w. (w.0, w.1 ⊗ a, w.2, hJ.right a w.1 l w.3, ap (λ z. z ⊗ a) w.4 ∙ A.mul_assoc w.0 w.1 a))

  pub Power_ideal : (J : V → Type 0) → IsIdeal A L J → (e : ℕ) → IsIdeal A L (Power A J e)
  Power_ideal J I zero = I
  Power_ideal J I (suc e) = Products_ideal (Power A J e) J (Power_ideal J I e) I

  -- a larger set has larger powers
  pub Power_map : (I J : V → Type 0) → Within I J → (e : ℕ) → Within (Power A I e) (Power A J e)
  Power_map I J h zero = h
  Power_map I J h (suc e) = SumOf_map A (Product A (Power A I e) I) (Product A (Power A J e) J)
      (λ x w. (w.0, w.1, Power_map I J h e w.0 w.2, h w.1 w.3, w.4))

  -- the powers of a set hold one where it does
  pub Power_one : (J : V → Type 0) (e : ℕ) → J A.one → Power A J e A.one
  Power_one J zero h = h
  Power_one J (suc e) h =
      SumOf_one A (Product A (Power A J e) J) A.one (A.one, A.one, Power_one J e h, h, sym (A.mul-one A.one))

  module _ (J : V → Type 0) (I : IsIdeal A L J) where
    pub left_order_is_order : IsOrder A (LeftOrder A J)
    left_order_is_order = record {
      one_in = λ x h. subst J (sym (A.one-mul x)) h;
      zero_in = λ x h. subst J (sym (zero-mul A.ring x)) I.zero_in;
      add_in = λ a b ha hb x h. subst J (sym (A.add-mul a b x)) (I.add_in (a ⊗ x) (b ⊗ x) (ha x h) (hb x h));
      neg_in = λ a ha x h. subst J
          (neg-mul A.ring A.one (a ⊗ x) ∙ ap A.neg (A.one-mul (a ⊗ x)) ∙ sym (neg-mul A.ring a x))
          (I.left (A.neg A.one) (a ⊗ x) (O.neg_in A.one O.one_in) (ha x h));
      mul_in = λ a b ha hb x h. subst J (sym (A.mul_assoc a b x)) (ha (b ⊗ x) (hb x h));
    }

    pub in_left_order : Within L (LeftOrder A J)
    in_left_order a l x h = I.left a x l h

    pub left_order_bounded : (p : K) → Within (Multiple A p L) J → (a : V) → LeftOrder A J a → L (p • a)
    left_order_bounded p over a h = subst L (A.scale-right p a A.one ∙ ap (λ z. p • z) (A.mul-one a))
        (I.inside (a ⊗ (p • A.one)) (h (p • A.one) (over (p • A.one) (A.one, O.one_in, refl))))
