-- Finite groups: conjugate members, and the sizes of a class and of a centralizer.
use Rattle.std.specs.Prelude.{◌≡◌, ℕ, ◌*◌, ◌<◌, ◌≤◌, Bool, true, eqb}
use Rattle.std.proofs.Common.{sym, ◌∙◌, ap, ap₂, arith, ⊎_elim, one-mul, zero-mul}
use Rattle.std.proofs.Math.Bool.{true≢false}
use Rattle.std.proofs.lemmas.Bool.{cases_lt, lt-ltb, le-ltb, eq-eqb, eqb-true}
use Rattle.theory_rings.specs.Sum.{sum}
use Rattle.theory_rings.specs.Naturals.{nat_monoid}
use Rattle.theory_rings.specs.Enumerated.{Enumerated}
use Rattle.theory_rings.proofs.Sums.Sums.{sum_congr, sum_comm}
use Rattle.theory_rings.proofs.Sums.NaturalSums.{sum-mul_nat, le_sum}
use Rattle.theory_rings.proofs.Numbers.Pigeonhole.{term_pos_of_sum_pos}
use Rattle.theory_division.specs.Counting.{one_if, count, same}
use Rattle.theory_division.specs.Group.{GroupOn, conjugate, commute, centralizer_order, are_conjugate, class_order}
use Rattle.theory_division.specs.Group.{is_central, OrbitStabilizer}
use Rattle.theory_division.proofs.Counts.{bool_iff, one_if-pos, sum_ones, same-eq, eq-same, count_congr, count_all}
use Rattle.theory_division.proofs.Counts.{all_of_count, count_moved, count_same}

module _ {G : Type 0} (H : GroupOn G) where
  infixl 70 ◌·◌
  open H use {◌·◌, inv}

  abbrev conj : G → G → G
  conj = conjugate H

  mul-inv : (a : G) → a · inv a ≡ H.one
  mul-inv a =
      sym (H.one-mul (a · inv a)) ∙ ap (λ z. z · (a · inv a)) (sym (H.inv-mul (inv a)))
      ∙ H.mul_assoc (inv (inv a)) (inv a) (a · inv a)
      ∙ ap (λ z. inv (inv a) · z)
      (sym (H.mul_assoc (inv a) a (inv a)) ∙ ap (λ z. z · inv a) (H.inv-mul a) ∙ H.one-mul (inv a))
      ∙ H.inv-mul (inv a)

  mul-one : (a : G) → a · H.one ≡ a
  mul-one a = ap (λ z. a · z) (sym (H.inv-mul a)) ∙ sym (H.mul_assoc a (inv a) a) ∙ ap (λ z. z · a) (mul-inv a)
      ∙ H.one-mul a

  inv_mul_cancel_left : (g h : G) → inv g · (g · h) ≡ h
  inv_mul_cancel_left g h = sym (H.mul_assoc (inv g) g h) ∙ ap (λ z. z · h) (H.inv-mul g) ∙ H.one-mul h

  mul_inv_cancel_right : (g h : G) → (h · g) · inv g ≡ h
  mul_inv_cancel_right g h = H.mul_assoc h g (inv g) ∙ ap (λ z. h · z) (mul-inv g) ∙ mul-one h

  inv_mul_cancel_right : (g h : G) → (h · inv g) · g ≡ h
  inv_mul_cancel_right g h = H.mul_assoc h (inv g) g ∙ ap (λ z. h · z) (H.inv-mul g) ∙ mul-one h

  inv_unique : (a b : G) → a · b ≡ H.one → a ≡ inv b
  inv_unique a b e = sym (mul_inv_cancel_right b a) ∙ ap (λ z. z · inv b) e ∙ H.one-mul (inv b)

  inv-mul_rev : (a b : G) → inv (a · b) ≡ inv b · inv a
  inv-mul_rev a b = sym (inv_unique (inv b · inv a) (a · b)
      (H.mul_assoc (inv b) (inv a) (a · b) ∙ ap (λ z. inv b · z) (inv_mul_cancel_left a b) ∙ H.inv-mul b))

  conj-mul : (g h x : G) → conj (g · h) x ≡ conj g (conj h x)
  conj-mul g h x =
      ap₂ (λ a b. a · b) (H.mul_assoc g h x) (inv-mul_rev g h) ∙ sym (H.mul_assoc (g · (h · x)) (inv h) (inv g))
      ∙ ap (λ z. z · inv g) (H.mul_assoc g (h · x) (inv h))

  conj_injective : (g x y : G) → conj g x ≡ conj g y → x ≡ y
  conj_injective g x y e = sym (undo g x) ∙ ap (λ z. (inv g · z) · g) e ∙ undo g y
    where
      undo : (g x : G) → (inv g · conj g x) · g ≡ x
      undo g x = H.mul_assoc (inv g) (conj g x) g ∙ ap (λ z. inv g · z) (inv_mul_cancel_right g (g · x))
          ∙ inv_mul_cancel_left g x

  conj_one : (x : G) → conj H.one x ≡ x
  conj_one x = ap (λ z. z · inv H.one) (H.one-mul x) ∙ ap (λ z. x · z) (sym (H.one-mul (inv H.one)) ∙ mul-inv H.one)
      ∙ mul-one x

  module _ (E : Enumerated G) where
    -- how many take x to y
    abbrev fibre : G → G → ℕ
    fibre x y = count E (λ g. same E (conj g x) y)

    abbrev rel : G → G → Bool
    rel x y = are_conjugate H E x y

    -- those that take x to itself are those that commute with it
    fibre_self : (x : G) → fibre x x ≡ centralizer_order H E x
    fibre_self x = count_congr E (λ g. same E (conj g x) x) (λ g. commute H E g x)
        (λ g. bool_iff (same E (conj g x) x) (commute H E g x)
        (λ e. eq-same E (g · x) (x · g)
        (sym (inv_mul_cancel_right g (g · x)) ∙ ap (λ z. z · g) (same-eq E (conj g x) x e)))
        (λ e. eq-same E (conj g x) x (ap (λ z. z · inv g) (same-eq E (g · x) (x · g) e) ∙ mul_inv_cancel_right g x)))

    fibre_of : (x y g : G) → conj g x ≡ y → fibre x y ≡ fibre x x
    fibre_of x y g e =
        sym (count_moved E (λ h. g · h) (λ h. inv g · h) (inv_mul_cancel_left g) (λ h. same E (conj h x) y))
        ∙ count_congr E (λ h. same E (conj (g · h) x) y) (λ h. same E (conj h x) x) (λ h.
        bool_iff (same E (conj (g · h) x) y) (same E (conj h x) x)
        (λ b. eq-same E (conj h x) x
        (conj_injective g (conj h x) x (sym (conj-mul g h x) ∙ same-eq E (conj (g · h) x) y b ∙ sym e)))
        (λ b. eq-same E (conj (g · h) x) y (conj-mul g h x ∙ ap (conj g) (same-eq E (conj h x) x b) ∙ e)))

    fibre_total : (x : G) → sum nat_monoid E.size (λ i. fibre x (E.member i)) ≡ E.size
    fibre_total x =
        sum_comm nat_monoid E.size E.size (λ i j. one_if (same E (conj (E.member j) x) (E.member i)))
        ∙ sum_ones E.size (λ j. count E (λ y. same E (conj (E.member j) x) y))
        (λ j l. count_same E (conj (E.member j) x))

    -- some g takes x to y where as many as one do
    taken : (x y : G) → 0 < fibre x y → (g : G) × (conj g x ≡ y)
    taken x y l =
        let p = term_pos_of_sum_pos E.size (λ i. one_if (same E (conj (E.member i) x) y)) l in
        (E.member p.0, same-eq E (conj (E.member p.0) x) y (one_if-pos (same E (conj (E.member p.0) x) y) p.2))

    fibre_weighed : (x y : G) → one_if (rel x y) * fibre x x ≡ fibre x y
    fibre_weighed x y = ⊎_elim
        (λ (l : 0 < fibre x y). let g = taken x y l in
        rw (lt-ltb 0 (fibre x y) l) (one-mul (fibre x x) ∙ sym (fibre_of x y g.0 g.1)))
        (λ (l : fibre x y ≤ 0). rw (le-ltb 0 (fibre x y) l) (zero-mul (fibre x x) ∙ omega arith))
        (cases_lt 0 (fibre x y))

    pub orbit_stabilizer : OrbitStabilizer H E
    orbit_stabilizer x =
        ap (λ t. class_order H E x * t) (sym (fibre_self x))
        ∙ sum-mul_nat E.size (fibre x x) (λ i. one_if (rel x (E.member i)))
        ∙ sum_congr nat_monoid E.size (λ i. one_if (rel x (E.member i)) * fibre x x) (λ i. fibre x (E.member i))
        (λ i l. fibre_weighed x (E.member i))
        ∙ fibre_total x

    -- the test of conjugacy is right
    pub are_conjugate-sound : (x y : G) → rel x y ≡ true → (g : G) × (conj g x ≡ y)
    are_conjugate-sound x y e = ⊎_elim
        (λ (l : 0 < fibre x y). taken x y l)
        (λ (l : fibre x y ≤ 0). absurd (true≢false (sym e ∙ le-ltb 0 (fibre x y) l)))
        (cases_lt 0 (fibre x y))

    pub are_conjugate-complete : (x y g : G) → conj g x ≡ y → rel x y ≡ true
    are_conjugate-complete x y g e =
        let at : one_if (same E (conj (E.member (E.number g)) x) y) ≡ 1 =
        ap one_if (eq-same E (conj (E.member (E.number g)) x) y (ap (λ h. conj h x) (E.member-number g) ∙ e)) in
        let le = le_sum E.size (E.number g) (λ i. one_if (same E (conj (E.member i) x) y)) (E.number-lt g) in
        lt-ltb 0 (fibre x y) (omega arith)

    -- it is an equivalence
    pub are_conjugate-refl : (x : G) → rel x x ≡ true
    are_conjugate-refl x = are_conjugate-complete x x H.one (conj_one x)

    pub are_conjugate-symm : (x y : G) → rel x y ≡ true → rel y x ≡ true
    are_conjugate-symm x y e =
        let g = are_conjugate-sound x y e in
        are_conjugate-complete y x (inv g.0)
        (ap (conj (inv g.0)) (sym g.1) ∙ sym (conj-mul (inv g.0) g.0 x) ∙ ap (λ h. conj h x) (H.inv-mul g.0)
        ∙ conj_one x)

    pub are_conjugate-trans : (x y z : G) → rel x y ≡ true → rel y z ≡ true → rel x z ≡ true
    are_conjugate-trans x y z a b =
        let g = are_conjugate-sound x y a in
        let h = are_conjugate-sound y z b in
        are_conjugate-complete x z (h.0 · g.0) (conj-mul h.0 g.0 x ∙ ap (conj h.0) g.1 ∙ h.1)

    -- a class has one size, so conjugate members have centralizers of one size, and are central or not together
    class_order_congr : (x y : G) → rel x y ≡ true → class_order H E x ≡ class_order H E y
    class_order_congr x y e = count_congr E (rel x) (rel y) (λ z. bool_iff (rel x z) (rel y z)
        (λ a. are_conjugate-trans y x z (are_conjugate-symm x y e) a) (λ a. are_conjugate-trans x y z e a))

    centralizer_order_congr : (x y : G) → rel x y ≡ true → centralizer_order H E x ≡ centralizer_order H E y
    centralizer_order_congr x y e =
        let g = are_conjugate-sound x y e in
        let h = are_conjugate-sound y x (are_conjugate-symm x y e) in
        sym (fibre_self x) ∙ sym (fibre_of x y g.0 g.1) ∙ turned ∙ fibre_of y x h.0 h.1 ∙ fibre_self y
      where
        -- g takes x to y where its inverse takes y to x
        turned : fibre x y ≡ fibre y x
        turned = count_congr E (λ g. same E (conj g x) y) (λ g. same E (conj (inv g) y) x)
            (λ g. bool_iff (same E (conj g x) y) (same E (conj (inv g) y) x)
            (λ b. eq-same E (conj (inv g) y) x (ap (conj (inv g)) (sym (same-eq E (conj g x) y b)) ∙ back g x))
            (λ b. eq-same E (conj g x) y (ap (conj g) (sym (same-eq E (conj (inv g) y) x b)) ∙ forth g y)))
            ∙ count_moved E inv inv inv_inv (λ g. same E (conj g y) x)
          where
            back : (g x : G) → conj (inv g) (conj g x) ≡ x
            back g x = sym (conj-mul (inv g) g x) ∙ ap (λ h. conj h x) (H.inv-mul g) ∙ conj_one x

            forth : (g y : G) → conj g (conj (inv g) y) ≡ y
            forth g y = sym (conj-mul g (inv g) y) ∙ ap (λ h. conj h y) (mul-inv g) ∙ conj_one y

            inv_inv : (g : G) → inv (inv g) ≡ g
            inv_inv g = sym (inv_unique g (inv g) (mul-inv g))

    pub is_central_congr : (x y : G) → rel x y ≡ true → is_central H E x ≡ is_central H E y
    is_central_congr x y e = ap (λ n. eqb n E.size) (centralizer_order_congr x y e)

    -- the test of the centre is right
    pub is_central-sound : (x : G) → is_central H E x ≡ true → (y : G) → x · y ≡ y · x
    is_central-sound x e y =
        sym (same-eq E (y · x) (x · y)
        (all_of_count E (λ g. commute H E g x) (eqb-true (centralizer_order H E x) E.size e) y))

    pub is_central-complete : (x : G) → ((y : G) → x · y ≡ y · x) → is_central H E x ≡ true
    is_central-complete x h =
        eq-eqb (centralizer_order H E x) E.size
        (count_all E (λ g. commute H E g x) (λ g. eq-same E (g · x) (x · g) (sym (h g))))
