-- An order with a radical that is simple over its quotient and that has the order as its left order lies in no larger
-- order.
use Rattle.std.specs.Prelude.{◌≡◌, ℕ, zero, suc, ◌⊎◌}
use Rattle.std.proofs.Common.{refl, sym, ◌∙◌, ap, ap₂, subst, ⊎_elim}
use Rattle.theory_rings.specs.Ring.{RingOn}
use Rattle.theory_rings.specs.Sum.{sum}
use Rattle.theory_rings.proofs.Rings.RingLaws.{add-zero, zero-mul, add_add_add_comm}
use Rattle.theory_rings.proofs.Sums.Sums.{mul-sum, sum-mul}
use Rattle.theory_spaces.specs.Module.{AlgebraOn}
use Rattle.theory_orders.specs.Orders.{IsOrder, IsIdeal, SumOf, Product, Around, Generated, Multiple, Inverse}
use Rattle.theory_orders.specs.Orders.{SimpleByElements, Within}
use Rattle.theory_orders.proofs.Lattices.SumsOf.{sum_in, SumOf_in}
use Rattle.theory_orders.proofs.Lattices.Multiples.{up, up-left, up-right, Multiple-zero, Multiple-add, scale_cancel}
use Rattle.theory_orders.proofs.Lattices.Multiples.{cancel_scale}
use Rattle.theory_orders.proofs.Splitting.Chains.{Chain, Chain_first, Chain_in, Chain_last}
use Rattle.theory_orders.proofs.Ideals.InvertibleIdeals.{MaximalIdeal, left_unit}

module _ {K V : Type 0} {R : RingOn K} (A : AlgebraOn R V) where
  infixl 65 ◌⊕◌
  infixl 70 ◌⊗◌
  infixl 70 ◌•◌
  open A use {◌⊕◌, ◌⊗◌, ◌•◌}

  -- J is an ideal of L over p·L with a power in p·L, L/J is simple, and L is the left order of J
  pub record Hereditary (p : K) (L J : V → Type 0) : Type 0 where
    pub order : IsOrder A L
    pub ideal : IsIdeal A L J
    pub over : (x : V) → L x → J (p • x)
    pub exponent : ℕ
    pub falls : Within (Chain A J L exponent) (Multiple A p L)
    pub simple : SimpleByElements A L J
    pub left_order : (a : V) → ((x : V) → J x → J (a ⊗ x)) → L a

  module _ (p q : K) (pq : R.◌⊗◌ p q ≡ R.one) (qp : R.◌⊗◌ q p ≡ R.one) (L J : V → Type 0) (H : Hereditary p L J) where
    abbrev O : IsOrder A L
    O = H.order

    abbrev I : IsIdeal A L J
    I = H.ideal

    maximal_ideal : MaximalIdeal A p q pq qp L O J
    maximal_ideal = record { ideal = I; over = H.over; simple = H.simple; left_order = H.left_order }

    p-in : (x : V) → L x → L (p • x)
    p-in x l = I.inside (p • x) (H.over x l)

    up-in : (s : ℕ) (x : V) → L x → L (up A p s x)
    up-in zero x l = l
    up-in (suc s) x l = p-in (up A p s x) (up-in s x l)

    one_not_multiple : Multiple A p L A.one → ⊥
    one_not_multiple m = H.simple.proper (subst J (sym m.2) (H.over m.0 m.1))

    -- what J carries into L
    abbrev Colon : V → Type 0
    Colon = Inverse A L J

    -- (a) the elements that carry J into L are more than L
    fall : Within Colon L → (m : ℕ) → Within (Chain A J L m) (Multiple A p L) → ⊥
    fall small zero h = one_not_multiple (h A.one O.one_in)
    fall small (suc m) h = fall small m (λ y c.
        let carries : Colon (q • y) = λ j hj.
        let t = h (y ⊗ j) (Chain_last A L O J I m y j c hj) in
        subst L (sym (A.scale-left q y j ∙ ap (λ z. q • z) t.2 ∙ cancel_scale A p q pq qp t.0)) t.1 in
        (q • y, small (q • y) carries, sym (scale_cancel A p q pq qp y)))

    larger : Within Colon L → ⊥
    larger small = fall small H.exponent H.falls

    -- the powers of J, e at a time
    Level : ℕ → V → Type 0
    Level zero = L
    Level (suc t) = Chain A J (Level t) H.exponent

    Level-multiple : (t : ℕ) (x : V) → Level t x → (y : V) × L y × (x ≡ up A p t y)
    unfolding Level
    Level-multiple zero x l = (x, l, refl)
    Level-multiple (suc t) x c =
        let r = Chain_first A L O J (Level t) H.exponent x c in
        let y = H.falls r.0 r.2 in
        let z = Level-multiple t r.1 r.3 in (
          y.0 ⊗ z.0,
          O.mul_in y.0 z.0 y.1 z.1,
          r.4 ∙ ap₂ A.◌⊗◌ y.2 z.2 ∙ A.scale-left p y.0 (up A p t z.0) ∙ ap (λ w. p • w) (up-right A p t y.0 z.0),
        )

    Level-in : (t : ℕ) → Within (Level t) L
    unfolding Level
    Level-in zero x l = l
    Level-in (suc t) x c = Chain_in A L O J I (Level t) (Level-in t) H.exponent x c

    -- an order over L that p to the s times brings back into L
    module _ (G : V → Type 0) (OG : IsOrder A G) (over : Within L G) (s : ℕ)
        (bounded : (x : V) → G x → L (up A p s x)) where
      -- what carries G into L
      abbrev Low : V → Type 0
      Low a = (x : V) → G x → L (a ⊗ x)

      Low-L : Within Low L
      Low-L a h = subst L (A.mul-one a) (h A.one OG.one_in)

      Low-zero : Low A.zero
      Low-zero x g = subst L (sym (zero-mul A.ring x)) O.zero_in

      Low-add : (a b : V) → Low a → Low b → Low (a ⊕ b)
      Low-add a b h k x g = subst L (sym (A.add-mul a b x)) (O.add_in (a ⊗ x) (b ⊗ x) (h x g) (k x g))

      Low-left : (l a : V) → L l → Low a → Low (l ⊗ a)
      Low-left l a hl h x g = subst L (sym (A.mul_assoc l a x)) (O.mul_in l (a ⊗ x) hl (h x g))

      Low-right : (a r : V) → Low a → G r → Low (a ⊗ r)
      Low-right a r h hr x g = subst L (sym (A.mul_assoc a r x)) (h (r ⊗ x) (OG.mul_in r x hr g))

      Low-up : (x : V) → L x → Low (up A p s x)
      Low-up x l y g = subst L (sym (up-left A p s x y)) (bounded (x ⊗ y) (OG.mul_in x y (over x l) g))

      -- one as a sum of a member of Low and one of J puts one in Low
      module _ (i j : V) (hi : Low i) (hj : J j) (sum : A.one ≡ i ⊕ j) where
        spread : (x : V) → x ≡ i ⊗ x ⊕ j ⊗ x
        spread x = sym (A.one-mul x) ∙ ap (λ y. y ⊗ x) sum ∙ A.add-mul i j x

        Low-chain : (T : V → Type 0) → Within T L → (m : ℕ) → Within (Chain A J T m) Low → Within T Low
        Low-chain T h zero k = k
        Low-chain T h (suc m) k = Low-chain T h m (λ x c.
            subst Low (sym (spread x))
            (Low-add (i ⊗ x) (j ⊗ x) (Low-right i x hi (over x (Chain_in A L O J I T h m x c)))
            (k (j ⊗ x) (j, x, hj, c, refl))))

        Low-level : (t : ℕ) → Within (Level t) Low → Within L Low
        unfolding Level
        Low-level zero k = k
        Low-level (suc t) k = Low-level t (Low-chain (Level t) (Level-in t) H.exponent k)

        Low-one : Low A.one
        Low-one = Low-level s
            (λ x c. let r = Level-multiple s x c in subst Low (sym r.2) (Low-up r.0 r.1)) A.one O.one_in

      abbrev Mixed : V → Type 0
      Mixed x = (i : V) × (j : V) × Low i × J j × (x ≡ i ⊕ j)

      Mixed-add : (x y : V) → Mixed x → Mixed y → Mixed (x ⊕ y)
      Mixed-add x y h k = (
        h.0 ⊕ k.0,
        h.1 ⊕ k.1,
        Low-add h.0 k.0 h.2 k.2,
        I.add_in h.1 k.1 h.3 k.3,
        ap₂ A.◌⊕◌ h.4 k.4
            ∙ add_add_add_comm A.monoid h.0 h.1 k.0 k.1,
      )

      module _ (proper_low : Low A.one → ⊥) where
        Low-J : Within Low J
        Low-J a h = ⊎_elim (λ j. j)
            (λ (u : Generated A L J a A.one).
            let m : Mixed A.one = SumOf_in A (λ x. Around A L a x ⊎ J x) Mixed
            (A.zero, A.zero, Low-zero, I.zero_in, sym (A.zero-add A.zero)) Mixed-add
            (λ x. ⊎_elim
            (λ (w : Around A L a x). (
              x,
              A.zero,
              subst Low (sym w.4) (Low-right (w.0 ⊗ a) w.1 (Low-left w.0 a w.2 h) (over w.1 w.3)),
              I.zero_in,
              sym (add-zero A.monoid x),
            ))
            (λ (w : J x). (A.zero, x, Low-zero, w, sym (A.zero-add x)))) A.one u in
            absurd (proper_low (Low-one m.0 m.1 m.2 m.3 m.4)))
            (H.simple.generates a (Low-L a h))

        -- what carries Low into itself
        abbrev Keeps : V → Type 0
        Keeps u = (x : V) → Low x → Low (u ⊗ x)

        Colon-Keeps : Within Colon Keeps
        Colon-Keeps a h x lx y g = subst L (sym (A.mul_assoc a x y)) (h (x ⊗ y) (Low-J (x ⊗ y) (Low-right x y lx g)))

        Keeps-mul : (u v : V) → Keeps u → Keeps v → Keeps (u ⊗ v)
        Keeps-mul u v hu hv x lx = subst Low (sym (A.mul_assoc u v x)) (hu (v ⊗ x) (hv x lx))

        -- (b) one is no sum of products of Colon and J
        module _ (Q : V → Type 0) (Q-zero : Q A.zero) (Q-add : (x y : V) → Q x → Q y → Q (x ⊕ y))
            (u1 : SumOf A (Product A Colon J) A.one) where
          abbrev Reached : (V → Type 0) → Type 0
          Reached T = (u x : V) → Keeps u → T x → Q (u ⊗ x)

          insert : (u x : V) → u ⊗ x ≡ sum A.monoid u1.size (λ i. (u ⊗ u1.term i) ⊗ x)
          insert u x = ap (λ z. z ⊗ x) (sym (A.mul-one u) ∙ ap (λ z. u ⊗ z) u1.gives ∙ mul-sum A.ring u1.size u u1.term)
              ∙ sum-mul A.ring u1.size x (λ i. u ⊗ u1.term i)

          Reached-chain : (T : V → Type 0) (m : ℕ) → Reached (Chain A J T m) → Reached T
          Reached-chain T zero k = k
          Reached-chain T (suc m) k = Reached-chain T m (λ u x hu c.
              subst Q (sym (insert u x)) (sum_in A Q Q-zero Q-add u1.size (λ i. (u ⊗ u1.term i) ⊗ x) (λ i l.
              let w = u1.each i l in
              subst Q (sym (ap (λ z. (u ⊗ z) ⊗ x) w.4 ∙ ap (λ z. z ⊗ x) (sym (A.mul_assoc u w.0 w.1))
              ∙ A.mul_assoc (u ⊗ w.0) w.1 x))
              (k (u ⊗ w.0) (w.1 ⊗ x) (Keeps-mul u w.0 hu (Colon-Keeps w.0 w.2)) (w.1, x, w.3, c, refl)))))

          Reached-level : (t : ℕ) → Reached (Level t) → Reached L
          unfolding Level
          Reached-level zero k = k
          Reached-level (suc t) k = Reached-level t (Reached-chain (Level t) H.exponent k)

        no_unit : SumOf A (Product A Colon J) A.one → ⊥
        no_unit u1 =
            let Q = Multiple A p L in
            let zero_in : Q A.zero = Multiple-zero A p L O in
            let r : (u x : V) → Keeps u → L x → Q (u ⊗ x) =
            Reached-level Q zero_in (Multiple-add A p L O) u1 (suc s) (λ u x hu c.
            let t = Level-multiple (suc s) x c in
            let inside : L (up A p s u) =
            subst L (up-right A p s u A.one ∙ ap (up A p s) (A.mul-one u))
            (Low-L (u ⊗ up A p s A.one) (hu (up A p s A.one) (Low-up A.one O.one_in))) in (
              up A p s u ⊗ t.0,
              O.mul_in (up A p s u) t.0 inside t.1,
              ap (λ z. u ⊗ z) t.2 ∙ A.scale-right p u (up A p s t.0)
                  ∙ ap (λ z. p • z) (up-right A p s u t.0 ∙ sym (up-left A p s u t.0)),
            )) in
            one_not_multiple (subst Q (A.one-mul A.one)
            (r A.one A.one (λ x lx. subst Low (sym (A.one-mul x)) lx) O.one_in))

        nothing : ⊥
        nothing = left_unit A p q pq qp L O J maximal_ideal larger no_unit

      -- L is maximal
      pub maximal : (Within G L → ⊥) → ⊥
      maximal n = nothing (λ low. n (λ x g. subst L (A.one-mul x) (low x g)))
