-- Multiples of elements by powers of a scalar p, and one bound for finitely many.
use Rattle.std.specs.Prelude.{◌≡◌, ℕ, zero, suc, ◌+◌, ◌<◌, ◌≤◌}
use Rattle.std.proofs.Common.{refl, sym, ◌∙◌, ap, ap₂, subst, arith, ⊎_elim}
use Rattle.std.proofs.lemmas.Bool.{cases_lt}
use Rattle.theory_rings.specs.Ring.{RingOn}
use Rattle.theory_rings.specs.Power.{power}
use Rattle.theory_spaces.specs.Module.{AlgebraOn, module_of}
use Rattle.theory_spaces.proofs.Linear.Modules.{scale-zero}
use Rattle.theory_orders.specs.Orders.{IsOrder, IsIdeal, Multiple}

-- one bound for finitely many
pub uniform : (P : ℕ → ℕ → Type 0) → ((s t i : ℕ) → P s i → P (t + s) i) → (n : ℕ)
    → ((i : ℕ) → i < n → (s : ℕ) × P s i) → (s : ℕ) × ((i : ℕ) → i < n → P s i)
uniform P more zero h = (zero, λ i l. absurd (omega arith))
uniform P more (suc n) h =
    let f = uniform P more n (λ i l. h i (omega arith)) in
    let g = h n (omega arith) in (
      g.0 + f.0,
      λ i l. ⊎_elim
          (λ (b : i < n). more f.0 g.0 i (f.1 i b))
          (λ (b : n ≤ i). let e : n ≡ i = omega arith in
          let d : f.0 + g.0 ≡ g.0 + f.0 = omega arith in
          subst (λ s. P s i) d (more g.0 f.0 i (subst (λ k. P g.0 k) e g.1)))
          (cases_lt i n),
    )

module _ {K V : Type 0} {R : RingOn K} (A : AlgebraOn R V) (p : K) where
  infixl 65 ◌⊕◌
  infixl 70 ◌⊗◌
  infixl 70 ◌•◌
  open A use {◌⊕◌, ◌⊗◌, ◌•◌}

  -- p to the s times x
  abbrev pub up : ℕ → V → V
  up zero x = x
  up (suc s) x = p • up s x

  pub up-left : (s : ℕ) (x y : V) → up s x ⊗ y ≡ up s (x ⊗ y)
  up-left zero x y = refl
  up-left (suc s) x y = A.scale-left p (up s x) y ∙ ap (λ z. p • z) (up-left s x y)

  pub up-right : (s : ℕ) (x y : V) → x ⊗ up s y ≡ up s (x ⊗ y)
  up-right zero x y = refl
  up-right (suc s) x y = A.scale-right p x (up s y) ∙ ap (λ z. p • z) (up-right s x y)

  pub up-plus : (s t : ℕ) (x : V) → up (s + t) x ≡ up s (up t x)
  up-plus zero t x = let e : zero + t ≡ t = omega arith in ap (λ k. up k x) e
  up-plus (suc s) t x = let e : suc s + t ≡ suc (s + t) = omega arith in ap (λ k. up k x) e
      ∙ ap (λ y. p • y) (up-plus s t x)

  pub up-add : (s : ℕ) (x y : V) → up s (x ⊕ y) ≡ up s x ⊕ up s y
  up-add zero x y = refl
  up-add (suc s) x y = ap (λ z. p • z) (up-add s x y) ∙ A.scale-add p (up s x) (up s y)

  pub up-zero : (s : ℕ) → up s A.zero ≡ A.zero
  up-zero zero = refl
  up-zero (suc s) = ap (λ z. p • z) (up-zero s) ∙ scale-zero (module_of A) p

  pub up-power : (s : ℕ) (x : V) → up s x ≡ power R p s • x
  up-power zero x = sym (A.one-scale x)
  up-power (suc s) x = ap (λ z. p • z) (up-power s x) ∙ sym (A.mul-scale p (power R p s) x)

  pub up-scale : (s : ℕ) (c : K) (x : V) → up s (c • x) ≡ R.◌⊗◌ (power R p s) c • x
  up-scale s c x = up-power s (c • x) ∙ sym (A.mul-scale (power R p s) c x)

  -- p·L is closed under sums and products with L
  module _ (L : V → Type 0) (O : IsOrder A L) where
    pub Multiple-zero : Multiple A p L A.zero
    Multiple-zero = (A.zero, O.zero_in, sym (scale-zero (module_of A) p))

    pub Multiple-add : (x y : V) → Multiple A p L x → Multiple A p L y → Multiple A p L (x ⊕ y)
    Multiple-add x y h g = (h.0 ⊕ g.0, O.add_in h.0 g.0 h.1 g.1, ap₂ A.◌⊕◌ h.2 g.2 ∙ sym (A.scale-add p h.0 g.0))

    pub Multiple-left : (l x : V) → L l → Multiple A p L x → Multiple A p L (l ⊗ x)
    Multiple-left l x h m = (l ⊗ m.0, O.mul_in l m.0 h m.1, ap (λ z. l ⊗ z) m.2 ∙ A.scale-right p l m.0)

    pub Multiple-right : (l x : V) → L l → Multiple A p L x → Multiple A p L (x ⊗ l)
    Multiple-right l x h m = (m.0 ⊗ l, O.mul_in m.0 l m.1 h, ap (λ z. z ⊗ l) m.2 ∙ A.scale-left p m.0 l)

    pub Multiple-ideal : ((x : V) → L x → L (p • x)) → IsIdeal A L (Multiple A p L)
    Multiple-ideal p_in = record {
      inside = λ x m. subst L (sym m.2) (p_in m.0 m.1);
      zero_in = Multiple-zero;
      add_in = Multiple-add;
      left = Multiple-left;
      right = Multiple-right;
    }

  -- p with an inverse q
  module _ (q : K) (pq : R.◌⊗◌ p q ≡ R.one) (qp : R.◌⊗◌ q p ≡ R.one) where
    pub scale_cancel : (x : V) → p • (q • x) ≡ x
    scale_cancel x = sym (A.mul-scale p q x) ∙ ap (λ a. a • x) pq ∙ A.one-scale x

    pub cancel_scale : (x : V) → q • (p • x) ≡ x
    cancel_scale x = sym (A.mul-scale q p x) ∙ ap (λ a. a • x) qp ∙ A.one-scale x

    -- x is p times a member of L where q times x is a member
    pub Multiple-of : (L : V → Type 0) (x : V) → L (q • x) → Multiple A p L x
    Multiple-of L x h = (q • x, h, sym (scale_cancel x))

    pub of-Multiple : (L : V → Type 0) (x : V) → Multiple A p L x → L (q • x)
    of-Multiple L x m = subst L (sym (ap (λ z. q • z) m.2 ∙ cancel_scale m.0)) m.1
