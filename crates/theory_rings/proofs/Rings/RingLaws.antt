-- What follows from the laws of a monoid, a group and a ring.
use Rattle.std.specs.Prelude.{◌≡◌, ◌≢◌}
use Rattle.std.proofs.Common.{sym, ◌∙◌, ap}
use Rattle.theory_rings.specs.Ring.{AddCommMonoidOn, AddCommGroupOn, RingOn}

module _ {V : Type 0} (M : AddCommMonoidOn V) where
  infixl 65 ◌⊕◌
  open M use {zero, ◌⊕◌}

  pub add-zero : (a : V) → a ⊕ zero ≡ a
  add-zero a = M.add_comm a zero ∙ M.zero-add a

  pub add_left_comm : (a b c : V) → a ⊕ (b ⊕ c) ≡ b ⊕ (a ⊕ c)
  add_left_comm a b c = sym (M.add_assoc a b c) ∙ ap (λ x. x ⊕ c) (M.add_comm a b) ∙ M.add_assoc b a c

  pub add_add_add_comm : (a b c d : V) → (a ⊕ b) ⊕ (c ⊕ d) ≡ (a ⊕ c) ⊕ (b ⊕ d)
  add_add_add_comm a b c d = simp (M.add_assoc, M.add_comm, add_left_comm)

module _ {V : Type 0} (G : AddCommGroupOn V) where
  infixl 65 ◌⊕◌
  open G use {monoid, zero, ◌⊕◌, neg}

  pub add-neg : (a : V) → a ⊕ neg a ≡ zero
  add-neg a = G.add_comm a (neg a) ∙ G.neg-add a

  pub add_cancel_left : (a b c : V) → a ⊕ b ≡ a ⊕ c → b ≡ c
  add_cancel_left a b c e =
      sym (G.zero-add b) ∙ ap (λ x. x ⊕ b) (sym (G.neg-add a)) ∙ G.add_assoc (neg a) a b ∙ ap (λ x. neg a ⊕ x) e
      ∙ sym (G.add_assoc (neg a) a c) ∙ ap (λ x. x ⊕ c) (G.neg-add a) ∙ G.zero-add c

  pub neg_unique : (a b : V) → a ⊕ b ≡ zero → b ≡ neg a
  neg_unique a b e = add_cancel_left a b (neg a) (e ∙ sym (add-neg a))

  pub neg_zero : neg zero ≡ zero
  neg_zero = sym (neg_unique zero zero (G.zero-add zero))

  pub neg_neg : (a : V) → neg (neg a) ≡ a
  neg_neg a = sym (neg_unique (neg a) a (G.neg-add a))

  pub neg_add : (a b : V) → neg (a ⊕ b) ≡ neg a ⊕ neg b
  neg_add a b = sym (neg_unique (a ⊕ b) (neg a ⊕ neg b)
      (G.add_assoc a b (neg a ⊕ neg b)
      ∙ ap (λ x. a ⊕ x) (add_left_comm monoid b (neg a) (neg b) ∙ ap (λ x. neg a ⊕ x) (add-neg b)
      ∙ add-zero monoid (neg a)) ∙ add-neg a))

-- a map that keeps sums keeps 0 and opposites
module _ {V W : Type 0} (G : AddCommGroupOn V) (H : AddCommGroupOn W) (h : V → W)
    (map-add : (a b : V) → h (G.◌⊕◌ a b) ≡ H.◌⊕◌ (h a) (h b)) where
  pub additive-zero : h G.zero ≡ H.zero
  additive-zero = add_cancel_left H (h G.zero) (h G.zero) H.zero
      (sym (map-add G.zero G.zero) ∙ ap h (G.zero-add G.zero) ∙ sym (add-zero H.monoid (h G.zero)))

  pub additive-neg : (a : V) → h (G.neg a) ≡ H.neg (h a)
  additive-neg a = neg_unique H (h a) (h (G.neg a)) (sym (map-add a (G.neg a)) ∙ ap h (add-neg G a) ∙ additive-zero)

module _ {K : Type 0} (R : RingOn K) where
  infixl 65 ◌⊕◌
  infixl 70 ◌⊗◌
  open R use {additive, monoid, zero, one, ◌⊕◌, ◌⊗◌, neg}

  pub mul-zero : (a : K) → a ⊗ zero ≡ zero
  mul-zero a = additive-zero additive additive (λ x. a ⊗ x) (R.mul-add a)

  pub zero-mul : (a : K) → zero ⊗ a ≡ zero
  zero-mul a = additive-zero additive additive (λ x. x ⊗ a) (λ x y. R.add-mul x y a)

  pub mul-neg : (a b : K) → a ⊗ neg b ≡ neg (a ⊗ b)
  mul-neg a b = additive-neg additive additive (λ x. a ⊗ x) (R.mul-add a) b

  pub neg-mul : (a b : K) → neg a ⊗ b ≡ neg (a ⊗ b)
  neg-mul a b = additive-neg additive additive (λ x. x ⊗ b) (λ x y. R.add-mul x y b) a

  -- the factors of what is not 0 are not 0
  pub left_ne_zero_of_mul : (a b : K) → a ⊗ b ≢ zero → a ≢ zero
  left_ne_zero_of_mul a b h e = h (ap (λ x. x ⊗ b) e ∙ zero-mul b)

  pub right_ne_zero_of_mul : (a b : K) → a ⊗ b ≢ zero → b ≢ zero
  right_ne_zero_of_mul a b h e = h (ap (λ x. a ⊗ x) e ∙ mul-zero a)

  -- what a factor with an inverse makes 0 is 0
  pub eq_zero_of_mul-unit : (a b u : K) → b ⊗ u ≡ one → a ⊗ b ≡ zero → a ≡ zero
  eq_zero_of_mul-unit a b u i e =
      sym (R.mul-one a) ∙ ap (λ x. a ⊗ x) (sym i) ∙ sym (R.mul_assoc a b u) ∙ ap (λ x. x ⊗ u) e ∙ zero-mul u
