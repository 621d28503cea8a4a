-- What follows from the laws of a program's field, and conditional values.
use Rattle.std.specs.Prelude.{◌≡◌, ◌≢◌, ℕ, Bool, true, false, cond, nat_eq}
use Rattle.std.proofs.Common.{refl, ◌∙◌, ap}
use Rattle.std.proofs.lemmas.Bool.{eq-eqb, ne_eqb}
use Rattle.theory_rings.specs.Ops.{Ops, IsElem, FieldLaws}
use Rattle.theory_rings.specs.Elements.{elements}
use Rattle.theory_rings.proofs.Rings.RingLaws as ring

module _ {E : Type 0} (o : Ops E) (L : FieldLaws o) where
  pub add-zero : (a : E) → IsElem o a → o.add a o.zero ≡ a
  add-zero a h = ap (λ x. x.0) (ring.add-zero (elements o L).monoid (a, h))

  pub add-neg : (a : E) → IsElem o a → o.add a (o.neg a) ≡ o.zero
  add-neg a h = ap (λ x. x.0) (ring.add-neg (elements o L).additive (a, h))

  pub neg-zero : o.neg o.zero ≡ o.zero
  neg-zero = ap (λ x. x.0) (ring.neg_zero (elements o L).additive)

  pub mul-one : (a : E) → IsElem o a → o.mul a o.one ≡ a
  mul-one a h = ap (λ x. x.0) ((elements o L).mul-one (a, h))

  pub mul-zero : (a : E) → IsElem o a → o.mul a o.zero ≡ o.zero
  mul-zero a h = ap (λ x. x.0) (ring.mul-zero (elements o L).ring (a, h))

  pub zero-mul : (a : E) → IsElem o a → o.mul o.zero a ≡ o.zero
  zero-mul a h = ap (λ x. x.0) (ring.zero-mul (elements o L).ring (a, h))

  pub add-mul : (x y z : E) → IsElem o x → IsElem o y → IsElem o z → o.mul (o.add x y) z ≡ o.add (o.mul x z) (o.mul y z)
  add-mul x y z hx hy hz = ap (λ x. x.0) ((elements o L).add-mul (x, hx) (y, hy) (z, hz))

  pub mul-inv : (a : E) → IsElem o a → a ≢ o.zero → o.mul a (o.inv a) ≡ o.one
  mul-inv a h n = L.mul_comm a (o.inv a) h (L.inv-elem a h) ∙ L.inv-mul a h n

pub cond_yes : {E : Type 0} (i s : ℕ) (x y : E) → i ≡ s → cond (nat_eq i s) x y ≡ x
cond_yes i s x y e = rw (eq-eqb i s e) refl

pub cond_no : {E : Type 0} (i s : ℕ) (x y : E) → i ≢ s → cond (nat_eq i s) x y ≡ y
cond_no i s x y e = rw (ne_eqb i s e) refl

-- what holds of both values holds of either
pub cond_either : {X : Type 0} (P : X → Type 0) (b : Bool) (x y : X) → P x → P y → P (cond b x y)
cond_either P true x y px py = px
cond_either P false x y px py = py
