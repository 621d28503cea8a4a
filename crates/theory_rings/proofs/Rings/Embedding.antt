-- Laws carried back along a map that is one to one and keeps the operations: from a ring, from a commutative ring,
-- and from a commutative ring to a program's field.
use Rattle.std.specs.Prelude.{◌≡◌, true}
use Rattle.std.proofs.Common.{sym, ◌∙◌, ap, ap₂}
use Rattle.theory_rings.specs.Ring.{RingOn, CommRingOn}
use Rattle.theory_rings.specs.Ops.{Ops, IsElem, FieldLaws}
use Rattle.theory_rings.specs.Elements.{Elem, Elem-path}

-- operations on A, and a one-to-one map that carries them to those of a ring
pub record RingEmbedding (A : Type 0) {B : Type 0} (S : RingOn B) : Type 0 where
  pub zero : A
  pub one : A
  pub add : A → A → A
  pub neg : A → A
  pub mul : A → A → A
  pub map : A → B
  pub injective : (a b : A) → map a ≡ map b → a ≡ b
  pub map-zero : map zero ≡ S.zero
  pub map-one : map one ≡ S.one
  pub map-add : (a b : A) → map (add a b) ≡ S.◌⊕◌ (map a) (map b)
  pub map-neg : (a : A) → map (neg a) ≡ S.neg (map a)
  pub map-mul : (a b : A) → map (mul a b) ≡ S.◌⊗◌ (map a) (map b)

module _ {A B : Type 0} (S : RingOn B) (m : RingEmbedding A S) where
  infixl 65 ◌⊕◌
  infixl 70 ◌⊗◌
  open S use {◌⊕◌, ◌⊗◌, neg}
  open m use {map, add, mul, zero, one, map-add, map-mul, map-zero, map-one}

  -- such operations are a ring
  abbrev pub embedded_ring : RingOn A
  embedded_ring = record {
    additive = record {
      monoid = record {
        zero = zero;
        ◌⊕◌ = add;
        add_assoc = λ a b c. m.injective (add (add a b) c) (add a (add b c))
            (map-add (add a b) c ∙ ap (λ x. x ⊕ map c) (map-add a b) ∙ S.add_assoc (map a) (map b) (map c)
            ∙ sym (map-add a (add b c) ∙ ap (λ x. map a ⊕ x) (map-add b c)));
        add_comm = λ a b. m.injective (add a b) (add b a)
            (map-add a b ∙ S.add_comm (map a) (map b) ∙ sym (map-add b a));
        zero-add = λ a. m.injective (add zero a) a (map-add zero a ∙ ap (λ x. x ⊕ map a) map-zero ∙ S.zero-add (map a));
      };
      neg = m.neg;
      neg-add = λ a. m.injective (add (m.neg a) a) zero
          (map-add (m.neg a) a ∙ ap (λ x. x ⊕ map a) (m.map-neg a) ∙ S.neg-add (map a) ∙ sym map-zero);
    };
    one = one;
    ◌⊗◌ = mul;
    mul_assoc = λ a b c. m.injective (mul (mul a b) c) (mul a (mul b c))
        (map-mul (mul a b) c ∙ ap (λ x. x ⊗ map c) (map-mul a b) ∙ S.mul_assoc (map a) (map b) (map c)
        ∙ sym (map-mul a (mul b c) ∙ ap (λ x. map a ⊗ x) (map-mul b c)));
    one-mul = λ a. m.injective (mul one a) a (map-mul one a ∙ ap (λ x. x ⊗ map a) map-one ∙ S.one-mul (map a));
    mul-one = λ a. m.injective (mul a one) a (map-mul a one ∙ ap (λ x. map a ⊗ x) map-one ∙ S.mul-one (map a));
    mul-add = λ a b c. m.injective (mul a (add b c)) (add (mul a b) (mul a c))
        (map-mul a (add b c) ∙ ap (λ x. map a ⊗ x) (map-add b c) ∙ S.mul-add (map a) (map b) (map c)
        ∙ sym (map-add (mul a b) (mul a c) ∙ ap₂ (λ x y. x ⊕ y) (map-mul a b) (map-mul a c)));
    add-mul = λ a b c. m.injective (mul (add a b) c) (add (mul a c) (mul b c))
        (map-mul (add a b) c ∙ ap (λ x. x ⊗ map c) (map-add a b) ∙ S.add-mul (map a) (map b) (map c)
        ∙ sym (map-add (mul a c) (mul b c) ∙ ap₂ (λ x y. x ⊕ y) (map-mul a c) (map-mul b c)));
  }

module _ {A B : Type 0} (S : CommRingOn B) (m : RingEmbedding A S.ring) where
  -- and a commutative ring if they are carried to those of one
  abbrev pub embedded_comm_ring : CommRingOn A
  embedded_comm_ring = record {
    ring = embedded_ring S.ring m;
    mul_comm = λ a b. m.injective (m.mul a b) (m.mul b a)
        (m.map-mul a b ∙ S.mul_comm (m.map a) (m.map b) ∙ sym (m.map-mul b a));
  }

-- a program's operations, and a one-to-one map that carries those on its elements to those of a commutative ring,
-- where each element but 0 has its inverse and the test of 0 is right
pub record FieldEmbedding {E K : Type 0} (o : Ops E) (S : CommRingOn K) : Type 0 where
  pub zero-elem : IsElem o o.zero
  pub one-elem : IsElem o o.one
  pub add-elem : (a b : E) → IsElem o a → IsElem o b → IsElem o (o.add a b)
  pub neg-elem : (a : E) → IsElem o a → IsElem o (o.neg a)
  pub mul-elem : (a b : E) → IsElem o a → IsElem o b → IsElem o (o.mul a b)
  pub inv-elem : (a : E) → IsElem o a → IsElem o (o.inv a)
  pub map : Elem o → K
  pub injective : (a b : Elem o) → map a ≡ map b → a.0 ≡ b.0
  pub map-zero : map (o.zero, zero-elem) ≡ S.zero
  pub map-one : map (o.one, one-elem) ≡ S.one
  pub map-add : (a b : Elem o) → map (o.add a.0 b.0, add-elem a.0 b.0 a.1 b.1) ≡ S.◌⊕◌ (map a) (map b)
  pub map-neg : (a : Elem o) → map (o.neg a.0, neg-elem a.0 a.1) ≡ S.neg (map a)
  pub map-mul : (a b : Elem o) → map (o.mul a.0 b.0, mul-elem a.0 b.0 a.1 b.1) ≡ S.◌⊗◌ (map a) (map b)
  pub map-inv : (a : Elem o) → (a.0 ≡ o.zero → ⊥) → S.◌⊗◌ (map (o.inv a.0, inv-elem a.0 a.1)) (map a) ≡ S.one
  pub is_zero-sound : (a : E) → IsElem o a → o.is_zero a ≡ true → a ≡ o.zero
  pub is_zero-zero : o.is_zero o.zero ≡ true
  pub one-nonzero : S.one ≡ S.zero → ⊥

module _ {E K : Type 0} (o : Ops E) (S : CommRingOn K) (m : FieldEmbedding o S) where
  infixl 65 ◌⊕◌
  infixl 70 ◌⊗◌
  open S use {◌⊕◌, ◌⊗◌}
  open m use {map, map-add, map-mul}

  abbrev plus : Elem o → Elem o → Elem o
  plus a b = (o.add a.0 b.0, m.add-elem a.0 b.0 a.1 b.1)

  abbrev times : Elem o → Elem o → Elem o
  times a b = (o.mul a.0 b.0, m.mul-elem a.0 b.0 a.1 b.1)

  abbrev minus : Elem o → Elem o
  minus a = (o.neg a.0, m.neg-elem a.0 a.1)

  abbrev inverse : Elem o → Elem o
  inverse a = (o.inv a.0, m.inv-elem a.0 a.1)

  abbrev nought : Elem o
  nought = (o.zero, m.zero-elem)

  abbrev unit : Elem o
  unit = (o.one, m.one-elem)

  embedded-add_assoc : (a b c : Elem o) → (plus (plus a b) c).0 ≡ (plus a (plus b c)).0
  embedded-add_assoc a b c = m.injective (plus (plus a b) c) (plus a (plus b c))
      (map-add (plus a b) c ∙ ap (λ x. x ⊕ map c) (map-add a b) ∙ S.add_assoc (map a) (map b) (map c)
      ∙ sym (map-add a (plus b c) ∙ ap (λ x. map a ⊕ x) (map-add b c)))

  embedded-mul_assoc : (a b c : Elem o) → (times (times a b) c).0 ≡ (times a (times b c)).0
  embedded-mul_assoc a b c = m.injective (times (times a b) c) (times a (times b c))
      (map-mul (times a b) c ∙ ap (λ x. x ⊗ map c) (map-mul a b) ∙ S.mul_assoc (map a) (map b) (map c)
      ∙ sym (map-mul a (times b c) ∙ ap (λ x. map a ⊗ x) (map-mul b c)))

  embedded-mul-add : (a b c : Elem o) → (times a (plus b c)).0 ≡ (plus (times a b) (times a c)).0
  embedded-mul-add a b c = m.injective (times a (plus b c)) (plus (times a b) (times a c))
      (map-mul a (plus b c) ∙ ap (λ x. map a ⊗ x) (map-add b c) ∙ S.mul-add (map a) (map b) (map c)
      ∙ sym (map-add (times a b) (times a c) ∙ ap₂ (λ x y. x ⊕ y) (map-mul a b) (map-mul a c)))

  -- such operations are a field
  pub embedded_field : FieldLaws o
  embedded_field = record {
    zero-elem = m.zero-elem;
    one-elem = m.one-elem;
    add-elem = m.add-elem;
    neg-elem = m.neg-elem;
    mul-elem = m.mul-elem;
    inv-elem = m.inv-elem;
    add_assoc = λ a b c ea eb ec. embedded-add_assoc (a, ea) (b, eb) (c, ec);
    add_comm = λ a b ea eb.
        let x : Elem o = (a, ea) in
        let y : Elem o = (b, eb) in
        m.injective (plus x y) (plus y x) (map-add x y ∙ S.add_comm (map x) (map y) ∙ sym (map-add y x));
    zero-add = λ a ea.
        let x : Elem o = (a, ea) in
        m.injective (plus nought x) x (map-add nought x ∙ ap (λ z. z ⊕ map x) m.map-zero ∙ S.zero-add (map x));
    neg-add = λ a ea.
        let x : Elem o = (a, ea) in
        m.injective (plus (minus x) x) nought
        (map-add (minus x) x ∙ ap (λ z. z ⊕ map x) (m.map-neg x) ∙ S.neg-add (map x) ∙ sym m.map-zero);
    mul_assoc = λ a b c ea eb ec. embedded-mul_assoc (a, ea) (b, eb) (c, ec);
    mul_comm = λ a b ea eb.
        let x : Elem o = (a, ea) in
        let y : Elem o = (b, eb) in
        m.injective (times x y) (times y x) (map-mul x y ∙ S.mul_comm (map x) (map y) ∙ sym (map-mul y x));
    one-mul = λ a ea.
        let x : Elem o = (a, ea) in
        m.injective (times unit x) x (map-mul unit x ∙ ap (λ z. z ⊗ map x) m.map-one ∙ S.one-mul (map x));
    mul-add = λ a b c ea eb ec. embedded-mul-add (a, ea) (b, eb) (c, ec);
    is_zero-sound = m.is_zero-sound;
    is_zero-zero = m.is_zero-zero;
    one-nonzero = λ e. m.one-nonzero (sym m.map-one ∙ ap map (Elem-path o unit nought e) ∙ m.map-zero);
    inv-mul = λ a ea n.
        let x : Elem o = (a, ea) in
        m.injective (times (inverse x) x) unit (map-mul (inverse x) x ∙ m.map-inv x n ∙ sym m.map-one);
  }
