-- A field as a program has it: total functions on a type, a test of which values are its elements, and laws that
-- speak of elements alone.
use Rattle.std.specs.Prelude.{◌≡◌, Bool, true, IsTrue}

-- the operations; what they give outside the elements means nothing
pub record Ops (E : Type 0) : Type 0 where
  pub is_elem : E → Bool
  pub is_zero : E → Bool
  pub zero : E
  pub one : E
  pub add : E → E → E
  pub neg : E → E
  pub mul : E → E → E
  pub inv : E → E

abbrev pub IsElem : {E : Type 0} → Ops E → E → Type 0
IsElem o a = IsTrue (o.is_elem a)

-- the laws of a field, of its elements; the inverse of 0 is some element
pub record FieldLaws {E : Type 0} (o : Ops E) : Type 0 where
  pub zero-elem : IsElem o o.zero
  pub one-elem : IsElem o o.one
  pub add-elem : (a b : E) → IsElem o a → IsElem o b → IsElem o (o.add a b)
  pub neg-elem : (a : E) → IsElem o a → IsElem o (o.neg a)
  pub mul-elem : (a b : E) → IsElem o a → IsElem o b → IsElem o (o.mul a b)
  pub inv-elem : (a : E) → IsElem o a → IsElem o (o.inv a)
  pub add_assoc : (a b c : E) → IsElem o a → IsElem o b → IsElem o c → o.add (o.add a b) c ≡ o.add a (o.add b c)
  pub add_comm : (a b : E) → IsElem o a → IsElem o b → o.add a b ≡ o.add b a
  pub zero-add : (a : E) → IsElem o a → o.add o.zero a ≡ a
  pub neg-add : (a : E) → IsElem o a → o.add (o.neg a) a ≡ o.zero
  pub mul_assoc : (a b c : E) → IsElem o a → IsElem o b → IsElem o c → o.mul (o.mul a b) c ≡ o.mul a (o.mul b c)
  pub mul_comm : (a b : E) → IsElem o a → IsElem o b → o.mul a b ≡ o.mul b a
  pub one-mul : (a : E) → IsElem o a → o.mul o.one a ≡ a
  pub mul-add : (a b c : E) → IsElem o a → IsElem o b → IsElem o c → o.mul a (o.add b c) ≡ o.add (o.mul a b) (o.mul a c)
  pub is_zero-sound : (a : E) → IsElem o a → o.is_zero a ≡ true → a ≡ o.zero
  pub is_zero-zero : o.is_zero o.zero ≡ true
  pub one-nonzero : (o.one ≡ o.zero) → ⊥
  pub inv-mul : (a : E) → IsElem o a → (a ≡ o.zero → ⊥) → o.mul (o.inv a) a ≡ o.one
