-- The laws of a field on a set have one proof.
use Rattle.std.specs.Prelude.{◌≡◌, Bool, true}
use mathlib.Core.Bool.{Bool-set}
use Rattle.theory_rings.specs.Ops.{Ops, IsElem, FieldLaws}

module _ {E : Type 0} (set : IsSet E) (o : Ops E) (L M : FieldLaws o) where
  bool : (a b : Bool) → IsProp (a ≡ b)
  bool = Bool-set

  elem : (a : E) → IsProp (IsElem o a)
  elem a = bool (o.is_elem a) true

  pub laws_unique : L ≡ M
  laws_unique = λ k. record {
    zero-elem = elem o.zero L.zero-elem M.zero-elem k;
    one-elem = elem o.one L.one-elem M.one-elem k;
    add-elem = λ a b x y. elem (o.add a b) (L.add-elem a b x y) (M.add-elem a b x y) k;
    neg-elem = λ a x. elem (o.neg a) (L.neg-elem a x) (M.neg-elem a x) k;
    mul-elem = λ a b x y. elem (o.mul a b) (L.mul-elem a b x y) (M.mul-elem a b x y) k;
    inv-elem = λ a x. elem (o.inv a) (L.inv-elem a x) (M.inv-elem a x) k;
    add_assoc = λ a b c x y z. set (o.add (o.add a b) c) (o.add a (o.add b c))
        (L.add_assoc a b c x y z) (M.add_assoc a b c x y z) k;
    add_comm = λ a b x y. set (o.add a b) (o.add b a) (L.add_comm a b x y) (M.add_comm a b x y) k;
    zero-add = λ a x. set (o.add o.zero a) a (L.zero-add a x) (M.zero-add a x) k;
    neg-add = λ a x. set (o.add (o.neg a) a) o.zero (L.neg-add a x) (M.neg-add a x) k;
    mul_assoc = λ a b c x y z. set (o.mul (o.mul a b) c) (o.mul a (o.mul b c))
        (L.mul_assoc a b c x y z) (M.mul_assoc a b c x y z) k;
    mul_comm = λ a b x y. set (o.mul a b) (o.mul b a) (L.mul_comm a b x y) (M.mul_comm a b x y) k;
    one-mul = λ a x. set (o.mul o.one a) a (L.one-mul a x) (M.one-mul a x) k;
    mul-add = λ a b c x y z. set (o.mul a (o.add b c)) (o.add (o.mul a b) (o.mul a c))
        (L.mul-add a b c x y z) (M.mul-add a b c x y z) k;
    is_zero-sound = λ a x e. set a o.zero (L.is_zero-sound a x e) (M.is_zero-sound a x e) k;
    is_zero-zero = bool (o.is_zero o.zero) true L.is_zero-zero M.is_zero-zero k;
    one-nonzero = λ e. absurd {A = L.one-nonzero e ≡ M.one-nonzero e} (L.one-nonzero e) k;
    inv-mul = λ a x n. set (o.mul (o.inv a) a) o.one (L.inv-mul a x n) (M.inv-mul a x n) k;
  }
