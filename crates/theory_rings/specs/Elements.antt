-- The elements of a program's field as a type of their own: a field whose laws need no premise. The first projection
-- is a homomorphism by computation.
use Rattle.std.specs.Prelude.{◌≡◌, true}
use Rattle.std.proofs.Common.{◌∙◌, ap₂}
use Rattle.std.proofs.Math.Bool.{Bool-set}
use mathlib.Core.HLevel.{Σ_prop_path}
use Rattle.theory_rings.specs.Ring.{FieldOn}
use Rattle.theory_rings.specs.Ops.{Ops, IsElem, FieldLaws}

module _ {E : Type 0} (o : Ops E) where
  abbrev pub Elem : Type 0
  Elem = (x : E) × IsElem o x

  -- an element is its value
  pub Elem-path : (a b : Elem) → a.0 ≡ b.0 → a ≡ b
  Elem-path a b e = Σ_prop_path (λ x. Bool-set (o.is_elem x) true) {u = a} {v = b} e

module _ {E : Type 0} (o : Ops E) (L : FieldLaws o) where
  abbrev pub elements : FieldOn (Elem o)
  elements =
      let K : Type 0 = Elem o in
      let plus : K → K → K = λ a b. (o.add a.0 b.0, L.add-elem a.0 b.0 a.1 b.1) in
      let times : K → K → K = λ a b. (o.mul a.0 b.0, L.mul-elem a.0 b.0 a.1 b.1) in
      let minus : K → K = λ a. (o.neg a.0, L.neg-elem a.0 a.1) in
      let nought : K = (o.zero, L.zero-elem) in
      let unit : K = (o.one, L.one-elem) in
      let swap : (a b : K) → times a b ≡ times b a = λ a b.
      Elem-path o (times a b) (times b a) (L.mul_comm a.0 b.0 a.1 b.1) in
      let left : (a : K) → times unit a ≡ a = λ a. Elem-path o (times unit a) a (L.one-mul a.0 a.1) in
      let over : (a b c : K) → times a (plus b c) ≡ plus (times a b) (times a c) =
      λ a b c. Elem-path o (times a (plus b c)) (plus (times a b) (times a c)) (L.mul-add a.0 b.0 c.0 a.1 b.1 c.1) in
      record {
        cring = record {
          ring = record {
            additive = record {
              monoid = record {
                zero = nought;
                ◌⊕◌ = plus;
                add_assoc = λ a b c. Elem-path o (plus (plus a b) c) (plus a (plus b c))
                    (L.add_assoc a.0 b.0 c.0 a.1 b.1 c.1);
                add_comm = λ a b. Elem-path o (plus a b) (plus b a) (L.add_comm a.0 b.0 a.1 b.1);
                zero-add = λ a. Elem-path o (plus nought a) a (L.zero-add a.0 a.1);
              };
              neg = minus;
              neg-add = λ a. Elem-path o (plus (minus a) a) nought (L.neg-add a.0 a.1);
            };
            one = unit;
            ◌⊗◌ = times;
            mul_assoc = λ a b c. Elem-path o (times (times a b) c) (times a (times b c))
                (L.mul_assoc a.0 b.0 c.0 a.1 b.1 c.1);
            one-mul = left;
            mul-one = λ a. swap a unit ∙ left a;
            mul-add = over;
            add-mul = λ a b c. swap (plus a b) c ∙ over c a b ∙ ap₂ plus (swap c a) (swap c b);
          };
          mul_comm = swap;
        };
        inv = λ a. (o.inv a.0, L.inv-elem a.0 a.1);
        is_zero = λ a. o.is_zero a.0;
        zero_test = record {
          is_zero-sound = λ a e. Elem-path o a nought (L.is_zero-sound a.0 a.1 e);
          is_zero-zero = L.is_zero-zero;
        };
        one-nonzero = λ e. L.one-nonzero (λ i. (e i).0);
        inv-mul = λ a n. Elem-path o (times (o.inv a.0, L.inv-elem a.0 a.1) a) unit
            (L.inv-mul a.0 a.1 (λ e. n (Elem-path o a nought e)));
      }
