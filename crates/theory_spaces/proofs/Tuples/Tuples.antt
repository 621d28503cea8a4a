-- Tuples are a module over the field of elements, and a space of coordinates.
use Rattle.std.specs.Prelude.{◌≡◌, ℕ, ◌<◌, Bool, true, false, IsTrue, cond, eqb, List, length}
use Rattle.std.specs.List.{list_all}
use Rattle.std.proofs.Common.{refl, sym, ◌∙◌, ap, ap₂, arith, ext_get_or}
use Rattle.std.proofs.Math.Bool.{Bool-set}
use Rattle.std.proofs.lemmas.Bool.{eq-eqb, eqb-true, and_from, and_parts}
use Rattle.std.proofs.lemmas.List.Sums.{AllPass-from_list_all, list_all-from_AllPass}
use mathlib.Core.HLevel.{Σ_prop_path}
use Rattle.theory_rings.specs.Ring.{FieldOn, AddCommGroupOn}
use Rattle.theory_rings.specs.Ops.{Ops, IsElem, FieldLaws}
use Rattle.theory_rings.specs.Elements.{Elem, Elem-path, elements}
use Rattle.theory_rings.specs.Sum.{table, at}
use Rattle.theory_rings.proofs.Sums.Lists.{length-table, get_or-table, table_congr, All-table}
use Rattle.theory_rings.proofs.Rings.Elements.{at-elem}
use Rattle.theory_spaces.specs.Module.{ModuleOn}
use Rattle.theory_spaces.specs.Matrix.{delta}
use Rattle.theory_spaces.specs.Space.{SpaceOn}
use Rattle.theory_spaces.specs.Tuples.{IsTuple, is_tuple, Tuple, tuple_zero, tuple_add, tuple_neg, tuple_scale, basis}
use Rattle.theory_spaces.proofs.Tuples.Tables.{unit}

module _ {E : Type 0} (o : Ops E) where
  pub at-table : (n : ℕ) (f : ℕ → E) (k : ℕ) → k < n → at o (table n f) k ≡ f k
  at-table n f k l = get_or-table n f k o.zero l

  pub IsTuple-is_tuple : (n : ℕ) (xs : List E) → IsTuple o n xs → IsTrue (is_tuple o n xs)
  IsTuple-is_tuple n xs h =
      and_from (eqb (length xs) n) (list_all o.is_elem xs) (eq-eqb (length xs) n h.right_length)
      (list_all-from_AllPass o.is_elem xs h.of_elements)

  pub is_tuple-IsTuple : (n : ℕ) (xs : List E) → IsTrue (is_tuple o n xs) → IsTuple o n xs
  is_tuple-IsTuple n xs h = record {
    right_length = eqb-true (length xs) n (and_parts (eqb (length xs) n) (list_all o.is_elem xs) h).0;
    of_elements = AllPass-from_list_all o.is_elem xs (and_parts (eqb (length xs) n) (list_all o.is_elem xs) h).1;
  }

  pub IsTuple-table : (n : ℕ) (f : ℕ → E) → ((k : ℕ) → k < n → IsElem o (f k)) → IsTuple o n (table n f)
  IsTuple-table n f h = record { right_length = length-table n f; of_elements = All-table (IsElem o) n f h }

  pub IsTuple-ext : (n : ℕ) (a b : List E) → IsTuple o n a → IsTuple o n b → ((k : ℕ) → k < n → at o a k ≡ at o b k)
      → a ≡ b
  IsTuple-ext n a b ha hb h =
      ext_get_or o.zero a b (ha.right_length ∙ sym hb.right_length)
      (λ i l. let e = ha.right_length in h i (omega arith))

module _ {E : Type 0} (o : Ops E) (L : FieldLaws o) where
  module _ (n : ℕ) where
    abbrev K : FieldOn (Elem o)
    K = elements o L

    -- a tuple from its entries
    abbrev pub make : (ℕ → Elem o) → Tuple o n
    make f = (
      table n (λ k. (f k).0),
      IsTuple-is_tuple o n (table n (λ k. (f k).0)) (IsTuple-table o n (λ k. (f k).0) (λ k l. (f k).1)),
    )

    -- the entries of a tuple, and zero past its end
    abbrev pub entry : Tuple o n → ℕ → Elem o
    entry a k = (at o a.0 k, at-elem o L a.0 (is_tuple-IsTuple o n a.0 a.1).of_elements k)

    pub entry-make : (f : ℕ → Elem o) (k : ℕ) → k < n → entry (make f) k ≡ f k
    entry-make f k l = Elem-path o (entry (make f) k) (f k) (at-table o n (λ k. (f k).0) k l)

    pub Tuple-path : (a b : Tuple o n) → a.0 ≡ b.0 → a ≡ b
    Tuple-path a b e = Σ_prop_path (λ x. Bool-set (is_tuple o n x) true) {u = a} {v = b} e

    pub Tuple-ext : (a b : Tuple o n) → ((k : ℕ) → k < n → entry a k ≡ entry b k) → a ≡ b
    Tuple-ext a b h = Tuple-path a b
        (IsTuple-ext o n a.0 b.0 (is_tuple-IsTuple o n a.0 a.1) (is_tuple-IsTuple o n b.0 b.1)
        (λ k l. ap (λ (x : Elem o). x.0) (h k l)))

    pub make_congr : (f g : ℕ → Elem o) → ((k : ℕ) → k < n → f k ≡ g k) → make f ≡ make g
    make_congr f g h = Tuple-ext (make f) (make g) (λ k l. entry-make f k l ∙ h k l ∙ sym (entry-make g k l))

    pub make-entry : (f : ℕ → Elem o) (a : Tuple o n) → ((k : ℕ) → k < n → f k ≡ entry a k) → make f ≡ a
    make-entry f a h = Tuple-ext (make f) a (λ k l. entry-make f k l ∙ h k l)

    unfoldable pub plus : Tuple o n → Tuple o n → Tuple o n
    plus a b = make (λ k. K.◌⊕◌ (entry a k) (entry b k))

    unfoldable pub times : Elem o → Tuple o n → Tuple o n
    times c a = make (λ k. K.◌⊗◌ c (entry a k))

    pub plus-at : (a b : Tuple o n) (k : ℕ) → k < n → entry (plus a b) k ≡ K.◌⊕◌ (entry a k) (entry b k)
    unfolding plus
    plus-at a b k l = entry-make (λ k. K.◌⊕◌ (entry a k) (entry b k)) k l

    pub times-at : (c : Elem o) (a : Tuple o n) (k : ℕ) → k < n → entry (times c a) k ≡ K.◌⊗◌ c (entry a k)
    unfolding times
    times-at c a k l = entry-make (λ k. K.◌⊗◌ c (entry a k)) k l

    unfoldable pub tuples_add : AddCommGroupOn (Tuple o n)
    tuples_add = record {
      monoid = record {
        zero = make (λ k. K.zero);
        ◌⊕◌ = plus;
        add_assoc = λ a b c. Tuple-ext (plus (plus a b) c) (plus a (plus b c)) (λ k l.
            plus-at (plus a b) c k l ∙ ap (λ x. K.◌⊕◌ x (entry c k)) (plus-at a b k l)
            ∙ K.add_assoc (entry a k) (entry b k) (entry c k)
            ∙ ap (λ x. K.◌⊕◌ (entry a k) x) (sym (plus-at b c k l)) ∙ sym (plus-at a (plus b c) k l));
        add_comm = λ a b. Tuple-ext (plus a b) (plus b a)
            (λ k l. plus-at a b k l ∙ K.add_comm (entry a k) (entry b k) ∙ sym (plus-at b a k l));
        zero-add = λ a. Tuple-ext (plus (make (λ k. K.zero)) a) a (λ k l.
            plus-at (make (λ k. K.zero)) a k l ∙ ap (λ x. K.◌⊕◌ x (entry a k)) (entry-make (λ k. K.zero) k l)
            ∙ K.zero-add (entry a k));
      };
      neg = λ a. make (λ k. K.neg (entry a k));
      neg-add = λ a. Tuple-ext (plus (make (λ k. K.neg (entry a k))) a) (make (λ k. K.zero)) (λ k l.
          plus-at (make (λ k. K.neg (entry a k))) a k l
          ∙ ap (λ x. K.◌⊕◌ x (entry a k)) (entry-make (λ k. K.neg (entry a k)) k l)
          ∙ K.neg-add (entry a k) ∙ sym (entry-make (λ k. K.zero) k l));
    }

    -- the tuples as a module over the field of elements
    unfoldable pub tuples : ModuleOn K.ring (Tuple o n)
    unfolding tuples_add
    tuples = record {
      additive = tuples_add;
      scalars = record {
        ◌•◌ = times;
        scale-add = λ c a b. Tuple-ext (times c (plus a b)) (plus (times c a) (times c b)) (λ k l.
            times-at c (plus a b) k l ∙ ap (λ x. K.◌⊗◌ c x) (plus-at a b k l) ∙ K.mul-add c (entry a k) (entry b k)
            ∙ ap₂ K.◌⊕◌ (sym (times-at c a k l)) (sym (times-at c b k l)) ∙ sym (plus-at (times c a) (times c b) k l));
        add-scale = λ c d a. Tuple-ext (times (K.◌⊕◌ c d) a) (plus (times c a) (times d a)) (λ k l.
            times-at (K.◌⊕◌ c d) a k l ∙ K.add-mul c d (entry a k)
            ∙ ap₂ K.◌⊕◌ (sym (times-at c a k l)) (sym (times-at d a k l)) ∙ sym (plus-at (times c a) (times d a) k l));
        mul-scale = λ c d a. Tuple-ext (times (K.◌⊗◌ c d) a) (times c (times d a)) (λ k l.
            times-at (K.◌⊗◌ c d) a k l ∙ K.mul_assoc c d (entry a k) ∙ ap (λ x. K.◌⊗◌ c x) (sym (times-at d a k l))
            ∙ sym (times-at c (times d a) k l));
        one-scale = λ a. Tuple-ext (times K.one a) a (λ k l. times-at K.one a k l ∙ K.one-mul (entry a k));
      };
    }

    -- tuples are their entries
    unfoldable pub tuple_space : SpaceOn tuples n
    unfolding tuples tuples_add
    tuple_space = record {
      coord = entry;
      make = make;
      coord-make = entry-make;
      ext = Tuple-ext;
      coord-zero = entry-make (λ k. K.zero);
      coord-add = plus-at;
      coord-scale = times-at;
    }

    -- the operations are those on lists
    pub tuples-zero : tuples.zero.0 ≡ tuple_zero o n
    unfolding tuples tuples_add
    tuples-zero = refl

    pub tuples-add : (a b : Tuple o n) → (tuples.◌⊕◌ a b).0 ≡ tuple_add o n a.0 b.0
    unfolding tuples tuples_add plus
    tuples-add a b = refl

    pub tuples-neg : (a : Tuple o n) → (tuples.neg a).0 ≡ tuple_neg o n a.0
    unfolding tuples tuples_add
    tuples-neg a = refl

    pub tuples-scale : (c : Elem o) (a : Tuple o n) → (tuples.◌•◌ c a).0 ≡ tuple_scale o n c.0 a.0
    unfolding tuples times
    tuples-scale c a = refl

    pub unit-basis : (i : ℕ) → (unit tuples n tuple_space i).0 ≡ basis o n i
    unfolding tuple_space unit
    unit-basis i = table_congr n (λ k. (delta K.ring k i).0) (λ k. cond (eqb k i) o.one o.zero) (λ k l. value (eqb k i))
      where
        value : (b : Bool) → (cond b K.one K.zero).0 ≡ cond b o.one o.zero
        value true = refl
        value false = refl
