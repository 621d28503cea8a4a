-- Products and powers of spans: rows that hold the products of two lists of rows, and nilpotent ideals by powers.
use Rattle.std.specs.Prelude.{◌≡◌, ◌<◌, ℕ, zero, suc, List, [], length, get_or}
use Rattle.std.specs.List.{All}
use Rattle.std.proofs.Common.{refl, sym, ◌∙◌, ap, ap₂, subst, arith}
use Rattle.theory_rings.specs.Ring.{FieldOn}
use Rattle.theory_rings.specs.Ops.{Ops, IsElem, FieldLaws}
use Rattle.theory_rings.specs.Elements.{Elem, elements}
use Rattle.theory_rings.specs.Sum.{sum}
use Rattle.theory_spaces.specs.Module.{ModuleOn}
use Rattle.theory_spaces.specs.Linear.{InSpan}
use Rattle.theory_spaces.specs.Space.{ProductOn}
use Rattle.theory_spaces.specs.Sets.{RingOps, Within, Product, Products, total}
use Rattle.theory_spaces.specs.Tuples.{IsTuple, Tuple, tuple_zero, tuple_add, tuple_scale, product}
use Rattle.theory_tables.proofs.Algebras.SetPowers.{RingLawsOn, power_vanishes, products_vanish, products_vanish_more}
use Rattle.theory_spaces.proofs.Linear.Modules.{InSpan-zero, InSpan-add, InSpan-scale}
use Rattle.theory_spaces.proofs.Tuples.Tables.{product_left, product_right}
use Rattle.theory_spaces.proofs.Tuples.Tuples.{tuples, tuples-zero, tuples-add, tuples-scale}
use Rattle.theory_spaces.proofs.Tuples.TupleProducts.{tuple_product, tuple_product-list, IsTuple-product, add-product}
use Rattle.theory_spaces.proofs.Tuples.TupleProducts.{scale-product, product_assoc, product-one}
use Rattle.theory_spaces.proofs.Linear.Modules.{map-zero}
use Rattle.theory_tables.specs.Matrix.{IsMatrix}
use Rattle.theory_tables.specs.Subspace as rows_of
use Rattle.theory_tables.specs.Subspace.{Combinations}
use Rattle.theory_tables.specs.Structure.{Structure, tuple_ops}
use Rattle.theory_tables.specs.Powers.{SpansProducts, NilpotentByPowersLaw}
use Rattle.theory_tables.proofs.Algebras.Bridge.{as_tuple, IsTuple-of, row, row-is, to_span, from_span, map_span}

module _ {E : Type 0} (o : Ops E) (L : FieldLaws o) (A : Structure E) (constants : All (IsElem o) A.constants) where
  abbrev m : ℕ
  m = A.dim

  abbrev cs : List E
  cs = A.constants

  abbrev K : FieldOn (Elem o)
  K = elements o L

  abbrev M : ModuleOn K.ring (Tuple o m)
  M = tuples o L m

  abbrev P : ProductOn M
  P = tuple_product o L m cs constants

  abbrev S : RingOps (List E)
  S = tuple_ops o A

  product-is : (x y : Tuple o m) → (P.◌⊗◌ x y).0 ≡ product o m cs x.0 y.0
  product-is = tuple_product-list o L m cs constants

  -- sums of tuples and of lists
  total-is : (n : ℕ) (f : ℕ → Tuple o m) → (sum M.monoid n f).0 ≡ total S n (λ i. (f i).0)
  total-is zero f = tuples-zero o L m
  total-is (suc n) f = tuples-add o L m (sum M.monoid n f) (f n)
      ∙ ap (λ xs. tuple_add o m xs (f n).0) (total-is n f)

  module _ (rows : List (List E)) (shape : IsMatrix o m rows) where
    abbrev v : ℕ → Tuple o m
    v = row o L m rows shape

    abbrev In : Tuple o m → Type 0
    In = InSpan M (length rows) v

    to_in : (x : Tuple o m) (a : List E) → x.0 ≡ a → rows_of.InSpan o m rows a → In x
    to_in x a e h = to_span o L m rows shape x (let T : List E → Type 0 = rows_of.InSpan o m rows in subst T (sym e) h)

    from_in : (x : Tuple o m) (a : List E) → x.0 ≡ a → In x → Combinations o m rows a
    from_in x a e h = subst (Combinations o m rows) e (IsTuple-of o L m x, from_span o L m rows shape x h)

    combination-zero : Combinations o m rows (tuple_zero o m)
    combination-zero = from_in M.zero (tuple_zero o m) (tuples-zero o L m) (InSpan-zero M (length rows) v)

    combination-add : (a b : List E) → Combinations o m rows a → Combinations o m rows b
        → Combinations o m rows (tuple_add o m a b)
    combination-add a b ha hb =
        let x = as_tuple o L m a ha.0 in
        let y = as_tuple o L m b hb.0 in
        from_in (M.◌⊕◌ x y) (tuple_add o m a b) (tuples-add o L m x y)
        (InSpan-add M (length rows) v x y (to_in x a refl ha.1) (to_in y b refl hb.1))

    combination-scale : (c : Elem o) (a : List E) → Combinations o m rows a
        → Combinations o m rows (tuple_scale o m c.0 a)
    combination-scale c a ha =
        let x = as_tuple o L m a ha.0 in
        from_in (M.◌•◌ c x) (tuple_scale o m c.0 a) (tuples-scale o L m c x)
        (InSpan-scale M (length rows) v c x (to_in x a refl ha.1))

    combination-total : (n : ℕ) (f : ℕ → List E) → ((i : ℕ) → i < n → Combinations o m rows (f i))
        → Combinations o m rows (total S n f)
    combination-total zero f h = combination-zero
    combination-total (suc n) f h =
        combination-add (total S n f) (f n) (combination-total n f (λ i l. h i (omega arith)))
        (h n (omega arith))

  -- rows that hold the products of the rows of a and b, and are such products, span the sums of products
  module _ (a b rows : List (List E)) (sa : IsMatrix o m a) (sb : IsMatrix o m b) (shape : IsMatrix o m rows)
      (holds : (r s : ℕ) → r < length a → s < length b
      → rows_of.InSpan o m rows (product o m cs (get_or a r []) (get_or b s [])))
      (only : (t : ℕ) → t < length rows
      → Product S (Combinations o m a) (Combinations o m b) (get_or rows t [])) where
    abbrev Ia : Tuple o m → Type 0
    Ia = InSpan M (length a) (row o L m a sa)

    product_in : (x y : Tuple o m) → Ia x → InSpan M (length b) (row o L m b sb) y → In rows shape (P.◌⊗◌ x y)
    product_in x y hx hy =
        let u = row o L m a sa in
        let w = row o L m b sb in
        map_span M M (λ z. P.◌⊗◌ z y) (product_right M P y) (length a) u x hx (length rows)
        (v rows shape) (λ r r_in.
        map_span M M (λ z. P.◌⊗◌ (u r) z) (product_left M P (u r)) (length b) w y hy
        (length rows) (v rows shape) (λ s s_in.
        to_in rows shape (P.◌⊗◌ (u r) (w s)) (product o m cs (get_or a r []) (get_or b s []))
        (product-is (u r) (w s) ∙ ap₂ (product o m cs) (row-is o L m a sa r r_in) (row-is o L m b sb s s_in))
        (holds r s r_in s_in)))

    sums_in : Within (Products S (Combinations o m a) (Combinations o m b)) (Combinations o m rows)
    sums_in x h = subst (Combinations o m rows) (sym h.gives) (combination-total rows shape h.size h.term (λ i l.
        let k = h.each i l in
        let y = as_tuple o L m k.0 k.2.0 in
        let z = as_tuple o L m k.1 k.3.0 in
        from_in rows shape (P.◌⊗◌ y z) (h.term i) (product-is y z ∙ sym k.4)
        (product_in y z (to_span o L m a sa y k.2.1) (to_span o L m b sb z k.3.1))))

    in_sums : Within (Combinations o m rows) (Products S (Combinations o m a) (Combinations o m b))
    in_sums x h =
        let y = as_tuple o L m x h.0 in
        let s = to_span o L m rows shape y h.1 in
        let f : ℕ → Tuple o m = λ t. M.◌•◌ (s.weights t) (v rows shape t) in
        record {
          size = length rows;
          term = λ t. (f t).0;
          each = λ t t_in.
              let k = only t t_in in
              let c = s.weights t in (
                tuple_scale o m c.0 k.0,
                k.1,
                combination-scale a sa c k.0 k.2,
                k.3,
                tuples-scale o L m c (v rows shape t)
                    ∙ ap (tuple_scale o m c.0) (row-is o L m rows shape t t_in ∙ k.4)
                    ∙ sym (scale-product o L m cs constants c.0 k.0 k.1 c.1 k.2.0 k.3.0),
              );
          gives = ap (λ (z : Tuple o m). z.0) s.combines ∙ total-is (length rows) f;
        }

    pub spans_products : SpansProducts o A a b rows
    spans_products = (in_sums, sums_in)

module _ {E : Type 0} (o : Ops E) (L : FieldLaws o) (A : Structure E) where
  -- powers of an ideal tell whether it is nilpotent
  pub nilpotent_by_powers : NilpotentByPowersLaw o A
  nilpotent_by_powers over assoc one is_one rows ideal =
      let m = A.dim in
      let cs = A.constants in
      let g = over.of_elements in
      let M = tuples o L m in
      let P = tuple_product o L m cs g in
      let tuple = as_tuple o L m in
      let J = Combinations o m rows in
      let S = tuple_ops o A in
      let laws : RingLawsOn S (IsTuple o m) one = record {
        one_in = is_one.tuple;
        zero_in = rw (← (tuples-zero o L m)) (IsTuple-of o L m M.zero);
        add_in = λ x y hx hy. rw (← (tuples-add o L m (tuple x hx) (tuple y hy)))
            (IsTuple-of o L m (M.◌⊕◌ (tuple x hx) (tuple y hy)));
        mul_in = λ x y hx hy. IsTuple-product o L m cs g x y hx hy;
        zero-add = λ x hx. ap (λ z. tuple_add o m z x) (sym (tuples-zero o L m))
            ∙ sym (tuples-add o L m M.zero (tuple x hx)) ∙ ap (λ (z : Tuple o m). z.0) (M.zero-add (tuple x hx));
        add-mul = λ x y z hx hy hz. add-product o L m cs g x y z hx hy hz;
        zero-mul = λ x hx. ap (λ z. product o m cs z x) (sym (tuples-zero o L m))
            ∙ sym (tuple_product-list o L m cs g M.zero (tuple x hx))
            ∙ ap (λ (z : Tuple o m). z.0) (map-zero M M (λ z. P.◌⊗◌ z (tuple x hx))
            (product_right M P (tuple x hx)))
            ∙ tuples-zero o L m;
        mul-zero = λ x hx. ap (product o m cs x) (sym (tuples-zero o L m))
            ∙ sym (tuple_product-list o L m cs g (tuple x hx) M.zero)
            ∙ ap (λ (z : Tuple o m). z.0) (map-zero M M (λ z. P.◌⊗◌ (tuple x hx) z)
            (product_left M P (tuple x hx)))
            ∙ tuples-zero o L m;
        mul-one = λ x hx. product-one o L m cs g one is_one x hx;
        mul_assoc = λ x y z hx hy hz. product_assoc o L m cs g assoc x y z hx hy hz;
      } in
      let inside = ideal.ideal.inside in
      let down = power_vanishes S (IsTuple o m) J one laws inside ideal.ideal.zero_in in
      let up = products_vanish S (IsTuple o m) J one laws inside in
      record {
        each = λ e. (up e, down e);
        nilpotent = (
          λ h. record {
            exponent = h.exponent;
            vanishes =
                down h.exponent (products_vanish_more S (IsTuple o m) J one laws inside h.exponent h.vanishes);
          },
          λ h. record { ideal = ideal.ideal; exponent = suc h.exponent; vanishes = up h.exponent h.vanishes },
        );
      }
