-- The algebra whose constants are those of another times an element of the field other than 0.
use Rattle.std.specs.Prelude.{◌≡◌, ◌≢◌, ◌<◌, ℕ, ◌+◌, ◌*◌, List}
use Rattle.std.proofs.Common.{sym, ◌∙◌, ap}
use Rattle.theory_rings.specs.Ops.{Ops, IsElem, FieldLaws}
use Rattle.theory_rings.specs.Sum.{sum_of, at}
use Rattle.theory_rings.proofs.Sums.Lists.{table_congr}
use Rattle.theory_rings.proofs.Rings.Elements.{at-elem, sum_of-elem, sum_of_congr}
use Rattle.theory_spaces.specs.Tuples.{IsTuple, tuple_scale, basis, constant, product}
use Rattle.theory_spaces.proofs.Matrices.PairIndex.{pair-lt}
use Rattle.theory_spaces.proofs.Tuples.Tuples.{at-table, IsTuple-table, IsTuple-ext}
use Rattle.theory_spaces.proofs.Tuples.TupleProducts.{IsTuple-product, IsTuple-basis, scale-product, product-scale}
use Rattle.theory_tables.specs.Matrix.{entry}
use Rattle.theory_tables.specs.Structure.{Structure, IsOver}
use Rattle.theory_tables.specs.Traces.{trace, trace_matrix, InTraceRadical}
use Rattle.theory_tables.proofs.Rows.Terms.{mul-zero, mul-inv}
use Rattle.theory_tables.proofs.Rows.Sums.{mul-sum_of, entry_table}
use Rattle.theory_constants.specs.Scaled.{scaled}
use Rattle.theory_constants.specs.ScalingLaws.{KeepsByScaling, ScalingLaw}

module _ {E : Type 0} (o : Ops E) (L : FieldLaws o) where
  -- a factor goes before two others
  front : (x c y : E) → IsElem o x → IsElem o c → IsElem o y → o.mul x (o.mul c y) ≡ o.mul c (o.mul x y)
  front x c y hx hc hy = sym (L.mul_assoc x c y hx hc hy) ∙ ap (λ z. o.mul z y) (L.mul_comm x c hx hc)
      ∙ L.mul_assoc c x y hc hx hy

  -- multiples of tuples
  module _ (n : ℕ) where
    pub IsTuple-scale : (c : E) (v : List E) → IsElem o c → IsTuple o n v → IsTuple o n (tuple_scale o n c v)
    IsTuple-scale c v hc hv =
        IsTuple-table o n (λ k. o.mul c (at o v k)) (λ k _. L.mul-elem c (at o v k) hc (at-elem o L v hv.of_elements k))

    pub scale-at : (c : E) (v : List E) (k : ℕ) → k < n → at o (tuple_scale o n c v) k ≡ o.mul c (at o v k)
    scale-at c v k l = at-table o n (λ k. o.mul c (at o v k)) k l

    -- 1/c times c times a tuple is it
    pub scale_cancel : (c d : E) → IsElem o c → IsElem o d → o.mul d c ≡ o.one → (v : List E) → IsTuple o n v
        → tuple_scale o n d (tuple_scale o n c v) ≡ v
    scale_cancel c d hc hd e v hv =
        let w = tuple_scale o n c v in
        let hw = IsTuple-scale c v hc hv in
        IsTuple-ext o n (tuple_scale o n d w) v (IsTuple-scale d w hd hw) hv (λ k l.
        let x = at o v k in
        let hx = at-elem o L v hv.of_elements k in
        scale-at d w k l ∙ ap (o.mul d) (scale-at c v k l) ∙ sym (L.mul_assoc d c x hd hc hx)
        ∙ ap (λ z. o.mul z x) e ∙ L.one-mul x hx)

module _ {E : Type 0} (o : Ops E) (L : FieldLaws o) (A : Structure E) (over : IsOver o A) (c : E) (c_in : IsElem o c)
    (nonzero : c ≢ o.zero) where
  abbrev n : ℕ
  n = A.dim

  abbrev cs : List E
  cs = A.constants

  abbrev ds : List E
  ds = tuple_scale o (n * n * n) c cs

  abbrev B : Structure E
  B = scaled o c A

  abbrev d : E
  d = o.inv c

  d_in : IsElem o d
  d_in = L.inv-elem c c_in

  abbrev times : List E → List E
  times v = tuple_scale o n c v

  cancel : (v : List E) → IsTuple o n v → tuple_scale o n d (times v) ≡ v
  cancel v h = scale_cancel o L n c d c_in d_in (L.inv-mul c c_in nonzero) v h

  cancel_left : (v : List E) → IsTuple o n v → times (tuple_scale o n d v) ≡ v
  cancel_left v h = scale_cancel o L n d c d_in c_in (mul-inv o L c c_in nonzero) v h

  times_injective : (v w : List E) → IsTuple o n v → IsTuple o n w → times v ≡ times w → v ≡ w
  times_injective v w hv hw e = sym (cancel v hv) ∙ ap (tuple_scale o n d) e ∙ cancel w hw

  times-tuple : (v : List E) → IsTuple o n v → IsTuple o n (times v)
  times-tuple v h = IsTuple-scale o L n c v c_in h

  product-tuple : (a b : List E) → IsTuple o n a → IsTuple o n b → IsTuple o n (product o n cs a b)
  product-tuple = IsTuple-product o L n cs over.of_elements

  basis-tuple : (i : ℕ) → IsTuple o n (basis o n i)
  basis-tuple = IsTuple-basis o L n cs over.of_elements

  scaled_over : IsOver o B
  scaled_over = IsTuple-scale o L (n * n * n) c cs c_in over

  constant-elem : (i j k : ℕ) → IsElem o (constant o n cs i j k)
  constant-elem i j k = at-elem o L cs over.of_elements ((i * n + j) * n + k)

  constant-scaled : (i j k : ℕ) → i < n → j < n → k < n → constant o n ds i j k ≡ o.mul c (constant o n cs i j k)
  constant-scaled i j k hi hj hk =
      scale-at o L (n * n * n) c cs ((i * n + j) * n + k) (pair-lt (n * n) n (i * n + j) k (pair-lt n n i j hi hj) hk)

  product-scaled : (a b : List E) → IsTuple o n a → IsTuple o n b → product o n ds a b ≡ times (product o n cs a b)
  product-scaled a b ha hb =
      let x = at-elem o L a ha.of_elements in
      let y = at-elem o L b hb.of_elements in
      let f : ℕ → ℕ → ℕ → E = λ k i j. o.mul (o.mul (at o a i) (at o b j)) (constant o n cs i j k) in
      let g : ℕ → ℕ → ℕ → E = λ k i j. o.mul (o.mul (at o a i) (at o b j)) (constant o n ds i j k) in
      let xy : (i j : ℕ) → IsElem o (o.mul (at o a i) (at o b j)) =
      λ i j. L.mul-elem (at o a i) (at o b j) (x i) (y j) in
      let f_in : (k i j : ℕ) → IsElem o (f k i j) =
      λ k i j. L.mul-elem (o.mul (at o a i) (at o b j)) (constant o n cs i j k) (xy i j) (constant-elem i j k) in
      let F : ℕ → E = λ k. sum_of o n (λ i. sum_of o n (f k i)) in
      let G : ℕ → E = λ k. sum_of o n (λ i. sum_of o n (g k i)) in
      table_congr n G (λ k. o.mul c (at o (product o n cs a b) k)) (λ k hk.
      sum_of_congr o n (λ i. sum_of o n (g k i)) (λ i. o.mul c (sum_of o n (f k i))) (λ i hi.
      sum_of_congr o n (g k i) (λ j. o.mul c (f k i j)) (λ j hj.
      ap (o.mul (o.mul (at o a i) (at o b j))) (constant-scaled i j k hi hj hk)
      ∙ front o L (o.mul (at o a i) (at o b j)) c (constant o n cs i j k) (xy i j) c_in (constant-elem i j k))
      ∙ sym (mul-sum_of o L n c (f k i) c_in (f_in k i)))
      ∙ sym (mul-sum_of o L n c (λ i. sum_of o n (f k i)) c_in (λ i. sum_of-elem o L n (f k i) (λ j _. f_in k i j)))
      ∙ ap (o.mul c) (sym (at-table o n F k hk)))

  carries : (a b : List E) → IsTuple o n a → IsTuple o n b
      → times (product o n ds a b) ≡ product o n cs (times a) (times b)
  carries a b ha hb = ap times (product-scaled a b ha hb)
      ∙ sym (scale-product o L n cs over.of_elements c a (times b) c_in ha (times-tuple b hb)
      ∙ ap times (product-scale o L n cs over.of_elements c a b c_in ha hb))

  -- products of three
  left_product : (x y z : List E) → IsTuple o n x → IsTuple o n y → IsTuple o n z
      → product o n ds (product o n ds x y) z ≡ times (times (product o n cs (product o n cs x y) z))
  left_product x y z hx hy hz =
      let xy = product o n cs x y in
      ap (λ v. product o n ds v z) (product-scaled x y hx hy)
      ∙ product-scaled (times xy) z (times-tuple xy (product-tuple x y hx hy)) hz
      ∙ ap times (scale-product o L n cs over.of_elements c xy z c_in (product-tuple x y hx hy) hz)

  right_product : (x y z : List E) → IsTuple o n x → IsTuple o n y → IsTuple o n z
      → product o n ds x (product o n ds y z) ≡ times (times (product o n cs x (product o n cs y z)))
  right_product x y z hx hy hz =
      let yz = product o n cs y z in
      ap (product o n ds x) (product-scaled y z hy hz)
      ∙ product-scaled x (times yz) hx (times-tuple yz (product-tuple y z hy hz))
      ∙ ap times (product-scale o L n cs over.of_elements c x yz c_in hx (product-tuple y z hy hz))

  -- products with 1/c times a tuple
  inverse_product : (a b : List E) → IsTuple o n a → IsTuple o n b
      → product o n ds (tuple_scale o n d a) b ≡ product o n cs a b
  inverse_product a b ha hb = product-scaled (tuple_scale o n d a) b (IsTuple-scale o L n d a d_in ha) hb
      ∙ ap times (scale-product o L n cs over.of_elements d a b d_in ha hb)
      ∙ cancel_left (product o n cs a b) (product-tuple a b ha hb)

  product_inverse : (a b : List E) → IsTuple o n a → IsTuple o n b
      → product o n ds a (tuple_scale o n d b) ≡ product o n cs a b
  product_inverse a b ha hb = product-scaled a (tuple_scale o n d b) ha (IsTuple-scale o L n d b d_in hb)
      ∙ ap times (product-scale o L n cs over.of_elements d a b d_in ha hb)
      ∙ cancel_left (product o n cs a b) (product-tuple a b ha hb)

  -- traces
  trace_term : (a : List E) → IsTuple o n a → (j : ℕ) → IsElem o (at o (product o n cs a (basis o n j)) j)
  trace_term a ha j = at-elem o L (product o n cs a (basis o n j))
      (product-tuple a (basis o n j) ha (basis-tuple j)).of_elements j

  trace-elem : (a : List E) → IsTuple o n a → IsElem o (trace o A a)
  trace-elem a ha = sum_of-elem o L n (λ j. at o (product o n cs a (basis o n j)) j) (λ j _. trace_term a ha j)

  pull_trace : (a : List E) → IsTuple o n a
      → sum_of o n (λ j. at o (times (product o n cs a (basis o n j))) j) ≡ o.mul c (trace o A a)
  pull_trace a ha =
      sum_of_congr o n (λ j. at o (times (product o n cs a (basis o n j))) j)
      (λ j. o.mul c (at o (product o n cs a (basis o n j)) j))
      (λ j hj. scale-at o L n c (product o n cs a (basis o n j)) j hj)
      ∙ sym (mul-sum_of o L n c (λ j. at o (product o n cs a (basis o n j)) j) c_in (trace_term a ha))

  trace-scaled : (a : List E) → IsTuple o n a → trace o B a ≡ o.mul c (trace o A a)
  trace-scaled a ha =
      sum_of_congr o n (λ j. at o (product o n ds a (basis o n j)) j)
      (λ j. at o (times (product o n cs a (basis o n j))) j)
      (λ j hj. ap (λ v. at o v j) (product-scaled a (basis o n j) ha (basis-tuple j)))
      ∙ pull_trace a ha

  trace-times : (a : List E) → IsTuple o n a → trace o A (times a) ≡ o.mul c (trace o A a)
  trace-times a ha =
      sum_of_congr o n (λ j. at o (product o n cs (times a) (basis o n j)) j)
      (λ j. at o (times (product o n cs a (basis o n j))) j)
      (λ j hj. ap (λ v. at o v j)
      (scale-product o L n cs over.of_elements c a (basis o n j) c_in ha (basis-tuple j)))
      ∙ pull_trace a ha

  trace_product : (a b : List E) → IsTuple o n a → IsTuple o n b
      → trace o B (product o n ds a b) ≡ o.mul c (o.mul c (trace o A (product o n cs a b)))
  trace_product a b ha hb =
      let ab = product o n cs a b in
      let h = product-tuple a b ha hb in
      ap (trace o B) (product-scaled a b ha hb) ∙ trace-scaled (times ab) (times-tuple ab h)
      ∙ ap (o.mul c) (trace-times ab h)

  form : (i j : ℕ) → i < n → j < n
      → entry o (trace_matrix o B) i j ≡ o.mul c (o.mul c (entry o (trace_matrix o A) i j))
  form i j hi hj =
      entry_table o L n n (λ i j. trace o B (product o n ds (basis o n i) (basis o n j))) i j hi hj
      ∙ trace_product (basis o n i) (basis o n j) (basis-tuple i) (basis-tuple j)
      ∙ ap (λ t. o.mul c (o.mul c t)) (sym
      (entry_table o L n n (λ i j. trace o A (product o n cs (basis o n i) (basis o n j))) i j hi hj))

  -- c·x is 0 where x is alone
  zero_of_times : (x : E) → IsElem o x → o.mul c x ≡ o.zero → x ≡ o.zero
  zero_of_times x hx e = sym (L.one-mul x hx) ∙ ap (λ z. o.mul z x) (sym (L.inv-mul c c_in nonzero))
      ∙ L.mul_assoc d c x d_in c_in hx ∙ ap (o.mul d) e ∙ mul-zero o L d d_in

  twice_zero : (x : E) → x ≡ o.zero → o.mul c (o.mul c x) ≡ o.zero
  twice_zero x e = ap (λ z. o.mul c (o.mul c z)) e ∙ ap (o.mul c) (mul-zero o L c c_in) ∙ mul-zero o L c c_in

  zero_of_twice : (x : E) → IsElem o x → o.mul c (o.mul c x) ≡ o.zero → x ≡ o.zero
  zero_of_twice x hx e = zero_of_times x hx (zero_of_times (o.mul c x) (L.mul-elem c x c_in hx) e)

  to_radical : (a : List E) → InTraceRadical o A a → InTraceRadical o B a
  to_radical a h = record {
    tuple = h.tuple;
    orthogonal = λ b hb. trace_product a b h.tuple hb ∙ twice_zero (trace o A (product o n cs a b)) (h.orthogonal b hb);
  }

  from_radical : (a : List E) → InTraceRadical o B a → InTraceRadical o A a
  from_radical a h = record {
    tuple = h.tuple;
    orthogonal = λ b hb. zero_of_twice (trace o A (product o n cs a b))
        (trace-elem (product o n cs a b) (product-tuple a b h.tuple hb))
        (sym (trace_product a b h.tuple hb) ∙ h.orthogonal b hb);
  }

  keeps : KeepsByScaling o A c
  keeps = record {
    over = scaled_over;
    product = product-scaled;
    carries = carries;
    triple = λ i j k.
        let x = basis o n i in
        let y = basis o n j in
        let z = basis o n k in
        let hx = basis-tuple i in
        let hy = basis-tuple j in
        let hz = basis-tuple k in
        let left = product o n cs (product o n cs x y) z in
        let right = product o n cs x (product o n cs y z) in
        let hl = product-tuple (product o n cs x y) z (product-tuple x y hx hy) hz in
        let hr = product-tuple x (product o n cs y z) hx (product-tuple y z hy hz) in (
          (λ e. left_product x y z hx hy hz ∙ ap (λ v. times (times v)) e ∙ sym (right_product x y z hx hy hz)),
          (λ e. times_injective left right hl hr (times_injective (times left) (times right) (times-tuple left hl)
              (times-tuple right hr) (sym (left_product x y z hx hy hz) ∙ e ∙ right_product x y z hx hy hz))),
        );
    identity = λ e he. (
      (λ h. record {
        tuple = IsTuple-scale o L n d e d_in he;
        one-mul = λ i hi. inverse_product e (basis o n i) he (basis-tuple i) ∙ h.one-mul i hi;
        mul-one = λ i hi. product_inverse (basis o n i) e (basis-tuple i) he ∙ h.mul-one i hi;
      }),
      (λ h. record {
        tuple = he;
        one-mul = λ i hi. sym (inverse_product e (basis o n i) he (basis-tuple i)) ∙ h.one-mul i hi;
        mul-one = λ i hi. sym (product_inverse (basis o n i) e (basis-tuple i) he) ∙ h.mul-one i hi;
      }),
    );
    central = (
      (λ a h. record {
        tuple = h.tuple;
        commutes = λ i hi. product-scaled a (basis o n i) h.tuple (basis-tuple i) ∙ ap times (h.commutes i hi)
            ∙ sym (product-scaled (basis o n i) a (basis-tuple i) h.tuple);
      }),
      (λ a h. record {
        tuple = h.tuple;
        commutes = λ i hi.
            let b = basis o n i in
            let hb = basis-tuple i in
            times_injective (product o n cs a b) (product o n cs b a) (product-tuple a b h.tuple hb)
            (product-tuple b a hb h.tuple)
            (sym (product-scaled a b h.tuple hb) ∙ h.commutes i hi ∙ product-scaled b a hb h.tuple);
      }),
    );
    form = form;
    radical = (to_radical, from_radical);
    nondegenerate = ((λ h a r. h a (from_radical a r)), (λ h a r. h a (to_radical a r)));
  }

module _ {E : Type 0} (o : Ops E) (L : FieldLaws o) (A : Structure E) where
  pub scaling_law : ScalingLaw o A
  scaling_law over c c_in nonzero = keeps o L A over c c_in nonzero
