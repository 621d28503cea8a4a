-- Lists that the steps make: the multiples of an element as the span of columns, the ideal 0, multiples by powers,
-- traces and combinations.
use Rattle.std.specs.Prelude.{◌≡◌, ◌+◌, ◌^◌, ◌<◌, ◌≤◌, ◌++◌, ℕ, suc, List, [], ◌∷◌, length, get_or}
use Rattle.std.specs.List.{All}
use Rattle.std.proofs.Common.{sym, ◌∙◌, ap, ap₂, subst, arith}
use Rattle.theory_rings.specs.Ring.{FieldOn}
use Rattle.theory_rings.specs.Ops.{Ops, IsElem, FieldLaws}
use Rattle.theory_rings.specs.Elements.{Elem}
use Rattle.theory_rings.specs.Sum.{table, at, sum_of}
use Rattle.theory_rings.specs.Power.{power_of}
use Rattle.theory_rings.proofs.Rings.Elements.{at-elem, power_of-elem, sum_of-elem}
use Rattle.theory_rings.proofs.Rings.RingLaws.{mul-zero, zero-mul}
use Rattle.theory_rings.proofs.Sums.Lists.{length-table, table_congr}
use Rattle.theory_spaces.specs.Module.{ModuleOn, AlgebraOn}
use Rattle.theory_spaces.specs.Linear.{comb, Basis}
use Rattle.theory_spaces.specs.Tuples.{IsTuple, tuple_add, tuple_scale}
use Rattle.theory_spaces.proofs.Linear.Modules.{comb_congr_right, map-comb, left_linear, InSpan-zero, InSpan-add}
use Rattle.theory_spaces.proofs.Tuples.Tuples.{at-table, IsTuple-table, IsTuple-ext}
use Rattle.theory_tables.specs.Matrix.{entry, IsMatrix}
use Rattle.theory_tables.specs.Subspace.{Rows, SameSpan, IsSubspace, IsReducedBasis}
use Rattle.theory_tables.specs.Structure.{Structure, IsElement, product_of, basis_of}
use Rattle.theory_tables.specs.Algebras.{SpansIdeal}
use Rattle.theory_tables.specs.Traces.{left_matrix}
use Rattle.theory_tables.proofs.Rows.Sums.{entry_table, entry-elem}
use Rattle.theory_tables.proofs.Algebras.Bridge.{vec-is}
use Rattle.spl_blocks.specs.Blocks.{IsUnital}
use Rattle.spl_blocks.specs.Fixed.{power_in, difference_of}
use Rattle.spl_blocks.specs.Splits.{SpansMultiples, AreSplit, IsProperIdeal, item, trace_in, less_multiple}
use Rattle.spl_blocks.proofs.Tables.{V, K, A, A_is, M, A_basis, tuple, of_tuple, V-path, family, family-is, to_rows}
use Rattle.spl_blocks.proofs.Tables.{from_rows}
use Rattle.spl_blocks.proofs.Equations.{difference-is}
use Rattle.spl_blocks.proofs.SimpleBlocks.{one-ne-zero}
use Rattle.spl_blocks.proofs.SplitLists.{S, ideal_from, to_within}

module _ {E : Type 0} (o : Ops E) (T : Structure E) where
  pub less_multiple-by : (one t : List E) (c : E) (multiple r xs ys zs : List E) → xs ≡ one → ys ≡ t → zs ≡ multiple
      → length one ≡ T.dim → length t ≡ T.dim → multiple ≡ tuple_scale o (length xs) c xs
      → r ≡ table (length ys) (λ k. o.add (at o ys k) (o.neg (at o zs k))) → r ≡ less_multiple o T one t c
  less_multiple-by one t c multiple r xs ys zs ex ey ez lo lt e f =
      difference-is o T ys zs r (ap length ey ∙ lt) f
      ∙ ap₂ (difference_of o T) ey
      (ez ∙ e ∙ ap (λ v. tuple_scale o (length v) c v) ex ∙ ap (λ n. tuple_scale o n c one) lo)

  module _ (y : List E) (matrix slice : List (List E)) (slice_is : slice ≡ matrix)
      (matrix_is : matrix ≡ left_matrix o T y) where
    pub left_columns-wide : length slice ≡ T.dim
    left_columns-wide = ap length (slice_is ∙ matrix_is)
        ∙ length-table T.dim (λ k. table T.dim (λ j. at o (product_of o T y (basis_of o T j)) k))

    pub left_columns : (columns : List (List E)) (w : ℕ) → w ≡ T.dim
        → columns ≡ table w (λ j. table (length slice) (λ i. entry o slice i j))
        → columns ≡ table T.dim (λ j. table T.dim (λ i. entry o (left_matrix o T y) i j))
    left_columns columns w dim e =
        e ∙ ap (λ n. table w (λ j. table n (λ i. entry o slice i j))) left_columns-wide
        ∙ ap (λ s. table w (λ j. table T.dim (λ i. entry o s i j))) (slice_is ∙ matrix_is)
        ∙ ap (λ n. table n (λ j. table T.dim (λ i. entry o (left_matrix o T y) i j))) dim

  -- ---- traces and combinations

  pub trace_next : (q j : ℕ) (z t w xs ys s : List E) → xs ≡ t → ys ≡ w → t ≡ trace_in o T q j z
      → w ≡ power_in o T z (q ^ j)
      → length t ≡ T.dim → s ≡ table (length xs) (λ k. o.add (at o xs k) (at o ys k)) → s ≡ trace_in o T q (j + 1) z
  trace_next q j z t w xs ys s ex ey ht hw long e =
      let k : suc j ≡ j + 1 = omega arith in
      e ∙ ap (λ n. table n (λ k. o.add (at o xs k) (at o ys k))) (ap length ex ∙ long)
      ∙ ap₂ (tuple_add o T.dim) (ex ∙ ht) (ey ∙ hw)
      ∙ ap (λ i. trace_in o T q i z) k

  pub combination_next : (c : List E) (rows : List (List E)) (i : ℕ) (old new : List E) (x : E) (row : List E)
      → old ≡ table T.dim (λ j. sum_of o i (λ i. o.mul (at o c i) (entry o rows i j))) → x ≡ at o c i
      → row ≡ get_or rows i []
      → length old ≡ T.dim
      → new ≡ table (length old) (λ j. o.add (at o old j) (o.mul x (at o row j)))
      → new ≡ table T.dim (λ j. sum_of o (i + 1) (λ i. o.mul (at o c i) (entry o rows i j)))
  combination_next c rows i old new x row h hx hr long e =
      let k : suc i ≡ i + 1 = omega arith in
      let term : ℕ → ℕ → E = λ j i. o.mul (at o c i) (entry o rows i j) in
      e ∙ ap (λ n. table n (λ j. o.add (at o old j) (o.mul x (at o row j)))) long
      ∙ table_congr T.dim (λ j. o.add (at o old j) (o.mul x (at o row j))) (λ j. sum_of o (suc i) (term j))
      (λ j l. ap₂ o.add (ap (λ xs. at o xs j) h ∙ at-table o T.dim (λ j. sum_of o i (term j)) j l)
      (ap₂ o.mul hx (ap (λ xs. at o xs j) hr)))
      ∙ ap (λ n. table T.dim (λ j. sum_of o n (term j))) k

  pub combination-elem : (L : FieldLaws o) (c : List E) (rows : List (List E)) (n : ℕ) (new : List E) → All (IsElem o) c
      → IsMatrix o T.dim rows → new ≡ table T.dim (λ j. sum_of o n (λ i. o.mul (at o c i) (entry o rows i j)))
      → IsElement o T new
  combination-elem L c rows n new hc hr e = subst (IsTuple o T.dim) (sym e)
      (IsTuple-table o T.dim (λ j. sum_of o n (λ i. o.mul (at o c i) (entry o rows i j)))
      (λ j _. sum_of-elem o L n (λ i. o.mul (at o c i) (entry o rows i j))
      (λ i _. L.mul-elem (at o c i) (entry o rows i j) (at-elem o L c hc i) (entry-elem o L T.dim rows hr i j))))

module _ {E : Type 0} (o : Ops E) (L : FieldLaws o) (T : Structure E) (u : IsUnital o T) where
  abbrev m : ℕ
  m = T.dim

  abbrev F : FieldOn (Elem o)
  F = K o L T u

  abbrev X : Type 0
  X = V o L T u

  abbrev B : AlgebraOn F.ring X
  B = A o L T u

  abbrev N : ModuleOn F.ring X
  N = M o L T u

  abbrev basis : Basis N m
  basis = A_basis o L T u

  -- ---- the multiples of an element

  module _ (y : List E) (hy : IsElement o T y) (columns : List (List E)) (shape : IsMatrix o m columns)
      (is : columns ≡ table m (λ j. table m (λ i. entry o (left_matrix o T y) i j))) where
    abbrev x : X
    x = tuple o L T u y hy

    long : length columns ≡ m
    long = ap length is ∙ length-table m (λ j. table m (λ i. entry o (left_matrix o T y) i j))

    column-is : (j : ℕ) → j < m → family o L T u columns shape j ≡ B.◌⊗◌ x (basis.vec j)
    column-is j l =
        let h = A_is o L T u in
        let v = B.◌⊗◌ x (basis.vec j) in
        let c = family o L T u columns shape j in
        let is_product : v.0 ≡ product_of o T y (basis_of o T j) = h.product-is x (basis.vec j)
        ∙ ap (product_of o T y)
        (vec-is o L T u.over.of_elements u.associative u.identity.one u.identity.is_one j) in
        V-path o L T u c v (IsTuple-ext o m c.0 v.0 (of_tuple o L T u c) (of_tuple o L T u v) (λ i li.
        ap (λ xs. at o xs i) (family-is o L T u columns shape j (omega (arith, l, long)))
        ∙ ap (λ rows. entry o rows j i) is
        ∙ entry_table o L m m (λ j i. entry o (left_matrix o T y) i j) j i l li
        ∙ entry_table o L m m (λ k j. at o (product_of o T y (basis_of o T j)) k) i j li l
        ∙ ap (λ xs. at o xs i) (sym is_product)))

    combination : (c : ℕ → Elem o) → comb N (length columns) c (family o L T u columns shape)
        ≡ B.◌⊗◌ x (comb N m c basis.vec)
    combination c = ap (λ n. comb N n c (family o L T u columns shape)) long
        ∙ comb_congr_right N m c (family o L T u columns shape) (λ j. B.◌⊗◌ x (basis.vec j)) column-is
        ∙ sym (map-comb N N (λ z. B.◌⊗◌ x z) (left_linear B x) m c basis.vec)

    pub spans_multiples : (rows : List (List E)) → SameSpan o m rows columns → SpansMultiples o T y rows
    spans_multiples rows same v tv =
        let z = tuple o L T u v tv in
        let h = A_is o L T u in (
          λ s.
              let k = to_rows o L T u columns shape z ((same v tv).0 s) in
              let w = comb N m k.weights basis.vec in
              (w.0, of_tuple o L T u w, ap (λ (y : X). y.0) (k.combines ∙ combination k.weights) ∙ h.product-is x w),
          λ p.
              let w = tuple o L T u p.0 p.1 in
              (same v tv).1 (from_rows o L T u columns shape z (record {
                weights = basis.coord w;
                combines = V-path o L T u z (B.◌⊗◌ x w) (p.2 ∙ sym (h.product-is x w)) ∙ ap (B.◌⊗◌ x) (basis.expand w)
                    ∙ sym (combination (basis.coord w));
              })),
        )

  -- ---- the ideal 0

  module _ (positive : 1 ≤ m) (s : Rows E) (reduced : IsSubspace o s) (width : s.width ≡ m)
      (same : SameSpan o m s.rows []) where
    shape0 : IsMatrix o m s.rows
    shape0 = let b = subst (λ w. IsReducedBasis o w s.rows) width reduced in b.shape

    is_zero : (x : X) → S o L T u s.rows shape0 x → x ≡ B.zero
    is_zero x h =
        let c = (same x.0 (of_tuple o L T u x)).0 (from_rows o L T u s.rows shape0 x h) in
        let t = A_is o L T u in
        V-path o L T u x B.zero (IsTuple-ext o m x.0 B.zero.0 (of_tuple o L T u x) (of_tuple o L T u B.zero)
        (λ j l. c.2 j l ∙ sym (ap (λ xs. at o xs j) t.zero-is ∙ at-table o m (λ _. o.zero) j l)))

    zero_in : S o L T u s.rows shape0 B.zero
    zero_in = InSpan-zero N (length s.rows) (family o L T u s.rows shape0)

    zero_spans : SpansIdeal o T s.rows
    zero_spans = ideal_from o L T u s.rows shape0 (record {
      inside = λ x _. tt;
      zero_in = zero_in;
      add_in = λ x z hx hz. InSpan-add N (length s.rows) (family o L T u s.rows shape0) x z hx hz;
      left = λ a x _ hx. subst (S o L T u s.rows shape0)
          (sym (ap (B.◌⊗◌ a) (is_zero x hx) ∙ mul-zero B.ring a)) zero_in;
      right = λ a x _ hx. subst (S o L T u s.rows shape0)
          (sym (ap (λ z. B.◌⊗◌ z a) (is_zero x hx) ∙ zero-mul B.ring a)) zero_in;
    })

    pub zero_split : (list : List (Rows E)) → list ≡ [] ++ s ∷ [] → AreSplit o T list
    zero_split list e = subst (AreSplit o T) (sym e) (record {
      each = λ i l. let q : 0 ≡ i = omega (arith, l) in subst (λ k. IsProperIdeal o T (item o T (s ∷ []) k)) q (record {
        basis = reduced;
        width = width;
        ideal = zero_spans;
        proper = λ h. one-ne-zero o L T u positive (is_zero B.one (to_rows o L T u s.rows shape0 B.one
            (h B.one.0 (of_tuple o L T u B.one))));
      });
      cover = λ rows k. (
        0,
        omega arith,
        to_within o L T u s.rows rows shape0 k.shape (λ x h.
            subst (S o L T u rows k.shape) (sym (is_zero x h))
            (InSpan-zero N (length rows) (family o L T u rows k.shape))),
      );
      unique = λ rows k i j li lj wi wj. omega (arith, li, lj);
    })

  -- ---- multiples by powers

  module _ (x : E) (hx : IsElem o x) (z : List E) (hz : IsElement o T z) where
    pub multiple_start : (y : List E) → y ≡ z → y ≡ tuple_scale o m (power_of o x 0) z
    multiple_start y e = e ∙ IsTuple-ext o m z (tuple_scale o m o.one z) hz
        (IsTuple-table o m (λ k. o.mul o.one (at o z k))
        (λ k _. L.mul-elem o.one (at o z k) L.one-elem (at-elem o L z hz.of_elements k)))
        (λ k l. sym (at-table o m (λ k. o.mul o.one (at o z k)) k l
        ∙ L.one-mul (at o z k) (at-elem o L z hz.of_elements k)))

    pub multiple_next : (i : ℕ) (y ys w : List E) → ys ≡ y → y ≡ tuple_scale o m (power_of o x i) z → length y ≡ m
        → w ≡ tuple_scale o (length ys) x ys → w ≡ tuple_scale o m (power_of o x (i + 1)) z
    multiple_next i y ys w ey h long ew =
        let e : w ≡ tuple_scale o (length y) x y = ew ∙ ap (λ v. tuple_scale o (length v) x v) ey in
        let p = power_of o x i in
        let q : suc i ≡ i + 1 = omega arith in
        e ∙ ap (λ n. tuple_scale o n x y) long
        ∙ table_congr m (λ k. o.mul x (at o y k)) (λ k. o.mul (o.mul x p) (at o z k))
        (λ k l. ap (o.mul x) (ap (λ xs. at o xs k) h ∙ at-table o m (λ k. o.mul p (at o z k)) k l)
        ∙ sym (L.mul_assoc x p (at o z k) hx (power_of-elem o L x i hx) (at-elem o L z hz.of_elements k)))
        ∙ ap (λ j. tuple_scale o m (power_of o x j) z) q
