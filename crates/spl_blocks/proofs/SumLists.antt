-- The sums of the ideals of two lists, where each maximal ideal holds just one ideal of each list.
use Rattle.std.specs.Prelude.{◌≡◌, ◌+◌, ◌*◌, ◌/◌, ◌%◌, ◌<◌, ◌≤◌, ℕ, List, length}
use Rattle.std.proofs.Common.{sym, ◌∙◌, ap, ap₂, subst, ⊎_elim, arith}
use Rattle.std.proofs.lemmas.Nat.{div-mul-add}
use Rattle.std.proofs.lemmas.Bool.{cases_lt}
use Rattle.std.proofs.Math.Nat.{mul-add-mod_self_right, mod-add-div, mod-eq_of_lt}
use Rattle.theory_rings.specs.Ring.{FieldOn}
use Rattle.theory_rings.specs.Ops.{Ops, FieldLaws}
use Rattle.theory_rings.specs.Elements.{Elem}
use Rattle.theory_rings.specs.Sum.{at}
use Rattle.theory_rings.proofs.Rings.RingLaws.{add-zero}
use Rattle.theory_spaces.specs.Module.{ModuleOn, AlgebraOn}
use Rattle.theory_spaces.specs.Sets.{Whole, IsIdeal, ring_ops}
use Rattle.theory_spaces.proofs.Linear.Modules.{InSpan-zero, InSpan-add}
use Rattle.theory_spaces.proofs.Matrices.PairIndex.{pair-lt, row-lt, column-lt}
use Rattle.theory_spaces.proofs.Tuples.Tuples.{IsTuple-ext, at-table}
use Rattle.theory_tables.specs.Matrix.{IsMatrix}
use Rattle.theory_tables.specs.Subspace.{Rows, IsReducedBasis}
use Rattle.theory_tables.specs.Structure.{Structure}
use Rattle.theory_tables.specs.Algebras.{SpansIdeal}
use Rattle.spl_blocks.specs.Blocks.{IsUnital, SpansMaximalIdeal, rows_at}
use Rattle.spl_blocks.specs.Splits.{SpanWithin, IsProperIdeal, item, AreSplit, Refines, AreKept, IsSumOf}
use Rattle.spl_blocks.proofs.Tables.{V, K, A, A_is, M, tuple, of_tuple, V-path, family, to_rows, from_rows}
use Rattle.spl_blocks.proofs.SplitLists.{S, within_to, to_within, spans_all, all_spanned, ideal_of, ideal_from}
use Rattle.spl_blocks.proofs.SplitLists.{maximal_ideal, maximal_proper}

module _ {E : Type 0} (o : Ops E) (L : FieldLaws o) (T : Structure E) (u : IsUnital o T) (a b : List (Rows E))
    (sa : AreSplit o T a) (sb : AreSplit o T b) where
  abbrev m : ℕ
  m = T.dim

  abbrev F : FieldOn (Elem o)
  F = K o L T u

  abbrev X : Type 0
  X = V o L T u

  abbrev B : AlgebraOn F.ring X
  B = A o L T u

  abbrev N : ModuleOn F.ring X
  N = M o L T u

  abbrev la : ℕ
  la = length a

  abbrev lb : ℕ
  lb = length b

  ideal_a : (i : ℕ) → i < la → SpansIdeal o T (rows_at o T a i)
  ideal_a i l = let e = sa.each i l in e.ideal

  ideal_b : (i : ℕ) → i < lb → SpansIdeal o T (rows_at o T b i)
  ideal_b i l = let e = sb.each i l in e.ideal

  module _ (r : ℕ) (lr : r < la * lb) (s : Rows E) (is : IsSumOf o T a b r s) where
    abbrev ra : List (List E)
    ra = rows_at o T a (r / lb)

    abbrev rb : List (List E)
    rb = rows_at o T b (r % lb)

    ia : SpansIdeal o T ra
    ia = ideal_a (r / lb) (row-lt la lb r lr)

    ib : SpansIdeal o T rb
    ib = ideal_b (r % lb) (column-lt la lb r lr)

    sum_reduced : IsReducedBasis o m s.rows
    sum_reduced = subst (λ w. IsReducedBasis o w s.rows) is.width is.basis

    abbrev shape : IsMatrix o m s.rows
    shape = let b = sum_reduced in b.shape

    abbrev In : X → Type 0
    In = S o L T u s.rows shape

    abbrev Ia : X → Type 0
    Ia = S o L T u ra ia.shape

    abbrev Ib : X → Type 0
    Ib = S o L T u rb ib.shape

    sum-at : (y z : X) (j : ℕ) → j < m → at o (B.◌⊕◌ y z).0 j ≡ o.add (at o y.0 j) (at o z.0 j)
    sum-at y z j l = let h = A_is o L T u in
        ap (λ xs. at o xs j) (h.add-is y z) ∙ at-table o m (λ k. o.add (at o y.0 k) (at o z.0 k)) j l

    to_sum : (x : X) → In x → (y : X) × (z : X) × Ia y × Ib z × (x ≡ B.◌⊕◌ y z)
    to_sum x h =
        let p = (is.members x.0 (of_tuple o L T u x)).0 (from_rows o L T u s.rows shape x h) in
        let y = tuple o L T u p.left p.left_tuple in
        let z = tuple o L T u p.right p.right_tuple in (
          y,
          z,
          to_rows o L T u ra ia.shape y p.in_left,
          to_rows o L T u rb ib.shape z p.in_right,
          V-path o L T u x (B.◌⊕◌ y z) (IsTuple-ext o m x.0 (B.◌⊕◌ y z).0 (of_tuple o L T u x)
              (of_tuple o L T u (B.◌⊕◌ y z))
              (λ j l. p.adds j l ∙ sym (sum-at y z j l))),
        )

    from_sum : (y z : X) → Ia y → Ib z → In (B.◌⊕◌ y z)
    from_sum y z hy hz =
        let x = B.◌⊕◌ y z in
        to_rows o L T u s.rows shape x ((is.members x.0 (of_tuple o L T u x)).1 (record {
          left = y.0;
          right = z.0;
          left_tuple = of_tuple o L T u y;
          right_tuple = of_tuple o L T u z;
          in_left = from_rows o L T u ra ia.shape y hy;
          in_right = from_rows o L T u rb ib.shape z hz;
          adds = sum-at y z;
        }))

    sum_ideal : IsIdeal (ring_ops B.ring) Whole In
    sum_ideal =
        let A1 = ideal_of o L T u ra ia in
        let B1 = ideal_of o L T u rb ib in
        record {
          inside = λ x _. tt;
          zero_in = InSpan-zero N (length s.rows) (family o L T u s.rows shape);
          add_in = λ x z hx hz. InSpan-add N (length s.rows) (family o L T u s.rows shape) x z hx hz;
          left = λ c x _ hx. let k = to_sum x hx in subst In (sym (ap (B.◌⊗◌ c) k.4 ∙ B.mul-add c k.0 k.1))
              (from_sum (B.◌⊗◌ c k.0) (B.◌⊗◌ c k.1) (A1.left c k.0 tt k.2) (B1.left c k.1 tt k.3));
          right = λ c x _ hx. let k = to_sum x hx in
              subst In (sym (ap (λ w. B.◌⊗◌ w c) k.4 ∙ B.add-mul k.0 k.1 c))
              (from_sum (B.◌⊗◌ k.0 c) (B.◌⊗◌ k.1 c) (A1.right c k.0 tt k.2) (B1.right c k.1 tt k.3));
        }

    pub sum_spans : SpansIdeal o T s.rows
    sum_spans = ideal_from o L T u s.rows shape sum_ideal

    pub sum_rows_reduced : IsReducedBasis o m s.rows
    sum_rows_reduced = sum_reduced

    pub holds_left : SpanWithin o T ra s.rows
    holds_left = to_within o L T u ra s.rows ia.shape shape (λ x h. subst In (add-zero B.monoid x)
        (from_sum x B.zero h (InSpan-zero N (length rb) (family o L T u rb ib.shape))))

    pub holds_right : SpanWithin o T rb s.rows
    holds_right = to_within o L T u rb s.rows ib.shape shape (λ x h. subst In (B.zero-add x)
        (from_sum B.zero x (InSpan-zero N (length ra) (family o L T u ra ia.shape)) h))

    pub sum_within : (rows : List (List E)) (i : SpansIdeal o T rows) → SpanWithin o T ra rows → SpanWithin o T rb rows
        → SpanWithin o T s.rows rows
    sum_within rows i wa wb =
        let I = ideal_of o L T u rows i in
        to_within o L T u s.rows rows shape i.shape (λ x h. let k = to_sum x h in
        subst (S o L T u rows i.shape) (sym k.4)
        (I.add_in k.0 k.1 (within_to o L T u ra rows ia.shape i.shape wa k.0 k.2)
        (within_to o L T u rb rows ib.shape i.shape wb k.1 k.3)))

  module _ (kept : List (Rows E)) (k : AreKept o T (la * lb) (IsSumOf o T a b) kept) where
    abbrev Is : ℕ → Rows E → Type 0
    Is = IsSumOf o T a b

    abbrev at_item : ℕ → Rows E
    at_item = item o T kept

    each : (i : ℕ) → i < length kept → IsProperIdeal o T (at_item i)
    each i l =
        let is = k.candidate i l in
        let r = sum_rows_reduced (k.origin i) (k.within i l) (at_item i) is in
        record {
          basis = is.basis;
          width = is.width;
          ideal = sum_spans (k.origin i) (k.within i l) (at_item i) is;
          proper = λ h. let n = all_spanned o L T u (rows_at o T kept i) r.shape h in let g = k.smaller i l in
              omega arith;
        }

    -- the candidate of a pair
    module _ (i j : ℕ) (li : i < la) (lj : j < lb) where
      pair : ℕ
      pair = i * lb + j

      pair_in : pair < la * lb
      unfolding pair
      pair_in = pair-lt la lb i j li lj

      pair-row : i ≡ pair / lb
      unfolding pair
      pair-row = sym (div-mul-add i lb j lj)

      pair-column : j ≡ pair % lb
      unfolding pair
      pair-column = sym (mul-add-mod_self_right i lb j ∙ mod-eq_of_lt lj)

    cover : (rows : List (List E)) → SpansMaximalIdeal o T rows
        → (i : ℕ) × (i < length kept) × SpanWithin o T (rows_at o T kept i) rows
    cover rows x =
        let p = sa.cover rows x in
        let q = sb.cover rows x in
        let I = maximal_ideal o L T u rows x in
        let r = pair p.0 q.0 p.1 q.1 in
        let lr = pair_in p.0 q.0 p.1 q.1 in
        let wa = subst (λ n. SpanWithin o T (rows_at o T a n) rows) (pair-row p.0 q.0 p.1 q.1) p.2 in
        let wb = subst (λ n. SpanWithin o T (rows_at o T b n) rows) (pair-column p.0 q.0 p.1 q.1) q.2 in
        ⊎_elim
        (λ (s : (i : ℕ) × (i < length kept) × (k.origin i ≡ r)). (
          s.0,
          s.1,
          sum_within r lr (at_item s.0)
              (subst (λ n. Is n (at_item s.0)) s.2 (k.candidate s.0 s.1)) rows I wa wb,
        ))
        (λ (s : (s : Rows E) × Is r s × (m ≤ length s.rows)).
        let t = s.0 in
        absurd (maximal_proper o L T u rows x (λ w tw. sum_within r lr t s.1 rows I wa wb w tw
        (spans_all o L T u t.rows (sum_rows_reduced r lr t s.1) s.2 w tw))))
        (k.others r lr)

    left_of : (i : ℕ) (l : i < length kept) → SpanWithin o T (rows_at o T a (k.origin i / lb)) (rows_at o T kept i)
    left_of i l = holds_left (k.origin i) (k.within i l) (at_item i) (k.candidate i l)

    right_of : (i : ℕ) (l : i < length kept) → SpanWithin o T (rows_at o T b (k.origin i % lb)) (rows_at o T kept i)
    right_of i l = holds_right (k.origin i) (k.within i l) (at_item i) (k.candidate i l)

    same_origin : (i j : ℕ) → i < length kept → j < length kept → k.origin i ≡ k.origin j → i ≡ j
    same_origin i j li lj e = ⊎_elim
        (λ (l : i < j). let g = k.ordered i j l lj in absurd (omega arith))
        (λ (g : j ≤ i). ⊎_elim
        (λ (l : j < i). let h = k.ordered j i l li in absurd (omega arith))
        (λ (h : i ≤ j). let q : i ≡ j = omega arith in q)
        (cases_lt j i))
        (cases_lt i j)

    pub sums_split : AreSplit o T kept
    sums_split = record {
      each = each;
      cover = cover;
      unique = λ rows x i j li lj wi wj.
          let p = k.origin i in
          let q = k.origin j in
          let rows_same : p / lb ≡ q / lb = sa.unique rows x (p / lb) (q / lb) (row-lt la lb p (k.within i li))
          (row-lt la lb q (k.within j lj)) (λ v tv h. wi v tv (left_of i li v tv h))
          (λ v tv h. wj v tv (left_of j lj v tv h)) in
          let columns_same : p % lb ≡ q % lb = sb.unique rows x (p % lb) (q % lb) (column-lt la lb p (k.within i li))
          (column-lt la lb q (k.within j lj)) (λ v tv h. wi v tv (right_of i li v tv h))
          (λ v tv h. wj v tv (right_of j lj v tv h)) in
          same_origin i j li lj (sym (mod-add-div p lb) ∙ ap₂ (λ x y. x + lb * y) columns_same rows_same
          ∙ mod-add-div q lb);
    }

    pub sums_refine_left : Refines o T kept a
    sums_refine_left i l = (k.origin i / lb, row-lt la lb (k.origin i) (k.within i l), left_of i l)

    pub sums_refine_right : Refines o T kept b
    sums_refine_right i l = (k.origin i % lb, column-lt la lb (k.origin i) (k.within i l), right_of i l)
