-- The maximal ideals of an algebra by its structure constants, and those of its quotient by the radical.
use Rattle.std.specs.Prelude.{◌≡◌, ◌<◌, ◌+◌, ◌++◌, ℕ, zero, suc, Bool, true, List, [], length, get_or, ◌↔◌, ◌⊎◌, ◌≤◌}
use Rattle.std.specs.List.{All}
use Rattle.std.proofs.Common.{refl, sym, ◌∙◌, ap, ap₂, subst, ⊎_elim, arith, length-append, inl, inr}
use Rattle.std.proofs.lemmas.List.{get_or_append_left, get_or-append-add, get_or_default}
use Rattle.std.proofs.lemmas.List.Elements.{All-append}
use Rattle.std.proofs.lemmas.Bool.{cases_lt}
use Rattle.theory_rings.specs.Ring.{FieldOn}
use Rattle.theory_rings.specs.Ops.{Ops, FieldLaws}
use Rattle.theory_rings.specs.Elements.{Elem, Elem-path, elements}
use Rattle.theory_rings.specs.Sum.{at}
use Rattle.theory_rings.proofs.Rings.RingLaws.{add-zero, add-neg, zero-mul}
use Rattle.theory_spaces.specs.Module.{ModuleOn, AlgebraOn, module_of}
use Rattle.theory_spaces.specs.Linear.{comb, InSpan, Basis, IsSubmodule, IsLinear}
use Rattle.theory_spaces.specs.Sets.{Within, Same, Test, Whole, ring_ops}
use Rattle.theory_spaces.specs.Tuples.{IsTuple, Tuple, tuple_zero, tuple_add, product, IsTableAlgebra}
use Rattle.theory_spaces.specs.Sets as sets
use Rattle.theory_spaces.specs.AlgebraMap.{IsSimple}
use Rattle.theory_spaces.proofs.Linear.Families.{join, each_join}
use Rattle.theory_spaces.proofs.Linear.Modules.{InSpan-add, InSpan_trans as span_trans, InSpan-join_left}
use Rattle.theory_spaces.proofs.Linear.Modules.{InSpan-join_right, InSpan-scale, InSpan-member as span-member, span_in}
use Rattle.theory_spaces.proofs.Linear.Modules.{map-comb, comb_congr, comb_congr_right, map-zero, map-neg}
use Rattle.theory_spaces.proofs.Linear.Spaces.{coords_of}
use Rattle.theory_spaces.proofs.Linear.SpanTests.{span_test, span_test-in, in-span_test}
use Rattle.theory_spaces.proofs.Tuples.Tuples.{Tuple-path, tuples, tuple_space, tuples-zero, tuples-add, unit-basis}
use Rattle.theory_spaces.proofs.Tuples.Tuples.{at-table, IsTuple-ext}
use Rattle.theory_spaces.proofs.Tuples.TupleProducts.{tuple_algebra, IsTuple-product}
use Rattle.theory_spaces.proofs.Tuples.Tables.{unit, space_expand}
use Rattle.theory_spaces.proofs.Algebras.SetLemmas.{maximal_same}
use Rattle.theory_spaces.proofs.Matrices.Matrices.{delta-same}
use Rattle.theory_orders.specs.Orders.{IsOrder, SimpleQuotient}
use Rattle.theory_orders.proofs.Ideals.Ideals.{IdealSum, IdealSum_ideal, ideal_same, whole}
use Rattle.theory_radical.specs.Ideal.{IsNilpotentIdeal, IsLargestNilpotentIdeal}
use Rattle.theory_radical.specs.Ideal as ideals
use Rattle.theory_blocks.specs.MaximalIdeals.{IsMaximalIdeal, HasNoNilpotentIdeal}
use Rattle.theory_residue.specs.Residue.{ReductionOn, Reduced}
use Rattle.theory_residue.proofs.Correspondence.{of_reduced}
use Rattle.theory_residue.proofs.Radicals.{maximal_of_simple, simple_of_maximal}
use Rattle.theory_residue.proofs.ResidueAlgebra.{coord-vec}
use Rattle.theory_residue.proofs.SimpleLaws.{simple_by_kernel}
use Rattle.theory_residue.proofs.RadicalQuotients.{reduced_span, none_nilpotent}
use Rattle.theory_tables.specs.Matrix.{entry, IsMatrix, image}
use Rattle.theory_tables.specs.Subspace as rows_of
use Rattle.theory_tables.specs.Structure.{Structure, IsOver, IsAssociative, tuple_ops}
use Rattle.theory_tables.specs.Algebras.{IsIdentity, SpansIdeal, AreZero, SpansAll}
use Rattle.theory_tables.specs.Quotient.{IsQuotient, QuotientKeeps}
use Rattle.theory_tables.proofs.Algebras.Bridge.{algebra, algebra_is, row, row-is, IsTuple-of, as_tuple, table_basis}
use Rattle.theory_tables.proofs.Algebras.Bridge.{ideal_row, list_span, to_span, from_span, row-at, map_span, to_ideal}
use Rattle.theory_tables.proofs.Rows.Sums.{entry-elem}
use Rattle.theory_tables.proofs.Rows.Spans.{InSpan-member, InSpan_trans, InSpan-zero}
use Rattle.theory_tables.proofs.Algebras.MatrixMaps.{map_by, map_by_linear, map_by-is, IsTuple-image, killed-zero}
use Rattle.theory_tables.proofs.Algebras.MatrixMaps.{zero-killed}
use Rattle.theory_tables.proofs.Algebras.Quotients.{quotient_keeps}
use Rattle.theory_tables.proofs.Algebras.Powers.{nilpotent_by_powers}
use Rattle.theory_left_orders.proofs.TupleLattices.{is_comb}
use Rattle.theory_chains.specs.Radical.{SpansRadical}
use Rattle.theory_growth.specs.Steps.{HoldMaximalIdeals}
use Rattle.theory_growth.specs.MaximalIdeals.{ArePulledBack, AreLifted, MaximalIdealsOverRadical, PulledBackIdeals}
use Rattle.theory_growth.specs.MaximalIdeals.{LiftedRowsArePulledBack, MaximalByQuotient, NothingNilpotentOverRadical}
use Rattle.theory_growth.specs.MaximalIdeals.{PulledBackMaximalIdeals, RadicalIsProper}
use Rattle.theory_growth.proofs.Tables.{largest_of_rows, maximal_down, nilpotent_of_rows, family, family_shape}
use Rattle.theory_growth.proofs.Tables.{family_maximal, to_family, from_family, family_ideal, family_long, family-at}
use Rattle.theory_growth.proofs.Tables.{rows_maximal_of}

-- a nilpotent ideal that is a span lies in each maximal ideal that is one
module _ {E V : Type 0} (k : FieldOn E) (A : AlgebraOn k.ring V) (n : ℕ) (B : Basis (module_of A) n) (s m : ℕ)
    (j g : ℕ → V) where
  abbrev M : ModuleOn k.ring V
  M = module_of A

  abbrev J : V → Type 0
  J = InSpan M s j

  abbrev G : V → Type 0
  G = InSpan M m g

  abbrev O : IsOrder A Whole
  O = record {
    one_in = tt;
    zero_in = tt;
    add_in = λ x y _ _. tt;
    neg_in = λ x _. tt;
    mul_in = λ x y _ _. tt;
  }

  module _ (nil : IsNilpotentIdeal A.ring J) (X : IsMaximalIdeal A G) where
    -- powers of one element
    pw : V → ℕ → V
    pw a e = ideals.product A.ring (λ _. a) e

    -- one is no sum of a member of each
    not_one : (a b : V) → J a → G b → A.one ≡ A.◌⊕◌ a b → ⊥
    unfolding pw
    not_one a b ha hb one =
        X.simple.proper (λ x _. whole A Whole G O G X.ideal (down nil.exponent 0 (omega arith)) x tt)
      where
        down : (d e : ℕ) → e + d ≡ nil.exponent → G (pw a e)
        down zero e q =
            let f : nil.exponent ≡ e = omega arith in
            subst (λ i. G (pw a i)) f (subst G (sym (nil.vanishes (λ _. a) (λ _. ha))) X.ideal.zero_in)
        down (suc d) e q =
            let y = pw a e in
            subst G (sym (sym (A.one-mul y) ∙ ap (λ z. A.◌⊗◌ z y) one ∙ A.add-mul a b y))
            (X.ideal.add_in (A.◌⊗◌ a y) (A.◌⊗◌ b y) (down d (suc e) (omega arith)) (X.ideal.right y b tt hb))

    abbrev Sum : V → Type 0
    Sum = IdealSum A J G

    abbrev Both : V → Type 0
    Both = InSpan M (s + m) (join s j g)

    sum_submodule : IsSubmodule M Sum
    sum_submodule = let I = IdealSum_ideal A Whole O J G nil.ideal X.ideal in record {
      zero-in = I.zero_in;
      add-in = I.add_in;
      scale-in = λ c x h. (
        A.◌•◌ c h.0,
        A.◌•◌ c h.1,
        InSpan-scale M s j c h.0 h.2,
        InSpan-scale M m g c h.1 h.3,
        ap (A.◌•◌ c) h.4 ∙ A.scale-add c h.0 h.1,
      );
    }

    sum_same : Same Sum Both
    sum_same = (
      λ x h. subst Both (sym h.4) (InSpan-add M (s + m) (join s j g) h.0 h.1
          (span_trans M s (s + m) j (join s j g) h.0 (InSpan-join_left M s m j g) h.2)
          (span_trans M m (s + m) g (join s j g) h.1 (InSpan-join_right M s m j g) h.3)),
      span_in M Sum sum_submodule (s + m) (join s j g) (each_join s m j g Sum
          (λ i l. (j i, A.zero, span-member M s i j l, X.ideal.zero_in, sym (add-zero A.monoid (j i))))
          (λ i l. (A.zero, g i, nil.ideal.zero_in, span-member M m i g l, sym (A.zero-add (g i))))),
    )

    pub nilpotent_within : Within J G
    nilpotent_within =
        let C = coords_of M n B in
        let t : V → Bool = span_test k M n C (s + m) (join s j g) in
        let e : Same Sum (Test t) = (
          λ x h. in-span_test k M n C (s + m) (join s j g) x (sum_same.0 x h),
          λ x h. sum_same.1 x (span_test-in k M n C (s + m) (join s j g) x h),
        ) in
        ⊎_elim
        (λ (w : Within (Test t) G). λ x h. w x (e.0 x (x, A.zero, h, X.ideal.zero_in, sym (add-zero A.monoid x))))
        (λ (w : Within Whole (Test t)). let h = e.1 A.one (w A.one tt) in absurd (not_one h.0 h.1 h.2 h.3 h.4))
        (X.simple.nothing_between t
        (ideal_same A Whole Sum (Test t) e (IdealSum_ideal A Whole O J G nil.ideal X.ideal))
        (λ x h. e.0 x (A.zero, x, nil.ideal.zero_in, h, sym (A.zero-add x))))

-- the map of a table onto its quotient
module _ {E : Type 0} (o : Ops E) (L : FieldLaws o) (T : Structure E) (over : IsOver o T) (assoc : IsAssociative o T)
    (one : List E) (is_one : IsIdentity o T one) (ideal : List (List E)) (S : SpansIdeal o T ideal) (Y : Structure E)
    (project lifts : List (List E)) (q : IsQuotient o T ideal Y project lifts) where
  abbrev K : FieldOn (Elem o)
  K = elements o L

  abbrev m : ℕ
  m = T.dim

  abbrev n : ℕ
  n = Y.dim

  abbrev A : AlgebraOn K.ring (Tuple o m)
  A = algebra o L T over.of_elements assoc one is_one

  a_is : IsTableAlgebra o L m T.constants A
  a_is = algebra_is o L T over.of_elements assoc one is_one

  abbrev B0 : Basis (module_of A) m
  B0 = table_basis o L T over.of_elements assoc one is_one

  keeps : QuotientKeeps o T ideal Y project
  keeps = quotient_keeps o L T over ideal Y project lifts q

  abbrev y_one : List E
  y_one = image o n m project one

  y_assoc : IsAssociative o Y
  y_assoc = keeps.associative assoc

  y_id : IsIdentity o Y y_one
  y_id = keeps.identity one is_one

  abbrev C : AlgebraOn K.ring (Tuple o n)
  C = algebra o L Y q.over.of_elements y_assoc y_one y_id

  c_is : IsTableAlgebra o L n Y.constants C
  c_is = algebra_is o L Y q.over.of_elements y_assoc y_one y_id

  abbrev f : Tuple o m → Tuple o n
  f = map_by o L n m project q.project_shape

  abbrev f-is : (x : Tuple o m) → (f x).0 ≡ image o n m project x.0
  f-is = map_by-is o L n m project q.project_shape

  abbrev N : Tuple o m → Type 0
  N = InSpan (module_of A) (length ideal) (ideal_row o L T over.of_elements assoc one is_one ideal S)

  reduction : ReductionOn A Whole N C
  unfolding tuple_algebra
  reduction = record {
    red = f;
    lift = λ y. let a = keeps.onto y.0 (IsTuple-of o L n y) in as_tuple o L m a.0 a.1;
    lift_in = λ y. tt;
    red-lift = λ y.
        let a = keeps.onto y.0 (IsTuple-of o L n y) in
        let x = as_tuple o L m a.0 a.1 in
        Tuple-path o L n (f x) y (f-is x ∙ a.2);
    map-one = Tuple-path o L n (f A.one) C.one (f-is A.one);
    map-add = λ x y _ _. (map_by_linear o L n m project q.project_shape).map-add x y;
    map-mul = λ x y _ _. Tuple-path o L n (f (A.◌⊗◌ x y)) (C.◌⊗◌ (f x) (f y))
        (f-is (A.◌⊗◌ x y) ∙ ap (image o n m project) (a_is.product-is x y)
        ∙ q.products x.0 y.0 (IsTuple-of o L m x) (IsTuple-of o L m y)
        ∙ ap₂ (product o n Y.constants) (sym (f-is x)) (sym (f-is y)) ∙ sym (c_is.product-is (f x) (f y)));
    kernel = λ x _. (
      λ e. to_span o L m ideal S.shape x ((q.kernel x.0 (IsTuple-of o L m x)).1
          (zero-killed o L n m project q.project_shape x.0
          (sym (f-is x) ∙ ap (λ (z : Tuple o n). z.0) e ∙ c_is.zero-is))),
      λ h. Tuple-path o L n (f x) C.zero (f-is x
          ∙ killed-zero o L n m project q.project_shape x.0 (IsTuple-of o L m x)
          ((q.kernel x.0 (IsTuple-of o L m x)).0
          (list_span o L T over.of_elements assoc one is_one ideal S x h)) ∙ sym c_is.zero-is),
    );
    kernel_in = λ x _. tt;
  }

  map-scale : (a : Elem o) (x : Tuple o m) → f (A.◌•◌ a x) ≡ C.◌•◌ a (f x)
  unfolding tuple_algebra
  map-scale a x = (map_by_linear o L n m project q.project_shape).map-scale a x

  -- maximal ideals over a nilpotent kernel
  module _ (nil : IsNilpotentIdeal A.ring N) (count : ℕ) (below above : ℕ → List (List E))
      (pulled : (i : ℕ) → i < count → ArePulledBack o T Y project (below i) (above i))
      (hold : HoldMaximalIdeals o Y count below) where
    pub hold_above : HoldMaximalIdeals o T count above
    unfolding tuple_algebra reduction
    hold_above a shape X =
        let k = length a in
        let g = row o L m a shape in
        let G : Tuple o m → Type 0 = InSpan (module_of A) k g in
        let same : Same (λ (x : Tuple o m). rows_of.Combinations o m a x.0) G = (
          λ x h. to_span o L m a shape x h.1,
          λ x h. (IsTuple-of o L m x, from_span o L m a shape x h),
        ) in
        let XV = maximal_same (ring_ops A.ring) Whole (λ (x : Tuple o m). rows_of.Combinations o m a x.0) G same
        (maximal_down o L T over assoc one is_one (rows_of.Combinations o m a) X) in
        let s = length ideal in
        let j = ideal_row o L T over.of_elements assoc one is_one ideal S in
        let holds = nilpotent_within K A m B0 s k j g nil XV in
        let O : IsOrder A Whole = record {
          one_in = tt;
          zero_in = tt;
          add_in = λ x y _ _. tt;
          neg_in = λ x _. tt;
          mul_in = λ x y _ _. tt;
        } in
        let Red : Tuple o n → Type 0 = Reduced A Whole N C reduction G in
        let I : Tuple o n → Type 0 = InSpan (module_of C) k (λ i. f (g i)) in
        let span : Same Red I = reduced_span K A m B0 N C reduction map-scale k g in
        let mx = maximal_same (ring_ops C.ring) Whole Red I span
        (maximal_of_simple A Whole N O C reduction (λ _. true) ((λ x _. tt), (λ x _. refl)) G XV.ideal holds
        XV.simple) in
        let F = family o L Y q.over y_assoc y_one y_id k (λ i. f (g i)) in
        let c = hold F (family_shape o L Y q.over y_assoc y_one y_id k (λ i. f (g i)))
        (family_maximal o L Y q.over y_assoc y_one y_id k (λ i. f (g i)) mx) in
        let b = below c.0 in (
          c.0,
          c.1,
          λ v tv.
              let x = as_tuple o L m v tv in
              let tf = IsTuple-of o L n (f x) in (
                λ h. (pulled c.0 c.1 v tv).1 (subst (rows_of.InSpan o n b) (f-is x) ((c.2 (f x).0 tf).0
                    (from_family o L Y q.over y_assoc y_one y_id k (λ i. f (g i)) (f x)
                    (span.0 (f x) (x, to_span o L m a shape x h, refl))))),
                λ h. from_span o L m a shape x (of_reduced A Whole N O C reduction G XV.ideal holds x tt
                    (span.1 (f x) (to_family o L Y q.over y_assoc y_one y_id k (λ i. f (g i)) (f x)
                    ((c.2 (f x).0 tf).1 (subst (rows_of.InSpan o n b) (sym (f-is x)) ((pulled c.0 c.1 v tv).0 h)))))),
              ),
        )

  -- ---- simple quotients

  abbrev Ow : IsOrder A Whole
  Ow = record {
    one_in = tt;
    zero_in = tt;
    add_in = λ x y _ _. tt;
    neg_in = λ x _. tt;
    mul_in = λ x y _ _. tt;
  }

  abbrev D0 : Basis (module_of C) n
  D0 = table_basis o L Y q.over.of_elements y_assoc y_one y_id

  abbrev NoIdeals : Type 0
  NoIdeals = (rows : List (List E)) → SpansIdeal o Y rows → AreZero o Y rows ⊎ SpansAll o Y rows

  by_kernel : SimpleQuotient A Whole N ↔ (IsSimple C × (C.one ≡ C.zero → ⊥))
  by_kernel = simple_by_kernel K A Whole N Ow C reduction n D0 (λ _. true) ((λ x _. tt), (λ x _. refl))
      (to_ideal o L T over.of_elements assoc one is_one ideal S)

  rows_simple : IsSimple C → NoIdeals
  rows_simple h rows R =
      let g = ideal_row o L Y q.over.of_elements y_assoc y_one y_id rows R in
      ⊎_elim
      (λ (z : (i : ℕ) → i < length rows → g i ≡ C.zero). inl (λ i l.
      sym (row-is o L n rows R.shape i l) ∙ ap (λ (x : Tuple o n). x.0) (z i l) ∙ c_is.zero-is))
      (λ (a : (x : Tuple o n) → InSpan (module_of C) (length rows) g x). inr (λ v tv.
      list_span o L Y q.over.of_elements y_assoc y_one y_id rows R (as_tuple o L n v tv) (a (as_tuple o L n v tv))))
      (h (length rows) g (to_ideal o L Y q.over.of_elements y_assoc y_one y_id rows R))

  simple_rows : NoIdeals → IsSimple C
  simple_rows h k g I =
      let F = family o L Y q.over y_assoc y_one y_id k g in
      let long = family_long o L Y q.over y_assoc y_one y_id k g in
      ⊎_elim
      (λ (z : AreZero o Y F). inl (λ i l. Tuple-path o L n (g i) C.zero
      (sym (family-at o L Y q.over y_assoc y_one y_id k g i [] l) ∙ z i (omega (arith, l, long)) ∙ sym c_is.zero-is)))
      (λ (a : SpansAll o Y F). inr (λ x. to_family o L Y q.over y_assoc y_one y_id k g x (a x.0 (IsTuple-of o L n x))))
      (h F (family_ideal o L Y q.over y_assoc y_one y_id k g I))

  some : (C.one ≡ C.zero → ⊥) → 1 ≤ n
  some h = ⊎_elim (λ (l : 0 < n). omega arith)
      (λ (l : n ≤ 0). absurd (h (Tuple-path o L n C.one C.zero (IsTuple-ext o n C.one.0 C.zero.0
      (IsTuple-of o L n C.one) (IsTuple-of o L n C.zero) (λ j g. absurd (omega arith))))))
      (cases_lt 0 n)

  nonzero : 1 ≤ n → C.one ≡ C.zero → ⊥
  nonzero l e =
      let x = D0.vec 0 in
      let z : x ≡ C.zero = sym (C.one-mul x) ∙ ap (λ y. C.◌⊗◌ y x) e ∙ zero-mul C.ring x in
      K.one-nonzero (sym (delta-same K.ring 0) ∙ sym (coord-vec (module_of C) n D0 0 0 (omega arith) (omega arith))
      ∙ ap (λ y. D0.coord y 0) z ∙ D0.coord-zero 0)

  span_same : Same (λ (x : Tuple o m). rows_of.Combinations o m ideal x.0) N
  unfolding tuple_algebra
  span_same = (
    λ x h. to_span o L m ideal S.shape x h.1,
    λ x h. (IsTuple-of o L m x, list_span o L T over.of_elements assoc one is_one ideal S x h),
  )

  pub maximal_by_quotient : sets.IsMaximalIdeal (tuple_ops o T) (IsTuple o m) (rows_of.Combinations o m ideal)
      ↔ (NoIdeals × (1 ≤ n))
  maximal_by_quotient = (
    λ X.
        let XV = maximal_same (ring_ops A.ring) Whole (λ (x : Tuple o m). rows_of.Combinations o m ideal x.0) N
        span_same (maximal_down o L T over assoc one is_one (rows_of.Combinations o m ideal) X) in
        let h = by_kernel.0 XV.simple in
        (rows_simple h.0, some h.1),
    λ h. rows_maximal_of o L T over assoc one is_one ideal S (record {
      ideal = to_ideal o L T over.of_elements assoc one is_one ideal S;
      simple = by_kernel.1 (simple_rows h.0, nonzero h.1);
    }),
  )

  -- what a maximal ideal of the quotient comes from
  module _ (below above : List (List E)) (SA : SpansIdeal o T above)
      (pulled : ArePulledBack o T Y project below above)
      (X : sets.IsMaximalIdeal (tuple_ops o Y) (IsTuple o n) (rows_of.Combinations o n below)) where
    abbrev above_row : ℕ → Tuple o m
    above_row = ideal_row o L T over.of_elements assoc one is_one above SA

    abbrev Above : Tuple o m → Type 0
    Above = InSpan (module_of A) (length above) above_row

    abbrev Below : Tuple o n → Type 0
    Below w = rows_of.Combinations o n below w.0

    to_above : (x : Tuple o m) → Below (f x) → Above x
    unfolding tuple_algebra
    to_above x h = to_span o L m above SA.shape x ((pulled x.0 (IsTuple-of o L m x)).1
        (subst (rows_of.InSpan o n below) (f-is x) h.1))

    to_below : (x : Tuple o m) → Above x → Below (f x)
    to_below x h = (
      IsTuple-of o L n (f x),
      subst (rows_of.InSpan o n below) (sym (f-is x))
          ((pulled x.0 (IsTuple-of o L m x)).0 (list_span o L T over.of_elements assoc one is_one above SA x h)),
    )

    same_below : Same Below (Reduced A Whole N C reduction Above)
    unfolding reduction
    same_below = (
      λ w h. (reduction.lift w, to_above (reduction.lift w) (subst Below (sym (reduction.red-lift w)) h), reduction.red-lift w),
      λ w h. subst Below h.2 (to_below h.0 h.1),
    )

    over_kernel : Within N Above
    unfolding reduction
    over_kernel x h = to_above x (subst Below (sym ((reduction.kernel x tt).1 h))
        (subst (rows_of.Combinations o n below) (sym c_is.zero-is) X.ideal.zero_in))

    pub maximal_above : sets.IsMaximalIdeal (tuple_ops o T) (IsTuple o m) (rows_of.Combinations o m above)
    maximal_above =
        let ideal = to_ideal o L T over.of_elements assoc one is_one above SA in
        rows_maximal_of o L T over assoc one is_one above SA (record {
          ideal = ideal;
          simple = simple_of_maximal A Whole N Ow C reduction (λ _. true) ((λ x _. tt), (λ x _. refl)) Above ideal over_kernel
              (maximal_same (ring_ops C.ring) Whole Below (Reduced A Whole N C reduction Above) same_below
              (maximal_down o L Y q.over y_assoc y_one y_id (rows_of.Combinations o n below) X));
        })

  -- ---- nilpotent ideals

  module _ (largest : IsLargestNilpotentIdeal A N) where
    none : HasNoNilpotentIdeal C
    unfolding reduction
    none = none_nilpotent K A m B0 N C reduction map-scale largest

    pub nothing_nilpotent : (e : List E) → IsIdentity o Y e → (rows : List (List E)) → IsMatrix o n rows
        → sets.IsNilpotentIdeal (tuple_ops o Y) e (IsTuple o n) (rows_of.Combinations o n rows) → AreZero o Y rows
    nothing_nilpotent e e_id rows shape h i l =
        let R : SpansIdeal o Y rows = record { shape = shape; ideal = h.ideal } in
        let powers = nilpotent_by_powers o L Y q.over y_assoc e e_id rows R in
        let nil = nilpotent_of_rows o L Y q.over y_assoc y_one y_id rows R (powers.nilpotent.0 h) in
        let g = ideal_row o L Y q.over.of_elements y_assoc y_one y_id rows R in
        sym (row-is o L n rows shape i l) ∙ ap (λ (x : Tuple o n). x.0) (none (length rows) g nil i l) ∙ c_is.zero-is

pub maximal_ideals_over_radical : {E : Type 0} (o : Ops E) → FieldLaws o → (A : Structure E)
    → MaximalIdealsOverRadical o A
maximal_ideals_over_radical o L A over assoc one is_one radical S B project lifts q count below above pulled hold =
    hold_above o L A over assoc one is_one radical S.ideal B project lifts q
    (nilpotent_of_rows o L A over assoc one is_one radical S.ideal S.nilpotent) count below above pulled hold

-- the radical of an algebra that is not 0
module _ {E : Type 0} (o : Ops E) (L : FieldLaws o) (T : Structure E) (over : IsOver o T) (assoc : IsAssociative o T)
    (one : List E) (is_one : IsIdentity o T one) (positive : 1 ≤ T.dim) (radical : List (List E))
    (S : SpansRadical o T radical) (all : SpansAll o T radical) where
  abbrev Kr : FieldOn (Elem o)
  Kr = elements o L

  abbrev Alg : AlgebraOn Kr.ring (Tuple o T.dim)
  Alg = algebra o L T over.of_elements assoc one is_one

  abbrev units : Basis (module_of Alg) T.dim
  units = table_basis o L T over.of_elements assoc one is_one

  ones : (e : ℕ) → ideals.product Alg.ring (λ _. Alg.one) e ≡ Alg.one
  ones zero = refl
  ones (suc e) = Alg.one-mul (ideals.product Alg.ring (λ _. Alg.one) e) ∙ ones e

  not_all : ⊥
  unfolding tuple_algebra
  not_all =
      let nil = nilpotent_of_rows o L T over assoc one is_one radical S.ideal S.nilpotent in
      let z : Alg.one ≡ Alg.zero = sym (ones nil.exponent) ∙ nil.vanishes (λ _. Alg.one) (λ _.
      to_span o L T.dim radical S.ideal.shape Alg.one (all Alg.one.0 (IsTuple-of o L T.dim Alg.one))) in
      let x = units.vec 0 in
      let y : x ≡ Alg.zero = sym (Alg.one-mul x) ∙ ap (λ y. Alg.◌⊗◌ y x) z ∙ zero-mul Alg.ring x in
      Kr.one-nonzero (sym (delta-same Kr.ring 0) ∙ sym (coord-vec (module_of Alg) T.dim units 0 0 positive positive)
      ∙ ap (λ y. units.coord y 0) y ∙ units.coord-zero 0)

-- rows that come from those of the quotient
module _ {E : Type 0} (o : Ops E) (L : FieldLaws o) (T : Structure E) (over : IsOver o T) (ideal : List (List E))
    (Y : Structure E) (project lifts : List (List E)) (q : IsQuotient o T ideal Y project lifts) where
  abbrev Kf : FieldOn (Elem o)
  Kf = elements o L

  abbrev a : ℕ
  a = T.dim

  abbrev b : ℕ
  b = Y.dim

  abbrev MA : ModuleOn Kf.ring (Tuple o a)
  MA = tuples o L a

  abbrev MB : ModuleOn Kf.ring (Tuple o b)
  MB = tuples o L b

  abbrev F : Tuple o a → Tuple o b
  F = map_by o L b a project q.project_shape

  F-is : (x : Tuple o a) → (F x).0 ≡ image o b a project x.0
  F-is = map_by-is o L b a project q.project_shape

  abbrev F-linear : IsLinear MA MB F
  F-linear = map_by_linear o L b a project q.project_shape

  pub pulled_back_ideals : (below above : List (List E)) → SpansIdeal o Y below → IsMatrix o a above
      → ArePulledBack o T Y project below above → SpansIdeal o T above
  pulled_back_ideals below above B shape pulled =
      let I : List E → Type 0 = rows_of.InSpan o b below in
      let Below : List E → Type 0 = rows_of.Combinations o b below in
      let cs = over.of_elements in
      let tuple = as_tuple o L a in
      let up = λ (x : Tuple o a) (y : List E) (e : x.0 ≡ y) (h : I (F x).0).
      subst (rows_of.Combinations o a above) e (
        IsTuple-of o L a x,
        (pulled x.0 (IsTuple-of o L a x)).1 (subst I (F-is x) h),
      ) in
      let down : (x : List E) → rows_of.Combinations o a above x → Below (image o b a project x) = λ x h. (
        IsTuple-image o L b a project q.project_shape x h.0,
        (pulled x h.0).0 h.1,
      ) in
      record {
        shape = shape;
        ideal = record {
          inside = λ x h. h.0;
          zero_in = up MA.zero (tuple_zero o a) (tuples-zero o L a)
              (subst I (sym (tuples-zero o L b) ∙ ap (λ (z : Tuple o b). z.0) (sym (map-zero MA MB F F-linear)))
              B.ideal.zero_in.1);
          add_in = λ x y hx hy.
              let u = tuple x hx.0 in
              let v = tuple y hy.0 in
              up (MA.◌⊕◌ u v) (tuple_add o a x y) (tuples-add o L a u v)
              (subst I (ap₂ (tuple_add o b) (sym (F-is u)) (sym (F-is v)) ∙ sym (tuples-add o L b (F u) (F v))
              ∙ ap (λ (z : Tuple o b). z.0) (sym (F-linear.map-add u v)))
              (B.ideal.add_in (image o b a project x) (image o b a project y) (down x hx) (down y hy)).1);
          left = λ c x hc hx.
              let p = IsTuple-product o L a T.constants cs c x hc hx.0 in (
                p,
                (pulled (product o a T.constants c x) p).1 (subst I (sym (q.products c x hc hx.0))
                    (B.ideal.left (image o b a project c) (image o b a project x)
                    (IsTuple-image o L b a project q.project_shape c hc) (down x hx)).1),
              );
          right = λ c x hc hx.
              let p = IsTuple-product o L a T.constants cs x c hx.0 hc in (
                p,
                (pulled (product o a T.constants x c) p).1 (subst I (sym (q.products x c hx.0 hc))
                    (B.ideal.right (image o b a project c) (image o b a project x)
                    (IsTuple-image o L b a project q.project_shape c hc) (down x hx)).1),
              );
        };
      }

  module _ (S : SpansIdeal o T ideal) (below rows : List (List E)) (shape : IsMatrix o b below)
      (h : AreLifted o T Y lifts below rows) where
    abbrev I : List E → Type 0
    I = rows_of.InSpan o b below

    abbrev all : List (List E)
    all = rows ++ ideal

    all_shape : IsMatrix o a all
    all_shape = All-append (IsTuple o a) rows ideal h.shape S.shape

    abbrev r : ℕ → Tuple o a
    r = row o L a rows h.shape

    abbrev y : ℕ → Tuple o b
    y = row o L b below shape

    abbrev lr : ℕ → Tuple o a
    lr = row o L a lifts q.lifts_shape

    unit_of : (l : ℕ) → l < b → F (lr l) ≡ unit MB b (tuple_space o L b) l
    unit_of l l_in = Tuple-path o L b (F (lr l)) (unit MB b (tuple_space o L b) l)
        (F-is (lr l)
        ∙ ap (image o b a project) (row-is o L a lifts q.lifts_shape l (omega (arith, l_in, q.lifts_height)))
        ∙ q.lifted l l_in ∙ sym (unit-basis o L b l))

    -- a lifted row is one over its row below
    becomes : (i : ℕ) → i < length below → F (r i) ≡ y i
    unfolding tuple_space
    becomes i i_in =
        let c : ℕ → Elem o = λ l. (entry o below i l, entry-elem o L b below shape i l) in
        ap F (is_comb o L a lifts q.lifts_shape (r i) b c (λ j j_in. row-at o L a rows h.shape i j j_in
        ∙ h.combines i j i_in j_in))
        ∙ map-comb MA MB F F-linear b c lr
        ∙ comb_congr_right MB b c (λ l. F (lr l)) (unit MB b (tuple_space o L b)) unit_of
        ∙ comb_congr MB b c ((tuple_space o L b).coord (y i)) (unit MB b (tuple_space o L b)) (λ l l_in.
        Elem-path o (c l) ((tuple_space o L b).coord (y i) l) (sym (row-at o L b below shape i l l_in)))
        ∙ sym (space_expand MB b (tuple_space o L b) (y i))

    rows_in : All (λ x. I (image o b a project x)) rows
    rows_in i d l =
        let i_in : i < length below = omega (arith, l, h.count) in
        subst I (ap (λ (z : Tuple o b). z.0) (sym (becomes i i_in)) ∙ F-is (r i)
        ∙ ap (image o b a project) (row-is o L a rows h.shape i l ∙ get_or_default rows i [] d l))
        (subst I (sym (row-is o L b below shape i i_in)) (InSpan-member o L b below shape i i_in))

    ideal_in : All (λ x. I (image o b a project x)) ideal
    ideal_in i d l =
        let t = S.shape i d l in
        let x = get_or ideal i d in
        let s : rows_of.InSpan o a ideal x = subst (rows_of.InSpan o a ideal) (get_or_default ideal i [] d l)
        (InSpan-member o L a ideal S.shape i l) in
        InSpan-zero o L b below (image o b a project x) shape (λ j j_in.
        ap (λ z. at o z j) (killed-zero o L b a project q.project_shape x t ((q.kernel x t).0 s))
        ∙ at-table o b (λ _. o.zero) j j_in)

    down : (v : List E) (t : IsTuple o a v) → rows_of.InSpan o a all v → I (image o b a project v)
    down v t s =
        let x = as_tuple o L a v t in
        let p = All-append (λ x. I (image o b a project x)) rows ideal rows_in ideal_in in
        let u = to_span o L a all all_shape x s in
        subst I (F-is x) (from_span o L b below shape (F x)
        (map_span MA MB F F-linear (length all) (row o L a all all_shape) x u (length below) y (λ i l.
        let e = row o L a all all_shape i in
        to_span o L b below shape (F e) (subst I
        (ap (image o b a project) (sym (row-is o L a all all_shape i l)) ∙ sym (F-is e)) (p i [] l)))))

    in_all : (v : List E) → rows_of.InSpan o a rows v → rows_of.InSpan o a all v
    in_all v s = InSpan_trans o L a rows all v all_shape (λ i l.
        subst (rows_of.InSpan o a all) (get_or_append_left rows ideal [] i l)
        (InSpan-member o L a all all_shape i (let e = length-append rows ideal in omega arith))) s

    ideal_in_all : (v : List E) → rows_of.InSpan o a ideal v → rows_of.InSpan o a all v
    ideal_in_all v s = InSpan_trans o L a ideal all v all_shape (λ i l.
        subst (rows_of.InSpan o a all) (get_or-append-add rows ideal i [])
        (InSpan-member o L a all all_shape (length rows + i) (let e = length-append rows ideal in omega arith))) s

    up : (v : List E) (t : IsTuple o a v) → I (image o b a project v) → rows_of.InSpan o a all v
    up v t s =
        let x = as_tuple o L a v t in
        let w = to_span o L b below shape (F x) (subst I (sym (F-is x)) s) in
        let k = length below in
        let z = comb MA k w.weights r in
        let same : F x ≡ F z = w.combines ∙ sym (map-comb MA MB F F-linear k w.weights r
        ∙ comb_congr_right MB k w.weights (λ i. F (r i)) y becomes) in
        let d = MA.◌⊕◌ x (MA.neg z) in
        let zero : F d ≡ MB.zero = F-linear.map-add x (MA.neg z) ∙ ap₂ MB.◌⊕◌ same (map-neg MA MB F F-linear z)
        ∙ add-neg MB.additive (F z) in
        let dt = IsTuple-of o L a d in
        let din : rows_of.InSpan o a ideal d.0 = (q.kernel d.0 dt).1 (zero-killed o L b a project q.project_shape d.0
        (sym (F-is d) ∙ ap (λ (u : Tuple o b). u.0) zero ∙ tuples-zero o L b)) in
        let zin : rows_of.InSpan o a rows z.0 = from_span o L a rows h.shape z
        (subst (λ c. InSpan MA c r z) (sym h.count) (record { weights = w.weights; combines = refl })) in
        let n = length all in
        let g = row o L a all all_shape in
        subst (rows_of.InSpan o a all) (ap (λ (u : Tuple o a). u.0) (MA.add_assoc x (MA.neg z) z
        ∙ ap (MA.◌⊕◌ x) (MA.neg-add z) ∙ add-zero MA.monoid x))
        (from_span o L a all all_shape (MA.◌⊕◌ d z) (InSpan-add MA n g d z
        (to_span o L a all all_shape d (ideal_in_all d.0 din))
        (to_span o L a all all_shape z (in_all z.0 zin))))

    pub lifted_rows : ArePulledBack o T Y project below all
    lifted_rows v t = (down v t, up v t)

module _ {E : Type 0} (o : Ops E) (L : FieldLaws o) (A : Structure E) where
  pub nothing_nilpotent_over_radical : NothingNilpotentOverRadical o A
  nothing_nilpotent_over_radical over assoc one is_one radical S B project lifts q e e_id rows shape h =
      nothing_nilpotent o L A over assoc one is_one radical S.ideal B project lifts q
      (largest_of_rows o L A over assoc one is_one radical S) e e_id rows shape h

  pub ideals_by_quotients : MaximalByQuotient o A
  ideals_by_quotients over assoc one is_one ideal S B project lifts q =
      maximal_by_quotient o L A over assoc one is_one ideal S B project lifts q

  pub ideals_pulled_back : PulledBackIdeals o A
  ideals_pulled_back over ideal B project lifts q below above h shape pulled =
      pulled_back_ideals o L A over ideal B project lifts q below above h shape pulled

  pub lifted_rows_are_pulled_back : LiftedRowsArePulledBack o A
  lifted_rows_are_pulled_back over ideal S B project lifts q below rows shape h =
      lifted_rows o L A over ideal B project lifts q S below rows shape h

  pub maximal_ideals_pulled_back : PulledBackMaximalIdeals o A
  maximal_ideals_pulled_back over assoc one is_one ideal S B project lifts q below above shape_below shape pulled X =
      let SA = pulled_back_ideals o L A over ideal B project lifts q below above
      (record { shape = shape_below; ideal = X.ideal }) shape pulled in
      maximal_above o L A over assoc one is_one ideal S B project lifts q below above SA pulled X

  pub radical_is_proper : RadicalIsProper o A
  radical_is_proper over assoc one is_one positive radical S all =
      not_all o L A over assoc one is_one positive radical S all
