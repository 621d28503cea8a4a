-- Lists of proper ideals of which each maximal ideal holds just one: the multiples of t − c·1 for the values c of a
-- central element t, and the sums of the ideals of two such lists. And which of them are the maximal ideals.
use Rattle.std.specs.Prelude.{◌≡◌, ◌<◌, ◌≤◌, ℕ, List, length}
use Rattle.std.proofs.Common.{refl, sym, ◌∙◌, ap, subst, ⊎_elim, arith}
use Rattle.std.proofs.lemmas.Bool.{cases_lt}
use Rattle.theory_rings.specs.Ring.{FieldOn}
use Rattle.theory_rings.specs.Ops.{Ops, IsElem, FieldLaws}
use Rattle.theory_rings.specs.Elements.{Elem}
use Rattle.theory_rings.specs.Sum.{at}
use Rattle.theory_rings.proofs.Rings.Solver.{◌⊞◌, minus, words3}
use Rattle.theory_rings.proofs.Rings.ZeroTests.{eq_of_sub_eq_zero, eq_zero_or}
use Rattle.theory_spaces.specs.Module.{ModuleOn, AlgebraOn}
use Rattle.theory_spaces.specs.Linear.{InSpan, Independent, Basis}
use Rattle.theory_spaces.specs.Sets.{Whole, IsIdeal, ring_ops}
use Rattle.theory_spaces.specs.Tuples.{IsTuple, tuple_add, tuple_neg, tuple_scale}
use Rattle.theory_spaces.proofs.Algebras.Ideals.{ideal_whole}
use Rattle.theory_spaces.proofs.Algebras.SetLemmas.{ideal_same}
use Rattle.theory_spaces.proofs.Linear.Modules.{InSpan-zero, InSpan-add, InSpan-neg, InSpan-scale, neg-scale}
use Rattle.theory_spaces.proofs.Linear.Spaces.{full_span, coords_of}
use Rattle.theory_spaces.proofs.Linear.Subspaces.{neg_in}
use Rattle.theory_blocks.proofs.Ideals.Centres.{centre_submodule, centre-one}
use Rattle.theory_spaces.proofs.Linear.Dimension.{exchange}
use Rattle.theory_spaces.proofs.Linear.IndependentVectors.{Independent-at_most}
use Rattle.theory_tables.specs.Matrix.{IsMatrix}
use Rattle.theory_tables.specs.Subspace as rows_of
use Rattle.theory_tables.specs.Subspace.{Rows, Combinations, IsReducedBasis, IsSubspace, SpansSum, SameSpan}
use Rattle.theory_tables.specs.Structure.{Structure, IsElement, tuple_ops, product_of}
use Rattle.theory_tables.specs.Algebras.{SpansIdeal, SpansAll}
use Rattle.spl_matrix.proofs.ReducedBases.{reduced_basis_is_independent}
use Rattle.theory_blocks.specs.Centre.{Centre}
use Rattle.spl_blocks.specs.Blocks.{IsUnital, SpansMaximalIdeal, rows_at}
use Rattle.spl_blocks.specs.Splits.{SpanWithin, IsProperIdeal, item, AreSplit, less_multiple}
use Rattle.spl_blocks.specs.Splits.{AreScalars, AreKept, IsMultiples, AreValues}
use Rattle.spl_blocks.proofs.Tables.{V, K, A, A_is, M, A_basis, tuple, of_tuple, V-path, On, ideal_up, ideal_down}
use Rattle.spl_blocks.proofs.Tables.{family, to_rows, from_rows, rows_independent}

module _ {E : Type 0} (o : Ops E) (L : FieldLaws o) (T : Structure E) (u : IsUnital o T) where
  abbrev m : ℕ
  m = T.dim

  abbrev F : FieldOn (Elem o)
  F = K o L T u

  abbrev X : Type 0
  X = V o L T u

  abbrev B : AlgebraOn F.ring X
  B = A o L T u

  abbrev N : ModuleOn F.ring X
  N = M o L T u

  abbrev basis : Basis N m
  basis = A_basis o L T u

  -- ---- spans of rows

  abbrev pub S : (rows : List (List E)) → IsMatrix o m rows → X → Type 0
  S rows shape x = InSpan N (length rows) (family o L T u rows shape) x

  pub within_to : (a b : List (List E)) (sa : IsMatrix o m a) (sb : IsMatrix o m b) → SpanWithin o T a b → (x : X)
      → S a sa x → S b sb x
  within_to a b sa sb h x s = to_rows o L T u b sb x (h x.0 (of_tuple o L T u x) (from_rows o L T u a sa x s))

  pub to_within : (a b : List (List E)) (sa : IsMatrix o m a) (sb : IsMatrix o m b)
      → ((x : X) → S a sa x → S b sb x) → SpanWithin o T a b
  to_within a b sa sb h v tv i = from_rows o L T u b sb (tuple o L T u v tv)
      (h (tuple o L T u v tv) (to_rows o L T u a sa (tuple o L T u v tv) i))

  -- as many independent rows as dimensions span everything, and fewer do not
  pub spans_all : (rows : List (List E)) → IsReducedBasis o m rows → m ≤ length rows → SpansAll o T rows
  spans_all rows r l v tv =
      let free = rows_independent o L T u rows r.shape (reduced_basis_is_independent o L m rows r) in
      let most = Independent-at_most F N m basis (length rows) (family o L T u rows r.shape) free in
      let q : m ≡ length rows = omega (arith, l, most) in
      let x = tuple o L T u v tv in
      from_rows o L T u rows r.shape x (subst (λ n. InSpan N n (family o L T u rows r.shape) x) q
      (full_span F N m (coords_of N m basis) m basis.vec (family o L T u rows r.shape)
      (λ y. record { weights = basis.coord y; combines = basis.expand y })
      (subst (λ n. Independent N n (family o L T u rows r.shape)) (sym q) free) x))

  pub all_spanned : (rows : List (List E)) → IsMatrix o m rows → SpansAll o T rows → m ≤ length rows
  all_spanned rows shape h = exchange F N m (length rows) basis.vec (family o L T u rows shape) basis.independent
      (λ i _. let x = basis.vec i in to_rows o L T u rows shape x (h x.0 (of_tuple o L T u x)))

  -- an ideal of rows as one of the algebra
  pub ideal_of : (rows : List (List E)) (i : SpansIdeal o T rows)
      → IsIdeal (ring_ops B.ring) Whole (S rows i.shape)
  ideal_of rows i = ideal_same (ring_ops B.ring) Whole (λ x. Combinations o m rows x.0) (S rows i.shape)
      ((λ x c. to_rows o L T u rows i.shape x c.1), (λ x s. (of_tuple o L T u x, from_rows o L T u rows i.shape x s)))
      (ideal_down o L T u (Combinations o m rows) i.ideal)

  pub ideal_from : (rows : List (List E)) (shape : IsMatrix o m rows) → IsIdeal (ring_ops B.ring) Whole (S rows shape)
      → SpansIdeal o T rows
  ideal_from rows shape i = record {
    shape = shape;
    ideal = ideal_same (tuple_ops o T) (IsTuple o m) (On o L T u (S rows shape)) (Combinations o m rows) (
      (λ a p. (p.0, from_rows o L T u rows shape (tuple o L T u a p.0) p.1)),
      (λ a c. (c.0, to_rows o L T u rows shape (tuple o L T u a c.0) c.1)),
    )
        (ideal_up o L T u (S rows shape) i);
  }

  pub maximal_ideal : (rows : List (List E)) → SpansMaximalIdeal o T rows → SpansIdeal o T rows
  maximal_ideal rows x = record { shape = x.shape; ideal = let h = x.maximal in h.ideal }

  pub maximal_proper : (rows : List (List E)) (x : SpansMaximalIdeal o T rows) → SpansAll o T rows → ⊥
  maximal_proper rows x h = let k = x.maximal in k.simple.proper (λ a ta. (ta, h a ta))

  pub not_one : (rows : List (List E)) (i : SpansIdeal o T rows) → (SpansAll o T rows → ⊥) → S rows i.shape B.one → ⊥
  not_one rows i proper h = proper (λ v tv. from_rows o L T u rows i.shape (tuple o L T u v tv)
      (ideal_whole B.ring (S rows i.shape) (ideal_of rows i) h (tuple o L T u v tv)))

  -- ---- the multiples of t − c·1

  abbrev pub less : X → Elem o → X
  less t c = B.◌⊕◌ t (B.neg (B.◌•◌ c B.one))

  pub less-is : (one : List E) → (let b = B.one in b.0) ≡ one → (x : X) (c : Elem o)
      → (less x c).0 ≡ less_multiple o T one x.0 c.0
  less-is one e x c =
      let h = A_is o L T u in
      h.add-is x (B.neg (B.◌•◌ c B.one)) ∙ ap (tuple_add o m x.0) (h.neg-is (B.◌•◌ c B.one)
      ∙ ap (tuple_neg o m) (h.scale-is c B.one ∙ ap (tuple_scale o m c.0) e))

  module _ (one t : List E) (one_is : (let b = B.one in b.0) ≡ one) (ht : IsElement o T t) where
    abbrev pub t' : X
    t' = tuple o L T u t ht

    -- a subspace of the multiples of t − c·1
    module _ (central : Centre B t') (constants : List E) (r : ℕ) (cr : IsElem o (at o constants r)) (s : Rows E)
        (is : IsMultiples o T one t constants r s) where
      abbrev pub c : Elem o
      c = (at o constants r, cr)

      abbrev pub y : X
      y = less t' c

      y_central : Centre B y
      y_central =
          let z = centre_submodule B in
          z.add-in t' (B.neg (B.◌•◌ c B.one)) central
          (neg_in N (Centre B) z (B.◌•◌ c B.one) (z.scale-in c B.one (centre-one B)))

      pub multiples_reduced : IsReducedBasis o m s.rows
      multiples_reduced = subst (λ w. IsReducedBasis o w s.rows) is.width is.basis

      abbrev pub shape : IsMatrix o m s.rows
      shape = let b = multiples_reduced in b.shape

      to_multiple : (x : X) → S s.rows shape x → (w : X) × (x ≡ B.◌⊗◌ y w)
      to_multiple x h =
          let k = (is.members x.0 (of_tuple o L T u x)).0 (from_rows o L T u s.rows shape x h) in
          let w = tuple o L T u k.0 k.1 in
          let h = A_is o L T u in (
            w,
            V-path o L T u x (B.◌⊗◌ y w)
                (k.2 ∙ ap (λ a. product_of o T a k.0) (sym (less-is one one_is t' c)) ∙ sym (h.product-is y w)),
          )

      from_multiple : (w : X) → S s.rows shape (B.◌⊗◌ y w)
      from_multiple w =
          let h = A_is o L T u in
          let x = B.◌⊗◌ y w in
          to_rows o L T u s.rows shape x ((is.members x.0 (of_tuple o L T u x)).1
          (w.0, of_tuple o L T u w, h.product-is y w ∙ ap (λ a. product_of o T a w.0) (less-is one one_is t' c)))

      multiples_ideal : IsIdeal (ring_ops B.ring) Whole (S s.rows shape)
      multiples_ideal = record {
        inside = λ x _. tt;
        zero_in = InSpan-zero N (length s.rows) (family o L T u s.rows shape);
        add_in = λ x z hx hz. InSpan-add N (length s.rows) (family o L T u s.rows shape) x z hx hz;
        left = λ a x _ hx. let k = to_multiple x hx in subst (S s.rows shape)
            (sym (ap (B.◌⊗◌ a) k.1 ∙ sym (B.mul_assoc a y k.0) ∙ ap (λ z. B.◌⊗◌ z k.0) (sym (y_central a))
            ∙ B.mul_assoc y a k.0))
            (from_multiple (B.◌⊗◌ a k.0));
        right = λ a x _ hx. let k = to_multiple x hx in subst (S s.rows shape)
            (sym (ap (λ z. B.◌⊗◌ z a) k.1 ∙ B.mul_assoc y k.0 a)) (from_multiple (B.◌⊗◌ k.0 a));
      }

      pub multiples_spans : SpansIdeal o T s.rows
      multiples_spans = ideal_from s.rows shape multiples_ideal

      pub multiples_hold : S s.rows shape y
      multiples_hold = subst (S s.rows shape) (B.mul-one y) (from_multiple B.one)

      pub multiples_within : (rows : List (List E)) (i : SpansIdeal o T rows)
          → rows_of.InSpan o m rows (less_multiple o T one t c.0)
          → SpanWithin o T s.rows rows
      multiples_within rows i h =
          let I = ideal_of rows i in
          let inside : S rows i.shape y = to_rows o L T u rows i.shape y
          (subst (rows_of.InSpan o m rows) (sym (less-is one one_is t' c)) h) in
          to_within s.rows rows shape i.shape (λ x hx. let k = to_multiple x hx in
          subst (S rows i.shape) (sym k.1) (I.right k.0 y tt inside))

    -- two of the elements t − c·1 in an ideal
    pub two_values : (rows : List (List E)) (i : SpansIdeal o T rows) → (S rows i.shape B.one → ⊥) → (c d : Elem o)
        → S rows i.shape (less t' c) → S rows i.shape (less t' d) → c ≡ d
    two_values rows i proper c d hc hd =
        let b = F.◌⊕◌ d (F.neg c) in
        let I = ideal_of rows i in
        let g = family o L T u rows i.shape in
        let n = length rows in
        let x = less t' c in
        let z = less t' d in
        let cx = B.◌•◌ c B.one in
        let dx = B.◌•◌ d B.one in
        let e : B.◌⊕◌ x (B.neg z) ≡ B.◌•◌ b B.one =
        words3 B.ring (λ t c d. ((t ⊞ minus c) ⊞ minus (t ⊞ minus d), d ⊞ minus c)) refl t' cx dx
        ∙ ap (B.◌⊕◌ dx) (sym (neg-scale N c B.one)) ∙ sym (B.add-scale d (F.neg c) B.one) in
        let inside : S rows i.shape (B.◌•◌ b B.one) = subst (S rows i.shape) e
        (InSpan-add N n g x (B.neg z) hc (InSpan-neg N n g z hd)) in
        sym (eq_of_sub_eq_zero F.additive d c (⊎_elim (λ (q : b ≡ F.zero). q)
        (λ (q : b ≡ F.zero → ⊥). absurd (proper (subst (S rows i.shape)
        (sym (B.mul-scale (F.inv b) b B.one) ∙ ap (λ a. B.◌•◌ a B.one) (F.inv-mul b q) ∙ B.one-scale B.one)
        (InSpan-scale N n g (F.inv b) (B.◌•◌ b B.one) inside))))
        (eq_zero_or F.zero_test b)))

    -- the kept multiples
    module _ (central : Centre B t') (constants : List E) (values : AreValues o T one t constants)
        (kept : List (Rows E))
        (k : AreKept o T (length constants) (IsMultiples o T one t constants) kept) where
      abbrev Is : ℕ → Rows E → Type 0
      Is = IsMultiples o T one t constants

      elem : (i : ℕ) → i < length kept → IsElem o (at o constants (k.origin i))
      elem i l = values.elements (k.origin i) (k.within i l)

      each : (i : ℕ) → i < length kept → IsProperIdeal o T (item o T kept i)
      each i l =
          let is = k.candidate i l in
          let r = multiples_reduced central constants (k.origin i) (elem i l) (item o T kept i) is in
          record {
            basis = is.basis;
            width = is.width;
            ideal = multiples_spans central constants (k.origin i) (elem i l) (item o T kept i) is;
            proper = λ h. let a = all_spanned (rows_at o T kept i) r.shape h in let b = k.smaller i l in omega arith;
          }

      cover : (rows : List (List E)) → SpansMaximalIdeal o T rows
          → (i : ℕ) × (i < length kept) × SpanWithin o T (rows_at o T kept i) rows
      cover rows x =
          let v = values.cover rows x in
          let e = values.elements v.0 v.1 in
          let M = maximal_ideal rows x in
          ⊎_elim
          (λ (p : (i : ℕ) × (i < length kept) × (k.origin i ≡ v.0)). (
            p.0,
            p.1,
            multiples_within central constants v.0 e (item o T kept p.0)
                (subst (λ n. Is n (item o T kept p.0)) p.2 (k.candidate p.0 p.1)) rows M v.2,
          ))
          (λ (p : (s : Rows E) × Is v.0 s × (m ≤ length s.rows)).
          let s = p.0 in
          absurd (maximal_proper rows x (λ w tw. multiples_within central constants v.0 e s p.1 rows M v.2 w tw
          (spans_all s.rows (multiples_reduced central constants v.0 e s p.1) p.2 w tw))))
          (k.others v.0 v.1)

      holds : (i : ℕ) (l : i < length kept) (rows : List (List E)) (j : SpansIdeal o T rows)
          → SpanWithin o T (rows_at o T kept i) rows
          → S rows j.shape (less t' (at o constants (k.origin i), elem i l))
      holds i l rows j w =
          let is = k.candidate i l in
          let r = multiples_reduced central constants (k.origin i) (elem i l) (item o T kept i) is in
          within_to (rows_at o T kept i) rows r.shape j.shape w (less t' (at o constants (k.origin i), elem i l))
          (multiples_hold central constants (k.origin i) (elem i l) (item o T kept i) is)

      pub kept_split : AreSplit o T kept
      kept_split = record {
        each = each;
        cover = cover;
        unique = λ rows x i j li lj wi wj.
            let M = maximal_ideal rows x in
            same_origin i j li lj (values.different (k.origin i) (k.origin j) (k.within i li) (k.within j lj)
            (ap (λ (c : Elem o). c.0) (two_values rows M (not_one rows M (maximal_proper rows x))
            (at o constants (k.origin i), elem i li) (at o constants (k.origin j), elem j lj)
            (holds i li rows M wi) (holds j lj rows M wj))));
      }
        where
          same_origin : (i j : ℕ) → i < length kept → j < length kept → k.origin i ≡ k.origin j → i ≡ j
          same_origin i j li lj e = ⊎_elim
              (λ (l : i < j). let g = k.ordered i j l lj in absurd (omega arith))
              (λ (g : j ≤ i). ⊎_elim
              (λ (l : j < i). let h = k.ordered j i l li in absurd (omega arith))
              (λ (h : i ≤ j). let q : i ≡ j = omega arith in q)
              (cases_lt j i))
              (cases_lt i j)

      pub kept_scalars : AreScalars o T one t kept
      kept_scalars i l =
          let is = k.candidate i l in
          let r = multiples_reduced central constants (k.origin i) (elem i l) (item o T kept i) is in
          let c : Elem o = (at o constants (k.origin i), elem i l) in (
            c.0,
            c.1,
            subst (rows_of.InSpan o m (rows_at o T kept i)) (less-is one one_is t' c)
                (from_rows o L T u (rows_at o T kept i) r.shape (less t' c)
                (multiples_hold central constants (k.origin i) (elem i l) (item o T kept i) is)),
          )
