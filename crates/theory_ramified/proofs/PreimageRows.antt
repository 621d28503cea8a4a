-- An ideal of an order over p, given by tuples and by rows over the residue field whose preimage it is: the conditions
-- on the tuples, and what they say of the rows.
use Rattle.std.specs.Prelude.{◌≡◌, ◌<◌, ℕ, suc, Bool, List, [], length, get_or}
use Rattle.std.proofs.Common.{refl, sym, ◌∙◌, ap, ap₂, subst, arith}
use Rattle.std.proofs.lemmas.List.Elements.{All-get_or}
use Rattle.theory_rings.specs.Ring.{FieldOn}
use Rattle.theory_rings.specs.Ops.{Ops, FieldLaws}
use Rattle.theory_rings.specs.Elements.{Elem, elements}
use Rattle.theory_rings.specs.Sum.{at, sum_of}
use Rattle.theory_rings.proofs.Sums.Sums.{sum_congr}
use Rattle.theory_rings.proofs.Rings.RingLaws.{add-zero}
use Rattle.theory_spaces.specs.Module.{ModuleOn, AlgebraOn, module_of}
use Rattle.theory_spaces.specs.Linear.{comb, Basis, InSpan}
use Rattle.theory_spaces.specs.Sets as sets
use Rattle.theory_spaces.specs.Sets.{Within, Same, Test, Whole, IsOrder, IsIdeal, Multiple, Power, SimpleQuotient}
use Rattle.theory_spaces.specs.Sets.{ring_ops}
use Rattle.theory_spaces.specs.Tuples.{IsTuple, Tuple, tuple_scale, IsTableAlgebra}
use Rattle.theory_spaces.proofs.Algebras.SetLemmas.{ideal_same, maximal_same}
use Rattle.theory_spaces.proofs.Linear.LatticeSpans.{span-zero, span-add, span-comb, span-member}
use Rattle.theory_spaces.proofs.Linear.Modules.{span_in, scale-zero}
use Rattle.theory_spaces.proofs.Tuples.TupleProducts.{tuple_algebra}
use Rattle.theory_spaces.proofs.Tuples.Tuples.{Tuple-path, tuples}
use Rattle.theory_residue.specs.Residue.{ReductionOn, Reduced, ReducedIdeal}
use Rattle.theory_residue.proofs.Correspondence.{difference, red_of_kernel, reduced_is}
use Rattle.theory_residue.proofs.Radicals.{maximal_of_simple, simple_of_maximal, vanish_more}
use Rattle.theory_tables.specs.Matrix.{entry, IsMatrix}
use Rattle.theory_tables.specs.Subspace as rows_of
use Rattle.theory_tables.specs.Subspace.{Combinations}
use Rattle.theory_tables.specs.Structure.{Structure, IsOver, IsAssociative, tuple_ops, product_of}
use Rattle.theory_tables.specs.Algebras.{IsIdentity, SpansIdeal, AreZero}
use Rattle.theory_tables.specs.Traces.{PowerVanishes}
use Rattle.theory_tables.proofs.Rows.Spans.{InSpan-member}
use Rattle.theory_tables.proofs.Algebras.Bridge.{algebra, algebra_is, row, row-is, row-at, IsTuple-of, as_tuple}
use Rattle.theory_tables.proofs.Algebras.Bridge.{table_basis, ideal_row, to_ideal, to_span, from_span, list_span}
use Rattle.theory_bases.specs.TupleLattices.{TupleLattice, AreIndependentTuples}
use Rattle.theory_left_orders.specs.ResidueRings.{ResidueRingOn}
use Rattle.theory_left_orders.specs.LeftOrders.{BasisLattice}
use Rattle.theory_left_orders.specs.ResidueAlgebras.{Over}
use Rattle.theory_left_orders.specs.TupleResidues.{AreResidueRows}
use Rattle.theory_left_orders.specs.TupleIdeals.{IsResidueTable, Preimage, AreCombinations}
use Rattle.theory_left_orders.proofs.ResidueAlgebras.{red-comb}
use Rattle.theory_left_orders.proofs.TupleLattices.{to_lattice, from_lattice}
use Rattle.theory_left_orders.proofs.TupleLeftOrders.{B, to_basis, from_basis}
use Rattle.theory_left_orders.proofs.TupleIdeals.{associative, laws, residue_one, vectors_order, reduces, in_span}
use Rattle.theory_left_orders.proofs.TupleIdeals.{preimage_of, of_preimage, comes_in, comes_to}
use Rattle.theory_growth.proofs.Tables.{nilpotent_of_rows, maximal_down, rows_of_nilpotent_rows, rows_maximal_of}
use Rattle.theory_ramified.proofs.TableSets as table_sets

module _ {E R : Type 0} (o : Ops E) (L : FieldLaws o) (P : E → Type 0) (p q : Elem o) (r : Ops R) (N : FieldLaws r)
    (D : ResidueRingOn (elements o L) (λ x. P x.0) p q (elements r N))
    (A : Structure E) (over : IsOver o A) (assoc : IsAssociative o A) (one : List E) (is_one : IsIdentity o A one)
    (os : List (List E)) (ind : AreIndependentTuples o A.dim os)
    (order : IsOrder (tuple_ops o A) one (TupleLattice o P A.dim os))
    (cs : List R) (tab : IsResidueTable o L P p q r N D A os cs) where
  abbrev n : ℕ
  n = A.dim

  abbrev K : FieldOn (Elem o)
  K = elements o L

  abbrev k : FieldOn (Elem r)
  k = elements r N

  abbrev Q : Elem o → Type 0
  Q x = P x.0

  abbrev V : Type 0
  V = Tuple o n

  abbrev W : Type 0
  W = Tuple r n

  abbrev M : ModuleOn K.ring V
  M = tuples o L n

  abbrev Alg : AlgebraOn K.ring V
  Alg = algebra o L A over.of_elements assoc one is_one

  is : IsTableAlgebra o L n A.constants Alg
  is = algebra_is o L A over.of_elements assoc one is_one

  abbrev b : Basis (module_of Alg) n
  b = B o L P p q r N D A over assoc one is_one os ind

  abbrev T : List E → Type 0
  T = TupleLattice o P n os

  abbrev BL : V → Type 0
  BL = BasisLattice K Q p q k D Alg n b

  abbrev ON : V → Type 0
  ON = Over K Q p q k D Alg n b

  eT : Same (λ (x : V). T x.0) BL
  eT = (
    to_basis o L P p q r N D A over assoc one is_one os ind,
    from_basis o L P p q r N D A over assoc one is_one os ind,
  )

  wT : Within T (IsTuple o n)
  wT a h = h.0

  order_in : IsOrder (ring_ops Alg.ring) Alg.one BL
  order_in = vectors_order o L P p q r N D A over assoc one is_one os ind order cs tab

  -- ---- the residue algebra

  abbrev C : Structure R
  C = record { dim = n; constants = cs }

  abbrev c_assoc : IsAssociative r C
  c_assoc = associative o L P p q r N D A over assoc one is_one os ind order cs tab

  abbrev e1 : List R
  e1 = (laws o L P p q r N D A over assoc one is_one os ind order cs tab).one.0

  abbrev c_law : IsIdentity r C e1
  c_law = residue_one o L P p q r N D A over assoc one is_one os ind order cs tab

  abbrev RA : AlgebraOn k.ring W
  RA = algebra r N C tab.shape.of_elements c_assoc e1 c_law

  ra_is : IsTableAlgebra r N n cs RA
  ra_is = algebra_is r N C tab.shape.of_elements c_assoc e1 c_law

  abbrev t : Basis (module_of RA) n
  t = table_basis r N C tab.shape.of_elements c_assoc e1 c_law

  abbrev reduction : ReductionOn Alg BL ON RA
  reduction = (reduces o L P p q r N D A over assoc one is_one os ind order cs tab).reduction

  abbrev red : V → W
  red = reduction.red

  -- p times the order, by lists
  pub multiple_in : (π : E) (p_is : p.0 ≡ π) (x : V) → ON x → Multiple (tuple_ops o A) (tuple_scale o n) π T x.0
  multiple_in π p_is x h =
      (h.0.0, eT.1 h.0 h.1, ap (λ (z : V). z.0) h.2 ∙ is.scale-is p h.0 ∙ ap (λ c. tuple_scale o n c h.0.0) p_is)

  -- ---- rows, and the tuples of a lattice

  module _ (rows : List (List R)) (shape : IsMatrix r n rows) (js : List (List E)) (js_shape : IsMatrix o n js) where
    abbrev J : List E → Type 0
    J = TupleLattice o P n js

    abbrev Jv : V → Type 0
    Jv x = J x.0

    wJ : Within J (IsTuple o n)
    wJ a h = h.0

    eJ : Same (λ (x : V). J x.0) Jv
    eJ = ((λ x h. h), (λ x h. h))

    abbrev jvec : ℕ → V
    jvec = row o L n js js_shape

    j_zero : Jv Alg.zero
    unfolding tuple_algebra
    j_zero = from_lattice o L n js js_shape P M.zero (span-zero K Q D.subring M (length js) jvec)

    j_add : (x y : V) → Jv x → Jv y → Jv (Alg.◌⊕◌ x y)
    unfolding tuple_algebra
    j_add x y hx hy = from_lattice o L n js js_shape P (M.◌⊕◌ x y)
        (span-add K Q D.subring M (length js) jvec x y (to_lattice o L n js js_shape P x hx.1)
        (to_lattice o L n js js_shape P y hy.1))

    abbrev Up : List E → Type 0
    Up = Preimage o L P p q r N D A os rows

    abbrev Row : W → Type 0
    Row y = Combinations r n rows y.0

    up_to : (x : V) → BL x → Row (red x) → Up x.0
    up_to = preimage_of o L P p q r N D A over assoc one is_one os ind order cs tab rows

    up_from : (x : V) → Up x.0 → BL x × Row (red x)
    up_from = of_preimage o L P p q r N D A over assoc one is_one os ind order cs tab rows

    -- ---- the residues of the coordinates of the tuples span what the lattice becomes

    module _ (coords : List (List E)) (res : AreResidueRows o L P p q r N D n coords rows)
        (combs : AreCombinations o L P p q r N D A os coords js) (above : Within ON Jv) where
      abbrev bvec : ℕ → W
      bvec = row r N n rows shape

      module _ (i : ℕ) (i_in : i < length rows) where
        l_in : i < length coords
        l_in = omega (arith, i_in, res.count)

        combines : (c : ℕ) → c < n
            → at o (jvec i).0 c ≡ sum_of o n (λ l. o.mul (at o (get_or coords i []) l) (entry o os l c))
        combines c c_in = row-at o L n js js_shape i c c_in ∙ combs.combines i c l_in c_in

        weights_tuple : IsTuple o n (get_or coords i [])
        weights_tuple = All-get_or (IsTuple o n) coords i [] l_in res.shape

        row_tuple : IsTuple r n (get_or rows i [])
        row_tuple = All-get_or (IsTuple r n) rows i [] i_in shape

        j_in : BL (jvec i)
        j_in = comes_in o L P p q r N D A over assoc one is_one os ind order cs tab (jvec i) (get_or coords i [])
            (get_or rows i []) weights_tuple row_tuple combines (λ l c_in. res.entries i l l_in c_in)

        j_becomes : red (jvec i) ≡ bvec i
        j_becomes = Tuple-path r N n (red (jvec i)) (bvec i)
            (comes_to o L P p q r N D A over assoc one is_one os ind order cs tab (jvec i) (get_or coords i [])
            (get_or rows i []) weights_tuple row_tuple combines (λ l c_in. res.entries i l l_in c_in)
            ∙ sym (row-is r N n rows shape i i_in))

      counts : length js ≡ length rows
      counts = combs.count ∙ res.count

      -- a combination of the tuples, and the same one of the rows
      module _ (c : ℕ → Elem o) (allowed : (i : ℕ) → i < length rows → Q (c i)) where
        abbrev sum_j : V
        sum_j = comb (module_of Alg) (length rows) c jvec

        sum_in : BL sum_j
        sum_in = span-comb K Q D.subring (module_of Alg) n b.vec (length rows) c jvec allowed j_in

        sum_becomes : red sum_j ≡ comb (module_of RA) (length rows) (λ i. D.res (c i)) bvec
        sum_becomes = red-comb K Q p q k D Alg n b order_in RA t
            (reduces o L P p q r N D A over assoc one is_one os ind order cs tab) (length rows) c jvec allowed j_in
            ∙ sum_congr RA.monoid (length rows) (λ i. RA.◌•◌ (D.res (c i)) (red (jvec i)))
            (λ i. RA.◌•◌ (D.res (c i)) (bvec i)) (λ i l. ap (RA.◌•◌ (D.res (c i))) (j_becomes i l))

        sum_of_j : Jv sum_j
        unfolding tuple_algebra
        sum_of_j = from_lattice o L n js js_shape P sum_j
            (span-comb K Q D.subring M (length js) jvec (length rows) c jvec allowed
            (λ i l. span-member K Q D.subring M (length js) jvec i (omega (arith, l, counts))))

      pub rows_of_residues : Same Up J
      unfolding tuple_algebra
      rows_of_residues = (from_up, to_up)
        where
          from_up : Within Up J
          from_up a h =
              let x = as_tuple o L n a h.0 in
              let f = up_from x h in
              let s = to_span r N n rows shape (red x) f.1.1 in
              let c : ℕ → Elem o = λ i. D.lift (s.weights i) in
              let g : (i : ℕ) → i < length rows → Q (c i) = λ i _. D.lift_in (s.weights i) in
              let y = sum_j c g in
              let e : red x ≡ red y = s.combines
              ∙ sym (sum_becomes c g ∙ sum_congr RA.monoid (length rows) (λ i. RA.◌•◌ (D.res (c i)) (bvec i))
              (λ i. RA.◌•◌ (s.weights i) (bvec i)) (λ i _. ap (λ d. RA.◌•◌ d (bvec i)) (D.res-lift (s.weights i)))) in
              let d = Alg.◌⊕◌ x (Alg.neg y) in
              subst Jv (Alg.add_assoc x (Alg.neg y) y ∙ ap (Alg.◌⊕◌ x) (Alg.neg-add y) ∙ add-zero Alg.monoid x)
              (j_add d y (above d (difference Alg BL ON order_in RA reduction x y f.0 (sum_in c g) e))
              (sum_of_j c g))

          to_up : Within J Up
          to_up a h =
              let x = as_tuple o L n a h.0 in
              let s = to_lattice o L n js js_shape P x h.1 in
              let g : (i : ℕ) → i < length rows → Q (s.weights i) =
              λ i l. s.passes i (omega (arith, l, counts)) in
              let e : x ≡ sum_j s.weights g = s.combines ∙ ap (λ m. comb M m s.weights jvec) counts in
              up_to x (subst BL (sym e) (sum_in s.weights g)) (
                IsTuple-of r N n (red x),
                from_span r N n rows shape (red x) (record {
                  weights = λ i. D.res (s.weights i);
                  combines = ap red e ∙ sum_becomes s.weights g;
                }),
              )

    -- ---- an ideal over p, and the rows whose preimage it is

    module _ (π : E) (p_is : p.0 ≡ π) (inside : Within J T)
        (left : (a x : List E) → T a → J x → J (product_of o A a x))
        (right : (a x : List E) → T a → J x → J (product_of o A x a))
        (above : Within (Multiple (tuple_ops o A) (tuple_scale o n) π T) J) (pre : Same Up J) where
      ideal : IsIdeal (ring_ops Alg.ring) BL Jv
      ideal = record {
        inside = λ x j. eT.0 x (inside x.0 j);
        zero_in = j_zero;
        add_in = j_add;
        left = λ a x l j. subst J (sym (is.product-is a x)) (left a.0 x.0 (eT.1 a l) j);
        right = λ a x l j. subst J (sym (is.product-is x a)) (right a.0 x.0 (eT.1 a l) j);
      }

      above_in : Within ON Jv
      above_in x h = above x.0 (multiple_in π p_is x h)

      abbrev Red : W → Type 0
      Red = Reduced Alg BL ON RA reduction Jv

      reduced : ReducedIdeal Alg BL ON RA reduction Jv
      reduced = reduced_is Alg BL ON order_in RA reduction Jv ideal above_in

      -- what it becomes is what the rows span
      becomes : Same Red Row
      becomes = (
        λ y h. subst Row h.2 (up_from h.0 (pre.1 h.0.0 h.1)).1,
        λ y h.
            let x = reduction.lift y in
            let e = reduction.red-lift y in
            (x, pre.0 x.0 (up_to x (reduction.lift_in y) (subst Row (sym e) h)), e),
      )

      pub spans_ideal : SpansIdeal r C rows
      spans_ideal = record {
        shape = shape;
        ideal = table_sets.ideal_from r N C RA ra_is (IsTuple r n) (Combinations r n rows) (λ a h. h) (λ a h. h.0) Whole
            Row ((λ x h. tt), (λ x h. IsTuple-of r N n x)) ((λ x h. h), (λ x h. h))
            (ideal_same (ring_ops RA.ring) Whole Red Row becomes reduced.ideal);
      }

      abbrev Span : W → Type 0
      Span = InSpan (module_of RA) (length rows)
          (ideal_row r N C tab.shape.of_elements c_assoc e1 c_law rows spans_ideal)

      to_rows : Within Red Span
      to_rows y h = in_span o L P p q r N D A over assoc one is_one os ind order cs tab rows spans_ideal y
          (becomes.0 y h).1

      from_rows : Within Span Red
      from_rows y h = becomes.1 y (
        IsTuple-of r N n y,
        list_span r N C tab.shape.of_elements c_assoc e1 c_law rows spans_ideal y h,
      )

      -- some power of it is over p just where the rows are nilpotent
      abbrev Falls : ℕ → Type 0
      Falls e = Within (Power (tuple_ops o A) J e) (Multiple (tuple_ops o A) (tuple_scale o n) π T)

      falls_to : (e : ℕ) → Falls e → Within (Power (ring_ops Alg.ring) Jv e) ON
      falls_to e h x g = table_sets.multiple_to o L A Alg is T J wT wJ BL Jv eT eJ p π p_is x
          (h x.0 (table_sets.power_from o L A Alg is T J wT wJ BL Jv eT eJ e x g))

      falls_from : (e : ℕ) → Within (Power (ring_ops Alg.ring) Jv e) ON → Falls e
      falls_from e h a g =
          let x = as_tuple o L n a (table_sets.power_tuple o L A Alg is T J wT wJ BL Jv eT eJ e a g) in
          table_sets.multiple_from o L A Alg is T J wT wJ BL Jv eT eJ p π p_is x
          (h x (table_sets.power_to o L A Alg is T J wT wJ BL Jv eT eJ e x g))

      pub vanishes : (e : ℕ) → Falls e → PowerVanishes r C rows
      vanishes e h = rows_of_nilpotent_rows r N C tab.shape c_assoc e1 c_law rows spans_ideal (record {
        ideal = to_ideal r N C tab.shape.of_elements c_assoc e1 c_law rows spans_ideal;
        exponent = suc e;
        vanishes = λ a g. (reduced.powers e).0 (falls_to e h) a (λ i. from_rows (a i) (g i));
      })

      pub falls : PowerVanishes r C rows → (e : ℕ) × Falls e
      falls h =
          let nil = nilpotent_of_rows r N C tab.shape c_assoc e1 c_law rows spans_ideal h in (
            nil.exponent,
            falls_from nil.exponent ((reduced.powers nil.exponent).1 (λ a g.
                vanish_more RA.ring Span nil.exponent nil.vanishes a (λ i. to_rows (a i) (g i)))),
          )

      -- it is p times the order just where the rows are 0
      pub are_zero : Within J (Multiple (tuple_ops o A) (tuple_scale o n) π T) → AreZero r C rows
      are_zero h i i_in =
          let y = row r N n rows shape i in
          let e : y.0 ≡ get_or rows i [] = row-is r N n rows shape i i_in in
          let g = becomes.1 y (
            IsTuple-of r N n y,
            subst (rows_of.InSpan r n rows) (sym e)
                (InSpan-member r N n rows shape i i_in),
          ) in
          let x = g.0 in
          sym e ∙ ap (λ (z : W). z.0) (sym g.2 ∙ red_of_kernel Alg BL ON order_in RA reduction x
          (table_sets.multiple_to o L A Alg is T J wT wJ BL Jv eT eJ p π p_is x (h x.0 g.1))) ∙ ra_is.zero-is

      pub all_multiples : AreZero r C rows → Within J (Multiple (tuple_ops o A) (tuple_scale o n) π T)
      unfolding spans_ideal
      all_multiples h a j =
          let x = as_tuple o L n a (wJ a j) in
          let Zero : W → Type 0 = λ y. y ≡ RA.zero in
          let z = span_in (module_of RA) Zero (record {
            zero-in = refl;
            add-in = λ a c ea ec. ap₂ RA.◌⊕◌ ea ec ∙ RA.zero-add RA.zero;
            scale-in = λ c a ea. ap (RA.◌•◌ c) ea ∙ scale-zero (module_of RA) c;
          }) (length rows) (ideal_row r N C tab.shape.of_elements c_assoc e1 c_law rows spans_ideal)
          (λ i l. Tuple-path r N n (row r N n rows shape i) RA.zero
          (row-is r N n rows shape i l ∙ h i l ∙ sym ra_is.zero-is))
          (red x) (to_rows (red x) (x, j, refl)) in
          table_sets.multiple_from o L A Alg is T J wT wJ BL Jv eT eJ p π p_is x
          ((reduction.kernel x (ideal.inside x j)).0 z)

      -- the quotient by it is simple just where the rows span a maximal ideal; a test tells the order
      module _ (test : V → Bool) (decides : Same (Test test) BL) where
        pub maximal : SimpleQuotient (tuple_ops o A) T J
            → sets.IsMaximalIdeal (tuple_ops r C) (IsTuple r n) (Combinations r n rows)
        maximal h = rows_maximal_of r N C tab.shape c_assoc e1 c_law rows spans_ideal
            (maximal_same (ring_ops RA.ring) Whole Red Span (to_rows, from_rows)
            (maximal_of_simple Alg BL ON order_in RA reduction test decides Jv ideal above_in
            (table_sets.simple_to o L A Alg is T J wT wJ BL Jv eT eJ h)))

        pub simple : sets.IsMaximalIdeal (tuple_ops r C) (IsTuple r n) (Combinations r n rows)
            → SimpleQuotient (tuple_ops o A) T J
        simple h = table_sets.simple_from o L A Alg is T J wT wJ BL Jv eT eJ
            (simple_of_maximal Alg BL ON order_in RA reduction test decides Jv ideal above_in
            (maximal_same (ring_ops RA.ring) Whole Row Red (becomes.1, becomes.0)
            (maximal_down r N C tab.shape c_assoc e1 c_law (Combinations r n rows) h)))
