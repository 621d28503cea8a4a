-- An order of tuples at a place whose maximal ideals do not grow: it is its own dual for the trace where its residue
-- algebra has the radical 0, and else ramified.
use Rattle.std.specs.Prelude.{◌≡◌, ◌↔◌, ℕ, IsTrue, List, [], length, get_or, ◌<◌, zero, suc, Bool, true, false, cond}
use Rattle.std.specs.Prelude.{eqb}
use Rattle.std.proofs.Common.{refl, sym, ◌∙◌, ap, ap₂, subst}
use Rattle.theory_rings.specs.Ring.{FieldOn}
use Rattle.theory_rings.specs.Ops.{Ops, FieldLaws}
use Rattle.theory_rings.specs.Elements.{Elem, elements}
use Rattle.theory_rings.specs.Power.{times, power}
use Rattle.theory_rings.proofs.Sums.Sums.{sum_congr}
use Rattle.theory_spaces.specs.Module.{AlgebraOn, module_of}
use Rattle.theory_spaces.specs.Linear.{comb, Basis, InSpan}
use Rattle.theory_spaces.specs.Algebra.{Central, IsNilpotent, trace}
use Rattle.theory_spaces.specs.Valuation.{ValuationOn}
use Rattle.theory_spaces.specs.Sets.{Within, Same, IsOrder, Whole, LeftOrder, ring_ops}
use Rattle.theory_spaces.specs.Tuples.{Tuple, IsTableAlgebra, IsTuple}
use Rattle.theory_spaces.specs.Form.{trace_form}
use Rattle.theory_spaces.specs.Matrix.{delta}
use Rattle.theory_spaces.specs.Sets as sets
use Rattle.theory_spaces.proofs.Linear.Modules.{span_in, scale-zero}
use Rattle.theory_spaces.proofs.Linear.Spaces.{Basis-coord}
use Rattle.theory_spaces.proofs.Tuples.TupleProducts.{tuple_algebra}
use Rattle.theory_spaces.proofs.Tuples.Tuples.{Tuple-path}
use Rattle.theory_spaces.proofs.Forms.Traces.{trace-nilpotent}
use Rattle.theory_spaces.proofs.Forms.TraceForms.{trace_form_bilinear}
use Rattle.theory_spaces.proofs.Linear.BasisChange.{trace_basis}
use Rattle.theory_spaces.proofs.Linear.LatticeSpans.{lattice-member}
use Rattle.theory_spaces.proofs.Algebras.SetLemmas.{maximal_same}
use Rattle.theory_orders.specs.Uniformizer.{IsIntegral, IsUnit, UniformizerOn}
use Rattle.theory_orders.specs.Orders as orders
use Rattle.theory_orders.specs.Orders.{Multiple, Radical, IsMaximalIdeal, OnlyMaximalIdeal, SimpleQuotient}
use Rattle.theory_orders.specs.Dual.{IsSelfDual}
use Rattle.theory_orders.specs.Ramified.{IsRamified}
use Rattle.theory_orders.specs.Lattices.{Lattice, IsOrderAt, NothingGrows}
use Rattle.theory_orders.proofs.SomeMaximal.{radical_is_the_only}
use Rattle.theory_orders.proofs.Ideals.Ideals.{ideal_same, simple_same}
use Rattle.theory_orders.proofs.LeftOrder.LeftOrders.{Power_map}
use Rattle.theory_orders.proofs.LeftOrder.Settled.{self_dual}
use Rattle.theory_orders.proofs.Lattices.Dual.{trace_integral}
use Rattle.theory_radical.specs.Ideal as ideals
use Rattle.theory_residue.specs.Residue.{ResidueOn, ResidueConstants, ResidueReduction}
use Rattle.theory_residue.specs.ResidueLaws.{IdealsCorrespond, SpanLifts}
use Rattle.theory_residue.proofs.ResidueAlgebra.{basis_ext, coord-vec}
use Rattle.theory_residue.proofs.Laws.{order_reduces, ideals_correspond}
use Rattle.theory_tables.specs.Subspace as rows_of
use Rattle.theory_tables.specs.Structure.{Structure, IsOver, IsAssociative, tuple_ops}
use Rattle.theory_tables.specs.Algebras.{IsIdentity, SpansIdeal, AreZero}
use Rattle.theory_tables.specs.Traces.{trace as list_trace, PowerVanishes}
use Rattle.theory_tables.proofs.Rows.Spans.{InSpan-member}
use Rattle.theory_tables.proofs.Algebras.Bridge.{algebra, algebra_is, row, row-is, IsTuple-of, as_tuple, table_basis}
use Rattle.theory_tables.proofs.Algebras.Bridge.{ideal_row, to_ideal, list_span, trace-is}
use Rattle.theory_bases.specs.TupleLattices.{TupleLattice, AreIndependentTuples, IsTraceDualOfItself, trace_of_product}
use Rattle.theory_chains.specs.Radical.{SpansRadical}
use Rattle.theory_left_orders.specs.ResidueRings.{ResidueRingOn}
use Rattle.theory_left_orders.specs.TupleIdeals.{IsResidueTable, Preimage}
use Rattle.theory_left_orders.specs.TupleResidues.{LeftOrderOf}
use Rattle.theory_left_orders.proofs.TupleLeftOrders.{B, to_basis, from_basis}
use Rattle.theory_left_orders.proofs.TupleIdeals.{associative, laws, residue_one, ra_products, reduces, up_to, up_from}
use Rattle.theory_left_orders.proofs.TupleIdeals.{in_span}
use Rattle.theory_left_orders.proofs.ResidueRings.{res-zero, res-sum, coord_member, p-q_scale}
use Rattle.theory_growth.specs.Steps.{NoneGrows}
use Rattle.theory_growth.proofs.Vectors as vectors
use Rattle.theory_growth.proofs.Tables.{family, family_ideal, family_maximal, to_family, from_family, largest_of_rows}
use Rattle.theory_growth.proofs.Tables.{nilpotent_of_rows, maximal_down, rows_of_nilpotent_rows, rows_maximal_of}
use Rattle.theory_growth.proofs.Quotients.{nilpotent_within}

-- the radical by sets with the same members
pub radical_same : {K V : Type 0} (F : FieldOn K) (A : AlgebraOn F.ring V) (p : K) (L I J : V → Type 0)
    → orders.IsOrder A L → Same I J → Radical A p L I → Radical A p L J
radical_same F A p L I J O e h = record {
  ideal = ideal_same A L I J e h.ideal;
  over = λ x s. e.0 x (h.over x s);
  exponent = h.exponent;
  falls = λ x s. h.falls x (Power_map A L O J I e.1 h.exponent x s);
  largest = λ t k i o f x s. e.0 x (h.largest t k i o f x s);
}

module _ {E R : Type 0} (o : Ops E) (L : FieldLaws o) (P : E → Type 0) (p q : Elem o) (r : Ops R) (N : FieldLaws r)
    (D : ResidueRingOn (elements o L) (λ x. P x.0) p q (elements r N))
    (Z : ValuationOn (elements o L)) (tells : (a : Elem o) → IsTrue (Z.integral a) ↔ P a.0)
    (U : UniformizerOn (elements o L) Z p q)
    (A : Structure E) (over : IsOver o A) (assoc : IsAssociative o A) (one : List E) (is_one : IsIdentity o A one)
    (rows : List (List E)) (ind : AreIndependentTuples o A.dim rows)
    (order : IsOrder (tuple_ops o A) one (TupleLattice o P A.dim rows))
    (cs : List R) (tab : IsResidueTable o L P p q r N D A rows cs) where
  abbrev n : ℕ
  n = A.dim

  abbrev K : FieldOn (Elem o)
  K = elements o L

  abbrev k : FieldOn (Elem r)
  k = elements r N

  abbrev Q : Elem o → Type 0
  Q x = P x.0

  abbrev V : Type 0
  V = Tuple o n

  abbrev W : Type 0
  W = Tuple r n

  abbrev Alg : AlgebraOn K.ring V
  Alg = algebra o L A over.of_elements assoc one is_one

  is : IsTableAlgebra o L n A.constants Alg
  is = algebra_is o L A over.of_elements assoc one is_one

  abbrev B0 : Basis (module_of Alg) n
  B0 = table_basis o L A over.of_elements assoc one is_one

  abbrev b : Basis (module_of Alg) n
  b = B o L P p q r N D A over assoc one is_one rows ind

  abbrev v : ℕ → V
  v = row o L n rows ind.shape

  abbrev Lat : ℕ → (ℕ → V) → V → Type 0
  Lat = Lattice K Z Alg

  abbrev Lv : V → Type 0
  Lv = Lat n v

  abbrev full_to : (js : List (List E)) (jind : AreIndependentTuples o n js) (x : V) → TupleLattice o P n js x.0
      → Lat n (row o L n js jind.shape) x
  full_to = vectors.full_to o L P Z tells A over assoc one is_one

  abbrev full_from : (js : List (List E)) (jind : AreIndependentTuples o n js) (x : V)
      → Lat n (row o L n js jind.shape) x → TupleLattice o P n js x.0
  full_from = vectors.full_from o L P Z tells A over assoc one is_one

  to : (x : V) → TupleLattice o P n rows x.0 → Lv x
  to = full_to rows ind

  from : (x : V) → Lv x → TupleLattice o P n rows x.0
  from = full_from rows ind

  abbrev order_at : IsOrderAt K Z Alg n v
  order_at = vectors.order_at o L P Z tells A over assoc one is_one rows ind order

  -- ---- the residue algebra

  DR : ResidueOn K Z q k
  DR = record {
    res = D.res;
    lift = D.lift;
    lift_in = λ a. (tells (D.lift a)).1 (D.lift_in a);
    res-lift = D.res-lift;
    map-one = D.map-one;
    map-add = λ x y hx hy. D.map-add x y ((tells x).0 hx) ((tells y).0 hy);
    map-mul = λ x y hx hy. D.map-mul x y ((tells x).0 hx) ((tells y).0 hy);
    kernel = λ a h. let f = D.kernel a ((tells a).0 h) in let t = tells (K.◌⊗◌ q a) in
        (λ e. t.1 (f.0 e), λ i. f.1 (t.0 i));
  }

  abbrev C : Structure R
  C = record { dim = n; constants = cs }

  abbrev c_assoc : IsAssociative r C
  c_assoc = associative o L P p q r N D A over assoc one is_one rows ind order cs tab

  abbrev c_law : IsIdentity r C (let h = laws o L P p q r N D A over assoc one is_one rows ind order cs tab in h.one.0)
  c_law = residue_one o L P p q r N D A over assoc one is_one rows ind order cs tab

  abbrev e1 : List R
  e1 = let h = laws o L P p q r N D A over assoc one is_one rows ind order cs tab in h.one.0

  abbrev RA : AlgebraOn k.ring W
  RA = algebra r N C tab.shape.of_elements c_assoc e1 c_law

  abbrev t : Basis (module_of RA) n
  t = table_basis r N C tab.shape.of_elements c_assoc e1 c_law

  constants : ResidueConstants K Z k DR Alg RA n v t.vec
  unfolding DR B tuple_algebra
  constants i j i_in j_in c e =
      let x = RA.◌⊗◌ (t.vec i) (t.vec j) in
      let y = comb (module_of RA) n (λ l. D.res (c l)) t.vec in
      basis_ext (module_of RA) n t x y (λ l l_in.
      ra_products o L P p q r N D A over assoc one is_one rows ind order cs tab i j l i_in j_in l_in
      ∙ ap D.res (ap (λ z. b.coord z l) e ∙ Basis-coord (module_of Alg) n b c l l_in)
      ∙ sym (Basis-coord (module_of RA) n t (λ l. D.res (c l)) l l_in))

  abbrev rr : ResidueReduction K Z p k DR Alg RA n v t.vec
  rr = order_reduces K Z p q U k DR Alg n B0 W v order_at RA t constants

  abbrev IC : IdealsCorrespond K Z p k DR Alg n RA v rr.reduction
  IC = ideals_correspond K Z p q U k DR Alg n B0 W v order_at RA t rr

  abbrev red : V → W
  red = rr.reduction.red

  abbrev red0 : V → W
  red0 = let h = reduces o L P p q r N D A over assoc one is_one rows ind order cs tab in h.reduction.red

  -- the two maps onto it are one on the order
  red_same : (x : V) → Lv x → red x ≡ red0 x
  unfolding DR B tuple_algebra
  red_same x s =
      let h = reduces o L P p q r N D A over assoc one is_one rows ind order cs tab in
      basis_ext (module_of RA) n t (red x) (red0 x) (λ l l_in.
      ap (λ y. t.coord y l) (ap red s.combines ∙ rr.values s.weights s.passes)
      ∙ Basis-coord (module_of RA) n t (λ i. D.res (s.weights i)) l l_in
      ∙ sym (h.values x l l_in
      ∙ ap D.res (ap (λ y. b.coord y l) s.combines ∙ Basis-coord (module_of Alg) n b s.weights l l_in)))

  -- ---- preimages

  module _ (ideal : List (List R)) (spans : SpansIdeal r C ideal) where
    abbrev s : ℕ
    s = length ideal

    abbrev below : ℕ → W
    below = ideal_row r N C tab.shape.of_elements c_assoc e1 c_law ideal spans

    pre_to : (x : V) → Lv x → rows_of.InSpan r n ideal (red x).0 → Preimage o L P p q r N D A rows ideal x.0
    pre_to x hx h = up_to o L P p q r N D A over assoc one is_one rows ind order cs tab ideal spans x (
      to_basis o L P p q r N D A over assoc one is_one rows ind x (from x hx),
      in_span o L P p q r N D A over assoc one is_one rows ind order cs tab ideal spans (red0 x)
          (subst (λ (y : W). rows_of.InSpan r n ideal y.0) (red_same x hx) h),
    )

    pre_from : (x : V) → Preimage o L P p q r N D A rows ideal x.0 → Lv x × rows_of.InSpan r n ideal (red x).0
    pre_from x h =
        let u = up_from o L P p q r N D A over assoc one is_one rows ind order cs tab ideal spans x h in
        let hx : Lv x = to x (from_basis o L P p q r N D A over assoc one is_one rows ind x u.0) in (
          hx,
          subst (λ (y : W). rows_of.InSpan r n ideal y.0) (sym (red_same x hx))
              (list_span r N C tab.shape.of_elements c_assoc e1 c_law ideal spans
              (red0 x) u.1),
        )

  -- rows with the same combinations have the same preimage
  preimage_same : (x y : List (List R)) → rows_of.SameSpan r n x y → (a : List E)
      → Preimage o L P p q r N D A rows x a → Preimage o L P p q r N D A rows y a
  preimage_same x y e a h =
      let f = h.1 in (
        h.0,
        record {
          weights = f.weights;
          tuple = f.tuple;
          combines = f.combines;
          residues = f.residues;
          each = f.each;
          inside = (f.inside.0, (e f.residues f.inside.0).0 f.inside.1);
        },
      )

  -- ---- the preimage of an ideal as a lattice

  module _ (rad : List (List R)) (SI : SpansIdeal r C rad) (js : List (List E)) (jind : AreIndependentTuples o n js)
      (pre : Same (Preimage o L P p q r N D A rows rad) (TupleLattice o P n js)) where
    abbrev jvec : ℕ → V
    jvec = row o L n js jind.shape

    abbrev Lj : V → Type 0
    Lj = Lat n jvec

    abbrev lifted_span : SpanLifts K Z p k DR Alg n RA v rr.reduction (length rad) (below rad SI)
    lifted_span = IC.spans (length rad) (below rad SI) (to_ideal r N C tab.shape.of_elements c_assoc e1 c_law rad SI)

    j_from : (x : V) → Lj x → Lv x × rows_of.InSpan r n rad (red x).0
    j_from x h = pre_from rad SI x (pre.1 x.0 (full_from js jind x h))

    j_to : (x : V) → Lv x → rows_of.InSpan r n rad (red x).0 → Lj x
    j_to x hx h = full_to js jind x (pre.0 x.0 (pre_to rad SI x hx h))

    j_same : Same (Lat lifted_span.size lifted_span.vec) Lj
    j_same = (
      λ x h. let f = lifted_span.lattice.1 x h in
          j_to x f.0 (list_span r N C tab.shape.of_elements c_assoc e1 c_law rad SI (red x) f.1),
      λ x h. let f = j_from x h in lifted_span.lattice.0 x (
        f.0,
        in_span o L P p q r N D A over assoc one is_one rows ind order cs tab rad SI (red x) f.1,
      ),
    )

    -- Lj lies in p times the order just where the rows are 0
    small_to : Within Lj (Multiple Alg p Lv) → AreZero r C rad
    small_to h i i_in =
        let y = below rad SI i in
        let x = rr.reduction.lift y in
        let hx = rr.reduction.lift_in y in
        let e : red x ≡ y = rr.reduction.red-lift y in
        let ey : y.0 ≡ get_or rad i [] = row-is r N n rad SI.shape i i_in in
        let z = h x (j_to x hx (subst (rows_of.InSpan r n rad) (sym (ap (λ (a : W). a.0) e ∙ ey))
        (InSpan-member r N n rad SI.shape i i_in))) in
        sym ey ∙ ap (λ (a : W). a.0) (sym e ∙ (rr.reduction.kernel x hx).1 z)
        ∙ (let f = algebra_is r N C tab.shape.of_elements c_assoc e1 c_law in f.zero-is)

    small_from : AreZero r C rad → Within Lj (Multiple Alg p Lv)
    small_from h x s =
        let f = j_from x s in
        let Zero : W → Type 0 = λ y. y ≡ RA.zero in
        (rr.reduction.kernel x f.0).0 (span_in (module_of RA) Zero (record {
          zero-in = refl;
          add-in = λ a c ea ec. ap₂ RA.◌⊕◌ ea ec ∙ RA.zero-add RA.zero;
          scale-in = λ c a ea. ap (RA.◌•◌ c) ea ∙ scale-zero (module_of RA) c;
        }) (length rad) (below rad SI) (λ i l. Tuple-path r N n (below rad SI i) RA.zero
        (row-is r N n rad SI.shape i l ∙ h i l
        ∙ sym (let f = algebra_is r N C tab.shape.of_elements c_assoc e1 c_law in f.zero-is)))
        (red x) (in_span o L P p q r N D A over assoc one is_one rows ind order cs tab rad SI (red x) f.1))

    -- ---- ramified, by the rows

    abbrev span : W → Type 0
    span = InSpan (module_of RA) (length rad) (below rad SI)

    on_rows : Same (λ (y : W). rows_of.Combinations r n rad y.0) span
    on_rows = (
      λ y h. in_span o L P p q r N D A over assoc one is_one rows ind order cs tab rad SI y h.1,
      λ y h. (
        IsTuple-of r N n y,
        list_span r N C tab.shape.of_elements c_assoc e1 c_law rad SI y h,
      ),
    )

    pub rows_vanish : Radical Alg p Lv Lj → PowerVanishes r C rad
    rows_vanish h =
        let g = lifted_span.radical.1 (radical_same K Alg p Lv Lj (Lat lifted_span.size lifted_span.vec) order_at.order
        (j_same.1, j_same.0) h) in
        rows_of_nilpotent_rows r N C tab.shape c_assoc e1 c_law rad SI g.nilpotent

    pub rows_maximal : Radical Alg p Lv Lj → SimpleQuotient Alg Lv Lj
        → sets.IsMaximalIdeal (tuple_ops r C) (IsTuple r n) (rows_of.Combinations r n rad)
    rows_maximal h simple = rows_maximal_of r N C tab.shape c_assoc e1 c_law rad SI (lifted_span.maximal.1 (record {
      maximal = record {
        ideal = ideal_same Alg Lv Lj (Lat lifted_span.size lifted_span.vec) (j_same.1, j_same.0) h.ideal;
        simple = simple_same Alg Lv Lj (Lat lifted_span.size lifted_span.vec) (j_same.1, j_same.0) simple;
      };
      over = λ x g. j_same.1 x (h.over x g);
    }))

    module _ (vanish : PowerVanishes r C rad)
        (X : sets.IsMaximalIdeal (tuple_ops r C) (IsTuple r n) (rows_of.Combinations r n rad)) where
      claim : Radical Alg p Lv Lj × SimpleQuotient Alg Lv Lj
      claim =
          let nil = nilpotent_of_rows r N C tab.shape c_assoc e1 c_law rad SI vanish in
          let XV = maximal_same (ring_ops RA.ring) Whole (λ (y : W). rows_of.Combinations r n rad y.0) span on_rows
          (maximal_down r N C tab.shape c_assoc e1 c_law (rows_of.Combinations r n rad) X) in (
            radical_same K Alg p Lv (Lat lifted_span.size lifted_span.vec) Lj order_at.order j_same
                (lifted_span.radical.0 (record {
                  nilpotent = nil;
                  largest = λ a g other x h. nilpotent_within k RA n t a (length rad) g (below rad SI) other XV x h;
                })),
            simple_same Alg Lv (Lat lifted_span.size lifted_span.vec) Lj j_same (lifted_span.maximal.0 XV).simple,
          )

      pub ramified_by_rows : Within (LeftOrderOf o L P p q r N D A js) (TupleLattice o P n rows)
          → (AreZero r C rad → ⊥) → IsRamified K Z p Alg n v jvec
      ramified_by_rows left some = record {
        order = order_at;
        independent = vectors.full_independent o L P Z tells A over assoc one is_one js jind;
        radical = claim.0;
        simple = claim.1;
        left_order = (
          λ a h. to a (left a.0 (
            IsTuple-of o L n a,
            λ y hy.
                let z = as_tuple o L n y hy.0 in
                subst (TupleLattice o P n js) (is.product-is a z)
                (full_from js jind (Alg.◌⊗◌ a z) (h z (full_to js jind z hy))),
          )),
          λ a l x h. claim.0.ideal.left a x l h,
        );
        not_multiple = λ h. some (small_to h);
      }

    -- the left order by lists
    pub left_by_lists : Within (LeftOrder (ring_ops Alg.ring) Lj) Lv
        → Within (LeftOrderOf o L P p q r N D A js) (TupleLattice o P n rows)
    left_by_lists h a g =
        let u = as_tuple o L n a g.0 in
        from u (h u (λ x hx. full_to js jind (Alg.◌⊗◌ u x)
        (subst (TupleLattice o P n js) (sym (is.product-is u x)) (g.1 x.0 (full_from js jind x hx)))))

    pub some_rows : (Within Lj (Multiple Alg p Lv) → ⊥) → AreZero r C rad → ⊥
    some_rows h z = h (small_from z)

  -- ---- nothing grows

  module _ (count : ℕ) (each : ℕ → List (List R)) (G : NoneGrows o L P p q r N D A rows C count each) where
    nothing_grows : NothingGrows K Z Alg p Lv
    nothing_grows m g X a h =
        let LR = IC.lattices m g X.ideal X.over in
        let u : ℕ → W = λ i. red (g i) in
        let mr = LR.maximal.0 X in
        let F = family r N C tab.shape c_assoc e1 c_law m u in
        let FI = family_ideal r N C tab.shape c_assoc e1 c_law m u mr.ideal in
        let f = G.complete F FI.shape (family_maximal r N C tab.shape c_assoc e1 c_law m u mr) in
        let d = G.each f.0 f.1 in
        let same = f.2 in
        let other : rows_of.SameSpan r n (each f.0) F = λ c hc. ((same c hc).1, (same c hc).0) in
        let down : (y : V) → TupleLattice o P n d.ideal y.0 → Lat m g y = λ y hy.
        let w = pre_from F FI y (preimage_same (each f.0) F other y.0 (d.preimage.1 y.0 hy)) in
        LR.ideal.lifted.0 y (w.0, LR.span.1 (red y) (to_family r N C tab.shape c_assoc e1 c_law m u (red y) w.1)) in
        let up : (y : V) → Lat m g y → TupleLattice o P n d.ideal y.0 = λ y hy.
        d.preimage.0 y.0 (preimage_same F (each f.0) same y.0
        (pre_to F FI y (X.ideal.inside y hy)
        (from_family r N C tab.shape c_assoc e1 c_law m u (red y) (LR.span.0 (red y) (y, hy, refl))))) in
        to a (d.left_order a.0 (
          IsTuple-of o L n a,
          λ y hy.
              let z = as_tuple o L n y hy.0 in
              subst (TupleLattice o P n d.ideal) (is.product-is a z) (up (Alg.◌⊗◌ a z) (h z (down z hy))),
        ))

    -- ---- the radical

    module _ (strict : IsIntegral K Z q → ⊥) (nonzero : Alg.one ≡ Alg.zero → ⊥) (ct : Central Alg)
        (rad : List (List R)) (S : SpansRadical r C rad) (js : List (List E)) (jind : AreIndependentTuples o n js)
        (pre : Same (Preimage o L P p q r N D A rows rad) (TupleLattice o P n js)) where
      abbrev w : ℕ → V
      w = row o L n js jind.shape

      abbrev J : V → Type 0
      J = Lat n w

      abbrev SL : SpanLifts K Z p k DR Alg n RA v rr.reduction (length rad) (below rad S.ideal)
      SL = IC.spans (length rad) (below rad S.ideal) (to_ideal r N C tab.shape.of_elements c_assoc e1 c_law rad S.ideal)

      pub radical : Radical Alg p Lv J
      radical = radical_same K Alg p Lv (Lat SL.size SL.vec) J order_at.order (j_same rad S.ideal js jind pre)
          (SL.radical.0 (largest_of_rows r N C tab.shape c_assoc e1 c_law rad S))

      only : OnlyMaximalIdeal Alg p Lv J
      only = radical_is_the_only K Z p q U Alg n B0 strict nonzero ct v order_at nothing_grows n w radical

      pub ramified : (AreZero r C rad → ⊥) → IsRamified K Z p Alg n v w
      ramified some = record {
        order = order_at;
        independent = vectors.full_independent o L P Z tells A over assoc one is_one js jind;
        radical = radical;
        simple = only.maximal.simple;
        left_order = (nothing_grows n w only.maximal, λ a l x h. radical.ideal.left a x l h);
        not_multiple = λ h. some (small_to rad S.ideal js jind pre h);
      }

      pub own_dual : AreZero r C rad → IsUnit K Z (times K.monoid n K.one) → IsSelfDual K Z Alg n B0 Lv
      own_dual none unit = self_dual K Z p q U Alg n B0 v order_at
          (simple_same Alg Lv J (Multiple Alg p Lv) (small_from rad S.ideal js jind pre none, radical.over)
          only.maximal.simple) unit

      -- by lists
      pub list_dual : IsSelfDual K Z Alg n B0 Lv → IsTraceDualOfItself o A P rows
      list_dual = vectors.list_dual o L P Z tells A over assoc one is_one rows ind

      -- ---- and it is its own dual only there

      res-delta : (i j : ℕ) → D.res (delta K.ring i j) ≡ delta k.ring i j
      res-delta i j = go (eqb i j)
        where
          go : (c : Bool) → D.res (cond c K.one K.zero) ≡ cond c k.one k.zero
          go true = D.map-one
          go false = res-zero K Q p q k D

      b_in : (j : ℕ) → j < n → Lv (b.vec j)
      unfolding B
      b_in j l = lattice-member K Z (module_of Alg) n j v l

      red-basis : (j : ℕ) → j < n → red (b.vec j) ≡ t.vec j
      red-basis j l =
          let h = reduces o L P p q r N D A over assoc one is_one rows ind order cs tab in
          basis_ext (module_of RA) n t (red (b.vec j)) (t.vec j) (λ i i_in.
          ap (λ y. t.coord y i) (red_same (b.vec j) (b_in j l)) ∙ h.values (b.vec j) i i_in
          ∙ ap D.res (coord-vec (module_of Alg) n b j i l i_in) ∙ res-delta j i
          ∙ sym (coord-vec (module_of RA) n t j i l i_in))

      red_nilpotent : (x : V) → J x → IsNilpotent RA.ring (red x)
      red_nilpotent x s =
          let f = j_from rad S.ideal js jind pre x s in
          let nil = (largest_of_rows r N C tab.shape c_assoc e1 c_law rad S).nilpotent in
          let y = in_span o L P p q r N D A over assoc one is_one rows ind order cs tab rad S.ideal (red x) f.1 in
          record { exponent = nil.exponent; vanishes = powers nil.exponent ∙ nil.vanishes (λ _. red x) (λ _. y) }
        where
          powers : (e : ℕ) → power RA.ring (red x) e ≡ ideals.product RA.ring (λ _. red x) e
          powers zero = refl
          powers (suc e) = ap (RA.◌⊗◌ (red x)) (powers e)

      -- the trace of a member of J is a multiple of p
      res-trace : (x : V) → J x → D.res (trace Alg n B0 x) ≡ k.zero
      res-trace x s =
          let h = reduces o L P p q r N D A over assoc one is_one rows ind order cs tab in
          let hx = (j_from rad S.ideal js jind pre x s).0 in
          let f : ℕ → Elem o = λ j. b.coord (Alg.◌⊗◌ x (b.vec j)) j in
          let in_L : (j : ℕ) → j < n → Lv (Alg.◌⊗◌ x (b.vec j)) =
          λ j l. order_at.order.mul_in x (b.vec j) hx (b_in j l) in
          ap D.res (trace_basis K.cring Alg n n B0 b x)
          ∙ res-sum K Q p q k D n f (λ j l. coord_member K Q p q k D (module_of Alg) n b (Alg.◌⊗◌ x (b.vec j))
          (to_basis o L P p q r N D A over assoc one is_one rows ind (Alg.◌⊗◌ x (b.vec j))
          (from (Alg.◌⊗◌ x (b.vec j)) (in_L j l))) j l)
          ∙ sum_congr k.monoid n (λ j. D.res (f j)) (λ j. t.coord (RA.◌⊗◌ (red x) (t.vec j)) j) (λ j l.
          sym (h.values (Alg.◌⊗◌ x (b.vec j)) j l)
          ∙ ap (λ y. t.coord y j) (sym (red_same (Alg.◌⊗◌ x (b.vec j)) (in_L j l))
          ∙ rr.reduction.map-mul x (b.vec j) hx (b_in j l) ∙ ap (RA.◌⊗◌ (red x)) (red-basis j l)))
          ∙ trace-nilpotent k RA n t (red x) (red_nilpotent x s)

      pub only_unimodular : IsTraceDualOfItself o A P rows → AreZero r C rad
      only_unimodular h = small_to rad S.ideal js jind pre (λ x s.
          let y = Alg.◌•◌ q x in
          let bil = trace_form_bilinear K.cring Alg n B0 in
          let y_in = to y (h.into y.0 (IsTuple-of o L n y) (λ z hz.
          let w = as_tuple o L n z hz.0 in
          let u = Alg.◌⊗◌ w x in
          let u_in = radical.ideal.left w x (to w hz) s in
          let a = trace Alg n B0 u in
          let a_in = (tells a).0 (trace_integral K Z Alg n B0 v order_at u (radical.ideal.inside u u_in)) in
          let e : (trace_form Alg n B0 w y).0 ≡ trace_of_product o A w.0 y.0 =
          trace-is o L A over.of_elements assoc one is_one (Alg.◌⊗◌ w y) ∙ ap (list_trace o A) (is.product-is w y) in
          subst P e (subst (λ (c : Elem o). P c.0) (sym (bil.scale-right q w x))
          ((D.kernel a a_in).0 (res-trace u u_in))))) in
          (y, y_in, sym (p-q_scale K Q p q k D (module_of Alg) x)))
