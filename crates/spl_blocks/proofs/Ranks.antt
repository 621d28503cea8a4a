-- The two-sided rank of a table is that of the algebra on its tuples, so simple algebras are told by it.
use Rattle.std.specs.Prelude.{◌≡◌, ◌*◌, ◌/◌, ◌%◌, ◌<◌, ◌≤◌, ℕ, List, [], length}
use Rattle.std.proofs.Common.{sym, ◌∙◌, ap, ap₂, subst, ⊎_elim}
use Rattle.std.proofs.Math.Path.{fun_ext}
use Rattle.std.proofs.lemmas.Bool.{cases_lt}
use Rattle.theory_rings.specs.Ring.{FieldOn}
use Rattle.theory_rings.specs.Ops.{Ops, FieldLaws}
use Rattle.theory_rings.specs.Elements.{Elem, Elem-path, elements}
use Rattle.theory_rings.specs.Sum.{at}
use Rattle.theory_rings.proofs.Rings.RingLaws.{mul-zero}
use Rattle.theory_rings.proofs.Rings.Elements.{at-elem}
use Rattle.theory_rings.proofs.Sums.Lists.{length-table, get_or-table, All-table}
use Rattle.theory_spaces.specs.Module.{ModuleOn, AlgebraOn, module_of}
use Rattle.theory_spaces.specs.Linear.{InSpan, Basis, BasisOf, IsLinear}
use Rattle.theory_spaces.specs.Functions.{functions}
use Rattle.theory_spaces.specs.Space.{SpaceOn}
use Rattle.theory_spaces.specs.Tuples.{IsTuple, Tuple, basis, product}
use Rattle.theory_spaces.proofs.Linear.Families.{push, push-below, push-above}
use Rattle.theory_spaces.proofs.Linear.Modules.{comb_congr_right, InSpan-member}
use Rattle.theory_spaces.proofs.Tuples.Tuples.{IsTuple-table, tuples, tuple_space}
use Rattle.theory_spaces.proofs.Tuples.TupleProducts.{IsTuple-product, IsTuple-basis, tuple_algebra}
use Rattle.theory_spaces.proofs.Matrices.PairIndex.{column-lt}
use Rattle.theory_tables.specs.Matrix.{entry, IsMatrix}
use Rattle.theory_tables.specs.Subspace as rows_of
use Rattle.theory_tables.specs.Subspace.{IsReducedBasis}
use Rattle.theory_tables.specs.Structure.{Structure}
use Rattle.theory_tables.proofs.Algebras.Bridge.{row, row-at, to_span, from_span, to_independent}
use Rattle.theory_tables.proofs.Algebras.Bridge.{IsTuple-of, as_tuple, vec-is, coord-is}
use Rattle.theory_blocks.specs.Centre.{Centre, CentreIsField}
use Rattle.theory_blocks.specs.TwoSidedRank.{two_sided, TwoSidedRank, map_row}
use Rattle.theory_blocks.proofs.Ideals.Centres.{centre_field}
use Rattle.theory_blocks.proofs.TwoSided.TwoSidedRank.{simple_by_rank}
use Rattle.theory_blocks.proofs.TwoSided.TwoSidedRows.{rank_by_rows, image_basis}
use Rattle.spl_matrix.proofs.ReducedBases.{reduced_basis_is_independent}
use Rattle.spl_algebra.specs.Subspaces.{SpansCentre}
use Rattle.spl_algebra.specs.TwoSided.{map_coordinate, map_coordinates, two_sided_maps, IsTwoSidedRank}
use Rattle.spl_blocks.specs.Blocks.{IsUnital, IsSimple}
use Rattle.spl_blocks.specs.Ranks.{HasFieldCentre, SimpleByTwoSidedRank}
use Rattle.spl_blocks.proofs.Tables.{A, A_basis, A_is, V-path, one_of, simple_up, simple_down, to_centre}
use Rattle.spl_blocks.proofs.Tables.{from_centre, from_is_central, central_of}
use Rattle.spl_blocks.proofs.SimpleBlocks.{one-ne-zero}

push_congr : {X : Type 0} (n : ℕ) (x : X) (v w : ℕ → X) → ((i : ℕ) → i < n → v i ≡ w i) → push n x v ≡ push n x w
push_congr n x v w h = fun_ext (λ i. ⊎_elim
    (λ (l : i < n). push-below n x v i l ∙ h i l ∙ sym (push-below n x w i l))
    (λ (l : n ≤ i). push-above n x v i l ∙ sym (push-above n x w i l))
    (cases_lt i n))

module _ {E : Type 0} (o : Ops E) (L : FieldLaws o) (T : Structure E) (u : IsUnital o T) where
  abbrev m : ℕ
  m = T.dim

  abbrev w : ℕ
  w = m * m

  abbrev cs : List E
  cs = T.constants

  abbrev K : FieldOn (Elem o)
  K = elements o L

  abbrev V : Type 0
  V = Tuple o m

  abbrev B : AlgebraOn K.ring V
  B = A o L T u

  abbrev base : Basis (module_of B) m
  base = A_basis o L T u

  abbrev maps : List (List E)
  maps = two_sided_maps o m cs

  abbrev e : ℕ → List E
  e = basis o m

  e-tuple : (i : ℕ) → IsTuple o m (e i)
  e-tuple i = IsTuple-basis o L m cs u.over.of_elements i

  mul-tuple : (a b : List E) → IsTuple o m a → IsTuple o m b → IsTuple o m (product o m cs a b)
  mul-tuple = IsTuple-product o L m cs u.over.of_elements

  maps-shape : IsMatrix o w maps
  maps-shape = All-table (IsTuple o w) w (λ t. map_coordinates o m cs (t / m) (t % m)) (λ t _.
      IsTuple-table o w (map_coordinate o m cs (t / m) (t % m)) (λ s _.
      let x = product o m cs (e (t / m)) (e (s / m)) in
      let p = mul-tuple x (e (t % m)) (mul-tuple (e (t / m)) (e (s / m)) (e-tuple (t / m)) (e-tuple (s / m)))
      (e-tuple (t % m)) in
      at-elem o L (product o m cs x (e (t % m))) p.of_elements (s % m)))

  maps-long : length maps ≡ w
  maps-long = length-table w (λ t. map_coordinates o m cs (t / m) (t % m))

  maps-entry : (t s : ℕ) → t < w → s < w → entry o maps t s ≡ map_coordinate o m cs (t / m) (t % m) s
  maps-entry t s lt ls =
      ap (λ r. at o r s) (get_or-table w (λ t. map_coordinates o m cs (t / m) (t % m)) t [] lt)
      ∙ get_or-table w (map_coordinate o m cs (t / m) (t % m)) s o.zero ls

  -- ---- tuples of m² items as functions that are 0 from there on

  abbrev W : ModuleOn K.ring (Tuple o w)
  W = tuples o L w

  abbrev S : SpaceOn W w
  S = tuple_space o L w

  abbrev N : ModuleOn K.ring (ℕ → Elem o)
  N = functions K.ring

  abbrev spread : Tuple o w → ℕ → Elem o
  spread x = push w K.zero (S.coord x)

  spread_linear : IsLinear W N spread
  spread_linear = record {
    map-add = λ x y. fun_ext (λ i. ⊎_elim
        (λ (l : i < w).
        push-below w K.zero (S.coord (W.◌⊕◌ x y)) i l ∙ S.coord-add x y i l
        ∙ ap₂ K.◌⊕◌ (sym (push-below w K.zero (S.coord x) i l)) (sym (push-below w K.zero (S.coord y) i l)))
        (λ (l : w ≤ i).
        push-above w K.zero (S.coord (W.◌⊕◌ x y)) i l ∙ sym (K.zero-add K.zero)
        ∙ ap₂ K.◌⊕◌ (sym (push-above w K.zero (S.coord x) i l)) (sym (push-above w K.zero (S.coord y) i l)))
        (cases_lt i w));
    map-scale = λ a x. fun_ext (λ i. ⊎_elim
        (λ (l : i < w).
        push-below w K.zero (S.coord (W.◌•◌ a x)) i l ∙ S.coord-scale a x i l
        ∙ ap (K.◌⊗◌ a) (sym (push-below w K.zero (S.coord x) i l)))
        (λ (l : w ≤ i).
        push-above w K.zero (S.coord (W.◌•◌ a x)) i l ∙ sym (mul-zero K.ring a)
        ∙ ap (K.◌⊗◌ a) (sym (push-above w K.zero (S.coord x) i l)))
        (cases_lt i w));
  }

  spread_faithful : (x : Tuple o w) → spread x ≡ N.zero → x ≡ W.zero
  spread_faithful x h = S.ext x W.zero (λ i l.
      sym (push-below w K.zero (S.coord x) i l) ∙ ap (λ (f : ℕ → Elem o). f i) h ∙ sym (S.coord-zero i l))

  -- the row of a map is that of its coordinates
  abbrev both : ℕ → V → V
  both = two_sided K B m base

  abbrev map_rows : ℕ → ℕ → Elem o
  map_rows t = map_row K B m base (both t)

  abbrev R : ℕ → Tuple o w
  R = row o L w maps maps-shape

  both-is : (t k : ℕ) → (both t (base.vec k)).0 ≡ product o m cs (product o m cs (e (t / m)) (e k)) (e (t % m))
  both-is t k =
      let is = A_is o L T u in
      let x = base.vec (t / m) in
      let y = base.vec (t % m) in
      let v = base.vec k in
      let vec = vec-is o L T u.over.of_elements u.associative u.identity.one u.identity.is_one in
      is.product-is (B.◌⊗◌ x v) y
      ∙ ap₂ (product o m cs) (is.product-is x v ∙ ap₂ (product o m cs) (vec (t / m)) (vec k)) (vec (t % m))

  rows-are : (t : ℕ) → t < w → spread (R t) ≡ map_rows t
  unfolding tuple_space
  rows-are t lt = push_congr w K.zero (S.coord (R t)) (λ s. base.coord (both t (base.vec (s / m))) (s % m)) (λ s ls.
      let y = both t (base.vec (s / m)) in
      Elem-path o (S.coord (R t) s) (base.coord y (s % m))
      (row-at o L w maps maps-shape t s ls ∙ maps-entry t s lt ls
      ∙ ap (λ a. at o a (s % m)) (sym (both-is t (s / m)))
      ∙ sym (coord-is o L T u.over.of_elements u.associative u.identity.one u.identity.is_one y (s % m)
      (column-lt m m s ls))))

  -- ---- the rank

  module _ (r : ℕ) (h : IsTwoSidedRank o T r) where
    abbrev Q : ℕ → Tuple o w
    Q = row o L w h.rows h.shape

    list_basis : BasisOf W r (InSpan W w R)
    list_basis =
        let inside : (x : Tuple o w) → rows_of.InSpan o w maps x.0 → InSpan W w R x = λ x s.
        subst (λ n. InSpan W n R x) maps-long (to_span o L w maps maps-shape x s) in
        subst (λ n. BasisOf W n (InSpan W w R)) h.count record {
          vec = Q;
          independent = to_independent o L w h.rows h.shape h.independent;
          inside = λ j l. inside (Q j) ((h.spans (Q j).0 (IsTuple-of o L w (Q j))).0
              (from_span o L w h.rows h.shape (Q j) (member j l)));
          spans = λ x s. to_span o L w h.rows h.shape x ((h.spans x.0 (IsTuple-of o L w x)).1
              (from_span o L w maps maps-shape x (subst (λ n. InSpan W n R x) (sym maps-long) s)));
        }
      where
        member : (j : ℕ) → j < length h.rows → InSpan W (length h.rows) Q (Q j)
        member j l = InSpan-member W (length h.rows) j Q l

    function_basis : BasisOf N r (InSpan N w map_rows)
    function_basis =
        let b : BasisOf N r (InSpan N w (λ t. spread (R t))) =
        image_basis W N spread spread_linear w R (λ x _ z. spread_faithful x z) r list_basis in
        record {
          vec = b.vec;
          independent = b.independent;
          inside = λ j l. let s = b.inside j l in record {
            weights = s.weights;
            combines = s.combines ∙ comb_congr_right N w s.weights (λ t. spread (R t)) map_rows rows-are;
          };
          spans = λ x s. b.spans x (record {
            weights = s.weights;
            combines = s.combines
                ∙ sym (comb_congr_right N w s.weights (λ t. spread (R t)) map_rows rows-are);
          });
        }

    pub two_sided_rank : TwoSidedRank K B m base r
    two_sided_rank =
        let p = rank_by_rows K B m base in
        subst (TwoSidedRank K B m base) (sym (p.unique_rows r function_basis)) p.is_rank

  -- ---- the centre

  module _ (centre : List (List E)) (c : IsReducedBasis o m centre) (members : SpansCentre o T centre) where
    abbrev Z : ℕ → V
    Z = row o L m centre c.shape

    centre_basis : BasisOf (module_of B) (length centre) (Centre B)
    unfolding tuple_algebra
    centre_basis = record {
      vec = Z;
      independent = to_independent o L m centre c.shape (reduced_basis_is_independent o L m centre c);
      inside = λ j l. to_centre o L T u centre members (Z j) (from_span o L m centre c.shape (Z j)
          (InSpan-member (tuples o L m) (length centre) j Z l));
      spans = λ x z. to_span o L m centre c.shape x (from_centre o L T u centre members x z);
    }

  pub field_up : CentreIsField B → HasFieldCentre o T
  field_up f one i a ca n =
      let is = A_is o L T u in
      let x : V = as_tuple o L m a ca.tuple in
      let q = f x (from_is_central o L T u x ca) (λ z. n (ap (λ (v : V). v.0) z ∙ is.zero-is)) in (
        q.0.0,
        central_of o L T u q.0 q.1,
        sym (is.product-is x q.0) ∙ ap (λ (v : V). v.0) q.2 ∙ one_of o L T u one i,
      )

  pub field_down : HasFieldCentre o T → CentreIsField B
  field_down f x z n =
      let is = A_is o L T u in
      let q = f u.identity.one u.identity.is_one x.0 (central_of o L T u x z)
      (λ h. n (V-path o L T u x B.zero (h ∙ sym is.zero-is))) in
      let y : V = as_tuple o L m q.0 q.1.tuple in (
        y,
        from_is_central o L T u y q.1,
        V-path o L T u (B.◌⊗◌ x y) B.one
            (is.product-is x y ∙ q.2 ∙ sym (one_of o L T u u.identity.one u.identity.is_one)),
      )

-- the centre of a simple algebra is a field
pub simple_has_field_centre : {E : Type 0} (o : Ops E) (L : FieldLaws o) (T : Structure E) → IsUnital o T → IsSimple o T
    → HasFieldCentre o T
simple_has_field_centre o L T u i =
    field_up o L T u (centre_field (A o L T u) T.dim (A_basis o L T u) (simple_down o L T u i))

pub simple_by_two_sided_rank : {E : Type 0} (o : Ops E) (L : FieldLaws o) → SimpleByTwoSidedRank o
simple_by_two_sided_rank o L T u positive centre c members r h =
    let s = simple_by_rank (elements o L) (A o L T u) T.dim (A_basis o L T u) (length centre)
    (centre_basis o L T u centre c members) (one-ne-zero o L T u positive) in
    let t = two_sided_rank o L T u r h in (
      λ i. (
        field_up o L T u (s.to_field (simple_down o L T u i)),
        s.to_rank (simple_down o L T u i) r t,
      ),
      λ i. simple_up o L T u (s.of_rank (field_down o L T u i.0) r t i.1),
    )
