-- When a list of proper ideals, of which each maximal ideal holds just one, is the list of the maximal ideals: where it
-- has as many items as there are maximal ideals, and where the traces of enough solutions of z^q = z in the centre are
-- scalars modulo its items.
use Rattle.std.specs.Prelude.{◌≡◌, ◌<◌, ◌≤◌, ◌^◌, ℕ, zero, suc, List, [], ◌∷◌, length}
use Rattle.std.proofs.Common.{refl, sym, ◌∙◌, ap, ap₂, subst, arith}
use Rattle.theory_rings.specs.Ring.{FieldOn}
use Rattle.theory_rings.specs.Ops.{Ops, FieldLaws}
use Rattle.theory_rings.specs.Elements.{Elem}
use Rattle.theory_rings.specs.Prime.{IsPrime}
use Rattle.theory_rings.specs.Power.{power, times}
use Rattle.theory_rings.specs.Enumerated.{Enumerated}
use Rattle.std.proofs.Math.Nat.{one-le-pow}
use Rattle.theory_rings.proofs.Numbers.Pigeonhole.{surjective_of_injective}
use Rattle.theory_rings.proofs.Rings.RingLaws.{add-neg, add-zero, mul-neg}
use Rattle.theory_rings.proofs.Rings.Solver.{◌⊞◌, minus, v0, v1, v2, v3, by_words}
use Rattle.theory_spaces.specs.Module.{ModuleOn, AlgebraOn}
use Rattle.theory_spaces.specs.Linear.{comb, InSpan, Basis, IsLinear}
use Rattle.theory_spaces.specs.Sets.{Whole, Same, ring_ops}
use Rattle.theory_spaces.specs.Tuples.{IsTuple, tuple_add, tuple_scale}
use Rattle.theory_spaces.proofs.Algebras.SetLemmas.{maximal_same}
use Rattle.theory_spaces.proofs.Linear.Families.{choose_each}
use Rattle.theory_spaces.proofs.Linear.Modules.{map-comb, scale-neg}
use Rattle.theory_tables.specs.Subspace as rows_of
use Rattle.theory_tables.specs.Subspace.{Rows, Combinations, IsReducedBasis, SameSpan}
use Rattle.theory_tables.specs.Structure.{Structure, tuple_ops}
use Rattle.theory_tables.specs.Algebras.{SpansIdeal}
use Rattle.theory_blocks.specs.Centre.{Centre}
use Rattle.theory_blocks.specs.FixedPoints.{IsFixed}
use Rattle.theory_blocks.specs.FieldFactors.{FieldFactors}
use Rattle.theory_blocks.specs.MaximalIdeals.{MaximalIdealsBySolutions, Annihilated}
use Rattle.spl_blocks.specs.Blocks.{IsUnital, HasNoNilpotentIdeal, SpansMaximalIdeal, AreMaximalIdeals, rows_at}
use Rattle.spl_blocks.specs.Splits.{SpanWithin, AreSplit, AreScalars, less_multiple, trace_in}
use Rattle.spl_blocks.proofs.Tables.{V, K, A, A_is, M, A_basis, tuple, of_tuple, On, maximal_up, maximal_down}
use Rattle.spl_blocks.proofs.Tables.{rows, rows_shape, from_family, family_same, family, to_rows, from_rows}
use Rattle.spl_blocks.proofs.Tables.{no_nilpotent, power-is}
use Rattle.spl_blocks.proofs.SimpleBlocks.{factors}
use Rattle.spl_blocks.proofs.Components.{Kills, some_kills, whole_kernel, scalar_on, trace, scalar_trace, one_unit}
use Rattle.spl_blocks.proofs.SplitLists.{S, ideal_of, not_one, less, less-is}

module _ {E : Type 0} (o : Ops E) (L : FieldLaws o) (T : Structure E) (u : IsUnital o T) (positive : 1 ≤ T.dim)
    (N : Enumerated (Elem o)) (p e : ℕ) (prime : IsPrime p)
    (char : times (K o L T u).monoid p (K o L T u).one ≡ (K o L T u).zero) (size : N.size ≡ p ^ e)
    (none : HasNoNilpotentIdeal o T) where
  abbrev m : ℕ
  m = T.dim

  abbrev F : FieldOn (Elem o)
  F = K o L T u

  abbrev X : Type 0
  X = V o L T u

  abbrev B : AlgebraOn F.ring X
  B = A o L T u

  abbrev Y : ModuleOn F.ring X
  Y = M o L T u

  abbrev basis : Basis Y m
  basis = A_basis o L T u

  abbrev pub blocks : MaximalIdealsBySolutions F N B
  blocks = factors o L T u positive N p e prime char size none

  abbrev pub D : FieldFactors F B (Centre B)
  D = let b = blocks in b.factors

  abbrev pub n : ℕ
  n = let d = D in d.count

  abbrev unit : ℕ → X
  unit = let d = D in d.idempotent

  -- ---- rows that span what a unit sends to 0

  module _ (i : ℕ) (l : i < n) where
    abbrev f : X → X
    f x = B.◌⊕◌ x (B.neg (B.◌⊗◌ (unit i) x))

    f_linear : IsLinear Y Y f
    f_linear = record {
      map-add = λ x y. ap (λ z. B.◌⊕◌ (B.◌⊕◌ x y) (B.neg z)) (B.mul-add (unit i) x y)
          ∙ spread x y (B.◌⊗◌ (unit i) x) (B.◌⊗◌ (unit i) y);
      map-scale = λ a x. ap (λ z. B.◌⊕◌ (B.◌•◌ a x) (B.neg z)) (B.scale-right a (unit i) x)
          ∙ ap (B.◌⊕◌ (B.◌•◌ a x)) (sym (scale-neg Y a (B.◌⊗◌ (unit i) x)))
          ∙ sym (B.scale-add a x (B.neg (B.◌⊗◌ (unit i) x)));
    }
      where
        spread : (x y z w : X)
            → B.◌⊕◌ (B.◌⊕◌ x y) (B.neg (B.◌⊕◌ z w)) ≡ B.◌⊕◌ (B.◌⊕◌ x (B.neg z)) (B.◌⊕◌ y (B.neg w))
        spread x y z w = by_words B.ring (x ∷ y ∷ z ∷ w ∷ []) ((v0 ⊞ v1) ⊞ minus (v2 ⊞ v3))
            ((v0 ⊞ minus v2) ⊞ (v1 ⊞ minus v3)) refl

    f_killed : (x : X) → Annihilated B (unit i) (f x)
    f_killed x =
        let d = D in
        let y = B.◌⊗◌ (unit i) x in
        B.mul-add (unit i) x (B.neg y)
        ∙ ap (B.◌⊕◌ y) (mul-neg B.ring (unit i) y
        ∙ ap B.neg (sym (B.mul_assoc (unit i) (unit i) x) ∙ ap (λ z. B.◌⊗◌ z x) (d.idempotents i l)))
        ∙ add-neg B.additive y

    abbrev g : ℕ → X
    g j = f (basis.vec j)

    killed_spanned : (x : X) → Annihilated B (unit i) x → InSpan Y m g x
    killed_spanned x h = record {
      weights = basis.coord x;
      combines = sym (add-zero B.monoid x)
          ∙ ap (B.◌⊕◌ x) (sym (B.neg-add B.zero) ∙ add-zero B.monoid (B.neg B.zero) ∙ ap B.neg (sym h))
          ∙ ap f (basis.expand x) ∙ map-comb Y Y f f_linear m (basis.coord x) basis.vec;
    }

    spanned_killed : (x : X) → InSpan Y m g x → Annihilated B (unit i) x
    spanned_killed x s = subst (Annihilated B (unit i))
        (sym (s.combines ∙ sym (map-comb Y Y f f_linear m s.weights basis.vec)))
        (f_killed (comb Y m s.weights basis.vec))

    abbrev pub unit_list : List (List E)
    unit_list = rows o L T u m g

    -- they are a maximal ideal
    pub unit_maximal : SpansMaximalIdeal o T unit_list
    unit_maximal = record {
      shape = rows_shape o L T u m g;
      maximal =
          let b = blocks in
          let fs = family_same o L T u m g in
          let same : Same (On o L T u (Annihilated B (unit i))) (Combinations o m unit_list) = (
            λ a q. fs.0 a (q.0, killed_spanned (tuple o L T u a q.0) q.1),
            λ a c. (c.0, spanned_killed (tuple o L T u a c.0) (fs.1 a c).1),
          ) in
          maximal_same (tuple_ops o T) (IsTuple o m) (On o L T u (Annihilated B (unit i))) (Combinations o m unit_list)
          same (maximal_up o L T u (Annihilated B (unit i)) (let c = b.ideals in c.maximal i l));
    }

    -- an ideal that the unit sends to 0 lies in it
    pub killed_within : (list : List (List E)) → ((x : X) → rows_of.InSpan o m list x.0 → Annihilated B (unit i) x)
        → SpanWithin o T list unit_list
    killed_within list k v tv h =
        let x = tuple o L T u v tv in
        from_family o L T u m g x (killed_spanned x (k x h))

  -- ---- the list

  module _ (items : List (Rows E)) (split : AreSplit o T items) where
    spans : (j : ℕ) → j < length items → SpansIdeal o T (rows_at o T items j)
    spans j l = let c = split.each j l in c.ideal

    -- unit i sends item j to 0
    abbrev pub KilledAt : ℕ → ℕ → Type 0
    KilledAt i j = (x : X) → rows_of.InSpan o m (rows_at o T items j) x.0 → Annihilated B (unit i) x

    some_unit : (j : ℕ) → j < length items → (i : ℕ) × (i < n) × KilledAt i j
    some_unit j l =
        let r = rows_at o T items j in
        let s = spans j l in
        let c = split.each j l in
        let k = some_kills F B m basis (no_nilpotent o L T u none) D (length r) (family o L T u r s.shape)
        (ideal_of o L T u r s)
        (not_one o L T u r s c.proper) in
        (k.0, k.1, λ x h. k.2 x (to_rows o L T u r s.shape x h))

    -- a unit sends just one item to 0
    one_item : (i : ℕ) → i < n → (j k : ℕ) → j < length items → k < length items → KilledAt i j
        → KilledAt i k → j ≡ k
    one_item i l j k lj lk hj hk = split.unique (unit_list i l) (unit_maximal i l) j k lj lk
        (killed_within i l (rows_at o T items j) hj) (killed_within i l (rows_at o T items k) hk)

    module _ (only : (j : ℕ) → j < length items → (i k : ℕ) → i < n → k < n → KilledAt i j → KilledAt k j → i ≡ k) where
      -- the item is what one unit sends to 0
      kernel : (j : ℕ) (l : j < length items) → (x : X) → Annihilated B (unit (some_unit j l).0) x
          → rows_of.InSpan o m (rows_at o T items j) x.0
      kernel j l x a =
          let r = rows_at o T items j in
          let s = spans j l in
          let k = some_unit j l in
          from_rows o L T u r s.shape x
          (whole_kernel F B m basis (no_nilpotent o L T u none) D (length r) (family o L T u r s.shape)
          (ideal_of o L T u r s) k.0 k.1 (λ y h. k.2 y (from_rows o L T u r s.shape y h))
          (λ i li h. only j l i k.0 li k.1 (λ y q. h y (to_rows o L T u r s.shape y q)) k.2) x a)

      item_maximal : (j : ℕ) → j < length items → SpansMaximalIdeal o T (rows_at o T items j)
      item_maximal j l =
          let b = blocks in
          let r = rows_at o T items j in
          let s = spans j l in
          let k = some_unit j l in
          let same : Same (On o L T u (Annihilated B (unit k.0))) (Combinations o m r) = (
            λ a q. (q.0, kernel j l (tuple o L T u a q.0) q.1),
            λ a c. (c.0, k.2 (tuple o L T u a c.0) c.1),
          ) in
          record {
            shape = s.shape;
            maximal = maximal_same (tuple_ops o T) (IsTuple o m) (On o L T u (Annihilated B (unit k.0)))
                (Combinations o m r)
                same (maximal_up o L T u (Annihilated B (unit k.0)) (let c = b.ideals in c.maximal k.0 k.1));
          }

      pub are_maximal : AreMaximalIdeals o T items
      are_maximal = record {
        subspaces = λ j l. let c = split.each j l in c.basis;
        widths = λ j l. let c = split.each j l in c.width;
        maximal = item_maximal;
        complete = λ list x. let c = split.cover list x in (c.0, c.1, same_span list x c.0 c.1 c.2);
        distinct = λ i j li lj h. split.unique (rows_at o T items i) (item_maximal i li) i j li lj (λ v tv s. s)
            (λ v tv s. (h v tv).1 s);
      }
        where
          same_span : (list : List (List E)) (x : SpansMaximalIdeal o T list) (j : ℕ) (l : j < length items)
              → SpanWithin o T (rows_at o T items j) list → SameSpan o m list (rows_at o T items j)
          same_span list x j l w v tv =
              let b = blocks in
              let c = b.ideals in
              let k = some_unit j l in
              let I : SpansIdeal o T list = record { shape = x.shape; ideal = let h = x.maximal in h.ideal } in
              let q = c.complete (length list) (family o L T u list x.shape) (ideal_of o L T u list I)
              (maximal_same (ring_ops B.ring) Whole (λ y. Combinations o m list y.0) (S o L T u list x.shape) (
                (λ y d. to_rows o L T u list x.shape y d.1),
                (λ y d. (of_tuple o L T u y, from_rows o L T u list x.shape y d)),
              )
              (maximal_down o L T u (Combinations o m list) x.maximal)) in
              let e : k.0 ≡ q.0 = c.distinct k.0 q.0 k.1 q.1
              (λ y h. (q.2 y).0 (to_rows o L T u list x.shape y (w y.0 (of_tuple o L T u y) (kernel j l y h)))) in
              let y = tuple o L T u v tv in (
                λ h. kernel j l y (subst (λ i. Annihilated B (unit i) y) (sym e)
                    ((q.2 y).0 (to_rows o L T u list x.shape y h))),
                w v tv,
              )

    -- with as many items as units, just one unit sends each item to 0
    pub only_of_count : n ≤ length items → (j : ℕ) → j < length items → (i k : ℕ) → i < n → k < n → KilledAt i j
        → KilledAt k j → i ≡ k
    only_of_count most j l i k li lk hi hk =
        let c = choose_each (length items) (λ j i. (i < n) × KilledAt i j) 0
        (λ a la. let r = some_unit a la in (r.0, (r.1, r.2))) in
        let within : (a : ℕ) → a < n → a < length items = λ a la. omega (arith, la, most) in
        let onto = surjective_of_injective n c.0 (λ a la. (c.1 a (within a la)).0) (λ a b la lb h.
        one_item (c.0 a) (c.1 a (within a la)).0 a b (within a la) (within b lb) (c.1 a (within a la)).1
        (subst (λ t. KilledAt t b) (sym h) (c.1 b (within b lb)).1)) in
        let p = onto i li in
        let r = onto k lk in
        let pj : p.0 ≡ j = one_item i li p.0 j (within p.0 p.1) l
        (subst (λ t. KilledAt t p.0) p.2 (c.1 p.0 (within p.0 p.1)).1) hi in
        let rj : r.0 ≡ j = one_item k lk r.0 j (within r.0 r.1) l
        (subst (λ t. KilledAt t r.0) r.2 (c.1 r.0 (within r.0 r.1)).1) hk in
        sym p.2 ∙ ap c.0 (pj ∙ sym rj) ∙ r.2

    -- where the traces of the multiples of solutions that span all are scalars modulo the items
    module _ (one : List E) (one_is : (let b = B.one in b.0) ≡ one) (q d s : ℕ) (qpos : 1 ≤ q) (z : ℕ → X)
        (w : ℕ → Elem o)
        (central : (t : ℕ) → t < s → Centre B (z t)) (fixed : (t : ℕ) → t < s → IsFixed B.ring N.size (z t))
        (all : (x : X) → Centre B x → IsFixed B.ring N.size x → InSpan Y s z x)
        (additive : (a b : Elem o) → scalar_trace F B m basis (no_nilpotent o L T u none) D q d (F.◌⊕◌ a b)
        ≡ F.◌⊕◌ (scalar_trace F B m basis (no_nilpotent o L T u none) D q d a)
        (scalar_trace F B m basis (no_nilpotent o L T u none) D q d b))
        (faithful : (b : Elem o)
        → ((i : ℕ) → i < d → scalar_trace F B m basis (no_nilpotent o L T u none) D q d (F.◌⊗◌ (w i) b) ≡ F.zero)
        → b ≡ F.zero)
        (scalars : (t i : ℕ) → t < s → i < d
        → AreScalars o T one (trace_in o T q d (tuple_scale o m (w i).0 (z t).0)) items) where
      abbrev tr : X → X
      tr = trace F B m basis (no_nilpotent o L T u none) D q d

      pub only_of_scalars : (j : ℕ) → j < length items → (i k : ℕ) → i < n → k < n → KilledAt i j → KilledAt k j
          → i ≡ k
      only_of_scalars j l i k li lk hi hk =
          let b = blocks in
          let r = rows_at o T items j in
          let sh = spans j l in
          let g = family o L T u r sh.shape in
          let kills_i : Kills F B m basis (no_nilpotent o L T u none) D i (length r) g = λ x h.
          hi x (from_rows o L T u r sh.shape x h) in
          let kills_k : Kills F B m basis (no_nilpotent o L T u none) D k (length r) g = λ x h.
          hk x (from_rows o L T u r sh.shape x h) in
          one_unit F B m basis (no_nilpotent o L T u none) D N b.solutions q d s z w central fixed all additive faithful
          i k li lk (λ t a lt la.
          let c = scalars t a lt la j l in
          let c' : Elem o = (c.0, c.1) in
          let y = B.◌•◌ (w a) (z t) in
          let x = tr y in
          let h = A_is o L T u in
          let is : (less o L T u x c').0 ≡ less_multiple o T one
          (trace_in o T q d (tuple_scale o m (w a).0 (z t).0)) c.0 =
          less-is o L T u one one_is x c'
          ∙ ap (λ v. less_multiple o T one v c.0) (trace-is y d ∙ ap (trace_in o T q d) (h.scale-is (w a) (z t))) in
          let inside = to_rows o L T u r sh.shape (less o L T u x c')
          (subst (rows_of.InSpan o m r) (sym is) c.2) in (
            c',
            scalar_on F B m basis (no_nilpotent o L T u none) D i (length r) g kills_i x c' inside,
            scalar_on F B m basis (no_nilpotent o L T u none) D k (length r) g kills_k x c' inside,
          ))
        where
          trace-is : (y : X) (k : ℕ)
              → (trace F B m basis (no_nilpotent o L T u none) D q k y).0 ≡ trace_in o T q k y.0
          trace-is y zero = let h = A_is o L T u in h.zero-is
          trace-is y (suc k) =
              let h = A_is o L T u in
              h.add-is (trace F B m basis (no_nilpotent o L T u none) D q k y) (power B.ring y (q ^ k))
              ∙ ap₂ (tuple_add o m) (trace-is y k) (power-is o L T u y (q ^ k) (one-le-pow k q qpos))
