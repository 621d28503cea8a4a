-- The weights that solve the equations of z^q = z for a basis of the centre, over a field of q elements, are as many as
-- the solutions of z^q = z in the centre have dimensions. The weights that solve those of z^q = 0.
use Rattle.std.specs.Prelude.{◌≡◌, ◌↔◌, ◌<◌, ◌^◌, ℕ, List, [], length, get_or}
use Rattle.std.proofs.Common.{refl, sym, ◌∙◌, ap, ap₂, subst, arith}
use Rattle.theory_rings.specs.Ring.{FieldOn}
use Rattle.theory_rings.specs.Ops.{Ops, IsElem, FieldLaws}
use Rattle.theory_rings.specs.Elements.{Elem}
use Rattle.theory_rings.specs.Sum.{table, sum_of, at}
use Rattle.theory_rings.specs.Prime.{IsPrime}
use Rattle.theory_rings.specs.Power.{power, times}
use Rattle.theory_rings.specs.Enumerated.{Enumerated}
use Rattle.theory_rings.proofs.Rings.Elements.{at-elem, sum_of_congr}
use Rattle.theory_spaces.specs.Module.{ModuleOn, AlgebraOn}
use Rattle.theory_spaces.specs.Space.{SpaceOn}
use Rattle.theory_spaces.specs.Linear.{comb, InSpan, Independent, BasisOf, IsLinear}
use Rattle.theory_spaces.specs.Tuples.{Tuple, tuple_add}
use Rattle.theory_spaces.proofs.Linear.Modules.{comb_congr, comb-add, comb-scale, comb_in, map-comb, InSpan-member}
use Rattle.theory_spaces.proofs.Linear.Spaces.{BasisOf-size}
use Rattle.theory_spaces.proofs.Tuples.TupleProducts.{tuple_algebra}
use Rattle.theory_spaces.proofs.Tuples.Tuples.{IsTuple-ext, IsTuple-table, at-table, tuples, tuple_space}
use Rattle.theory_tables.specs.Matrix.{entry, IsMatrix}
use Rattle.theory_tables.specs.Subspace.{IsReducedBasis, IsKilled, SpansKernel}
use Rattle.theory_tables.specs.Structure.{Structure}
use Rattle.theory_tables.proofs.Rows.Sums.{entry_table}
use Rattle.theory_tables.proofs.Algebras.Bridge.{comb-at, zero-at, IsTuple-of, row, row-is, to_span, from_span}
use Rattle.theory_tables.proofs.Algebras.Bridge.{to_independent}
use Rattle.spl_matrix.proofs.ReducedBases.{reduced_basis_is_independent}
use Rattle.theory_blocks.specs.FixedPoints.{IsFixed}
use Rattle.theory_blocks.specs.Centre.{Centre}
use Rattle.theory_blocks.proofs.Commutative.FixedPoints.{size_pos}
use Rattle.theory_blocks.proofs.Ideals.Centres.{centre_submodule}
use Rattle.spl_algebra.specs.Subspaces.{SpansCentre}
use Rattle.spl_blocks.specs.Blocks.{IsUnital}
use Rattle.spl_blocks.specs.Fixed.{power_in, less_self, coordinate_equations, power_equations, nilpotent_equations}
use Rattle.spl_blocks.specs.Splits.{combination_of}
use Rattle.spl_blocks.proofs.Tables.{V, K, A, A_is, M, A_basis, V-path, power-is, family, family-is, to_rows, from_rows}
use Rattle.spl_blocks.proofs.Tables.{rows_independent, to_centre, from_centre}
use Rattle.spl_blocks.proofs.FixedSpace.{less, power-comb, fixed_iff}

module _ {E : Type 0} (o : Ops E) (L : FieldLaws o) (T : Structure E) (u : IsUnital o T) (N : Enumerated (Elem o))
    (p e : ℕ) (prime : IsPrime p) (char : times (K o L T u).monoid p (K o L T u).one ≡ (K o L T u).zero)
    (size : N.size ≡ p ^ e) where
  abbrev F : FieldOn (Elem o)
  F = K o L T u

  abbrev m : ℕ
  m = T.dim

  abbrev q : ℕ
  q = N.size

  abbrev B : AlgebraOn F.ring (V o L T u)
  B = A o L T u

  abbrev X : ModuleOn F.ring (V o L T u)
  X = M o L T u

  module _ (centre : List (List E)) (shape : IsMatrix o m centre) (members : SpansCentre o T centre) where
    abbrev r : ℕ
    r = length centre

    abbrev pub z : ℕ → V o L T u
    z = family o L T u centre shape

    central : (i : ℕ) → i < r → Centre B (z i)
    central i l = to_centre o L T u centre members (z i)
        (from_rows o L T u centre shape (z i) (InSpan-member X r i z l))

    abbrev y : ℕ → V o L T u
    y = less F N B m (A_basis o L T u) p e prime char size z r central

    y-is : (i : ℕ) → i < r → (y i).0 ≡ less_self o T q (get_or centre i [])
    y-is i l =
        let t = A_is o L T u in
        t.add-is (power B.ring (z i) q) (B.neg (z i))
        ∙ ap₂ (tuple_add o m) (power-is o L T u (z i) q (size_pos F N B)) (t.neg-is (z i))
        ∙ ap (less_self o T q) (family-is o L T u centre shape i l)

    abbrev eqs : List (List E)
    eqs = power_equations o T q centre

    abbrev pub Y : ModuleOn F.ring (Tuple o r)
    Y = tuples o L r

    abbrev pub S : SpaceOn Y r
    S = tuple_space o L r

    coord-is : (w : Tuple o r) (i : ℕ) → (S.coord w i).0 ≡ at o w.0 i
    unfolding tuple_space
    coord-is w i = refl

    -- the combination with these weights
    abbrev pub G : Tuple o r → V o L T u
    G w = comb X r (S.coord w) z

    zero_at : (j : ℕ) → j < m → at o B.zero.0 j ≡ o.zero
    unfolding tuple_algebra
    zero_at j l = zero-at o L m j l

    -- the equations of the vectors y by their coordinates
    module _ (g : ℕ → List E) (y : ℕ → V o L T u) (y-is : (i : ℕ) → i < r → (y i).0 ≡ g i) where
      equation-is : (w : Tuple o r) (j : ℕ) → j < m
          → sum_of o r (λ i. o.mul (entry o (coordinate_equations o T r g) j i) (at o w.0 i))
          ≡ at o (comb X r (S.coord w) y).0 j
      unfolding tuple_algebra
      equation-is w j l =
          sum_of_congr o r (λ i. o.mul (entry o (coordinate_equations o T r g) j i) (at o w.0 i))
          (λ i. o.mul (S.coord w i).0 (at o (y i).0 j))
          (λ i h.
          let a = at o (y i).0 j in
          let is : entry o (coordinate_equations o T r g) j i ≡ a = entry_table o L m r (λ j i. at o (g i) j) j i l h
          ∙ ap (λ xs. at o xs j) (sym (y-is i h)) in
          ap₂ o.mul is (sym (coord-is w i))
          ∙ L.mul_comm a (S.coord w i).0 (at-elem o L (y i).0 (let h = IsTuple-of o L m (y i) in h.of_elements) j)
          (S.coord w i).1)
          ∙ sym (comb-at o L m r (S.coord w) y j l)

      solved_iff : (w : Tuple o r) → IsKilled o m r (coordinate_equations o T r g) w.0
          ↔ (comb X r (S.coord w) y ≡ B.zero)
      solved_iff w = let x = comb X r (S.coord w) y in (
        λ k. V-path o L T u x B.zero (IsTuple-ext o m x.0 B.zero.0 (IsTuple-of o L m x) (IsTuple-of o L m B.zero)
            (λ j l. sym (equation-is w j l) ∙ k j l ∙ sym (zero_at j l))),
        λ h j l. equation-is w j l ∙ ap (λ (v : V o L T u). at o v.0 j) h ∙ zero_at j l,
      )

    pub killed_iff : (w : Tuple o r) → IsKilled o m r eqs w.0 ↔ IsFixed B.ring q (G w)
    killed_iff w =
        let s = solved_iff (λ i. less_self o T q (get_or centre i [])) y y-is w in
        let f = fixed_iff F N B m (A_basis o L T u) p e prime char size z r central (S.coord w) in
        (λ k. f.1 (s.0 k), λ h. s.1 (f.0 h))

    -- the weights that solve the equations of z^q = 0
    pub nilpotent_iff : (w : Tuple o r) → IsKilled o m r (nilpotent_equations o T q centre) w.0
        ↔ (power B.ring (G w) q ≡ B.zero)
    nilpotent_iff w =
        let s = solved_iff (λ i. power_in o T (get_or centre i []) q) (λ i. power B.ring (z i) q)
        (λ i l. power-is o L T u (z i) q (size_pos F N B)
        ∙ ap (λ a. power_in o T a q) (family-is o L T u centre shape i l)) w in
        let e = power-comb F N B m (A_basis o L T u) p e prime char size z r central r (omega arith) (S.coord w) in
        (λ k. e ∙ s.0 k, λ h. s.1 (sym e ∙ h))

    pub G_linear : IsLinear Y X G
    G_linear = record {
      map-add = λ v w. comb_congr X r (S.coord (Y.◌⊕◌ v w)) (λ i. F.◌⊕◌ (S.coord v i) (S.coord w i)) z (S.coord-add v w)
          ∙ comb-add X r (S.coord v) (S.coord w) z;
      map-scale = λ a w. comb_congr X r (S.coord (Y.◌•◌ a w)) (λ i. F.◌⊗◌ a (S.coord w i)) z (S.coord-scale a w)
          ∙ comb-scale X r a (S.coord w) z;
    }

    pub G-make : (x : V o L T u) → Centre B x → (w : Tuple o r) × (x ≡ G w)
    G-make x h =
        let s = to_rows o L T u centre shape x (from_centre o L T u centre members x h) in
        let w = S.make s.weights in (
          w,
          s.combines ∙ sym (comb_congr X r (S.coord w) s.weights z (S.coord-make s.weights)),
        )

    pub G_central : (w : Tuple o r) → Centre B (G w)
    G_central w = comb_in X (Centre B) (centre_submodule B) r (S.coord w) z central

    -- the weights of a combination that is 0 are 0
    pub G_faithful : IsReducedBasis o m centre → (w : Tuple o r) → G w ≡ X.zero → w ≡ Y.zero
    G_faithful basis w null =
        let h = rows_independent o L T u centre shape (reduced_basis_is_independent o L m centre basis) in
        S.ext w Y.zero (λ i l. h.only_zero (S.coord w) null i l ∙ sym (S.coord-zero i l))

    module _ (weights : List (List E)) (wshape : IsMatrix o r weights) (wmembers : SpansKernel o m r eqs weights) where
      abbrev s : ℕ
      s = length weights

      abbrev pub W : ℕ → Tuple o r
      W = row o L r weights wshape

      -- the combination with row t as weights
      pub G-is : (t : ℕ) → t < s → (G (W t)).0 ≡ combination_of o T (get_or weights t []) centre
      unfolding tuple_algebra
      G-is t l =
          let w = W t in
          let x = G w in
          let item : ℕ → E = λ j. sum_of o r (λ i. o.mul (at o (get_or weights t []) i) (entry o centre i j)) in
          let each : (j : ℕ) → j < m → at o x.0 j ≡ item j = λ j lj.
          comb-at o L m r (S.coord w) z j lj
          ∙ sum_of_congr o r (λ i. o.mul (S.coord w i).0 (at o (z i).0 j))
          (λ i. o.mul (at o (get_or weights t []) i) (entry o centre i j))
          (λ i li. ap₂ o.mul (coord-is w i ∙ ap (λ xs. at o xs i) (row-is o L r weights wshape t l))
          (ap (λ xs. at o xs j) (family-is o L T u centre shape i li))) in
          IsTuple-ext o m x.0 (table m item) (IsTuple-of o L m x)
          (IsTuple-table o m item (λ j lj. subst (IsElem o) (each j lj)
          (at-elem o L x.0 (let h = IsTuple-of o L m x in h.of_elements) j)))
          (λ j lj. each j lj ∙ sym (at-table o m item j lj))

      pub W_fixed : (t : ℕ) → t < s → IsFixed B.ring q (G (W t))
      W_fixed t l = (killed_iff (W t)).0 ((wmembers (W t).0 (IsTuple-of o L r (W t))).0
          (from_span o L r weights wshape (W t) (InSpan-member Y s t W l)))

      -- each solution is a combination of these
      pub solutions_spanned : (x : V o L T u) → Centre B x → IsFixed B.ring q x → InSpan X s (λ t. G (W t)) x
      solutions_spanned x h f =
          let w = G-make x h in
          let k = (killed_iff w.0).1 (subst (IsFixed B.ring q) w.1 f) in
          let c = to_span o L r weights wshape w.0 ((wmembers w.0.0 (IsTuple-of o L r w.0)).1 k) in
          record {
            weights = c.weights;
            combines = w.1 ∙ ap G c.combines ∙ map-comb Y X G G_linear s c.weights W;
          }

      module _ (basis : IsReducedBasis o m centre) (wbasis : IsReducedBasis o r weights) where
        W_independent : Independent Y s W
        W_independent = to_independent o L r weights wshape (reduced_basis_is_independent o L r weights wbasis)

        pub solutions_basis : BasisOf X s (λ x. Centre B x × IsFixed B.ring q x)
        solutions_basis = record {
          vec = λ t. G (W t);
          independent = record {
            only_zero = λ c h t l.
                let v = comb Y s c W in
                let null : G v ≡ X.zero = map-comb Y X G G_linear s c W ∙ h in
                W_independent.only_zero c (G_faithful basis v null) t l;
          };
          inside = λ t l. (G_central (W t), W_fixed t l);
          spans = λ x h. solutions_spanned x h.0 h.1;
        }

        pub size_unique : (n : ℕ) → BasisOf X n (λ x. Centre B x × IsFixed B.ring q x) → s ≡ n
        size_unique n h = BasisOf-size F X s n (λ x. Centre B x × IsFixed B.ring q x) solutions_basis h
