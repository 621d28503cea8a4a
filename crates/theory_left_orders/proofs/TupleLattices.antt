-- Lattices of tuples, as lists, and those of the rows as vectors; independent tuples as a basis.
use Rattle.std.specs.Prelude.{◌≡◌, ◌↔◌, ℕ, ◌+◌, ◌-◌, ◌<◌, ◌≤◌, List, [], ◌++◌, length, get_or}
use Rattle.std.proofs.Common.{sym, ◌∙◌, ap, ap₂, subst, arith, length-append, ⊎_elim}
use Rattle.std.proofs.lemmas.Bool.{cases_lt}
use Rattle.std.proofs.lemmas.List.{get_or_append_left, get_or-append-add}
use Rattle.std.proofs.lemmas.List.Elements.{All-append, All-get_or}
use Rattle.theory_rings.specs.Ring.{FieldOn}
use Rattle.theory_rings.specs.Ops.{Ops, FieldLaws}
use Rattle.theory_rings.specs.Elements.{Elem, elements}
use Rattle.theory_rings.specs.Sum.{at, sum_of, table}
use Rattle.theory_rings.proofs.Rings.Elements.{at-elem, sum_of_congr}
use Rattle.theory_rings.proofs.Sums.Lists.{All-table}
use Rattle.theory_spaces.specs.Module.{ModuleOn}
use Rattle.theory_spaces.specs.Linear.{comb, InSpan, Independent, Basis}
use Rattle.theory_spaces.specs.Lattice.{IsSubring, LatticeOver}
use Rattle.theory_spaces.specs.Sets.{Within}
use Rattle.theory_spaces.proofs.Linear.LatticeSpans.{span-member, span_trans}
use Rattle.theory_spaces.specs.Tuples.{IsTuple, Tuple}
use Rattle.theory_spaces.proofs.Linear.Families.{join, join-below, join-above}
use Rattle.theory_spaces.proofs.Linear.Modules.{comb_congr_right}
use Rattle.theory_spaces.proofs.Linear.Spaces.{coords_of, full_span, basis_of, Basis-coord}
use Rattle.theory_spaces.proofs.Tuples.Tables.{space_basis, space_expand, unit}
use Rattle.theory_spaces.proofs.Tuples.Tuples.{at-table, IsTuple-table, IsTuple-ext, Tuple-path, tuples, tuple_space}
use Rattle.theory_tables.specs.Matrix.{entry, IsMatrix}
use Rattle.theory_tables.proofs.Algebras.Bridge.{comb-at, row, row-at, row-is, IsTuple-of, as_tuple, to_independent}
use Rattle.theory_bases.specs.TupleLattices.{InSpanOver, TupleLattice, AreIndependentTuples}

-- the lattices of families with the same members
pub lattice_congr : {K V : Type 0} (F : FieldOn K) (P : K → Type 0) (M : ModuleOn F.ring V) (n : ℕ) (v w : ℕ → V)
    → ((i : ℕ) → i < n → v i ≡ w i) → (x : V) → LatticeOver M P n v x → LatticeOver M P n w x
lattice_congr F P M n v w e x s = record {
  weights = s.weights;
  passes = s.passes;
  combines = s.combines ∙ comb_congr_right M n s.weights v w e;
}

module _ {E : Type 0} (o : Ops E) (L : FieldLaws o) (m : ℕ) where
  abbrev K : FieldOn (Elem o)
  K = elements o L

  abbrev M : ModuleOn K.ring (Tuple o m)
  M = tuples o L m

  module _ (rows : List (List E)) (shape : IsMatrix o m rows) where
    abbrev v : ℕ → Tuple o m
    v = row o L m rows shape

    pub row-sum : (n : ℕ) (c : ℕ → Elem o) (j : ℕ) → j < m
        → at o (comb M n c v).0 j ≡ sum_of o n (λ i. o.mul (c i).0 (entry o rows i j))
    row-sum n c j j_in = comb-at o L m n c v j j_in
        ∙ sum_of_congr o n (λ i. o.mul (c i).0 (at o (v i).0 j)) (λ i. o.mul (c i).0 (entry o rows i j))
        (λ i _. ap (o.mul (c i).0) (row-at o L m rows shape i j j_in))

    -- a tuple whose entries are those of a combination
    pub is_comb : (x : Tuple o m) (n : ℕ) (c : ℕ → Elem o)
        → ((j : ℕ) → j < m → at o x.0 j ≡ sum_of o n (λ i. o.mul (c i).0 (entry o rows i j))) → x ≡ comb M n c v
    is_comb x n c e =
        let y = comb M n c v in
        Tuple-path o L m x y (IsTuple-ext o m x.0 y.0 (IsTuple-of o L m x) (IsTuple-of o L m y)
        (λ j j_in. e j j_in ∙ sym (row-sum n c j j_in)))

    module _ (P : E → Type 0) where
      pub to_lattice : (x : Tuple o m) → InSpanOver o P m rows x.0 → LatticeOver M (λ c. P c.0) (length rows) v x
      to_lattice x h =
          let c : ℕ → Elem o = λ i. (at o h.weights i, at-elem o L h.weights h.tuple.of_elements i) in
          record {
            weights = c;
            passes = λ i l. All-get_or P h.weights i o.zero (omega (arith, l, h.tuple.right_length)) h.allowed;
            combines = is_comb x (length rows) c h.combines;
          }

      pub from_lattice : (x : Tuple o m) → LatticeOver M (λ c. P c.0) (length rows) v x → TupleLattice o P m rows x.0
      from_lattice x s =
          let n = length rows in
          let c : ℕ → E = λ i. (s.weights i).0 in (
            IsTuple-of o L m x,
            record {
              weights = table n c;
              tuple = IsTuple-table o n c (λ i _. (s.weights i).1);
              allowed = All-table P n c s.passes;
              combines = λ j j_in. ap (λ (y : Tuple o m). at o y.0 j) s.combines ∙ row-sum n s.weights j j_in
                  ∙ sum_of_congr o n (λ i. o.mul (c i) (entry o rows i j))
                  (λ i. o.mul (at o (table n c) i) (entry o rows i j))
                  (λ i i_in. ap (λ x. o.mul x (entry o rows i j)) (sym (at-table o n c i i_in)));
            },
          )

  -- two families one after the other, and the rows of two matrices
  module _ (a b : List (List E)) (sa : IsMatrix o m a) (sb : IsMatrix o m b) (s n : ℕ) (ca : length a ≡ s)
      (cb : length b ≡ n)
      (u w : ℕ → Tuple o m) (u-is : (i : ℕ) → i < s → u i ≡ row o L m a sa i)
      (w-is : (i : ℕ) → i < n → w i ≡ row o L m b sb i) where
    abbrev all : List (List E)
    all = a ++ b

    all_shape : IsMatrix o m all
    all_shape = All-append (IsTuple o m) a b sa sb

    all_count : length all ≡ s + n
    all_count = length-append a b ∙ ap₂ ◌+◌ ca cb

    abbrev each : ℕ → Tuple o m
    each = row o L m all all_shape

    below : (t : ℕ) → t < s → u t ≡ each t
    below t t_in = u-is t t_in ∙ Tuple-path o L m (row o L m a sa t) (each t)
        (row-is o L m a sa t (omega (arith, t_in, ca))
        ∙ sym (get_or_append_left a b [] t (omega (arith, t_in, ca)))
        ∙ sym (row-is o L m all all_shape t (omega (arith, t_in, all_count))))

    above : (i : ℕ) → i < n → w i ≡ each (s + i)
    above i i_in = w-is i i_in ∙ Tuple-path o L m (row o L m b sb i) (each (s + i))
        (row-is o L m b sb i (omega (arith, i_in, cb)) ∙ sym (get_or-append-add a b i [])
        ∙ ap (λ t. get_or all (t + i) []) ca
        ∙ sym (row-is o L m all all_shape (s + i) (omega (arith, i_in, all_count))))

    joined-is : (t : ℕ) → t < s + n → join s u w t ≡ each t
    joined-is t t_in = ⊎_elim
        (λ (l : t < s). join-below s u w t l ∙ below t l)
        (λ (l : s ≤ t).
        let i = t - s in
        let f : s + i ≡ t = omega arith in
        subst (λ t. join s u w t ≡ each t) f (join-above s u w i ∙ above i (omega arith)))
        (cases_lt t s)

    module _ (P : E → Type 0) where
      pub joined_to : (x : Tuple o m) → LatticeOver M (λ c. P c.0) (s + n) (join s u w) x → TupleLattice o P m all x.0
      joined_to x h = let S : ℕ → Type 0 = λ t. LatticeOver M (λ c. P c.0) t each x in
          from_lattice all all_shape P x
          (subst S (sym all_count) (lattice_congr K (λ c. P c.0) M (s + n) (join s u w) each joined-is x h))

      pub joined_from : (x : Tuple o m) → TupleLattice o P m all x.0 → LatticeOver M (λ c. P c.0) (s + n) (join s u w) x
      joined_from x h = let S : ℕ → Type 0 = λ t. LatticeOver M (λ c. P c.0) t each x in
          lattice_congr K (λ c. P c.0) M (s + n) each (join s u w) (λ t l. sym (joined-is t l)) x
          (subst S all_count (to_lattice all all_shape P x h.1))

  -- rows in a lattice over a subring are in that over a larger one
  pub larger_lattice : (P Q : E → Type 0) → IsSubring K.ring (λ x. P x.0) → IsSubring K.ring (λ x. Q x.0)
      → ((x : Elem o) → P x.0 → Q x.0)
      → (a b : List (List E)) → IsMatrix o m a → IsMatrix o m b
      → Within (TupleLattice o P m a) (TupleLattice o P m b)
      → Within (TupleLattice o Q m a) (TupleLattice o Q m b)
  larger_lattice P Q hp hq f a b sa sb within x h =
      let y = as_tuple o L m x h.0 in
      let u = row o L m a sa in
      let w = row o L m b sb in
      from_lattice b sb Q y (span_trans K (λ c. Q c.0) hq M (length b) w (length a) u (λ i l.
      let s = within (u i).0 (from_lattice a sa P (u i) (span-member K (λ c. P c.0) hp M (length a) u i l)) in
      let t = to_lattice b sb P (u i) s.1 in
      record { weights = t.weights; passes = λ j g. f (t.weights j) (t.passes j g); combines = t.combines })
      y (to_lattice a sa Q y h.1))

  -- m independent tuples are a basis
  module _ (rows : List (List E)) (h : AreIndependentTuples o m rows) where
    pub vectors : Independent M m (row o L m rows h.shape)
    vectors = let T : ℕ → Type 0 = λ n. Independent M n (row o L m rows h.shape) in
        subst T h.count (to_independent o L m rows h.shape h.independent)

    pub span_all : (x : Tuple o m) → InSpan M m (row o L m rows h.shape) x
    span_all = full_span K M m (coords_of M m (space_basis M m (tuple_space o L m))) m
        (unit M m (tuple_space o L m)) (row o L m rows h.shape)
        (λ x. record {
          weights = (tuple_space o L m).coord x;
          combines = space_expand M m (tuple_space o L m) x;
        }) vectors

    abbrev pub rows_basis : Basis M m
    rows_basis = basis_of M m (row o L m rows h.shape) vectors span_all

    -- the weights of the members of their lattice
    module _ (P : E → Type 0) where
      abbrev In : Tuple o m → Type 0
      In = LatticeOver M (λ c. P c.0) m (row o L m rows h.shape)

      -- they are allowed
      pub weights_allowed : (x : Tuple o m) (c : ℕ → Elem o) → x ≡ comb M m c (row o L m rows h.shape) → In x → (l : ℕ)
          → l < m → P (c l).0
      weights_allowed x c e s l l_in =
          let B = rows_basis in
          let Q : Elem o → Type 0 = λ z. P z.0 in
          subst Q (sym (ap (λ y. B.coord y l) s.combines ∙ Basis-coord M m B s.weights l l_in)
          ∙ ap (λ y. B.coord y l) e ∙ Basis-coord M m B c l l_in) (s.passes l l_in)

    -- a combination of them is in their lattice exactly where its weights are allowed
    pub lattice_by_weights : (P : E → Type 0) (x : List E) → IsTuple o m x → (c : ℕ → Elem o)
        → ((j : ℕ) → j < m → at o x j ≡ sum_of o m (λ i. o.mul (c i).0 (entry o rows i j)))
        → TupleLattice o P m rows x ↔ ((l : ℕ) → l < m → P (c l).0)
    lattice_by_weights P x hx c e =
        let y = as_tuple o L m x hx in
        let S : ℕ → Type 0 = λ n. LatticeOver M (λ z. P z.0) n (row o L m rows h.shape) y in
        let combined : y ≡ comb M m c (row o L m rows h.shape) = is_comb rows h.shape y m c e in (
          λ t. weights_allowed P y c combined (subst S h.count (to_lattice rows h.shape P y t.1)),
          λ g. from_lattice rows h.shape P y
              (subst S (sym h.count) record { weights = c; passes = g; combines = combined }),
        )
