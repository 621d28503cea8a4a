-- The table of the 2 by 2 matrices: it is split by the matrices with one entry 1 and else 0, and changed in one
-- constant it isn't associative. Maps that are 0 split nothing.
use Rattle.std.specs.Prelude.{◌≡◌, ◌≢◌, ℕ, ◌+◌, ◌*◌, ◌/◌, ◌%◌, ◌<◌, ◌≤◌, ◌==◌, ◌&&◌, Bool, true, false, cond, eqb, List}
use Rattle.std.specs.Prelude.{[], get_or}
use Rattle.std.specs.List.{All}
use Rattle.std.proofs.Common.{refl, sym, ◌∙◌, ap, ap₂, arith, ⊎_elim}
use Rattle.std.proofs.lemmas.Bool.{cases_eq, eq-eqb, ne_eqb}
use Rattle.std.proofs.lemmas.Nat.{div-mul-add, mod-mul-add, div-add-mod'}
use Rattle.theory_rings.specs.Ring.{FieldOn, RingOn}
use Rattle.theory_rings.specs.Ops.{Ops, IsElem, FieldLaws}
use Rattle.theory_rings.specs.Elements.{Elem, Elem-path, elements}
use Rattle.theory_rings.specs.Sum.{sum_of, table, at}
use Rattle.theory_rings.proofs.Rings.RingLaws.{add-neg}
use Rattle.theory_rings.proofs.Rings.Solver.{unit, ◌⊞◌, ◌⊠◌, minus, ring1, ring4}
use Rattle.theory_rings.proofs.Rings.Elements.{at-elem, sum_of-elements, sum_of_congr}
use Rattle.theory_rings.proofs.Sums.Sums.{sum_congr}
use Rattle.theory_rings.proofs.Sums.Lists.{get_or-table, table_congr, All-table}
use Rattle.theory_spaces.specs.Matrix.{delta}
use Rattle.theory_spaces.specs.Tuples.{IsTuple, tuple_scale, basis, constant, product}
use Rattle.theory_spaces.proofs.Matrices.Matrices.{delta_comm, sum-mul_delta, sum-delta_mul}
use Rattle.theory_spaces.proofs.Matrices.PairIndex.{pair-lt, row-lt, column-lt, delta-pairs}
use Rattle.theory_spaces.proofs.Tuples.Tuples.{at-table, IsTuple-table, IsTuple-ext}
use Rattle.theory_spaces.proofs.Tuples.TupleProducts.{product_basis, product-scale, IsTuple-basis}
use Rattle.theory_tables.specs.Matrix.{IsMatrix, entry}
use Rattle.theory_tables.proofs.Rows.Terms.{mul-zero, zero-mul, mul-one, cond_either}
use Rattle.theory_tables.proofs.Rows.Sums.{sum_of_zeros, entry-elem, table_matrix, entry_table}
use Rattle.theory_tables.specs.Split.{IsSquare, IsSplitBy}
use Rattle.theory_tables.specs.Structure.{Structure}
use Rattle.theory_tables.specs.Conditions.{map_entry}
use Rattle.theory_tables.specs.Claims.{TripleClaim, SplitClaim}
use Rattle.theory_tables.specs.Examples.{matrix_structure, matrix_structure_with, matrix_basis, unit_maps}
use Rattle.theory_tables.specs.Examples.{row_12}

-- pairs with equal numbers are equal
same_pair : (r s r' s' : ℕ) → r < 2 → s < 2 → r' < 2 → s' < 2 → eqb (r' * 2 + s') (r * 2 + s) ≡ ((r' == r) && (s' == s))
same_pair r s r' s' hr hs hr' hs' = ⊎_elim
    (λ (e : r' ≡ r). ⊎_elim
    (λ (f : s' ≡ s). eq-eqb (r' * 2 + s') (r * 2 + s) (omega arith)
    ∙ sym (ap₂ (λ x y. x && y) (eq-eqb r' r e) (eq-eqb s' s f)))
    (λ (d : s' ≢ s). ne_eqb (r' * 2 + s') (r * 2 + s) (λ q. d (omega arith))
    ∙ sym (ap₂ (λ x y. x && y) (eq-eqb r' r e) (ne_eqb s' s d)))
    (cases_eq s' s))
    (λ (d : r' ≢ r). ne_eqb (r' * 2 + s') (r * 2 + s) (λ q. d (omega arith))
    ∙ sym (ap (λ x. x && (s' == s)) (ne_eqb r' r d)))
    (cases_eq r' r)

module _ {E : Type 0} (o : Ops E) (L : FieldLaws o) where
  abbrev K : FieldOn (Elem o)
  K = elements o L

  abbrev R : RingOn (Elem o)
  R = K.ring

  abbrev D : ℕ → ℕ → Elem o
  D i j = delta R i j

  D-value : (i j : ℕ) → cond (eqb i j) o.one o.zero ≡ (D i j).0
  D-value i j = value (eqb i j)
    where
      value : (b : Bool) → cond b o.one o.zero ≡ (cond b K.one K.zero).0
      value true = refl
      value false = refl

  bit : (b : Bool) → IsElem o (cond b o.one o.zero)
  bit b = cond_either (IsElem o) b o.one o.zero L.one-elem L.zero-elem

  -- one at the place (r, s) of number k, where k is r·2 + s
  entries : (k r s : ℕ) → k < 4 → r < 2 → s < 2 → map_entry o (unit_maps o) k r s ≡ (D k (r * 2 + s)).0
  entries k r s hk hr hs =
      ap (λ x. entry o x r s)
      (get_or-table 4 (λ k. table 2 (λ r. table 2 (λ s. cond (eqb k (r * 2 + s)) o.one o.zero))) k [] hk)
      ∙ entry_table o L 2 2 (λ r s. cond (eqb k (r * 2 + s)) o.one o.zero) r s hr hs
      ∙ D-value k (r * 2 + s)

  -- the product of E_ab and E_cd is E_ad where b is c, and else 0
  abbrev unit_constant : ℕ → ℕ → ℕ → E
  unit_constant i j k = cond (eqb (i % 2) (j / 2)) (cond (eqb (i / 2 * 2 + j % 2) k) o.one o.zero) o.zero

  constants : (i j k : ℕ) → i < 4 → j < 4 → k < 4
      → constant o 4 (matrix_structure o).constants i j k ≡ (K.◌⊗◌ (D (i % 2) (j / 2)) (D (i / 2 * 2 + j % 2) k)).0
  constants i j k hi hj hk =
      let x = (i * 4 + j) * 4 + k in
      let first : x / 4 ≡ i * 4 + j = div-mul-add (i * 4 + j) 4 k hk in
      at-table o 64 (λ x. unit_constant (x / 4 / 4) (x / 4 % 4) (x % 4)) x (omega arith)
      ∙ ap₂ (λ a b. unit_constant a b (x % 4)) (ap (λ y. y / 4) first ∙ div-mul-add i 4 j hj)
      (ap (λ y. y % 4) first ∙ mod-mul-add i 4 j hj)
      ∙ ap (λ c. unit_constant i j c) (mod-mul-add (i * 4 + j) 4 k hk)
      ∙ value (eqb (i % 2) (j / 2)) (eqb (i / 2 * 2 + j % 2) k)
    where
      value : (b c : Bool) → cond b (cond c o.one o.zero) o.zero ≡ o.mul (cond b K.one K.zero).0 (cond c K.one K.zero).0
      value true true = sym (L.one-mul o.one L.one-elem)
      value true false = sym (L.one-mul o.zero L.zero-elem)
      value false true = sym (zero-mul o L o.one L.one-elem)
      value false false = sym (zero-mul o L o.zero L.zero-elem)

  -- a combination of the maps has its weights as entries
  combination-at : (c : ℕ → Elem o) (r s : ℕ) → r < 2 → s < 2
      → sum_of o 4 (λ k. o.mul (c k).0 (map_entry o (unit_maps o) k r s)) ≡ (c (r * 2 + s)).0
  combination-at c r s hr hs =
      sum_of_congr o 4 (λ k. o.mul (c k).0 (map_entry o (unit_maps o) k r s)) (λ k. (K.◌⊗◌ (c k) (D k (r * 2 + s))).0)
      (λ k hk. ap (o.mul (c k).0) (entries k r s hk hr hs))
      ∙ sum_of-elements o L 4 (λ k. K.◌⊗◌ (c k) (D k (r * 2 + s)))
      ∙ ap (λ (x : Elem o). x.0) (sum-mul_delta R 4 c (r * 2 + s) (pair-lt 2 2 r s hr hs))

  list_combination-at : (c : List E) → All (IsElem o) c → (r s : ℕ) → r < 2 → s < 2
      → sum_of o 4 (λ k. o.mul (at o c k) (map_entry o (unit_maps o) k r s)) ≡ at o c (r * 2 + s)
  list_combination-at c h r s hr hs = combination-at (λ k. (at o c k, at-elem o L c h k)) r s hr hs

  D-pair : (k r t : ℕ) → t < 2 → D k (r * 2 + t) ≡ K.◌⊗◌ (D (k / 2) r) (D (k % 2) t)
  D-pair k r t ht = ap (λ x. D x (r * 2 + t)) (sym (div-add-mod' k 2))
      ∙ delta-pairs R 2 (k / 2) (k % 2) r t (omega arith) ht

  maps_multiply : (i j r s : ℕ) → i < 4 → j < 4 → r < 2 → s < 2
      → sum_of o 2 (λ t. o.mul (map_entry o (unit_maps o) i r t) (map_entry o (unit_maps o) j t s))
      ≡ sum_of o 4 (λ k. o.mul (constant o 4 (matrix_structure o).constants i j k) (map_entry o (unit_maps o) k r s))
  maps_multiply i j r s hi hj hr hs =
      let a = D (i / 2) r in
      let d = D (j % 2) s in
      let u : ℕ → Elem o = λ t. D (i % 2) t in
      let v : ℕ → Elem o = λ t. D (j / 2) t in
      let term : ℕ → Elem o = λ t. K.◌⊗◌ (D i (r * 2 + t)) (D j (t * 2 + s)) in
      let g : ℕ → Elem o = λ k. K.◌⊗◌ (D (i % 2) (j / 2)) (D (i / 2 * 2 + j % 2) k) in
      sum_of_congr o 2 (λ t. o.mul (map_entry o (unit_maps o) i r t) (map_entry o (unit_maps o) j t s))
      (λ t. (term t).0)
      (λ t ht. ap₂ o.mul (entries i r t hi hr ht) (entries j t s hj ht hs))
      ∙ sum_of-elements o L 2 term
      ∙ ap (λ (x : Elem o). x.0)
      (sum_congr K.monoid 2 term (λ t. K.◌⊗◌ (u t) (K.◌⊗◌ (v t) (K.◌⊗◌ a d)))
      (λ t ht. ap₂ K.◌⊗◌ (D-pair i r t ht) (D-pair j t s hs)
      ∙ ring4 K.cring (λ a u v d. (a ⊠ u ⊠ (v ⊠ d), u ⊠ (v ⊠ (a ⊠ d)))) refl a (u t) (v t) d)
      ∙ sum-delta_mul R 2 (λ t. K.◌⊗◌ (v t) (K.◌⊗◌ a d)) (i % 2) (omega arith)
      ∙ ap (λ x. K.◌⊗◌ x (K.◌⊗◌ a d)) (delta_comm R (j / 2) (i % 2))
      ∙ ap (K.◌⊗◌ (D (i % 2) (j / 2))) (sym (delta-pairs R 2 (i / 2) (j % 2) r s (omega arith) hs)))
      ∙ sym (combination-at g r s hr hs)
      ∙ sum_of_congr o 4 (λ k. o.mul (g k).0 (map_entry o (unit_maps o) k r s))
      (λ k. o.mul (constant o 4 (matrix_structure o).constants i j k) (map_entry o (unit_maps o) k r s))
      (λ k hk. ap (λ x. o.mul x (map_entry o (unit_maps o) k r s)) (sym (constants i j k hi hj hk)))

  maps_square : All (IsSquare o 2) (unit_maps o)
  maps_square = All-table (IsSquare o 2) 4 (λ k. table 2 (λ r. table 2 (λ s. cond (eqb k (r * 2 + s)) o.one o.zero)))
      (λ k _. record {
        shape = table_matrix o L 2 2 (λ r s. cond (eqb k (r * 2 + s)) o.one o.zero) (λ r s. bit (eqb k (r * 2 + s)));
        height = refl;
      })

  pub matrices_are_split : IsSplitBy o (matrix_structure o) 2 (unit_maps o)
  matrices_are_split = record {
    count = refl;
    square = maps_square;
    multiplies = maps_multiply;
    onto = λ x h.
        let c : List E = table 4 (λ k. entry o x (k / 2) (k % 2)) in
        let t = IsTuple-table o 4 (λ k. entry o x (k / 2) (k % 2))
        (λ k _. entry-elem o L 2 x h.shape (k / 2) (k % 2)) in (
          c,
          t,
          λ r s hr hs. sym (list_combination-at c t.of_elements r s hr hs
              ∙ at-table o 4 (λ k. entry o x (k / 2) (k % 2)) (r * 2 + s) (pair-lt 2 2 r s hr hs)
              ∙ ap₂ (entry o x) (div-mul-add r 2 s hs) (mod-mul-add r 2 s hs)),
        );
    once = λ x c d h hc hd ec ed. IsTuple-ext o 4 c d hc hd (λ k hk.
        let same : (r s : ℕ) → r < 2 → s < 2 → at o c (r * 2 + s) ≡ at o d (r * 2 + s) = λ r s hr hs.
        sym (list_combination-at c hc.of_elements r s hr hs) ∙ sym (ec r s hr hs) ∙ ed r s hr hs
        ∙ list_combination-at d hd.of_elements r s hr hs in
        ap (at o c) (sym (div-add-mod' k 2)) ∙ same (k / 2) (k % 2) (row-lt 2 2 k hk) (column-lt 2 2 k hk)
        ∙ ap (at o d) (div-add-mod' k 2));
  }

  basis_matrix : IsMatrix o 4 (matrix_basis o)
  basis_matrix = All-table (IsTuple o 4) 4 (basis o 4) (λ i _. IsTuple-basis o L 4 [] (λ k d l. absurd (omega arith)) i)

  pub matrices_split_claim : SplitClaim o (matrix_structure o) 2 (unit_maps o) (matrix_basis o)
  matrices_split_claim = record {
    fits = record {
      map_count = refl;
      square = λ k hk. maps_square k [] hk;
      unit_count = refl;
      tuples = basis_matrix;
    };
    multiplies = maps_multiply;
    gives_units = λ r s r' s' hr hs hr' hs'.
        let i = r * 2 + s in
        let row : get_or (matrix_basis o) i [] ≡ basis o 4 i =
        get_or-table 4 (basis o 4) i [] (pair-lt 2 2 r s hr hs) in
        list_combination-at (get_or (matrix_basis o) i [])
        (basis_matrix i [] (pair-lt 2 2 r s hr hs)).of_elements r' s' hr' hs'
        ∙ ap (λ x. at o x (r' * 2 + s')) row
        ∙ at-table o 4 (λ k. cond (eqb k i) o.one o.zero) (r' * 2 + s') (pair-lt 2 2 r' s' hr' hs')
        ∙ ap (λ b. cond b o.one o.zero) (same_pair r s r' s' hr hs hr' hs');
  }

  -- maps that are 0 give no unit matrices
  pub zero_maps_split_nothing : (A : Structure E) (n : ℕ) (maps : List (List (List E))) (units : List (List E)) → 1 ≤ n
      → ((k r s : ℕ) → map_entry o maps k r s ≡ o.zero) → SplitClaim o A n maps units → ⊥
  zero_maps_split_nothing A n maps units positive z S =
      let m = A.dim in
      let c : ℕ → E = at o (get_or units (0 * n + 0) []) in
      L.one-nonzero (sym (S.gives_units 0 0 0 0 positive positive positive positive)
      ∙ sum_of_congr o m (λ k. o.mul (c k) (map_entry o maps k 0 0)) (λ _. o.zero)
      (λ k _. ap (o.mul (c k)) (z k 0 0) ∙ mul-zero o L (c k) (entry-elem o L m units S.fits.tuples (0 * n + 0) k))
      ∙ sum_of_zeros o L m)

  -- with c·b_2 for b_1·b_2 the two products of b_1, b_1 and b_2 are c·b_2 and c·(c·b_2)
  module _ (c : E) (c_in : IsElem o c) where
    abbrev cs : List E
    cs = (matrix_structure_with o c).constants

    unit_constant-elem : (i j k : ℕ) → IsElem o (unit_constant i j k)
    unit_constant-elem i j k =
        cond_either (IsElem o) (eqb (i % 2) (j / 2)) (cond (eqb (i / 2 * 2 + j % 2) k) o.one o.zero) o.zero
        (bit (eqb (i / 2 * 2 + j % 2) k)) L.zero-elem

    all_elem : All (IsElem o) cs
    all_elem =
        let f : ℕ → E = λ x. unit_constant (x / 4 / 4) (x / 4 % 4) (x % 4) in
        All-table (IsElem o) 64 (λ x. cond (eqb x 5) c (f x))
        (λ x _. cond_either (IsElem o) (eqb x 5) c (f x) c_in (unit_constant-elem (x / 4 / 4) (x / 4 % 4) (x % 4)))

    -- the tuple with c in the second place
    scaled : row_12 o c ≡ tuple_scale o 4 c (basis o 4 1)
    scaled =
        table_congr 4 (λ k. cond (eqb k 1) c o.zero) (λ k. o.mul c (at o (basis o 4 1) k)) (λ k hk.
        value (eqb k 1) ∙ ap (o.mul c) (sym (at-table o 4 (λ k. cond (eqb k 1) o.one o.zero) k hk)))
      where
        value : (b : Bool) → cond b c o.zero ≡ o.mul c (cond b o.one o.zero)
        value true = sym (mul-one o L c c_in)
        value false = sym (mul-zero o L c c_in)

    left : product o 4 cs (product o 4 cs (basis o 4 0) (basis o 4 0)) (basis o 4 1) ≡ row_12 o c
    left = ap (λ x. product o 4 cs x (basis o 4 1)) (product_basis o L 4 cs all_elem 0 0 (omega arith) (omega arith))
        ∙ product_basis o L 4 cs all_elem 0 1 (omega arith) (omega arith)

    right : product o 4 cs (basis o 4 0) (product o 4 cs (basis o 4 0) (basis o 4 1)) ≡ tuple_scale o 4 c (row_12 o c)
    right = ap (product o 4 cs (basis o 4 0)) (product_basis o L 4 cs all_elem 0 1 (omega arith) (omega arith) ∙ scaled)
        ∙ product-scale o L 4 cs all_elem c (basis o 4 0) (basis o 4 1) c_in (IsTuple-basis o L 4 cs all_elem 0)
        (IsTuple-basis o L 4 cs all_elem 1)
        ∙ ap (tuple_scale o 4 c) (product_basis o L 4 cs all_elem 0 1 (omega arith) (omega arith))

    pub triple_differs : o.mul c c ≢ c → TripleClaim o (matrix_structure_with o c) 1 1 2
    triple_differs h = record {
      fits = ((omega arith, omega arith), (omega arith, omega arith), (omega arith, omega arith));
      differ = λ e. h (sym (ap (λ x. at o x 1) (sym left ∙ e ∙ right)));
    }

  -- so with 2, where that isn't 0
  pub twice_differs : o.add o.one o.one ≢ o.zero → TripleClaim o (matrix_structure_with o (o.add o.one o.one)) 1 1 2
  twice_differs h =
      let u : Elem o = K.one in
      let two : Elem o = K.◌⊕◌ u u in
      triple_differs two.0 two.1 (λ e. h (ap (λ (x : Elem o). x.0)
      (ring1 K.cring (λ x. (unit ⊞ unit, (unit ⊞ unit) ⊠ (unit ⊞ unit) ⊞ minus (unit ⊞ unit))) refl u
      ∙ ap (λ x. K.◌⊕◌ x (K.neg two)) (Elem-path o (K.◌⊗◌ two two) two e) ∙ add-neg K.additive two)))
