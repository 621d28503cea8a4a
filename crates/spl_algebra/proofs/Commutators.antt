-- The central elements are those that the commutator rows send to 0.
use Rattle.std.specs.Prelude.{◌≡◌, ◌↔◌, ℕ, ◌+◌, ◌*◌, ◌/◌, ◌%◌, ◌<◌, ◌≤◌, List, length, All}
use Rattle.std.proofs.Common.{refl, sym, ◌∙◌, ap, ap₂, subst, arith}
use Rattle.std.proofs.lemmas.Nat.{div-mul-add, mod-mul-add}
use Rattle.theory_rings.specs.Ops.{Ops, IsElem, FieldLaws}
use Rattle.theory_rings.specs.Elements.{elements}
use Rattle.theory_rings.specs.Sum.{at, sum_of, table}
use Rattle.theory_rings.proofs.Sums.Lists.{length-table}
use Rattle.theory_rings.proofs.Rings.Elements.{at-elem, sum_of-elem, sum_of_congr}
use Rattle.theory_rings.proofs.Rings.Solver.{◌⊞◌, ◌⊠◌, nil, minus, unit, ring1, ring2, ring3}
use Rattle.theory_spaces.specs.Tuples.{IsTuple, product, basis, constant}
use Rattle.theory_spaces.proofs.Tuples.Tuples.{IsTuple-ext}
use Rattle.theory_spaces.proofs.Tuples.TupleProducts.{IsTuple-product, IsTuple-basis}
use Rattle.theory_spaces.proofs.Matrices.PairIndex.{pair-lt, row-lt, column-lt}
use Rattle.theory_tables.proofs.Rows.Sums.{sum_of-add, mul-sum_of, entry_table}
use Rattle.theory_tables.specs.Matrix.{entry, width_of}
use Rattle.theory_tables.specs.Subspace.{InSpan, IsKilled, SpansKernel}
use Rattle.theory_tables.specs.Algebras.{IsCentral}
use Rattle.spl_algebra.specs.Contractions.{commutator_item, commutator_rows}
use Rattle.spl_algebra.proofs.Terms.{add-zero}
use Rattle.spl_algebra.proofs.Contractions.{constant-elem, at-product_basis, at-basis_product}

module _ {E : Type 0} (o : Ops E) (L : FieldLaws o) where
  -- (x − y)·v = v·x + (−1)·(v·y)
  difference-mul : (x y v : E) → IsElem o x → IsElem o y → IsElem o v
      → o.mul (o.add x (o.neg y)) v ≡ o.add (o.mul v x) (o.mul (o.neg o.one) (o.mul v y))
  difference-mul x y v hx hy hv = ap (λ z. z.0)
      (ring3 (elements o L).cring (λ x y v. ((x ⊞ minus y) ⊠ v, v ⊠ x ⊞ minus unit ⊠ (v ⊠ y))) refl (x, hx) (y, hy)
      (v, hv))

  -- b + (a + (−1)·b) = a, and a + (−1)·a = 0
  difference-add : (a b : E) → IsElem o a → IsElem o b → o.add b (o.add a (o.mul (o.neg o.one) b)) ≡ a
  difference-add a b ha hb =
      ap (λ z. z.0) (ring2 (elements o L).cring (λ a b. (b ⊞ (a ⊞ minus unit ⊠ b), a)) refl (a, ha) (b, hb))

  difference-self : (a : E) → IsElem o a → o.add a (o.mul (o.neg o.one) a) ≡ o.zero
  difference-self a ha = ap (λ z. z.0) (ring1 (elements o L).cring (λ a. (a ⊞ minus unit ⊠ a, nil)) refl (a, ha))

  module _ (m : ℕ) (cs : List E) (constants : All (IsElem o) cs) (v : List E) (tuple : IsTuple o m v) where
    v_in : (j : ℕ) → IsElem o (at o v j)
    v_in = at-elem o L v tuple.of_elements

    abbrev right : ℕ → ℕ → E
    right i k = sum_of o m (λ j. o.mul (at o v j) (constant o m cs j i k))

    abbrev left : ℕ → ℕ → E
    left i k = sum_of o m (λ j. o.mul (at o v j) (constant o m cs i j k))

    right-term : (i k j : ℕ) → IsElem o (o.mul (at o v j) (constant o m cs j i k))
    right-term i k j = L.mul-elem (at o v j) (constant o m cs j i k) (v_in j) (constant-elem o L m cs constants j i k)

    left-term : (i k j : ℕ) → IsElem o (o.mul (at o v j) (constant o m cs i j k))
    left-term i k j = L.mul-elem (at o v j) (constant o m cs i j k) (v_in j) (constant-elem o L m cs constants i j k)

    right-elem : (i k : ℕ) → IsElem o (right i k)
    right-elem i k = sum_of-elem o L m (λ j. o.mul (at o v j) (constant o m cs j i k)) (λ j _. right-term i k j)

    left-elem : (i k : ℕ) → IsElem o (left i k)
    left-elem i k = sum_of-elem o L m (λ j. o.mul (at o v j) (constant o m cs i j k)) (λ j _. left-term i k j)

    -- the row for i and k takes v to item k of v·b_i − b_i·v
    commutator-sum : (i k : ℕ)
        → sum_of o m (λ j. o.mul (commutator_item o m cs i k j) (at o v j)) ≡ o.add (right i k)
        (o.mul (o.neg o.one) (left i k))
    commutator-sum i k =
        let minus_one : IsElem o (o.neg o.one) = L.neg-elem o.one L.one-elem in
        let x : ℕ → E = λ j. o.mul (at o v j) (constant o m cs j i k) in
        let y : ℕ → E = λ j. o.mul (at o v j) (constant o m cs i j k) in
        sum_of_congr o m (λ j. o.mul (commutator_item o m cs i k j) (at o v j))
        (λ j. o.add (x j) (o.mul (o.neg o.one) (y j)))
        (λ j _. difference-mul (constant o m cs j i k) (constant o m cs i j k) (at o v j)
        (constant-elem o L m cs constants j i k) (constant-elem o L m cs constants i j k) (v_in j))
        ∙ sum_of-add o L m x (λ j. o.mul (o.neg o.one) (y j)) (right-term i k)
        (λ j. L.mul-elem (o.neg o.one) (y j) minus_one (left-term i k j))
        ∙ ap (o.add (right i k)) (sym (mul-sum_of o L m (o.neg o.one) y minus_one (left-term i k)))

    entry-sum : (r : ℕ) → r < m * m
        → sum_of o m (λ j. o.mul (entry o (commutator_rows o m cs) r j) (at o v j)) ≡ o.add (right (r / m) (r % m))
        (o.mul (o.neg o.one) (left (r / m) (r % m)))
    entry-sum r r_in =
        sum_of_congr o m (λ j. o.mul (entry o (commutator_rows o m cs) r j) (at o v j))
        (λ j. o.mul (commutator_item o m cs (r / m) (r % m) j) (at o v j))
        (λ j j_in. ap (λ x. o.mul x (at o v j))
        (entry_table o L (m * m) m (λ r. commutator_item o m cs (r / m) (r % m)) r j r_in j_in))
        ∙ commutator-sum (r / m) (r % m)

    pub central_of_killed : IsKilled o (m * m) m (commutator_rows o m cs) v
        → IsCentral o (record { dim = m; constants = cs }) v
    central_of_killed killed = record {
      tuple = tuple;
      commutes = λ i i_in. IsTuple-ext o m (product o m cs v (basis o m i)) (product o m cs (basis o m i) v)
          (IsTuple-product o L m cs constants v (basis o m i) tuple (IsTuple-basis o L m cs constants i))
          (IsTuple-product o L m cs constants (basis o m i) v (IsTuple-basis o L m cs constants i) tuple)
          (λ k k_in.
          let r = i * m + k in
          let zero : o.add (right i k) (o.mul (o.neg o.one) (left i k)) ≡ o.zero =
          ap₂ (λ x y. o.add (right x y) (o.mul (o.neg o.one) (left x y))) (sym (div-mul-add i m k k_in))
          (sym (mod-mul-add i m k k_in))
          ∙ sym (entry-sum r (pair-lt m m i k i_in k_in)) ∙ killed r (pair-lt m m i k i_in k_in) in
          at-product_basis o L m cs constants v i k tuple.of_elements i_in k_in
          ∙ sym (difference-add (right i k) (left i k) (right-elem i k) (left-elem i k))
          ∙ ap (o.add (left i k)) zero ∙ add-zero o L (left i k) (left-elem i k)
          ∙ sym (at-basis_product o L m cs constants v i k tuple.of_elements i_in k_in));
    }

    pub killed_of_central : IsCentral o (record { dim = m; constants = cs }) v
        → IsKilled o (m * m) m (commutator_rows o m cs) v
    killed_of_central h r r_in =
        let i = r / m in
        let k = r % m in
        let i_in : i < m = row-lt m m r r_in in
        let k_in : k < m = column-lt m m r r_in in
        let same : right i k ≡ left i k = sym (at-product_basis o L m cs constants v i k tuple.of_elements i_in k_in)
        ∙ ap (λ xs. at o xs k) (h.commutes i i_in)
        ∙ at-basis_product o L m cs constants v i k tuple.of_elements i_in k_in in
        entry-sum r r_in ∙ ap (λ x. o.add x (o.mul (o.neg o.one) (left i k))) same
        ∙ difference-self (left i k) (left-elem i k)

  -- the kernel of the rows is the centre
  pub kernel-central : (m : ℕ) (cs : List E) → All (IsElem o) cs → (v : List E) → IsTuple o m v
      → (IsKilled o (m * m) m (commutator_rows o m cs) v ↔ IsCentral o (record { dim = m; constants = cs }) v)
  kernel-central m cs constants v tuple =
      (central_of_killed m cs constants v tuple, killed_of_central m cs constants v tuple)

  -- there is a row, since m is positive
  pub commutator_rows-some : (m : ℕ) (cs : List E) (rows : List (List E)) → 1 ≤ m → rows ≡ commutator_rows o m cs
      → 1 ≤ length rows
  commutator_rows-some m cs rows h e =
      omega (
        arith,
        ap length e,
        length-table (m * m) (λ r. table m (commutator_item o m cs (r / m) (r % m))),
        pair-lt m m 0 0 h h,
      )

  -- the kernel of the rows that a program has made is the centre
  pub spans_centre : (m : ℕ) (cs : List E) (rows found : List (List E)) → All (IsElem o) cs
      → rows ≡ commutator_rows o m cs → width_of rows ≡ m
      → SpansKernel o (length rows) (width_of rows) rows found → (v : List E) → IsTuple o m v
      → (InSpan o m found v ↔ IsCentral o (record { dim = m; constants = cs }) v)
  spans_centre m cs rows found constants e wide spans v tuple =
      let long : length rows ≡ m * m = ap length e
      ∙ length-table (m * m) (λ r. table m (commutator_item o m cs (r / m) (r % m))) in
      let P : ℕ → Type 0 = λ w. SpansKernel o (length rows) w rows found in
      let Q : ℕ → Type 0 = λ h. SpansKernel o h m rows found in
      let R : List (List E) → Type 0 = λ a. SpansKernel o (m * m) m a found in
      let s = subst R e (subst Q long (subst P wide spans)) v tuple in
      let k = kernel-central m cs constants v tuple in
      (λ h. k.0 (s.0 h), λ h. s.1 (k.1 h))
