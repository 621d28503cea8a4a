-- What annihilates the annihilator of a subspace is the subspace again, and a basis of it in reduced row echelon form
-- sends the basis elements at its pivots to the basis elements.
use Rattle.std.specs.Prelude.{◌≡◌, ◌<◌, ℕ, List, [], length, get_or, cond, nat_eq}
use Rattle.std.proofs.Common.{refl, sym, ◌∙◌, ap, arith}
use Rattle.theory_rings.specs.Ops.{Ops, IsElem, FieldLaws}
use Rattle.theory_rings.specs.Elements.{Elem, elements}
use Rattle.theory_rings.specs.Sum.{sum_of, table, at}
use Rattle.theory_rings.proofs.Rings.Elements.{at-elem, sum_of-elem, sum_of_congr}
use Rattle.theory_rings.proofs.Sums.Lists.{table_congr}
use Rattle.theory_rings.proofs.Rings.Solver.{◌⊞◌, ◌⊠◌, minus, ring2, ring3}
use Rattle.theory_spaces.specs.Tuples.{IsTuple, basis}
use Rattle.theory_spaces.proofs.Tuples.Tuples.{IsTuple-table, at-table}
use Rattle.theory_tables.specs.Matrix.{entry, IsMatrix, image}
use Rattle.theory_tables.specs.Subspace.{InSpan, IsKilled, SpansKernel, IsReducedBasis}
use Rattle.theory_tables.proofs.Rows.Terms.{cond_either, mul-zero, add-neg}
use Rattle.theory_tables.proofs.Rows.Sums.{sum_of-add, sum_of_zeros, mul-sum_of, sum_of_comm, sums_assoc, entry-elem}
use Rattle.theory_tables.proofs.Rows.Sums.{sum_of-delta_mul}
use Rattle.theory_tables.proofs.Rows.Spans.{InSpan-by, InSpan-member}
use Rattle.spl_matrix.proofs.ReducedBases.{cond_flip}

module _ {E : Type 0} (o : Ops E) (L : FieldLaws o) (m : ℕ) where
  -- 1 where k is i, and else 0
  abbrev d : ℕ → ℕ → E
  d k i = cond (nat_eq k i) o.one o.zero

  d-elem : (k i : ℕ) → IsElem o (d k i)
  d-elem k i = cond_either (IsElem o) (nat_eq k i) o.one o.zero L.one-elem L.zero-elem

  pick : (i : ℕ) (z : ℕ → E) → ((k : ℕ) → IsElem o (z k)) → i < m → sum_of o m (λ k. o.mul (z k) (d k i)) ≡ z i
  pick i z hz l = sum_of_congr o m (λ k. o.mul (z k) (d k i)) (λ k. o.mul (d k i) (z k))
      (λ k _. L.mul_comm (z k) (d k i) (hz k) (d-elem k i))
      ∙ sum_of-delta_mul o L m i z hz l

  module _ (rows : List (List E)) (is_basis : IsReducedBasis o m rows) where
    abbrev r : ℕ
    r = length rows

    abbrev p : ℕ → ℕ
    p t = get_or is_basis.pivots t 0

    e-in : (i j : ℕ) → IsElem o (entry o rows i j)
    e-in = entry-elem o L m rows is_basis.shape

    p-in : (t : ℕ) → t < r → p t < m
    p-in t t_in = let each = is_basis.each in is_basis.reduced.below t (omega arith)

    -- what the basis of the subspace takes away from the basis element j
    part : ℕ → ℕ → E
    part j k = sum_of o r (λ t. o.mul (entry o rows t j) (d k (p t)))

    part-elem : (j k : ℕ) → IsElem o (part j k)
    unfolding part
    part-elem j k = sum_of-elem o L r (λ t. o.mul (entry o rows t j) (d k (p t)))
        (λ t _. L.mul-elem (entry o rows t j) (d k (p t)) (e-in t j) (d-elem k (p t)))

    -- the basis element j without it
    rest : ℕ → ℕ → E
    rest j k = o.add (d k j) (o.neg (part j k))

    rest-elem : (j k : ℕ) → IsElem o (rest j k)
    unfolding rest
    rest-elem j k = L.add-elem (d k j) (o.neg (part j k)) (d-elem k j) (L.neg-elem (part j k) (part-elem j k))

    -- the items of z at the pivots, times column j
    at_pivots : (ℕ → E) → ℕ → E
    at_pivots z j = sum_of o r (λ t. o.mul (entry o rows t j) (z (p t)))

    pair-part : (z : ℕ → E) → ((k : ℕ) → IsElem o (z k)) → (j : ℕ)
        → sum_of o m (λ k. o.mul (z k) (part j k)) ≡ at_pivots z j
    unfolding part at_pivots
    pair-part z hz j =
        let term : ℕ → ℕ → E = λ k t. o.mul (z k) (o.mul (entry o rows t j) (d k (p t))) in
        let term_in : (k t : ℕ) → IsElem o (term k t) = λ k t. L.mul-elem (z k) (o.mul (entry o rows t j) (d k (p t)))
        (hz k) (L.mul-elem (entry o rows t j) (d k (p t)) (e-in t j) (d-elem k (p t))) in
        sum_of_congr o m (λ k. o.mul (z k) (part j k)) (λ k. sum_of o r (term k))
        (λ k _. mul-sum_of o L r (z k) (λ t. o.mul (entry o rows t j) (d k (p t))) (hz k)
        (λ t. L.mul-elem (entry o rows t j) (d k (p t)) (e-in t j) (d-elem k (p t))))
        ∙ sum_of_comm o L m r term term_in
        ∙ sum_of_congr o r (λ t. sum_of o m (λ k. term k t)) (λ t. o.mul (entry o rows t j) (z (p t))) (λ t t_in.
        sum_of_congr o m (λ k. term k t) (λ k. o.mul (entry o rows t j) (o.mul (z k) (d k (p t)))) (λ k _.
        ap (λ (x : Elem o). x.0) (ring3 (elements o L).cring (λ z e d. (z ⊠ (e ⊠ d), e ⊠ (z ⊠ d))) refl
        (z k, hz k) (entry o rows t j, e-in t j) (d k (p t), d-elem k (p t))))
        ∙ sym (mul-sum_of o L m (entry o rows t j) (λ k. o.mul (z k) (d k (p t))) (e-in t j)
        (λ k. L.mul-elem (z k) (d k (p t)) (hz k) (d-elem k (p t))))
        ∙ ap (o.mul (entry o rows t j)) (pick (p t) z hz (p-in t t_in)))

    pair-rest : (z : ℕ → E) → ((k : ℕ) → IsElem o (z k)) → (j : ℕ) → j < m
        → o.add (sum_of o m (λ k. o.mul (z k) (rest j k))) (at_pivots z j) ≡ z j
    unfolding rest
    pair-rest z hz j j_in =
        let here : ℕ → E = λ k. o.mul (z k) (rest j k) in
        let gone : ℕ → E = λ k. o.mul (z k) (part j k) in
        let here_in : (k : ℕ) → IsElem o (here k) = λ k. L.mul-elem (z k) (rest j k) (hz k) (rest-elem j k) in
        let gone_in : (k : ℕ) → IsElem o (gone k) = λ k. L.mul-elem (z k) (part j k) (hz k) (part-elem j k) in
        ap (o.add (sum_of o m here)) (sym (pair-part z hz j))
        ∙ sym (sum_of-add o L m here gone here_in gone_in)
        ∙ sum_of_congr o m (λ k. o.add (here k) (gone k)) (λ k. o.mul (z k) (d k j)) (λ k _.
        ap (λ (x : Elem o). x.0) (ring3 (elements o L).cring (λ z d g. (z ⊠ (d ⊞ minus g) ⊞ z ⊠ g, z ⊠ d)) refl
        (z k, hz k) (d k j, d-elem k j) (part j k, part-elem j k)))
        ∙ pick j z hz j_in

    -- a row of the subspace is the combination of the rows by its items at the pivots
    row-at_pivots : (i j : ℕ) → i < r → at_pivots (entry o rows i) j ≡ entry o rows i j
    unfolding at_pivots
    row-at_pivots i j i_in =
        let each = is_basis.each in
        sum_of_congr o r (λ t. o.mul (entry o rows t j) (entry o rows i (p t)))
        (λ t. o.mul (d t i) (entry o rows t j)) (λ t t_in.
        ap (o.mul (entry o rows t j)) (is_basis.reduced.unit t i (omega arith) i_in ∙ cond_flip i t o.one o.zero)
        ∙ L.mul_comm (entry o rows t j) (d t i) (e-in t j) (d-elem t i))
        ∙ sum_of-delta_mul o L r i (λ t. entry o rows t j) (λ t. e-in t j) i_in

    zero_of_add : (x y : E) → IsElem o x → IsElem o y → o.add x y ≡ y → x ≡ o.zero
    zero_of_add x y hx hy e =
        ap (λ (x : Elem o). x.0) (ring2 (elements o L).cring (λ x y. (x, (x ⊞ y) ⊞ minus y)) refl (x, hx) (y, hy))
        ∙ ap (λ z. o.add z (o.neg y)) e ∙ add-neg o L y hy

    -- the rows send it to 0
    rest-killed : (j : ℕ) → j < m → IsKilled o r m rows (table m (rest j))
    rest-killed j j_in i i_in =
        let row : ℕ → E = entry o rows i in
        let h = pair-rest row (e-in i) j j_in in
        let paired = sum_of o m (λ k. o.mul (row k) (rest j k)) in
        sum_of_congr o m (λ k. o.mul (row k) (at o (table m (rest j)) k)) (λ k. o.mul (row k) (rest j k))
        (λ k k_in. ap (o.mul (row k)) (at-table o m (rest j) k k_in))
        ∙ zero_of_add paired (row j)
        (sum_of-elem o L m (λ k. o.mul (row k) (rest j k))
        (λ k _. L.mul-elem (row k) (rest j k) (e-in i k) (rest-elem j k)))
        (e-in i j) (ap (o.add paired) (sym (row-at_pivots i j i_in)) ∙ h)

    module _ (killers : List (List E)) (shape : IsMatrix o m killers) (kernel : SpansKernel o r m rows killers) where
      abbrev n : ℕ
      n = length killers

      -- a row and a column that a matrix sends to 0, the other way round
      turned : (a b : List E) → IsTuple o m a → IsTuple o m b
          → sum_of o m (λ j. o.mul (at o a j) (at o b j)) ≡ sum_of o m (λ j. o.mul (at o b j) (at o a j))
      turned a b ha hb = sum_of_congr o m (λ j. o.mul (at o a j) (at o b j)) (λ j. o.mul (at o b j) (at o a j))
          (λ j _. L.mul_comm (at o a j) (at o b j) (at-elem o L a ha.of_elements j) (at-elem o L b hb.of_elements j))

      -- the subspace is killed
      killed_of_span : (v : List E) → IsTuple o m v → InSpan o m rows v → IsKilled o n m killers v
      killed_of_span v tuple s i i_in =
          let k = get_or killers i [] in
          let k_tuple = shape i [] i_in in
          let k_in = at-elem o L k k_tuple.of_elements in
          let c_in = at-elem o L s.0 s.1.of_elements in
          let dead = (kernel k k_tuple).0 (InSpan-member o L m killers shape i i_in) in
          turned k v k_tuple tuple
          ∙ sum_of_congr o m (λ j. o.mul (at o v j) (at o k j))
          (λ j. o.mul (sum_of o r (λ t. o.mul (at o s.0 t) (entry o rows t j))) (at o k j))
          (λ j j_in. ap (λ x. o.mul x (at o k j)) (s.2 j j_in))
          ∙ sums_assoc o L r m (at o s.0) (entry o rows) (at o k) c_in e-in k_in
          ∙ sum_of_congr o r (λ t. o.mul (at o s.0 t) (sum_of o m (λ j. o.mul (entry o rows t j) (at o k j))))
          (λ _. o.zero) (λ t t_in. ap (o.mul (at o s.0 t)) (dead t t_in) ∙ mul-zero o L (at o s.0 t) (c_in t))
          ∙ sum_of_zeros o L r

      -- what is killed is in it
      span_of_killed : (v : List E) → IsTuple o m v → IsKilled o n m killers v → InSpan o m rows v
      unfolding at_pivots
      span_of_killed v tuple killed =
          let v_in = at-elem o L v tuple.of_elements in
          InSpan-by o L m rows v (λ t. at o v (p t)) (λ t. v_in (p t)) (λ j j_in.
          let k = table m (rest j) in
          let k_tuple = IsTuple-table o m (rest j) (λ k _. rest-elem j k) in
          let s = (kernel k k_tuple).1 (rest-killed j j_in) in
          let c_in = at-elem o L s.0 s.1.of_elements in
          let zero : sum_of o m (λ k. o.mul (at o v k) (rest j k)) ≡ o.zero =
          sum_of_congr o m (λ k. o.mul (at o v k) (rest j k)) (λ i. o.mul (at o v i) (at o k i))
          (λ i i_in. ap (o.mul (at o v i)) (sym (at-table o m (rest j) i i_in)))
          ∙ turned v k tuple k_tuple
          ∙ sum_of_congr o m (λ i. o.mul (at o k i) (at o v i))
          (λ i. o.mul (sum_of o n (λ t. o.mul (at o s.0 t) (entry o killers t i))) (at o v i))
          (λ i i_in. ap (λ x. o.mul x (at o v i)) (s.2 i i_in))
          ∙ sums_assoc o L n m (at o s.0) (entry o killers) (at o v) c_in (entry-elem o L m killers shape) v_in
          ∙ sum_of_congr o n (λ t. o.mul (at o s.0 t) (sum_of o m (λ i. o.mul (entry o killers t i) (at o v i))))
          (λ _. o.zero) (λ t t_in. ap (o.mul (at o s.0 t)) (killed t t_in) ∙ mul-zero o L (at o s.0 t) (c_in t))
          ∙ sum_of_zeros o L n in
          let sums = at_pivots (at o v) j in
          let sums_in : IsElem o sums = sum_of-elem o L r (λ t. o.mul (entry o rows t j) (at o v (p t)))
          (λ t _. L.mul-elem (entry o rows t j) (at o v (p t)) (e-in t j) (v_in (p t))) in
          sym (pair-rest (at o v) v_in j j_in) ∙ ap (λ x. o.add x sums) zero ∙ L.zero-add sums sums_in
          ∙ sum_of_congr o r (λ t. o.mul (entry o rows t j) (at o v (p t)))
          (λ t. o.mul (at o v (p t)) (entry o rows t j))
          (λ t _. L.mul_comm (entry o rows t j) (at o v (p t)) (e-in t j) (v_in (p t))))

      pub double_annihilator : SpansKernel o n m killers rows
      double_annihilator v tuple = (killed_of_span v tuple, span_of_killed v tuple)

    -- the rows send the basis element at the pivot s to the basis element s
    pub image-pivot : (s : ℕ) → s < r → image o r m rows (basis o m (p s)) ≡ basis o r s
    image-pivot s s_in =
        let each = is_basis.each in
        table_congr r (λ i. sum_of o m (λ k. o.mul (entry o rows i k) (at o (basis o m (p s)) k)))
        (λ i. d i s) (λ i i_in.
        sum_of_congr o m (λ k. o.mul (entry o rows i k) (at o (basis o m (p s)) k))
        (λ k. o.mul (entry o rows i k) (d k (p s)))
        (λ k k_in. ap (o.mul (entry o rows i k)) (at-table o m (λ k. d k (p s)) k k_in))
        ∙ pick (p s) (entry o rows i) (e-in i) (p-in s s_in)
        ∙ is_basis.reduced.unit s i (omega arith) i_in)
