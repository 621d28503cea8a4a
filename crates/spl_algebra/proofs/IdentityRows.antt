-- The linear system for an identity: its places, and what its two kinds of solutions show.
use Rattle.std.specs.Prelude.{◌≡◌, ◌+◌, ◌-◌, ◌*◌, ◌/◌, ◌%◌, ◌^◌, ◌<◌, ◌≤◌, ℕ, zero, suc, List, [], ◌∷◌, ◌++◌, length}
use Rattle.std.specs.Prelude.{get_or}
use Rattle.std.specs.Prelude.{take, drop, cond, nat_eq, nat_lt, All}
use Rattle.std.proofs.Common.{refl, sym, ◌∙◌, ap, ap₂, subst, arith, ⊎_elim}
use Rattle.std.proofs.Math.Nat as nat
use Rattle.std.proofs.Math.Seq.{get_or-append_seam}
use Rattle.std.proofs.lemmas.Bool.{cases_lt, lt-ltb, le-ltb, cond-true, cond-false}
use Rattle.std.proofs.lemmas.List.{get_or_append_left, length-append, get_or-take, get_or-drop, length-take-le}
use Rattle.std.proofs.lemmas.List.{length-drop}
use Rattle.std.proofs.lemmas.List.Elements.{All-get_or, All-take, All-drop}
use Rattle.std.proofs.lemmas.Nat.{div-mul-add, mod-mul-add}
use Rattle.theory_rings.specs.Ops.{Ops, IsElem, FieldLaws}
use Rattle.theory_rings.specs.Sum.{at, sum_of, table}
use Rattle.theory_rings.proofs.Rings.Elements.{at-elem, sum_of-elem, sum_of_congr}
use Rattle.theory_rings.proofs.Sums.Lists.{length-table, get_or-table, table_congr}
use Rattle.theory_spaces.specs.Tuples.{IsTuple, tuple_neg, basis, product, constant}
use Rattle.theory_spaces.proofs.Tuples.Tuples.{at-table, IsTuple-table}
use Rattle.theory_spaces.proofs.Matrices.PairIndex.{pair-lt, row-lt, column-lt}
use Rattle.theory_tables.specs.Matrix.{entry, width_of, IsMatrix}
use Rattle.theory_tables.specs.Solve.{IsSolved, IsRefuted}
use Rattle.theory_tables.proofs.Rows.Sums.{sum_of-add, sum_of-next, entry-elem}
use Rattle.theory_tables.proofs.Rows.Spans.{sum_of-split}
use Rattle.theory_tables.proofs.Rows.Terms.{add-zero, zero-mul, mul-zero, mul-one, add-mul, cond_yes, cond_no}
use Rattle.theory_tables.specs.Conditions.{multiplier_at, MultipliersAnnihilate, MultipliersRefute}
use Rattle.theory_tables.specs.Algebras.{IsIdentity}
use Rattle.theory_tables.specs.Claims.{NoIdentityClaim}
use Rattle.theory_tables.specs.Structure.{Structure}
use Rattle.spl_algebra.specs.IdentitySystem.{constant_place, unit_item, constant_row, unit_row, IsIdentitySystem}
use Rattle.spl_algebra.specs.IdentitySystem.{ListsMultipliers}
use Rattle.spl_algebra.specs.Products.{sum_of_rows}
use Rattle.spl_algebra.proofs.Terms.{sum_of_eq_single, sum_of_eq_zero}
use Rattle.spl_algebra.proofs.Rows.{constant-row, constant-column}
use Rattle.spl_algebra.proofs.BasisRows.{at-basis_same, at-basis_other, product-basis, basis-product}

-- the columns of the system can be counted where the constants can
pub columns-fit : (m : ℕ) → 1 ≤ m → m * m * m < 2 ^ 64 → m * m + m * m < 2 ^ 64
columns-fit m some fits = ⊎_elim
    (λ (few : m < 2).
    let one : m ≡ 1 = omega arith in
    rw one (omega arith))
    (λ (many : 2 ≤ m). omega (arith, nat.mul-le-mul_right (m * m) many))
    (cases_lt m 2)

-- the halves of a tuple
pub IsTuple-take : {E : Type 0} (o : Ops E) (n : ℕ) (xs ys : List E) → IsTuple o (n + n) xs → ys ≡ take n xs
    → IsTuple o n ys
IsTuple-take o n xs ys t e = record {
  right_length = ap length e ∙ length-take-le n xs (omega (arith, t.right_length));
  of_elements = rw e (All-take (IsElem o) n xs t.of_elements);
}

pub IsTuple-drop : {E : Type 0} (o : Ops E) (n : ℕ) (xs ys : List E) → IsTuple o (n + n) xs → ys ≡ drop n xs
    → IsTuple o n ys
IsTuple-drop o n xs ys t e = record {
  right_length = omega (arith, ap length e, length-drop n xs, t.right_length);
  of_elements = rw e (All-drop (IsElem o) n xs t.of_elements);
}

pub right_place-within : (m i c : ℕ) → i < m → c < m * m + m * m
    → ((c - m * m) / m * m + i) * m + (c - m * m) % m < m * m * m
right_place-within m i c h l =
    let pair : c - m * m < m * m = omega arith in
    let row : (c - m * m) / m * m + i < m * m = pair-lt m m ((c - m * m) / m) i (row-lt m m (c - m * m) pair) h in
    pair-lt (m * m) m ((c - m * m) / m * m + i) ((c - m * m) % m) row (column-lt m m (c - m * m) pair)

pub constant_place-within : (m i c : ℕ) → i < m → c < m * m + m * m → constant_place m i c < m * m * m
constant_place-within m i c h l = ⊎_elim
    (λ (k : c < m * m).
    subst (λ x. x < m * m * m)
    (sym (cond-true (nat_lt c (m * m)) (i * (m * m) + c) (((c - m * m) / m * m + i) * m + (c - m * m) % m)
    (lt-ltb c (m * m) k)))
    (omega (arith, pair-lt m (m * m) i c h k)))
    (λ (k : m * m ≤ c).
    subst (λ x. x < m * m * m)
    (sym (cond-false (nat_lt c (m * m)) (i * (m * m) + c) (((c - m * m) / m * m + i) * m + (c - m * m) % m)
    (le-ltb c (m * m) k)))
    (right_place-within m i c h l))
    (cases_lt c (m * m))

pub constant_place-left : (m i j k : ℕ) → j < m → k < m → constant_place m i (j * m + k) ≡ (i * m + j) * m + k
constant_place-left m i j k hj hk =
    let c : ℕ = j * m + k in
    cond-true (nat_lt c (m * m)) (i * (m * m) + c) (((c - m * m) / m * m + i) * m + (c - m * m) % m)
    (lt-ltb c (m * m) (pair-lt m m j k hj hk))
    ∙ (let e : i * (m * m) + (j * m + k) ≡ (i * m + j) * m + k = omega arith in e)

pub constant_place-right : (m i j k : ℕ) → j < m → k < m
    → constant_place m i (m * m + (j * m + k)) ≡ (j * m + i) * m + k
constant_place-right m i j k hj hk =
    let c : ℕ = m * m + (j * m + k) in
    let back : c - m * m ≡ j * m + k = omega arith in
    cond-false (nat_lt c (m * m)) (i * (m * m) + c) (((c - m * m) / m * m + i) * m + (c - m * m) % m)
    (le-ltb c (m * m) (omega arith))
    ∙ ap (λ p. (p / m * m + i) * m + p % m) back
    ∙ ap₂ (λ x y. (x * m + i) * m + y) (div-mul-add j m k hk) (mod-mul-add j m k hk)

module _ {E : Type 0} (o : Ops E) (m : ℕ) where
  pub unit_item-left : (j k : ℕ) → j < m → k < m → unit_item o m (j * m + k) ≡ cond (nat_eq k j) o.one o.zero
  unit_item-left j k hj hk =
      ap (λ p. cond (nat_eq (p % m) (p / m)) o.one o.zero) (nat.mod-eq_of_lt (pair-lt m m j k hj hk))
      ∙ ap₂ (λ x y. cond (nat_eq x y) o.one o.zero) (mod-mul-add j m k hk) (div-mul-add j m k hk)

  pub unit_item-right : (j k : ℕ) → j < m → k < m → unit_item o m (m * m + (j * m + k)) ≡ cond (nat_eq k j) o.one o.zero
  unit_item-right j k hj hk =
      ap (λ p. cond (nat_eq (p % m) (p / m)) o.one o.zero) (nat.add-mod_left (m * m) (j * m + k))
      ∙ unit_item-left j k hj hk

module _ {E : Type 0} (o : Ops E) (L : FieldLaws o) where
  -- a sum over n·m numbers, row by row
  pub sum_of_pairs : (n m : ℕ) (f : ℕ → E) → ((k : ℕ) → IsElem o (f k))
      → sum_of o (n * m) f ≡ sum_of o n (λ i. sum_of o m (λ j. f (i * m + j)))
  sum_of_pairs zero m f h = let e : 0 * m ≡ 0 = omega arith in ap (λ c. sum_of o c f) e
  sum_of_pairs (suc n) m f h =
      let e : suc n * m ≡ n * m + m = omega arith in
      ap (λ c. sum_of o c f) e ∙ sum_of-split o L (n * m) m f h
      ∙ ap (λ x. o.add x (sum_of o m (λ j. f (n * m + j)))) (sum_of_pairs n m f h)

  -- a sum over two halves of m·m numbers
  pub sum_of_halves : (m : ℕ) (f : ℕ → E) → ((k : ℕ) → IsElem o (f k))
      → sum_of o (m * m + m * m) f ≡ sum_of o m (λ j. sum_of o m (λ k. o.add (f (j * m + k)) (f (m * m + (j * m + k)))))
  sum_of_halves m f h =
      sum_of-split o L (m * m) (m * m) f h
      ∙ sym (sum_of-add o L (m * m) f (λ c. f (m * m + c)) h (λ c. h (m * m + c)))
      ∙ sum_of_pairs m m (λ c. o.add (f c) (f (m * m + c)))
      (λ c. L.add-elem (f c) (f (m * m + c)) (h c) (h (m * m + c)))

  -- where a sum and y are 0 together, y is the sum with opposite signs
  pub opposite_sum : (n : ℕ) (u x : ℕ → E) (y : E) → ((i : ℕ) → IsElem o (u i)) → ((i : ℕ) → IsElem o (x i))
      → IsElem o y
      → o.add (sum_of o n (λ i. o.mul (u i) (x i))) y ≡ o.zero → sum_of o n (λ i. o.mul (o.neg (u i)) (x i)) ≡ y
  opposite_sum n u x y hu hx hy e =
      let s : E = sum_of o n (λ i. o.mul (u i) (x i)) in
      let t : E = sum_of o n (λ i. o.mul (o.neg (u i)) (x i)) in
      let hs : IsElem o s = sum_of-elem o L n (λ i. o.mul (u i) (x i)) (λ i _. L.mul-elem (u i) (x i) (hu i) (hx i)) in
      let negative : (i : ℕ) → IsElem o (o.neg (u i)) = λ i. L.neg-elem (u i) (hu i) in
      let ht : IsElem o t =
      sum_of-elem o L n (λ i. o.mul (o.neg (u i)) (x i))
      (λ i _. L.mul-elem (o.neg (u i)) (x i) (negative i) (hx i)) in
      let cancel : o.add t s ≡ o.zero =
      sym (sum_of-add o L n (λ i. o.mul (o.neg (u i)) (x i)) (λ i. o.mul (u i) (x i))
      (λ i. L.mul-elem (o.neg (u i)) (x i) (negative i) (hx i)) (λ i. L.mul-elem (u i) (x i) (hu i) (hx i)))
      ∙ sum_of_eq_zero o L n (λ i. o.add (o.mul (o.neg (u i)) (x i)) (o.mul (u i) (x i))) (λ i _.
      sym (add-mul o L (o.neg (u i)) (u i) (x i) (negative i) (hu i) (hx i))
      ∙ ap (λ z. o.mul z (x i)) (L.neg-add (u i) (hu i)) ∙ zero-mul o L (x i) (hx i)) in
      sym (add-zero o L t ht) ∙ ap (o.add t) (sym e) ∙ sym (L.add_assoc t s y ht hs hy) ∙ ap (λ z. o.add z y) cancel
      ∙ L.zero-add y hy

  pub identity_system : (m : ℕ) (cs : List E) (before after : List (List E)) (last : List E)
      → before ≡ table m (constant_row o m cs) → last ≡ unit_row o m → after ≡ before ++ last ∷ []
      → IsMatrix o (m * m + m * m) after → IsIdentitySystem o m cs after
  identity_system m cs before after last b l a shape =
      let long : length before ≡ m = ap length b ∙ length-table m (constant_row o m cs) in
      record {
        shape = shape;
        height = omega (arith, ap length a, length-append before (last ∷ []), long);
        constants_at = λ i c hi hc.
            let below : i < length before = omega arith in
            ap (λ rows. entry o rows i c) a
            ∙ ap (λ row. at o row c)
            (get_or_append_left before (last ∷ []) [] i below ∙ ap (λ rows. get_or rows i []) b
            ∙ get_or-table m (constant_row o m cs) i [] hi)
            ∙ get_or-table (m * m + m * m) (λ c. at o cs (constant_place m i c)) c o.zero hc;
        units_at = λ c hc.
            ap (λ rows. entry o rows m c) a
            ∙ ap (λ row. at o row c)
            (ap (λ i. get_or (before ++ last ∷ []) i []) (sym long) ∙ get_or-append_seam before last [] [] ∙ l)
            ∙ get_or-table (m * m + m * m) (unit_item o m) c o.zero hc;
      }

  module _ (m : ℕ) (cs : List E) (elems : All (IsElem o) cs) (rows : List (List E))
      (S : IsIdentitySystem o m cs rows) where
    abbrev A : Structure E
    A = record { dim = m; constants = cs }

    pub system_width : width_of rows ≡ m * m + m * m
    system_width =
        let some : 0 < length rows = omega (arith, S.height) in
        (All-get_or (IsTuple o (m * m + m * m)) rows 0 [] some S.shape).right_length

    -- a solution has two items for each pair of basis elements
    pub solution-tuple : (v w : List E) → IsTuple o (width_of rows) v → w ≡ v → IsTuple o (m * m + m * m) w
    solution-tuple v w t e = subst (λ n. IsTuple o n w) system_width (subst (IsTuple o (width_of rows)) (sym e) t)

    -- what refutes the system has an item for each row
    pub refutation-tuple : (u w : List E) → IsTuple o (length rows) u → w ≡ u → IsTuple o (m + 1) w
    refutation-tuple u w t e = subst (λ n. IsTuple o n w) S.height (subst (IsTuple o (length rows)) (sym e) t)

    left-lt : (j k : ℕ) → j < m → k < m → j * m + k < m * m + m * m
    left-lt j k hj hk = let l : j * m + k < m * m = pair-lt m m j k hj hk in omega arith

    right-lt : (j k : ℕ) → j < m → k < m → m * m + (j * m + k) < m * m + m * m
    right-lt j k hj hk = let l : j * m + k < m * m = pair-lt m m j k hj hk in omega arith

    -- the two halves of a row
    left_entry : (i j k : ℕ) → i < m → j < m → k < m → entry o rows i (j * m + k) ≡ constant o m cs i j k
    left_entry i j k hi hj hk = S.constants_at i (j * m + k) hi (left-lt j k hj hk)
        ∙ ap (at o cs) (constant_place-left m i j k hj hk)

    right_entry : (i j k : ℕ) → i < m → j < m → k < m → entry o rows i (m * m + (j * m + k)) ≡ constant o m cs j i k
    right_entry i j k hi hj hk = S.constants_at i (m * m + (j * m + k)) hi (right-lt j k hj hk)
        ∙ ap (at o cs) (constant_place-right m i j k hj hk)

    left_unit : (j k : ℕ) → j < m → k < m → entry o rows m (j * m + k) ≡ cond (nat_eq k j) o.one o.zero
    left_unit j k hj hk = S.units_at (j * m + k) (left-lt j k hj hk) ∙ unit_item-left o m j k hj hk

    right_unit : (j k : ℕ) → j < m → k < m → entry o rows m (m * m + (j * m + k)) ≡ cond (nat_eq k j) o.one o.zero
    right_unit j k hj hk = S.units_at (m * m + (j * m + k)) (right-lt j k hj hk) ∙ unit_item-right o m j k hj hk

    -- a solution refutes that there is an identity
    pub refutes_identity : (v : List E) (left right : List (ℕ × ℕ × E))
        → IsSolved o (length rows) (width_of rows) rows (basis o (m + 1) m) v
        → ListsMultipliers o m (take (m * m) v) left → ListsMultipliers o m (drop (m * m) v) right
        → NoIdentityClaim o A left right
    refutes_identity v left right s l r = record {
      fits = (l.multipliers, r.multipliers);
      annihilate = annihilate;
      refute = refute;
    }
      where
        of_v : (c : ℕ) → IsElem o (at o v c)
        of_v = at-elem o L v s.tuple.of_elements

        term : ℕ → ℕ → E
        term i c = o.mul (entry o rows i c) (at o v c)

        of_term : (i c : ℕ) → IsElem o (o.mul (entry o rows i c) (at o v c))
        of_term i c = L.mul-elem (entry o rows i c) (at o v c) (entry-elem o L (m * m + m * m) rows S.shape i c)
            (of_v c)

        left_is : (j k : ℕ) → j < m → k < m → multiplier_at o left (j + 1) (k + 1) ≡ at o v (j * m + k)
        left_is j k hj hk = l.multiplier j k hj hk ∙ get_or-take (m * m) v (j * m + k) o.zero (pair-lt m m j k hj hk)

        right_is : (j k : ℕ) → j < m → k < m → multiplier_at o right (j + 1) (k + 1) ≡ at o v (m * m + (j * m + k))
        right_is j k hj hk = r.multiplier j k hj hk ∙ get_or-drop (m * m) v (j * m + k) o.zero

        solves : (i : ℕ) → i < m + 1
            → sum_of o m (λ j. sum_of o m (λ k. o.add (o.mul (entry o rows i (j * m + k)) (at o v (j * m + k)))
            (o.mul (entry o rows i (m * m + (j * m + k))) (at o v (m * m + (j * m + k)))))) ≡ at o (basis o (m + 1) m) i
        solves i h =
            let below : i < length rows = omega (arith, S.height) in
            sym (sum_of_halves m (λ c. o.mul (entry o rows i c) (at o v c)) (of_term i))
            ∙ ap (λ w. sum_of o w (λ c. o.mul (entry o rows i c) (at o v c))) (sym system_width) ∙ s.solves i below

        turned : (x y a b : E) → IsElem o x → IsElem o b → a ≡ x → y ≡ b → o.mul a b ≡ o.mul y x
        turned x y a b hx hb p q = ap (λ z. o.mul z b) p ∙ L.mul_comm x b hx hb ∙ ap (λ z. o.mul z x) (sym q)

        annihilate : MultipliersAnnihilate o A left right
        annihilate i h =
            let next : i < m + 1 = omega arith in
            sum_of_congr o m
            (λ j. sum_of o m (λ k.
            o.add (o.mul (multiplier_at o left (j + 1) (k + 1)) (constant o m cs i j k))
            (o.mul (multiplier_at o right (j + 1) (k + 1)) (constant o m cs j i k))))
            (λ j. sum_of o m (λ k.
            o.add (o.mul (entry o rows i (j * m + k)) (at o v (j * m + k)))
            (o.mul (entry o rows i (m * m + (j * m + k))) (at o v (m * m + (j * m + k))))))
            (λ j hj. sum_of_congr o m
            (λ k. o.add (o.mul (multiplier_at o left (j + 1) (k + 1)) (constant o m cs i j k))
            (o.mul (multiplier_at o right (j + 1) (k + 1)) (constant o m cs j i k)))
            (λ k. o.add (o.mul (entry o rows i (j * m + k)) (at o v (j * m + k)))
            (o.mul (entry o rows i (m * m + (j * m + k))) (at o v (m * m + (j * m + k)))))
            (λ k hk. ap₂ o.add
            (turned (at o v (j * m + k)) (entry o rows i (j * m + k)) (multiplier_at o left (j + 1) (k + 1))
            (constant o m cs i j k)
            (of_v (j * m + k)) (at-elem o L cs elems ((i * m + j) * m + k)) (left_is j k hj hk)
            (left_entry i j k h hj hk))
            (turned (at o v (m * m + (j * m + k))) (entry o rows i (m * m + (j * m + k)))
            (multiplier_at o right (j + 1) (k + 1)) (constant o m cs j i k)
            (of_v (m * m + (j * m + k))) (at-elem o L cs elems ((j * m + i) * m + k)) (right_is j k hj hk)
            (right_entry i j k h hj hk))))
            ∙ solves i next
            ∙ at-basis_other o (m + 1) m i next (λ e. omega arith)

        unit_term : (x u : E) → IsElem o x → u ≡ o.one → o.mul u x ≡ x
        unit_term x u h e = ap (λ z. o.mul z x) e ∙ L.one-mul x h

        zero_term : (x u : E) → IsElem o x → u ≡ o.zero → o.mul u x ≡ o.zero
        zero_term x u h e = ap (λ z. o.mul z x) e ∙ zero-mul o L x h

        diagonal : (j : ℕ) → j < m → sum_of o m (λ k. o.add (o.mul (entry o rows m (j * m + k)) (at o v (j * m + k)))
            (o.mul (entry o rows m (m * m + (j * m + k))) (at o v (m * m + (j * m + k))))) ≡ o.add
            (at o v (j * m + j)) (at o v (m * m + (j * m + j)))
        diagonal j hj =
            sum_of_eq_single o L m j
            (λ k. o.add (o.mul (entry o rows m (j * m + k)) (at o v (j * m + k)))
            (o.mul (entry o rows m (m * m + (j * m + k))) (at o v (m * m + (j * m + k))))) hj
            (L.add-elem (o.mul (entry o rows m (j * m + j)) (at o v (j * m + j)))
            (o.mul (entry o rows m (m * m + (j * m + j))) (at o v (m * m + (j * m + j))))
            (of_term m (j * m + j)) (of_term m (m * m + (j * m + j))))
            (λ k hk d. ap₂ o.add
            (zero_term (at o v (j * m + k)) (entry o rows m (j * m + k)) (of_v (j * m + k))
            (left_unit j k hj hk ∙ cond_no k j o.one o.zero d))
            (zero_term (at o v (m * m + (j * m + k))) (entry o rows m (m * m + (j * m + k)))
            (of_v (m * m + (j * m + k))) (right_unit j k hj hk ∙ cond_no k j o.one o.zero d))
            ∙ L.zero-add o.zero L.zero-elem)
            ∙ ap₂ o.add
            (unit_term (at o v (j * m + j)) (entry o rows m (j * m + j)) (of_v (j * m + j))
            (left_unit j j hj hj ∙ cond_yes j j o.one o.zero refl))
            (unit_term (at o v (m * m + (j * m + j))) (entry o rows m (m * m + (j * m + j)))
            (of_v (m * m + (j * m + j))) (right_unit j j hj hj ∙ cond_yes j j o.one o.zero refl))

        refute : MultipliersRefute o A left right
        refute =
            let next : m < m + 1 = omega arith in
            sum_of_congr o m (λ j. o.add (multiplier_at o left (j + 1) (j + 1)) (multiplier_at o right (j + 1) (j + 1)))
            (λ j. sum_of o m (λ k.
            o.add (o.mul (entry o rows m (j * m + k)) (at o v (j * m + k)))
            (o.mul (entry o rows m (m * m + (j * m + k))) (at o v (m * m + (j * m + k))))))
            (λ j hj. ap₂ o.add (left_is j j hj hj) (right_is j j hj hj) ∙ sym (diagonal j hj))
            ∙ solves m next
            ∙ at-basis_same o (m + 1) m next

    -- what refutes that there is a solution is the opposite of an identity
    pub opposite_is_one : (u : List E) → IsRefuted o (length rows) (width_of rows) rows (basis o (m + 1) m) u
        → IsIdentity o A (tuple_neg o m u)
    opposite_is_one u r = record {
      tuple = IsTuple-table o m (λ i. o.neg (at o u i)) (λ i _. L.neg-elem (at o u i) (of_u i));
      one-mul = one-mul;
      mul-one = mul-one;
    }
      where
        of_u : (i : ℕ) → IsElem o (at o u i)
        of_u = at-elem o L u r.tuple.of_elements

        opposite : List E
        opposite = tuple_neg o m u

        last_is : at o u m ≡ o.one
        last_is =
            let next : m < m + 1 = omega arith in
            let unit_at : o.mul (at o u m) (at o (basis o (m + 1) m) m) ≡ at o u m =
            ap (o.mul (at o u m)) (at-basis_same o (m + 1) m next) ∙ mul-one o L (at o u m) (of_u m) in
            sym unit_at
            ∙ sym (sum_of_eq_single o L (m + 1) m (λ i. o.mul (at o u i) (at o (basis o (m + 1) m) i)) next
            (subst (IsElem o) (sym unit_at) (of_u m))
            (λ i l d. ap (o.mul (at o u i)) (at-basis_other o (m + 1) m i l d) ∙ mul-zero o L (at o u i) (of_u i)))
            ∙ ap (λ h. sum_of o h (λ i. o.mul (at o u i) (at o (basis o (m + 1) m) i))) (sym S.height)
            ∙ r.refutes

        solved : (c : ℕ) → c < m * m + m * m
            → sum_of o m (λ i. o.mul (o.neg (at o u i)) (at o cs (constant_place m i c))) ≡ entry o rows m c
        solved c h =
            let of_entry = entry-elem o L (m * m + m * m) rows S.shape m c in
            opposite_sum m (at o u) (λ i. at o cs (constant_place m i c)) (entry o rows m c) of_u
            (λ i. at-elem o L cs elems (constant_place m i c)) of_entry
            (ap₂ o.add
            (sum_of_congr o m (λ i. o.mul (at o u i) (at o cs (constant_place m i c)))
            (λ i. o.mul (at o u i) (entry o rows i c))
            (λ i hi. ap (o.mul (at o u i)) (sym (S.constants_at i c hi h))))
            (sym (ap (λ z. o.mul z (entry o rows m c)) last_is ∙ L.one-mul (entry o rows m c) of_entry))
            ∙ sym (sum_of-next o m (λ i. o.mul (at o u i) (entry o rows i c)))
            ∙ ap (λ n. sum_of o n (λ i. o.mul (at o u i) (entry o rows i c))) (sym S.height)
            ∙ r.kills c (subst (λ w. c < w) (sym system_width) h))

        opposite_elems : All (IsElem o) (tuple_neg o m u)
        opposite_elems = (IsTuple-table o m (λ i. o.neg (at o u i)) (λ i _. L.neg-elem (at o u i) (of_u i))).of_elements

        one-mul : (j : ℕ) → j < m → product o m cs (tuple_neg o m u) (basis o m j) ≡ basis o m j
        one-mul j hj =
            product-basis o L m cs elems (tuple_neg o m u) j opposite_elems hj
            ∙ table_congr m (sum_of_rows o m (tuple_neg o m u) (drop (j * m) cs) (m * m))
            (λ k. cond (nat_eq k j) o.one o.zero)
            (λ k hk.
            sum_of_congr o m (λ l. o.mul (at o (tuple_neg o m u) l) (at o (drop (j * m) cs) (l * (m * m) + k)))
            (λ l. o.mul (o.neg (at o u l)) (at o cs (constant_place m l (j * m + k))))
            (λ l hl. ap₂ o.mul (at-table o m (λ i. o.neg (at o u i)) l hl)
            (sym (constant-column o m cs l j k) ∙ ap (at o cs) (sym (constant_place-left m l j k hj hk))))
            ∙ solved (j * m + k) (left-lt j k hj hk)
            ∙ left_unit j k hj hk)

        mul-one : (j : ℕ) → j < m → product o m cs (basis o m j) (tuple_neg o m u) ≡ basis o m j
        mul-one j hj =
            basis-product o L m cs elems (tuple_neg o m u) j opposite_elems hj
            ∙ table_congr m (sum_of_rows o m (tuple_neg o m u) (drop (j * m * m) cs) m)
            (λ k. cond (nat_eq k j) o.one o.zero)
            (λ k hk.
            sum_of_congr o m (λ l. o.mul (at o (tuple_neg o m u) l) (at o (drop (j * m * m) cs) (l * m + k)))
            (λ l. o.mul (o.neg (at o u l)) (at o cs (constant_place m l (m * m + (j * m + k)))))
            (λ l hl. ap₂ o.mul (at-table o m (λ i. o.neg (at o u i)) l hl)
            (sym (constant-row o m cs j l k) ∙ ap (at o cs) (sym (constant_place-right m l j k hj hk))))
            ∙ solved (m * m + (j * m + k)) (right-lt j k hj hk)
            ∙ right_unit j k hj hk)
