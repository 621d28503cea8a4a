-- Sums over the first multipliers of a list, and over two lists.
use Rattle.std.specs.Prelude.{◌≡◌, ◌≢◌, ◌+◌, ◌*◌, ◌-◌, ◌<◌, ◌≤◌, ◌==◌, ℕ}
use Rattle.std.specs.Prelude.{suc, List, [], ◌∷◌, ◌++◌, length, get_or, take, cond}
use Rattle.std.proofs.Common.{sym, ◌∙◌, ap, subst, arith, ⊎_elim}
use Rattle.std.proofs.Math.Seq.{take-suc, take-length}
use Rattle.std.proofs.lemmas.Bool.{cases_eq, eq-eqb, ne_eqb}
use Rattle.std.proofs.lemmas.List.{get_or-take, get_or_default, length-take-le}
use Rattle.theory_rings.specs.Ops.{Ops, IsElem, FieldLaws}
use Rattle.theory_rings.specs.Sum.{sum_of}
use Rattle.theory_rings.proofs.Rings.Elements.{at-elem, sum_of-elem, sum_of_congr}
use Rattle.theory_spaces.specs.Tuples.{constant}
use Rattle.theory_tables.specs.Structure.{Structure, IsOver}
use Rattle.theory_tables.specs.Claims.{AreMultipliers}
use Rattle.theory_tables.specs.Conditions.{multiplier_at}
use Rattle.theory_tables.specs.MultiplierSums.{weighted_sum, diagonal_sum}
use Rattle.theory_tables.proofs.Rows.Terms.{add-zero, zero-mul}
use Rattle.theory_tables.proofs.Rows.Sums.{sum_of-add, sum_of_zeros}
use Rattle.theory_tables.proofs.Rows.MultiplierSums.{OfElements, IsAbsent, multiplier_at-elem}
use Rattle.theory_tables.proofs.Rows.MultiplierSums.{weighted_sum-more, diagonal_sum-more, diagonal_sum-other}

module _ {E : Type 0} (o : Ops E) (m : ℕ) where
  -- the numbers of an item and its multiplier
  pub record ItemFits (x : ℕ × ℕ × E) : Type 0 where
    pub first_low : 1 ≤ x.0
    pub first_high : x.0 ≤ m
    pub second_low : 1 ≤ x.1
    pub second_high : x.1 ≤ m
    pub of_field : IsElem o x.2

module _ {E : Type 0} (o : Ops E) (L : FieldLaws o) (m : ℕ) where
  abbrev Item : Type 0
  Item = ℕ × ℕ × E

  abbrev blank : Item
  blank = (0, 0, o.zero)

  -- of no multipliers
  pub weighted_sum-none : (c : ℕ → ℕ → E) → ((j k : ℕ) → IsElem o (c j k)) → weighted_sum o m [] c ≡ o.zero
  weighted_sum-none c hc =
      sum_of_congr o m (λ j. sum_of o m (λ k. o.mul o.zero (c j k))) (λ _. o.zero) (λ j _.
      sum_of_congr o m (λ k. o.mul o.zero (c j k)) (λ _. o.zero) (λ k _. zero-mul o L (c j k) (hc j k))
      ∙ sum_of_zeros o L m)
      ∙ sum_of_zeros o L m

  pub diagonal_sum-none : diagonal_sum o m [] ≡ o.zero
  diagonal_sum-none = sum_of_zeros o L m

  -- a sum to which nothing was added yet
  pub weighted_sum-begin : (c : ℕ → ℕ → E) → ((j k : ℕ) → IsElem o (c j k)) → (sum : E) → IsElem o sum
      → sum ≡ o.add sum (weighted_sum o m [] c)
  weighted_sum-begin c hc sum hs = sym (ap (o.add sum) (weighted_sum-none c hc) ∙ add-zero o L sum hs)

  pub diagonal_sum-begin : (sum : E) → IsElem o sum → sum ≡ o.add sum (diagonal_sum o m [])
  diagonal_sum-begin sum hs = sym (ap (o.add sum) diagonal_sum-none ∙ add-zero o L sum hs)

  weighted_sum-elem : (list : List Item) → OfElements o L list → (c : ℕ → ℕ → E) → ((j k : ℕ) → IsElem o (c j k))
      → IsElem o (weighted_sum o m list c)
  weighted_sum-elem list h c hc =
      sum_of-elem o L m (λ j. sum_of o m (λ k. o.mul (multiplier_at o list (j + 1) (k + 1)) (c j k))) (λ j _.
      sum_of-elem o L m (λ k. o.mul (multiplier_at o list (j + 1) (k + 1)) (c j k)) (λ k _.
      L.mul-elem _ _ (multiplier_at-elem o L list h (j + 1) (k + 1)) (hc j k)))

  diagonal_sum-elem : (list : List Item) → OfElements o L list → IsElem o (diagonal_sum o m list)
  diagonal_sum-elem list h = sum_of-elem o L m (λ j. multiplier_at o list (j + 1) (j + 1))
      (λ j _. multiplier_at-elem o L list h (j + 1) (j + 1))

  -- over two lists at once
  pub weighted_sum-both : (left right : List Item) → OfElements o L left → OfElements o L right → (c d : ℕ → ℕ → E)
      → ((j k : ℕ) → IsElem o (c j k)) → ((j k : ℕ) → IsElem o (d j k))
      → sum_of o m (λ j. sum_of o m (λ k. o.add
      (o.mul (multiplier_at o left (j + 1) (k + 1)) (c j k)) (o.mul (multiplier_at o right (j + 1) (k + 1)) (d j k))))
      ≡ o.add (weighted_sum o m left c) (weighted_sum o m right d)
  weighted_sum-both left right hl hr c d hc hd =
      let f : ℕ → ℕ → E = λ j k. o.mul (multiplier_at o left (j + 1) (k + 1)) (c j k) in
      let g : ℕ → ℕ → E = λ j k. o.mul (multiplier_at o right (j + 1) (k + 1)) (d j k) in
      let hf : (j k : ℕ) → IsElem o (f j k) = λ j k.
      L.mul-elem _ _ (multiplier_at-elem o L left hl (j + 1) (k + 1)) (hc j k) in
      let hg : (j k : ℕ) → IsElem o (g j k) = λ j k.
      L.mul-elem _ _ (multiplier_at-elem o L right hr (j + 1) (k + 1)) (hd j k) in
      sum_of_congr o m (λ j. sum_of o m (λ k. o.add (f j k) (g j k)))
      (λ j. o.add (sum_of o m (f j)) (sum_of o m (g j))) (λ j _. sum_of-add o L m (f j) (g j) (hf j) (hg j))
      ∙ sum_of-add o L m (λ j. sum_of o m (f j)) (λ j. sum_of o m (g j))
      (λ j. sum_of-elem o L m (f j) (λ k _. hf j k)) (λ j. sum_of-elem o L m (g j) (λ k _. hg j k))

  pub diagonal_sum-both : (left right : List Item) → OfElements o L left → OfElements o L right
      → sum_of o m (λ j. o.add (multiplier_at o left (j + 1) (j + 1)) (multiplier_at o right (j + 1) (j + 1)))
      ≡ o.add (diagonal_sum o m left) (diagonal_sum o m right)
  diagonal_sum-both left right hl hr =
      sum_of-add o L m (λ j. multiplier_at o left (j + 1) (j + 1)) (λ j. multiplier_at o right (j + 1) (j + 1))
      (λ j. multiplier_at-elem o L left hl (j + 1) (j + 1)) (λ j. multiplier_at-elem o L right hr (j + 1) (j + 1))

  -- one list after the other, from 0 on
  pub refute_sums : (left right : List Item) → AreMultipliers o m left → AreMultipliers o m right
      → (zero first second : E)
      → zero ≡ o.zero → first ≡ o.add zero (diagonal_sum o m left) → second ≡ o.add first (diagonal_sum o m right)
      → second ≡ sum_of o m
      (λ j. o.add (multiplier_at o left (j + 1) (j + 1)) (multiplier_at o right (j + 1) (j + 1)))
  refute_sums left right fl fr zero first second z p q =
      q ∙ ap (λ x. o.add x (diagonal_sum o m right))
      (p ∙ ap (λ x. o.add x (diagonal_sum o m left)) z
      ∙ L.zero-add (diagonal_sum o m left) (diagonal_sum-elem left fl.of_field))
      ∙ sym (diagonal_sum-both left right fl.of_field fr.of_field)

  module _ (list : List Item) (fit : AreMultipliers o m list) where
    part_elements : (t : ℕ) → t < length list → OfElements o L (take t list)
    part_elements t t_in s s_in =
        let long : length (take t list) ≡ t = length-take-le t list (omega arith) in
        let below : s < t = omega arith in
        subst (λ (x : Item). IsElem o x.2) (sym (get_or-take t list s blank below)) (fit.of_field s (omega arith))

    part_absent : (t : ℕ) → t < length list
        → IsAbsent o L (take t list) (get_or list t blank).0 (get_or list t blank).1
    part_absent t t_in s s_in p q =
        let long : length (take t list) ≡ t = length-take-le t list (omega arith) in
        let below : s < t = omega arith in
        let e = get_or-take t list s blank below in
        let p' : (get_or list s blank).0 ≡ (get_or list t blank).0 = ap (λ (x : Item). x.0) (sym e) ∙ p in
        let q' : (get_or list s blank).1 ≡ (get_or list t blank).1 = ap (λ (x : Item). x.1) (sym e) ∙ q in
        ⊎_elim
        (λ (h : (get_or list s blank).0 < (get_or list t blank).0). omega arith)
        (λ (h : ((get_or list s blank).0 ≡ (get_or list t blank).0)
        × ((get_or list s blank).1 < (get_or list t blank).1)). let h' = h.1 in omega arith)
        (fit.order s t below t_in)

    part-next : (t : ℕ) → t < length list → take (t + 1) list ≡ take t list ++ get_or list t blank ∷ []
    part-next t t_in = let e : t + 1 ≡ suc t = omega arith in
        ap (λ n. take n list) e ∙ take-suc list t blank t_in

    -- an item that was read
    pub item_fits : (t : ℕ) → t < length list → (x : Item) → x ≡ get_or list t x → ItemFits o m x
    item_fits t t_in x read = subst (ItemFits o m) (sym (read ∙ get_or_default list t x blank t_in)) (record {
      first_low = fit.first_low t t_in;
      first_high = fit.first_high t t_in;
      second_low = fit.second_low t t_in;
      second_high = fit.second_high t t_in;
      of_field = fit.of_field t t_in;
    })

    -- one more item
    pub weighted_sum-next : (c : ℕ → ℕ → E) → ((j k : ℕ) → IsElem o (c j k)) → (t : ℕ) → t < length list
        → (x : Item) → x ≡ get_or list t x
        → (sum total next : E) → IsElem o sum → total ≡ o.add sum (weighted_sum o m (take t list) c)
        → next ≡ o.add total (o.mul x.2 (c (x.0 - 1) (x.1 - 1)))
        → next ≡ o.add sum (weighted_sum o m (take (t + 1) list) c)
    weighted_sum-next c hc t t_in x read sum total next hs p r =
        let item = get_or list t blank in
        let q : next ≡ o.add total (o.mul item.2 (c (item.0 - 1) (item.1 - 1))) =
        r ∙ ap (λ (y : Item). o.add total (o.mul y.2 (c (y.0 - 1) (y.1 - 1))))
        (read ∙ get_or_default list t x blank t_in) in
        let term = o.mul item.2 (c (item.0 - 1) (item.1 - 1)) in
        let part = weighted_sum o m (take t list) c in
        q ∙ ap (λ z. o.add z term) p
        ∙ L.add_assoc sum part term hs (weighted_sum-elem (take t list) (part_elements t t_in) c hc)
        (L.mul-elem item.2 (c (item.0 - 1) (item.1 - 1)) (fit.of_field t t_in) (hc (item.0 - 1) (item.1 - 1)))
        ∙ ap (o.add sum)
        (sym (weighted_sum-more o L m item.0 item.1 item.2 (fit.of_field t t_in) (fit.first_low t t_in)
        (fit.first_high t t_in) (fit.second_low t t_in) (fit.second_high t t_in) (take t list) (part_elements t t_in)
        (part_absent t t_in) c hc))
        ∙ ap (λ (l : List Item). o.add sum (weighted_sum o m l c)) (sym (part-next t t_in))

    pub diagonal_sum-next : (t : ℕ) → t < length list → (x : Item) → x ≡ get_or list t x
        → (sum total next : E) → IsElem o sum → total ≡ o.add sum (diagonal_sum o m (take t list))
        → next ≡ cond (x.0 == x.1) (o.add total x.2) total
        → next ≡ o.add sum (diagonal_sum o m (take (t + 1) list))
    diagonal_sum-next t t_in x read sum total next hs p r =
        let item = get_or list t blank in
        let q : next ≡ cond (item.0 == item.1) (o.add total item.2) total =
        r ∙ ap (λ (y : Item). cond (y.0 == y.1) (o.add total y.2) total)
        (read ∙ get_or_default list t x blank t_in) in
        let part = diagonal_sum o m (take t list) in
        ⊎_elim
        (λ (e : item.0 ≡ item.1).
        q ∙ ap (λ b. cond b (o.add total item.2) total) (eq-eqb item.0 item.1 e)
        ∙ ap (λ z. o.add z item.2) p
        ∙ L.add_assoc sum part item.2 hs (diagonal_sum-elem (take t list) (part_elements t t_in)) (fit.of_field t t_in)
        ∙ ap (o.add sum)
        (sym (diagonal_sum-more o L m item.0 item.1 item.2 (fit.of_field t t_in) (fit.first_low t t_in)
        (fit.first_high t t_in) (fit.second_low t t_in) (fit.second_high t t_in) (take t list) (part_elements t t_in)
        (part_absent t t_in) e))
        ∙ ap (λ (l : List Item). o.add sum (diagonal_sum o m l)) (sym (part-next t t_in)))
        (λ (d : item.0 ≢ item.1).
        q ∙ ap (λ b. cond b (o.add total item.2) total) (ne_eqb item.0 item.1 d) ∙ p
        ∙ ap (o.add sum)
        (sym (diagonal_sum-other o L m item.0 item.1 item.2 (fit.of_field t t_in) (fit.first_low t t_in)
        (fit.first_high t t_in) (fit.second_low t t_in) (fit.second_high t t_in) (take t list) (part_elements t t_in)
        (part_absent t t_in) d))
        ∙ ap (λ (l : List Item). o.add sum (diagonal_sum o m l)) (sym (part-next t t_in)))
        (cases_eq item.0 item.1)

    pub weighted_sum-end : (c : ℕ → ℕ → E) (t : ℕ) (sum total : E) → t ≡ length list
        → total ≡ o.add sum (weighted_sum o m (take t list) c) → total ≡ o.add sum (weighted_sum o m list c)
    weighted_sum-end c t sum total e p = p
        ∙ ap (λ (l : List Item). o.add sum (weighted_sum o m l c)) (ap (λ n. take n list) e ∙ take-length list)

    pub diagonal_sum-end : (t : ℕ) (sum total : E) → t ≡ length list
        → total ≡ o.add sum (diagonal_sum o m (take t list)) → total ≡ o.add sum (diagonal_sum o m list)
    diagonal_sum-end t sum total e p = p
        ∙ ap (λ (l : List Item). o.add sum (diagonal_sum o m l)) (ap (λ n. take n list) e ∙ take-length list)

module _ {E : Type 0} (o : Ops E) (L : FieldLaws o) (A : Structure E) (over : IsOver o A) where
  -- the constants at one basis element are elements
  pub constant-elem : (i j k : ℕ) → IsElem o (constant o A.dim A.constants i j k)
  constant-elem i j k = at-elem o L A.constants over.of_elements ((i * A.dim + j) * A.dim + k)

  -- one list after the other, from 0 on
  pub annihilate_sums : (left right : List (ℕ × ℕ × E)) → AreMultipliers o A.dim left → AreMultipliers o A.dim right
      → (i : ℕ) (zero first second : E) → zero ≡ o.zero
      → first ≡ o.add zero (weighted_sum o A.dim left (λ j k. constant o A.dim A.constants i j k))
      → second ≡ o.add first (weighted_sum o A.dim right (λ j k. constant o A.dim A.constants j i k))
      → second ≡ sum_of o A.dim (λ j. sum_of o A.dim (λ k. o.add
      (o.mul (multiplier_at o left (j + 1) (k + 1)) (constant o A.dim A.constants i j k))
      (o.mul (multiplier_at o right (j + 1) (k + 1)) (constant o A.dim A.constants j i k))))
  annihilate_sums left right fl fr i zero first second z p q =
      let c : ℕ → ℕ → E = λ j k. constant o A.dim A.constants i j k in
      let d : ℕ → ℕ → E = λ j k. constant o A.dim A.constants j i k in
      let hc : (j k : ℕ) → IsElem o (c j k) = λ j k. constant-elem i j k in
      let hd : (j k : ℕ) → IsElem o (d j k) = λ j k. constant-elem j i k in
      q ∙ ap (λ x. o.add x (weighted_sum o A.dim right d))
      (p ∙ ap (λ x. o.add x (weighted_sum o A.dim left c)) z
      ∙ L.zero-add (weighted_sum o A.dim left c) (weighted_sum-elem o L A.dim left fl.of_field c hc))
      ∙ sym (weighted_sum-both o L A.dim left right fl.of_field fr.of_field c d hc hd)
