-- Sums over all pairs of numbers of the multipliers of a list, as sums over the list, item by item.
use Rattle.std.specs.Prelude.{◌≡◌, ◌≢◌, ◌+◌, ◌-◌, ◌<◌, ◌≤◌, ◌==◌, ◌&&◌, true, false, ℕ, suc, List, [], ◌∷◌}
use Rattle.std.specs.Prelude.{◌++◌, length, get_or, cond}
use Rattle.std.proofs.Common.{sym, ◌∙◌, ap, ap₂, arith, ⊎_elim}
use Rattle.std.proofs.lemmas.Bool.{cases_eq, eq-eqb, ne_eqb}
use Rattle.theory_rings.specs.Ops.{Ops, IsElem, FieldLaws}
use Rattle.theory_rings.specs.Elements.{Elem, Elem-path, elements}
use Rattle.theory_rings.specs.Sum.{sum_of}
use Rattle.theory_rings.proofs.Sums.Sums.{sum_eq_single}
use Rattle.theory_rings.proofs.Rings.Elements.{sum_of-elem, sum_of-elements, sum_of_congr}
use Rattle.theory_tables.specs.Conditions.{multiplier_at}
use Rattle.theory_tables.specs.MultiplierSums.{weighted_sum, diagonal_sum}
use Rattle.theory_tables.proofs.Rows.Terms.{add-zero, zero-mul, add-mul, cond_either}
use Rattle.theory_tables.proofs.Rows.Sums.{sum_of-add, sum_of_zeros}

-- the test of a pair
pair_test-same : (a b j k : ℕ) → a ≡ j → b ≡ k → ((a == j) && (b == k)) ≡ true
pair_test-same a b j k p q = ap₂ (λ x y. x && y) (eq-eqb a j p) (eq-eqb b k q)

pair_test-other : (a b j k : ℕ) → (a ≡ j → b ≡ k → ⊥) → ((a == j) && (b == k)) ≡ false
pair_test-other a b j k d = ⊎_elim
    (λ (p : a ≡ j). ap₂ (λ x y. x && y) (eq-eqb a j p) (ne_eqb b k (d p)))
    (λ (p : a ≢ j). ap (λ x. x && (b == k)) (ne_eqb a j p))
    (cases_eq a j)

module _ {E : Type 0} (o : Ops E) (L : FieldLaws o) where
  abbrev Item : Type 0
  Item = ℕ × ℕ × E

  abbrev blank : Item
  blank = (0, 0, o.zero)

  -- the values are elements
  abbrev pub OfElements : List Item → Type 0
  OfElements list = (t : ℕ) → t < length list → IsElem o (get_or list t blank).2

  -- no item of the list is at the pair
  abbrev pub IsAbsent : List Item → ℕ → ℕ → Type 0
  IsAbsent list j k = (t : ℕ) → t < length list → (get_or list t blank).0 ≡ j → (get_or list t blank).1 ≡ k → ⊥

  -- the multiplier of one item
  abbrev single : ℕ → ℕ → E → ℕ → ℕ → E
  single a b x j k = cond ((a == j) && (b == k)) x o.zero

  single-elem : (a b : ℕ) (x : E) (j k : ℕ) → IsElem o x → IsElem o (single a b x j k)
  single-elem a b x j k h = cond_either (IsElem o) ((a == j) && (b == k)) x o.zero h L.zero-elem

  single-same : (a b : ℕ) (x : E) (j k : ℕ) → a ≡ j → b ≡ k → single a b x j k ≡ x
  single-same a b x j k p q = ap (λ t. cond t x o.zero) (pair_test-same a b j k p q)

  single-other : (a b : ℕ) (x : E) (j k : ℕ) → (a ≡ j → b ≡ k → ⊥) → single a b x j k ≡ o.zero
  single-other a b x j k d = ap (λ t. cond t x o.zero) (pair_test-other a b j k d)

  pub multiplier_at-elem : (list : List Item) → OfElements list → (j k : ℕ) → IsElem o (multiplier_at o list j k)
  multiplier_at-elem [] h j k = L.zero-elem
  multiplier_at-elem ((a, b, x) ∷ rest) h j k =
      cond_either (IsElem o) ((a == j) && (b == k)) x (multiplier_at o rest j k) (h 0 (omega arith))
      (multiplier_at-elem rest (λ t t_in. h (suc t) (omega arith)) j k)

  -- one more item, at a pair at which there is none, adds its multiplier
  multiplier_at-more : (list : List Item) (a b : ℕ) (x : E) → OfElements list → IsElem o x → IsAbsent list a b
      → (j k : ℕ) → multiplier_at o (list ++ (a, b, x) ∷ []) j k ≡ o.add (multiplier_at o list j k) (single a b x j k)
  multiplier_at-more [] a b x h hx absent j k = sym (L.zero-add (single a b x j k) (single-elem a b x j k hx))
  multiplier_at-more ((c, e, y) ∷ rest) a b x h hx absent j k =
      let ih = multiplier_at-more rest a b x (λ t t_in. h (suc t) (omega arith)) hx
      (λ t t_in. absent (suc t) (omega arith)) j k in
      ⊎_elim
      (λ (p : c ≡ j). ⊎_elim
      (λ (q : e ≡ k). ap (λ t. cond t y (multiplier_at o (rest ++ (a, b, x) ∷ []) j k)) (pair_test-same c e j k p q)
      ∙ sym (ap₂ o.add (ap (λ t. cond t y (multiplier_at o rest j k)) (pair_test-same c e j k p q))
      (single-other a b x j k (λ r s. absent 0 (omega arith) (p ∙ sym r) (q ∙ sym s)))
      ∙ add-zero o L y (h 0 (omega arith))))
      (λ (q : e ≢ k). past ih (λ _ s. q s))
      (cases_eq e k))
      (λ (p : c ≢ j). past ih (λ r _. p r))
      (cases_eq c j)
    where
      past : multiplier_at o (rest ++ (a, b, x) ∷ []) j k ≡ o.add (multiplier_at o rest j k) (single a b x j k)
          → (c ≡ j → e ≡ k → ⊥) → multiplier_at o ((c, e, y) ∷ (rest ++ (a, b, x) ∷ [])) j k
          ≡ o.add (multiplier_at o ((c, e, y) ∷ rest) j k) (single a b x j k)
      past ih d =
          ap (λ t. cond t y (multiplier_at o (rest ++ (a, b, x) ∷ []) j k)) (pair_test-other c e j k d) ∙ ih
          ∙ ap (λ z. o.add z (single a b x j k))
          (sym (ap (λ t. cond t y (multiplier_at o rest j k)) (pair_test-other c e j k d)))

  -- a sum in which one term alone isn't 0
  sum_of_single : (n k : ℕ) (f : ℕ → E) → ((i : ℕ) → IsElem o (f i)) → k < n
      → ((i : ℕ) → i < n → (i ≡ k → ⊥) → f i ≡ o.zero) → sum_of o n f ≡ f k
  sum_of_single n k f h k_in z =
      let F : ℕ → Elem o = λ i. (f i, h i) in
      let K = elements o L in
      sum_of-elements o L n F
      ∙ ap (λ (x : Elem o). x.0) (sum_eq_single K.monoid n k F k_in (λ i i_in d. Elem-path o (F i) K.zero (z i i_in d)))

  module _ (m : ℕ) (a b : ℕ) (x : E) (hx : IsElem o x) (a_low : 1 ≤ a) (a_high : a ≤ m) (b_low : 1 ≤ b)
      (b_high : b ≤ m) where
    single_sum : (c : ℕ → ℕ → E) → ((j k : ℕ) → IsElem o (c j k))
        → sum_of o m (λ j. sum_of o m (λ k. o.mul (single a b x (j + 1) (k + 1)) (c j k))) ≡ o.mul x (c (a - 1) (b - 1))
    single_sum c hc =
        sum_of_single m (a - 1) (λ j. sum_of o m (λ k. term j k))
        (λ j. sum_of-elem o L m (term j) (λ k _. term-elem j k))
        (omega (arith, a_low, a_high))
        (λ j _ d. sum_of_congr o m (term j) (λ _. o.zero)
        (λ k _. term-zero j k (λ p _. d (omega (arith, a_low)))) ∙ sum_of_zeros o L m)
        ∙ sum_of_single m (b - 1) (term (a - 1)) (term-elem (a - 1)) (omega (arith, b_low, b_high))
        (λ k _ d. term-zero (a - 1) k (λ _ q. d (omega (arith, b_low))))
        ∙ ap (λ z. o.mul z (c (a - 1) (b - 1))) (single-same a b x (a - 1 + 1) (b - 1 + 1) (omega (arith, a_low))
        (omega (arith, b_low)))
      where
        term : ℕ → ℕ → E
        term j k = o.mul (single a b x (j + 1) (k + 1)) (c j k)

        term-elem : (j k : ℕ) → IsElem o (term j k)
        term-elem j k = L.mul-elem _ _ (single-elem a b x (j + 1) (k + 1) hx) (hc j k)

        term-zero : (j k : ℕ) → (a ≡ j + 1 → b ≡ k + 1 → ⊥) → term j k ≡ o.zero
        term-zero j k d = ap (λ z. o.mul z (c j k)) (single-other a b x (j + 1) (k + 1) d)
            ∙ zero-mul o L (c j k) (hc j k)

    -- one more item adds its product
    pub weighted_sum-more : (list : List Item) → OfElements list → IsAbsent list a b → (c : ℕ → ℕ → E)
        → ((j k : ℕ) → IsElem o (c j k))
        → weighted_sum o m (list ++ (a, b, x) ∷ []) c ≡ o.add (weighted_sum o m list c) (o.mul x (c (a - 1) (b - 1)))
    weighted_sum-more list h absent c hc =
        sum_of_congr o m (λ j. sum_of o m (λ k. o.mul (new j k) (c j k)))
        (λ j. o.add (sum_of o m (λ k. left j k)) (sum_of o m (λ k. right j k)))
        (λ j _. sum_of_congr o m (λ k. o.mul (new j k) (c j k)) (λ k. o.add (left j k) (right j k)) (λ k _.
        ap (λ z. o.mul z (c j k)) (multiplier_at-more list a b x h hx absent (j + 1) (k + 1))
        ∙ add-mul o L (old j k) (one j k) (c j k) (old-elem j k) (one-elem j k) (hc j k))
        ∙ sum_of-add o L m (left j) (right j) (left-elem j) (right-elem j))
        ∙ sum_of-add o L m (λ j. sum_of o m (left j)) (λ j. sum_of o m (right j))
        (λ j. sum_of-elem o L m (left j) (λ k _. left-elem j k))
        (λ j. sum_of-elem o L m (right j) (λ k _. right-elem j k))
        ∙ ap (o.add (weighted_sum o m list c)) (single_sum c hc)
      where
        new : ℕ → ℕ → E
        new j k = multiplier_at o (list ++ (a, b, x) ∷ []) (j + 1) (k + 1)

        old : ℕ → ℕ → E
        old j k = multiplier_at o list (j + 1) (k + 1)

        one : ℕ → ℕ → E
        one j k = single a b x (j + 1) (k + 1)

        old-elem : (j k : ℕ) → IsElem o (old j k)
        old-elem j k = multiplier_at-elem list h (j + 1) (k + 1)

        one-elem : (j k : ℕ) → IsElem o (one j k)
        one-elem j k = single-elem a b x (j + 1) (k + 1) hx

        left : ℕ → ℕ → E
        left j k = o.mul (old j k) (c j k)

        right : ℕ → ℕ → E
        right j k = o.mul (one j k) (c j k)

        left-elem : (j k : ℕ) → IsElem o (left j k)
        left-elem j k = L.mul-elem _ _ (old-elem j k) (hc j k)

        right-elem : (j k : ℕ) → IsElem o (right j k)
        right-elem j k = L.mul-elem _ _ (one-elem j k) (hc j k)

    -- one more item on the diagonal adds its multiplier, another nothing
    pub diagonal_sum-more : (list : List Item) → OfElements list → IsAbsent list a b → a ≡ b
        → diagonal_sum o m (list ++ (a, b, x) ∷ []) ≡ o.add (diagonal_sum o m list) x
    diagonal_sum-more list h absent e =
        sum_of_congr o m (λ j. multiplier_at o (list ++ (a, b, x) ∷ []) (j + 1) (j + 1))
        (λ j. o.add (multiplier_at o list (j + 1) (j + 1)) (single a b x (j + 1) (j + 1)))
        (λ j _. multiplier_at-more list a b x h hx absent (j + 1) (j + 1))
        ∙ sum_of-add o L m (λ j. multiplier_at o list (j + 1) (j + 1)) (λ j. single a b x (j + 1) (j + 1))
        (λ j. multiplier_at-elem list h (j + 1) (j + 1)) (λ j. single-elem a b x (j + 1) (j + 1) hx)
        ∙ ap (o.add (diagonal_sum o m list))
        (sum_of_single m (a - 1) (λ j. single a b x (j + 1) (j + 1)) (λ j. single-elem a b x (j + 1) (j + 1) hx)
        (omega (arith, a_low, a_high))
        (λ j _ d. single-other a b x (j + 1) (j + 1) (λ p _. d (omega (arith, a_low))))
        ∙ single-same a b x (a - 1 + 1) (a - 1 + 1) (omega (arith, a_low)) (omega (arith, a_low, e)))

    pub diagonal_sum-other : (list : List Item) → OfElements list → IsAbsent list a b → a ≢ b
        → diagonal_sum o m (list ++ (a, b, x) ∷ []) ≡ diagonal_sum o m list
    diagonal_sum-other list h absent d =
        sum_of_congr o m (λ j. multiplier_at o (list ++ (a, b, x) ∷ []) (j + 1) (j + 1))
        (λ j. multiplier_at o list (j + 1) (j + 1))
        (λ j _. multiplier_at-more list a b x h hx absent (j + 1) (j + 1)
        ∙ ap (o.add (multiplier_at o list (j + 1) (j + 1)))
        (single-other a b x (j + 1) (j + 1) (λ p q. d (p ∙ sym q)))
        ∙ add-zero o L (multiplier_at o list (j + 1) (j + 1)) (multiplier_at-elem list h (j + 1) (j + 1)))
