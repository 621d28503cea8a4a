-- Lists of the multipliers other than 0, item by item.
use Rattle.std.specs.Prelude.{◌≡◌, ◌≢◌, ◌+◌, ◌*◌, ◌/◌, ◌%◌, ◌<◌, ◌≤◌, ◌==◌, ◌&&◌, true, false, ℕ, suc, List, [], ◌∷◌}
use Rattle.std.specs.Prelude.{◌++◌, length, get_or, cond}
use Rattle.std.proofs.Common.{inl, inr, refl, sym, ◌∙◌, ap, ap₂, subst, arith, ⊎_elim}
use Rattle.std.proofs.Math.Nat.{mul-le-mul_right, mod-lt}
use Rattle.std.proofs.Math.Seq.{get_or-append_seam}
use Rattle.std.proofs.lemmas.Bool.{cases_lt, cases_eq, eq-eqb, ne_eqb}
use Rattle.std.proofs.lemmas.List.{get_or_append_left, length-append, append-nil}
use Rattle.std.proofs.lemmas.Nat.{div-add-mod', div-mul-add, mod-mul-add}
use Rattle.theory_rings.specs.Ops.{Ops, IsElem, FieldLaws}
use Rattle.theory_rings.specs.Sum.{at}
use Rattle.theory_rings.proofs.Rings.Elements.{at-elem}
use Rattle.theory_spaces.specs.Tuples.{IsTuple}
use Rattle.theory_spaces.proofs.Matrices.PairIndex.{pair-lt, row-lt, column-lt}
use Rattle.theory_tables.specs.Conditions.{multiplier_at}
use Rattle.theory_tables.specs.Claims.{PairBefore}
use Rattle.spl_algebra.specs.IdentitySystem.{ListsMultipliers}

-- numbers that go up have pairs of quotient and remainder that go up
pub pair_before : (m s t : ℕ) → 1 ≤ m → s < t → PairBefore (s / m + 1) (s % m + 1) (t / m + 1) (t % m + 1)
pair_before m s t h l =
    let es = div-add-mod' s m in
    let et = div-add-mod' t m in
    let rs : s % m < m = mod-lt s (omega arith) in
    let rt : t % m < m = mod-lt t (omega arith) in
    ⊎_elim
    (λ (q : s / m < t / m). inl (omega arith))
    (λ (q : t / m ≤ s / m). inr (same_row es et rs rt q))
    (cases_lt (s / m) (t / m))
  where
    same_row : s / m * m + s % m ≡ s → t / m * m + t % m ≡ t → s % m < m → t % m < m → t / m ≤ s / m
        → (s / m + 1 ≡ t / m + 1) × (s % m + 1 < t % m + 1)
    same_row es et rs rt q =
        let e : s / m ≡ t / m = ⊎_elim
        (λ (k : t / m < s / m). let rows : (t / m + 1) * m ≤ s / m * m = mul-le-mul_right m (omega arith) in
        absurd (omega (arith, l)))
        (λ (k : s / m ≤ t / m). omega arith)
        (cases_lt (t / m) (s / m)) in
        let rows : s / m * m ≡ t / m * m = ap (λ x. x * m) e in
        (ap (λ x. x + 1) e, omega (arith, l))

pub pair_apart : (m s t : ℕ) → s ≢ t → s / m ≡ t / m → s % m ≡ t % m → ⊥
pair_apart m s t d q r = d (sym (div-add-mod' s m) ∙ ap₂ (λ x y. x * m + y) q r ∙ div-add-mod' t m)

-- the test of a pair
pair_test-same : (a b j k : ℕ) → a ≡ j → b ≡ k → ((a == j) && (b == k)) ≡ true
pair_test-same a b j k p q = ap₂ (λ x y. x && y) (eq-eqb a j p) (eq-eqb b k q)

pair_test-other : (a b j k : ℕ) → (a ≡ j → b ≡ k → ⊥) → ((a == j) && (b == k)) ≡ false
pair_test-other a b j k d = ⊎_elim
    (λ (p : a ≡ j). ap₂ (λ x y. x && y) (eq-eqb a j p) (ne_eqb b k (d p)))
    (λ (p : a ≢ j). ap (λ x. x && (b == k)) (ne_eqb a j p))
    (cases_eq a j)

module _ {E : Type 0} (o : Ops E) where
  abbrev Item : Type 0
  Item = ℕ × ℕ × E

  abbrev blank : Item
  blank = (0, 0, o.zero)

  -- no item of the list is at the pair
  abbrev Absent : List Item → ℕ → ℕ → Type 0
  Absent list j k = (t : ℕ) → t < length list → (get_or list t blank).0 ≡ j → (get_or list t blank).1 ≡ k → ⊥

  multiplier_at-other : (a b : ℕ) (x : E) (rest : List Item) (j k : ℕ) → (a ≡ j → b ≡ k → ⊥)
      → multiplier_at o ((a, b, x) ∷ rest) j k ≡ multiplier_at o rest j k
  multiplier_at-other a b x rest j k d = ap (λ t. cond t x (multiplier_at o rest j k)) (pair_test-other a b j k d)

  multiplier_at-same : (a b : ℕ) (x : E) (rest : List Item) → multiplier_at o ((a, b, x) ∷ rest) a b ≡ x
  multiplier_at-same a b x rest = ap (λ t. cond t x (multiplier_at o rest a b)) (pair_test-same a b a b refl refl)

  multiplier_at-absent : (list : List Item) (ys : List Item) (j k : ℕ) → Absent list j k
      → multiplier_at o (list ++ ys) j k ≡ multiplier_at o ys j k
  multiplier_at-absent [] ys j k h = refl
  multiplier_at-absent ((a, b, x) ∷ rest) ys j k h =
      multiplier_at-other a b x (rest ++ ys) j k (h 0 (omega arith))
      ∙ multiplier_at-absent rest ys j k (λ t l. h (suc t) (omega arith))

  multiplier_at-append : (list : List Item) (a b : ℕ) (x : E) (j k : ℕ) → (a ≡ j → b ≡ k → ⊥)
      → multiplier_at o (list ++ (a, b, x) ∷ []) j k ≡ multiplier_at o list j k
  multiplier_at-append [] a b x j k d = multiplier_at-other a b x [] j k d
  multiplier_at-append ((c, e, y) ∷ rest) a b x j k d =
      ap (λ z. cond ((c == j) && (e == k)) y z) (multiplier_at-append rest a b x j k d)

  module _ (m : ℕ) (items : List E) where
    abbrev item_of : ℕ → Item
    item_of s = (s / m + 1, s % m + 1, at o items s)

    -- the items below n have been listed
    pub record ListsBelow (n : ℕ) (list : List Item) : Type 0 where
      pub source : (t : ℕ) → t < length list → (s : ℕ) × (s < n) × (get_or list t blank ≡ item_of s)
          × (at o items s ≢ o.zero)
      pub order : (t u : ℕ) → t < u → u < length list
          → PairBefore (get_or list t blank).0 (get_or list t blank).1 (get_or list u blank).0 (get_or list u blank).1
      pub found : (s : ℕ) → s < n → multiplier_at o list (s / m + 1) (s % m + 1) ≡ at o items s

    -- what is not below n isn't listed
    absent : (n : ℕ) (list : List Item) → ListsBelow n list → Absent list (n / m + 1) (n % m + 1)
    absent n list h t l p q =
        let from = h.source t l in
        let row : (get_or list t blank).0 ≡ from.0 / m + 1 = ap (λ x. x.0) from.2 in
        let column : (get_or list t blank).1 ≡ from.0 % m + 1 = ap (λ x. x.1) from.2 in
        pair_apart m from.0 n (λ e. omega (arith, from.1)) (omega arith) (omega arith)

    pub lists-none : ListsBelow 0 []
    lists-none = record {
      source = λ t l. absurd (omega arith);
      order = λ t u k l. absurd (omega arith);
      found = λ s l. absurd (omega arith);
    }

    pub lists-skip : (n : ℕ) (list : List Item) → at o items n ≡ o.zero → ListsBelow n list → ListsBelow (n + 1) list
    lists-skip n list z h = record {
      source = λ t l. let from = h.source t l in (from.0, omega (arith, from.1), from.2, from.3);
      order = h.order;
      found = λ s l. ⊎_elim
          (λ (k : s < n). h.found s k)
          (λ (k : n ≤ s).
          let e : s ≡ n = omega arith in
          rw e (sym (ap (λ xs. multiplier_at o xs (n / m + 1) (n % m + 1)) (append-nil list))
          ∙ multiplier_at-absent list [] (n / m + 1) (n % m + 1) (absent n list h) ∙ sym z))
          (cases_lt s n);
    }

    more : (n : ℕ) (list : List Item) → 1 ≤ m → at o items n ≢ o.zero → ListsBelow n list
        → ListsBelow (n + 1) (list ++ item_of n ∷ [])
    more n list some d h =
        let longer : length (list ++ item_of n ∷ []) ≡ length list + 1 = simp length-append refl in
        let old : (t : ℕ) → t < length list → get_or (list ++ item_of n ∷ []) t blank ≡ get_or list t blank =
        λ t l. get_or_append_left list (item_of n ∷ []) blank t l in
        let last : (t : ℕ) → length list ≤ t → t < length (list ++ item_of n ∷ [])
        → get_or (list ++ item_of n ∷ []) t blank ≡ item_of n =
        λ t k l. let e : t ≡ length list = omega arith in
        ap (λ t. get_or (list ++ item_of n ∷ []) t blank) e ∙ get_or-append_seam list (item_of n) [] blank in
        record {
          source = λ t l. ⊎_elim
              (λ (k : t < length list). let from = h.source t k in
              (from.0, omega (arith, from.1), old t k ∙ from.2, from.3))
              (λ (k : length list ≤ t). (n, omega arith, last t k l, d))
              (cases_lt t (length list));
          order = λ t u k l. ⊎_elim
              (λ (g : u < length list). rw (old t (omega arith), old u g) (h.order t u k g))
              (λ (g : length list ≤ u).
              let before : t < length list = omega arith in
              let from = h.source t before in
              rw (old t before, from.2, last u g l) (pair_before m from.0 n some from.1))
              (cases_lt u (length list));
          found = λ s l. ⊎_elim
              (λ (k : s < n).
              multiplier_at-append list (n / m + 1) (n % m + 1) (at o items n) (s / m + 1) (s % m + 1)
              (λ p q. pair_apart m n s (λ e. omega arith) (omega arith) (omega arith))
              ∙ h.found s k)
              (λ (k : n ≤ s).
              let e : s ≡ n = omega arith in
              rw e (multiplier_at-absent list (item_of n ∷ []) (n / m + 1) (n % m + 1) (absent n list h)
              ∙ multiplier_at-same (n / m + 1) (n % m + 1) (at o items n) []))
              (cases_lt s n);
        }

    pub lists-more : (n : ℕ) (list new : List Item) (item : Item) → 1 ≤ m → at o items n ≢ o.zero → item ≡ item_of n
        → new ≡ list ++ item ∷ []
        → ListsBelow n list → ListsBelow (n + 1) new
    lists-more n list new item some d e f h =
        subst (ListsBelow (n + 1)) (sym (f ∙ ap (λ x. list ++ x ∷ []) e)) (more n list some d h)

  pub lists-all : (L : FieldLaws o) (m : ℕ) (items : List E) (list : List Item) → 1 ≤ m → IsTuple o (m * m) items
      → ListsBelow m items (length items) list → ListsMultipliers o m items list
  lists-all L m items list some ok h =
      let first : (s : ℕ) (l : s < length list)
      → (get_or list s blank).0 ≡ (h.source s l).0 / m + 1 = λ s l. ap (λ x. x.0) (h.source s l).2 in
      let second : (s : ℕ) (l : s < length list)
      → (get_or list s blank).1 ≡ (h.source s l).0 % m + 1 = λ s l. ap (λ x. x.1) (h.source s l).2 in
      let third : (s : ℕ) (l : s < length list)
      → at o items (h.source s l).0 ≡ (get_or list s blank).2 = λ s l. sym (ap (λ x. x.2) (h.source s l).2) in
      let within : (s : ℕ) (l : s < length list)
      → (h.source s l).0 < m * m = λ s l. omega (arith, (h.source s l).1, ok.right_length) in
      record {
        multipliers = record {
          first_low = λ s l. omega (arith, first s l);
          first_high = λ s l. omega (arith, first s l, row-lt m m (h.source s l).0 (within s l));
          second_low = λ s l. omega (arith, second s l);
          second_high = λ s l. omega (arith, second s l, column-lt m m (h.source s l).0 (within s l));
          of_field = λ s l. subst (IsElem o) (third s l) (at-elem o L items ok.of_elements (h.source s l).0);
          nonzero = λ s l. subst (λ x. x ≢ o.zero) (third s l) (h.source s l).3;
          order = h.order;
        };
        multiplier = λ j k hj hk.
            let place : j * m + k < length items = omega (arith, pair-lt m m j k hj hk, ok.right_length) in
            ap₂ (λ x y. multiplier_at o list (x + 1) (y + 1)) (sym (div-mul-add j m k hk))
            (sym (mod-mul-add j m k hk)) ∙ h.found (j * m + k) place;
      }
