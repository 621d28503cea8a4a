-- The class equation: in each class one member is met before the others.
use Rattle.std.specs.Prelude.{◌≡◌, ℕ, zero, suc, ◌+◌, ◌*◌, ◌<◌, ◌≤◌, Bool, true, false, ◌&&◌, not, eqb, ◌⊎◌}
use Rattle.std.proofs.Common.{refl, sym, ◌∙◌, ap, ap₂, arith, ⊎_elim, mul-one}
use Rattle.std.proofs.lemmas.Bool.{cases_lt, eqb-true, eq-eqb}
use Rattle.theory_rings.specs.Sum.{sum}
use Rattle.theory_rings.specs.Naturals.{nat_monoid}
use Rattle.theory_rings.specs.Enumerated.{Enumerated}
use Rattle.theory_rings.proofs.Sums.Sums.{sum_congr, sum_comm, sum_eq_single}
use Rattle.theory_rings.proofs.Sums.NaturalSums.{mul-sum_nat, le_sum}
use Rattle.theory_rings.proofs.Numbers.Pigeonhole.{term_pos_of_sum_pos}
use Rattle.theory_division.specs.Counting.{one_if, count}
use Rattle.theory_division.specs.Group.{GroupOn, are_conjugate, class_order, is_central, is_first, ClassEquation}
use Rattle.theory_division.proofs.Counts.{and_true, true_or_false, one_if-pos, count-not}
use Rattle.theory_division.proofs.Groups.{are_conjugate-refl, are_conjugate-symm, are_conjugate-trans, is_central_congr}

-- an equivalence of numbers, as a test
record Equivalence (rel : ℕ → ℕ → Bool) : Type 0 where
  pub reflexive : (i : ℕ) → rel i i ≡ true
  pub symmetric : (i j : ℕ) → rel i j ≡ true → rel j i ≡ true
  pub transitive : (i j k : ℕ) → rel i j ≡ true → rel j k ≡ true → rel i k ≡ true

exchanged : (a f r b : Bool) → (r ≡ true → b ≡ a) → one_if a * one_if (f && r) ≡ one_if (f && b) * one_if r
exchanged a false r b h = omega arith
exchanged a true true b h = ap (λ t. one_if t * 1) (sym (h refl))
exchanged a true false b h = omega arith

module _ (rel : ℕ → ℕ → Bool) (Q : Equivalence rel) where
  -- no number below i is in the class of i
  abbrev first : ℕ → Bool
  first i = eqb (sum nat_monoid i (λ j. one_if (rel j i))) 0

  first-apart : (i j : ℕ) → first i ≡ true → j < i → rel j i ≡ true → ⊥
  first-apart i j f l r =
      let a = eqb-true (sum nat_monoid i (λ j. one_if (rel j i))) 0 f in
      let b = le_sum i j (λ j. one_if (rel j i)) l in
      let c : one_if (rel j i) ≡ 1 = ap one_if r in
      omega arith

  -- the first of the class of x
  representative : (fuel x : ℕ) → x < fuel → (k : ℕ) × (k ≤ x) × (rel k x ≡ true) × (first k ≡ true)
  representative zero x l = absurd (omega arith)
  representative (suc fuel) x l = ⊎_elim
      (λ (p : 0 < sum nat_monoid x (λ j. one_if (rel j x))).
      let j = term_pos_of_sum_pos x (λ j. one_if (rel j x)) p in
      let below = j.1 in
      let r = representative fuel j.0 (omega arith) in
      let le = r.1 in
      (r.0, omega arith, Q.transitive r.0 j.0 x r.2 (one_if-pos (rel j.0 x) j.2), r.3))
      (λ (p : sum nat_monoid x (λ j. one_if (rel j x)) ≤ 0).
      (x, omega arith, Q.reflexive x, eq-eqb (sum nat_monoid x (λ j. one_if (rel j x))) 0 (omega arith)))
      (cases_lt 0 (sum nat_monoid x (λ j. one_if (rel j x))))

  one_first : (n x : ℕ) → x < n → sum nat_monoid n (λ i. one_if (first i && rel i x)) ≡ 1
  one_first n x l =
      let r = representative (suc x) x (omega arith) in
      let k = r.0 in
      let le = r.1 in
      sum_eq_single nat_monoid n k (λ i. one_if (first i && rel i x)) (omega arith)
      (λ i g d. none k i r.2 r.3 d (true_or_false (first i && rel i x)))
      ∙ ap₂ (λ a b. one_if (a && b)) r.3 r.2
    where
      none : (k i : ℕ) → rel k x ≡ true → first k ≡ true → (i ≡ k → ⊥) → (first i && rel i x ≡ true)
          ⊎ (first i && rel i x ≡ false) → one_if (first i && rel i x) ≡ 0
      none k i r f d = ⊎_elim
          (λ (e : first i && rel i x ≡ true).
          let p = and_true (first i) (rel i x) e in
          let ik : rel i k ≡ true = Q.transitive i x k p.1 (Q.symmetric k x r) in
          absurd (⊎_elim (λ (h : i < k). first-apart k i f h ik)
          (λ (h : k ≤ i). ⊎_elim (λ (g : k < i). first-apart i k p.0 g (Q.symmetric i k ik))
          (λ (g : i ≤ k). d (omega arith)) (cases_lt k i)) (cases_lt i k)))
          (λ (e : first i && rel i x ≡ false). ap one_if e)

  -- a union of classes is counted class by class
  count_by_classes : (n : ℕ) (s : ℕ → Bool) → ((i j : ℕ) → rel i j ≡ true → s i ≡ s j)
      → sum nat_monoid n (λ x. one_if (s x)) ≡ sum nat_monoid n
      (λ i. one_if (first i && s i) * sum nat_monoid n (λ x. one_if (rel i x)))
  count_by_classes n s closed =
      sum_congr nat_monoid n (λ x. one_if (s x))
      (λ x. sum nat_monoid n (λ i. one_if (s x) * one_if (first i && rel i x)))
      (λ x l. sym (mul-one (one_if (s x))) ∙ ap (λ t. one_if (s x) * t) (sym (one_first n x l))
      ∙ mul-sum_nat n (one_if (s x)) (λ i. one_if (first i && rel i x)))
      ∙ sum_comm nat_monoid n n (λ x i. one_if (s x) * one_if (first i && rel i x))
      ∙ sum_congr nat_monoid n (λ i. sum nat_monoid n (λ x. one_if (s x) * one_if (first i && rel i x)))
      (λ i. one_if (first i && s i) * sum nat_monoid n (λ x. one_if (rel i x)))
      (λ i l. sum_congr nat_monoid n (λ x. one_if (s x) * one_if (first i && rel i x))
      (λ x. one_if (first i && s i) * one_if (rel i x))
      (λ x g. exchanged (s x) (first i) (rel i x) (s i) (closed i x))
      ∙ sym (mul-sum_nat n (one_if (first i && s i)) (λ x. one_if (rel i x))))

module _ {G : Type 0} (H : GroupOn G) (E : Enumerated G) where
  abbrev rel : ℕ → ℕ → Bool
  rel i j = are_conjugate H E (E.member i) (E.member j)

  equivalence : Equivalence rel
  equivalence = record {
    reflexive = λ i. are_conjugate-refl H E (E.member i);
    symmetric = λ i j. are_conjugate-symm H E (E.member i) (E.member j);
    transitive = λ i j k. are_conjugate-trans H E (E.member i) (E.member j) (E.member k);
  }

  abbrev outside : ℕ → Bool
  outside i = not (is_central H E (E.member i))

  first_at : (i : ℕ) → i < E.size → is_first H E (E.member i) ≡ first rel equivalence i
  first_at i l = ap (λ n. eqb (sum nat_monoid n (λ j. one_if (rel j i))) 0) (E.number-member i l)

  pub class_equation : ClassEquation H E
  class_equation =
      sym (count-not E (is_central H E))
      ∙ ap (λ t. count E (is_central H E) + t)
      (count_by_classes rel equivalence E.size outside
      (λ i j r. ap not (is_central_congr H E (E.member i) (E.member j) r))
      ∙ sum_congr nat_monoid E.size (λ i. one_if (first rel equivalence i && outside i) * class_order H E (E.member i))
      (λ i. one_if (is_first H E (E.member i) && outside i) * class_order H E (E.member i))
      (λ i l. ap (λ b. one_if (b && outside i) * class_order H E (E.member i)) (sym (first_at i l))))
