-- The ring of lists by its numbers: each list is the sum of its numbers times the products of powers of x and t, so a
-- product is a sum of rows of numbers. What is used of the ring is a record.
use Rattle.std.specs.Prelude.{◌≡◌, ℕ, zero, suc, ◌+◌, ◌-◌, ◌*◌, ◌/◌, ◌%◌, ◌<◌, ◌≤◌, [], get_or}
use Rattle.std.specs.Prelude.{true, cond, nat_eq, nat_lt}
use Rattle.std.proofs.Common.{refl, sym, ◌∙◌, ap, ap₂, arith, ⊎_elim}
use Rattle.std.proofs.Math.Bool.{Bool-set}
use Rattle.std.proofs.Math.Nat as nat
use Rattle.std.proofs.Math.Nat.{div-add-mod', mod-eq_of_lt}
use Rattle.std.proofs.lemmas.Bool.{cases_lt, cases_eq, ltb-true, lt-ltb, le-ltb, ne_eqb}
use Rattle.std.proofs.lemmas.Nat.{div-mul-add, mod-mul-add}
use mathlib.Core.HLevel.{Σ_prop_path}
use Rattle.theory_rings.specs.Ring.{CommRingOn, AddCommMonoidOn}
use Rattle.theory_rings.specs.Sum.{sum}
use Rattle.theory_rings.specs.Power.{times}
use Rattle.theory_rings.specs.Naturals.{nat_monoid}
use Rattle.theory_rings.specs.IntegersMod.{mod_ops}
use Rattle.theory_rings.proofs.Sums.Sums.{sum_congr, sum_eq_zero, sum_eq_single, sum-split, sum-mul, mul-sum}
use Rattle.theory_rings.proofs.Sums.NaturalSums.{sum_const, sum-mod}
use Rattle.theory_rings.proofs.Powers.Times.{times-mul_assoc, mul-times_comm}
use Rattle.theory_rings.proofs.Rings.Solver.{◌⊠◌, ring3}
use Rattle.theory_spaces.specs.Tuples.{Tuple, IsTuple, is_tuple}
use Rattle.theory_spaces.proofs.Matrices.PairIndex.{row-lt, column-lt}
use Rattle.theory_spaces.proofs.Tuples.Tuples.{is_tuple-IsTuple, IsTuple-ext}

-- a sum over pairs, numbered row by row
pub sum_pairs : {V : Type 0} (M : AddCommMonoidOn V) (m n : ℕ) (f : ℕ → V)
    → sum M (m * n) f ≡ sum M m (λ i. sum M n (λ j. f (i * n + j)))
sum_pairs M zero n f = let e : 0 * n ≡ 0 = omega arith in ap (λ k. sum M k f) e
sum_pairs M (suc m) n f =
    let e : suc m * n ≡ m * n + n = omega arith in
    ap (λ k. sum M k f) e ∙ sum-split M (m * n) n f
    ∙ ap (λ x. M.◌⊕◌ x (sum M n (λ j. f (m * n + j)))) (sum_pairs M m n f)

-- 1 at two equal numbers, and else 0
abbrev pub same : ℕ → ℕ → ℕ
same zero zero = 1
same zero (suc b) = 0
same (suc a) zero = 0
same (suc a) (suc b) = same a b

pub same-eq : (a : ℕ) → same a a ≡ 1
same-eq zero = refl
same-eq (suc a) = same-eq a

pub same-ne : (a b : ℕ) → (a ≡ b → ⊥) → same a b ≡ 0
same-ne zero zero n = absurd (n refl)
same-ne zero (suc b) n = refl
same-ne (suc a) zero n = refl
same-ne (suc a) (suc b) n = same-ne a b (λ e. n (ap suc e))

pub same-le : (a b : ℕ) → same a b ≤ 1
same-le zero zero = omega arith
same-le zero (suc b) = omega arith
same-le (suc a) zero = omega arith
same-le (suc a) (suc b) = same-le a b

module _ (q E C : ℕ) where
  -- lists of E times C numbers below q
  abbrev pub Numbers : Type 0
  Numbers = Tuple (mod_ops q []) (E * C)

  -- number u·C + v, the one at x^u·t^v
  abbrev pub number : Numbers → ℕ → ℕ → ℕ
  number w u v = get_or w.0 (u * C + v) 0

  -- what is used of a ring on them, where e and c are E - 1 and C - 1
  pub record ListRing (e c : ℕ) (S : CommRingOn Numbers) : Type 0 where
    pub number-add : (a b : Numbers) (u v : ℕ) → u ≤ e → v ≤ c
        → number (S.◌⊕◌ a b) u v ≡ (number a u v + number b u v) % q
    pub number-zero : (u v : ℕ) → u ≤ e → v ≤ c → number S.zero u v ≡ 0
    pub number-one : (u v : ℕ) → u ≤ e → v ≤ c → number S.one u v ≡ same 0 u * same 0 v
    pub tau : Numbers
    pub back : ℕ → ℕ
    pub tau-zero : (w : Numbers) (u : ℕ) → u ≤ e
        → number (S.◌⊗◌ tau w) u zero ≡ (0 + number w u c * back zero) % q
    pub tau-suc : (w : Numbers) (u v : ℕ) → u ≤ e → suc v ≤ c
        → number (S.◌⊗◌ tau w) u (suc v) ≡ (number w u v + number w u c * back (suc v)) % q
    pub xi : Numbers
    pub turn : ℕ → ℕ → ℕ
    pub xi-zero : (w : Numbers) → ((v : ℕ) → v ≤ c → number w e v ≡ 0) → (v : ℕ) → v ≤ c
        → number (S.◌⊗◌ xi w) zero v ≡ 0
    pub xi-suc : (w : Numbers) → ((v : ℕ) → v ≤ c → number w e v ≡ 0) → (u v : ℕ) → suc u ≤ e → v ≤ c
        → number (S.◌⊗◌ xi w) (suc u) v ≡ number w u v
    pub xi-top : (w : Numbers) → ((u v : ℕ) → u < e → v ≤ c → number w u v ≡ 0)
        → ((v : ℕ) → v ≤ c → number w e v ≡ same 0 v)
        → (u v : ℕ) → u ≤ e → v ≤ c → number (S.◌⊗◌ xi w) u v ≡ turn u v

  module _ (two_le : 2 ≤ q) (e c : ℕ) (hE : E ≡ suc e) (hC : C ≡ suc c) (S : CommRingOn Numbers)
      (H : ListRing e c S) where
    infixl 65 ◌⊕◌
    infixl 70 ◌⊗◌
    open S use {ring, monoid, ◌⊕◌, ◌⊗◌}

    abbrev w : ℕ
    w = E * C

    abbrev d : ℕ
    d = C

    abbrev pub ent : Numbers → ℕ → ℕ
    ent a k = get_or a.0 k 0

    -- ---- numbers by their place

    at_place : (a : Numbers) (k : ℕ) → ent a k ≡ number a (k / d) (k % d)
    at_place a k = ap (λ j. get_or a.0 j 0) (sym (div-add-mod' k d))

    row_le : (k : ℕ) → k < w → k / d ≤ e
    row_le k l = let h = row-lt E d k l in let g = hE in omega arith

    column_le : (k : ℕ) → k < w → k % d ≤ c
    column_le k l = let h = column-lt E d k l in let g = hC in omega arith

    is_list : (a : Numbers) → IsTuple (mod_ops q []) w a.0
    is_list a = is_tuple-IsTuple (mod_ops q []) w a.0 a.1

    pub ent-lt : (a : Numbers) (k : ℕ) → k < w → ent a k < q
    ent-lt a k l = let h = is_list a in let s = h.right_length in
        ltb-true (get_or a.0 k 0) q (h.of_elements k 0 (omega arith))

    pub ent-ext : (a b : Numbers) → ((k : ℕ) → k < w → ent a k ≡ ent b k) → a ≡ b
    ent-ext a b h = Σ_prop_path (λ x. Bool-set (is_tuple (mod_ops q []) w x) true) {u = a} {v = b}
        (IsTuple-ext (mod_ops q []) w a.0 b.0 (is_list a) (is_list b) h)

    pub ent-add : (a b : Numbers) (k : ℕ) → k < w → ent (a ⊕ b) k ≡ (ent a k + ent b k) % q
    ent-add a b k l = at_place (a ⊕ b) k ∙ H.number-add a b (k / d) (k % d) (row_le k l) (column_le k l)
        ∙ sym (ap₂ (λ x y. (x + y) % q) (at_place a k) (at_place b k))

    pub ent-zero : (k : ℕ) → k < w → ent S.zero k ≡ 0
    ent-zero k l = at_place S.zero k ∙ H.number-zero (k / d) (k % d) (row_le k l) (column_le k l)

    pub ent-sum : (n : ℕ) (f : ℕ → Numbers) (k : ℕ) → k < w
        → ent (sum monoid n f) k ≡ sum nat_monoid n (λ i. ent (f i) k) % q
    ent-sum zero f k l = ent-zero k l ∙ sym (mod-eq_of_lt (let t = two_le in omega arith))
    ent-sum (suc n) f k l = ent-add (sum monoid n f) (f n) k l
        ∙ ap (λ x. (x + ent (f n) k) % q) (ent-sum n f k l)
        ∙ nat.mod-add-mod (sum nat_monoid n (λ i. ent (f i) k)) q (ent (f n) k)

    pub ent-times : (n : ℕ) (a : Numbers) (k : ℕ) → k < w → ent (times monoid n a) k ≡ (n * ent a k) % q
    ent-times n a k l = ent-sum n (λ _. a) k l ∙ ap (λ x. x % q) (sum_const n (ent a k))

    -- a sum of multiples
    pub ent-combination : (n : ℕ) (a : ℕ → ℕ) (f : ℕ → Numbers) (k : ℕ) → k < w
        → ent (sum monoid n (λ s. times monoid (a s) (f s))) k ≡ sum nat_monoid n (λ s. a s * ent (f s) k) % q
    ent-combination n a f k l = ent-sum n (λ s. times monoid (a s) (f s)) k l
        ∙ ap (λ x. x % q) (sum_congr nat_monoid n (λ s. ent (times monoid (a s) (f s)) k) (λ s. (a s * ent (f s) k) % q)
        (λ s _. ent-times (a s) (f s) k l))
        ∙ sum-mod n q (λ s. a s * ent (f s) k)

    -- ---- products of powers of x and t

    power_x : ℕ → Numbers
    power_x zero = S.one
    power_x (suc u) = H.xi ⊗ power_x u

    pub monomial : ℕ → ℕ → Numbers
    monomial u zero = power_x u
    monomial u (suc v) = H.tau ⊗ monomial u v

    IsPower : ℕ → Type 0
    IsPower u = (i j : ℕ) → i ≤ e → j ≤ c → number (power_x u) i j ≡ same u i * same 0 j

    power-top : (u : ℕ) → suc u ≤ e → IsPower u → (v : ℕ) → v ≤ c → number (power_x u) e v ≡ 0
    unfolding IsPower
    power-top u l h v lv = h e v (omega arith) lv
        ∙ ap (λ x. x * same 0 v) (same-ne u e (λ h. absurd (omega arith))) ∙ nat.zero-mul (same 0 v)

    power-next : (u : ℕ) → suc u ≤ e → IsPower u → IsPower (suc u)
    unfolding IsPower power_x
    power-next u l h zero j li lj = H.xi-zero (power_x u) (power-top u l h) j lj ∙ sym (nat.zero-mul (same 0 j))
    power-next u l h (suc i) j li lj = H.xi-suc (power_x u) (power-top u l h) i j li lj ∙ h i j (omega arith) lj

    power_x-number : (u : ℕ) → u ≤ e → IsPower u
    unfolding IsPower power_x
    power_x-number zero l = H.number-one
    power_x-number (suc u) l = power-next u l (power_x-number u (omega arith))

    IsMonomial : ℕ → ℕ → Type 0
    IsMonomial u v = (i j : ℕ) → i ≤ e → j ≤ c → number (monomial u v) i j ≡ same u i * same v j

    small-mod : (a b : ℕ) → a ≤ 1 → b ≤ 1 → (a * b) % q ≡ a * b
    small-mod a b la lb = mod-eq_of_lt (let t = two_le in let h : a * b ≤ 1 * 1 = nat.mul-le-mul la lb in omega arith)

    monomial-next : (u v : ℕ) → suc v ≤ c → IsMonomial u v → IsMonomial u (suc v)
    unfolding IsMonomial monomial
    monomial-next u v l h i zero li lj = H.tau-zero (monomial u v) i li
        ∙ ap (λ x. (0 + x * H.back zero) % q) (h i c li (omega arith)
        ∙ ap (λ x. same u i * x) (same-ne v c (λ g. absurd (omega arith))))
        ∙ (let z : 0 + same u i * 0 * H.back zero ≡ 0 = omega arith in ap (λ x. x % q) z)
        ∙ mod-eq_of_lt (let t = two_le in omega arith)
        ∙ (let z : 0 ≡ same u i * 0 = omega arith in z)
    monomial-next u v l h i (suc j) li lj = H.tau-suc (monomial u v) i j li lj
        ∙ ap₂ (λ x y. (x + y * H.back (suc j)) % q) (h i j li (omega arith))
        (h i c li (omega arith) ∙ ap (λ x. same u i * x) (same-ne v c (λ g. absurd (omega arith))))
        ∙ (let z : same u i * same v j + same u i * 0 * H.back (suc j) ≡ same u i * same v j = omega arith in
        ap (λ x. x % q) z)
        ∙ small-mod (same u i) (same v j) (same-le u i) (same-le v j)

    monomial-number : (u v : ℕ) → u ≤ e → v ≤ c → IsMonomial u v
    unfolding IsMonomial monomial IsPower
    monomial-number u zero lu lv = power_x-number u lu
    monomial-number u (suc v) lu lv = monomial-next u v lv (monomial-number u v lu (omega arith))

    -- the one that is 1 at this place
    pub mono : ℕ → Numbers
    mono s = monomial (s / d) (s % d)

    mono-ent : (s k : ℕ) → s < w → k < w → ent (mono s) k ≡ same (s / d) (k / d) * same (s % d) (k % d)
    unfolding mono IsMonomial
    mono-ent s k ls lk = at_place (monomial (s / d) (s % d)) k
        ∙ monomial-number (s / d) (s % d) (row_le s ls) (column_le s ls) (k / d) (k % d) (row_le k lk) (column_le k lk)

    mono-same : (s : ℕ) → s < w → ent (mono s) s ≡ 1
    mono-same s l = mono-ent s s l l ∙ ap₂ (λ x y. x * y) (same-eq (s / d)) (same-eq (s % d))

    mono-other : (s k : ℕ) → s < w → k < w → (s ≡ k → ⊥) → ent (mono s) k ≡ 0
    mono-other s k ls lk n = mono-ent s k ls lk ∙ ⊎_elim
        (λ (h : s / d ≡ k / d). ⊎_elim
        (λ (g : s % d ≡ k % d). absurd (n (sym (div-add-mod' s d) ∙ ap₂ (λ x y. x * d + y) h g ∙ div-add-mod' k d)))
        (λ (g : s % d ≡ k % d → ⊥). ap (λ x. same (s / d) (k / d) * x) (same-ne (s % d) (k % d) g)
        ∙ nat.mul-zero (same (s / d) (k / d)))
        (cases_eq (s % d) (k % d)))
        (λ (h : s / d ≡ k / d → ⊥). ap (λ x. x * same (s % d) (k % d)) (same-ne (s / d) (k / d) h)
        ∙ nat.zero-mul (same (s % d) (k % d)))
        (cases_eq (s / d) (k / d))

    -- each list is the sum of its numbers times these
    pub expand : (a : Numbers) → a ≡ sum monoid w (λ s. times monoid (ent a s) (mono s))
    expand a = ent-ext a (sum monoid w (λ s. times monoid (ent a s) (mono s))) (λ k l.
        sym (ent-combination w (ent a) mono k l
        ∙ ap (λ x. x % q) (sum_eq_single nat_monoid w k (λ s. ent a s * ent (mono s) k) l
        (λ s ls n. ap (λ x. ent a s * x) (mono-other s k ls l n) ∙ nat.mul-zero (ent a s))
        ∙ ap (λ x. ent a k * x) (mono-same k l) ∙ nat.mul-one (ent a k))
        ∙ mod-eq_of_lt (ent-lt a k l)))

    -- so a product is a sum of its numbers times these products
    pub product-expand : (a b : Numbers) → a ⊗ b ≡ sum monoid w (λ s. times monoid (ent a s) (mono s ⊗ b))
    product-expand a b = ap (λ x. x ⊗ b) (expand a)
        ∙ sum-mul ring w b (λ s. times monoid (ent a s) (mono s))
        ∙ sum_congr monoid w (λ s. times monoid (ent a s) (mono s) ⊗ b) (λ s. times monoid (ent a s) (mono s ⊗ b))
        (λ s _. times-mul_assoc ring (ent a s) (mono s) b)

    pub ent-product : (a b : Numbers) (k : ℕ) → k < w
        → ent (a ⊗ b) k ≡ sum nat_monoid w (λ s. ent a s * ent (mono s ⊗ b) k) % q
    ent-product a b k l = ap (λ x. ent x k) (product-expand a b) ∙ ent-combination w (ent a) (λ s. mono s ⊗ b) k l

    -- ---- the next of these products

    monomial-xi : (u v : ℕ) → monomial (suc u) v ≡ H.xi ⊗ monomial u v
    unfolding monomial power_x
    monomial-xi u zero = refl
    monomial-xi u (suc v) = ap (λ x. H.tau ⊗ x) (monomial-xi u v)
        ∙ ring3 S (λ t x m. (t ⊠ (x ⊠ m), x ⊠ (t ⊠ m))) refl H.tau H.xi (monomial u v)

    pub mono-zero : (b : Numbers) → mono 0 ⊗ b ≡ b
    unfolding mono monomial power_x
    mono-zero b = ap (λ x. x ⊗ b) (ap₂ monomial (nat.div-eq_of_lt (let g = hC in let h : 0 < d = omega arith in h))
        (mod-eq_of_lt (let g = hC in let h : 0 < d = omega arith in h)))
        ∙ S.one-mul b

    pub mono-tau : (s : ℕ) → suc s < d → (b : Numbers) → mono (suc s) ⊗ b ≡ H.tau ⊗ (mono s ⊗ b)
    unfolding mono monomial
    mono-tau s l b =
        ap (λ x. x ⊗ b) (ap₂ monomial (nat.div-eq_of_lt l) (mod-eq_of_lt l)
        ∙ sym (ap (λ x. H.tau ⊗ x) (ap₂ monomial (nat.div-eq_of_lt (let h : s < d = omega arith in h))
        (mod-eq_of_lt (let h : s < d = omega arith in h)))))
        ∙ S.mul_assoc H.tau (monomial (s / d) (s % d)) b

    pub mono-xi : (s : ℕ) (b : Numbers) → mono (s + d) ⊗ b ≡ H.xi ⊗ (mono s ⊗ b)
    unfolding mono
    mono-xi s b =
        ap (λ x. x ⊗ b) (ap₂ monomial (nat.add-div_right s (let g = hC in let h : 0 < d = omega arith in h)
        ∙ (let h : s / d + 1 ≡ suc (s / d) = omega arith in h)) (nat.add-mod_right s d)
        ∙ monomial-xi (s / d) (s % d))
        ∙ S.mul_assoc H.xi (monomial (s / d) (s % d)) b

    -- ---- products by t and x, by numbers

    abbrev pub previous : (ℕ → ℕ) → ℕ → ℕ
    previous f k = cond (nat_eq (k % C) 0) 0 (f (k - 1))

    pub ent-tau : (a : Numbers) (k : ℕ) → k < w
        → ent (H.tau ⊗ a) k ≡ (previous (ent a) k + ent a (k / C * C + c) * H.back (k % C)) % q
    ent-tau a k l = at_place (H.tau ⊗ a) k ∙ go (k % d) refl
      where
        go : (v : ℕ) → k % d ≡ v
            → number (H.tau ⊗ a) (k / d) (k % d)
            ≡ (previous (ent a) k + ent a (k / C * C + c) * H.back (k % C)) % q
        go zero h = ap (number (H.tau ⊗ a) (k / d)) h ∙ H.tau-zero a (k / d) (row_le k l)
            ∙ sym (ap₂ (λ x y. (cond (nat_eq x 0) 0 (ent a (k - 1)) + ent a (k / C * C + c) * H.back y) % q) h h)
        go (suc v) h =
            let low = column_le k l in
            let at : k / C * C + k % C ≡ k = div-add-mod' k C in
            let e1 : k / C * C + v ≡ k - 1 = omega arith in
            ap (number (H.tau ⊗ a) (k / d)) h ∙ H.tau-suc a (k / d) v (row_le k l) (omega arith)
            ∙ ap (λ j. (get_or a.0 j 0 + ent a (k / C * C + c) * H.back (suc v)) % q) e1
            ∙ ap (λ b. (cond b 0 (ent a (k - 1)) + ent a (k / C * C + c) * H.back (suc v)) % q)
            (sym (ne_eqb (suc v) 0 (λ g. absurd (omega arith))))
            ∙ sym (ap₂ (λ x y. (cond (nat_eq x 0) 0 (ent a (k - 1)) + ent a (k / C * C + c) * H.back y) % q) h h)

    -- x times the products of powers of which x^e is a factor
    pub top : ℕ → Numbers
    top v = H.xi ⊗ mono (e * d + v)

    mono-top : (v : ℕ) → v ≤ c → mono (e * d + v) ≡ monomial e v
    unfolding mono
    mono-top v l = ap₂ monomial (div-mul-add e d v (let g = hC in omega arith))
        (mod-mul-add e d v (let g = hC in omega arith))

    pub top-zero : (k : ℕ) → k < w → ent (top 0) k ≡ H.turn (k / d) (k % d)
    unfolding top IsMonomial
    top-zero k l =
        let m = monomial-number e 0 (let h : e ≤ e = omega arith in h) (let h : 0 ≤ c = omega arith in h) in
        at_place (H.xi ⊗ mono (e * d + 0)) k
        ∙ ap (λ x. number (H.xi ⊗ x) (k / d) (k % d)) (mono-top 0 (let h : 0 ≤ c = omega arith in h))
        ∙ H.xi-top (monomial e 0)
        (λ u v lu lv. m u v (omega arith) lv ∙ ap (λ x. x * same 0 v) (same-ne e u (λ h. absurd (omega arith)))
        ∙ nat.zero-mul (same 0 v))
        (λ v lv. m e v (omega arith) lv ∙ ap (λ x. x * same 0 v) (same-eq e) ∙ nat.one-mul (same 0 v))
        (k / d) (k % d) (row_le k l) (column_le k l)

    pub top-suc : (v : ℕ) → suc v ≤ c → top (suc v) ≡ H.tau ⊗ top v
    unfolding top monomial
    top-suc v l = ap (λ x. H.xi ⊗ x) (mono-top (suc v) l)
        ∙ ring3 S (λ x t m. (x ⊠ (t ⊠ m), t ⊠ (x ⊠ m))) refl H.xi H.tau (monomial e v)
        ∙ ap (λ x. H.tau ⊗ (H.xi ⊗ x)) (sym (mono-top v (omega arith)))

    abbrev pub lower : (ℕ → ℕ) → ℕ → ℕ
    lower f k = cond (nat_lt k C) 0 (f (k - C))

    mono-up : (s : ℕ) → H.xi ⊗ mono s ≡ mono (s + d)
    mono-up s = sym (sym (S.mul-one (mono (s + d))) ∙ mono-xi s S.one ∙ ap (λ x. H.xi ⊗ x) (S.mul-one (mono s)))

    lower-sum : (a : Numbers) (k : ℕ) → k < w
        → sum nat_monoid (e * d) (λ s. ent a s * ent (H.xi ⊗ mono s) k) ≡ lower (ent a) k
    lower-sum a k l = sum_congr nat_monoid (e * d) (λ s. ent a s * ent (H.xi ⊗ mono s) k)
        (λ s. ent a s * ent (mono (s + d)) k) (λ s _. ap (λ x. ent a s * ent x k) (mono-up s))
        ∙ ⊎_elim
        (λ (h : k < C). sum_eq_zero nat_monoid (e * d) (λ s. ent a s * ent (mono (s + d)) k)
        (λ s ls. other s ls (λ g. absurd (omega arith)))
        ∙ sym (ap (λ b. cond b 0 (ent a (k - C))) (lt-ltb k C h)))
        (λ (h : C ≤ k). sum_eq_single nat_monoid (e * d) (k - C) (λ s. ent a s * ent (mono (s + d)) k)
        (let g = whole in omega arith) (λ s ls n. other s ls (λ g. n (omega arith)))
        ∙ (let g : k - C + d ≡ k = omega arith in ap (λ j. ent a (k - C) * ent (mono j) k) g)
        ∙ ap (λ x. ent a (k - C) * x) (mono-same k l) ∙ nat.mul-one (ent a (k - C))
        ∙ sym (ap (λ b. cond b 0 (ent a (k - C))) (le-ltb k C h)))
        (cases_lt k C)
      where
        whole : E * C ≡ e * C + C
        whole = ap (λ x. x * C) hE ∙ (let h : suc e * C ≡ e * C + C = omega arith in h)

        other : (s : ℕ) → s < e * d → (s + d ≡ k → ⊥) → ent a s * ent (mono (s + d)) k ≡ 0
        other s ls n = ap (λ x. ent a s * x) (mono-other (s + d) k (let g = whole in omega arith) l n)
            ∙ nat.mul-zero (ent a s)

    pub ent-xi : (a : Numbers) (k : ℕ) → k < w
        → ent (H.xi ⊗ a) k ≡ (lower (ent a) k + sum nat_monoid C (λ v. ent a (e * C + v) * ent (top v) k)) % q
    unfolding top
    ent-xi a k l =
        let whole : E * C ≡ e * C + C = ap (λ x. x * C) hE ∙ (let h : suc e * C ≡ e * C + C = omega arith in h) in
        ap (λ x. ent x k) (ap (λ x. H.xi ⊗ x) (expand a)
        ∙ mul-sum ring w H.xi (λ s. times monoid (ent a s) (mono s))
        ∙ sum_congr monoid w (λ s. H.xi ⊗ times monoid (ent a s) (mono s))
        (λ s. times monoid (ent a s) (H.xi ⊗ mono s)) (λ s _. mul-times_comm ring (ent a s) H.xi (mono s)))
        ∙ ent-combination w (ent a) (λ s. H.xi ⊗ mono s) k l
        ∙ ap (λ x. x % q) (ap (λ n. sum nat_monoid n (λ s. ent a s * ent (H.xi ⊗ mono s) k)) whole
        ∙ sum-split nat_monoid (e * d) d (λ s. ent a s * ent (H.xi ⊗ mono s) k)
        ∙ ap (λ x. x + sum nat_monoid d (λ v. ent a (e * d + v) * ent (H.xi ⊗ mono (e * d + v)) k))
        (lower-sum a k l))
