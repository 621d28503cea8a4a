-- Families, as functions from the numbers of which the first n count: one more member at the end, a member put in, two
-- families one after the other, a choice of one member for each number.
use Rattle.std.specs.Prelude.{◌≡◌, ℕ, suc, pred, ◌+◌, ◌-◌, ◌<◌, ◌≤◌, cond, ltb, ◌⊎◌}
use Rattle.std.proofs.Common.{refl, sym, ap, subst, arith, inl, inr, ⊎_elim}
use Rattle.std.proofs.lemmas.Bool.{cases_lt, lt-ltb, le-ltb}
use Rattle.theory_rings.proofs.Sums.Bump.{bump, bump-below, bump-above}
pub use Rattle.theory_spaces.specs.Families.{push}

pub push-below : {X : Type 0} (n : ℕ) (x : X) (v : ℕ → X) (i : ℕ) → i < n → push n x v i ≡ v i
push-below n x v i l = rw (lt-ltb i n l) refl

pub push-above : {X : Type 0} (n : ℕ) (x : X) (v : ℕ → X) (i : ℕ) → n ≤ i → push n x v i ≡ x
push-above n x v i l = rw (le-ltb i n l) refl

pub push-at : {X : Type 0} (n : ℕ) (x : X) (v : ℕ → X) → push n x v n ≡ x
push-at n x v = push-above n x v n (omega arith)

-- c with s put in at the place k
abbrev pub put_at : {X : Type 0} → ℕ → X → (ℕ → X) → ℕ → X
put_at k s c i = cond (ltb i k) (c i) (cond (ltb k i) (c (pred i)) s)

pub put_at-here : {X : Type 0} (k : ℕ) (s : X) (c : ℕ → X) → put_at k s c k ≡ s
put_at-here k s c = rw (le-ltb k k (omega arith)) refl

pub put_at-bump : {X : Type 0} (k : ℕ) (s : X) (c : ℕ → X) (i : ℕ) → put_at k s c (bump k i) ≡ c i
put_at-bump k s c i = ⊎_elim
    (λ l. rw (bump-below k i l) (rw (lt-ltb i k l) refl))
    (λ l. rw (bump-above k i l)
    (let h : k ≤ suc i = omega arith in rw (le-ltb (suc i) k h) (rw (lt-ltb k (suc i) (omega arith)) refl)))
    (cases_lt i k)

pub put_at-else : {X : Type 0} (k : ℕ) (s z : X) (i : ℕ) → (i ≡ k → ⊥) → put_at k s (λ _. z) i ≡ z
put_at-else k s z i d = ⊎_elim (λ (l : i < k). rw (lt-ltb i k l) refl)
    (λ (l : k ≤ i). let g : k < i =
    ⊎_elim (λ (x : k < i). x) (λ (x : i ≤ k). absurd (d (omega arith))) (cases_lt k i) in
    rw (le-ltb i k l) (rw (lt-ltb k i g) refl)) (cases_lt i k)

-- v below n, and then w
abbrev pub join : {X : Type 0} → ℕ → (ℕ → X) → (ℕ → X) → ℕ → X
join n v w i = cond (ltb i n) (v i) (w (i - n))

pub join-below : {X : Type 0} (n : ℕ) (v w : ℕ → X) (i : ℕ) → i < n → join n v w i ≡ v i
join-below n v w i l = rw (lt-ltb i n l) refl

pub join-above : {X : Type 0} (n : ℕ) (v w : ℕ → X) (i : ℕ) → join n v w (n + i) ≡ w i
join-above n v w i = rw (le-ltb (n + i) n (omega arith)) (let e : n + i - n ≡ i = omega arith in ap w e)

-- what holds of the members of both holds of all
pub each_join : {X : Type 0} (n m : ℕ) (v w : ℕ → X) (P : X → Type 0) → ((i : ℕ) → i < n → P (v i))
    → ((j : ℕ) → j < m → P (w j))
    → (i : ℕ) → i < n + m → P (join n v w i)
each_join n m v w P hv hw i l = ⊎_elim
    (λ (g : i < n). subst P (sym (join-below n v w i g)) (hv i g))
    (λ (g : n ≤ i). let e : n + (i - n) ≡ i = omega arith in
    subst P (ap (join n v w) e) (subst P (sym (join-above n v w (i - n))) (hw (i - n) (omega arith)))) (cases_lt i n)

chosen : {S : Type 0} (n : ℕ) (Q : ℕ → S → Type 0) → S → ((i : ℕ) → i < n → (s : S) × Q i s) → (i : ℕ) → (i < n)
    ⊎ (n ≤ i) → S
chosen n Q z h i (inl l) = (h i l).0
chosen n Q z h i (inr l) = z

chosen-fits : {S : Type 0} (n : ℕ) (Q : ℕ → S → Type 0) (z : S) (h : (i : ℕ) → i < n → (s : S) × Q i s) (i : ℕ)
    (d : (i < n) ⊎ (n ≤ i)) → i < n → Q i (chosen n Q z h i d)
unfolding chosen
chosen-fits n Q z h i (inl l) g = (h i l).1
chosen-fits n Q z h i (inr l) g = absurd (omega arith)

-- one choice for each number below n
pub choose_each : {S : Type 0} (n : ℕ) (Q : ℕ → S → Type 0) (z : S) → ((i : ℕ) → i < n → (s : S) × Q i s)
    → (s : ℕ → S) × ((i : ℕ) → i < n → Q i (s i))
choose_each n Q z h = (λ i. chosen n Q z h i (cases_lt i n), λ i l. chosen-fits n Q z h i (cases_lt i n) l)

-- a claim for each number below n + 1, from those below n and n
pub below_suc : (n : ℕ) (P : ℕ → Type 0) → ((i : ℕ) → i < n → P i) → P n → (i : ℕ) → i < suc n → P i
below_suc n P h e i l =
    ⊎_elim (λ (g : i < n). h i g) (λ (g : n ≤ i). let q : i ≡ n = omega arith in rw q e) (cases_lt i n)
