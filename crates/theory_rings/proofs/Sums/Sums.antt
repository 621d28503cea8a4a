-- Sums over an index range: congruence, exchange, splitting, a term taken out, a single term, maps.
use Rattle.std.specs.Prelude.{◌≡◌, ℕ, zero, suc, ◌+◌, ◌<◌, ◌≤◌}
use Rattle.std.proofs.Common.{refl, sym, ◌∙◌, ap, ap₂, arith, ⊎_elim}
use Rattle.std.proofs.lemmas.Bool.{cases_lt}
use Rattle.theory_rings.specs.Ring.{AddCommMonoidOn, AddCommGroupOn, RingOn}
use Rattle.theory_rings.specs.Sum.{sum_by_ops, sum}
use Rattle.theory_rings.proofs.Sums.Bump.{bump, bump-below, bump-above, bump-lt, bump-apart}
use Rattle.theory_rings.proofs.Rings.RingLaws.{add-zero, add_add_add_comm, mul-zero, zero-mul, neg_add, neg_zero}

-- sums with the same terms are the same, by whatever operations
pub sum_by_ops_congr : {V : Type 0} (z : V) (plus : V → V → V) (n : ℕ) (f g : ℕ → V) → ((i : ℕ) → i < n → f i ≡ g i)
    → sum_by_ops z plus n f ≡ sum_by_ops z plus n g
sum_by_ops_congr z plus zero f g h = refl
sum_by_ops_congr z plus (suc n) f g h =
    ap₂ plus (sum_by_ops_congr z plus n f g (λ i l. h i (omega arith))) (h n (omega arith))

module _ {V : Type 0} (G : AddCommMonoidOn V) where
  infixl 65 ◌⊕◌
  open G use {◌⊕◌}

  pub sum_congr : (n : ℕ) (f g : ℕ → V) → ((i : ℕ) → i < n → f i ≡ g i) → sum G n f ≡ sum G n g
  sum_congr n f g h = sum_by_ops_congr G.zero G.◌⊕◌ n f g h

  pub sum_eq_zero : (n : ℕ) (f : ℕ → V) → ((i : ℕ) → i < n → f i ≡ G.zero) → sum G n f ≡ G.zero
  sum_eq_zero zero f h = refl
  sum_eq_zero (suc n) f h = ap₂ (λ x y. x ⊕ y) (sum_eq_zero n f (λ i l. h i (omega arith))) (h n (omega arith))
      ∙ G.zero-add G.zero

  pub sum-add : (n : ℕ) (f g : ℕ → V) → sum G n (λ i. f i ⊕ g i) ≡ sum G n f ⊕ sum G n g
  sum-add zero f g = sym (G.zero-add G.zero)
  sum-add (suc n) f g = ap (λ x. x ⊕ (f n ⊕ g n)) (sum-add n f g)
      ∙ add_add_add_comm G (sum G n f) (sum G n g) (f n) (g n)

  -- the order of two sums can be changed
  pub sum_comm : (n m : ℕ) (f : ℕ → ℕ → V) → sum G n (λ i. sum G m (λ j. f i j)) ≡ sum G m (λ j. sum G n (λ i. f i j))
  sum_comm zero m f = sym (sum_eq_zero m (λ j. G.zero) (λ j l. refl))
  sum_comm (suc n) m f =
      ap (λ x. x ⊕ sum G m (λ j. f n j)) (sum_comm n m f) ∙ sym (sum-add m (λ j. sum G n (λ i. f i j)) (λ j. f n j))

  pub sum-split : (n m : ℕ) (f : ℕ → V) → sum G (n + m) f ≡ sum G n f ⊕ sum G m (λ i. f (n + i))
  sum-split n zero f = let e : n + zero ≡ n = omega arith in rw e (sym (add-zero G (sum G n f)))
  sum-split n (suc m) f =
      let e : n + suc m ≡ suc (n + m) = omega arith in
      rw e (ap (λ x. x ⊕ f (n + m)) (sum-split n m f) ∙ G.add_assoc (sum G n f) (sum G m (λ i. f (n + i))) (f (n + m)))

  pub sum_first : (n : ℕ) (f : ℕ → V) → sum G (suc n) f ≡ f zero ⊕ sum G n (λ i. f (suc i))
  sum_first zero f = G.add_comm G.zero (f zero)
  sum_first (suc n) f = ap (λ x. x ⊕ f (suc n)) (sum_first n f)
      ∙ G.add_assoc (f zero) (sum G n (λ i. f (suc i))) (f (suc n))

  -- one term stands apart
  pub sum_take_out : (n k : ℕ) (f : ℕ → V) → k < suc n → sum G (suc n) f ≡ f k ⊕ sum G n (λ i. f (bump k i))
  sum_take_out zero k f l = let e : k ≡ zero = omega arith in rw e (G.add_comm G.zero (f zero))
  sum_take_out (suc n) k f l = ⊎_elim (λ h. earlier h (sum_take_out n k f h)) last (cases_lt k (suc n))
    where
      last : suc n ≤ k → sum G (suc (suc n)) f ≡ f k ⊕ sum G (suc n) (λ i. f (bump k i))
      last g =
          let e : suc n ≡ k = omega arith in
          ap₂ (λ x y. x ⊕ f y) (sum_congr (suc n) f (λ i. f (bump k i))
          (λ i h. ap f (sym (bump-below k i (omega arith))))) e
          ∙ G.add_comm (sum G (suc n) (λ i. f (bump k i))) (f k)

      earlier : k < suc n → sum G (suc n) f ≡ f k ⊕ sum G n (λ i. f (bump k i))
          → sum G (suc (suc n)) f ≡ f k ⊕ sum G (suc n) (λ i. f (bump k i))
      earlier h ih =
          ap₂ (λ x y. x ⊕ f y) ih (sym (bump-above k n (omega arith)))
          ∙ G.add_assoc (f k) (sum G n (λ i. f (bump k i))) (f (bump k n))

  pub sum_eq_single : (n k : ℕ) (f : ℕ → V) → k < n → ((i : ℕ) → i < n → (i ≡ k → ⊥) → f i ≡ G.zero) → sum G n f ≡ f k
  sum_eq_single zero k f l h = absurd (omega arith)
  sum_eq_single (suc n) k f l h =
      sum_take_out n k f l
      ∙ ap (λ x. f k ⊕ x) (sum_eq_zero n (λ i. f (bump k i)) (λ i g. h (bump k i) (bump-lt k i n g) (bump-apart k i)))
      ∙ add-zero G (f k)

-- a map that keeps sums
pub map-sum : {V W : Type 0} (G : AddCommMonoidOn V) (H : AddCommMonoidOn W) (h : V → W) → h G.zero ≡ H.zero
    → ((a b : V) → h (G.◌⊕◌ a b) ≡ H.◌⊕◌ (h a) (h b)) → (n : ℕ) (f : ℕ → V) → h (sum G n f) ≡ sum H n (λ i. h (f i))
map-sum G H h z e zero f = z
map-sum G H h z e (suc n) f = e (sum G n f) (f n) ∙ ap (λ x. H.◌⊕◌ x (h (f n))) (map-sum G H h z e n f)

pub sum-neg : {V : Type 0} (G : AddCommGroupOn V) (n : ℕ) (f : ℕ → V)
    → sum G.monoid n (λ i. G.neg (f i)) ≡ G.neg (sum G.monoid n f)
sum-neg G n f = sym (map-sum G.monoid G.monoid G.neg (neg_zero G) (neg_add G) n f)

module _ {K : Type 0} (R : RingOn K) where
  infixl 65 ◌⊕◌
  infixl 70 ◌⊗◌
  open R use {monoid, ◌⊕◌, ◌⊗◌, neg}

  pub mul-sum : (n : ℕ) (a : K) (f : ℕ → K) → a ⊗ sum monoid n f ≡ sum monoid n (λ i. a ⊗ f i)
  mul-sum n a f = map-sum monoid monoid (λ x. a ⊗ x) (mul-zero R a) (R.mul-add a) n f

  pub sum-mul : (n : ℕ) (a : K) (f : ℕ → K) → sum monoid n f ⊗ a ≡ sum monoid n (λ i. f i ⊗ a)
  sum-mul n a f = map-sum monoid monoid (λ x. x ⊗ a) (zero-mul R a) (λ x y. R.add-mul x y a) n f
