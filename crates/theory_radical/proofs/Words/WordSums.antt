-- Sums over all words of n letters: turning the words leaves them as they are, and the power of a sum is one of them.
use Rattle.std.specs.Prelude.{◌≡◌, ℕ, zero, suc, ◌+◌, ◌<◌, Bool, true, false, cond, List, [], ◌∷◌, ◌++◌, length, ◌⊎◌}
use Rattle.std.specs.Prelude.{not}
use Rattle.std.proofs.Common.{refl, sym, ◌∙◌, ap, ap₂, arith, ⊎_elim}
use Rattle.std.proofs.lemmas.Bool.{false≢true, true≢false}
use Rattle.theory_rings.specs.Ring.{AddCommMonoidOn, RingOn}
use Rattle.theory_rings.specs.Sum.{sum}
use Rattle.theory_rings.specs.Power.{power}
use Rattle.theory_rings.proofs.Rings.RingLaws.{add-zero, add_add_add_comm}
use Rattle.theory_rings.proofs.Sums.Sums.{sum_congr, sum_eq_zero, sum_eq_single}
use Rattle.theory_radical.proofs.Words.Words.{turn, turns, head_of, tail_of, repeat}

module _ {V : Type 0} (M : AddCommMonoidOn V) where
  infixl 65 ◌⊕◌
  open M use {◌⊕◌}

  -- the sum of f over all words of n letters
  abbrev pub sum_words : ℕ → (List Bool → V) → V
  sum_words zero f = f []
  sum_words (suc n) f = sum_words n (λ w. f (true ∷ w)) ⊕ sum_words n (λ w. f (false ∷ w))

  pub sum_words_congr : (n : ℕ) (f g : List Bool → V) → ((w : List Bool) → length w ≡ n → f w ≡ g w)
      → sum_words n f ≡ sum_words n g
  sum_words_congr zero f g h = h [] refl
  sum_words_congr (suc n) f g h = ap₂ (λ x y. x ⊕ y)
      (sum_words_congr n (λ w. f (true ∷ w)) (λ w. g (true ∷ w)) (λ w e. h (true ∷ w) (ap suc e)))
      (sum_words_congr n (λ w. f (false ∷ w)) (λ w. g (false ∷ w)) (λ w e. h (false ∷ w) (ap suc e)))

  sum_words-zero : (n : ℕ) → sum_words n (λ w. M.zero) ≡ M.zero
  sum_words-zero zero = refl
  sum_words-zero (suc n) = ap₂ (λ x y. x ⊕ y) (sum_words-zero n) (sum_words-zero n) ∙ M.zero-add M.zero

  pub sum_words_eq_zero : (n : ℕ) (f : List Bool → V) → ((w : List Bool) → length w ≡ n → f w ≡ M.zero)
      → sum_words n f ≡ M.zero
  sum_words_eq_zero n f h = sum_words_congr n f (λ w. M.zero) h ∙ sum_words-zero n

  pub sum_words-add : (n : ℕ) (f g : List Bool → V) → sum_words n (λ w. f w ⊕ g w) ≡ sum_words n f ⊕ sum_words n g
  sum_words-add zero f g = refl
  sum_words-add (suc n) f g =
      ap₂ (λ x y. x ⊕ y) (sum_words-add n (λ w. f (true ∷ w)) (λ w. g (true ∷ w)))
      (sum_words-add n (λ w. f (false ∷ w)) (λ w. g (false ∷ w)))
      ∙ add_add_add_comm M (sum_words n (λ w. f (true ∷ w))) (sum_words n (λ w. g (true ∷ w)))
      (sum_words n (λ w. f (false ∷ w))) (sum_words n (λ w. g (false ∷ w)))

  pub sum_words-sum : (n k : ℕ) (f : ℕ → List Bool → V)
      → sum_words n (λ w. sum M k (λ i. f i w)) ≡ sum M k (λ i. sum_words n (f i))
  sum_words-sum n zero f = sum_words-zero n
  sum_words-sum n (suc k) f = sum_words-add n (λ w. sum M k (λ i. f i w)) (f k)
      ∙ ap (λ x. x ⊕ sum_words n (f k)) (sum_words-sum n k f)

  -- by the first q letters
  pub sum_words-split : (q r : ℕ) (f : List Bool → V)
      → sum_words (q + r) f ≡ sum_words q (λ u. sum_words r (λ v. f (u ++ v)))
  sum_words-split zero r f = let e : 0 + r ≡ r = omega arith in ap (λ k. sum_words k f) e
  sum_words-split (suc q) r f =
      let e : suc q + r ≡ suc (q + r) = omega arith in
      ap (λ k. sum_words k f) e
      ∙ ap₂ (λ x y. x ⊕ y) (sum_words-split q r (λ w. f (true ∷ w))) (sum_words-split q r (λ w. f (false ∷ w)))

  -- one word, where the others give 0
  pub sum_words_eq_single : (n : ℕ) (u : List Bool) → length u ≡ n → (f : List Bool → V)
      → ((v : List Bool) → length v ≡ n → (v ≡ u → ⊥) → f v ≡ M.zero)
      → sum_words n f ≡ f u
  sum_words_eq_single zero [] l f h = refl
  sum_words_eq_single zero (x ∷ u) l f h = absurd (omega arith)
  sum_words_eq_single (suc n) [] l f h = absurd (omega arith)
  sum_words_eq_single (suc n) (true ∷ u) l f h =
      ap₂ (λ x y. x ⊕ y) (sum_words_eq_single n u (omega arith) (λ w. f (true ∷ w))
      (λ v e d. h (true ∷ v) (ap suc e) (λ q. d (ap tail_of q))))
      (sum_words_eq_zero n (λ w. f (false ∷ w)) (λ v e. h (false ∷ v) (ap suc e) (λ q. false≢true (ap head_of q))))
      ∙ add-zero M (f (true ∷ u))
  sum_words_eq_single (suc n) (false ∷ u) l f h =
      ap₂ (λ x y. x ⊕ y)
      (sum_words_eq_zero n (λ w. f (true ∷ w)) (λ v e. h (true ∷ v) (ap suc e) (λ q. true≢false (ap head_of q))))
      (sum_words_eq_single n u (omega arith) (λ w. f (false ∷ w))
      (λ v e d. h (false ∷ v) (ap suc e) (λ q. d (ap tail_of q))))
      ∙ M.zero-add (f (false ∷ u))

  -- by the last letter
  sum_words-last : (n : ℕ) (f : List Bool → V)
      → sum_words (suc n) f ≡ sum_words n (λ w. f (w ++ (true ∷ []))) ⊕ sum_words n (λ w. f (w ++ (false ∷ [])))
  sum_words-last zero f = refl
  sum_words-last (suc n) f =
      ap₂ (λ x y. x ⊕ y) (sum_words-last n (λ w. f (true ∷ w))) (sum_words-last n (λ w. f (false ∷ w)))
      ∙ add_add_add_comm M (sum_words n (λ w. f (true ∷ (w ++ (true ∷ [])))))
      (sum_words n (λ w. f (true ∷ (w ++ (false ∷ [])))))
      (sum_words n (λ w. f (false ∷ (w ++ (true ∷ []))))) (sum_words n (λ w. f (false ∷ (w ++ (false ∷ [])))))

  sum_words-turn : (n : ℕ) (f : List Bool → V) → sum_words n (λ w. f (turn w)) ≡ sum_words n f
  sum_words-turn zero f = refl
  sum_words-turn (suc n) f = sym (sum_words-last n f)

  -- a sum over turned words is the sum
  pub sum_words-turns : (k n : ℕ) (f : List Bool → V) → sum_words n (λ w. f (turns k w)) ≡ sum_words n f
  sum_words-turns zero n f = refl
  sum_words-turns (suc k) n f = sum_words-turn n (λ w. f (turns k w)) ∙ sum_words-turns k n f

  -- x, or 0
  abbrev pub only : Bool → V → V
  only b x = cond b x M.zero

  pub only-or_only : (b : Bool) (x : V) → x ≡ only b x ⊕ only (not b) x
  only-or_only true x = sym (add-zero M x)
  only-or_only false x = sym (M.zero-add x)

  turns_keep : (k : ℕ) (f : List Bool → V) → ((w : List Bool) → f (turn w) ≡ f w) → (w : List Bool)
      → f (turns k w) ≡ f w
  turns_keep zero f h w = refl
  turns_keep (suc k) f h w = turns_keep k f h (turn w) ∙ h w

  -- Let turning leave f as it is, and let f be 0 at w or exactly one of the N turns of w be marked. The sum over all
  -- words is N times that over the marked ones
  pub sum_words_by_orbits : (n N : ℕ) (f : List Bool → V) (marked : List Bool → Bool)
      → ((w : List Bool) → f (turn w) ≡ f w)
      → ((w : List Bool) → length w ≡ n → (f w ≡ M.zero)
      ⊎ ((k : ℕ) × (k < N) × (marked (turns k w) ≡ true)
      × ((j : ℕ) → j < N → (j ≡ k → ⊥) → marked (turns j w) ≡ false)))
      → sum_words n f ≡ sum M N (λ k. sum_words n (λ w. only (marked w) (f w)))
  sum_words_by_orbits n N f marked keeps one =
      sum_words_congr n f (λ w. sum M N (λ k. only (marked (turns k w)) (f (turns k w)))) (λ w e. ⊎_elim
      (λ (z : f w ≡ M.zero). z ∙ sym (sum_eq_zero M N (λ k. only (marked (turns k w)) (f (turns k w)))
      (λ k l. ap (λ x. only (marked (turns k w)) x) (turns_keep k f keeps w ∙ z) ∙ only_zero (marked (turns k w)))))
      (λ (o : (k : ℕ) × (k < N) × (marked (turns k w) ≡ true)
      × ((j : ℕ) → j < N → (j ≡ k → ⊥) → marked (turns j w) ≡ false)).
      sym (sum_eq_single M N o.0 (λ k. only (marked (turns k w)) (f (turns k w))) o.1
      (λ j l d. ap (λ b. only b (f (turns j w))) (o.3 j l d))
      ∙ ap (λ b. only b (f (turns o.0 w))) o.2 ∙ turns_keep o.0 f keeps w))
      (one w e))
      ∙ sum_words-sum n N (λ k w. only (marked (turns k w)) (f (turns k w)))
      ∙ sum_congr M N (λ k. sum_words n (λ w. only (marked (turns k w)) (f (turns k w))))
      (λ k. sum_words n (λ w. only (marked w) (f w)))
      (λ k l. sum_words-turns k n (λ w. only (marked w) (f w)))
    where
      only_zero : (b : Bool) → only b M.zero ≡ M.zero
      only_zero true = refl
      only_zero false = refl

-- a map that keeps sums
pub map-sum_words : {V W : Type 0} (M : AddCommMonoidOn V) (N : AddCommMonoidOn W) (h : V → W)
    → ((a b : V) → h (M.◌⊕◌ a b) ≡ N.◌⊕◌ (h a) (h b))
    → (n : ℕ) (f : List Bool → V) → h (sum_words M n f) ≡ sum_words N n (λ w. h (f w))
map-sum_words M N h e zero f = refl
map-sum_words M N h e (suc n) f = e (sum_words M n (λ w. f (true ∷ w))) (sum_words M n (λ w. f (false ∷ w)))
    ∙ ap₂ N.◌⊕◌ (map-sum_words M N h e n (λ w. f (true ∷ w))) (map-sum_words M N h e n (λ w. f (false ∷ w)))

-- words as products
module _ {K : Type 0} (R : RingOn K) (a b : K) where
  infixl 70 ◌⊗◌
  open R use {monoid, ◌⊗◌}

  abbrev pub letters : List Bool → K
  letters [] = R.one
  letters (x ∷ w) = cond x a b ⊗ letters w

  pub letters-append : (u v : List Bool) → letters (u ++ v) ≡ letters u ⊗ letters v
  letters-append [] v = sym (R.one-mul (letters v))
  letters-append (x ∷ u) v = ap (λ y. cond x a b ⊗ y) (letters-append u v)
      ∙ sym (R.mul_assoc (cond x a b) (letters u) (letters v))

  pub letters-repeat : (k : ℕ) (u : List Bool) → letters (repeat k u) ≡ power R (letters u) k
  letters-repeat zero u = refl
  letters-repeat (suc k) u = letters-append u (repeat k u) ∙ ap (λ y. letters u ⊗ y) (letters-repeat k u)

  mul-sum_words : (n : ℕ) (c : K) (f : List Bool → K) → sum_words monoid n (λ w. c ⊗ f w) ≡ c ⊗ sum_words monoid n f
  mul-sum_words n c f = sym (map-sum_words monoid monoid (λ x. c ⊗ x) (R.mul-add c) n f)

  -- a power of a sum, multiplied out
  pub add-power_words : (n : ℕ) → power R (R.◌⊕◌ a b) n ≡ sum_words monoid n letters
  add-power_words zero = refl
  add-power_words (suc n) =
      ap (λ x. R.◌⊕◌ a b ⊗ x) (add-power_words n) ∙ R.add-mul a b (sum_words monoid n letters)
      ∙ ap₂ R.◌⊕◌ (sym (mul-sum_words n a letters)) (sym (mul-sum_words n b letters))
