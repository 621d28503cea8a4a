-- The value of a trace at the p^N-th power of a sum, and that modulo p^(N + 1) it depends on the element modulo p
-- alone.
use Rattle.std.specs.Prelude.{◌≡◌, ℕ, zero, suc, ◌+◌, ◌*◌, ◌^◌, Bool, true, false, cond, List, [], ◌∷◌, ◌++◌, length}
use Rattle.std.specs.Prelude.{◌⊎◌, not}
use Rattle.std.proofs.Common.{refl, sym, ◌∙◌, ap, ap₂, subst, arith, inl, inr, ⊎_elim}
use Rattle.std.proofs.lemmas.Bool.{false≢true, not-true}
use Rattle.std.proofs.Math.Nat.{pow-zero, pow-suc}
use Rattle.theory_rings.specs.Ring.{AddCommGroupOn, RingOn}
use Rattle.theory_rings.specs.Power.{power, times}
use Rattle.theory_rings.specs.Prime.{IsPrime}
use Rattle.theory_rings.proofs.Numbers.Digits.{lt_pow_self}
use Rattle.theory_rings.proofs.Rings.RingLaws.{add-zero, additive-zero}
use Rattle.theory_rings.proofs.Powers.Powers.{power_first, power-power, power-mul-mul}
use Rattle.theory_rings.proofs.Powers.Times.{times-zero, times-add, one-times, map-times, times-mul_assoc}
use Rattle.theory_rings.proofs.Powers.Times.{mul-times_comm, power-times}
use Rattle.theory_radical.specs.Congruence.{MultipleOf, CongruentMod}
use Rattle.theory_radical.specs.Trace.{IsTrace}
use Rattle.theory_radical.proofs.Words.Words.{turn, turns, head_of, tail_of, repeat, same_word-complete, is_fixed}
use Rattle.theory_radical.proofs.Words.FirstTurns.{is_first}
use Rattle.theory_radical.proofs.Words.WordSums.{sum_words, sum_words_congr, only, map-sum_words, letters}
use Rattle.theory_radical.proofs.Words.WordSums.{letters-append, letters-repeat, add-power_words}
use Rattle.theory_radical.proofs.Words.Orbits.{rest, sum_words_prime}
use Rattle.theory_radical.proofs.Words.Multiples.{multiple-zero, multiple-add, multiple-pow_times, multiple_of_pow_le}
use Rattle.theory_radical.proofs.Words.Multiples.{congruent_of_eq, congruent_trans, congruent-add, congruent_zero}

-- the power of a product, turned round
pub power-mul_suc : {K : Type 0} (R : RingOn K) (a b : K) (m : ℕ)
    → power R (R.◌⊗◌ b a) (suc m) ≡ R.◌⊗◌ b (R.◌⊗◌ (power R (R.◌⊗◌ a b) m) a)
power-mul_suc R a b m = R.mul_assoc b a (power R (R.◌⊗◌ b a) m) ∙ ap (R.◌⊗◌ b) (sym (power-mul-mul R a b m))

module _ {K V : Type 0} (R : RingOn K) (G : AddCommGroupOn V) (t : K → V) (trace : IsTrace R G t) where
  infixl 65 ◌⊕◌
  infixl 70 ◌⊗◌
  open R use {◌⊗◌}
  open G use {monoid, ◌⊕◌}

  pub trace-power_comm : (a b : K) (m : ℕ) → t (power R (a ⊗ b) m) ≡ t (power R (b ⊗ a) m)
  trace-power_comm a b zero = refl
  trace-power_comm a b (suc m) =
      trace.map-mul_comm (a ⊗ b) (power R (a ⊗ b) m) ∙ ap t (sym (R.mul_assoc (power R (a ⊗ b) m) a b))
      ∙ trace.map-mul_comm (power R (a ⊗ b) m ⊗ a) b ∙ ap t (sym (power-mul_suc R a b m))

  module _ (p : ℕ) (prime : IsPrime p) (a b : K) where
    -- the trace of the p^s-th power of a word
    abbrev pub value : ℕ → List Bool → V
    value s w = t (power R (letters R a b w) (p ^ s))

    value-turn : (s : ℕ) (w : List Bool) → value s (turn w) ≡ value s w
    value-turn s [] = refl
    value-turn s (x ∷ w) =
        ap (λ y. t (power R y (p ^ s)))
        (letters-append R a b w (x ∷ []) ∙ ap (λ y. letters R a b w ⊗ y) (R.mul-one (cond x a b)))
        ∙ trace-power_comm (letters R a b w) (cond x a b) (p ^ s)

    value-repeat : (s : ℕ) (u : List Bool) → value s (repeat p u) ≡ value (suc s) u
    value-repeat s u = ap t
        (ap (λ y. power R y (p ^ s)) (letters-repeat R a b p u) ∙ power-power R (letters R a b u) p (p ^ s)
        ∙ ap (power R (letters R a b u))
        (let e = pow-suc p s in let f : p * p ^ s ≡ p ^ s * p = omega arith in f ∙ sym e))

    -- where the words that p^i turns change count for nothing modulo d
    module _ (d N : ℕ) (small : (i s : ℕ) → suc (i + s) ≡ N → (w : List Bool) → length w ≡ p ^ suc i
        → is_fixed (p ^ i) w ≡ false
        → MultipleOf monoid d (times monoid (p ^ suc i) (value s w))) where
      sum_small : (n : ℕ) (k : ℕ) (f : List Bool → V)
          → ((w : List Bool) → length w ≡ n → MultipleOf monoid d (times monoid k (f w)))
          → MultipleOf monoid d (times monoid k (sum_words monoid n f))
      sum_small n k f h = subst (MultipleOf monoid d)
          (sym (map-sum_words monoid monoid (times monoid k) (times-add monoid k) n f))
          (each n (λ w. times monoid k (f w)) h)
        where
          each : (n : ℕ) (g : List Bool → V) → ((w : List Bool) → length w ≡ n → MultipleOf monoid d (g w))
              → MultipleOf monoid d (sum_words monoid n g)
          each zero g h = h [] refl
          each (suc n) g h = multiple-add monoid d (sum_words monoid n (λ w. g (true ∷ w)))
              (sum_words monoid n (λ w. g (false ∷ w)))
              (each n (λ w. g (true ∷ w)) (λ w l. h (true ∷ w) (ap suc l)))
              (each n (λ w. g (false ∷ w)) (λ w l. h (false ∷ w) (ap suc l)))

      only_small : (k : ℕ) (b c : Bool) (x : V) → (c ≡ true → MultipleOf monoid d (times monoid k x))
          → MultipleOf monoid d (times monoid k (only monoid b (only monoid c x)))
      only_small k false c x h = subst (MultipleOf monoid d) (sym (times-zero monoid k)) (multiple-zero monoid d)
      only_small k true false x h = subst (MultipleOf monoid d) (sym (times-zero monoid k)) (multiple-zero monoid d)
      only_small k true true x h = h refl

      rest_small : (i s : ℕ) → suc (i + s) ≡ N
          → MultipleOf monoid d
          (times monoid (p ^ suc i) (sum_words monoid (p ^ suc i) (rest monoid p prime i (value s))))
      rest_small i s e = sum_small (p ^ suc i) (p ^ suc i) (rest monoid p prime i (value s)) (λ w l.
          only_small (p ^ suc i) (is_first (p ^ suc i) w) (not (is_fixed (p ^ i) w)) (value s w)
          (λ h. small i s e w l (not-true (is_fixed (p ^ i) w) h)))

      sum_value : (i s : ℕ) → i + s ≡ N
          → CongruentMod monoid d (sum_words monoid (p ^ i) (value s)) (t (power R a (p ^ N)) ⊕ t (power R b (p ^ N)))
      sum_value zero s e =
          let q : s ≡ N = omega arith in
          let ends = t (power R a (p ^ N)) ⊕ t (power R b (p ^ N)) in
          let h : sum_words monoid (p ^ 0) (value s) ≡ ends = ap (λ k. sum_words monoid k (value s)) (pow-zero p)
          ∙ ap₂ (λ x y. x ⊕ y) (ap (λ y. t (power R y (p ^ s))) (R.mul-one a) ∙ ap (λ k. t (power R a (p ^ k))) q)
          (ap (λ y. t (power R y (p ^ s))) (R.mul-one b) ∙ ap (λ k. t (power R b (p ^ k))) q) in
          congruent_of_eq monoid d (sum_words monoid (p ^ 0) (value s)) ends h
      sum_value (suc i) s e =
          let front = sum_words monoid (p ^ i) (value (suc s)) in
          let u = times monoid (p ^ suc i) (sum_words monoid (p ^ suc i) (rest monoid p prime i (value s))) in
          let ends = t (power R a (p ^ N)) ⊕ t (power R b (p ^ N)) in
          congruent_trans monoid d (sum_words monoid (p ^ suc i) (value s)) (front ⊕ u) ends
          (congruent_of_eq monoid d (sum_words monoid (p ^ suc i) (value s)) (front ⊕ u)
          (sum_words_prime monoid p prime i (value s) (value-turn s)
          ∙ ap (λ x. x ⊕ u) (sum_words_congr monoid (p ^ i) (λ w. value s (repeat p w)) (value (suc s))
          (λ w l. value-repeat s w))))
          (subst (CongruentMod monoid d (front ⊕ u)) (add-zero monoid ends)
          (congruent-add monoid d front ends u G.zero (sum_value i (suc s) (omega arith))
          (congruent_zero monoid d u (rest_small i s (omega arith)))))

      -- the trace of the power of the sum is the sum of the traces of the powers
      pub trace-power_add : CongruentMod monoid d (t (power R (R.◌⊕◌ a b) (p ^ N)))
          (t (power R a (p ^ N)) ⊕ t (power R b (p ^ N)))
      trace-power_add =
          let h = sum_value N zero (omega arith) in
          record {
            part = h.part;
            is = ap t (add-power_words R a b (p ^ N))
                ∙ map-sum_words R.monoid monoid t trace.map-add (p ^ N) (letters R a b)
                ∙ sum_words_congr monoid (p ^ N) (λ w. t (letters R a b w)) (value zero)
                (λ w l. ap t (sym (ap (power R (letters R a b w)) (pow-zero p) ∙ power_first R (letters R a b w))))
                ∙ h.is;
          }

  -- the value at a + p·x
  module _ (p : ℕ) (prime : IsPrime p) (a x : K) where
    abbrev b : K
    b = times R.monoid p x

    -- a word is all letters a, or a multiple of p
    plain_or_multiple : (w : List Bool) → (w ++ (true ∷ []) ≡ true ∷ w)
        ⊎ ((y : K) × (letters R a b w ≡ times R.monoid p y))
    plain_or_multiple [] = inl refl
    plain_or_multiple (true ∷ w) = ⊎_elim
        (λ (e : w ++ (true ∷ []) ≡ true ∷ w). inl (ap (λ v. true ∷ v) e))
        (λ (d : (y : K) × (letters R a b w ≡ times R.monoid p y)). inr
        (a ⊗ d.0, ap (λ z. a ⊗ z) d.1 ∙ mul-times_comm R p a d.0))
        (plain_or_multiple w)
    plain_or_multiple (false ∷ w) = inr (x ⊗ letters R a b w, times-mul_assoc R p x (letters R a b w))

    plain_turn : (w : List Bool) → w ++ (true ∷ []) ≡ true ∷ w → turn w ≡ w
    plain_turn [] e = refl
    plain_turn (y ∷ w) e = ap (λ z. w ++ (z ∷ [])) (ap head_of e) ∙ ap tail_of e

    plain_turns : (q : ℕ) (w : List Bool) → w ++ (true ∷ []) ≡ true ∷ w → turns q w ≡ w
    plain_turns zero w e = refl
    plain_turns (suc q) w e = ap (turns q) (plain_turn w e) ∙ plain_turns q w e

    deep : (i s : ℕ) (y : K)
        → MultipleOf monoid (p ^ suc (i + s)) (times monoid (p ^ i) (t (power R (times R.monoid p y) (p ^ s))))
    deep i s y =
        let m = p ^ s in
        let l = lt_pow_self p s prime.two_le in
        let h : MultipleOf monoid (p ^ m) (t (power R (times R.monoid p y) m)) = record {
          part = t (power R y m);
          is = ap t (power-times R p y m)
              ∙ map-times R.monoid monoid t (additive-zero R.additive G t trace.map-add) trace.map-add (p ^ m)
              (power R y m);
        } in
        multiple_of_pow_le monoid p (suc (i + s)) (i + m) (times monoid (p ^ i) (t (power R (times R.monoid p y) m)))
        (omega arith)
        (multiple-pow_times monoid p i m (t (power R (times R.monoid p y) m)) h)

    mixed_small : (N i s : ℕ) → suc (i + s) ≡ N → (w : List Bool) → length w ≡ p ^ suc i → is_fixed (p ^ i) w ≡ false
        → MultipleOf monoid (p ^ suc N) (times monoid (p ^ suc i) (t (power R (letters R a b w) (p ^ s))))
    mixed_small N i s e w l h = ⊎_elim
        (λ (g : w ++ (true ∷ []) ≡ true ∷ w). absurd
        (false≢true (sym h ∙ same_word-complete (turns (p ^ i) w) w (plain_turns (p ^ i) w g))))
        (λ (d : (y : K) × (letters R a b w ≡ times R.monoid p y)).
        let q : suc (suc i + s) ≡ suc N = omega arith in
        subst (λ z. MultipleOf monoid (p ^ suc N) (times monoid (p ^ suc i) (t (power R z (p ^ s))))) (sym d.1)
        (subst (λ k. MultipleOf monoid (p ^ k)
        (times monoid (p ^ suc i) (t (power R (times R.monoid p d.0) (p ^ s))))) q (deep (suc i) s d.0)))
        (plain_or_multiple w)

    trace-power_add_multiple : (N : ℕ)
        → CongruentMod monoid (p ^ suc N) (t (power R (R.◌⊕◌ a b) (p ^ N))) (t (power R a (p ^ N)))
    trace-power_add_multiple N =
        let h = trace-power_add p prime a b (p ^ suc N) N (mixed_small N) in
        let u = t (power R a (p ^ N)) in
        let v = t (power R b (p ^ N)) in
        let m : MultipleOf monoid (p ^ suc N) v =
        subst (MultipleOf monoid (p ^ suc N)) (ap (λ k. times monoid k v) (pow-zero p) ∙ one-times monoid v)
        (let q : suc (0 + N) ≡ suc N = omega arith in
        subst (λ k. MultipleOf monoid (p ^ k) (times monoid (p ^ 0) v)) q (deep 0 N x)) in
        let r = multiple-add monoid (p ^ suc N) v (times monoid (p ^ suc N) h.part) m
        (record { part = h.part; is = refl }) in
        record { part = r.part; is = h.is ∙ G.add_assoc u v (times monoid (p ^ suc N) h.part) ∙ ap (λ z. u ⊕ z) r.is }

  -- elements that agree modulo p have one value modulo p^(N + 1)
  pub trace-power_congr : (p : ℕ) → IsPrime p → (N : ℕ) (a c : K) → CongruentMod R.monoid p a c
      → CongruentMod monoid (p ^ suc N) (t (power R a (p ^ N))) (t (power R c (p ^ N)))
  trace-power_congr p prime N a c h =
      subst (λ z. CongruentMod monoid (p ^ suc N) (t (power R z (p ^ N))) (t (power R c (p ^ N)))) (sym h.is)
      (trace-power_add_multiple p prime c h.part N)
