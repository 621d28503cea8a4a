-- The sum of f, which turning leaves as it is, over the words of p^(i + 1) letters: that of f(u · .. · u), p times u,
-- over the words u of p^i letters, and p^(i + 1) times a sum over the first turns of the others.
use Rattle.std.specs.Prelude.{◌≡◌, ℕ, suc, ◌+◌, ◌-◌, ◌*◌, ◌^◌, ◌<◌, Bool, true, false, List, ◌++◌, not}
use Rattle.std.proofs.Common.{sym, ◌∙◌, ap, ap₂, arith, inl, inr, ⊎_elim}
use Rattle.std.proofs.lemmas.Bool.{cases_Bool, false_from_ne_true, false≢true}
use Rattle.std.proofs.Math.Nat.{pow-succ', one-le-pow}
use Rattle.theory_rings.specs.Ring.{AddCommMonoidOn}
use Rattle.theory_rings.specs.Prime.{IsPrime}
use Rattle.theory_rings.specs.Power.{times}
use Rattle.theory_radical.proofs.Words.Words.{turn, turns, turns-append, repeat, length-repeat, repeat_comm}
use Rattle.theory_radical.proofs.Words.Words.{repeat_of_commutes, same_word-sound, same_word-complete, is_fixed}
use Rattle.theory_radical.proofs.Words.Words.{is_fixed-turn}
use Rattle.theory_radical.proofs.Words.FirstTurns.{is_first, one_first, turns_differ}
use Rattle.theory_radical.proofs.Words.WordSums.{sum_words, sum_words_congr, sum_words-add, sum_words-split}
use Rattle.theory_radical.proofs.Words.WordSums.{sum_words_eq_single, only, only-or_only, sum_words_by_orbits}

pub pow_pos : (p : ℕ) → IsPrime p → (i : ℕ) → 0 < p ^ i
pow_pos p prime i = let h = prime.two_le in let l = one-le-pow i p (omega arith) in omega arith

module _ {V : Type 0} (M : AddCommMonoidOn V) where
  infixl 65 ◌⊕◌
  open M use {◌⊕◌}

  -- of the words of (r + 1)·q letters those that q turns leave as they are
  sum_words-fixed : (r q : ℕ) (f : List Bool → V)
      → sum_words M (q + r * q) (λ w. only M (is_fixed q w) (f w)) ≡ sum_words M q (λ u. f (repeat (suc r) u))
  sum_words-fixed r q f =
      sum_words-split M q (r * q) (λ w. only M (is_fixed q w) (f w))
      ∙ sum_words_congr M q (λ u. sum_words M (r * q) (λ v. only M (is_fixed q (u ++ v)) (f (u ++ v))))
      (λ u. f (repeat (suc r) u)) (λ u l.
      let over : (v : List Bool) → turns q (u ++ v) ≡ v ++ u = λ v. ap (λ k. turns k (u ++ v)) (sym l)
      ∙ turns-append u v in
      sum_words_eq_single M (r * q) (repeat r u) (length-repeat r u ∙ ap (λ k. r * k) l)
      (λ v. only M (is_fixed q (u ++ v)) (f (u ++ v)))
      (λ v m d. ap (λ b. only M b (f (u ++ v))) (false_from_ne_true (is_fixed q (u ++ v)) (λ h.
      d (repeat_of_commutes r u v (m ∙ ap (λ k. r * k) (sym l))
      (sym (over v) ∙ same_word-sound (turns q (u ++ v)) (u ++ v) h)))))
      ∙ ap (λ b. only M b (f (u ++ repeat r u)))
      (same_word-complete (turns q (u ++ repeat r u)) (u ++ repeat r u) (over (repeat r u) ∙ repeat_comm r u)))

  module _ (p : ℕ) (prime : IsPrime p) where
    -- f at the first turns of the words that p^i turns change, and else 0
    abbrev pub rest : ℕ → (List Bool → V) → List Bool → V
    rest i f w = only M (is_first (p ^ suc i) w) (only M (not (is_fixed (p ^ i) w)) (f w))

    pub sum_words_prime : (i : ℕ) (f : List Bool → V) → ((w : List Bool) → f (turn w) ≡ f w)
        → sum_words M (p ^ suc i) f ≡ sum_words M (p ^ i) (λ u. f (repeat p u)) ⊕ times M (p ^ suc i)
        (sum_words M (p ^ suc i) (rest i f))
    sum_words_prime i f keeps =
        let n = p ^ suc i in
        let q = p ^ i in
        let r = p - 1 in
        let two = prime.two_le in
        let e : suc r ≡ p = omega arith in
        let e2 : q + r * q ≡ suc r * q = omega arith in
        let e3 : q + r * q ≡ n = e2 ∙ ap (λ k. k * q) e ∙ sym (pow-succ' p i) in
        sum_words_congr M n f (λ w. only M (is_fixed q w) (f w) ⊕ only M (not (is_fixed q w)) (f w))
        (λ w l. only-or_only M (is_fixed q w) (f w))
        ∙ sum_words-add M n (λ w. only M (is_fixed q w) (f w)) (λ w. only M (not (is_fixed q w)) (f w))
        ∙ ap₂ (λ x y. x ⊕ y)
        (ap (λ k. sum_words M k (λ w. only M (is_fixed q w) (f w))) (sym e3) ∙ sum_words-fixed r q f
        ∙ ap (λ k. sum_words M q (λ u. f (repeat k u))) e)
        (sum_words_by_orbits M n n (λ w. only M (not (is_fixed q w)) (f w)) (is_first n)
        (λ w. ap₂ (λ b x. only M (not b) x) (is_fixed-turn q w) (keeps w))
        (λ w l. ⊎_elim
        (λ (t : is_fixed q w ≡ true). inl (ap (λ b. only M (not b) (f w)) t))
        (λ (t : is_fixed q w ≡ false). inr (one_first n w l (pow_pos p prime (suc i)) (turns_differ p prime i w l
        (λ h. false≢true (sym t ∙ same_word-complete (turns q w) w h)))))
        (cases_Bool (is_fixed q w))))
