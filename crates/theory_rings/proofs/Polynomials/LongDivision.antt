-- A step of the long division keeps q · b + r, on coefficients.
use Rattle.std.specs.Prelude.{◌≡◌, ◌≢◌, ℕ, zero, suc, ◌+◌, ◌-◌, ◌<◌}
use Rattle.std.proofs.Common.{refl, sym, ◌∙◌, ap, ap₂, subst, arith, ⊎_elim}
use Rattle.std.proofs.lemmas.Bool.{cases_lt}
use Rattle.theory_rings.specs.Ring.{CommRingOn}
use Rattle.theory_rings.specs.Polynomial.{convolution, constant_coefficients}
use Rattle.theory_rings.proofs.Rings.RingLaws.{add-zero, add-neg, zero-mul, neg-mul, add_add_add_comm}
use Rattle.theory_rings.proofs.Polynomials.Series.{shift, shift-below, shift-above, convolution-zero, convolution-suc}
use Rattle.theory_rings.proofs.Polynomials.Series.{convolution_congr, add-convolution, constant-convolution}

module _ {K : Type 0} (R : CommRingOn K) where
  infixl 65 ◌⊕◌
  infixl 70 ◌⊗◌
  open R use {ring, monoid, ◌⊕◌, ◌⊗◌, neg}

  pub shift-convolution : (s : ℕ) (f g : ℕ → K) (k : ℕ)
      → convolution ring (shift R.zero s f) g k ≡ shift R.zero s (convolution ring f g) k
  shift-convolution zero f g k = refl
  shift-convolution (suc s) f g zero = convolution-zero ring (shift R.zero (suc s) f) g ∙ zero-mul ring (g 0)
  shift-convolution (suc s) f g (suc k) =
      convolution-suc ring (shift R.zero (suc s) f) g k
      ∙ ap₂ (λ x y. x ⊕ y) (zero-mul ring (g (suc k))) (shift-convolution s f g k)
      ∙ R.zero-add (shift R.zero s (convolution ring f g) k)

  shift_congr : (s : ℕ) (f g : ℕ → K) → ((k : ℕ) → f k ≡ g k) → (k : ℕ) → shift R.zero s f k ≡ shift R.zero s g k
  shift_congr zero f g e k = e k
  shift_congr (suc s) f g e zero = refl
  shift_congr (suc s) f g e (suc k) = shift_congr s f g e k

  shift-cancel : (s : ℕ) (c : K) (b : ℕ → K) (k : ℕ)
      → shift R.zero s (λ i. c ⊗ b i) k ⊕ shift R.zero s (λ i. neg c ⊗ b i) k ≡ R.zero
  shift-cancel zero c b k = ap (λ x. c ⊗ b k ⊕ x) (neg-mul ring c (b k)) ∙ add-neg R.additive (c ⊗ b k)
  shift-cancel (suc s) c b zero = R.zero-add R.zero
  shift-cancel (suc s) c b (suc k) = shift-cancel s c b k

  -- c at power s more in the quotient, and c · b at s places up less in the rest
  shifted_step : (s : ℕ) (c : K) (q q' r r' b : ℕ → K)
      → ((k : ℕ) → q' k ≡ q k ⊕ shift R.zero s (constant_coefficients R.zero c) k)
      → ((k : ℕ) → r' k ≡ r k ⊕ shift R.zero s (λ i. neg c ⊗ b i) k)
      → (k : ℕ) → convolution ring q' b k ⊕ r' k ≡ convolution ring q b k ⊕ r k
  shifted_step s c q q' r r' b hq hr k =
      ap₂ (λ x y. x ⊕ y)
      (convolution_congr ring q' b (λ i. q i ⊕ shift R.zero s (constant_coefficients R.zero c) i) b hq (λ i. refl) k
      ∙ add-convolution ring q (shift R.zero s (constant_coefficients R.zero c)) b k
      ∙ ap (λ x. convolution ring q b k ⊕ x) (shift-convolution s (constant_coefficients R.zero c) b k
      ∙ shift_congr s (convolution ring (constant_coefficients R.zero c) b) (λ i. c ⊗ b i)
      (constant-convolution ring c b) k))
      (hr k)
      ∙ add_add_add_comm monoid (convolution ring q b k) (shift R.zero s (λ i. c ⊗ b i) k) (r k)
      (shift R.zero s (λ i. neg c ⊗ b i) k)
      ∙ ap (λ x. convolution ring q b k ⊕ r k ⊕ x) (shift-cancel s c b k)
      ∙ add-zero monoid (convolution ring q b k ⊕ r k)

  each_part : (P : ℕ → Type 0) (s : ℕ) → ((k : ℕ) → k < s → P k) → ((j : ℕ) → P (s + j)) → (k : ℕ) → P k
  each_part P s below above k =
      ⊎_elim (below k) (λ l. let e : s + (k - s) ≡ k = omega arith in subst P e (above (k - s))) (cases_lt k s)

  -- where the quotient is set to c at s, and c times b, s places up, is taken from the rest
  pub division_step : (s : ℕ) (c : K) (q q' r r' b : ℕ → K) → q s ≡ R.zero → q' s ≡ c → ((k : ℕ) → k ≢ s → q' k ≡ q k)
      → ((k : ℕ) → k < s → r' k ≡ r k) → ((j : ℕ) → r' (s + j) ≡ r (s + j) ⊕ neg c ⊗ b j)
      → (k : ℕ) → convolution ring q' b k ⊕ r' k ≡ convolution ring q b k ⊕ r k
  division_step s c q q' r r' b empty here other low high =
      shifted_step s c q q' r r' b
      (each_part (λ k. q' k ≡ q k ⊕ shift R.zero s (constant_coefficients R.zero c) k) s q_below q_above)
      (each_part (λ k. r' k ≡ r k ⊕ shift R.zero s (λ i. neg c ⊗ b i) k) s
      (λ k l. low k l ∙ sym (ap (λ x. r k ⊕ x) (shift-below R.zero s (λ i. neg c ⊗ b i) k l) ∙ add-zero monoid (r k)))
      (λ j. high j ∙ ap (λ x. r (s + j) ⊕ x) (sym (shift-above R.zero s (λ i. neg c ⊗ b i) (s + j) j refl))))
    where
      unchanged : (k : ℕ) → k ≢ s → shift R.zero s (constant_coefficients R.zero c) k ≡ R.zero
          → q' k ≡ q k ⊕ shift R.zero s (constant_coefficients R.zero c) k
      unchanged k n z = other k n ∙ sym (ap (λ x. q k ⊕ x) z ∙ add-zero monoid (q k))

      q_below : (k : ℕ) → k < s → q' k ≡ q k ⊕ shift R.zero s (constant_coefficients R.zero c) k
      q_below k l = unchanged k (omega arith) (shift-below R.zero s (constant_coefficients R.zero c) k l)

      q_above : (j : ℕ) → q' (s + j) ≡ q (s + j) ⊕ shift R.zero s (constant_coefficients R.zero c) (s + j)
      q_above zero =
          let e : s + 0 ≡ s = omega arith in
          ap q' e ∙ here ∙ sym (ap₂ (λ x y. x ⊕ y) (ap q e ∙ empty)
          (shift-above R.zero s (constant_coefficients R.zero c) (s + 0) 0 refl) ∙ R.zero-add c)
      q_above (suc j) =
          unchanged (s + suc j) (omega arith)
          (shift-above R.zero s (constant_coefficients R.zero c) (s + suc j) (suc j) refl)

  -- the step with c = top · u clears the coefficient top at the place of b's leading coefficient l, where l · u = 1
  pub division_clears : (top l u : K) → l ⊗ u ≡ R.one → top ⊕ neg (top ⊗ u) ⊗ l ≡ R.zero
  division_clears top l u e =
      ap (λ x. top ⊕ x) (neg-mul ring (top ⊗ u) l
      ∙ ap neg (R.mul_assoc top u l ∙ ap (λ x. top ⊗ x) (R.mul_comm u l ∙ e) ∙ R.mul-one top))
      ∙ add-neg R.additive top
