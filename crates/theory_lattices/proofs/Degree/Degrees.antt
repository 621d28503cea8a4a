-- Degrees of sums and products.
use Rattle.std.specs.Prelude.{◌≡◌, ℕ, zero, suc, ◌<◌, ℤ, pos, ◌+ℤ◌, ◌≤ℤ◌, ◌<ℤ◌, ◌⊎◌}
use Rattle.std.proofs.Common.{refl, sym, ◌∙◌, ap, ap₂, subst, arith, ⊎_elim, inl, inr}
use Rattle.std.proofs.lemmas.Int.{ints}
use Rattle.theory_rings.specs.Ring.{RingOn}
use Rattle.theory_rings.specs.Sum.{sum}
use Rattle.theory_rings.proofs.Rings.RingLaws.{add-zero, add-neg, neg_unique, mul-zero, zero-mul}
use Rattle.theory_rings.proofs.Sums.Bump.{bump, bump-lt, bump-apart}
use Rattle.theory_rings.proofs.Sums.Sums.{sum_take_out}
use Rattle.theory_lattices.specs.Degree.{DegreeOn, DegreeBelow, HasDegree}

pub cases_int : (a b : ℤ) → (a <ℤ b) ⊎ (b ≤ℤ a)
cases_int a b = grind (arith, ints)

module _ {K : Type 0} {R : RingOn K} (W : DegreeOn R) where
  infixl 65 ◌⊕◌
  infixl 70 ◌⊗◌
  open R use {additive, monoid, ◌⊕◌, ◌⊗◌, neg}

  pub below-mono : (m n : ℤ) (a : K) → m ≤ℤ n → DegreeBelow W m a → DegreeBelow W n a
  below-mono m n a l (inl e) = inl e
  below-mono m n a l (inr h) = inr (omega (arith, ints))

  pub below-neg : (n : ℤ) (a : K) → DegreeBelow W n a → DegreeBelow W n (neg a)
  below-neg n a (inl e) = inl (sym (neg_unique additive a R.zero (add-zero monoid a ∙ e)))
  below-neg n a (inr h) = let e = W.deg-neg a in inr (omega (arith, ints))

  pub below_of_degree : (n m : ℤ) (a : K) → n <ℤ m → HasDegree W n a → DegreeBelow W m a
  below_of_degree n m a l h = let e = h.degree in inr (omega (arith, ints))

  pub not_below_of_degree : (n m : ℤ) (a : K) → m ≤ℤ n → HasDegree W n a → DegreeBelow W m a → ⊥
  not_below_of_degree n m a l h (inl e) = h.nonzero e
  not_below_of_degree n m a l h (inr g) = let e = h.degree in omega (arith, ints)

  pub has_degree-mul : (m n : ℤ) (a b : K) → HasDegree W m a → HasDegree W n b → HasDegree W (m +ℤ n) (a ⊗ b)
  has_degree-mul m n a b h g = record {
    nonzero = W.mul-ne-zero a b h.nonzero g.nonzero;
    degree = W.deg-mul a b h.nonzero g.nonzero ∙ ap₂ (λ x y. x +ℤ y) h.degree g.degree;
  }

  -- deg a < m and deg b < n, so deg (a ⊗ b) < s where s = m + n - 1
  pub below-mul : (m n s : ℤ) (a b : K) → (m +ℤ n) ≤ℤ (s +ℤ pos 1) → DegreeBelow W m a → DegreeBelow W n b
      → DegreeBelow W s (a ⊗ b)
  below-mul m n s a b l (inl e) g = inl (ap (λ x. x ⊗ b) e ∙ zero-mul R b)
  below-mul m n s a b l (inr h) (inl e) = inl (ap (λ x. a ⊗ x) e ∙ mul-zero R a)
  below-mul m n s a b l (inr h) (inr g) = ⊎_elim
      (λ (e : a ≡ R.zero). inl (ap (λ x. x ⊗ b) e ∙ zero-mul R b))
      (λ (da : a ≡ R.zero → ⊥). ⊎_elim
      (λ (e : b ≡ R.zero). inl (ap (λ x. a ⊗ x) e ∙ mul-zero R a))
      (λ (db : b ≡ R.zero → ⊥). let e = W.deg-mul a b da db in inr (omega (arith, ints)))
      (W.eq_zero_or b)) (W.eq_zero_or a)

  pub has_degree-add : (n : ℤ) (a b : K) → HasDegree W n a → DegreeBelow W n b → HasDegree W n (a ⊕ b)
  has_degree-add n a b h u =
      let back : (a ⊕ b) ⊕ neg b ≡ a = R.add_assoc a b (neg b) ∙ ap (λ x. a ⊕ x) (add-neg additive b)
      ∙ add-zero monoid a in
      let low : DegreeBelow W n (a ⊕ b) → ⊥ = λ v. let P : K
      → Type 0 = λ x. DegreeBelow W n x in
      not_below_of_degree n n a (omega (arith, ints)) h
      (subst P back (W.add-below n (a ⊕ b) (neg b) v (below-neg n b u))) in
      let high : DegreeBelow W (n +ℤ pos 1) (a ⊕ b) =
      W.add-below (n +ℤ pos 1) a b (below_of_degree n (n +ℤ pos 1) a (omega (arith, ints)) h)
      (below-mono n (n +ℤ pos 1) b (omega (arith, ints)) u) in
      record {
        nonzero = λ e. low (inl e);
        degree = ⊎_elim (λ (e : a ⊕ b ≡ R.zero). absurd (low (inl e)))
            (λ (l : W.deg (a ⊕ b) <ℤ (n +ℤ pos 1)). ⊎_elim
            (λ (g : W.deg (a ⊕ b) <ℤ n). absurd (low (inr g)))
            (λ (g : n ≤ℤ W.deg (a ⊕ b)). omega (arith, ints)) (cases_int (W.deg (a ⊕ b)) n)) high;
      }

  pub below-sum : (D : ℤ) (n : ℕ) (f : ℕ → K) → ((i : ℕ) → i < n → DegreeBelow W D (f i))
      → DegreeBelow W D (sum monoid n f)
  below-sum D zero f h = inl refl
  below-sum D (suc n) f h =
      W.add-below D (sum monoid n f) (f n) (below-sum D n f (λ i l. h i (omega arith))) (h n (omega arith))

  -- one term above all others gives the degree
  pub has_degree-sum : (D : ℤ) (n k : ℕ) (f : ℕ → K) → k < n → HasDegree W D (f k)
      → ((i : ℕ) → i < n → (i ≡ k → ⊥) → DegreeBelow W D (f i)) → HasDegree W D (sum monoid n f)
  has_degree-sum D zero k f l e h = absurd (omega arith)
  has_degree-sum D (suc n) k f l e h =
      let P : K → Type 0 = λ x. HasDegree W D x in
      subst P (sym (sum_take_out monoid n k f l))
      (has_degree-add D (f k) (sum monoid n (λ i. f (bump k i))) e
      (below-sum D n (λ i. f (bump k i)) (λ i g. h (bump k i) (bump-lt k i n g) (bump-apart k i))))
