-- Rows of a matrix are related, or free: decided by elimination, one column at a time.
use Rattle.std.specs.Prelude.{◌≡◌, ℕ, zero, suc, ◌<◌, [], ◌∷◌, ◌⊎◌}
use Rattle.std.proofs.Common.{refl, sym, ◌∙◌, ap, ap₂, arith, inl, inr, ⊎_elim}
use Rattle.std.proofs.lemmas.Bool.{cases_eq}
use Rattle.theory_rings.specs.Ring.{FieldOn}
use Rattle.theory_rings.specs.Sum.{sum}
use Rattle.theory_rings.proofs.Rings.RingLaws.{add-neg, mul-zero, zero-mul, neg_zero, neg_unique, eq_zero_of_mul-unit}
use Rattle.theory_rings.proofs.Rings.Fields.{mul-inv, inv_mul_cancel_right}
use Rattle.theory_rings.proofs.Sums.Bump.{unbump, bump-unbump, unbump-lt, bump, bump-lt}
use Rattle.theory_rings.proofs.Sums.Sums.{sum_congr, sum_eq_zero, sum_take_out, sum-mul}
use Rattle.theory_rings.proofs.Rings.Solver.{var, nil, ◌⊞◌, ◌⊠◌, minus, by_sorted, ring1}
use Rattle.theory_rings.proofs.Rings.ZeroTests.{eq_zero_or}
use Rattle.theory_spaces.proofs.Linear.Families.{push, push-below, push-at, put_at, put_at-here, put_at-bump, below_suc}

module _ {K : Type 0} (F : FieldOn K) where
  infixl 65 ◌⊕◌
  infixl 70 ◌⊗◌
  open F use {ring, additive, monoid, ◌⊕◌, ◌⊗◌, neg}

  -- one of c 0, .., c (n − 1) is not 0
  pub record NotAllZero (n : ℕ) (c : ℕ → K) : Type 0 where
    pub place : ℕ
    pub within : place < n
    pub nonzero : c place ≡ F.zero → ⊥

  -- one of them is not 0, or all are
  pub pivot : (n : ℕ) (f : ℕ → K) → NotAllZero n f ⊎ ((i : ℕ) → i < n → f i ≡ F.zero)
  pivot zero f = inr (λ i l. absurd (omega arith))
  pivot (suc n) f = ⊎_elim
      (λ (h : NotAllZero n f).
      inl (record { place = h.place; within = (let w = h.within in omega arith); nonzero = h.nonzero }))
      (λ h. ⊎_elim
      (λ z. inr (below_suc n (λ i. f i ≡ F.zero) h z))
      (λ z. inl (record { place = n; within = omega arith; nonzero = z }))
      (eq_zero_or F.zero_test (f n)))
      (pivot n f)

  -- one step of elimination, on sums
  pub clear : (n : ℕ) (c u t : ℕ → K) (y : K) → sum monoid n (λ i. c i ⊗ (u i ⊕ neg (t i ⊗ y)))
      ≡ neg (sum monoid n (λ i. c i ⊗ t i)) ⊗ y ⊕ sum monoid n (λ i. c i ⊗ u i)
  clear zero c u t y = ring1 F.cring (λ x. (nil, minus nil ⊠ x ⊞ nil)) refl y
  clear (suc n) c u t y =
      ap (λ x. x ⊕ c n ⊗ (u n ⊕ neg (t n ⊗ y))) (clear n c u t y)
      ∙ (let a = var 0 in let b = var 1 in let p = var 2 in let q = var 3 in let r = var 4 in let s = var 5 in
      by_sorted F.cring (sum monoid n (λ i. c i ⊗ t i) ∷
      (sum monoid n (λ i. c i ⊗ u i) ∷ (c n ∷ (u n ∷ (t n ∷ (y ∷ []))))))
      (minus a ⊠ s ⊞ b ⊞ p ⊠ (q ⊞ minus (r ⊠ s))) (minus (a ⊞ p ⊠ r) ⊠ s ⊞ (b ⊞ p ⊠ q)) refl)

  -- the rows but p, with p's multiple taken away
  abbrev pub cleared : ℕ → ℕ → (ℕ → ℕ → K) → ℕ → ℕ → K
  cleared m p a i j = a (bump p i) j ⊕ neg (a (bump p i) m ⊗ F.inv (a p m) ⊗ a p j)

  -- the rows a 0, .., a (n − 1) of length m, with weights c, sum to 0
  abbrev pub Kills : ℕ → ℕ → (ℕ → ℕ → K) → (ℕ → K) → Type 0
  Kills n m a c = (j : ℕ) → j < m → sum monoid n (λ i. c i ⊗ a i j) ≡ F.zero

  -- some weights, not all 0, make the sum of the rows 0
  pub record Related (n m : ℕ) (a : ℕ → ℕ → K) : Type 0 where
    pub weights : ℕ → K
    pub nontrivial : NotAllZero n weights
    pub vanishes : Kills n m a weights

  -- none but the weights 0 do
  pub record Free (n m : ℕ) (a : ℕ → ℕ → K) : Type 0 where
    pub only_zero : (c : ℕ → K) → Kills n m a c → (i : ℕ) → i < n → c i ≡ F.zero

  -- a column of zeros says nothing
  pub related_none : (n m : ℕ) (a : ℕ → ℕ → K) → ((i : ℕ) → i < n → a i m ≡ F.zero) → Related n m a
      → Related n (suc m) a
  related_none n m a z r = record {
    weights = r.weights;
    nontrivial = r.nontrivial;
    vanishes = below_suc m (λ j. sum monoid n (λ i. r.weights i ⊗ a i j) ≡ F.zero) r.vanishes
        (sum_eq_zero monoid n (λ i. r.weights i ⊗ a i m)
        (λ i g. ap (λ x. r.weights i ⊗ x) (z i g) ∙ mul-zero ring (r.weights i)));
  }

  -- one more row takes the weight 0
  pub related_more : (n m : ℕ) (a : ℕ → ℕ → K) → Related n m a → Related (suc n) m a
  related_more n m a r =
      let d = push n F.zero r.weights in
      record {
        weights = d;
        nontrivial = record {
          place = r.nontrivial.place;
          within = (let w = r.nontrivial.within in omega arith);
          nonzero = rw (push-below n F.zero r.weights r.nontrivial.place r.nontrivial.within) r.nontrivial.nonzero;
        };
        vanishes = λ j l.
            ap₂ (λ x y. x ⊕ y)
            (sum_congr monoid n (λ i. d i ⊗ a i j) (λ i. r.weights i ⊗ a i j)
            (λ i h. ap (λ x. x ⊗ a i j) (push-below n F.zero r.weights i h)) ∙ r.vanishes j l)
            (ap (λ x. x ⊗ a n j) (push-at n F.zero r.weights) ∙ zero-mul ring (a n j))
            ∙ F.zero-add F.zero;
      }

  free_none : (n m : ℕ) (a : ℕ → ℕ → K) → Free n m a → Free n (suc m) a
  free_none n m a f = record { only_zero = λ c h. f.only_zero c (λ j l. h j (omega arith)) }

  module _ (n m : ℕ) (a : ℕ → ℕ → K) (p : NotAllZero (suc n) (λ i. a i m)) where
    abbrev k : ℕ
    k = p.place

    abbrev t : ℕ → K
    t i = a (bump k i) m ⊗ F.inv (a k m)

    -- the sum over the rows but p, cleared, is the whole sum with a matching weight at p
    whole : (c : ℕ → K) → c k ≡ neg (sum monoid n (λ i. c (bump k i) ⊗ t i)) → (j : ℕ)
        → sum monoid (suc n) (λ i. c i ⊗ a i j) ≡ sum monoid n (λ i. c (bump k i) ⊗ cleared m k a i j)
    whole c e j =
        sum_take_out monoid n k (λ i. c i ⊗ a i j) p.within
        ∙ ap (λ x. x ⊗ a k j ⊕ sum monoid n (λ i. c (bump k i) ⊗ a (bump k i) j)) e
        ∙ sym (clear n (λ i. c (bump k i)) (λ i. a (bump k i) j) t (a k j))

    t-back : (i : ℕ) → t i ⊗ a k m ≡ a (bump k i) m
    t-back i = inv_mul_cancel_right F (a (bump k i) m) (a k m) p.nonzero

    cleared-last : (i : ℕ) → cleared m k a i m ≡ F.zero
    cleared-last i = ap (λ x. a (bump k i) m ⊕ neg x) (t-back i) ∙ add-neg additive (a (bump k i) m)

    pub related_pivot : Related n m (cleared m k a) → Related (suc n) (suc m) a
    related_pivot r =
        let s = neg (sum monoid n (λ i. r.weights i ⊗ t i)) in
        let d = put_at k s r.weights in
        let back : (i : ℕ) → d (bump k i) ≡ r.weights i = put_at-bump k s r.weights in
        let here : d k ≡ neg (sum monoid n (λ i. d (bump k i) ⊗ t i)) =
        put_at-here k s r.weights
        ∙ ap neg (sum_congr monoid n (λ i. r.weights i ⊗ t i) (λ i. d (bump k i) ⊗ t i)
        (λ i l. ap (λ x. x ⊗ t i) (sym (back i)))) in
        let tied : (j : ℕ) → sum monoid (suc n) (λ i. d i ⊗ a i j) ≡ sum monoid n
        (λ i. r.weights i ⊗ cleared m k a i j) =
        λ j. whole d here j ∙ sum_congr monoid n (λ i. d (bump k i) ⊗ cleared m k a i j)
        (λ i. r.weights i ⊗ cleared m k a i j)
        (λ i l. ap (λ x. x ⊗ cleared m k a i j) (back i)) in
        record {
          weights = d;
          nontrivial = record {
            place = bump k r.nontrivial.place;
            within = bump-lt k r.nontrivial.place n r.nontrivial.within;
            nonzero = rw (back r.nontrivial.place) r.nontrivial.nonzero;
          };
          vanishes = below_suc m (λ j. sum monoid (suc n) (λ i. d i ⊗ a i j) ≡ F.zero) (λ j l. tied j ∙ r.vanishes j l)
              (tied m ∙ sum_eq_zero monoid n (λ i. r.weights i ⊗ cleared m k a i m)
              (λ i g. ap (λ x. r.weights i ⊗ x) (cleared-last i) ∙ mul-zero ring (r.weights i)));
        }

    -- the weight at the pivot is settled by the others
    settled : (c : ℕ → K) → Kills (suc n) (suc m) a c → c k ≡ neg (sum monoid n (λ i. c (bump k i) ⊗ t i))
    settled c h =
        let S = sum monoid n (λ i. c (bump k i) ⊗ t i) in
        let v = a k m in
        let e1 : c k ⊗ v ⊕ sum monoid n (λ i. c (bump k i) ⊗ a (bump k i) m) ≡ F.zero =
        sym (sum_take_out monoid n k (λ i. c i ⊗ a i m) p.within) ∙ h m (omega arith) in
        let e2 : sum monoid n (λ i. c (bump k i) ⊗ a (bump k i) m) ≡ S ⊗ v =
        sum_congr monoid n (λ i. c (bump k i) ⊗ a (bump k i) m) (λ i. c (bump k i) ⊗ t i ⊗ v)
        (λ i l. sym (F.mul_assoc (c (bump k i)) (t i) v ∙ ap (λ x. c (bump k i) ⊗ x) (t-back i)))
        ∙ sym (sum-mul ring n v (λ i. c (bump k i) ⊗ t i)) in
        let e3 : (S ⊕ c k) ⊗ v ≡ F.zero = F.add-mul S (c k) v ∙ F.add_comm (S ⊗ v) (c k ⊗ v)
        ∙ ap (λ x. c k ⊗ v ⊕ x) (sym e2) ∙ e1 in
        let e4 : S ⊕ c k ≡ F.zero =
        eq_zero_of_mul-unit ring (S ⊕ c k) v (F.inv v) (mul-inv F v p.nonzero) e3 in
        neg_unique additive S (c k) e4

    free_pivot : Free n m (cleared m k a) → Free (suc n) (suc m) a
    free_pivot f = record {
      only_zero = λ c h i l.
          let others : (i : ℕ) → i < n → c (bump k i) ≡ F.zero =
          f.only_zero (λ i. c (bump k i)) (λ j g. sym (whole c (settled c h) j) ∙ h j (omega arith)) in
          let here : c k ≡ F.zero = settled c h
          ∙ ap neg (sum_eq_zero monoid n (λ i. c (bump k i) ⊗ t i)
          (λ i g. ap (λ x. x ⊗ t i) (others i g) ∙ zero-mul ring (t i))) ∙ neg_zero additive in
          ⊎_elim
          (λ (e : i ≡ k). ap c e ∙ here)
          (λ (d : i ≡ k → ⊥). sym (ap c (bump-unbump k i d)) ∙ others (unbump k i) (unbump-lt n k i p.within l d))
          (cases_eq i k);
    }

  -- n rows of length m are related, or free
  pub decide : (m n : ℕ) (a : ℕ → ℕ → K) → Related n m a ⊎ Free n m a
  decide m zero a = inr (record { only_zero = λ c h i l. absurd (omega arith) })
  decide zero (suc n) a = inl (record {
    weights = λ i. F.one;
    nontrivial = record { place = zero; within = omega arith; nonzero = F.one-nonzero };
    vanishes = λ j l. absurd (omega arith);
  })
  decide (suc m) (suc n) a = ⊎_elim
      (λ (p : NotAllZero (suc n) (λ i. a i m)).
      ⊎_elim (λ (r : Related n m (cleared m p.place a)). inl (related_pivot n m a p r))
      (λ (f : Free n m (cleared m p.place a)). inr (free_pivot n m a p f)) (decide m n (cleared m p.place a)))
      (λ (z : (i : ℕ) → i < suc n → a i m ≡ F.zero).
      ⊎_elim (λ (r : Related (suc n) m a). inl (related_none (suc n) m a z r))
      (λ (f : Free (suc n) m a). inr (free_none (suc n) m a f)) (decide m (suc n) a))
      (pivot (suc n) (λ i. a i m))
