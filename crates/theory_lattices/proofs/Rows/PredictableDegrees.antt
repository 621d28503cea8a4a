-- Predictable degrees: of the terms of greatest degree the one that leads last is above all others in its leading
-- place.
use Rattle.std.specs.Prelude.{◌≡◌, ℕ, zero, suc, ◌<◌, ◌≤◌, ℤ, pos, ◌+ℤ◌, ◌-ℤ◌, ◌≤ℤ◌, ◌<ℤ◌, ◌⊎◌}
use Rattle.std.proofs.Common.{refl, ◌∙◌, ap, subst, arith, ⊎_elim, inl, inr}
use Rattle.std.proofs.lemmas.Int.{ints}
use Rattle.std.proofs.lemmas.Bool.{cases_lt}
use Rattle.theory_rings.specs.Ring.{RingOn}
use Rattle.theory_rings.proofs.Rings.RingLaws.{zero-mul}
use Rattle.theory_lattices.specs.Degree.{DegreeOn, DegreeBelow}
use Rattle.theory_lattices.specs.ReducedRows.{Reduced, row_sum, Predicted}
use Rattle.theory_lattices.proofs.Degree.Degrees.{cases_int, below-mono, not_below_of_degree, has_degree-mul, below-mul}
use Rattle.theory_lattices.proofs.Degree.Degrees.{below-sum, has_degree-sum}

module _ {K : Type 0} {R : RingOn K} (W : DegreeOn R) where
  infixl 65 ◌⊕◌
  infixl 70 ◌⊗◌
  open R use {additive, ◌⊕◌, ◌⊗◌, neg}

  module _ (n w : ℕ) (rows : ℕ → ℕ → K) (red : Reduced W n w rows) (c : ℕ → K) where
    open red use {degree, lead}

    abbrev high : ℕ → ℤ
    high i = W.deg (c i) +ℤ degree i

    -- the term at i is not above that at k
    abbrev pub NotAbove : ℕ → ℕ → Type 0
    NotAbove i k = (high i <ℤ high k) ⊎ ((high i ≤ℤ high k) × (lead i ≤ lead k))

    not_above : (i k : ℕ) → NotAbove i k ⊎ NotAbove k i
    not_above i k = ⊎_elim
        (λ (a : high i <ℤ high k). inl (inl a))
        (λ (a : high k ≤ℤ high i). ⊎_elim
        (λ (b : high k <ℤ high i). inr (inl b))
        (λ (b : high i ≤ℤ high k). ⊎_elim
        (λ (l : lead i < lead k). inl (inr (b, omega arith)))
        (λ (l : lead k ≤ lead i). inr (inr (a, l))) (cases_lt (lead i) (lead k)))
        (cases_int (high k) (high i))) (cases_int (high i) (high k))

    not_above-trans : (i k l : ℕ) → NotAbove i k → NotAbove k l → NotAbove i l
    not_above-trans i k l (inl a) (inl b) = inl (omega (arith, ints))
    not_above-trans i k l (inl a) (inr b) = let b0 = b.0 in inl (omega (arith, ints))
    not_above-trans i k l (inr a) (inl b) = let a0 = a.0 in inl (omega (arith, ints))
    not_above-trans i k l (inr a) (inr b) = let a0 = a.0 in let b0 = b.0 in let a1 = a.1 in let b1 = b.1 in
        inr (omega (arith, ints), omega arith)

    -- of the terms of greatest degree the one that leads last
    pub record Best (k : ℕ) : Type 0 where
      pub place : ℕ
      pub within : place < k
      pub nonzero : c place ≡ R.zero → ⊥
      pub most : (i : ℕ) → i < k → (c i ≡ R.zero) ⊎ NotAbove i place

    pub best : (k : ℕ) → Best k ⊎ ((i : ℕ) → i < k → c i ≡ R.zero)
    best zero = inr (λ i l. absurd (omega arith))
    best (suc k) = ⊎_elim
        (λ (z : c k ≡ R.zero). ⊎_elim
        (λ (b : Best k). inl (keep b (inl z)))
        (λ (h : (i : ℕ) → i < k → c i ≡ R.zero). inr
        (λ i l. ⊎_elim (λ (a : i < k). h i a) (λ (a : k ≤ i). let e : i ≡ k = omega arith in ap c e ∙ z)
        (cases_lt i k)))
        (best k))
        (λ (d : c k ≡ R.zero → ⊥). ⊎_elim
        (λ (b : Best k). ⊎_elim
        (λ (a : NotAbove k b.place). inl (keep b (inr a)))
        (λ (a : NotAbove b.place k).
        inl (new d (λ i l. ⊎_elim (λ (e : c i ≡ R.zero). inl e)
        (λ (m : NotAbove i b.place). inr (not_above-trans i b.place k m a)) (b.most i l))))
        (not_above k b.place))
        (λ (h : (i : ℕ) → i < k → c i ≡ R.zero). inl (new d (λ i l. inl (h i l))))
        (best k))
        (W.eq_zero_or (c k))
      where
        Fact : ℕ → ℕ → Type 0
        Fact i p = (c i ≡ R.zero) ⊎ NotAbove i p

        self : NotAbove k k
        self = inr (omega (arith, ints), omega arith)

        keep : (b : Best k) → (c k ≡ R.zero) ⊎ NotAbove k b.place → Best (suc k)
        keep b h = record {
          place = b.place;
          within = (let l = b.within in omega arith);
          nonzero = b.nonzero;
          most = λ i l. ⊎_elim (λ (a : i < k). b.most i a)
              (λ (a : k ≤ i). let e : k ≡ i = omega arith in let P : ℕ → Type 0 = λ t. (c t ≡ R.zero)
              ⊎ NotAbove t b.place in subst P e h) (cases_lt i k);
        }

        new : (c k ≡ R.zero → ⊥) → ((i : ℕ) → i < k → (c i ≡ R.zero) ⊎ NotAbove i k) → Best (suc k)
        new d h = record {
          place = k;
          within = omega arith;
          nonzero = d;
          most = λ i l. ⊎_elim (λ (a : i < k). h i a)
              (λ (a : k ≤ i). let e : k ≡ i = omega arith in let P : ℕ → Type 0 = λ t. (c t ≡ R.zero)
              ⊎ NotAbove t k in subst P e (inr self)) (cases_lt i k);
        }

    module _ (b : Best n) where
      abbrev s : ℕ
      s = b.place

      abbrev D : ℤ
      D = high s

      own : (i : ℕ) → DegreeBelow W (W.deg (c i) +ℤ pos 1) (c i)
      own i = inr (omega (arith, ints))

      vanish : (i j : ℕ) → c i ≡ R.zero → c i ⊗ rows i j ≡ R.zero
      vanish i j e = ap (λ x. x ⊗ rows i j) e ∙ zero-mul R (rows i j)

      -- every term is at most at the top, and below it past the leading position
      term_within : (i j : ℕ) → i < n → j < w → DegreeBelow W (D +ℤ pos 1) (c i ⊗ rows i j)
      term_within i j l g = ⊎_elim
          (λ (e : c i ≡ R.zero). inl (vanish i j e))
          (λ (m : NotAbove i s). below-mul W (W.deg (c i) +ℤ pos 1) (degree i +ℤ pos 1) (D +ℤ pos 1) (c i) (rows i j)
          (⊎_elim (λ (a : high i <ℤ high s).
          let t : ((W.deg (c i) +ℤ pos 1) +ℤ (degree i +ℤ pos 1)) ≤ℤ ((D +ℤ pos 1) +ℤ pos 1) =
          omega (arith, ints) in t)
          (λ (a : (high i ≤ℤ high s) × (lead i ≤ lead s)). let a0 = a.0 in
          let t : ((W.deg (c i) +ℤ pos 1) +ℤ (degree i +ℤ pos 1)) ≤ℤ ((D +ℤ pos 1) +ℤ pos 1) =
          omega (arith, ints) in t) m)
          (own i) ((red.leads i l).within j g))
          (b.most i l)

      term_after : (i j : ℕ) → i < n → j < w → (lead i ≤ lead s → lead i < j) → DegreeBelow W D (c i ⊗ rows i j)
      term_after i j l g h = ⊎_elim
          (λ (e : c i ≡ R.zero). inl (vanish i j e))
          (λ (m : NotAbove i s). ⊎_elim
          (λ (a : high i <ℤ high s).
          below-mul W (W.deg (c i) +ℤ pos 1) (degree i +ℤ pos 1) D (c i) (rows i j) (omega (arith, ints)) (own i)
          ((red.leads i l).within j g))
          (λ (a : (high i ≤ℤ high s) × (lead i ≤ lead s)). let a0 = a.0 in
          below-mul W (W.deg (c i) +ℤ pos 1) (degree i) D (c i) (rows i j) (omega (arith, ints)) (own i)
          ((red.leads i l).after j g (h a.1))) m)
          (b.most i l)

      predicted_at : Predicted W n w rows red c
      predicted_at = record {
        place = s;
        within = b.within;
        nonzero = b.nonzero;
        top = D;
        top-is = refl;
        bounds = λ i l. ⊎_elim
            (λ (e : c i ≡ R.zero). inl e)
            (λ (m : NotAbove i s). ⊎_elim
            (λ (a : high i <ℤ high s). inr (omega (arith, ints)))
            (λ (a : (high i ≤ℤ high s) × (lead i ≤ lead s)). let a0 = a.0 in inr (omega (arith, ints))) m)
            (b.most i l);
        leads = record {
          inside = (red.leads s b.within).inside;
          reaches = has_degree-sum W D n s (λ i. c i ⊗ rows i (lead s)) b.within
              (has_degree-mul W (W.deg (c s)) (degree s) (c s) (rows s (lead s))
              (record { nonzero = b.nonzero; degree = refl }) (red.leads s b.within).reaches)
              (λ i l d. term_after i (lead s) l (red.leads s b.within).inside
              (λ le. strict (lead i) (lead s) le (λ e. d (red.differ i s l b.within e))));
          within = λ j g. below-sum W (D +ℤ pos 1) n (λ i. c i ⊗ rows i j) (λ i l. term_within i j l g);
          after = λ j g p. below-sum W D n (λ i. c i ⊗ rows i j) (λ i l. term_after i j l g (λ le. omega arith));
        };
      }
        where
          strict : (a b : ℕ) → a ≤ b → (a ≡ b → ⊥) → a < b
          strict a b l d = ⊎_elim (λ (h : a < b). h) (λ (h : b ≤ a). absurd (d (omega arith))) (cases_lt a b)

    pub predicted : Predicted W n w rows red c ⊎ ((i : ℕ) → i < n → c i ≡ R.zero)
    predicted = ⊎_elim (λ (b : Best n). inl (predicted_at b)) (λ (h : (i : ℕ) → i < n → c i ≡ R.zero). inr h) (best n)

    -- a bound of the sum bounds each weight
    pub weights_below : (e : ℤ) → ((j : ℕ) → j < w → DegreeBelow W (e +ℤ pos 1) (row_sum R n c rows j)) → (i : ℕ)
        → i < n → DegreeBelow W ((e -ℤ degree i) +ℤ pos 1) (c i)
    weights_below e h i l = ⊎_elim
        (λ (p : Predicted W n w rows red c).
        let u = h (lead p.place) p.leads.inside in
        ⊎_elim
        (λ (a : p.top <ℤ (e +ℤ pos 1)).
        below-mono W ((p.top -ℤ degree i) +ℤ pos 1) ((e -ℤ degree i) +ℤ pos 1) (c i) (omega (arith, ints))
        (p.bounds i l))
        (λ (a : (e +ℤ pos 1) ≤ℤ p.top).
        absurd (not_below_of_degree W p.top (e +ℤ pos 1) (row_sum R n c rows (lead p.place)) a p.leads.reaches u))
        (cases_int p.top (e +ℤ pos 1)))
        (λ (z : (i : ℕ) → i < n → c i ≡ R.zero). inl (z i l))
        predicted

    -- reduced rows are independent
    pub only_zero : ((j : ℕ) → j < w → row_sum R n c rows j ≡ R.zero) → (i : ℕ) → i < n → c i ≡ R.zero
    only_zero h i l = ⊎_elim
        (λ (p : Predicted W n w rows red c). absurd (p.leads.reaches.nonzero (h (lead p.place) p.leads.inside)))
        (λ (z : (i : ℕ) → i < n → c i ≡ R.zero). z i l) predicted

  -- the sum is bounded where each weight is
  pub sum_below : (n w : ℕ) (rows : ℕ → ℕ → K) (red : Reduced W n w rows) (c : ℕ → K) (e : ℤ)
      → ((i : ℕ) → i < n → DegreeBelow W ((e -ℤ red.degree i) +ℤ pos 1) (c i)) → (j : ℕ) → j < w
      → DegreeBelow W (e +ℤ pos 1) (row_sum R n c rows j)
  sum_below n w rows red c e h j g = below-sum W (e +ℤ pos 1) n (λ i. c i ⊗ rows i j)
      (λ i l. below-mul W ((e -ℤ red.degree i) +ℤ pos 1) (red.degree i +ℤ pos 1) (e +ℤ pos 1) (c i) (rows i j)
      (omega (arith, ints)) (h i l) ((red.leads i l).within j g))
