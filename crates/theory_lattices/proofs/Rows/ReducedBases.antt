-- Rows over a Euclidean degree have the same combinations as reduced rows: those of a reduction that are not 0.
use Rattle.std.specs.Prelude.{◌≡◌, ℕ, zero, suc, ◌<◌, ◌≤◌, ℤ, pos, ◌⊎◌}
use Rattle.std.proofs.Common.{sym, ◌∙◌, ap, subst, arith, ⊎_elim, inl, inr}
use Rattle.std.proofs.lemmas.Bool.{cases_lt, cases_eq}
use Rattle.theory_rings.specs.Ring.{RingOn}
use Rattle.theory_spaces.proofs.Linear.Families.{push, push-below, push-at, choose_each, below_suc}
use Rattle.theory_lattices.specs.Degree.{DegreeOn, IsEuclidean}
use Rattle.theory_lattices.specs.ReducedRows.{LeadsAt, Lead, Reduced, WeakPopov, InRows, SameRows}
use Rattle.theory_lattices.proofs.Rows.ReductionStep.{lead_of}
use Rattle.theory_lattices.proofs.Rows.Reduction.{reduction}
use Rattle.theory_lattices.proofs.Rows.RowSpans.{InRows_of_span, InRows-member, InRows-zero, InRows_trans}

module _ {K : Type 0} {R : RingOn K} (W : DegreeOn R) (w : ℕ) where
  abbrev Z : (ℕ → K) → Type 0
  Z row = (t : ℕ) → t < w → row t ≡ R.zero

  -- the places of the rows that are not 0, each once
  record Selection (n : ℕ) (rows : ℕ → ℕ → K) : Type 0 where
    pub size : ℕ
    pub fits : size ≤ n
    pub place : ℕ → ℕ
    pub within : (i : ℕ) → i < size → place i < n
    pub injective : (i k : ℕ) → i < size → k < size → place i ≡ place k → i ≡ k
    pub leads : (i : ℕ) → i < size → Lead W w (rows (place i))
    pub found : (j : ℕ) → j < n → Z (rows j) ⊎ ((i : ℕ) × (i < size) × (place i ≡ j))

  kept : (n : ℕ) (rows : ℕ → ℕ → K) → Selection n rows → Z (rows n) → Selection (suc n) rows
  kept n rows s z = record {
    size = s.size;
    fits = (let f = s.fits in omega arith);
    place = s.place;
    within = λ i l. let h = s.within i l in omega arith;
    injective = s.injective;
    leads = s.leads;
    found = below_suc n (λ j. Z (rows j) ⊎ ((i : ℕ) × (i < s.size) × (s.place i ≡ j))) s.found (inl z);
  }

  module _ (n : ℕ) (rows : ℕ → ℕ → K) (s : Selection n rows) (h : Lead W w (rows n)) where
    abbrev more : ℕ → ℕ
    more = push s.size n s.place

    more-below : (i : ℕ) → i < s.size → more i ≡ s.place i
    more-below = push-below s.size n s.place

    more-at : more s.size ≡ n
    more-at = push-at s.size n s.place

    more_injective : (i k : ℕ) → i < suc s.size → k < suc s.size → more i ≡ more k → i ≡ k
    more_injective i k l g e = ⊎_elim
        (λ (a : i < s.size). ⊎_elim
        (λ (b : k < s.size). s.injective i k a b (sym (more-below i a) ∙ e ∙ more-below k b))
        (λ (b : s.size ≤ k). let q : k ≡ s.size = omega arith in let x = s.within i a in
        let y : s.place i ≡ n = sym (more-below i a) ∙ e ∙ ap more q ∙ more-at in absurd (omega arith))
        (cases_lt k s.size))
        (λ (a : s.size ≤ i). let p : i ≡ s.size = omega arith in ⊎_elim
        (λ (b : k < s.size). let x = s.within k b in
        let y : s.place k ≡ n = sym (more-below k b) ∙ sym e ∙ ap more p ∙ more-at in absurd (omega arith))
        (λ (b : s.size ≤ k). omega arith) (cases_lt k s.size)) (cases_lt i s.size)

    extended : Selection (suc n) rows
    extended = record {
      size = suc s.size;
      fits = (let f = s.fits in omega arith);
      place = more;
      within = below_suc s.size (λ i. more i < suc n)
          (λ i l. let a = s.within i l in let e = more-below i l in omega arith) (let e = more-at in omega arith);
      injective = more_injective;
      leads = λ i l. let L : ℕ → Type 0 = λ t. Lead W w (rows t) in ⊎_elim
          (λ (a : i < s.size). subst L (sym (more-below i a)) (s.leads i a))
          (λ (a : s.size ≤ i). let q : i ≡ s.size = omega arith in subst L (sym (ap more q ∙ more-at)) h)
          (cases_lt i s.size);
      found = below_suc n (λ j. Z (rows j) ⊎ ((i : ℕ) × (i < suc s.size) × (more i ≡ j)))
          (λ j l. ⊎_elim (λ (z : Z (rows j)). inl z)
          (λ (r : (i : ℕ) × (i < s.size) × (s.place i ≡ j)). let b = r.1 in
          inr (r.0, omega arith, more-below r.0 r.1 ∙ r.2)) (s.found j l))
          (inr (s.size, omega arith, more-at));
    }

  selection : (n : ℕ) (rows : ℕ → ℕ → K) → Selection n rows
  selection zero rows = record {
    size = 0;
    fits = omega arith;
    place = λ i. i;
    within = λ i l. absurd (omega arith);
    injective = λ i k l g e. e;
    leads = λ i l. absurd (omega arith);
    found = λ j l. absurd (omega arith);
  }
  selection (suc n) rows = let s = selection n rows in
      ⊎_elim (λ h. extended n rows s h) (λ z. kept n rows s z) (lead_of W w (rows n))

  reduced_of : (n : ℕ) (rows : ℕ → ℕ → K) → WeakPopov W n w rows → (s : Selection n rows)
      → Reduced W s.size w (λ i. rows (s.place i))
  reduced_of n rows P s =
      let c = choose_each s.size (λ i (d : ℤ × ℕ). LeadsAt W w (rows (s.place i)) d.0 d.1) (pos 0, 0)
      (λ i l. let h = s.leads i l in ((h.degree, h.place), h.leads)) in
      record {
        degree = λ i. (c.0 i).0;
        lead = λ i. (c.0 i).1;
        leads = c.1;
        differ = λ i k l g e. ⊎_elim (λ (q : i ≡ k). q)
            (λ (d : i ≡ k → ⊥). absurd
            (P.differ (s.place i) (s.place k) (s.within i l) (s.within k g) (λ q. d (s.injective i k l g q))
            (record { degree = (c.0 i).0; place = (c.0 i).1; leads = c.1 i l })
            (record { degree = (c.0 k).0; place = (c.0 k).1; leads = c.1 k g }) e))
            (cases_eq i k);
      }

  -- the rows that are not 0 have the same combinations
  same_rows : (n : ℕ) (rows : ℕ → ℕ → K) (s : Selection n rows) → SameRows R w n s.size rows (λ i. rows (s.place i))
  same_rows n rows s = record {
    into = λ i l. InRows-member R w n rows (s.place i) (s.within i l);
    back = λ j l. ⊎_elim
        (λ (z : Z (rows j)). InRows-zero R w s.size (λ i. rows (s.place i)) (rows j) z)
        (λ (r : (i : ℕ) × (i < s.size) × (s.place i ≡ j)).
        let P : ℕ → Type 0 = λ t. InRows R s.size w (λ i. rows (s.place i)) (rows t) in
        subst P r.2 (InRows-member R w s.size (λ i. rows (s.place i)) r.0 r.1))
        (s.found j l);
  }

  SameRows_trans : (n m l : ℕ) (x y z : ℕ → ℕ → K) → SameRows R w n m x y → SameRows R w m l y z → SameRows R w n l x z
  SameRows_trans n m l x y z h g = record {
    into = λ i b. InRows_trans R w m n y x (z i) h.into (g.into i b);
    back = λ i b. InRows_trans R w m l y z (x i) g.back (h.back i b);
  }

  pub reduced_basis : IsEuclidean W → (n : ℕ) (rows : ℕ → ℕ → K) → (m : ℕ) × (m ≤ n) × (new : ℕ → ℕ → K)
      × SameRows R w n m rows new × Reduced W m w new
  reduced_basis euclid n rows =
      let r = reduction W euclid w n rows in
      let s = selection n r.0 in
      let same : SameRows R w n n rows r.0 = record {
        into = λ i l. InRows_of_span R w n rows (r.0 i) (r.1.into i l);
        back = λ i l. InRows_of_span R w n r.0 (rows i) (r.1.back i l);
      } in (
        s.size,
        s.fits,
        λ i. r.0 (s.place i),
        SameRows_trans n n s.size rows r.0 (λ i. r.0 (s.place i)) same (same_rows n r.0 s),
        reduced_of n r.0 r.2 s,
      )
