-- Leading places, one step of the reduction of rows, and how reduced rows move along a map that shifts degrees.
use Rattle.std.specs.Prelude.{◌≡◌, ℕ, zero, suc, ◌<◌, ◌≤◌, ℤ, pos, ◌+ℤ◌, ◌-ℤ◌, ◌≤ℤ◌, ◌<ℤ◌, ◌⊎◌}
use Rattle.std.proofs.Common.{refl, ◌∙◌, ap, subst, arith, ⊎_elim, inl, inr}
use Rattle.std.proofs.lemmas.Int.{ints}
use Rattle.std.proofs.lemmas.Bool.{cases_lt}
use Rattle.theory_rings.specs.Ring.{RingOn}
use Rattle.theory_lattices.specs.Degree.{DegreeOn, DegreeBelow, HasDegree}
use Rattle.theory_lattices.specs.ReducedRows.{LeadsAt, Lead, Reduced, less_multiple, LeadsLower, Shifts}
use Rattle.theory_lattices.proofs.Degree.Degrees.{cases_int, below-mono, below-neg, below_of_degree}
use Rattle.theory_lattices.proofs.Degree.Degrees.{not_below_of_degree, below-mul}

-- One step of the reduction of rows, leading places, and how reduced rows move along a map that shifts degrees.

module _ {K : Type 0} {R : RingOn K} (W : DegreeOn R) where
  infixl 65 ◌⊕◌
  infixl 70 ◌⊗◌
  open R use {additive, ◌⊕◌, ◌⊗◌, neg}

  -- each row that is not 0 leads somewhere
  pub lead_of : (w : ℕ) (row : ℕ → K) → Lead W w row ⊎ ((j : ℕ) → j < w → row j ≡ R.zero)
  lead_of zero row = inr (λ j l. absurd (omega arith))
  lead_of (suc w) row = ⊎_elim
      (λ (z : row w ≡ R.zero). ⊎_elim
      (λ (h : Lead W w row). inl (keep h (inl z)))
      (λ (h : (j : ℕ) → j < w → row j ≡ R.zero). inr
      (λ j l. ⊎_elim (λ (a : j < w). h j a) (λ (a : w ≤ j). let e : j ≡ w = omega arith in ap row e ∙ z)
      (cases_lt j w)))
      (lead_of w row))
      (λ (d : row w ≡ R.zero → ⊥). ⊎_elim
      (λ (h : Lead W w row). ⊎_elim
      (λ (a : W.deg (row w) <ℤ h.degree). inl (keep h (inr a)))
      (λ (a : h.degree ≤ℤ W.deg (row w)). inl
      (new d (λ j l. below-mono W (h.degree +ℤ pos 1) (W.deg (row w) +ℤ pos 1) (row j) (omega (arith, ints))
      (h.leads.within j l))))
      (cases_int (W.deg (row w)) h.degree))
      (λ (h : (j : ℕ) → j < w → row j ≡ R.zero). inl (new d (λ j l. inl (h j l))))
      (lead_of w row))
      (W.eq_zero_or (row w))
    where
      last_or : (Q : ℕ → Type 0) → ((j : ℕ) → j < w → Q j) → Q w → (j : ℕ) → j < suc w → Q j
      last_or Q h q j l = ⊎_elim (λ (a : j < w). h j a) (λ (a : w ≤ j). let e : w ≡ j = omega arith in subst Q e q)
          (cases_lt j w)

      keep : (h : Lead W w row) → DegreeBelow W h.degree (row w) → Lead W (suc w) row
      keep h u = record {
        degree = h.degree;
        place = h.place;
        leads = record {
          inside = (let l = h.leads.inside in omega arith);
          reaches = h.leads.reaches;
          within = last_or (λ j. DegreeBelow W (h.degree +ℤ pos 1) (row j)) h.leads.within
              (below-mono W h.degree (h.degree +ℤ pos 1) (row w) (omega (arith, ints)) u);
          after = last_or (λ j. h.place < j → DegreeBelow W h.degree (row j)) h.leads.after (λ _. u);
        };
      }

      new : (row w ≡ R.zero → ⊥) → ((j : ℕ) → j < w → DegreeBelow W (W.deg (row w) +ℤ pos 1) (row j))
          → Lead W (suc w) row
      new d h = record {
        degree = W.deg (row w);
        place = w;
        leads = record {
          inside = omega arith;
          reaches = record { nonzero = d; degree = refl };
          within = last_or (λ j. DegreeBelow W (W.deg (row w) +ℤ pos 1) (row j)) h (inr (omega (arith, ints)));
          after = λ j l g. absurd (omega arith);
        };
      }

  -- where two rows lead at p, and m times the one cancels the other there, what is left leads earlier or is of smaller
  -- degree
  pub step_lower : (w : ℕ) (row other : ℕ → K) (d e : ℤ) (p : ℕ) (m : K) → LeadsAt W w row d p → LeadsAt W w other e p
      → HasDegree W (d -ℤ e) m → DegreeBelow W d (less_multiple R row m other p)
      → (h : Lead W w (less_multiple R row m other)) → LeadsLower W w (less_multiple R row m other) h d p
  step_lower w row other d e p m r o x c h =
      let new = less_multiple R row m other in
      let mu : DegreeBelow W ((d -ℤ e) +ℤ pos 1) m =
      below_of_degree W (d -ℤ e) ((d -ℤ e) +ℤ pos 1) m (omega (arith, ints)) x in
      let below : h.degree ≤ℤ d =
      ⊎_elim (λ (a : d <ℤ h.degree).
      absurd (not_below_of_degree W h.degree (d +ℤ pos 1) (new h.place) (omega (arith, ints)) h.leads.reaches
      (W.add-below (d +ℤ pos 1) (row h.place) (neg (m ⊗ other h.place)) (r.within h.place h.leads.inside)
      (below-neg W (d +ℤ pos 1) (m ⊗ other h.place)
      (below-mul W ((d -ℤ e) +ℤ pos 1) (e +ℤ pos 1) (d +ℤ pos 1) m (other h.place) (omega (arith, ints)) mu
      (o.within h.place h.leads.inside))))))
      (λ (a : h.degree ≤ℤ d). a) (cases_int d h.degree) in
      ⊎_elim (λ (a : h.degree <ℤ d). inl a)
      (λ (a : d ≤ℤ h.degree). ⊎_elim (λ (l : h.place < p). inr (below, l))
      (λ (l : p ≤ h.place). absurd (not_below_of_degree W h.degree d (new h.place) a h.leads.reaches
      (⊎_elim
      (λ (g : p < h.place). W.add-below d (row h.place) (neg (m ⊗ other h.place)) (r.after h.place h.leads.inside g)
      (below-neg W d (m ⊗ other h.place)
      (below-mul W ((d -ℤ e) +ℤ pos 1) e d m (other h.place) (omega (arith, ints)) mu
      (o.after h.place h.leads.inside g))))
      (λ (g : h.place ≤ p). let q : p ≡ h.place = omega arith in let Q : ℕ
      → Type 0 = λ t. DegreeBelow W d (new t) in subst Q q c)
      (cases_lt p h.place))))
      (cases_lt h.place p)) (cases_int h.degree d)

module _ {K L : Type 0} {R : RingOn K} {S : RingOn L} (W : DegreeOn R) (X : DegreeOn S) (s : ℤ) (φ : K → L)
    (H : Shifts W X s φ) where
  shift_exact : (n : ℤ) (a : K) → HasDegree W n a → HasDegree X (n +ℤ s) (φ a)
  shift_exact n a h = record {
    nonzero = H.map-ne-zero a h.nonzero;
    degree = H.map-degree a h.nonzero
        ∙ ap (λ t. t +ℤ s) h.degree;
  }

  shift_under : (n m : ℤ) (a : K) → (n +ℤ s) ≡ m → DegreeBelow W n a → DegreeBelow X m (φ a)
  shift_under n m a q (inl e) = inl (ap φ e ∙ H.map-zero)
  shift_under n m a q (inr l) =
      ⊎_elim (λ (e : a ≡ R.zero). inl (ap φ e ∙ H.map-zero))
      (λ (d : a ≡ R.zero → ⊥). let e = H.map-degree a d in inr (omega (arith, ints))) (W.eq_zero_or a)

  -- polynomial rows that lead apart do so as rows of fractions, and over a common denominator
  pub reduced_shift : (n w : ℕ) (rows : ℕ → ℕ → K) → Reduced W n w rows → Reduced X n w (λ i j. φ (rows i j))
  reduced_shift n w rows r = record {
    degree = λ i. r.degree i +ℤ s;
    lead = r.lead;
    leads = λ i l. let h = r.leads i l in record {
      inside = h.inside;
      reaches = shift_exact (r.degree i) (rows i (r.lead i)) h.reaches;
      within = λ j g. shift_under (r.degree i +ℤ pos 1) ((r.degree i +ℤ s) +ℤ pos 1) (rows i j) (omega (arith, ints))
          (h.within j g);
      after = λ j g p. shift_under (r.degree i) (r.degree i +ℤ s) (rows i j) refl (h.after j g p);
    };
    differ = r.differ;
  }
