-- Whether a row is a combination of reduced rows over a Euclidean degree: one that is leads where a reduced row of no
-- greater degree does, and a multiple of that row can be taken away.
use Rattle.std.specs.Prelude.{◌≡◌, ℕ, zero, suc, ◌<◌, ℤ, pos, ◌+ℤ◌, ◌≤ℤ◌, ◌<ℤ◌, ◌⊎◌}
use Rattle.std.proofs.Common.{sym, ◌∙◌, ap, subst, arith, ⊎_elim, inl, inr}
use Rattle.std.proofs.lemmas.Int.{ints}
use Rattle.std.proofs.lemmas.Bool.{cases_eq}
use Rattle.theory_rings.specs.Ring.{RingOn}
use Rattle.theory_rings.proofs.Rings.RingLaws.{zero-mul}
use Rattle.theory_rings.proofs.Sums.Sums.{sum_eq_zero}
use Rattle.theory_spaces.proofs.Linear.Families.{below_suc}
use Rattle.theory_lattices.specs.Degree.{DegreeOn, DegreeBelow, HasDegree, IsEuclidean}
use Rattle.theory_lattices.specs.ReducedRows.{LeadsAt, Lead, Reduced, Predicted, row_sum, InRows, less_multiple}
use Rattle.theory_lattices.specs.ReducedRows.{LeadsAmong}
use Rattle.theory_lattices.proofs.Degree.Degrees.{cases_int}
use Rattle.theory_lattices.proofs.Rows.PredictableDegrees.{predicted}
use Rattle.theory_lattices.proofs.Rows.ReductionStep.{lead_of}
use Rattle.theory_lattices.proofs.Rows.Reduction.{key, lead_unique, Conflict, lower}
use Rattle.theory_lattices.proofs.Rows.RowSpans.{InRows-member, InRows-zero, InRows-less_multiple}
use Rattle.theory_lattices.proofs.Rows.RowSpans.{InRows_of_less_multiple}

module _ {K : Type 0} {R : RingOn K} (W : DegreeOn R) (euclid : IsEuclidean W) (w n : ℕ) (rows : ℕ → ℕ → K)
    (red : Reduced W n w rows) where
  infixl 70 ◌⊗◌
  open R use {monoid, ◌⊗◌}

  leads_congr : (x y : ℕ → K) (d : ℤ) (p : ℕ) → ((t : ℕ) → t < w → x t ≡ y t) → LeadsAt W w x d p → LeadsAt W w y d p
  leads_congr x y d p e h = record {
    inside = h.inside;
    reaches = subst (HasDegree W d) (e p h.inside) h.reaches;
    within = λ t l. let P : K → Type 0 = λ a. DegreeBelow W (d +ℤ pos 1) a in subst P (e t l) (h.within t l);
    after = λ t l g. let P : K → Type 0 = λ a. DegreeBelow W d a in subst P (e t l) (h.after t l g);
  }

  -- one of the first k rows leads at p, with no greater degree than d, or none does
  search : (p : ℕ) (d : ℤ) (k : ℕ) → ((i : ℕ) × (i < k) × (red.lead i ≡ p) × (red.degree i ≤ℤ d))
      ⊎ ((i : ℕ) → i < k → red.lead i ≡ p → red.degree i ≤ℤ d → ⊥)
  search p d zero = inr (λ i l. absurd (omega arith))
  search p d (suc k) = ⊎_elim
      (λ (r : (i : ℕ) × (i < k) × (red.lead i ≡ p) × (red.degree i ≤ℤ d)). let l = r.1 in
      inl (r.0, omega arith, r.2, r.3))
      (λ (r : (i : ℕ) → i < k → red.lead i ≡ p → red.degree i ≤ℤ d → ⊥). ⊎_elim
      (λ (e : red.lead k ≡ p). ⊎_elim
      (λ (g : d <ℤ red.degree k).
      inr (below_suc k (λ i. red.lead i ≡ p → red.degree i ≤ℤ d → ⊥) r (λ _ h. omega (arith, ints))))
      (λ (g : red.degree k ≤ℤ d). inl (k, omega arith, e, g)) (cases_int d (red.degree k)))
      (λ (e : red.lead k ≡ p → ⊥). inr (below_suc k (λ i. red.lead i ≡ p → red.degree i ≤ℤ d → ⊥) r (λ q _. e q)))
      (cases_eq (red.lead k) p))
      (search p d k)

  pub member_leads : (x : ℕ → K) (h : Lead W w x) → InRows R n w rows x → LeadsAmong W n w rows red x h
  member_leads x h s = ⊎_elim
      (λ (p : Predicted W n w rows red s.weights).
      let own : Lead W w x = record {
        degree = p.top;
        place = red.lead p.place;
        leads = leads_congr (row_sum R n s.weights rows) x p.top (red.lead p.place)
            (λ t l. sym (s.combines t l)) p.leads;
      } in
      let u = lead_unique W euclid w x own h in
      let a = euclid.natural (s.weights p.place) p.nonzero in
      let b = p.top-is in
      let c = u.0 in
      record { row = p.place; within = p.within; place = u.1; degree = omega (arith, ints) })
      (λ (z : (i : ℕ) → i < n → s.weights i ≡ R.zero). absurd
      (h.leads.reaches.nonzero (s.combines h.place h.leads.inside
      ∙ sum_eq_zero monoid n (λ i. s.weights i ⊗ rows i h.place)
      (λ i l. ap (λ c. c ⊗ rows i h.place) (z i l) ∙ zero-mul R (rows i h.place)))))
      (predicted W n w rows red s.weights)

  member_within : (fuel : ℕ) (x : ℕ → K) → key W euclid w x < fuel → InRows R n w rows x ⊎ (InRows R n w rows x → ⊥)
  member_within zero x l = absurd (omega arith)
  member_within (suc fuel) x l = ⊎_elim
      (λ (h : Lead W w x). ⊎_elim
      (λ (r : (i : ℕ) × (i < n) × (red.lead i ≡ h.place) × (red.degree i ≤ℤ h.degree)).
      let i = r.0 in
      let conflict : Conflict W euclid w (rows i) x = record {
        a = record { degree = red.degree i; place = red.lead i; leads = red.leads i r.1 };
        b = h;
        place = r.2;
        degree = r.3;
      } in
      let lo = lower W euclid w (rows i) x conflict in
      let less = lo.smaller in
      let own = InRows-member R w n rows i r.1 in
      ⊎_elim
      (λ (s : InRows R n w rows (less_multiple R x lo.factor (rows i))). inl
      (InRows_of_less_multiple R w n rows x (rows i) lo.factor s own))
      (λ (s : InRows R n w rows (less_multiple R x lo.factor (rows i)) → ⊥). inr
      (λ g. s (InRows-less_multiple R w n rows x (rows i) lo.factor g own)))
      (member_within fuel (less_multiple R x lo.factor (rows i)) (omega arith)))
      (λ (none : (i : ℕ) → i < n → red.lead i ≡ h.place → red.degree i ≤ℤ h.degree → ⊥).
      inr (λ s. let m = member_leads x h s in none m.row m.within m.place m.degree))
      (search h.place h.degree n))
      (λ (z : (t : ℕ) → t < w → x t ≡ R.zero). inl (InRows-zero R w n rows x z))
      (lead_of W w x)

  pub member_or_not : (x : ℕ → K) → InRows R n w rows x ⊎ (InRows R n w rows x → ⊥)
  member_or_not x = member_within (suc (key W euclid w x)) x (omega arith)
