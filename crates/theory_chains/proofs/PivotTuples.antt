-- A tuple with given items at the pivots of a basis in reduced row echelon form, and 0 elsewhere: the sum of the
-- products of its items and those of a row is the item at the pivot of the row.
use Rattle.std.specs.Prelude.{◌≡◌, ◌≢◌, ℕ, ◌<◌, ◌≤◌, List, length, get_or, cond, nat_eq}
use Rattle.std.specs.List.{All}
use Rattle.std.proofs.Common.{refl, sym, ◌∙◌, ap, subst, arith, ⊎_elim}
use Rattle.std.proofs.lemmas.Bool.{cases_lt, eq-eqb, ne_eqb}
use Rattle.theory_rings.specs.Ring.{FieldOn}
use Rattle.theory_rings.specs.Ops.{Ops, IsElem, FieldLaws}
use Rattle.theory_rings.specs.Elements.{Elem, Elem-path, elements}
use Rattle.theory_rings.specs.Sum.{sum_of, at}
use Rattle.theory_rings.proofs.Rings.Elements.{at-elem, sum_of-elements}
use Rattle.theory_rings.proofs.Rings.RingLaws.{zero-mul, mul-zero}
use Rattle.theory_rings.proofs.Sums.Sums.{sum_eq_single}
use Rattle.theory_tables.specs.Matrix.{entry, IsMatrix}
use Rattle.theory_tables.specs.Echelon.{IsReducedEchelon}
use Rattle.theory_tables.proofs.Rows.Sums.{entry-elem}
use Rattle.theory_chains.specs.PivotItems.{IsPivotItem}

module _ {E : Type 0} (o : Ops E) (L : FieldLaws o) (m : ℕ) (rows : List (List E)) (shape : IsMatrix o m rows)
    (pivots : List ℕ) (each : length pivots ≡ length rows)
    (reduced : IsReducedEchelon o (length rows) rows pivots m) where
  abbrev F : FieldOn (Elem o)
  F = elements o L

  same_pivot : (s t : ℕ) → s < length pivots → t < length pivots → get_or pivots s 0 ≡ get_or pivots t 0 → s ≡ t
  same_pivot s t ls lt e = ⊎_elim
      (λ (h : s < t). absurd (let g = reduced.order s t h lt in omega arith))
      (λ (h : t ≤ s). ⊎_elim
      (λ (g : t < s). absurd (let f = reduced.order t s g ls in omega arith))
      (λ (g : s ≤ t). omega arith)
      (cases_lt t s))
      (cases_lt s t)

  module _ (P : ℕ → E → Type 0) (w : List E) (elems : All (IsElem o) w)
      (items : (j : ℕ) → j < m → IsPivotItem o.zero pivots P j (at o w j)) where
    item : ℕ → Elem o
    item j = (at o w j, at-elem o L w elems j)

    coefficient : ℕ → ℕ → Elem o
    coefficient s j = (entry o rows s j, entry-elem o L m rows shape s j)

    term : ℕ → ℕ → Elem o
    term s j = F.◌⊗◌ (coefficient s j) (item j)

    unit_at : (s t : ℕ) → s < length rows → t < length pivots
        → (coefficient s (get_or pivots t 0)).0 ≡ cond (nat_eq s t) o.one o.zero
    unfolding coefficient
    unit_at s t ls lt = reduced.unit t s lt ls

    other_zero : (s j : ℕ) → s < length rows → j < m → (j ≡ get_or pivots s 0 → ⊥) → term s j ≡ F.zero
    unfolding term item coefficient
    other_zero s j ls lj n = ⊎_elim
        (λ (h : (t : ℕ) × (t < length pivots) × (get_or pivots t 0 ≡ j) × P t (at o w j)).
        let apart : s ≡ h.0 → ⊥ = λ e. n (sym h.2 ∙ ap (λ t. get_or pivots t 0) (sym e)) in
        let z : coefficient s j ≡ F.zero = Elem-path o (coefficient s j) F.zero
        (ap (λ c. entry o rows s c) (sym h.2) ∙ reduced.unit h.0 s h.1 ls
        ∙ ap (λ b. cond b o.one o.zero) (ne_eqb s h.0 apart)) in
        ap (λ x. F.◌⊗◌ x (item j)) z ∙ zero-mul F.ring (item j))
        (λ (h : ((t : ℕ) → t < length pivots → get_or pivots t 0 ≢ j) × (at o w j ≡ o.zero)).
        ap (F.◌⊗◌ (coefficient s j)) (Elem-path o (item j) F.zero h.1) ∙ mul-zero F.ring (coefficient s j))
        (items j lj)

    -- P holds of row s and this sum
    pub pivot_sum : (s : ℕ) → s < length rows → P s (sum_of o m (λ j. o.mul (entry o rows s j) (at o w j)))
    unfolding term item coefficient
    pivot_sum s ls =
        let lp : s < length pivots = omega arith in
        let j = get_or pivots s 0 in
        let lj = reduced.below s lp in
        let e : sum_of o m (λ j. o.mul (entry o rows s j) (at o w j)) ≡ at o w j =
        sum_of-elements o L m (term s)
        ∙ ap (λ (x : Elem o). x.0) (sum_eq_single F.monoid m j (term s) lj
        (λ i li n. other_zero s i ls li n)
        ∙ ap (λ x. F.◌⊗◌ x (item j)) (Elem-path o (coefficient s j) F.one (reduced.unit s s lp ls
        ∙ ap (λ b. cond b o.one o.zero) (eq-eqb s s refl)))
        ∙ F.one-mul (item j)) in
        subst (P s) (sym e) (⊎_elim
        (λ (h : (t : ℕ) × (t < length pivots) × (get_or pivots t 0 ≡ j) × P t (at o w j)).
        subst (λ t. P t (at o w j)) (same_pivot h.0 s h.1 lp h.2) h.3)
        (λ (h : ((t : ℕ) → t < length pivots → get_or pivots t 0 ≢ j) × (at o w j ≡ o.zero)).
        absurd (h.0 s lp refl))
        (items j lj))
