-- How high a row leads, as a number; a row from which a multiple of another with its leading position is taken away, so
-- that only a remainder is left there, leads lower.
use Rattle.std.specs.Prelude.{◌≡◌, ℕ, zero, suc, ◌+◌, ◌*◌, ◌<◌, ◌≤◌, ℤ, pos, ◌-ℤ◌, ◌≤ℤ◌, ◌<ℤ◌, ◌⊎◌, cond, ltb, List, []}
use Rattle.std.specs.Prelude.{length, get_or}
use Rattle.std.proofs.Common.{refl, sym, ◌∙◌, ap, subst, arith, ⊎_elim, inl, inr, mul-le-mul_right, add-mul, pred}
use Rattle.std.proofs.lemmas.Bool.{cases_lt, lt-ltb, le-ltb}
use Rattle.std.proofs.lemmas.Int.{ints}
use Rattle.std.proofs.Math.Path.{fun_ext}
use Rattle.theory_rings.specs.Ring.{CommRingOn}
use Rattle.theory_rings.specs.Ops.{Ops, FieldLaws}
use Rattle.theory_rings.specs.Polynomial.{Poly, degree, IsTrimmed}
use Rattle.theory_rings.proofs.Rings.RingLaws.{zero-mul, neg-mul}
use Rattle.theory_rings.proofs.Rings.Solver.{◌⊞◌, minus, ring2}
use Rattle.theory_fractions.specs.PolynomialLists.{IsOver}
use Rattle.theory_lattices.specs.Degree.{DegreeBelow, HasDegree}
use Rattle.theory_lattices.specs.ReducedRows.{LeadsAt, Lead, less_multiple}
use Rattle.theory_lattices.proofs.Degree.Degrees.{has_degree-add, below-neg, below-mono}
use Rattle.theory_lattices.proofs.Rows.ReductionStep.{lead_of, step_lower}
use Rattle.theory_rows.specs.LeadingPositions.{HasLeadingPosition, IsZeroUpTo}
use Rattle.theory_rows.proofs.LiftedRows.{G, Q, up_row, nil_of_up}
use Rattle.theory_rows.proofs.Positions.{W, length_of_degree, exact_degree, leads_of_position}
use Rattle.theory_rows.proofs.Positions.{position_of_leads}

-- lexicographic by degree and place
pub height_less : (w a p b r : ℕ) → r < w → (a < b) ⊎ ((a ≤ b) × (r < p)) → a * w + r < b * w + p
height_less w a p b r l (inl h) = let g : suc a * w ≤ b * w = mul-le-mul_right w h in let e = add-mul a 1 w in
    omega arith
height_less w a p b r l (inr h) = let h0 = h.0 in let h1 = h.1 in let g : a * w ≤ b * w = mul-le-mul_right w h0 in
    omega arith

module _ {E : Type 0} where
  -- the greatest length of the first w entries, and the last place that reaches it
  abbrev pub top : ℕ → List (List E) → ℕ × ℕ
  top zero row = (0, 0)
  top (suc w) row = cond (ltb (length (get_or row w [])) (top w row).0) (top w row) (length (get_or row w []), w)

  -- how high a row leads in its first w entries
  pub height : ℕ → List (List E) → ℕ
  height w row = (top w row).0 * w + (top w row).1

  top-keep : (w : ℕ) (row : List (List E)) → length (get_or row w []) < (top w row).0 → top (suc w) row ≡ top w row
  top-keep w row l = ap (λ b. cond b (top w row) (length (get_or row w []), w))
      (lt-ltb (length (get_or row w [])) (top w row).0 l)

  top-new : (w : ℕ) (row : List (List E)) → (top w row).0 ≤ length (get_or row w [])
      → top (suc w) row ≡ (length (get_or row w []), w)
  top-new w row l = ap (λ b. cond b (top w row) (length (get_or row w []), w))
      (le-ltb (length (get_or row w [])) (top w row).0 l)

  top_le : (w : ℕ) (row : List (List E)) (m : ℕ) → ((j : ℕ) → j < w → length (get_or row j []) ≤ m) → (top w row).0 ≤ m
  top_le zero row m h = omega arith
  top_le (suc w) row m h = ⊎_elim
      (λ (l : length (get_or row w []) < (top w row).0).
      let e = ap (λ (x : ℕ × ℕ). x.0) (top-keep w row l) in
      let i = top_le w row m (λ j g. h j (omega arith)) in omega arith)
      (λ (l : (top w row).0 ≤ length (get_or row w [])).
      let e = ap (λ (x : ℕ × ℕ). x.0) (top-new w row l) in let i = h w (omega arith) in omega arith)
      (cases_lt (length (get_or row w [])) (top w row).0)

  pub top-position : (w : ℕ) (row : List (List E)) (p : ℕ) → HasLeadingPosition w row p
      → top w row ≡ (length (get_or row p []), p)
  top-position zero row p h = absurd (let l = h.inside in omega arith)
  top-position (suc w) row p h = ⊎_elim
      (λ (l : p < w).
      let e = top-position w row p (record {
        inside = l;
        nonzero = h.nonzero;
        within = λ j g. h.within j (omega arith);
        after = λ j g k. h.after j (omega arith) k;
      }) in
      let a = h.after w (omega arith) l in
      top-keep w row (let z = ap (λ (x : ℕ × ℕ). x.0) e in omega arith) ∙ e)
      (λ (l : w ≤ p). let i = h.inside in let e : p ≡ w = omega arith in
      top-new w row (top_le w row (length (get_or row w []))
      (λ j g. subst (λ q. length (get_or row j []) ≤ length (get_or row q [])) e (h.within j (omega arith))))
      ∙ ap (λ q. (length (get_or row q []), q)) (sym e)) (cases_lt p w)

  pub height-position : (w : ℕ) (row : List (List E)) (p : ℕ) → HasLeadingPosition w row p
      → height w row ≡ length (get_or row p []) * w + p
  unfolding height
  height-position w row p h = ap (λ (x : ℕ × ℕ). x.0 * w + x.1) (top-position w row p h)

  top-zero : (w : ℕ) (row : List (List E)) → IsZeroUpTo w row → (top w row).0 ≡ 0
  top-zero w row h = let l = top_le w row 0 (λ j g. let e = ap length (h j g) in omega arith) in omega arith

  top_place : (w : ℕ) (row : List (List E)) → (top w row).1 ≤ pred w
  top_place zero row = omega arith
  top_place (suc w) row = ⊎_elim
      (λ (l : length (get_or row w []) < (top w row).0).
      let e = ap (λ (x : ℕ × ℕ). x.1) (top-keep w row l) in let i = top_place w row in omega arith)
      (λ (l : (top w row).0 ≤ length (get_or row w [])).
      let e = ap (λ (x : ℕ × ℕ). x.1) (top-new w row l) in omega arith)
      (cases_lt (length (get_or row w [])) (top w row).0)

  -- a row that is 0 is lower than one that leads
  height_zero_less : (w : ℕ) (row other : List (List E)) (p : ℕ) → IsZeroUpTo w row → HasLeadingPosition w other p
      → height w row < height w other
  unfolding height
  height_zero_less w row other p z h =
      let a = height-position w other p h in
      let i = top_place w row in
      let e : (top w row).0 * w ≡ 0 * w = ap (λ x. x * w) (top-zero w row z) in
      let n = h.nonzero in
      let g : 1 * w ≤ length (get_or other p []) * w = mul-le-mul_right w n in
      let l = h.inside in
      omega arith

module _ {E : Type 0} (o : Ops E) (L : FieldLaws o) where
  abbrev P : CommRingOn (Poly (let F = G o L in F.cring))
  P = Q o L

  -- the quotient has the difference of the degrees, and the remainder is below
  quotient_degree : (a b q r : Poly (let F = G o L in F.cring)) (d e : ℤ) → HasDegree (W o L) d a
      → HasDegree (W o L) e b → DegreeBelow (W o L) e r → e ≤ℤ d → a ≡ P.◌⊕◌ (P.◌⊗◌ q b) r
      → HasDegree (W o L) (d -ℤ e) q
  quotient_degree a b q r d e ha hb hr le whole =
      let V = W o L in
      let low : DegreeBelow V d r = below-mono V e d r le hr in
      let other : P.◌⊕◌ a (P.neg r) ≡ P.◌⊗◌ q b = ap (λ t. P.◌⊕◌ t (P.neg r)) whole
      ∙ ring2 P (λ u r. (u ⊞ r ⊞ minus r, u)) refl (P.◌⊗◌ q b) r in
      let x : HasDegree V d (P.◌⊗◌ q b) = subst (λ t. HasDegree V d t) other
      (has_degree-add V d a (P.neg r) ha (below-neg V d r low)) in
      let nq : q ≡ P.zero → ⊥ = λ z. x.nonzero (ap (λ t. P.◌⊗◌ t b) z ∙ zero-mul P.ring b) in
      record {
        nonzero = nq;
        degree = (let s = V.deg-mul q b nq hb.nonzero in let y = x.degree in let z = hb.degree in omega (arith, ints));
      }

  module _ (w : ℕ) (row by new : List (List E)) (p : ℕ) (q r : Poly (let F = G o L in F.cring)) (rl : ℕ)
      (hr : (j : ℕ) → IsOver o (get_or row j [])) (tr : (j : ℕ) → IsTrimmed o.zero (get_or row j []))
      (hb : (j : ℕ) → IsOver o (get_or by j [])) (tb : (j : ℕ) → IsTrimmed o.zero (get_or by j []))
      (hn : (j : ℕ) → IsOver o (get_or new j [])) (tn : (j : ℕ) → IsTrimmed o.zero (get_or new j []))
      (lr : HasLeadingPosition w row p) (lb : HasLeadingPosition w by p)
      (below : length (get_or by p []) ≤ length (get_or row p []))
      (small : DegreeBelow (W o L) (pos (degree (get_or by p []))) r)
      (whole : up_row o L row p ≡ P.◌⊕◌ (P.◌⊗◌ q (up_row o L by p)) r)
      (step : (j : ℕ) → up_row o L new j ≡ P.◌⊕◌ (up_row o L row j) (P.◌⊗◌ (P.neg q) (up_row o L by j))) where
    abbrev d : ℕ
    d = degree (get_or row p [])

    abbrev e : ℕ
    e = degree (get_or by p [])

    le : e ≤ d
    le = let x = length_of_degree (get_or row p []) lr.nonzero in
        let y = length_of_degree (get_or by p []) lb.nonzero in omega arith

    is_less : (λ j. up_row o L new j) ≡ less_multiple P.ring (up_row o L row) q (up_row o L by)
    is_less = fun_ext (λ j. step j ∙ ap (λ t. P.◌⊕◌ (up_row o L row j) t) (neg-mul P.ring q (up_row o L by j)))

    rest : P.◌⊕◌ (up_row o L row p) (P.neg (P.◌⊗◌ q (up_row o L by p))) ≡ r
    rest = ap (λ t. P.◌⊕◌ t (P.neg (P.◌⊗◌ q (up_row o L by p)))) whole
        ∙ ring2 P (λ u r. (u ⊞ r ⊞ minus u, r)) refl (P.◌⊗◌ q (up_row o L by p)) r

    less : ℕ → Poly (let F = G o L in F.cring)
    less = less_multiple P.ring (up_row o L row) q (up_row o L by)

    lower_lead : (h : Lead (W o L) w less) → height w new < height w row
    unfolding less
    lower_lead h =
        let V = W o L in
        let x = position_of_leads o L w new hn tn h.degree h.place
        (subst (λ t. LeadsAt V w t h.degree h.place) (sym is_less) h.leads) in
        let s = step_lower V w (up_row o L row) (up_row o L by) (pos d) (pos e) p q
        (leads_of_position o L w row hr tr p lr) (leads_of_position o L w by hb tb p lb)
        (quotient_degree (up_row o L row p) (up_row o L by p) q r (pos d) (pos e)
        (exact_degree o L (get_or row p []) (hr p) (tr p) lr.nonzero)
        (exact_degree o L (get_or by p []) (hb p) (tb p) lb.nonzero) small (let l = le in omega (arith, ints)) whole)
        (subst (λ t. DegreeBelow V (pos d) t) (sym rest)
        (below-mono V (pos e) (pos d) r (let l = le in omega (arith, ints)) small)) h in
        let a = length_of_degree (get_or new h.place []) (let y = x.0 in y.nonzero) in
        let b = length_of_degree (get_or row p []) lr.nonzero in
        let g = x.1 in
        let ea = height-position w new h.place x.0 in
        let eb = height-position w row p lr in
        let less = height_less w (length (get_or new h.place [])) p (length (get_or row p [])) h.place h.leads.inside
        (⊎_elim (λ (l : h.degree <ℤ pos d). inl (omega (arith, ints)))
        (λ (l : (h.degree ≤ℤ pos d) × (h.place < p)). let l0 = l.0 in inr (omega (arith, ints), l.1)) s) in
        omega arith

    pub lowered : height w new < height w row
    unfolding less
    lowered = ⊎_elim
        (λ (h : Lead (W o L) w less). lower_lead h)
        (λ (z : (j : ℕ) → j < w → less j ≡ P.zero).
        height_zero_less w new row p (λ j l. nil_of_up o L (get_or new j []) (hn j) (tn j)
        (ap (λ (f : ℕ → _). f j) is_less ∙ z j l)) lr)
        (lead_of (W o L) w less)
