-- Leading positions of rows of lists are those of the rows of polynomials; predictable degrees; members of the lattice
-- of reduced rows.
use Rattle.std.specs.Prelude.{◌≡◌, ℕ, suc, ◌+◌, ◌<◌, ◌≤◌, ℤ, pos, ◌+ℤ◌, ◌-ℤ◌, ◌≤ℤ◌, ◌<ℤ◌, ◌⊎◌, List, [], ◌∷◌, length}
use Rattle.std.specs.Prelude.{get_or}
use Rattle.std.proofs.Common.{refl, sym, ◌∙◌, ap, subst, arith, ⊎_elim, inl, inr}
use Rattle.std.proofs.lemmas.Int.{ints}
use Rattle.theory_rings.specs.Ops.{Ops, FieldLaws}
use Rattle.theory_rings.specs.Polynomial.{degree, IsTrimmed}
use Rattle.theory_fractions.specs.PolynomialLists.{IsOver}
use Rattle.theory_fractions.proofs.Lifting.{lift_nil}
use Rattle.theory_spaces.specs.Linear.{comb}
use Rattle.theory_lattices.specs.Degree.{DegreeOn, DegreeBelow, HasDegree, IsEuclidean}
use Rattle.theory_lattices.specs.ReducedRows.{LeadsAt, Lead, Reduced, Predicted, row_sum}
use Rattle.theory_lattices.proofs.Degree.FractionDegrees.{polynomial_degree, polynomial_degree-is}
use Rattle.theory_lattices.proofs.Rows.PolynomialRows.{polynomial_euclidean}
use Rattle.theory_lattices.proofs.Rows.PredictableDegrees.{predicted, only_zero}
use Rattle.theory_lattices.proofs.Rows.RowSpans.{InRows_of_span}
use Rattle.theory_lattices.proofs.Rows.Membership.{member_leads}
use Rattle.theory_rows.specs.Rows.{IsPolynomialRow, IsPolynomialMatrix, IsRowCombination, InRowLattice}
use Rattle.theory_rows.specs.Rows.{RowsAreIndependent}
use Rattle.theory_rows.specs.LeadingPositions.{HasLeadingPosition, HaveLeadingPositions, HasPredictedDegree, row_degree}
use Rattle.theory_rows.proofs.LiftedRows.{G, Q, M, up, up_row, up_rows, entry-over, entry-trimmed, length-up}
use Rattle.theory_rows.proofs.LiftedRows.{matrix-over, matrix-trimmed, nil_of_up, up_combination, comb_at}
use Rattle.theory_rows.proofs.LiftedRows.{span_of_lattice, independent_of_up, row_unique}

pub degree_eq_of_length : {X Y : Type 0} (xs : List X) (ys : List Y) → length xs ≡ length ys → degree xs ≡ degree ys
degree_eq_of_length [] [] e = refl
degree_eq_of_length [] (y ∷ ys) e = absurd (omega arith)
degree_eq_of_length (x ∷ xs) [] e = absurd (omega arith)
degree_eq_of_length (x ∷ xs) (y ∷ ys) e = omega arith

pub length_of_degree : {X : Type 0} (xs : List X) → 0 < length xs → length xs ≡ suc (degree xs)
length_of_degree [] l = absurd (omega arith)
length_of_degree (x ∷ xs) l = omega arith

module _ {E : Type 0} (o : Ops E) (L : FieldLaws o) where
  abbrev pub W : DegreeOn (Q o L).ring
  W = polynomial_degree (G o L)

  pub euclid : IsEuclidean W
  euclid = polynomial_euclidean (G o L) (polynomial_degree (G o L)) (polynomial_degree-is (G o L))

  pub deg_up : (a : List E) → IsOver o a → IsTrimmed o.zero a → W.deg (up o L a) ≡ pos (degree a)
  deg_up a h t = (let d = polynomial_degree-is (G o L) in d.degree-is (up o L a))
      ∙ ap pos (degree_eq_of_length (up o L a).0 a (length-up o L a h t))

  pub below_of_length : (a : List E) (m : ℕ) → IsOver o a → IsTrimmed o.zero a → length a ≤ m
      → DegreeBelow W (pos m) (up o L a)
  below_of_length [] m h t l = inl (lift_nil o L)
  below_of_length (x ∷ xs) m h t l = let e = deg_up (x ∷ xs) h t in inr (omega (arith, ints))

  pub length_of_below : (a : List E) (m : ℕ) → IsOver o a → IsTrimmed o.zero a → DegreeBelow W (pos m) (up o L a)
      → length a ≤ m
  length_of_below a m h t (inl e) = let z = ap length (nil_of_up o L a h t e) in omega arith
  length_of_below [] m h t (inr l) = omega arith
  length_of_below (x ∷ xs) m h t (inr l) = let e = deg_up (x ∷ xs) h t in omega (arith, ints)

  pub exact_degree : (a : List E) → IsOver o a → IsTrimmed o.zero a → 0 < length a
      → HasDegree W (pos (degree a)) (up o L a)
  exact_degree a h t l = record {
    nonzero = λ e. let z = ap length (nil_of_up o L a h t e) in omega arith;
    degree = deg_up a h t;
  }

  length_of_exact : (a : List E) (d : ℤ) → IsOver o a → IsTrimmed o.zero a → HasDegree W d (up o L a)
      → (0 < length a) × (d ≡ pos (degree a))
  length_of_exact [] d h t x = absurd (x.nonzero (lift_nil o L))
  length_of_exact (y ∷ ys) d h t x = (omega arith, sym x.degree ∙ deg_up (y ∷ ys) h t)

  length_of_nonzero : (a : List E) → (up o L a ≡ (let P = Q o L in P.zero) → ⊥) → 0 < length a
  length_of_nonzero [] h = absurd (h (lift_nil o L))
  length_of_nonzero (x ∷ xs) h = omega arith

  module _ (w : ℕ) (row : List (List E)) (hr : (j : ℕ) → IsOver o (get_or row j []))
      (ht : (j : ℕ) → IsTrimmed o.zero (get_or row j [])) where
    pub leads_of_position : (p : ℕ) → HasLeadingPosition w row p
        → LeadsAt W w (up_row o L row) (pos (degree (get_or row p []))) p
    leads_of_position p h =
        let e = length_of_degree (get_or row p []) h.nonzero in
        record {
          inside = h.inside;
          reaches = exact_degree (get_or row p []) (hr p) (ht p) h.nonzero;
          within = λ j l. let g = h.within j l in
              below_of_length (get_or row j []) (degree (get_or row p []) + 1) (hr j) (ht j) (omega arith);
          after = λ j l k. let g = h.after j l k in
              below_of_length (get_or row j []) (degree (get_or row p [])) (hr j) (ht j) (omega arith);
        }

    pub position_of_leads : (d : ℤ) (p : ℕ) → LeadsAt W w (up_row o L row) d p
        → HasLeadingPosition w row p × (d ≡ pos (degree (get_or row p [])))
    position_of_leads d p h =
        let x = length_of_exact (get_or row p []) d (hr p) (ht p) h.reaches in
        let e = length_of_degree (get_or row p []) x.0 in
        let D = degree (get_or row p []) in (
          record {
            inside = h.inside;
            nonzero = x.0;
            within = λ j l. let g = length_of_below (get_or row j []) (D + 1) (hr j) (ht j)
                (subst (λ z. DegreeBelow W (z +ℤ pos 1) (up o L (get_or row j []))) x.1 (h.within j l)) in omega arith;
            after = λ j l k. let g = length_of_below (get_or row j []) D (hr j) (ht j)
                (subst (λ z. DegreeBelow W z (up o L (get_or row j []))) x.1 (h.after j l k)) in omega arith;
          },
          x.1,
        )

  module _ (w : ℕ) (v : ℕ) (rows : List (List (List E))) (places : List ℕ) (hm : IsPolynomialMatrix o v rows)
      (hp : HaveLeadingPositions w rows places) where
    abbrev n : ℕ
    n = length rows

    -- reduced, in the first w columns
    abbrev pub reduced : Reduced W n w (up_rows o L rows)
    reduced = record {
      degree = λ i. pos (row_degree rows places i);
      lead = λ i. get_or places i 0;
      leads = λ i l. leads_of_position w (get_or rows i []) (matrix-over o L v rows hm i)
          (matrix-trimmed o L v rows hm i) (get_or places i 0) (hp.leads i l);
      differ = hp.differ;
    }

    -- a combination whose first w entries are 0 has no weight
    pub no_weight : (c : ℕ → _) → ((j : ℕ) → j < w → comb (M o L) n c (up_rows o L rows) j ≡ (let P = Q o L in P.zero))
        → (i : ℕ) → i < n → c i ≡ (let P = Q o L in P.zero)
    no_weight c z = only_zero W n w (up_rows o L rows) reduced c
        (λ j l. sym (comb_at o L n c (up_rows o L rows) j) ∙ z j l)

  module _ (w : ℕ) (rows : List (List (List E))) (places : List ℕ) (hm : IsPolynomialMatrix o w rows)
      (hp : HaveLeadingPositions w rows places) where
    pub reduced_independent : RowsAreIndependent o rows
    reduced_independent = independent_of_up o L w rows hm (record {
      only_zero = λ c z. no_weight w w rows places hm hp c (λ j l. ap (λ (f : ℕ → _). f j) z);
    })

    -- a member that is not 0 leads where a row of no greater degree does
    pub member_position : (x : List (List E)) (p : ℕ) → IsPolynomialRow o w x → HasLeadingPosition w x p
        → InRowLattice o rows x
        → (i : ℕ) × (i < length rows) × (get_or places i 0 ≡ p)
        × (length (get_or (get_or rows i []) p []) ≤ length (get_or x p []))
    member_position x p hx h s =
        let R = (let P = Q o L in P.ring) in
        let lead : Lead W w (up_row o L x) = record {
          degree = pos (degree (get_or x p []));
          place = p;
          leads = leads_of_position w x (entry-over o L w x hx) (entry-trimmed o L w x hx) p h;
        } in
        let m = member_leads W euclid w (length rows) (up_rows o L rows) (reduced w w rows places hm hp)
        (up_row o L x) lead
        (InRows_of_span R w (length rows) (up_rows o L rows) (up_row o L x) (span_of_lattice o L w rows hm x hx s)) in
        let y = get_or rows m.row [] in
        let yp : HasLeadingPosition w y p = subst (HasLeadingPosition w y) m.place (hp.leads m.row m.within) in
        let dy = length_of_degree (get_or y p []) yp.nonzero in
        let dx = length_of_degree (get_or x p []) h.nonzero in
        let le : pos (degree (get_or y p [])) ≤ℤ pos (degree (get_or x p [])) =
        subst (λ q. pos (degree (get_or y q [])) ≤ℤ pos (degree (get_or x p []))) m.place m.degree in
        (m.row, m.within, m.place, omega (arith, ints))

    pub predicted_degree : (c x : List (List E)) → IsPolynomialRow o (length rows) c → IsPolynomialRow o w x
        → IsRowCombination o c rows x
        → HasPredictedDegree w rows places c x ⊎ ((i : ℕ) → get_or c i [] ≡ [])
    predicted_degree c x hc hx e = ⊎_elim
        (λ (p : Predicted W (length rows) w (up_rows o L rows) (reduced w w rows places hm hp) (up_row o L c)).
        inl (go p))
        (λ (z : (i : ℕ) → i < length rows → up_row o L c i ≡ (let P = Q o L in P.zero)).
        inr (row_unique o L (length rows) c hc z))
        (predicted W (length rows) w (up_rows o L rows) (reduced w w rows places hm hp) (up_row o L c))
      where
        same : (j : ℕ) → row_sum (let P = Q o L in P.ring) (length rows) (up_row o L c) (up_rows o L rows) j
            ≡ up_row o L x j
        same j = sym (ap (λ (f : ℕ → _). f j) (up_combination o L c rows x (entry-over o L (length rows) c hc)
            (matrix-over o L w rows hm) (entry-over o L w x hx) e)
            ∙ comb_at o L (length rows) (up_row o L c) (up_rows o L rows) j)

        moved : (d : ℤ) (p : ℕ) → LeadsAt W w (row_sum (let P = Q o L in P.ring) (length rows) (up_row o L c)
            (up_rows o L rows)) d p → LeadsAt W w (up_row o L x) d p
        moved d p h = record {
          inside = h.inside;
          reaches = subst (HasDegree W d) (same p) h.reaches;
          within = λ j l. subst (λ z. DegreeBelow W (d +ℤ pos 1) z) (same j) (h.within j l);
          after = λ j l k. subst (λ z. DegreeBelow W d z) (same j) (h.after j l k);
        }

        go : Predicted W (length rows) w (up_rows o L rows) (reduced w w rows places hm hp) (up_row o L c)
            → HasPredictedDegree w rows places c x
        go p =
            let q = position_of_leads w x (entry-over o L w x hx) (entry-trimmed o L w x hx) p.top
            (get_or places p.place 0) (moved p.top (get_or places p.place 0) p.leads) in
            let weight : (i : ℕ) → W.deg (up_row o L c i) ≡ pos (degree (get_or c i [])) = λ i.
            deg_up (get_or c i []) (entry-over o L (length rows) c hc i) (entry-trimmed o L (length rows) c hc i) in
            let own = weight p.place in
            let top = p.top-is in
            let e = q.1 in
            record {
              row = p.place;
              within = p.within;
              nonzero = length_of_nonzero (get_or c p.place []) p.nonzero;
              leads = q.0;
              degree-is = omega (arith, ints);
              greatest = λ i l h. ⊎_elim
                  (λ (z : up_row o L c i ≡ (let P = Q o L in P.zero)).
                  let u = ap length (nil_of_up o L (get_or c i []) (entry-over o L (length rows) c hc i)
                  (entry-trimmed o L (length rows) c hc i) z) in absurd (omega arith))
                  (λ (z : W.deg (up_row o L c i) <ℤ ((p.top -ℤ pos (row_degree rows places i)) +ℤ pos 1)).
                  let d = weight i in omega (arith, ints)) (p.bounds i l);
            }
