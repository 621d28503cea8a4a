-- The reduction of rows, one more row after another, on lists over a program's field: each step is an invertible
-- transform, and lowers how high the rows lead together.
use Rattle.std.specs.Prelude.{◌≡◌, ℕ, zero, suc, ◌+◌, ◌<◌, ◌≤◌, List, [], ◌∷◌, ◌++◌, length, get_or, slice_set}
use Rattle.std.proofs.Common.{refl, sym, ◌∙◌, ap, subst, arith, ⊎_elim, inl, inr}
use Rattle.std.proofs.lemmas.Bool.{cases_lt, cases_eq}
use Rattle.std.proofs.lemmas.List.{length-set, get_or-set_same, get_or-set_other, length-append}
use Rattle.std.proofs.lemmas.List.{get_or_append_left}
use Rattle.std.proofs.lemmas.List.Elements.{All-set, All-push, All-append}
use Rattle.std.proofs.Math.Seq.{get_or-append_seam}
use Rattle.theory_rings.specs.Ring.{CommRingOn}
use Rattle.theory_rings.specs.Ops.{Ops, FieldLaws}
use Rattle.theory_rings.specs.Sum.{at, sum}
use Rattle.theory_rings.specs.Naturals.{nat_monoid}
use Rattle.theory_rings.specs.Polynomial.{Poly, degree, convolution_of}
use Rattle.theory_rings.proofs.Rings.RingLaws.{mul-zero, add-zero}
use Rattle.theory_rings.proofs.Sums.Bump.{bump, bump-apart}
use Rattle.theory_rings.proofs.Sums.Sums.{sum_congr, sum_take_out}
use Rattle.theory_fractions.proofs.Lifting.{has-lift, has-add, has-mul, eq_of_coefficients, lift_nil}
use Rattle.theory_rows.specs.Rows.{IsPolynomialRow, IsPolynomialMatrix, IsUnimodularImage}
use Rattle.theory_rows.specs.LeadingPositions.{HasLeadingPosition, HaveLeadingPositions, IsZeroUpTo}
use Rattle.theory_rows.proofs.Transforms.{Transformed-trans}
use Rattle.theory_rows.proofs.LiftedRows.{G, Q, M, up, up_row, up_rows, entry-over, entry-trimmed, entry_past, row_at}
use Rattle.theory_rows.proofs.LiftedRows.{image_of_up}
use Rattle.theory_rows.proofs.Positions.{below_of_length, length_of_degree}
use Rattle.theory_rows.proofs.Insertion.{RowsTransformed, transformed-multiple, transformed-exchange, transformed-zero}
use Rattle.theory_rows.proofs.Insertion.{transformed-push}
use Rattle.theory_rows.proofs.Lowering.{height, lowered}
use Rattle.spl_lattice.specs.Reduction.{IsLowering, IsRowRest, IsSettled, IsSplit, IsSplitOf}
use Rattle.spl_lattice.proofs.GreatestDivisors.{lift-sum_with_multiple}
use Rattle.spl_lattice.proofs.RowSteps.{lift-negative}

-- how high the rows lead together
pub total : {E : Type 0} → ℕ → List (List (List E)) → ℕ
total w rows = sum nat_monoid (length rows) (λ i. height w (get_or rows i []))

total-set : {E : Type 0} (w : ℕ) (rows : List (List (List E))) (i : ℕ) (r : List (List E)) → i < length rows
    → total w (slice_set rows i r) + height w (get_or rows i []) ≡ total w rows + height w r
unfolding total
total-set {E} w rows i r l = go (length rows) refl
  where
    new : List (List (List E))
    new = slice_set rows i r

    h : List (List (List E)) → ℕ → ℕ
    h rs k = height w (get_or rs k [])

    go : (n : ℕ) → length rows ≡ n
        → sum nat_monoid (length new) (h new) + height w (get_or rows i [])
        ≡ sum nat_monoid (length rows) (h rows) + height w r
    go zero e = absurd (omega arith)
    go (suc n) e =
        let en = ap (λ m. sum nat_monoid m (h new)) (length-set rows i r ∙ e) in
        let eo = ap (λ m. sum nat_monoid m (h rows)) e in
        let a = sum_take_out nat_monoid n i (h new) (omega arith) in
        let b = sum_take_out nat_monoid n i (h rows) (omega arith) in
        let c = sum_congr nat_monoid n (λ k. h new (bump i k)) (λ k. h rows (bump i k))
        (λ k g. ap (height w) (get_or-set_other rows i (bump i k) r [] (bump-apart i k))) in
        let d = ap (height w) (get_or-set_same rows i r [] l) in
        omega arith

module _ {E : Type 0} (o : Ops E) (L : FieldLaws o) where
  abbrev P : CommRingOn (Poly (let F = G o L in F.cring))
  P = Q o L

  -- ---- the rest of a row

  module _ (v w p : ℕ) (high by new : List (List E)) (hh : IsPolynomialRow o v high) (hb : IsPolynomialRow o v by)
      (hn : IsPolynomialRow o v new) (r : IsRowRest o p high by new) where
    abbrev q : Poly (let F = G o L in F.cring)
    q = up o L r.quotient

    pub rest-entry : (j : ℕ) → up_row o L new j ≡ P.◌⊕◌ (up_row o L high j) (P.◌⊗◌ (P.neg q) (up_row o L by j))
    rest-entry j = ⊎_elim
        (λ (l : j < length high). (let s = r.less in let x = s.whole in
        lift-sum_with_multiple o L (get_or high j []) s.multiple (get_or by j []) (get_or new j [])
        (entry-over o L v high hh j) s.multiple_over (entry-over o L v by hb j) (entry-over o L v new hn j)
        (x.entries j l)
        ∙ ap (λ t. P.◌⊕◌ (up_row o L high j) (P.◌⊗◌ t (up_row o L by j)))
        (lift-negative o L r.quotient s.multiple r.quotient_over s.multiple_over s.negative)))
        (λ (l : length high ≤ j).
        let g : v ≤ j = (let e = hh.width in omega arith) in
        ap (up o L) (entry_past o L v new hn j g) ∙ lift_nil o L
        ∙ sym (ap (λ t. P.◌⊕◌ (up_row o L high j) (P.◌⊗◌ (P.neg q) t)) (ap (up o L) (entry_past o L v by hb j g)
        ∙ lift_nil o L)
        ∙ ap (λ t. P.◌⊕◌ (up_row o L high j) t) (mul-zero P.ring (P.neg q))
        ∙ add-zero P.monoid (up_row o L high j)
        ∙ ap (up o L) (entry_past o L v high hh j g) ∙ lift_nil o L))
        (cases_lt j (length high))

    whole : up_row o L high p ≡ P.◌⊕◌ (P.◌⊗◌ q (up_row o L by p)) (up o L r.rest)
    whole = (let d = r.division in
        eq_of_coefficients o L (up_row o L high p) (P.◌⊕◌ (P.◌⊗◌ (up o L r.quotient) (up_row o L by p)) (up o L r.rest))
        (at o (get_or high p []))
        (λ k. o.add (convolution_of o (at o r.quotient) (at o (get_or by p [])) k) (at o r.rest k))
        (has-lift o L (get_or high p []) (entry-over o L v high hh p))
        (has-add o L (P.◌⊗◌ (up o L r.quotient) (up_row o L by p)) (up o L r.rest)
        (convolution_of o (at o r.quotient) (at o (get_or by p []))) (at o r.rest)
        (has-mul o L (up o L r.quotient) (up_row o L by p) (at o r.quotient) (at o (get_or by p []))
        (has-lift o L r.quotient r.quotient_over) (has-lift o L (get_or by p []) (entry-over o L v by hb p)))
        (has-lift o L r.rest r.rest_over)) d.whole)

    pub rest_lower : HasLeadingPosition w high p → HasLeadingPosition w by p
        → length (get_or by p []) ≤ length (get_or high p []) → height w new < height w high
    rest_lower lh lb le = lowered o L w high by new p q (up o L r.rest) 0 (entry-over o L v high hh)
        (entry-trimmed o L v high hh) (entry-over o L v by hb) (entry-trimmed o L v by hb) (entry-over o L v new hn)
        (entry-trimmed o L v new hn) lh lb le
        (let d = r.division in let e = length_of_degree (get_or by p []) lb.nonzero in let s = d.smaller in
        below_of_length o L r.rest (degree (get_or by p [])) r.rest_over r.rest_trimmed (omega arith))
        whole rest-entry

    rest_transformed : (basis zeros : List (List (List E))) (i : ℕ) → i < length basis → get_or basis i [] ≡ by
        → RowsTransformed o L ((basis ++ zeros) ++ high ∷ []) ((basis ++ zeros) ++ new ∷ [])
    rest_transformed basis zeros i l e = transformed-multiple o L basis zeros high new i (P.neg q) l
        (λ j. rest-entry j ∙ ap (λ b. P.◌⊕◌ (up_row o L high j) (P.◌⊗◌ (P.neg q) (up_row o L b j))) (sym e))

  -- ---- a step

  -- what a step keeps
  pub record IsStep (w v : ℕ) (basis : List (List (List E))) (places : List ℕ) (zeros : List (List (List E)))
      (row : List (List E)) (new : List (List (List E))) (new_row : List (List E)) : Type 0 where
    pub split : IsSplit o w v new places zeros
    pub moved : RowsTransformed o L ((basis ++ zeros) ++ row ∷ []) ((new ++ zeros) ++ new_row ∷ [])
    pub less : total w new + height w new_row < total w basis + height w row

  module _ (w v : ℕ) (basis : List (List (List E))) (places : List ℕ) (zeros : List (List (List E)))
      (row : List (List E)) (s : IsSplit o w v basis places zeros) (hr : IsPolynomialRow o v row) (i : ℕ)
      (l : i < length basis) (lr : HasLeadingPosition w row (get_or places i 0)) where
    abbrev p : ℕ
    p = get_or places i 0

    li : HasLeadingPosition w (get_or basis i []) p
    li = (let x = s.positions in x.leads i l)

    hi : IsPolynomialRow o v (get_or basis i [])
    hi = row_at o L v basis s.basis_rows i l

    -- the row of the basis stays
    kept : (new_row : List (List E)) → IsPolynomialRow o v new_row → IsRowRest o p row (get_or basis i []) new_row
        → length (get_or (get_or basis i []) p []) ≤ length (get_or row p [])
        → IsStep w v basis places zeros row basis new_row
    kept new_row hn r le = record {
      split = s;
      moved = rest_transformed v w p row (get_or basis i []) new_row hr hi hn r basis zeros i l refl;
      less = (let x = rest_lower v w p row (get_or basis i []) new_row hr hi hn r lr li le in omega arith);
    }

    abbrev changed : List (List (List E))
    changed = slice_set basis i row

    at_i : get_or changed i [] ≡ row
    at_i = get_or-set_same basis i row [] l

    changed_positions : HaveLeadingPositions w changed places
    changed_positions = (let x = s.positions in record {
      count = x.count ∙ sym (length-set basis i row);
      leads = λ k g. ⊎_elim
          (λ (e : k ≡ i). subst (λ t. HasLeadingPosition w (get_or changed t []) (get_or places t 0)) (sym e)
          (subst (λ r. HasLeadingPosition w r p) (sym at_i) lr))
          (λ (d : k ≡ i → ⊥). subst (λ r. HasLeadingPosition w r (get_or places k 0))
          (sym (get_or-set_other basis i k row [] d)) (x.leads k (omega (arith, g, length-set basis i row))))
          (cases_eq k i);
      differ = λ k m g h. x.differ k m (omega (arith, g, length-set basis i row))
          (omega (arith, h, length-set basis i row));
    })

    changed_split : IsSplit o w v changed places zeros
    changed_split = record {
      basis_rows = All-set (IsPolynomialRow o v) basis i row hr s.basis_rows;
      zero_rows = s.zero_rows;
      positions = changed_positions;
      zero = s.zero;
    }

    -- the row takes its place
    exchanged : (new_row : List (List E)) → IsPolynomialRow o v new_row → IsRowRest o p (get_or basis i []) row new_row
        → length (get_or row p []) ≤ length (get_or (get_or basis i []) p [])
        → IsStep w v basis places zeros row changed new_row
    exchanged new_row hn r le = record {
      split = changed_split;
      moved = Transformed-trans (M o L) (length ((basis ++ zeros) ++ row ∷ []))
          (length ((changed ++ zeros) ++ get_or basis i [] ∷ [])) (length ((changed ++ zeros) ++ new_row ∷ []))
          (up_rows o L ((basis ++ zeros) ++ row ∷ [])) (up_rows o L ((changed ++ zeros) ++ get_or basis i [] ∷ []))
          (up_rows o L ((changed ++ zeros) ++ new_row ∷ [])) (transformed-exchange o L basis zeros row i l)
          (rest_transformed v w p (get_or basis i []) row new_row hi hr hn r changed zeros i
          (omega (arith, l, length-set basis i row)) at_i);
      less = (let x = rest_lower v w p (get_or basis i []) row new_row hi hr hn r li lr le in
          let y = total-set w basis i row l in omega arith);
    }

    pub step_of_lowering : (new : List (List (List E))) (new_row : List (List E)) → IsPolynomialRow o v new_row
        → IsLowering o p i basis row new new_row → IsStep w v basis places zeros row new new_row
    step_of_lowering new new_row hn h =
        let k = h.kept in
        ⊎_elim
        (λ (e : (new ≡ basis) × (h.high ≡ row)). subst (λ b. IsStep w v basis places zeros row b new_row) (sym e.0)
        (kept new_row hn
        (subst (λ x. IsRowRest o p x (get_or basis i []) new_row) e.1
        (subst (λ b. IsRowRest o p h.high (get_or b i []) new_row) e.0 h.rest))
        (subst (λ x. length (get_or (get_or basis i []) p []) ≤ length (get_or x p [])) e.1
        (subst (λ b. length (get_or (get_or b i []) p []) ≤ length (get_or h.high p [])) e.0 k.lower))))
        (λ (e : (new ≡ changed) × (h.high ≡ get_or basis i [])).
        subst (λ b. IsStep w v basis places zeros row b new_row) (sym e.0)
        (exchanged new_row hn
        (subst (λ x. IsRowRest o p x row new_row) e.1
        (subst (λ y. IsRowRest o p h.high y new_row) at_i
        (subst (λ b. IsRowRest o p h.high (get_or b i []) new_row) e.0 h.rest)))
        (subst (λ x. length (get_or row p []) ≤ length (get_or x p [])) e.1
        (subst (λ y. length (get_or y p []) ≤ length (get_or h.high p [])) at_i
        (subst (λ b. length (get_or (get_or b i []) p []) ≤ length (get_or h.high p [])) e.0 k.lower)))))
        k.either

  -- ---- the end

  module _ (w : ℕ) (basis : List (List (List E))) (places : List ℕ) (row : List (List E)) (p : ℕ)
      (h : HaveLeadingPositions w basis places) (l : HasLeadingPosition w row p)
      (new : (i : ℕ) → i < length places → get_or places i 0 ≡ p → ⊥) where
    more_rows : length (basis ++ row ∷ []) ≡ suc (length basis)
    more_rows = let e : length basis + 1 ≡ suc (length basis) = omega arith in length-append basis (row ∷ []) ∙ e

    row_early : (i : ℕ) → i < length basis → get_or (basis ++ row ∷ []) i [] ≡ get_or basis i []
    row_early i g = get_or_append_left basis (row ∷ []) [] i g

    place_early : (i : ℕ) → i < length basis → get_or (places ++ p ∷ []) i 0 ≡ get_or places i 0
    place_early i g = get_or_append_left places (p ∷ []) 0 i (omega (arith, g, h.count))

    place_last : get_or (places ++ p ∷ []) (length basis) 0 ≡ p
    place_last = ap (λ k. get_or (places ++ p ∷ []) k 0) (sym h.count) ∙ get_or-append_seam places p [] 0

    positions_pushed : HaveLeadingPositions w (basis ++ row ∷ []) (places ++ p ∷ [])
    positions_pushed = record {
      count = length-append places (p ∷ []) ∙ ap (λ k. k + 1) h.count ∙ sym (length-append basis (row ∷ []));
      leads = λ i g. ⊎_elim
          (λ (a : i < length basis). subst (λ r. HasLeadingPosition w r (get_or (places ++ p ∷ []) i 0))
          (sym (row_early i a))
          (subst (HasLeadingPosition w (get_or basis i [])) (sym (place_early i a)) (h.leads i a)))
          (λ (a : length basis ≤ i). let e : length basis ≡ i = omega (arith, g, more_rows) in
          subst (λ k. HasLeadingPosition w (get_or (basis ++ row ∷ []) k []) (get_or (places ++ p ∷ []) k 0)) e
          (subst (λ r. HasLeadingPosition w r (get_or (places ++ p ∷ []) (length basis) 0))
          (sym (get_or-append_seam basis row [] [])) (subst (HasLeadingPosition w row) (sym place_last) l)))
          (cases_lt i (length basis));
      differ = λ i k gi gk e. ⊎_elim
          (λ (a : i < length basis). ⊎_elim
          (λ (b : k < length basis). h.differ i k a b (sym (place_early i a) ∙ e ∙ place_early k b))
          (λ (b : length basis ≤ k). let q : k ≡ length basis = omega (arith, gk, more_rows) in
          absurd (new i (omega (arith, a, h.count)) (sym (place_early i a) ∙ e
          ∙ ap (λ t. get_or (places ++ p ∷ []) t 0) q ∙ place_last)))
          (cases_lt k (length basis)))
          (λ (a : length basis ≤ i). let q : i ≡ length basis = omega (arith, gi, more_rows) in ⊎_elim
          (λ (b : k < length basis). absurd (new k (omega (arith, b, h.count)) (sym (place_early k b) ∙ sym e
          ∙ ap (λ t. get_or (places ++ p ∷ []) t 0) q ∙ place_last)))
          (λ (b : length basis ≤ k). omega (arith, q, gk, b, more_rows)) (cases_lt k (length basis)))
          (cases_lt i (length basis));
    }

-- ---- the whole

pub image_refl : {E : Type 0} (o : Ops E) (v : ℕ) (a : List (List (List E))) → IsUnimodularImage o v a a
image_refl o v a = record { same = λ x hx. (λ h. h, λ h. h); independent = λ h. h }

pub image_trans : {E : Type 0} (o : Ops E) (v : ℕ) (a b c : List (List (List E))) → IsUnimodularImage o v a b
    → IsUnimodularImage o v b c → IsUnimodularImage o v a c
image_trans o v a b c f g = record {
  same = λ x hx. (λ h. (g.same x hx).0 ((f.same x hx).0 h), λ h. (f.same x hx).1 ((g.same x hx).1 h));
  independent = λ h. g.independent (f.independent h);
}

-- on the way from the rows at the start
pub record IsInserting {E : Type 0} (o : Ops E) (w v : ℕ) (start basis : List (List (List E))) (places : List ℕ)
    (zeros : List (List (List E))) (row : List (List E)) : Type 0 where
  pub split : IsSplit o w v basis places zeros
  pub polynomials : IsPolynomialRow o v row
  pub image : IsUnimodularImage o v start ((basis ++ zeros) ++ row ∷ [])

pub inserting_start : {E : Type 0} (o : Ops E) (w v : ℕ) (basis : List (List (List E))) (places : List ℕ)
    (zeros : List (List (List E))) (row : List (List E)) → IsSplit o w v basis places zeros → IsPolynomialRow o v row
    → IsInserting o w v ((basis ++ zeros) ++ row ∷ []) basis places zeros row
inserting_start o w v basis places zeros row s h = record {
  split = s;
  polynomials = h;
  image = image_refl o v ((basis ++ zeros) ++ row ∷ []);
}

module _ {E : Type 0} (o : Ops E) (L : FieldLaws o) (w v : ℕ) (start basis : List (List (List E))) (places : List ℕ)
    (zeros : List (List (List E))) (row : List (List E)) (s : IsInserting o w v start basis places zeros row) where
  now_matrix : IsPolynomialMatrix o v ((basis ++ zeros) ++ row ∷ [])
  now_matrix = (let x = s.split in All-push (IsPolynomialRow o v) (basis ++ zeros) row
      (All-append (IsPolynomialRow o v) basis zeros x.basis_rows x.zero_rows) s.polynomials)

  pub inserting_step : (new : List (List (List E))) (new_row : List (List E)) → IsPolynomialRow o v new_row
      → IsStep o L w v basis places zeros row new new_row
      → IsInserting o w v start new places zeros new_row
  inserting_step new new_row hn t =
      let x = t.split in
      record {
        split = t.split;
        polynomials = hn;
        image = image_trans o v start ((basis ++ zeros) ++ row ∷ []) ((new ++ zeros) ++ new_row ∷ []) s.image
            (image_of_up o L v ((basis ++ zeros) ++ row ∷ []) ((new ++ zeros) ++ new_row ∷ []) now_matrix
            (All-push (IsPolynomialRow o v) (new ++ zeros) new_row
            (All-append (IsPolynomialRow o v) new zeros x.basis_rows x.zero_rows) hn) t.moved);
      }

  ended : (basis' : List (List (List E))) (places' : List ℕ) (zeros' : List (List (List E)))
      → IsSplit o w v basis' places' zeros'
      → RowsTransformed o L ((basis ++ zeros) ++ row ∷ []) (basis' ++ zeros')
      → IsSplitOf o w v start basis' places' zeros'
  ended basis' places' zeros' h t = record {
    split = h;
    image = image_trans o v start ((basis ++ zeros) ++ row ∷ []) (basis' ++ zeros') s.image
        (image_of_up o L v ((basis ++ zeros) ++ row ∷ []) (basis' ++ zeros') now_matrix
        (All-append (IsPolynomialRow o v) basis' zeros' h.basis_rows h.zero_rows) t);
  }

  pub inserting_end : (basis' : List (List (List E))) (places' : List ℕ) (zeros' : List (List (List E)))
      → ((p : ℕ) → HasLeadingPosition w row p → (i : ℕ) → i < length places → get_or places i 0 ≡ p → ⊥)
      → IsSettled w basis places zeros row basis' places' zeros'
      → IsSplitOf o w v start basis' places' zeros'
  inserting_end basis' places' zeros' new (inl e) =
      let x = s.split in
      let e1 = e.1 in
      subst (λ b. IsSplitOf o w v start b places' zeros') (sym e.1)
      (subst (λ q. IsSplitOf o w v start basis q zeros') (sym e.2)
      (subst (IsSplitOf o w v start basis places) (sym e.3)
      (ended basis places (zeros ++ row ∷ []) (record {
        basis_rows = x.basis_rows;
        zero_rows = All-push (IsPolynomialRow o v) zeros row x.zero_rows s.polynomials;
        positions = x.positions;
        zero = All-push (IsZeroUpTo w) zeros row x.zero e.0;
      }) (transformed-zero o L basis zeros row))))
  inserting_end basis' places' zeros' new (inr e) =
      let x = s.split in
      let p = e.0 in
      subst (λ b. IsSplitOf o w v start b places' zeros') (sym e.2)
      (subst (λ q. IsSplitOf o w v start (basis ++ row ∷ []) q zeros') (sym e.3)
      (subst (IsSplitOf o w v start (basis ++ row ∷ []) (places ++ p ∷ [])) (sym e.4)
      (ended (basis ++ row ∷ []) (places ++ p ∷ []) zeros (record {
        basis_rows = All-push (IsPolynomialRow o v) basis row x.basis_rows s.polynomials;
        zero_rows = x.zero_rows;
        positions = positions_pushed o L w basis places row p x.positions e.1 (new p e.1);
        zero = x.zero;
      }) (transformed-push o L basis zeros row))))

-- the step of a row of the basis that was found to lead where the row does
pub found_step : {E : Type 0} (o : Ops E) (L : FieldLaws o) (w v : ℕ) (start basis : List (List (List E)))
    (places : List ℕ) (zeros : List (List (List E))) (row : List (List E))
    → IsInserting o w v start basis places zeros row
    → (read_places : List ℕ) (read_row : List (List E)) → read_places ≡ places → read_row ≡ row → (i : ℕ)
    → i < length read_places → HasLeadingPosition w read_row (get_or read_places i 0)
    → (new : List (List (List E))) (new_row : List (List E)) → IsPolynomialRow o (length row) new_row
    → IsLowering o (get_or places i 0) i basis row new new_row
    → IsStep o L w v basis places zeros row new new_row
found_step o L w v start basis places zeros row s read_places read_row ep er i l h new new_row hn e =
    let x = s.split in
    let q = x.positions in
    let r = s.polynomials in
    step_of_lowering o L w v basis places zeros row s.split s.polynomials i
    (let a = ap length ep in omega (arith, l, q.count))
    (subst (λ ps. HasLeadingPosition w row (get_or ps i 0)) ep
    (subst (λ z. HasLeadingPosition w z (get_or read_places i 0)) er h))
    new new_row (subst (λ n. IsPolynomialRow o n new_row) r.width hn) e

-- no row of the basis leads there
pub none_leads : {E : Type 0} (w : ℕ) (places : List ℕ) (row : List (List E)) (read_places : List ℕ)
    (read_row : List (List E)) → read_places ≡ places → read_row ≡ row
    → ((p : ℕ) → HasLeadingPosition w read_row p → (i : ℕ) → i < length read_places → get_or read_places i 0 ≡ p → ⊥)
    → (p : ℕ) → HasLeadingPosition w row p → (i : ℕ) → i < length places → get_or places i 0 ≡ p → ⊥
none_leads w places row read_places read_row ep er h =
    subst (λ ps. (p : ℕ) → HasLeadingPosition w row p → (i : ℕ) → i < length ps → get_or ps i 0 ≡ p → ⊥) ep
    (subst (λ z. (p : ℕ) → HasLeadingPosition w z p → (i : ℕ) → i < length read_places → get_or read_places i 0 ≡ p → ⊥)
    er h)
