-- The maximal ideals of an algebra by those of its quotient by the radical, as subspaces.
use Rattle.std.specs.Prelude.{◌<◌, ℕ, List, [], length, get_or}
use Rattle.std.specs.List.{All}
use Rattle.std.proofs.Common.{refl, sym, ◌∙◌, ap, subst, arith}
use Rattle.std.proofs.lemmas.List.Elements.{All-get_or, All-from_get_or}
use Rattle.theory_rings.specs.Ops.{Ops, FieldLaws}
use Rattle.theory_rings.specs.Sum.{at, sum_of}
use Rattle.theory_rings.proofs.Sums.Lists.{length-table, get_or-table, All-table}
use Rattle.theory_spaces.specs.Tuples.{IsTuple}
use Rattle.theory_spaces.proofs.Tuples.Tuples.{at-table}
use Rattle.theory_tables.specs.Matrix.{entry, IsMatrix}
use Rattle.theory_tables.specs.Subspace.{Rows, InSpan}
use Rattle.theory_tables.specs.Structure.{Structure}
use Rattle.theory_tables.specs.Quotient.{IsQuotient, QuotientKeeps}
use Rattle.theory_tables.proofs.Algebras.Quotients.{quotient_keeps}
use Rattle.theory_chains.specs.Radical.{SpansRadical}
use Rattle.theory_growth.specs.Steps.{HoldMaximalIdeals}
use Rattle.theory_growth.specs.MaximalIdeals.{ArePulledBack, AreLifted}
use Rattle.theory_growth.proofs.Quotients.{lifted_rows_are_pulled_back, maximal_ideals_over_radical}
use Rattle.theory_growth.proofs.Quotients.{maximal_ideals_pulled_back, nothing_nilpotent_over_radical}
use Rattle.spl_blocks.specs.Blocks.{IsUnital, HasNoNilpotentIdeal, AreMaximalIdeals, rows_at}
use Rattle.spl_blocks.specs.Splits.{combination_of}
use Rattle.spl_blocks.proofs.ListSteps.{combination-elem}
use Rattle.spl_local.specs.PulledBack.{lifted_rows, IsPulledBack, AreAllPulledBack}

module _ {E : Type 0} (o : Ops E) (L : FieldLaws o) (A : Structure E) (u : IsUnital o A)
    (radical : List (List E)) (S : SpansRadical o A radical) (B : Structure E) (project lifts : List (List E))
    (q : IsQuotient o A radical B project lifts) where
  keeps : QuotientKeeps o A radical B project
  keeps = quotient_keeps o L A u.over radical B project lifts q

  -- the quotient has no nilpotent ideal but 0
  pub quotient_semisimple : HasNoNilpotentIdeal o B
  quotient_semisimple e e_id rows shape nil = nothing_nilpotent_over_radical o L A u.over u.associative u.identity.one
      u.identity.is_one radical S B project lifts q e e_id rows shape nil

  -- the maximal ideals of the quotient have rows as long as there are lifts
  pub are_matrices : (below : List (Rows E)) → AreMaximalIdeals o B below
      → All (λ (s : Rows E). IsMatrix o (length lifts) s.rows) below
  are_matrices below H = All-from_get_or (λ (s : Rows E). IsMatrix o (length lifts) s.rows) below
      (record { width = B.dim; rows = [] }) (λ i l. let m = H.maximal i l in
      subst (λ n. IsMatrix o n (rows_at o B below i)) (sym q.lifts_height) m.shape)

  module _ (below : List (List E)) (hb : IsMatrix o B.dim below) where
    lifted_shape : IsMatrix o A.dim (lifted_rows o A lifts below)
    lifted_shape = All-table (IsTuple o A.dim) (length below) (λ i. combination_of o A (get_or below i []) lifts) (λ i l.
        let r = All-get_or (IsTuple o B.dim) below i [] l hb in
        combination-elem o A L (get_or below i []) lifts (length lifts) (combination_of o A (get_or below i []) lifts)
        r.of_elements q.lifts_shape refl)

    -- the rows of a matrix, lifted
    lifted : AreLifted o A B lifts below (lifted_rows o A lifts below)
    lifted = record {
      count = length-table (length below) (λ i. combination_of o A (get_or below i []) lifts);
      shape = lifted_shape;
      combines = λ i c i_in c_in.
          ap (λ r. at o r c) (get_or-table (length below) (λ i. combination_of o A (get_or below i []) lifts) i [] i_in)
          ∙ at-table o A.dim (λ j. sum_of o (length lifts) (λ l. o.mul (at o (get_or below i []) l) (entry o lifts l j)))
          c c_in
          ∙ ap (λ n. sum_of o n (λ l. o.mul (entry o below i l) (entry o lifts l c))) q.lifts_height;
    }

  -- a subspace that is pulled back
  module _ (below above : Rows E) (hb : IsMatrix o B.dim below.rows) (h : IsPulledBack o A lifts radical below above)
    where
      pulled : ArePulledBack o A B project below.rows above.rows
      pulled v tv =
          let f = lifted_rows_are_pulled_back o L A u.over radical S.ideal B project lifts q below.rows
          (lifted_rows o A lifts below.rows) hb (lifted below.rows hb) v tv in
          ((λ x. f.0 ((h.members v tv).0 x)), (λ x. (h.members v tv).1 (f.1 x)))

      above_shape : IsMatrix o A.dim above.rows
      above_shape = let b = h.basis in subst (λ w. IsMatrix o w above.rows) h.width b.shape

  -- the subspaces that are pulled back from the maximal ideals are the maximal ideals
  module _ (below above : List (Rows E)) (H : AreMaximalIdeals o B below)
      (h : AreAllPulledBack o A lifts radical below above) where
    abbrev no_rows : (n : ℕ) → Rows E
    no_rows n = record { width = n; rows = [] }

    abbrev b : ℕ → Rows E
    b i = get_or below i (no_rows B.dim)

    abbrev a : ℕ → Rows E
    a i = get_or above i (no_rows A.dim)

    matrix : (i : ℕ) → i < length below → IsMatrix o B.dim (rows_at o B below i)
    matrix i l = let m = H.maximal i l in m.shape

    one_by_one : (i : ℕ) → i < length below → IsPulledBack o A lifts radical (b i) (a i)
    one_by_one i l = h.each i (no_rows B.dim) (no_rows A.dim) l

    within : (i : ℕ) → i < length above → i < length below
    within i l = omega (arith, l, h.count)

    each : (i : ℕ) → i < length below → ArePulledBack o A B project (rows_at o B below i) (rows_at o A above i)
    each i l = pulled (b i) (a i) (matrix i l) (one_by_one i l)

    hold : HoldMaximalIdeals o A (length below) (rows_at o A above)
    hold = maximal_ideals_over_radical o L A u.over u.associative u.identity.one u.identity.is_one radical S B project
        lifts q (length below) (rows_at o B below) (rows_at o A above) each
        (λ rows shape X. H.complete rows (record { shape = shape; maximal = X }))

    pub maximal_ideals : AreMaximalIdeals o A above
    maximal_ideals = record {
      subspaces = λ i l. let p = one_by_one i (within i l) in p.basis;
      widths = λ i l. let p = one_by_one i (within i l) in p.width;
      maximal = λ i l.
          let l' = within i l in
          let m = H.maximal i l' in
          let shape = above_shape (b i) (a i) (matrix i l') (one_by_one i l') in record {
            shape = shape;
            maximal = maximal_ideals_pulled_back o L A u.over u.associative u.identity.one u.identity.is_one radical
                S.ideal B project lifts q (rows_at o B below i) (rows_at o A above i) (matrix i l') shape (each i l')
                m.maximal;
          };
      complete = λ rows X.
          let c = hold rows X.shape X.maximal in
          (c.0, omega (arith, c.1, h.count), c.2);
      distinct = λ i j i_in j_in same. H.distinct i j (within i i_in) (within j j_in) (λ v tv.
          let p = keeps.onto v tv in
          let f = each i (within i i_in) p.0 p.1 in
          let g = each j (within j j_in) p.0 p.1 in
          let s = same p.0 p.1 in (
            λ x. subst (InSpan o B.dim (rows_at o B below j)) p.2 (g.0 (s.0 (f.1 (subst
                (InSpan o B.dim (rows_at o B below i)) (sym p.2) x)))),
            λ x. subst (InSpan o B.dim (rows_at o B below i)) p.2 (f.0 (s.1 (g.1 (subst
                (InSpan o B.dim (rows_at o B below j)) (sym p.2) x)))),
          ));
    }
