-- Independent rows that span all tuples are as many as each has items; and a basis of the lattice of rows of polynomials
-- whose tuples over a denominator span everything.
use Rattle.std.specs.Prelude.{◌≡◌, ◌≢◌, ◌-◌, ◌<◌, ◌≤◌, ℕ, suc, List, [], length, get_or, map}
use Rattle.std.proofs.Common.{refl, sym, ◌∙◌, ap, subst, arith}
use Rattle.std.proofs.lemmas.List.{get_or_past, get_or-map}
use Rattle.std.proofs.lemmas.List.Elements.{All-nil}
use Rattle.theory_rings.specs.Ring.{FieldOn}
use Rattle.theory_rings.specs.Ops.{Ops, IsElem, FieldLaws}
use Rattle.theory_rings.specs.Elements.{Elem, elements}
use Rattle.theory_rings.specs.Polynomial.{convolution_of}
use Rattle.theory_rings.proofs.Rings.Elements.{at-elem, sum_of_congr}
use Rattle.theory_rings.specs.Sum.{at}
use Rattle.theory_rings.proofs.Polynomials.PolynomialRing.{IsTrimmed-injective}
use Rattle.theory_fractions.specs.PolynomialLists.{IsPolynomialList}
use Rattle.theory_fractions.specs.Fraction.{Pair}
use Rattle.theory_spaces.specs.Module.{ModuleOn}
use Rattle.theory_spaces.specs.Linear.{Basis}
use Rattle.theory_spaces.specs.Linear as linear
use Rattle.theory_spaces.proofs.Linear.Spaces.{coords_of, full_span}
use Rattle.theory_spaces.specs.Tuples.{IsTuple, Tuple}
use Rattle.theory_spaces.proofs.Linear.Dimension.{exchange}
use Rattle.theory_spaces.proofs.Tuples.Tables.{space_basis}
use Rattle.theory_spaces.proofs.Tuples.Tuples.{tuples, tuple_space}
use Rattle.theory_tables.specs.Matrix.{IsMatrix}
use Rattle.theory_tables.specs.Subspace.{InSpan, AreIndependent}
use Rattle.theory_tables.proofs.Algebras.Bridge.{row, to_span, from_span, to_independent, as_tuple, IsTuple-of}
use Rattle.theory_tables.proofs.Rows.Spans.{InSpan_trans}
use Rattle.theory_tables.proofs.Rows.Sums.{sum_of_zeros}
use Rattle.theory_tables.proofs.Rows.Terms.{zero-mul}
use Rattle.theory_rows.specs.Rows.{IsPolynomialRow, IsPolynomialMatrix, IsLatticeBasis, InRowKernel}
use Rattle.theory_rows.specs.Rows.{RowsAreIndependent, SameRowLattice}
use Rattle.theory_rows.proofs.LiftedRows.{row-nil, row_at, entry-trimmed, matrix-over, member_in}
use Rattle.theory_bases.specs.TupleLattices.{InSpanOver}
use Rattle.theory_bases.specs.Bases.{IsPolynomialFraction, fraction_over, tuples_of}
use Rattle.theory_bases.proofs.FractionsOver.{K, M, count-tuples, over_rows-matrix}
use Rattle.theory_bases.proofs.KernelTests.{kernel_tells}
use Rattle.theory_bases.proofs.TupleRows.{lattice_of_row}

-- on lists over any field
module _ {E : Type 0} (o : Ops E) (L : FieldLaws o) (m : ℕ) (rows : List (List E)) (shape : IsMatrix o m rows) where
  abbrev F : FieldOn (Elem o)
  F = elements o L

  abbrev N : ModuleOn F.ring (Tuple o m)
  N = tuples o L m

  units : Basis N m
  units = space_basis N m (tuple_space o L m)

  abbrev v : ℕ → Tuple o m
  v = row o L m rows shape

  pub count_at_most : AreIndependent o m rows → length rows ≤ m
  count_at_most free = exchange F N (length rows) m v units.vec (to_independent o L m rows shape free)
      (λ i _. record { weights = units.coord (v i); combines = units.expand (v i) })

  pub count_of_spanning : AreIndependent o m rows → ((x : List E) → IsTuple o m x → InSpan o m rows x) → length rows ≡ m
  count_of_spanning free spans =
      let low : length rows ≤ m = count_at_most free in
      let high : m ≤ length rows = exchange F N m (length rows) units.vec v units.independent
      (λ i _. let x = units.vec i in to_span o L m rows shape x (spans x.0 (IsTuple-of o L m x))) in
      omega arith

  pub spans_of_count : AreIndependent o m rows → length rows ≡ m → (x : List E) → IsTuple o m x → InSpan o m rows x
  spans_of_count free count x hx =
      let y = as_tuple o L m x hx in
      from_span o L m rows shape y (subst (λ n. linear.InSpan N n v y) (sym count)
      (full_span F N m (coords_of N m units) m units.vec v
      (λ z. record { weights = units.coord z; combines = units.expand z })
      (subst (λ n. linear.Independent N n v) count (to_independent o L m rows shape free)) y))

  -- a combination with weights in a set is one
  pub span_of_lattice : (P : E → Type 0) (x : List E) → InSpanOver o P m rows x → InSpan o m rows x
  span_of_lattice P x h = (h.weights, h.tuple, h.combines)

module _ {E : Type 0} (o : Ops E) (L : FieldLaws o) where
  zero_convolution : (g : ℕ → E) → ((i : ℕ) → IsElem o (g i)) → (t : ℕ) → convolution_of o (at o []) g t ≡ o.zero
  zero_convolution g hg t =
      sum_of_congr o (suc t) (λ i. o.mul o.zero (g (t - i))) (λ _. o.zero) (λ i _. zero-mul o L (g (t - i)) (hg (t - i)))
      ∙ sum_of_zeros o L (suc t)

  -- independent rows have the empty basis of their kernel
  pub kernel_of_independent : (w : ℕ) (rows : List (List (List E))) → IsPolynomialMatrix o w rows
      → RowsAreIndependent o rows → IsLatticeBasis o (length rows) (InRowKernel o rows) []
  kernel_of_independent w rows hr free = record {
    matrix = All-nil (IsPolynomialRow o (length rows));
    independent = λ c hc e i. get_or_past c i [] (omega (arith, hc.width));
    members = λ x hx. (
      λ e. record {
        weights = [];
        polynomials = row-nil o L;
        combines = λ j t. ap (λ u. at o u t) (free x hx e j);
      },
      λ h j t.
          let row_zero : (i : ℕ) → get_or x i [] ≡ [] = λ i.
          IsTrimmed-injective o.zero (get_or x i []) [] (entry-trimmed o L (length rows) x hx i) tt (h.combines i) in
          sym (sum_of_congr o (length rows)
          (λ i. convolution_of o (at o (get_or x i [])) (at o (get_or (get_or rows i []) j [])) t) (λ _. o.zero)
          (λ i _. ap (λ u. convolution_of o (at o u) (at o (get_or (get_or rows i []) j [])) t) (row_zero i)
          ∙ zero_convolution (at o (get_or (get_or rows i []) j []))
          (at-elem o L (get_or (get_or rows i []) j []) (matrix-over o L w rows hr i j)) t)
          ∙ sum_of_zeros o L (length rows)),
    );
  }

  module _ (w : ℕ) (c : List E) (hc : IsPolynomialList o c) (nonzero : c ≢ []) (rows : List (List (List E)))
      (hr : IsPolynomialMatrix o w rows) where
    abbrev tuples_over : List (List (List E)) → List (List (Pair E))
    tuples_over xs = tuples_of o L (record { denominator = c; numerators = xs })

    -- independent rows are independent tuples
    pub independent_of_rows : RowsAreIndependent o rows → AreIndependent (K o L) w (tuples_over rows)
    independent_of_rows free = (kernel_tells o L w c rows [] hc nonzero hr (kernel_of_independent w rows hr free)).0 refl

    -- rows with the same lattice span what the tuples span
    module _ (basis : List (List (List E))) (hb : IsPolynomialMatrix o w basis) (same : SameRowLattice o w rows basis)
      where
        spans_again : (i : ℕ) → i < length (tuples_over rows)
            → InSpan (K o L) w (tuples_over basis) (get_or (tuples_over rows) i [])
        spans_again i l =
            let i_in : i < length rows =
            omega (arith, l, count-tuples o L (record { denominator = c; numerators = rows })) in
            let x = get_or rows i [] in
            let hx = row_at o L w rows hr i i_in in
            let over = fraction_over o L c in
            subst (InSpan (K o L) w (tuples_over basis)) (sym (get_or-map (map over) rows i [] [] i_in))
            (span_of_lattice (K o L) (M o L) w (tuples_over basis) (over_rows-matrix o L c hc nonzero w basis hb)
            (IsPolynomialFraction o) (map over x)
            (lattice_of_row o L w c hc nonzero basis hb x hx ((same x hx).0 (member_in o L w rows hr i i_in))).1)

        pub span_of_basis : (x : List (Pair E)) → InSpan (K o L) w (tuples_over rows) x
            → InSpan (K o L) w (tuples_over basis) x
        span_of_basis x h =
            InSpan_trans (K o L) (M o L) w (tuples_over rows) (tuples_over basis) x
            (over_rows-matrix o L c hc nonzero w basis hb) spans_again h

        pub count_of_basis : RowsAreIndependent o basis
            → ((x : List (Pair E)) → IsTuple (K o L) w x → InSpan (K o L) w (tuples_over rows) x) → length basis ≡ w
        count_of_basis free spans =
            sym (count-tuples o L (record { denominator = c; numerators = basis }))
            ∙ count_of_spanning (K o L) (M o L) w (tuples_over basis) (over_rows-matrix o L c hc nonzero w basis hb)
            ((kernel_tells o L w c basis [] hc nonzero hb (kernel_of_independent w basis hb free)).0 refl)
            (λ x hx. span_of_basis x (spans x hx))
