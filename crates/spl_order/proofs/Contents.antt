-- The least denominator of rows over a denominator by the generator of the ideal of the denominator and all entries.
use Rattle.std.specs.Prelude.{◌≡◌, ◌≢◌, ◌<◌, ℕ, List, [], ◌∷◌, length, get_or}
use Rattle.std.specs.List.{All}
use Rattle.std.proofs.Common.{refl, sym, ◌∙◌, ap, subst, arith}
use Rattle.std.proofs.lemmas.List.Elements.{All-cons, All-tail, All-get_or, All-from_get_or}
use Rattle.theory_rings.specs.Ops.{Ops, FieldLaws}
use Rattle.theory_rings.specs.Elements.{Elem, Elem-path}
use Rattle.theory_rings.specs.Sum.{at}
use Rattle.theory_rings.specs.Polynomial.{IsTrimmed, degree}
use Rattle.theory_rings.proofs.Rings.Elements.{at-elem}
use Rattle.theory_rings.proofs.Rings.Fields.{field_mul-ne-zero}
use Rattle.theory_fractions.specs.PolynomialLists.{IsOver, IsPolynomialList, IsProduct, IsDivision, Divides}
use Rattle.theory_fractions.specs.Fraction.{Pair}
use Rattle.theory_fractions.specs.CommonDenominator.{as_fraction}
use Rattle.theory_fractions.proofs.ElementClauses.{zero_is, ne_zero}
use Rattle.theory_fractions.proofs.PolynomialFractions.{as_fraction-elem, as_fraction-mul}
use Rattle.theory_tables.proofs.Rows.Terms.{zero-mul, mul-zero}
use Rattle.theory_rows.specs.Rows.{IsPolynomialRow, IsPolynomialMatrix}
use Rattle.theory_rows.proofs.LiftedRows.{entry-over, entry-trimmed}
use Rattle.theory_bases.specs.Bases.{IsDenominatorOf, tuples_of}
use Rattle.theory_bases.specs.Joined.{joined}
use Rattle.theory_bases.proofs.FractionsOver.{K, M}
use Rattle.theory_bases.proofs.PolynomialSums.{as_fraction-sum}
use Rattle.theory_bases.proofs.Denominators.{All-joined, joined-All}
use Rattle.theory_bases.proofs.PolynomialDivisors.{IsUnitMultiple, unit_multiple_of_scaled, quotient_of_divides}
use Rattle.theory_bases.proofs.PolynomialDivisors.{fraction_field, up}
use Rattle.theory_bases.proofs.LeastDenominators.{CombinesTo, combines_of_sum, denominator_by_divisor}
use Rattle.spl_poly.specs.Operations.{IsMonicOf}
use Rattle.spl_lattice.specs.Ideal.{IsGenerator}
use Rattle.spl_order.proofs.ExactQuotients.{quotient_times}

module _ {E : Type 0} (o : Ops E) (L : FieldLaws o) where
  abbrev k : Ops (Pair E)
  k = K o L

  abbrev Is : List E → Type 0
  Is = IsPolynomialList o

  -- a polynomial is 0 where its fraction is
  nil_of_fraction : (u : List E) → as_fraction o u ≡ k.zero → u ≡ []
  nil_of_fraction u e = ap (λ (t : Pair E). t.0) (e ∙ zero_is o L)

  fraction_nil : (u : List E) → u ≡ [] → as_fraction o u ≡ k.zero
  fraction_nil u e = ap (as_fraction o) e ∙ sym (zero_is o L)

  -- the factors of a product other than 0 are not 0
  pub left_nonzero : (c p g : List E) → Is g → c ≢ [] → as_fraction o c ≡ k.mul (as_fraction o p) (as_fraction o g)
      → p ≢ []
  left_nonzero c p g hg n e z = n (nil_of_fraction c (e ∙ ap (λ t. k.mul t (as_fraction o g)) (fraction_nil p z)
      ∙ zero-mul k (M o L) (as_fraction o g) (as_fraction-elem o L g hg)))

  pub right_nonzero : (c p g : List E) → Is p → c ≢ [] → as_fraction o c ≡ k.mul (as_fraction o p) (as_fraction o g)
      → g ≢ []
  right_nonzero c p g hp n e z = n (nil_of_fraction c (e ∙ ap (k.mul (as_fraction o p)) (fraction_nil g z)
      ∙ mul-zero k (M o L) (as_fraction o p) (as_fraction-elem o L p hp)))

  -- a product of others than 0 is not 0
  pub product_nonzero : (a b c : List E) → Is a → Is b → Is c → IsProduct o a b c → a ≢ [] → b ≢ [] → c ≢ []
  product_nonzero a b c ha hb hc product na nb z =
      let F = fraction_field o L in
      field_mul-ne-zero F (up o L a ha) (up o L b hb)
      (λ e. ne_zero o L (as_fraction o a) na (ap (λ (t : Elem k). t.0) e))
      (λ e. ne_zero o L (as_fraction o b) nb (ap (λ (t : Elem k). t.0) e))
      (Elem-path k (F.◌⊗◌ (up o L a ha) (up o L b hb)) F.zero
      (sym (as_fraction-mul o L a b c ha hb hc product) ∙ fraction_nil c z))

  -- a polynomial divided by its leading coefficient
  monic_multiple : (q e : List E) → Is q → Is e → IsMonicOf o q e → IsUnitMultiple o L q e
  monic_multiple q e hq he h =
      let lead = at o q (degree q) in
      let s : Elem o = (o.inv lead, L.inv-elem lead (at-elem o L q hq.over (degree q))) in
      unit_multiple_of_scaled o L q e hq he s
      (λ z. L.one-nonzero (sym h.leading ∙ h.scaled (degree e)
      ∙ ap (λ (t : Elem o). o.mul t.0 (at o q (degree e))) z
      ∙ zero-mul o L (at o q (degree e)) (at-elem o L q hq.over (degree e))))
      h.scaled

  module _ (w : ℕ) (c : List E) (rows : List (List (List E))) (hc : Is c) (nonzero : c ≢ [])
      (hr : IsPolynomialMatrix o w rows) (list : List (List E))
      (list-is : list ≡ c ∷ joined (length rows) (λ i. get_or rows i [])) where
    abbrev row : ℕ → List (List E)
    row i = get_or rows i []

    -- what holds of c and of all entries holds of the list, and back
    pub all_of : (Q : List E → Type 0) → Q c → ((i j : ℕ) → i < length rows → j < w → Q (get_or (row i) j []))
        → All Q list
    all_of Q q qs = subst (All Q) (sym list-is) (All-cons Q c (joined (length rows) row) q
        (All-joined Q (length rows) row (λ i i_in.
        let h = All-get_or (IsPolynomialRow o w) rows i [] i_in hr in
        All-from_get_or Q (row i) [] (λ j l. qs i j i_in (omega (arith, l, h.width))))))

    entry_of : (Q : List E → Type 0) → All Q list → (i j : ℕ) → i < length rows → j < w → Q (get_or (row i) j [])
    entry_of Q q i j i_in j_in =
        let h = All-get_or (IsPolynomialRow o w) rows i [] i_in hr in
        All-get_or Q (row i) j [] (omega (arith, j_in, h.width))
        (joined-All Q (length rows) row (All-tail Q c (joined (length rows) row) (subst (All Q) list-is q)) i i_in)

    first_of : (Q : List E → Type 0) → All Q list → Q c
    first_of Q q = All-get_or Q (c ∷ joined (length rows) row) 0 [] (omega arith) (subst (All Q) list-is q)

    pub list_over : All (IsOver o) list
    list_over = all_of (IsOver o) hc.over (λ i j i_in j_in.
        entry-over o L w (row i) (All-get_or (IsPolynomialRow o w) rows i [] i_in hr) j)

    module _ (ms : List (List E)) (g : List E) (G : IsGenerator o list ms g) (hg : Is g) (ms_over : All (IsOver o) ms)
        (ms_trimmed : All (IsTrimmed o.zero) ms) where
      divides_all : All (Divides o g) list
      divides_all = All-from_get_or (Divides o g) list [] G.divides

      divides_c : Divides o g c
      divides_c = first_of (Divides o g) divides_all

      quotient : (p : List E) × Is p × (as_fraction o c ≡ k.mul (as_fraction o p) (as_fraction o g))
      quotient = quotient_of_divides o L g c hg hc divides_c

      pub divisor_nonzero : g ≢ []
      divisor_nonzero = right_nonzero c quotient.0 g quotient.1 nonzero quotient.2

      list_row : IsPolynomialRow o (length list) list
      list_row = record {
        width = refl;
        over = list_over;
        trimmed = all_of (IsTrimmed o.zero) hc.trimmed (λ i j i_in j_in.
            entry-trimmed o L w (row i) (All-get_or (IsPolynomialRow o w) rows i [] i_in hr) j);
      }

      ms_row : IsPolynomialRow o (length ms) ms
      ms_row = record { width = refl; over = ms_over; trimmed = ms_trimmed }

      m-is : (i : ℕ) → Is (get_or ms i [])
      m-is i = record {
        over = entry-over o L (length ms) ms ms_row i;
        trimmed = entry-trimmed o L (length ms) ms ms_row i;
      }

      item-is : (i : ℕ) → Is (get_or list i [])
      item-is i = record {
        over = entry-over o L (length list) list list_row i;
        trimmed = entry-trimmed o L (length list) list list_row i;
      }

      combines : CombinesTo o L w c rows hc nonzero hr g
      combines = combines_of_sum o L w c rows hc nonzero hr g (length list) (λ i. get_or ms i []) (λ i. get_or list i [])
          m-is item-is
          (as_fraction-sum o L (length list) (λ i. get_or ms i []) (λ i. get_or list i []) g (λ i _. m-is i)
          (λ i _. item-is i) hg G.combination)
          (λ Q in_c in_rows i l. All-get_or Q list i [] l (all_of Q in_c in_rows))

      module _ (q r : List E) (hq : Is q) (hr' : Is r) (division : IsDivision o c g q r) where
        whole : as_fraction o c ≡ k.mul (as_fraction o q) (as_fraction o g)
        whole = quotient_times o L g c q r hg divisor_nonzero hc hq hr' divides_c division

        pub quotient_nonzero : q ≢ []
        quotient_nonzero = left_nonzero c q g hg nonzero whole

        pub least_by_generator : (e : List E) → Is e → IsMonicOf o q e
            → IsDenominatorOf o (tuples_of o L (record { denominator = c; numerators = rows })) e
        least_by_generator e he monic =
            denominator_by_divisor o L w c rows hc nonzero hr g q e hg hq he whole (monic_multiple q e hq he monic)
            monic.leading combines (entry_of (Divides o g) divides_all)
