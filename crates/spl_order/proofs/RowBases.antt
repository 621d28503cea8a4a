-- Rows over a denominator, divided by the quotient of it by their least denominator, as a basis.
use Rattle.std.specs.Prelude.{◌≡◌, ◌≢◌, ℕ, List, [], length, get_or}
use Rattle.std.specs.List.{All}
use Rattle.std.proofs.Common.{sym, ◌∙◌, ap, subst, arith}
use Rattle.std.proofs.lemmas.List.Elements.{All-get_or, All-from_get_or}
use Rattle.theory_rings.specs.Ops.{Ops, FieldLaws}
use Rattle.theory_fractions.specs.PolynomialLists.{IsPolynomialList, IsDivision, Divides}
use Rattle.theory_fractions.specs.Fraction.{Pair}
use Rattle.theory_fractions.specs.CommonDenominator.{as_fraction}
use Rattle.theory_fractions.proofs.CommonDenominators.{nonzero_of_monic}
use Rattle.theory_tables.specs.Subspace.{AreIndependent}
use Rattle.theory_rows.specs.Rows.{IsPolynomialRow, IsPolynomialMatrix}
use Rattle.theory_rows.proofs.LiftedRows.{matrix-over, matrix-trimmed}
use Rattle.theory_bases.specs.Bases.{BasisForm, IsBasis, IsDenominatorOf, fraction_over, tuples_of}
use Rattle.theory_bases.proofs.FractionsOver.{K, count-tuples, mul-over, over_rows-matrix}
use Rattle.theory_bases.proofs.LeastDenominators.{denominator_divides, divides_entries, divided_tuples}
use Rattle.spl_order.specs.Values.{HasMatrix}
use Rattle.spl_order.proofs.Contents.{left_nonzero}
use Rattle.spl_order.proofs.ExactQuotients.{quotient_times}
use Rattle.spl_order.proofs.Values.{matrix_is}

module _ {E : Type 0} (o : Ops E) (L : FieldLaws o) (w : ℕ) (c : List E) (rows : List (List (List E)))
    (hc : IsPolynomialList o c) (nonzero : c ≢ []) (hr : IsPolynomialMatrix o w rows) where
  abbrev k : Ops (Pair E)
  k = K o L

  abbrev T : List (List (Pair E))
  T = tuples_of o L (record { denominator = c; numerators = rows })

  module _ (e : List E) (he : IsPolynomialList o e) (D : IsDenominatorOf o T e) where
    pub denominator_nonzero : e ≢ []
    denominator_nonzero = nonzero_of_monic o L e D.monic

    module _ (h r : List E) (hh : IsPolynomialList o h) (hr' : IsPolynomialList o r) (division : IsDivision o c e h r)
      where
        split : as_fraction o c ≡ k.mul (as_fraction o h) (as_fraction o e)
        split = quotient_times o L e c h r he denominator_nonzero hc hh hr'
            (denominator_divides o L w c rows hc nonzero hr e D) division

        pub cofactor_nonzero : h ≢ []
        cofactor_nonzero = left_nonzero o L c h e he nonzero split

        pub cofactor_divides : All (All (Divides o h)) rows
        cofactor_divides = All-from_get_or (All (Divides o h)) rows [] (λ i i_in.
            let row = All-get_or (IsPolynomialRow o w) rows i [] i_in hr in
            All-from_get_or (Divides o h) (get_or rows i []) [] (λ j l.
            divides_entries o L w c rows hc nonzero hr e h he hh split D i j i_in (omega (arith, l, row.width))))

        module _ (new : List (List (List E))) (N : HasMatrix o
            (λ i j. fraction_over o L h (get_or (get_or rows i []) j [])) (length rows) w new) where
          abbrev b : BasisForm E
          b = record { denominator = e; numerators = new }

          new-is : IsPolynomialMatrix o w new
          new-is = matrix_is o (λ i j. fraction_over o L h (get_or (get_or rows i []) j [])) (length rows) w new N

          pub same_tuples : tuples_of o L b ≡ T
          same_tuples = divided_tuples o L w c rows hc nonzero hr e h he hh split denominator_nonzero new new-is N.count
              (λ i j i_in j_in.
              let row = N.each i i_in in
              let u = get_or (get_or rows i []) j [] in
              sym (mul-over o L h hh cofactor_nonzero u (record {
                over = matrix-over o L w rows hr i j;
                trimmed = matrix-trimmed o L w rows hr i j;
              }))
              ∙ ap (k.mul (as_fraction o h)) (sym (row.values j j_in)))

          pub is_basis : length rows ≡ w → AreIndependent k w T → IsBasis o L w b
          is_basis count free = record {
            rows = new-is;
            polynomial = he;
            least = subst (λ t. IsDenominatorOf o t e) (sym same_tuples) D;
            independent = record {
              count = count-tuples o L b ∙ N.count ∙ count;
              shape = over_rows-matrix o L e he denominator_nonzero w new new-is;
              independent = subst (AreIndependent k w) (sym same_tuples) free;
            };
          }
