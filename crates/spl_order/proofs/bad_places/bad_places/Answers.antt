use Rattle.std.proofs.Common.{subst, sym}
use Rattle.spl_field.specs.SmallField.{small_ops, small_laws}
use Rattle.spl_fraction.specs.Fractions.{field_of}
use Rattle.spl_fraction.specs.FractionsOver.{fractions_over}
use Rattle.theory_fractions.specs.PolynomialLists.{IsPolynomialList}
use Rattle.theory_tables.specs.Structure.{IsOver, IsAssociative}
use Rattle.theory_tables.specs.Traces.{IsNondegenerate}
use Rattle.theory_bases.specs.Bases.{IsBasis, tuples_of}
use Rattle.theory_bases.specs.Grams.{IsGramDenominator}
use Rattle.spl_order.specs.Forms.{IsClearedForm}
use Rattle.spl_order.proofs.OwnDualPlaces.{divisor_not_own_dual}
use Rattle.spl_order.proofs.bad_places.bad_places.Goals as goal

pub gram_denominator-requires-clause-over : goal.gram_denominator-requires-clause-over
gram_denominator-requires-clause-over c =
    subst (λ q. IsOver (fractions_over q) c.args.a.now) (sym c.field.ensures) c.requires.over

pub gram_denominator-requires-clause-associative : goal.gram_denominator-requires-clause-associative
gram_denominator-requires-clause-associative c =
    subst (λ q. IsAssociative (fractions_over q) c.args.a.now) (sym c.field.ensures) c.requires.associative

pub gram_denominator-requires-clause-nondegenerate : goal.gram_denominator-requires-clause-nondegenerate
gram_denominator-requires-clause-nondegenerate c =
    subst (λ q. IsNondegenerate (fractions_over q) c.args.a.now) (sym c.field.ensures) c.requires.nondegenerate

pub gram_denominator-requires-clause-form : goal.gram_denominator-requires-clause-form
gram_denominator-requires-clause-form c =
    subst (λ q. IsClearedForm (small_ops q) (small_laws q) c.args.a.now c.in_ok-form.form.denominator
    c.in_ok-form.form.numerators) (sym c.field.ensures) c.in_ok-form.ensures

pub gram_denominator-requires-clause-order : goal.gram_denominator-requires-clause-order
gram_denominator-requires-clause-order c =
    subst (λ q. IsBasis (small_ops q) (small_laws q) c.args.a.now.dim c.args.order.now) (sym c.field.ensures)
    c.requires.order

pub returns : goal.returns
returns c =
    let d = c.in_ok-places.places in
    let F = field_of c.args.f.now in
    let o = small_ops F in
    let L = small_laws F in
    let T = tuples_of o L c.args.order.now in
    let B = c.requires.order in
    let polynomial : IsPolynomialList o d =
    subst (λ q. IsPolynomialList (small_ops q) d) c.field.ensures c.in_ok-places.ensures.polynomial in
    let denominator : IsGramDenominator o L c.args.a.now T d =
    subst (λ q. IsGramDenominator (small_ops q) (small_laws q) c.args.a.now
    (tuples_of (small_ops q) (small_laws q) c.args.order.now) d) c.field.ensures c.in_ok-places.ensures.denominator in
    record {
      polynomial = polynomial;
      denominator = denominator;
      places = λ m s. divisor_not_own_dual o L c.args.a.now c.requires.over c.requires.associative T B.independent
          c.requires.closed d polynomial denominator m s;
    }
