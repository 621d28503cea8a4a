use Rattle.std.proofs.Common.{subst, sym}
use Rattle.spl_field.specs.SmallField.{small_ops, small_laws}
use Rattle.spl_fraction.specs.FractionsOver.{fractions_over}
use Rattle.theory_tables.specs.Structure.{IsOver, IsAssociative}
use Rattle.theory_tables.specs.Traces.{IsNondegenerate}
use Rattle.theory_bases.specs.TupleLattices.{AreTraceDual}
use Rattle.theory_bases.specs.Bases.{IsBasis, tuples_of}
use Rattle.spl_order.specs.Forms.{IsClearedForm}
use Rattle.spl_order.proofs.forms.dual.Goals as goal

pub dual_by_form-requires-clause-over : goal.dual_by_form-requires-clause-over
dual_by_form-requires-clause-over c =
    subst (λ q. IsOver (fractions_over q) c.args.a.now) (sym c.field.ensures) c.requires.over

pub dual_by_form-requires-clause-associative : goal.dual_by_form-requires-clause-associative
dual_by_form-requires-clause-associative c =
    subst (λ q. IsAssociative (fractions_over q) c.args.a.now) (sym c.field.ensures) c.requires.associative

pub dual_by_form-requires-clause-nondegenerate : goal.dual_by_form-requires-clause-nondegenerate
dual_by_form-requires-clause-nondegenerate c =
    subst (λ q. IsNondegenerate (fractions_over q) c.args.a.now) (sym c.field.ensures) c.requires.nondegenerate

pub dual_by_form-requires-clause-form : goal.dual_by_form-requires-clause-form
dual_by_form-requires-clause-form c =
    subst (λ q. IsClearedForm (small_ops q) (small_laws q) c.args.a.now c.in_ok-form.form.denominator
    c.in_ok-form.form.numerators) (sym c.field.ensures) c.in_ok-form.ensures

pub dual_by_form-requires-clause-order : goal.dual_by_form-requires-clause-order
dual_by_form-requires-clause-order c =
    subst (λ q. IsBasis (small_ops q) (small_laws q) c.args.a.now.dim c.args.order.now) (sym c.field.ensures)
    c.requires.order

pub returns : goal.returns
returns c =
    let b = c.in_ok-found.found in
    record {
      basis = subst (λ q. IsBasis (small_ops q) (small_laws q) c.args.a.now.dim b) c.field.ensures
          c.in_ok-found.ensures.basis;
      dual = subst (λ q. AreTraceDual (fractions_over q) c.args.a.now
          (tuples_of (small_ops q) (small_laws q) c.args.order.now) (tuples_of (small_ops q) (small_laws q) b))
          c.field.ensures c.in_ok-found.ensures.dual;
    }
