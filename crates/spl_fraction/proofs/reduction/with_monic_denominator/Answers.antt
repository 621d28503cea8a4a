use Rattle.std.proofs.Common.{sym, ◌∙◌, ap, subst}
use Rattle.spl_field.specs.SmallField.{small_ops, small_laws}
use Rattle.theory_fractions.specs.Fraction.{IsLowestTerms, IsFraction}
use Rattle.theory_fractions.proofs.Reducing.{lowest_of_monic, monic_lowest, monic_value}
use Rattle.spl_fraction.proofs.reduction.with_monic_denominator.Goals as goal

pub returns-then-lead-eq1-clause-lowest : goal.returns-then-lead-eq1-clause-lowest
returns-then-lead-eq1-clause-lowest c =
    let o = small_ops c.args.f.now in
    subst (λ w. IsLowestTerms o w.0 w.1) (sym c.of.ensures)
    (lowest_of_monic o (small_laws c.args.f.now) c.args.num c.args.den
    record { over = c.requires.num_over; trimmed = c.requires.num_trimmed }
    record { over = c.requires.den_over; trimmed = c.requires.den_trimmed }
    c.requires.den_nonzero (sym c.lead-lead.ensures.value ∙ c.if-lead-eq1.true) c.requires.coprime)

pub returns-clause-lowest : goal.returns-clause-lowest
returns-clause-lowest c =
    let o = small_ops c.args.f.now in
    subst (λ w. IsLowestTerms o w.0 w.1) (sym c.of-2.ensures)
    (monic_lowest o (small_laws c.args.f.now) c.args.num c.args.den c.in_ok-scaled.field-0 c.in_ok-scaled-2.field-0
    record { over = c.requires.num_over; trimmed = c.requires.num_trimmed }
    record { over = c.requires.den_over; trimmed = c.requires.den_trimmed }
    record { over = c.in_ok-scaled.ensures.over; trimmed = c.in_ok-scaled.ensures.trimmed }
    record { over = c.in_ok-scaled-2.ensures.over; trimmed = c.in_ok-scaled-2.ensures.trimmed }
    c.requires.den_nonzero c.inverse-unit.result c.inverse-unit.ensures.elem
    (ap (o.mul c.inverse-unit.result) (sym c.lead-lead.ensures.value) ∙ c.inverse-unit.ensures.value)
    c.in_ok-scaled.ensures.value c.in_ok-scaled-2.ensures.value c.requires.coprime)

pub returns-clause-value : goal.returns-clause-value
returns-clause-value c =
    let o = small_ops c.args.f.now in
    subst (λ w. IsFraction o w c.args.num c.args.den) (sym c.of-2.ensures)
    (monic_value o (small_laws c.args.f.now) c.args.num c.args.den c.in_ok-scaled.field-0 c.in_ok-scaled-2.field-0
    record { over = c.requires.num_over; trimmed = c.requires.num_trimmed }
    record { over = c.requires.den_over; trimmed = c.requires.den_trimmed }
    record { over = c.in_ok-scaled.ensures.over; trimmed = c.in_ok-scaled.ensures.trimmed }
    record { over = c.in_ok-scaled-2.ensures.over; trimmed = c.in_ok-scaled-2.ensures.trimmed }
    c.requires.den_nonzero c.inverse-unit.result c.inverse-unit.ensures.elem
    (ap (o.mul c.inverse-unit.result) (sym c.lead-lead.ensures.value) ∙ c.inverse-unit.ensures.value)
    c.in_ok-scaled.ensures.value c.in_ok-scaled-2.ensures.value)
