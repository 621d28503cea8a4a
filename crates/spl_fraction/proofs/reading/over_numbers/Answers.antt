use Rattle.std.proofs.Common.{sym, ◌∙◌, ap, subst}
use Rattle.spl_field.specs.SmallField.{small_ops}
use Rattle.theory_fractions.specs.Fraction.{IsLowestTerms}
use Rattle.spl_fraction.specs.CanonicalWords.{denominator_of, IsProper}
use Rattle.spl_fraction.proofs.CanonicalTexts.{denominator_back, denominator_forth}
use Rattle.spl_fraction.proofs.reading.over_numbers.Goals as goal

pub returns-then-not-branch : goal.returns-then-not-branch
returns-then-not-branch c v h e =
    let o = small_ops c.args.f.now in
    let read = rw c.in-Some.is at c.in_ok-den.ensures.value in
    let b = denominator_back c.args.f.now c.args.numbers.now v h.denominator_over h.denominator_trimmed e in
    let p : IsProper o c.args.num v = record { long = b.2; lowest = h } in
    let t = c.in_ok-is_proper.ensures.1 (subst (IsProper o c.args.num) (sym b.1 ∙ sym read) p) in
    cc (t, c.if-not-branch.true)

pub returns : goal.returns
returns c =
    let o = small_ops c.args.f.now in
    let read = rw c.in-Some.is at c.in_ok-den.ensures.value in
    let p = c.in_ok-is_proper.ensures.0 c.if-not-branch.false in (
      subst (λ w. IsLowestTerms o w.0 w.1) (sym c.of.ensures) p.lowest,
      ap (λ w. w.0) c.of.ensures,
      denominator_forth c.args.f.now c.args.numbers.now c.in-Some.den c.requires.list read p.long
          ∙ ap (λ w. denominator_of w.1) (sym c.of.ensures),
    )
