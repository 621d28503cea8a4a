use Rattle.std.proofs.Common.{◌<◌, length, sym, ◌∙◌, ap, subst}
use Rattle.spl_field.specs.SmallField.{small_ops}
use Rattle.theory_fractions.specs.CommonDenominator.{as_fraction}
use Rattle.spl_algebra.proofs.Contractions.{constant_within}
use Rattle.spl_numerators.proofs.Triples.{left_place, right_place}
use Rattle.spl_numerators.proofs.associates.items_agree.Goals as goal

pub sum_of_products-requires-clause-first_within : goal.sum_of_products-requires-clause-first_within
sum_of_products-requires-clause-first_within c l h =
    constant_within c.args.i c.args.j l c.args.m (length c.args.entries.now) c.requires.first c.requires.second h
    c.requires.count

pub sum_of_products-requires-clause-second_within : goal.sum_of_products-requires-clause-second_within
sum_of_products-requires-clause-second_within c l h =
    subst (λ p. p < length c.args.entries.now) (left_place l c.args.k c.args.t c.args.m)
    (constant_within l c.args.k c.args.t c.args.m (length c.args.entries.now) h c.requires.third c.requires.item
    c.requires.count)

pub sum_of_products-requires-2-clause-first_within : goal.sum_of_products-requires-2-clause-first_within
sum_of_products-requires-2-clause-first_within c l h =
    constant_within c.args.j c.args.k l c.args.m (length c.args.entries.now) c.requires.second c.requires.third h
    c.requires.count

pub sum_of_products-requires-2-clause-second_within : goal.sum_of_products-requires-2-clause-second_within
sum_of_products-requires-2-clause-second_within c l h =
    subst (λ p. p < length c.args.entries.now) (right_place c.args.i l c.args.t c.args.m)
    (constant_within c.args.i l c.args.t c.args.m (length c.args.entries.now) c.requires.first h c.requires.item
    c.requires.count)

pub returns : goal.returns
returns c =
    let o = small_ops c.args.f.now in
    let left = c.in_ok-left.ensures.value in
    let right = c.in_ok-right.ensures.value in (
      λ t. sym left ∙ ap (as_fraction o) (c.are_same.ensures.0 t) ∙ right,
      λ e. c.are_same.ensures.1 (ap (λ w. w.0) (left ∙ e ∙ sym right)),
    )
