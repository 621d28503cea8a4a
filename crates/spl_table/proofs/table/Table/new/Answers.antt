use Rattle.std.proofs.Common.{ℕ, List, ◌↔◌, subst}
use Rattle.theory_rings.specs.Ops.{IsElem}
use Rattle.spl_field.specs.SmallField.{small_ops}
use Rattle.spl_field.specs.declared.small.SmallField.{SmallField}
use Rattle.theory_fractions.specs.Fraction.{IsLowestTerms}
use Rattle.spl_fraction.specs.Fractions.{field_of as base_of}
use Rattle.spl_fraction.specs.FractionsOver.{fractions_over}
use Rattle.spl_table.proofs.Elements.{elements_over}
use Rattle.spl_table.proofs.table.Table.new.Goals as goal

pub of-requires-clause-over : goal.of-requires-clause-over
of-requires-clause-over c =
    let f = c.args.field in
    let k = base_of c.in_ok-fractions.fractions in
    let there = subst (λ (x : SmallField). (u v : List ℕ)
    → IsElem (fractions_over x) (u, v) ↔ IsLowestTerms
    (small_ops x) u v) c.field.ensures c.elements_are_lowest_terms-2.ensures in
    elements_over (small_ops f) (small_ops k) (fractions_over f)
    (fractions_over k) c.in_ok-fractions.ensures.ops c.elements_are_lowest_terms.ensures there c.args.constants
    c.requires.over
