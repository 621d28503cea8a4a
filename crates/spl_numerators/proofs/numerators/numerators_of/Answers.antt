use Rattle.std.proofs.Common.{◌*◌, All, [], length, sym, subst}
use Rattle.std.proofs.lemmas.List.Elements.{All-from_get_or}
use Rattle.theory_rings.specs.Ops.{IsElem}
use Rattle.spl_field.specs.SmallField.{small_ops, small_laws}
use Rattle.theory_fractions.specs.PolynomialLists.{IsOver}
use Rattle.theory_fractions.specs.CommonDenominator.{Clears, IsCommonDenominator}
use Rattle.spl_fraction.specs.Fractions.{field_of}
use Rattle.spl_fraction.specs.FractionsOver.{fractions_over}
use Rattle.spl_numerators.specs.Numerators.{HasMultiples}
use Rattle.spl_numerators.proofs.numerators.numerators_of.Goals as goal

pub common_denominator-requires : goal.common_denominator-requires
common_denominator-requires c =
    subst (All (IsElem (fractions_over (field_of c.args.f.now)))) (sym c.constants-list.ensures.value)
    c.requires.of_elements

pub multiples_of-requires-clause-c_over : goal.multiples_of-requires-clause-c_over
multiples_of-requires-clause-c_over c =
    subst (λ k. IsOver (small_ops k) c.in_ok-denominator.denominator) (sym c.field.ensures)
    c.in_ok-denominator.ensures.over

pub multiples_of-requires-clause-elems : goal.multiples_of-requires-clause-elems
multiples_of-requires-clause-elems c =
    subst (λ k. All (IsElem (fractions_over k)) c.constants-list.result.now) (sym c.field.ensures)
    (subst (All (IsElem (fractions_over (field_of c.args.f.now)))) (sym c.constants-list.ensures.value)
    c.requires.of_elements)

pub multiples_of-requires-clause-clears : goal.multiples_of-requires-clause-clears
multiples_of-requires-clause-clears c =
    let d = c.in_ok-denominator.denominator in
    let list = c.constants-list.result.now in
    subst (λ k. All (Clears (small_ops k) d) list) (sym c.field.ensures)
    (All-from_get_or (Clears (small_ops (field_of c.args.f.now)) d) list ([], [])
    c.in_ok-denominator.ensures.value.clears)

pub returns : goal.returns
returns c =
    let k = field_of c.args.f.now in
    let o = small_ops k in
    let L = small_laws k in
    let d = c.in_ok-denominator in
    let list = c.constants-list.result.now in
    let entries = c.in_ok-entries.entries in
    let A = c.args.a.now in
    record {
      over = record { over = d.ensures.over; trimmed = d.ensures.trimmed };
      common = subst (λ xs. IsCommonDenominator o xs d.denominator) c.constants-list.ensures.value d.ensures.value;
      multiples = subst (λ xs. HasMultiples o L d.denominator xs (A.dim * A.dim * A.dim) entries)
          c.constants-list.ensures.value
          (subst (λ n. HasMultiples o L d.denominator list n entries) c.constants-list.ensures.count
          (subst (λ q. HasMultiples (small_ops q) (small_laws q) d.denominator list (length list) entries)
          c.field.ensures c.in_ok-entries.ensures));
    }
