use Rattle.std.proofs.Common.{◌∙◌, ap, subst, arith, ◌≡◌, [], get_or}
use Rattle.std.proofs.lemmas.List.{get_or_default}
use Rattle.spl_field.specs.SmallField.{small_ops}
use Rattle.spl_poly.specs.Operations.{IsDivision}
use Rattle.spl_lattice.proofs.members.divide_at.Goals as goal

pub returns-clause-value : goal.returns-clause-value
returns-clause-value c =
    let o = small_ops c.args.f.now in
    let row = c.args.row in
    let by = c.args.by.now in
    let p = c.args.p in
    let a = c.index-as_slice-p in
    let b = c.index-as_slice-p-2 in
    let d = c.in_ok-division in
    let q = d.division.quotient in
    let r = d.division.remainder in
    let ea : a.result ≡ get_or row p [] = a.is ∙ ap (λ xs. get_or xs p a.result) c.as_slice.ensures
    ∙ get_or_default row p a.result [] c.requires.place in
    let eb : b.result ≡ get_or by p [] = b.is ∙ ap (λ xs. get_or xs p b.result) c.as_slice-2.ensures
    ∙ get_or_default by p b.result [] (omega (arith, c.requires.place, c.requires.by.width)) in
    record {
      rest = record {
        quotient = q;
        rest = r;
        quotient_over = d.ensures.quotient_over;
        rest_over = d.ensures.remainder_over;
        rest_trimmed = d.ensures.remainder_trimmed;
        division = subst (λ z. IsDivision o z (get_or by p []) q r) ea
            (subst (λ z. IsDivision o a.result z q r) eb d.ensures.value);
        less = c.in_ok-less_multiple.ensures.value;
      };
      added = c.in_ok-add_at.ensures;
    }
