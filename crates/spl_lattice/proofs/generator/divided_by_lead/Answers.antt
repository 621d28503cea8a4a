use Rattle.std.proofs.Common.{subst}
use Rattle.spl_field.specs.SmallField.{small_ops}
use Rattle.spl_lattice.specs.Steps.{AreMultiples}
use Rattle.spl_lattice.proofs.Combinations.{multiple_of_lead}
use Rattle.spl_lattice.proofs.generator.divided_by_lead.Goals as goal

pub returns-clause-value : goal.returns-clause-value
returns-clause-value c =
    let o = small_ops c.args.f.now in
    let v = c.args.found.now in
    let u = c.in_ok-unit in
    let l = c.lead_inverse in
    let m = c.in_ok-monic in
    let p = c.in_ok-multiples in
    multiple_of_lead o c.know_laws.ensures v.value v.multipliers m.field-0 p.field-0 u.unit l.result
    c.requires.value_over m.ensures.over l.ensures.elem l.ensures.nonzero l.ensures.value u.ensures.over u.ensures.value
    m.ensures.value
    (subst (λ xs. AreMultiples o u.unit xs p.field-0) c.as_slice.ensures p.ensures.value)
