use Rattle.std.proofs.Common.{ℕ, refl, sym, ap, ap₂, subst, subst₂, ◌∙◌}
use Rattle.spl_fraction.specs.Fractions.{field_of}
use Rattle.spl_fraction.specs.FractionsOver.{fractions_over}
use Rattle.spl_fraction.specs.declared.field.Fractions.{Fractions}
use Rattle.theory_tables.specs.Claims.{NoIdentityFits}
use Rattle.spl_table.specs.Table.{fractions_of, degree_of, algebra_of, ops_of}
use Rattle.spl_evidence.specs.declared.evidence.Evidence.TheVariants.{Triple, NoIdentity, Central, Ideal, Split, Ramified}
use Rattle.spl_evidence.specs.Evidence.{Fits}
use Rattle.spl_check.proofs.Verdicts.{told}
use Rattle.spl_check.proofs.check.verdict_on.Goals as goal

pub check_no_identity-requires-clause-fits : goal.check_no_identity-requires-clause-fits
check_no_identity-requires-clause-fits c =
    let t = c.args.table.now in
    let left = c.as_slice.result.now in
    let right = c.as_slice-in-NoIdentity.result.now in
    subst₂ (λ (f : Fractions) (m : ℕ). NoIdentityFits (fractions_over (field_of f)) m left right)
    (sym c.fractions-f.ensures) (sym c.algebra-algebra.ensures.dim)
    (subst (Fits (ops_of t) (degree_of t))
    (c.in-NoIdentity.is ∙ ap₂ NoIdentity (sym c.as_slice.ensures) (sym c.as_slice-in-NoIdentity.ensures)) c.requires)

pub returns-in-Triple : goal.returns-in-Triple
returns-in-Triple c =
    let t = c.args.table.now in
    let e = c.in-Triple in
    told c.fractions-f.result.now (fractions_of t) c.algebra-algebra.result.now (algebra_of t) (degree_of t)
    (degree_of t) (Triple e.i e.j e.k) c.args.e.now c.check_triple.result c.fractions-f.ensures
    c.algebra-algebra.ensures.algebra refl (sym e.is) c.check_triple.ensures

pub returns-in-NoIdentity : goal.returns-in-NoIdentity
returns-in-NoIdentity c =
    let t = c.args.table.now in
    told c.fractions-f.result.now (fractions_of t) c.algebra-algebra.result.now (algebra_of t) (degree_of t)
    (degree_of t) (NoIdentity c.as_slice.result.now c.as_slice-in-NoIdentity.result.now) c.args.e.now
    c.check_no_identity.result c.fractions-f.ensures c.algebra-algebra.ensures.algebra refl
    (ap₂ NoIdentity c.as_slice.ensures c.as_slice-in-NoIdentity.ensures ∙ sym c.in-NoIdentity.is)
    c.check_no_identity.ensures

pub returns-in-Central : goal.returns-in-Central
returns-in-Central c =
    let t = c.args.table.now in
    let e = c.in-Central in
    told c.fractions-f.result.now (fractions_of t) c.algebra-algebra.result.now (algebra_of t) (degree_of t)
    (degree_of t) (Central e.tuple) c.args.e.now c.check_central.result c.fractions-f.ensures
    c.algebra-algebra.ensures.algebra refl (sym e.is) c.check_central.ensures

pub returns-in-Ideal : goal.returns-in-Ideal
returns-in-Ideal c =
    let t = c.args.table.now in
    told c.fractions-f.result.now (fractions_of t) c.algebra-algebra.result.now (algebra_of t) (degree_of t)
    (degree_of t) (Ideal c.as_slice-in-Ideal.result.now) c.args.e.now c.check_ideal.result c.fractions-f.ensures
    c.algebra-algebra.ensures.algebra refl (ap Ideal c.as_slice-in-Ideal.ensures ∙ sym c.in-Ideal.is)
    c.check_ideal.ensures

pub returns-in-Split : goal.returns-in-Split
returns-in-Split c =
    let t = c.args.table.now in
    told c.fractions-f.result.now (fractions_of t) c.algebra-algebra.result.now (algebra_of t) c.degree.result
    (degree_of t) (Split c.as_slice-in-Split.result.now c.as_slice-in-Split-2.result.now) c.args.e.now
    c.check_split.result c.fractions-f.ensures c.algebra-algebra.ensures.algebra c.degree.ensures.degree
    (ap₂ Split c.as_slice-in-Split.ensures c.as_slice-in-Split-2.ensures ∙ sym c.in-Split.is) c.check_split.ensures

pub returns-in-Ramified : goal.returns-in-Ramified
returns-in-Ramified c =
    let t = c.args.table.now in
    let e = c.in-Ramified in
    told c.fractions-f.result.now (fractions_of t) c.algebra-algebra.result.now (algebra_of t) (degree_of t)
    (degree_of t) (Ramified e.place e.order e.radical) c.args.e.now c.check_ramified.result c.fractions-f.ensures
    c.algebra-algebra.ensures.algebra refl (sym e.is) c.check_ramified.ensures
