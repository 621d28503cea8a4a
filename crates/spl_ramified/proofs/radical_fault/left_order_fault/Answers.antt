use Rattle.std.proofs.Common.{◌≡◌, length, refl, sym, ◌∙◌, ap, subst, inl, inr, arith}
use Rattle.std.proofs.lemmas.Bool.{both_ways}
use Rattle.theory_tables.specs.Subspace.{IsReducedBasis}
use Rattle.spl_residue.specs.Residue.{residue_ops}
use Rattle.spl_residue.specs.ResidueOver.{residues_laws}
use Rattle.spl_order.proofs.ImageRows.{no_rows}
use Rattle.spl_ramified.proofs.radical_fault.left_order_fault.Goals as goal

pub returns-then-not-branch : goal.returns-then-not-branch
returns-then-not-branch c =
    let w = c.in_ok-is_own_left_order in
    inl ((λ h. both_ways w.field-0 c.if-not-branch.true (w.ensures.1 h)), refl)

pub returns-then-dim-eq0 : goal.returns-then-dim-eq0
returns-then-dim-eq0 c =
    let none : length c.args.image.now.rows ≡ 0 = sym c.dim.ensures ∙ c.if-dim-eq0.true in
    let n = c.requires.conditions.not_multiple in
    inr (
      c.in_ok-is_own_left_order.ensures.0 c.if-not-branch.false,
      inl ((λ h. n.0 h (λ i l. absurd (omega (arith, none, l)))), refl),
    )

pub returns : goal.returns
returns c =
    let k = c.args.residue.now.field in
    let r = residue_ops k in
    let rows = c.args.image.now.rows in
    let basis : IsReducedBasis r c.args.residue.now.algebra.dim rows =
    subst (λ n. IsReducedBasis r n rows) c.requires.width c.requires.image in
    let n = c.requires.conditions.not_multiple in (
      c.in_ok-is_own_left_order.ensures.0 c.if-not-branch.false,
      (
        n.1 (λ z. c.if-dim-eq0.false (c.dim.ensures ∙ ap length (no_rows r
            (residues_laws k.field k.modulus k.irreducible) c.args.residue.now.algebra.dim rows basis z))),
        tt,
      ),
    )
