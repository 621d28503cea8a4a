use Rattle.std.proofs.Common.{◌≤◌, ◌<◌, false, length, refl, subst, arith}
use Rattle.std.proofs.lemmas.Bool.{both_ways}
use Rattle.theory_tables.specs.Subspace.{IsReducedBasis}
use Rattle.spl_residue.specs.Residue.{residue_ops}
use Rattle.spl_residue.specs.ResidueOver.{residues_laws}
use Rattle.spl_blocks.proofs.Quotients.{quotient_unital}
use Rattle.spl_ramified.proofs.MaximalIdeals.{not_maximal, proper, maximal_where_simple}
use Rattle.spl_ramified.proofs.maximal.is_maximal_ideal.Goals as goal

pub returns-then-dim : goal.returns-then-dim
returns-then-dim c =
    let k = c.args.k.now in
    let o = residue_ops k in
    let A = c.args.b.now in
    let rows = c.args.ideal.now.rows in
    let many : A.dim ≤ length rows = omega (arith, c.if-dim.true, c.dim.ensures, c.dim-2.ensures.dim) in (
      λ t. absurd (both_ways false refl t),
      λ x. absurd (not_maximal o (residues_laws k.field k.modulus k.irreducible) A c.requires.unital rows
          c.requires.ideal (subst (λ n. IsReducedBasis o n rows) c.requires.width c.requires.basis) many x),
    )

pub quotient-requires-clause-proper : goal.quotient-requires-clause-proper
quotient-requires-clause-proper c =
    let k = c.args.k.now in
    let A = c.args.b.now in
    let rows = c.args.ideal.now.rows in
    let few : length rows < A.dim = omega (arith, c.if-dim.false, c.dim.ensures, c.dim-2.ensures.dim) in
    proper (residue_ops k) (residues_laws k.field k.modulus k.irreducible) A c.requires.unital rows c.requires.ideal few

pub is_simple_by_rank-requires : goal.is_simple_by_rank-requires
is_simple_by_rank-requires c =
    let k = c.args.k.now in
    let z = c.in_ok-algebra in
    record {
      unital = quotient_unital (residue_ops k) (residues_laws k.field k.modulus k.irreducible) c.args.b.now
          c.requires.unital c.args.ideal.now.rows z.field-0.algebra z.field-0.project z.field-0.lifts z.ensures;
    }

pub returns : goal.returns
returns c =
    let k = c.args.k.now in
    let A = c.args.b.now in
    let rows = c.args.ideal.now.rows in
    let few : length rows < A.dim = omega (arith, c.if-dim.false, c.dim.ensures, c.dim-2.ensures.dim) in
    let z = c.in_ok-algebra in
    let w = maximal_where_simple (residue_ops k) (residues_laws k.field k.modulus k.irreducible) A c.requires.unital
    rows c.requires.ideal z.field-0.algebra z.field-0.project z.field-0.lifts z.ensures few in
    let s = c.in_ok-simple.ensures in
    ((λ t. w.0 (s.0 t)), (λ x. s.1 (w.1 x)))
