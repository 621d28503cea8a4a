use Rattle.std.proofs.Common.{List, ℕ, length, subst, sym}
use Rattle.std.specs.List.{All}
use Rattle.theory_tables.specs.Matrix.{IsMatrix}
use Rattle.theory_tables.specs.Subspace.{Rows}
use Rattle.theory_growth.proofs.Quotients.{radical_is_proper}
use Rattle.spl_residue.specs.Residue.{residue_ops}
use Rattle.spl_residue.specs.ResidueOver.{residues_laws}
use Rattle.spl_blocks.proofs.Quotients.{quotient_unital}
use Rattle.spl_local.specs.PulledBack.{AreAllPulledBack}
use Rattle.spl_local.proofs.MaximalIdeals.{quotient_semisimple, maximal_ideals, are_matrices}
use Rattle.spl_local.proofs.ideals.radical_and_ideals.Goals as goal

pub quotient-requires-clause-proper : goal.quotient-requires-clause-proper
quotient-requires-clause-proper c =
    let k = c.args.k.now in
    let u = c.requires.unital in
    radical_is_proper (residue_ops k) (residues_laws k.field k.modulus k.irreducible) c.args.b.now u.over u.associative
    u.identity.one u.identity.is_one c.requires.positive c.in_ok-radical.radical.rows c.in_ok-radical.ensures.radical

pub maximal_ideals-requires-clause-unital : goal.maximal_ideals-requires-clause-unital
maximal_ideals-requires-clause-unital c =
    let k = c.args.k.now in
    let o = residue_ops k in
    let A = c.args.b.now in
    let r = c.in_ok-radical.radical.rows in
    let z = c.in_ok-algebra in
    quotient_unital o (residues_laws k.field k.modulus k.irreducible) A c.requires.unital r z.field-0.algebra
    z.field-0.project z.field-0.lifts z.ensures

pub maximal_ideals-requires-clause-semisimple : goal.maximal_ideals-requires-clause-semisimple
maximal_ideals-requires-clause-semisimple c =
    let k = c.args.k.now in
    let o = residue_ops k in
    let A = c.args.b.now in
    let r = c.in_ok-radical.radical.rows in
    let z = c.in_ok-algebra in
    quotient_semisimple o (residues_laws k.field k.modulus k.irreducible) A c.requires.unital r
    c.in_ok-radical.ensures.radical z.field-0.algebra z.field-0.project z.field-0.lifts z.ensures

pub all_pulled_back-requires-clause-below : goal.all_pulled_back-requires-clause-below
all_pulled_back-requires-clause-below c =
    let k = c.args.k.now in
    let o = residue_ops k in
    let A = c.args.b.now in
    let r = c.in_ok-radical.radical.rows in
    let z = c.in_ok-algebra in
    subst (All (λ (s : Rows (List ℕ)). IsMatrix o (length z.field-0.lifts) s.rows)) (sym c.as_slice.ensures)
    (are_matrices o (residues_laws k.field k.modulus k.irreducible) A c.requires.unital r c.in_ok-radical.ensures.radical
    z.field-0.algebra z.field-0.project z.field-0.lifts z.ensures c.in_ok-below.below c.in_ok-below.ensures)

pub returns : goal.returns
returns c =
    let k = c.args.k.now in
    let o = residue_ops k in
    let A = c.args.b.now in
    let r = c.in_ok-radical.radical.rows in
    let z = c.in_ok-algebra in
    let p : AreAllPulledBack o A z.field-0.lifts r c.in_ok-below.below c.in_ok-ideals.ideals =
    subst (λ (l : List (Rows (List ℕ))). AreAllPulledBack o A z.field-0.lifts r l c.in_ok-ideals.ideals) c.as_slice.ensures
    c.in_ok-ideals.ensures in
    record {
      basis = c.in_ok-radical.ensures.basis;
      width = c.in_ok-radical.ensures.width;
      radical = c.in_ok-radical.ensures.radical;
      ideals = maximal_ideals o (residues_laws k.field k.modulus k.irreducible) A c.requires.unital r
          c.in_ok-radical.ensures.radical z.field-0.algebra z.field-0.project z.field-0.lifts z.ensures
          c.in_ok-below.below c.in_ok-ideals.ideals c.in_ok-below.ensures p;
    }
