use Rattle.std.proofs.Common.{subst}
use Rattle.theory_tables.specs.Subspace.{IsReducedBasis}
use Rattle.spl_residue.specs.Residue.{residue_ops}
use Rattle.spl_radical.specs.Radical.{laws_of}
use Rattle.spl_place_words.proofs.SemisimpleAlgebras.{semisimple_by_radical}
use Rattle.spl_place_words.proofs.blocks.is_semisimple.Goals as goal

pub returns : goal.returns
returns c =
    let k = c.args.k.now in
    let T = c.args.b.now in
    let r = c.in_ok-radical in
    semisimple_by_radical (residue_ops k) (laws_of k) T c.requires r.radical.rows
    (subst (λ w. IsReducedBasis (residue_ops k) w r.radical.rows) r.ensures.width r.ensures.basis) r.ensures.radical
    c.dim.result c.dim.ensures
