use Rattle.std.proofs.Common.{◌*◌, ℕ, List, sym, subst}
use Rattle.theory_spaces.specs.Tuples.{IsTuple}
use Rattle.spl_residue.specs.Residue.{residue_ops}
use Rattle.spl_numerators.specs.Residues.{AreRemainders}
use Rattle.spl_numerators.proofs.residues.algebra_at.Goals as goal

pub new-requires-clause-over : goal.new-requires-clause-over
new-requires-clause-over c =
    let P : ℕ → Type 0 = λ n. IsTuple (residue_ops c.args.k.now) n c.in_ok-residues.residues in
    subst P c.requires.count c.in_ok-residues.ensures.tuple

pub returns-clause-constants : goal.returns-clause-constants
returns-clause-constants c =
    let k = c.args.k.now in
    let m = c.args.m in
    let R : ℕ → Type 0 = λ n. AreRemainders k c.args.entries.now n c.in_ok-residues.residues in
    let C : List (List ℕ) → Type 0 = λ ds. AreRemainders k c.args.entries.now (m * m * m) ds in
    subst C (sym c.in_ok-new.ensures.constants) (subst R c.requires.count c.in_ok-residues.ensures)
