use Rattle.std.proofs.Common.{◌*◌, ℕ, sym, subst}
use Rattle.theory_spaces.specs.Tuples.{IsTuple}
use Rattle.theory_constants.specs.Generated.{Generates}
use Rattle.spl_residue.specs.Residue.{residue_ops}
use Rattle.spl_numerators.proofs.residues.generators_at.Goals as goal

pub generators-requires : goal.generators-requires
generators-requires c =
    let A = c.in_ok-algebra in
    let D : ℕ → Type 0 = λ d. IsTuple (residue_ops c.args.k.now) (d * d * d) A.algebra.constants in
    subst D (sym A.ensures.dim) A.ensures.constants.tuple

pub returns : goal.returns
returns c =
    let A = c.in_ok-algebra in
    let by = c.in_ok-generators.field-0 in
    let D : ℕ → Type 0 = λ d.
    Generates (residue_ops c.args.k.now) (record { dim = d; constants = A.algebra.constants }) by in
    record {
      residues = A.algebra.constants;
      are_remainders = A.ensures.constants;
      generates = subst D A.ensures.dim c.in_ok-generators.ensures;
    }
