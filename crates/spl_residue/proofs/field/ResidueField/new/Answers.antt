use Rattle.std.proofs.Common.{sym, subst}
use Rattle.theory_remainders.specs.Irreducible.{IsIrreducible}
use Rattle.spl_field.specs.SmallField.{small_ops}
use Rattle.spl_residue.proofs.field.ResidueField.new.Goals as goal

pub invariant_of-result : goal.invariant_of-result
invariant_of-result c =
    let i = c.in_ok-is_irreducible.ensures.0 c.if-not-branch.false in
    record {
      irreducible = subst (λ o. IsIrreducible o c.in_ok-modulus.modulus) (sym c.in_ok-field.ensures.ops)
          (subst (IsIrreducible (small_ops c.args.f.now)) (sym c.in_ok-modulus.ensures.value) i);
    }
