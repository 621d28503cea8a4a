use Rattle.std.proofs.Common.{refl, arith}
use Rattle.spl_table.proofs.Admitted.{characteristic_most}
use Rattle.spl_table.proofs.reader.head.field_of.Goals as goal

pub returns-in_default-clause-fault : goal.returns-in_default-clause-fault
returns-in_default-clause-fault c =
    rw c.at.ensures (
      refl,
      λ fits.
          omega (arith, c.in_default.ensures, characteristic_most c.args.characteristic c.args.modulus.now fits),
    )
