use Rattle.spl_blocks.proofs.FieldCentres.{field_centre_by_powers}
use Rattle.spl_blocks.proofs.rank_laws.field_centre_by_powers.Goals as goal

pub returns : goal.returns
returns g c = record { field = λ o L. field_centre_by_powers o L }
