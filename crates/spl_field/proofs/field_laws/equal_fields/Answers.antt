use Rattle.spl_field.proofs.EqualFields.{equal_fields}
use Rattle.spl_field.proofs.field_laws.equal_fields.Goals as goal

pub returns : goal.returns
returns c = equal_fields
