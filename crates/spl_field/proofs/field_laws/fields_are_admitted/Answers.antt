use Rattle.spl_field.proofs.AdmittedFields.{fields_are_admitted}
use Rattle.spl_field.proofs.field_laws.fields_are_admitted.Goals as goal

pub returns : goal.returns
returns c = fields_are_admitted
