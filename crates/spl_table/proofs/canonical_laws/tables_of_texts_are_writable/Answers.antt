use Rattle.spl_table.proofs.CanonicalDegrees.{writable}
use Rattle.spl_table.proofs.canonical_laws.tables_of_texts_are_writable.Goals as goal

pub returns : goal.returns
returns c = λ text table right is. writable text right table is
