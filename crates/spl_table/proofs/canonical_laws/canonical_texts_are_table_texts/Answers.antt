use Rattle.spl_table.proofs.CanonicalDegrees.{canonical_is_only}
use Rattle.spl_table.proofs.canonical_laws.canonical_texts_are_table_texts.Goals as goal

pub returns : goal.returns
returns c = canonical_is_only
