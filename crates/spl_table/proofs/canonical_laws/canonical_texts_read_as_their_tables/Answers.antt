use Rattle.spl_table.proofs.CanonicalDegrees.{canonical_reads}
use Rattle.spl_table.proofs.canonical_laws.canonical_texts_read_as_their_tables.Goals as goal

pub returns : goal.returns
returns c = canonical_reads
