use Rattle.spl_table.proofs.CanonicalReading.{canonical_says_table}
use Rattle.spl_table.proofs.canonical_laws.canonical_texts_say_their_tables.Goals as goal

pub returns : goal.returns
returns c = canonical_says_table
