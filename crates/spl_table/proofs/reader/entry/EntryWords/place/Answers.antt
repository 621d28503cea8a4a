use Rattle.spl_table.specs.Reading.{entry_of, head_of}
use Rattle.spl_table.proofs.Places.{place_of-lt}
use Rattle.spl_table.proofs.reader.entry.EntryWords.place.Goals as goal

pub returns-clause-below : goal.returns-clause-below
returns-clause-below c = place_of-lt (head_of c.args.f.now c.args.n) (entry_of c.args.self.now) c.requires.range
