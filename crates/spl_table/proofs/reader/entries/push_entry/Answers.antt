use Rattle.spl_fraction.specs.Fractions.{field_of}
use Rattle.spl_table.specs.Reading.{entry_of}
use Rattle.spl_table.proofs.Constants.{elements_in_range}
use Rattle.spl_table.proofs.reader.entries.push_entry.Goals as goal

pub constant_of-requires-clause-elements : goal.constant_of-requires-clause-elements
constant_of-requires-clause-elements c =
    elements_in_range (field_of c.args.k.now) c.args.n (entry_of c.args.entry) c.requires.range
