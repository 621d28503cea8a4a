use Rattle.spl_table.specs.Table.{algebra_of}
use Rattle.spl_table.proofs.CanonicalLines.{entry_written}
use Rattle.spl_table.proofs.writing.push_entry.Goals as goal

pub returns : goal.returns
returns c =
    entry_written c.args.out.now.items c.push_index.new.out.items c.push_index-2.new.out.items
    c.push_index-3.new.out.items c.write_fraction.new.out.items c.extend_from_slice.new.self.items
    (algebra_of c.args.table.now) c.args.i c.args.j c.args.k c.args.x.now c.requires.value
    c.in_ok-push_index.ensures c.in_ok-push_index-2.ensures c.in_ok-push_index-3.ensures
    c.in_ok-write_fraction.ensures.ok c.in_ok-extend_from_slice.ensures.items
