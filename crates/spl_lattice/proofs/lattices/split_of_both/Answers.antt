use Rattle.spl_field.specs.SmallField.{small_ops}
use Rattle.spl_lattice.proofs.RowLattices.{split_append}
use Rattle.spl_lattice.proofs.lattices.split_of_both.Goals as goal

pub insert_rows-requires : goal.insert_rows-requires
insert_rows-requires c = let g = c.in_ok-split.ensures in record { rows = c.requires.right; split = g.split }

pub returns : goal.returns
returns c =
    let s = c.in_ok-split.split in
    let new = c.insert_rows.new.split in
    split_append (small_ops c.args.f.now) c.know_laws.ensures c.args.w c.args.w c.args.a.now c.args.b.now s.basis.items
    s.places.items s.zeros.items new.basis.items new.places.items new.zeros.items c.requires.left c.requires.right
    c.in_ok-split.ensures c.in_ok-insert_rows.ensures
