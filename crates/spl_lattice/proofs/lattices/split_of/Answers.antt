use Rattle.spl_field.specs.SmallField.{small_ops}
use Rattle.spl_lattice.proofs.RowLattices.{split_read}
use Rattle.spl_lattice.proofs.lattices.split_of.Goals as goal

pub insert_rows-requires : goal.insert_rows-requires
insert_rows-requires c =
    let o = small_ops c.args.f.now in
    let s = c.new-split in
    record {
      rows = c.requires;
      split = split_read o c.know_laws.ensures c.args.w c.args.w s.result.basis.items s.result.places.items
          s.result.zeros.items s.ensures.basis s.ensures.places s.ensures.zeros;
    }
