use Rattle.spl_field.specs.SmallField.{small_ops, small_laws}
use Rattle.theory_fractions.proofs.ElementClauses.{lowest_of_elem}
use Rattle.spl_fraction.proofs.field.FractionsField.copy.Goals as goal

pub copy_of-requires : goal.copy_of-requires
copy_of-requires c = lowest_of_elem (small_ops c.args.self.now.field)
    (small_laws c.args.self.now.field) c.args.a.now c.requires
