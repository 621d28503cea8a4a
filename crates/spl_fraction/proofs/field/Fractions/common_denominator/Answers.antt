use Rattle.std.proofs.Common.{get_or}
use Rattle.spl_field.specs.SmallField.{small_ops, small_laws}
use Rattle.theory_fractions.proofs.ElementClauses.{lowest_of_elem}
use Rattle.spl_fraction.proofs.field.Fractions.common_denominator.Goals as goal

pub denominator_of-requires : goal.denominator_of-requires
denominator_of-requires c = λ k d l.
    lowest_of_elem (small_ops c.args.self.now.field) (small_laws c.args.self.now.field) (get_or c.args.list.now k d)
    (c.requires k d l)
