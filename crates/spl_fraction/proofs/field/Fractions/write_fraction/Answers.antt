use Rattle.spl_field.specs.SmallField.{small_ops, small_laws}
use Rattle.theory_fractions.specs.Fraction.{IsLowestTerms}
use Rattle.theory_fractions.proofs.ElementClauses.{lowest_of_elem}
use Rattle.spl_fraction.proofs.field.Fractions.write_fraction.Goals as goal

pub push_fraction-requires : goal.push_fraction-requires
push_fraction-requires c =
    let h : IsLowestTerms (small_ops c.args.self.now.field) c.args.a.now.0 c.args.a.now.1 =
    lowest_of_elem (small_ops c.args.self.now.field) (small_laws c.args.self.now.field) c.args.a.now c.requires in
    h.denominator_nonzero
