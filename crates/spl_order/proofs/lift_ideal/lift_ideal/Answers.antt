use Rattle.std.proofs.Common.{◌≡◌, subst, sym}
use Rattle.theory_places.specs.FractionPlaces.{IsMonicIrreducible}
use Rattle.theory_bases.specs.Bases.{IsBasis}
use Rattle.spl_field.specs.SmallField.{small_ops, small_laws}
use Rattle.spl_residue.specs.Residue.{field_of as residue_field_of, polynomial_of}
use Rattle.spl_order.specs.Residues.{LiftsIdeal}
use Rattle.spl_order.proofs.lift_ideal.lift_ideal.Goals as goal

pub lifted_basis-requires-clause-field : goal.lifted_basis-requires-clause-field
lifted_basis-requires-clause-field c =
    subst (λ q. small_ops (residue_field_of c.args.residue.now.field) ≡ small_ops q) (sym c.field.ensures)
    c.requires.field

pub lifted_basis-requires-clause-place : goal.lifted_basis-requires-clause-place
lifted_basis-requires-clause-place c =
    subst (λ q. IsMonicIrreducible (small_ops q) (polynomial_of c.args.residue.now.field)) (sym c.field.ensures)
    c.requires.place

pub lifted_basis-requires-clause-basis : goal.lifted_basis-requires-clause-basis
lifted_basis-requires-clause-basis c =
    subst (λ q. IsBasis (small_ops q) (small_laws q) c.args.residue.now.algebra.dim c.args.order.now)
    (sym c.field.ensures) c.requires.basis

pub returns : goal.returns
returns c =
    let R = c.args.residue.now in
    let found = c.in_ok-found.found in
    record {
      basis = subst (λ q. IsBasis (small_ops q) (small_laws q) R.algebra.dim found) c.field.ensures
          c.in_ok-found.ensures.basis;
      preimage = subst (λ q. LiftsIdeal q c.args.order.now R.field R.algebra c.args.ideal.now.rows found)
          c.field.ensures c.in_ok-found.ensures.preimage;
    }
