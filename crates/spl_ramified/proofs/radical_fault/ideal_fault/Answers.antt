use Rattle.std.proofs.Common.{sym, subst, ◌∙◌}
use Rattle.theory_tables.specs.Matrix.{IsMatrix}
use Rattle.theory_bases.specs.Bases.{tuples_of}
use Rattle.spl_field.specs.SmallField.{small_ops, small_laws}
use Rattle.spl_fraction.specs.Fractions.{field_of}
use Rattle.spl_residue.specs.Residue.{residue_ops}
use Rattle.spl_ramified.proofs.ImageConditions.{on_image}
use Rattle.spl_ramified.proofs.radical_fault.ideal_fault.Goals as goal

pub image_of-requires : goal.image_of-requires
image_of-requires c = record {
  field = c.in_ok-residue.ensures.residue.field;
  place = c.requires.place;
  bases = (c.args.a.now.dim, c.requires.basis, c.requires.radical_basis, c.requires.inside);
}

pub image_fault-requires-clause-unital : goal.image_fault-requires-clause-unital
image_fault-requires-clause-unital c =
    let z = c.in_ok-residue.ensures in
    record {
      over = z.over;
      associative = z.associative c.requires.associative;
      identity = z.identity c.requires.associative;
    }

pub image_fault-requires-clause-width : goal.image_fault-requires-clause-width
image_fault-requires-clause-width c =
    c.in_ok-image.ensures.width c.args.a.now.dim c.requires.basis ∙ sym c.in_ok-residue.ensures.residue.dim

pub image_fault-requires-clause-conditions : goal.image_fault-requires-clause-conditions
image_fault-requires-clause-conditions c =
    let F = field_of c.args.f.now in
    let o = small_ops F in
    let L = small_laws F in
    let A = c.args.a.now in
    let z = c.in_ok-residue in
    let w = c.in_ok-image in
    let n = A.dim in
    let r = residue_ops z.residue.field in
    let shape : IsMatrix r z.residue.algebra.dim w.image.rows =
    subst (λ n. IsMatrix r n w.image.rows) (w.ensures.width n c.requires.basis ∙ sym z.ensures.residue.dim)
    w.ensures.subspace.shape in
    on_image F A c.requires.over c.requires.associative c.args.place.now c.requires.place
    (tuples_of o L c.args.order.now) c.requires.order (tuples_of o L c.args.radical.now)
    c.requires.radical_basis.independent c.requires.inside c.requires.absorbs c.requires.over_multiple z.residue.field
    z.residue.algebra z.ensures.residue w.image.rows shape (w.ensures.image n c.requires.basis)
