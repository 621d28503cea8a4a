use Rattle.std.proofs.Common.{◌≡◌, ℕ, List, length, sym, ap, subst, ◌∙◌}
use Rattle.spl_field.specs.SmallField.{small_ops, small_laws}
use Rattle.spl_fraction.specs.Fractions.{field_of}
use Rattle.spl_fraction.specs.FractionsOver.{fractions_over}
use Rattle.spl_residue.specs.Residue.{residue_ops}
use Rattle.theory_spaces.specs.Sets.{Within}
use Rattle.theory_tables.specs.Subspace.{SameSpan}
use Rattle.theory_places.specs.Places.{Finite}
use Rattle.theory_places.specs.FractionPlaces.{IsIntegralAt, IsMonicIrreducible}
use Rattle.theory_bases.specs.TupleLattices.{TupleLattice}
use Rattle.theory_bases.specs.Bases.{IsBasis, tuples_of}
use Rattle.spl_order.specs.Images.{AreCoordinateResidues}
use Rattle.spl_order.proofs.ProductEntries.{square_count}
use Rattle.spl_order.proofs.images.image_of.Goals as goal

pub coordinate_residues-requires : goal.coordinate_residues-requires
coordinate_residues-requires c =
    let o = small_ops (field_of c.args.f.now) in
    let L = small_laws (field_of c.args.f.now) in
    let K = fractions_over (field_of c.args.f.now) in
    let k = c.requires.field in
    let b = c.requires.bases in
    let n = b.0 in
    let order = c.args.order.now in
    let inside = c.args.inside.now in
    let count : c.len-n.result ≡ n =
    c.len-n.ensures ∙ ap length c.numerators.ensures ∙ square_count o L n order b.1 in
    let W : List ℕ → ℕ → Type 0 = λ m n. Within
    (TupleLattice K (IsIntegralAt o (Finite m)) n (tuples_of o L inside))
    (TupleLattice K (IsIntegralAt o (Finite m)) n (tuples_of o L order)) in
    record {
      field = k.operations;
      place = subst (IsMonicIrreducible o) (sym k.polynomial) c.requires.place;
      order = subst (λ w. IsBasis o L w order) (sym count) b.1;
      inside = subst (λ w. IsBasis o L w inside) (sym count) b.2;
      within = subst (λ m. W m c.len-n.result) (sym k.polynomial) (subst (W c.args.place.now) (sym count) b.3);
    }

pub span_of-requires : goal.span_of-requires
span_of-requires c = record { shape = let e = c.in_ok-rows.ensures in e.shape }

pub returns : goal.returns
returns c =
    let o = small_ops (field_of c.args.f.now) in
    let L = small_laws (field_of c.args.f.now) in
    let r = residue_ops c.args.k.now in
    let k = c.requires.field in
    let order = c.args.order.now in
    let s = c.in_ok-image in
    record {
      subspace = s.ensures.basis;
      width = λ n h.
          s.ensures.width ∙ c.len-n.ensures ∙ ap length c.numerators.ensures ∙ square_count o L n order h;
      image = λ n h.
          let count : c.len-n.result ≡ n =
          c.len-n.ensures ∙ ap length c.numerators.ensures ∙ square_count o L n order h in
          let A : List ℕ → ℕ → Type 0 = λ m n. AreCoordinateResidues o L m r n (tuples_of o L order)
          (tuples_of o L c.args.inside.now) c.in_ok-rows.rows.items in
          record {
            rows = c.in_ok-rows.rows.items;
            residues = subst (A c.args.place.now) count
                (subst (λ m. A m c.len-n.result) k.polynomial c.in_ok-rows.ensures);
            spans = subst (λ n. SameSpan r n s.image.rows c.in_ok-rows.rows.items) count s.ensures.members;
          };
    }
