use Rattle.std.proofs.Common.{sym, subst}
use Rattle.theory_places.specs.FractionPlaces.{IsMonicIrreducible}
use Rattle.theory_swaps.proofs.FractionSwaps.{x_place}
use Rattle.spl_field.specs.SmallField.{small_ops, small_laws}
use Rattle.spl_fraction.specs.Fractions.{field_of}
use Rattle.spl_local.specs.Growth.{small_tuples, IsState}
use Rattle.spl_local.proofs.StartLattices.{starts_within}
use Rattle.spl_local.proofs.everywhere.settle_at_x.Goals as goal

pub settle-requires-clause-place : goal.settle-requires-clause-place
settle-requires-clause-place c =
    let F = field_of c.args.f.now in
    subst (IsMonicIrreducible (small_ops F)) (sym c.in_ok-x.ensures.value) (x_place (small_ops F) (small_laws F))

pub returns : goal.returns
returns c =
    let F = field_of c.args.f.now in
    let A = c.args.a.now in
    let r = c.in_ok-found.found in
    let g = c.in_ok-found.ensures.order in
    record {
      basis = g.basis;
      order = g.order;
      state = subst (λ m. IsState F A m r.order r.state) c.in_ok-x.ensures.value c.in_ok-found.ensures.state;
      holds = λ tuples t x w. g.within x (starts_within (small_ops F) (small_laws F) A c.args.one.now tuples
          (small_tuples F c.in_ok-start.start) t c.in_ok-start.ensures.start x w);
    }
