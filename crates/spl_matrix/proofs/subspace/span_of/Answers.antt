use Rattle.std.proofs.Common.{refl}
use Rattle.theory_tables.proofs.Rows.Spans.{SameSpan_sym}
use Rattle.spl_matrix.proofs.subspace.span_of.Goals as goal

pub returns : goal.returns
returns g c = record {
  basis = c.in_ok-rows.ensures.basis;
  width = refl;
  members = SameSpan_sym (g.F.Field.ops c.args.f.now) (g.met.F.Field.laws c.args.f.now) c.args.w c.args.rows.items
      c.in_ok-rows.rows c.in_ok-rows.ensures.same;
}
