use Rattle.std.proofs.Common.{sym, subst}
use Rattle.spl_field.specs.SmallField.{small_ops, small_laws}
use Rattle.theory_fractions.specs.PolynomialLists.{IsOver}
use Rattle.spl_fraction.proofs.Swaps.{reversed-over}
use Rattle.spl_fraction.proofs.swap.reversed_poly.Goals as goal

pub from_list-requires : goal.from_list-requires
from_list-requires c =
    let o = small_ops c.args.f.now in
    subst (IsOver o) (sym c.in_ok-items.ensures)
    (reversed-over o (small_laws c.args.f.now) c.args.n c.args.a.now c.requires)
